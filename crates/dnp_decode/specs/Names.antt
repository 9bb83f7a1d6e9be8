-- Definition: what the faults of fragments are called (IEEE Std 1815-2012, application layer: what a fragment that is read has to hold).
use Rattle.std.specs.Prelude.{ℕ, List, codes}
use Rattle.dnp_appfragment.specs.declared.fault.AppFault.{AppFault}
use Rattle.dnp_appfragment.specs.declared.fault.AppFault.TheVariants as fault

abbrev pub fault_name : AppFault → List ℕ
fault_name fault.Short = codes "Short"
fault_name fault.FunctionUnknown = codes "FunctionUnknown"
fault_name fault.HeaderCut = codes "HeaderCut"
fault_name fault.QualifierUnknown = codes "QualifierUnknown"
fault_name fault.ObjectUnknown = codes "ObjectUnknown"
fault_name fault.RangeBackward = codes "RangeBackward"
fault_name fault.ObjectsCut = codes "ObjectsCut"
fault_name fault.CommonTime = codes "CommonTime"
