-- Definition: what the standard calls the functions of fragments (IEEE Std 1815-2012, application layer: function codes).
use Rattle.std.specs.Prelude.{ℕ, List, codes}
use Rattle.dnp_appfragment.specs.declared.function.Function.{Function}
use Rattle.dnp_appfragment.specs.declared.function.Function.TheVariants as function

abbrev pub function_name : Function → List ℕ
function_name function.Confirm = codes "CONFIRM"
function_name function.Read = codes "READ"
function_name function.Write = codes "WRITE"
function_name function.Select = codes "SELECT"
function_name function.Operate = codes "OPERATE"
function_name function.DirectOperate = codes "DIRECT_OPERATE"
function_name function.DirectOperateNr = codes "DIRECT_OPERATE_NR"
function_name function.EnableUnsolicited = codes "ENABLE_UNSOLICITED"
function_name function.DisableUnsolicited = codes "DISABLE_UNSOLICITED"
function_name function.DelayMeasure = codes "DELAY_MEASURE"
function_name function.Response = codes "RESPONSE"
function_name function.UnsolicitedResponse = codes "UNSOLICITED_RESPONSE"
