-- Definition: what the texts of a plan and a script are judged to be, before anything runs.
use Rattle.std.specs.Prelude.{◌≡◌, ℕ, List, [], ◌∷◌, ◌++◌, codes, length, map, Option, Some}
use Rattle.std.specs.Fmt.{decimal}
use Rattle.std.specs.List.{concat}
use Rattle.dnp_concentrator.specs.declared.plan.Plan.{Plan}
use Rattle.dnp_plantext.specs.declared.plan_text.PlanTextFault.{PlanTextFault}
use Rattle.dnp_plantext.specs.declared.plan_text.PlanTextFault.TheVariants.{Syntax, Field, Range, Class, TooWide, Overlap, Memory}
use Rattle.dnp_daemons.specs.declared.script.ScriptLine.{ScriptLine}
use Rattle.dnp_plantext.specs.PlanText.{IsPlanOf, IsRefusedFor}
use Rattle.dnp_daemons.specs.ScriptLines.{LineReader, first_unread}
use Rattle.dnp_daemons.specs.Words.{lines_of}

-- a text is refused, by this number
abbrev pub refused_line : List ℕ → ℕ → List ℕ
refused_line name number = concat (codes "refused " ∷ name ∷ codes " " ∷ decimal number ∷ (10 ∷ []) ∷ [])

-- the number by which a plan is refused, and that of running out of memory
abbrev pub fault_number : PlanTextFault → ℕ
fault_number Syntax = 1
fault_number Field = 2
fault_number Range = 3
fault_number Class = 4
fault_number TooWide = 5
fault_number Overlap = 6
fault_number Memory = 7

-- the text of the plan is none, by a fault of this number
pub record HasNoPlan (plan : List ℕ) (number : ℕ) : Type 0 where
  pub fault : PlanTextFault
  pub refused : IsRefusedFor plan fault
  pub told : fault ≡ Memory → ⊥
  pub number_is : number ≡ fault_number fault

-- the text says a plan, and this line of the script is the first that doesn't fit
pub record HasNoScript (reads : LineReader) (plan script : List ℕ) (line : ℕ) : Type 0 where
  pub of : Plan
  pub said : IsPlanOf plan of
  pub misfit : first_unread (reads (length of.substations)) (lines_of script) ≡ Some line

-- the texts say this plan, and this script for it
pub record AreGood (reads : LineReader) (plan script : List ℕ) (of : Plan) (lines : List ScriptLine) : Type 0 where
  pub said : IsPlanOf plan of
  pub read : map (reads (length of.substations)) (lines_of script) ≡ map Some lines

-- one of the texts is refused, and this is printed
pub data IsRefusal (reads : LineReader) (plan script text : List ℕ) : Type 0 where
  NoPlan : (number : ℕ) → HasNoPlan plan number → text ≡ refused_line (codes "plan") number → IsRefusal reads plan script text
  NoScript : (line : ℕ) → HasNoScript reads plan script line → text ≡ refused_line (codes "line") line → IsRefusal reads plan script text
