-- Definition: what is seen of the values of the code: those of references without the place where they lie.
use Rattle.std.specs.Prelude.{◌≡◌, ℕ, List, Result, Ok, Err}
use Rattle.std.specs.Borrow.{Bor}
use Rattle.dnp_appfragment.specs.declared.fault.AppFault.{AppFault}
use Rattle.dnp_appfragment.specs.declared.header.Header.{Header}
use Rattle.dnp_appfragment.specs.declared.header.Range.{Range}
use Rattle.dnp_appfragment.specs.Headers.{Head}

-- what a function returned, seen by `view`, is this
abbrev pub Gives : {X Y : Type 0} → (X → Y) → Result X AppFault → Result Y AppFault → Type 0
Gives view (Ok x) wanted = wanted ≡ Ok (view x)
Gives view (Err e) wanted = wanted ≡ Err e

-- a header as its fields and its octets
abbrev pub head : Header → Head
head h = record { group = h.group; variation = h.variation; range = h.range; octets = h.octets.now; common = h.common }

abbrev pub number_and_rest : ℕ × Bor (List ℕ) → ℕ × List ℕ
number_and_rest x = (x.0, x.1.now)

abbrev pub range_and_rest : Range × Bor (List ℕ) → Range × List ℕ
range_and_rest x = (x.0, x.1.now)

abbrev pub head_and_rest : Header × Bor (List ℕ) → Head × List ℕ
head_and_rest x = (head x.0, x.1.now)
