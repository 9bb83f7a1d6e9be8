-- Definition: the two centres by their numbers.
use Rattle.std.specs.Prelude.{ℕ}
use Rattle.dnp_daemons.specs.declared.script.which.WhichCentre.{WhichCentre}
use Rattle.dnp_daemons.specs.declared.script.which.WhichCentre.TheVariants.{First, Second}

abbrev pub number_of : WhichCentre → ℕ
number_of First = 0
number_of Second = 1
