-- Definition: what is reported under a number.
use Rattle.std.specs.Prelude.{ℕ, ◌-◌, ◌/◌, ◌%◌, ◌==◌, if◌then◌else◌}
use Rattle.dnp_loop.specs.declared.token.TheConstants.{LOG_TOKEN}
use Rattle.dnp_loop.specs.declared.token.Source.{Source}
use Rattle.dnp_loop.specs.declared.token.Source.TheVariants.{Door, Log, Place}

-- of doors the odd numbers, of places the even ones after that of the log
abbrev pub source_of : ℕ → Source
source_of token =
    if (token % 2 == 1) then Door (token / 2)
    else (if (token == LOG_TOKEN) then Log else Place (token / 2 - 1))
