-- Definition: what a builder is once the octets that it lent are given back.
use Rattle.std.specs.Prelude.{◌≡◌}
use Rattle.std.specs.Borrow.{Fml, MutBor}
use Rattle.std.specs.Io.BufRead.{Rests}
use Rattle.dnp_appfragment.specs.Built.{Built}
use Rattle.dnp_appfragment.specs.contracts.builder.Builder.{the_row}

-- it is what it was
abbrev pub StaysAsItWas : MutBor Built → Fml
StaysAsItWas b = Rests the_row b (λ now. now ≡ b.now)
