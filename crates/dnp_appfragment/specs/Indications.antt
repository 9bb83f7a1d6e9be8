-- Definition: the internal indications of a response (IEEE Std 1815-2012, application layer): bits of two
-- octets.
use Rattle.std.specs.Prelude.{◌≡◌, ◌-◌, bit_and, bit_or}
use Rattle.dnp_appfragment.specs.declared.iin.Iin.{Iin}

-- the indications that are in one of the two, or in both
abbrev pub both : Iin → Iin → Iin
both a b = record { one = bit_or a.one b.one; two = bit_or a.two b.two }

-- those of the first that are not in the second
abbrev pub except : Iin → Iin → Iin
except a b = record { one = a.one - bit_and a.one b.one; two = a.two - bit_and a.two b.two }

-- each indication of the second is one of the first
abbrev pub HasAll : Iin → Iin → Type 0
HasAll a b = (bit_and a.one b.one ≡ b.one) × (bit_and a.two b.two ≡ b.two)
