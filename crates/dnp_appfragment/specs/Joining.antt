-- Definition: how an object joins the header before it (IEEE Std 1815-2012, application layer: object headers).
-- An object that is put is a header of its own until it joins another.
use Rattle.std.specs.Prelude.{◌+◌, ◌^◌, true, nat_lt, ◌&&◌, ◌==◌, if◌then◌else◌, ◌++◌, Option, Some, None}
use Rattle.std.specs.Option.{option_map}
use Rattle.dnp_appfragment.specs.declared.header.Range.{Range}
use Rattle.dnp_appfragment.specs.declared.header.Range.TheVariants as range
use Rattle.dnp_appfragment.specs.Headers.{Head}

-- the range of the objects of both: counts with wide indexes are added, as far as a count goes; of
-- two wide spans the second has to begin after the end of the first
abbrev pub joined_range : Range → Range → Option Range
joined_range (range.Indexed true n) (range.Indexed true more) =
    if nat_lt (n + more) (2 ^ 16) then Some (range.Indexed true (n + more)) else None
joined_range (range.Span true first last) (range.Span true next end) =
    if last + 1 == next then Some (range.Span true first end) else None
joined_range _ _ = None

-- two headers as one, where they are of the same object and their ranges join
abbrev pub joined : Head → Head → Option Head
joined a b =
    if (a.group == b.group) && (a.variation == b.variation)
    then option_map (λ r. record a { range = r; octets = a.octets ++ b.octets }) (joined_range a.range b.range)
    else None
