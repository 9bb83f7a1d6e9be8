-- For each centre; the lists stand in memory, so their lengths are numbers.
use Rattle.std.proofs.Common.{◌<◌, ◌^◌, ℕ, List, Vec, length, sym, ap, ◌∙◌, subst, arith}
use Rattle.dnp_objects.specs.declared.row.Row.{Row}
use Rattle.dnp_world.specs.Kept.{rows_below}
use Rattle.dnp_world.proofs.PerCentre.{at_every}
use Rattle.dnp_world.proofs.parts.Parts.dropped_below.Goals as goal

few_items : {T A : Type 0} (v : Vec T A) → length v.items < 2 ^ 64
few_items v = omega (arith, v.ok.0, v.ok.1, v.small)

pub returns-clause-counted : goal.returns-clause-counted
returns-clause-counted g c =
    at_every _ (subst (λ (rows : List (ℕ × Row)). length rows < 2 ^ 64) (sym c.new.ensures) (few_items c.in_ok-first.first))
    (subst (λ (rows : List (ℕ × Row)). length rows < 2 ^ 64) (sym c.new-2.ensures) (few_items c.in_ok-second.second))

pub returns-clause-rows : goal.returns-clause-rows
returns-clause-rows g c =
    let indices = c.self.inside.map in
    rw (← c.self.view_is)
    (at_every _ (c.new.ensures ∙ c.in_ok-first.ensures ∙ ap (λ (rows : List Row). rows_below indices rows) c.as_slice.ensures.value)
    (c.new-2.ensures ∙ c.in_ok-second.ensures ∙ ap (λ (rows : List Row). rows_below indices rows) c.as_slice-2.ensures.value))
