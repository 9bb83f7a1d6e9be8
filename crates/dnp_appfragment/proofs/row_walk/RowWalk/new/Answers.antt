use Rattle.std.proofs.Common.{◌≡◌, ℕ, subst, sym}
use Rattle.std.specs.Prelude.{slice_get}
use Rattle.dnp_appfragment.specs.declared.row_walk.RowForm.{RowForm}
use Rattle.dnp_appfragment.specs.Meaning.{row_in}
use Rattle.dnp_appfragment.specs.Seen.{head}
use Rattle.dnp_appfragment.specs.steps.Walking.{rows_left}
use Rattle.dnp_appfragment.proofs.RelativeRows.{any_walk_is, no_any_walk_is}
use Rattle.dnp_appfragment.proofs.row_walk.RowWalk.new.Goals as goal
use Rattle.dnp_appfragment.proofs.row_walk.RowWalk.new.Goals.{then-left-eq0, else-left-eq0}

pub returns : goal.returns
returns c =
    let h = head c.args.header.now in
    let left = c.count_of-left.result in
    let counts = c.count_of-left.ensures.value in
    let Gives : RowForm → Type 0 = λ carried. (k : ℕ) → slice_get (rows_left carried h.range h.octets 0 left) k ≡ row_in h k in
    elim c.if-left-eq0.branch [
      | then-left-eq0 w ↦ subst Gives (sym w.carried-is) (no_any_walk_is h left counts w.if-left-eq0.true)
      | else-left-eq0 w ↦ subst Gives (sym w.carried-is) (any_walk_is h w.carried_in-carried.result left w.carried_in-carried.ensures.value counts)
    ]
