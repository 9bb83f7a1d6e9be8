use Rattle.std.proofs.Common.{◌≡◌, ◌∙◌, ap, sym, nat_lt, filter, false, List, [], ◌∷◌, ℕ, length, refl, arith}
use Rattle.std.specs.List.{list_any}
use Rattle.dnp_eventbuf.specs.declared.numbered.Numbered.{Numbered}
use Rattle.dnp_eventbuf.specs.EventBuffer.{LaneState, above, emptied}
use Rattle.dnp_eventbuf.proofs.Over.{filter-none}
use Rattle.dnp_eventbuf.proofs.lane_of.LaneOf.cut.Goals as goal

pub returns-else-has_over : goal.returns-else-has_over
returns-else-has_over g c =
    let none : list_any (λ x. nat_lt c.args.upto x.id) c.args.self.now.rows ≡ false = sym c.has_over.ensures ∙ c.if-has_over.false in
    let gone : filter (λ x. nat_lt c.args.upto x.id) c.args.self.now.rows ≡ [] =
    filter-none (λ (x : Numbered). nat_lt c.args.upto x.id) c.args.self.now.rows none in
    c.clear.ensures ∙ ap emptied c.self.view_is ∙ ap (λ (rows : List Numbered). let l : LaneState = record c.args.self.now { rows = rows } in l) (sym gone)

none_left : (rows : List Numbered) (upto : ℕ) → length rows ≡ 0 → rows ≡ filter (λ x. nat_lt upto x.id) rows
none_left [] upto none = refl
none_left (x ∷ rows) upto none = absurd (omega (arith, none))

pub returns-then-len-eq0 : goal.returns-then-len-eq0
returns-then-len-eq0 g c =
    let none : length c.args.self.now.rows ≡ 0 = sym c.len.ensures ∙ c.if-len-eq0.true in
    let same : c.args.self.now ≡ above c.args.upto c.args.self.now =
    ap (λ (rows : List Numbered). let l : LaneState = record c.args.self.now { rows = rows } in l) (none_left c.args.self.now.rows c.args.upto none) in
    same
