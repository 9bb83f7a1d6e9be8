use Rattle.std.proofs.Common.{rules, refl, length, sym, ◌∙◌, ap, ◌+◌, ◌-◌, List, ◌∷◌}
use Rattle.dnp_objects.specs.Objects.{shape_size}
use Rattle.dnp_objects.specs.Parts.{row_of}
use Rattle.dnp_objects.specs.declared.row.Row.{Row}
use Rattle.dnp_appfragment.specs.steps.Walking.{Cut, row_after, rows_left}
use Rattle.dnp_appfragment.proofs.WalkSteps.{none_left, carries_rows, carries_relative, row_given, no_row_given, bit_given, no_bit_given}
use Rattle.dnp_appfragment.proofs.row_walk.RowWalkIterator.next.Goals as goal
use Rattle.dnp_appfragment.proofs.row_walk.RowWalkIterator.next.Goals.{in-Rows+in_ok-index-in-Rows, in-Relative+in_ok-index-in-Relative, in-Bits+in_ok-row-in-Bits}

pub returns-then-self-eq0-clause-steps : goal.returns-then-self-eq0-clause-steps
returns-then-self-eq0-clause-steps c =
    let s = c.self.inside in
    let none = sym c.self.view_is ∙ none_left s.carried s.range s.octets.now s.k s.left c.if-self-eq0.true in
    (none, none)

pub returns-in_err-index-in-Rows-clause-steps : goal.returns-in_err-index-in-Rows-clause-steps
returns-in_err-index-in-Rows-clause-steps c =
    let s = c.self.inside in
    let none =
    no_row_given c.args.self.now s.carried (row_of c.in-Rows.shape) (shape_size c.in-Rows.shape) s.range s.octets.now s.k s.left c.size.result c.self.view_is
    (carries_rows s.carried c.in-Rows.shape c.in-Rows.is) c.if-self-eq0.false
    c.size.ensures (c.in_err-index-in-Rows.ensures).value in
    rw c.from_residual.ensures (none, none)

pub returns-in_err-index-in-Relative-clause-steps : goal.returns-in_err-index-in-Relative-clause-steps
returns-in_err-index-in-Relative-clause-steps c =
    let s = c.self.inside in
    let none =
    no_row_given c.args.self.now s.carried (row_after c.in-Relative.common) 3 s.range s.octets.now s.k s.left 3 c.self.view_is
    (carries_relative s.carried c.in-Relative.common c.in-Relative.is) c.if-self-eq0.false refl (c.in_err-index-in-Relative.ensures).value in
    rw c.from_residual-in_err-index-in-Relative.ensures (none, none)

pub returns-in_err-row-in-Bits-clause-steps : goal.returns-in_err-row-in-Bits-clause-steps
returns-in_err-row-in-Bits-clause-steps c =
    let s = c.self.inside in
    let none =
    no_bit_given c.args.self.now s.carried s.range s.octets.now s.k s.left c.self.view_is c.in-Bits.is c.if-self-eq0.false
    (c.in_err-row-in-Bits.ensures).value in
    rw c.from_residual-in_err-row-in-Bits.ensures (none, none)

pub returns-clause-steps : goal.returns-clause-steps
returns-clause-steps c =
    let s = c.self.inside in
    elim c.match-self.branch [
      | in-Rows+in_ok-index-in-Rows w ↦
          let cut : Cut = record { index = w.in_ok-index-in-Rows.index; octets = w.in_ok-index-in-Rows.octets.now; rest = w.in_ok-index-in-Rows.rest.now } in
          let first =
          row_given c.args.self.now s.carried (row_of w.in-Rows.shape) (shape_size w.in-Rows.shape) s.range s.octets.now s.k s.left w.size.result cut
          w.row-row.result c.self.view_is (carries_rows s.carried w.in-Rows.shape w.in-Rows.is) c.if-self-eq0.false w.size.ensures
          (w.in_ok-index-in-Rows.ensures).value w.row-row.ensures.value in
          first
          ∙ (λ i. let t = sym w.self-inside-is i in sym w.row-is i ∷ rows_left t.carried t.range t.octets.now (t.k + 1) (t.left - 1))
      | in-Relative+in_ok-index-in-Relative w ↦
          let cut : Cut =
          record { index = w.in_ok-index-in-Relative.index; octets = w.in_ok-index-in-Relative.octets.now; rest = w.in_ok-index-in-Relative.rest.now } in
          let first =
          row_given c.args.self.now s.carried (row_after w.in-Relative.common) 3 s.range s.octets.now s.k s.left 3 cut
          w.binary_after-row.result c.self.view_is (carries_relative s.carried w.in-Relative.common w.in-Relative.is) c.if-self-eq0.false refl
          (w.in_ok-index-in-Relative.ensures).value w.binary_after-row.ensures in
          first
          ∙ (λ i. let t = sym w.self-inside-is i in sym w.row-is i ∷ rows_left t.carried t.range t.octets.now (t.k + 1) (t.left - 1))
      | in-Bits+in_ok-row-in-Bits w ↦
          let first =
          bit_given c.args.self.now s.carried s.range s.octets.now s.k s.left w.in_ok-row-in-Bits.row c.self.view_is w.in-Bits.is c.if-self-eq0.false
          (w.in_ok-row-in-Bits.ensures).value in
          first
          ∙ (λ i. let t = sym w.self-inside-is i in sym w.row-is i ∷ rows_left t.carried t.range t.octets.now (t.k + 1) (t.left - 1))
    ]

pub returns-clause-goes : goal.returns-clause-goes
returns-clause-goes c = let fewer = ap (λ (rows : List Row). length rows) (returns-clause-steps c) in search rules
