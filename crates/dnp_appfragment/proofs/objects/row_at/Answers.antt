use Rattle.std.proofs.Common.{◌≡◌, ◌∙◌, sym}
use Rattle.dnp_appfragment.specs.Headers.{head_of}
use Rattle.dnp_appfragment.proofs.HeaderObjects.{bit_only, sized_only}
use Rattle.dnp_appfragment.proofs.There.{bits_of, rows_of}
use Rattle.dnp_appfragment.proofs.ObjectValues.{bit_said, object_row_said}
use Rattle.dnp_appfragment.proofs.objects.row_at.Goals as goal
use Rattle.dnp_appfragment.proofs.objects.row_at.Goals.{Joined-else-group-eq1, else-group-eq1-via-then-group-eq1+else-variation-eq1, else-group-eq1-via-else-group-eq1}

-- ---- packed bits

pub returns-then-variation-eq1-clause-value : goal.returns-then-variation-eq1-clause-value
returns-then-variation-eq1-clause-value c =
    let a = c.args in
    c.bit_at.ensures.value ∙ sym (bit_said a.group a.variation a.range a.octets.now a.k c.if-group-eq1.true c.if-variation-eq1.true)

pub returns-then-variation-eq1-clause-only : goal.returns-then-variation-eq1-clause-only
returns-then-variation-eq1-clause-only c = λ row is.
    let a = c.args in
    c.bit_at.ensures.only row
    (bit_only a.group a.variation a.range a.octets.now a.k row c.if-group-eq1.true c.if-variation-eq1.true is)

pub returns-then-variation-eq1-clause-there : goal.returns-then-variation-eq1-clause-there
returns-then-variation-eq1-clause-there c = λ has here.
    let a = c.args in
    let bits = bits_of a.group a.variation a.range a.octets.now a.k c.if-group-eq1.true c.if-variation-eq1.true has here in
    c.bit_at.ensures.there bits.0 here bits.1

-- ---- any other object

is_other : (c : Joined-else-group-eq1) → c.args.group ≡ 1 → c.args.variation ≡ 1 → ⊥
is_other c = λ group variation.
    elim c.else-group-eq1.branch [
      | else-group-eq1-via-then-group-eq1+else-variation-eq1 w ↦ w.if-variation-eq1.false variation
      | else-group-eq1-via-else-group-eq1 w ↦ w.if-group-eq1.false group
    ]

pub returns-else-group-eq1-clause-value : goal.returns-else-group-eq1-clause-value
returns-else-group-eq1-clause-value c =
    let a = c.args in
    let other = is_other (goal.at.returns-else-group-eq1-clause-value c).Joined-else-group-eq1 in
    c.object_row_at.ensures.value ∙ sym (object_row_said (head_of a.group a.variation a.range a.octets.now) a.k other)

pub returns-else-group-eq1-clause-only : goal.returns-else-group-eq1-clause-only
returns-else-group-eq1-clause-only c = λ row is.
    let a = c.args in
    let other = is_other (goal.at.returns-else-group-eq1-clause-only c).Joined-else-group-eq1 in
    c.object_row_at.ensures.only row (sized_only a.group a.variation a.range a.octets.now a.k row other is)

pub returns-else-group-eq1-clause-there : goal.returns-else-group-eq1-clause-there
returns-else-group-eq1-clause-there c = λ has here.
    let a = c.args in
    let other = is_other (goal.at.returns-else-group-eq1-clause-there c).Joined-else-group-eq1 in
    let rows = rows_of a.group a.variation a.range a.octets.now a.k other has here in
    c.object_row_at.ensures.there rows.0 rows.1
