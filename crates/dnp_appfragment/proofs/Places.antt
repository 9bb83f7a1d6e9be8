-- Headers where they stand: any header but of times given after a common one stands anywhere.
use Rattle.std.proofs.Common.{◌≡◌, refl, sym, ◌∙◌, ap, subst, ℕ, Bool, true, false, IsTrue, cond, List, [], ◌∷◌, ◌++◌, Option, None, Some, ◌==◌, ◌&&◌, ◌||◌, eqb-true}
use Rattle.std.specs.Prelude.{fold}
use Rattle.std.specs.Option.{IsSomeAnd}
use Rattle.std.proofs.lemmas.Bool.{and_parts}
use Rattle.std.proofs.lemmas.List.Sums.{fold-append}
use Rattle.dnp_objects.specs.Commands.{object_of}
use Rattle.dnp_objects.specs.Objects.{objects}
use Rattle.dnp_objects.specs.declared.command.Command.{Command}
use Rattle.dnp_objects.specs.declared.command.Command.TheVariants.{Block, Set16, Set32}
use Rattle.dnp_appfragment.specs.declared.table.Form.{Form}
use Rattle.dnp_appfragment.specs.declared.table.Form.TheVariants as form
use Rattle.dnp_appfragment.specs.Table.{rules, takes_of, allows, count, indexed, IsInTable}
use Rattle.dnp_appfragment.specs.Headers.{Head, Context, IsHeader, IsHeaderAt, is_relative, common_of, context_after, context_past}
use Rattle.dnp_appfragment.specs.Written.{is_point_object}
use Rattle.dnp_appfragment.proofs.PointObjects.{point_in_table}

pub any_place : (f : Form) (context : Context) (h : Head) → IsHeader f h → h.common ≡ None → is_relative h.group h.variation ≡ false
    → IsHeaderAt f context h
any_place f context h is none whole = record {
  header = is;
  common = none ∙ sym (ap (λ (b : Bool). cond b context None) whole);
  timed = λ relative. absurd (apart (is_relative h.group h.variation) whole relative);
}
  where
    apart : (b : Bool) → b ≡ false → b ≡ true → ⊥
    apart b p q = cc

-- after one more
pub past_more : (context : Context) (hs : List Head) (h : Head) → context_past context (hs ++ h ∷ []) ≡ context_after (context_past context hs) h
past_more context hs h = fold-append context_after context hs (h ∷ [])

-- ---- objects that are no such ones

relative_takes : takes_of form.Response 2 3 ≡ Some indexed
unfolding takes_of rules objects
relative_takes = refl

pub span_whole : (g v : ℕ) → IsInTable form.Response g v 0x01 → is_relative g v ≡ false
span_whole g v is = go (is_relative g v) refl
  where
    not_spanned : IsSomeAnd (Some indexed) (λ t. IsTrue (allows t 0x01)) → ⊥
    not_spanned is = cc

    go : (b : Bool) → is_relative g v ≡ b → is_relative g v ≡ false
    go false whole = whole
    go true relative =
        let names = and_parts (g == 2) (v == 3) relative in
        let takes : takes_of form.Response g v ≡ Some indexed =
        (λ i. takes_of form.Response (eqb-true g 2 names.0 i) (eqb-true v 3 names.1 i)) ∙ relative_takes in
        absurd (not_spanned (subst (λ (o : Option (List ℕ)). IsSomeAnd o (λ t. IsTrue (allows t 0x01))) takes is))

pub point_whole : (g v : ℕ) → IsTrue (is_point_object g v) → is_relative g v ≡ false
point_whole g v is = span_whole g v (point_in_table g v is)

command_is_whole : (c : Command) → is_relative (object_of c).0 (object_of c).1 ≡ false
command_is_whole (Block index code times on off) = refl
command_is_whole (Set16 index value) = refl
command_is_whole (Set32 index value) = refl

pub command_whole : (c : Command) (object : ℕ × ℕ) → object ≡ object_of c → is_relative object.0 object.1 ≡ false
command_whole c object same = ap (λ (o : ℕ × ℕ). is_relative o.0 o.1) same ∙ command_is_whole c

-- and no common times

common_takes : (v : ℕ) → IsTrue ((v == 1) || (v == 2)) → takes_of form.Response 51 v ≡ Some count
unfolding takes_of rules objects
common_takes v is = go (v == 1) refl
  where
    go : (b : Bool) → (v == 1) ≡ b → takes_of form.Response 51 v ≡ Some count
    go true one = ap (takes_of form.Response 51) (eqb-true v 1 one)
    go false one = ap (takes_of form.Response 51) (eqb-true v 2 (sym (ap (λ (b : Bool). b || (v == 2)) one) ∙ is))

pub span_other : (g v : ℕ) → IsInTable form.Response g v 0x01 → ((g == 51) && ((v == 1) || (v == 2))) ≡ false
span_other g v is = go ((g == 51) && ((v == 1) || (v == 2))) refl
  where
    not_spanned : IsSomeAnd (Some count) (λ t. IsTrue (allows t 0x01)) → ⊥
    not_spanned is = cc

    go : (b : Bool) → ((g == 51) && ((v == 1) || (v == 2))) ≡ b → ((g == 51) && ((v == 1) || (v == 2))) ≡ false
    go false other = other
    go true common =
        let names = and_parts (g == 51) ((v == 1) || (v == 2)) common in
        let takes : takes_of form.Response g v ≡ Some count = ap (λ (n : ℕ). takes_of form.Response n v) (eqb-true g 51 names.0) ∙ common_takes v names.1 in
        absurd (not_spanned (subst (λ (o : Option (List ℕ)). IsSomeAnd o (λ t. IsTrue (allows t 0x01))) takes is))

pub point_other : (g v : ℕ) → IsTrue (is_point_object g v) → ((g == 51) && ((v == 1) || (v == 2))) ≡ false
point_other g v is = span_other g v (point_in_table g v is)

command_is_other : (c : Command) → (((object_of c).0 == 51) && (((object_of c).1 == 1) || ((object_of c).1 == 2))) ≡ false
command_is_other (Block index code times on off) = refl
command_is_other (Set16 index value) = refl
command_is_other (Set32 index value) = refl

pub command_other : (c : Command) (object : ℕ × ℕ) → object ≡ object_of c → ((object.0 == 51) && ((object.1 == 1) || (object.1 == 2))) ≡ false
command_other c object same = ap (λ (o : ℕ × ℕ). (o.0 == 51) && ((o.1 == 1) || (o.1 == 2))) same ∙ command_is_other c
