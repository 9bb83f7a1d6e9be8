-- A response's lines of rows are those of the objects that are written for rows.
use Rattle.std.proofs.Common.{◌≡◌, refl, sym, ◌∙◌, ap, subst, ℕ, Bool, true, false, cond, List, [], ◌∷◌, ◌++◌, map, Option, Some, None, find, ◌==◌, ◌&&◌, eqb-true}
use Rattle.std.specs.Prelude.{is_some}
use Rattle.std.specs.Option.{option_map, option_and_then}
use Rattle.std.specs.List.{filter, list_all}
use Rattle.std.proofs.lemmas.Bool.{and_parts}
use Rattle.dnp_objects.specs.Objects.{Object, objects, content_of, is_object, writable, shape_written}
use Rattle.dnp_appfragment.specs.declared.table.Form.{Form}
use Rattle.dnp_appfragment.specs.declared.table.Form.TheVariants as form
use Rattle.dnp_appfragment.specs.Table.{Rule, form_eq, span, indexed, listed, listed_for, row_rule, row_rules, rules, is_rule, takes_in, takes_of}

-- an object is written for rows
abbrev is_written : Object → Bool
is_written o = is_some (writable o.content)

-- the lines of an object, kept or not, and of those after it
abbrev lines_from : Bool → Object → List Object → List Rule
lines_from kept o os = map row_rule (cond kept (o ∷ filter is_written os) (filter is_written os))

-- ---- one line

-- a line that is no other object's is passed
passed : (f : Form) (g v : ℕ) (o : Object) (os : List Object) (t : Option (List ℕ)) (kept : Bool) → is_rule f g v (row_rule o) ≡ false
    → takes_in (row_rules os) f g v ≡ t → takes_in (lines_from kept o os) f g v ≡ t
passed f g v o os t true other rest =
    ap (λ (b : Bool). option_map (λ (r : Rule). r.takes) (cond b (Some (row_rule o)) (find (is_rule f g v) (row_rules os)))) other ∙ rest
passed f g v o os t false other rest = rest

-- ---- all lines

other_form : (f : Form) (g v : ℕ) (os : List Object) → form_eq form.Response f ≡ false → takes_in (row_rules os) f g v ≡ None
other_form f g v [] other = refl
other_form f g v (o ∷ os) other =
    passed f g v o os None (is_written o) (ap (λ (b : Bool). b && (o.group == g && o.variation == v)) other) (other_form f g v os other)

written_row : (g v : ℕ) (os : List Object) → is_some (option_and_then writable (option_map (λ (o : Object). o.content) (find (is_object g v) os))) ≡ true
    → takes_in (row_rules os) form.Response g v ≡ Some (span ++ indexed)
written_row g v [] is = cc
written_row g v (o ∷ os) is = here (written_row g v os) (is_object g v o) refl is
  where
    here : (is_some (option_and_then writable (option_map (λ (o : Object). o.content) (find (is_object g v) os))) ≡ true
        → takes_in (row_rules os) form.Response g v ≡ Some (span ++ indexed))
        → (b : Bool) → is_object g v o ≡ b
        → is_some (option_and_then writable (option_map (λ (o : Object). o.content) (cond b (Some o) (find (is_object g v) os)))) ≡ true
        → takes_in (lines_from (is_written o) o os) form.Response g v ≡ Some (span ++ indexed)
    here on true same is =
        ap (λ (kept : Bool). takes_in (lines_from kept o os) form.Response g v) is
        ∙ ap (λ (b : Bool). option_map (λ (r : Rule). r.takes) (cond b (Some (row_rule o)) (find (is_rule form.Response g v) (row_rules os)))) same
    here on false same is = passed form.Response g v o os (Some (span ++ indexed)) (is_written o) same (on is)

-- no object has two lines, of which one is written for rows and an earlier one is not
is_first : Object → Bool
is_first o = cond (is_written o) (is_some (shape_written o.group o.variation)) true

all_first : list_all is_first objects ≡ true
unfolding is_first content_of objects
all_first = refl

no_row : (g v : ℕ) (os : List Object) → list_all is_first os ≡ true → is_some (shape_written g v) ≡ false → takes_in (row_rules os) form.Response g v ≡ None
unfolding is_first
no_row g v [] all none = refl
no_row g v (o ∷ os) all none =
    let both = and_parts (is_first o) (list_all is_first os) all in
    go (is_written o) both.0 (is_object g v o) refl (no_row g v os both.1 none)
  where
    go : (kept : Bool) → cond kept (is_some (shape_written o.group o.variation)) true ≡ true → (b : Bool) → is_object g v o ≡ b
        → takes_in (row_rules os) form.Response g v ≡ None → takes_in (lines_from kept o os) form.Response g v ≡ None
    go kept some false same rest = passed form.Response g v o os None kept same rest
    go false some true same rest = rest
    go true some true same rest =
        let names = and_parts (o.group == g) (o.variation == v) same in
        let is : is_some (shape_written g v) ≡ true =
        subst (λ (p : ℕ × ℕ). is_some (shape_written p.0 p.1) ≡ true) (λ i. (eqb-true o.group g names.0 i, eqb-true o.variation v names.1 i)) some in
        cc

-- ---- after the lines that are listed

listed_first : (f : Form) (g v : ℕ) (xs ys : List Rule) (t : List ℕ) → takes_in xs f g v ≡ Some t → takes_in (xs ++ ys) f g v ≡ Some t
listed_first f g v [] ys t is = cc
listed_first f g v (x ∷ xs) ys t is = here (listed_first f g v xs ys t) (is_rule f g v x) is
  where
    here : (takes_in xs f g v ≡ Some t → takes_in (xs ++ ys) f g v ≡ Some t) → (b : Bool) → option_map (λ (r : Rule). r.takes) (cond b (Some x) (find (is_rule f g v) xs)) ≡ Some t
        → option_map (λ (r : Rule). r.takes) (cond b (Some x) (find (is_rule f g v) (xs ++ ys))) ≡ Some t
    here on true is = is
    here on false is = on is

others_then : (f : Form) (g v : ℕ) (xs ys : List Rule) → takes_in xs f g v ≡ None → takes_in (xs ++ ys) f g v ≡ takes_in ys f g v
others_then f g v [] ys is = refl
others_then f g v (x ∷ xs) ys is = here (others_then f g v xs ys) (is_rule f g v x) is
  where
    here : (takes_in xs f g v ≡ None → takes_in (xs ++ ys) f g v ≡ takes_in ys f g v) → (b : Bool) → option_map (λ (r : Rule). r.takes) (cond b (Some x) (find (is_rule f g v) xs)) ≡ None
        → option_map (λ (r : Rule). r.takes) (cond b (Some x) (find (is_rule f g v) (xs ++ ys))) ≡ takes_in ys f g v
    here on true is = cc
    here on false is = on is

pub takes_listed : (f : Form) (g v : ℕ) (t : List ℕ) → listed_for f g v ≡ Some t → takes_of f g v ≡ Some t
unfolding takes_of listed_for rules
takes_listed f g v t is = listed_first f g v listed (row_rules objects) t is

pub takes_row : (f : Form) (g v : ℕ) → f ≡ form.Response → listed_for f g v ≡ None → is_some (shape_written g v) ≡ true → takes_of f g v ≡ Some (span ++ indexed)
unfolding takes_of listed_for rules content_of
takes_row f g v response is row =
    subst (λ (f : Form). takes_in listed f g v ≡ None → takes_in (listed ++ row_rules objects) f g v ≡ Some (span ++ indexed)) (sym response)
    (λ none. others_then form.Response g v listed (row_rules objects) none ∙ written_row g v objects row) is

pub takes_no_row : (f : Form) (g v : ℕ) → f ≡ form.Response → listed_for f g v ≡ None → is_some (shape_written g v) ≡ false → takes_of f g v ≡ None
unfolding takes_of listed_for rules
takes_no_row f g v response is unwritten =
    subst (λ (f : Form). takes_in listed f g v ≡ None → takes_in (listed ++ row_rules objects) f g v ≡ None) (sym response)
    (λ none. others_then form.Response g v listed (row_rules objects) none ∙ no_row g v objects all_first unwritten) is

not_response : (f : Form) → (f ≡ form.Response → ⊥) → form_eq form.Response f ≡ false
not_response form.Bare other = refl
not_response form.Read other = refl
not_response form.Write other = refl
not_response form.Command other = refl
not_response form.Enable other = refl
not_response form.Response other = absurd (other refl)

pub takes_nothing : (f : Form) (g v : ℕ) → (f ≡ form.Response → ⊥) → listed_for f g v ≡ None → takes_of f g v ≡ None
unfolding takes_of listed_for rules
takes_nothing f g v other is = others_then f g v listed (row_rules objects) is ∙ other_form f g v objects (not_response f other)
