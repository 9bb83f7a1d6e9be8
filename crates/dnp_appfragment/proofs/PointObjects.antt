-- The objects that present values go as: each stands in the table for responses, has octets, and but for the outputs' is read as a row.
use Rattle.std.proofs.Common.{◌≡◌, Bool, true, false, IsTrue, cond, ◌&&◌, ◌||◌, ◌==◌, ◌≢◌, if◌then◌else◌, nat_le, ℕ, ◌≤◌, List, [], ◌∷◌, Option, None, Some, refl, sym, ap, subst, eqb-true}
use Rattle.std.specs.List.{list_any, list_all}
use Rattle.std.specs.Option.{option_map_or, option_and_then, IsSomeAnd}
use Rattle.std.proofs.lemmas.Bool.{and_parts, leb-true}
use Rattle.dnp_objects.specs.declared.row.Row.{Row}
use Rattle.dnp_objects.specs.declared.table.Shape.{Shape}
use Rattle.dnp_objects.specs.declared.table.Content.{Content}
use Rattle.dnp_objects.specs.declared.table.Content.TheVariants as content
use Rattle.dnp_objects.specs.Objects.{objects, content_of, object_size, shape_read, readable, writable}
use Rattle.dnp_objects.specs.Rows.{Fits, Reads, IsReading, written, row_fits, row_octets}
use Rattle.dnp_appfragment.specs.declared.table.Form.TheVariants as form
use Rattle.dnp_appfragment.specs.Table.{rules, takes_of, allows, IsInTable}
use Rattle.dnp_appfragment.specs.Written.{point_objects, is_point_object}

-- ---- by tests, which each of them passes

abbrev takes_span : ℕ → ℕ → Bool
takes_span g v = option_map_or (λ takes. allows takes 0x01) (takes_of form.Response g v) false

abbrev has_octets : ℕ → ℕ → Bool
has_octets g v = option_map_or (λ n. nat_le 1 n) (object_size g v) false

abbrev has_no_time : Option Shape → Bool
has_no_time shape = option_map_or (λ s. if s.time then false else true) shape false

abbrev passes : ℕ → ℕ → Bool
passes g v = takes_span g v && (has_octets g v && ((10 == g) || has_no_time (shape_read g v)))

all_pass : list_all (λ o. passes o.0 o.1) point_objects ≡ true
unfolding takes_of rules objects content_of
all_pass = refl

one_passes : (g v : ℕ) (os : List (ℕ × ℕ)) → list_all (λ o. passes o.0 o.1) os ≡ true → list_any (λ o. (o.0 == g) && (o.1 == v)) os ≡ true
    → passes g v ≡ true
one_passes g v [] all is = cc
one_passes g v (o ∷ os) all is = by (o.0 == g) (o.1 == v) refl refl (one_passes g v os first.1) is
  where
    first : (passes o.0 o.1 ≡ true) × (list_all (λ o. passes o.0 o.1) os ≡ true)
    first = and_parts (passes o.0 o.1) (list_all (λ o. passes o.0 o.1) os) all

    by : (a b : Bool) → (o.0 == g) ≡ a → (o.1 == v) ≡ b → (list_any (λ o. (o.0 == g) && (o.1 == v)) os ≡ true → passes g v ≡ true)
        → (a && b) || list_any (λ o. (o.0 == g) && (o.1 == v)) os ≡ true → passes g v ≡ true
    by true true group variation rest is =
        subst (λ (p : ℕ × ℕ). passes p.0 p.1 ≡ true) (λ i. (eqb-true o.0 g group i, eqb-true o.1 v variation i)) first.0
    by true false group variation rest is = rest is
    by false b group variation rest is = rest is

passed : (g v : ℕ) → IsTrue (is_point_object g v)
    → (takes_span g v ≡ true) × (has_octets g v ≡ true) × ((10 == g) || has_no_time (shape_read g v) ≡ true)
passed g v is =
    let all = and_parts (takes_span g v) _ (one_passes g v point_objects all_pass is) in
    let others = and_parts (has_octets g v) _ all.1 in
    (all.0, others.0, others.1)

-- ---- the table, and the size

pub point_in_table : (g v : ℕ) → IsTrue (is_point_object g v) → IsInTable form.Response g v 0x01
point_in_table g v is = there (takes_of form.Response g v) (passed g v is).0
  where
    there : (takes : Option (List ℕ)) → option_map_or (λ takes. allows takes 0x01) takes false ≡ true → IsSomeAnd takes (λ takes. IsTrue (allows takes 0x01))
    there None is = cc
    there (Some takes) is = is

pub point_has_octets : (g v : ℕ) → IsTrue (is_point_object g v) → IsSomeAnd (object_size g v) (λ size. 1 ≤ size)
point_has_octets g v is = some (object_size g v) (passed g v is).1
  where
    some : (size : Option ℕ) → option_map_or (λ n. nat_le 1 n) size false ≡ true → IsSomeAnd size (λ size. 1 ≤ size)
    some None is = cc
    some (Some n) is = leb-true 1 n is

-- ---- what is written is read

abbrev pub untimed : Row → Row
untimed row = record row { time = None }

abbrev ReadsAs : Row → Shape → Type 0
ReadsAs row s = row_fits s row ≡ true → IsReading s row.index (row_octets s row) (untimed row)

without_time : (row : Row) (s : Shape) → ReadsAs row (record s { time = false })
without_time row s fits = record { index_is = refl; carried_is = refl; row_is = record { fits = fits; spelled = refl } }

reads_as : (row : Row) (s : Shape) → s.time ≡ false → ReadsAs row s
reads_as row s none = subst (λ (t : Bool). ReadsAs row (record s { time = t })) (sym none) (without_time row s)

pub point_reads : (g v : ℕ) (row : Row) → IsTrue (is_point_object g v) → g ≢ 10 → Fits g v row → Reads g v row.index (written g v row) (untimed row)
point_reads g v row is other fits = go (content_of g v) (by (10 == g) refl (passed g v is).2) fits
  where
    by : (b : Bool) → (10 == g) ≡ b → b || has_no_time (shape_read g v) ≡ true → has_no_time (shape_read g v) ≡ true
    by true same is = absurd (other (sym (eqb-true 10 g same)))
    by false same is = is

    time_is : (t : Bool) → (if t then false else true) ≡ true → t ≡ false
    time_is true is = sym is
    time_is false is = refl

    go : (c : Option Content) → has_no_time (option_and_then readable c) ≡ true
        → IsSomeAnd (option_and_then writable c) (λ shape. IsTrue (row_fits shape row))
        → IsSomeAnd (option_and_then readable c)
        (λ shape. IsReading shape row.index (option_map_or (λ shape. row_octets shape row) (option_and_then writable c) []) (untimed row))
    go None is fits = cc
    go (Some (content.Row s)) is fits = reads_as row s (time_is s.time is) fits
    go (Some (content.WrittenRow s)) is fits = cc
    go (Some content.Block) is fits = cc
    go (Some (content.Setpoint w)) is fits = cc
    go (Some (content.Other n)) is fits = cc
