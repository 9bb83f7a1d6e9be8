-- Rows and commands that are put are headers of their function, each with one object.
use Rattle.std.proofs.Common.{◌≡◌, Bool, true, false, IsTrue, refl, sym, ◌∙◌, ap, ap₂, subst, ℕ, ◌+◌, ◌-◌, ◌*◌, ◌^◌, ◌<◌, ◌==◌, ◌||◌, List, [], ◌∷◌, length, arith, Option, Some, None, IsSome, ◌⊎◌, inl, inr}
use Rattle.dnp_objects.specs.Objects.{objects, content_of, object_size}
use Rattle.dnp_objects.specs.Rows.{written}
use Rattle.dnp_objects.specs.Commands.{object_of, index_of, command_octets}
use Rattle.dnp_objects.specs.declared.command.Command.{Command}
use Rattle.dnp_objects.specs.declared.command.Command.TheVariants as command
use Rattle.dnp_objects.specs.declared.row.Kind.{Kind}
use Rattle.dnp_objects.specs.declared.row.Kind.TheVariants.{Binary, Counter, Analog}
use Rattle.dnp_objects.specs.declared.row.Row.{Row}
use Rattle.dnp_appfragment.specs.declared.function.Function.{Function}
use Rattle.dnp_appfragment.specs.declared.header.Range.TheVariants as range
use Rattle.dnp_appfragment.specs.declared.table.Form.{Form}
use Rattle.dnp_appfragment.specs.declared.table.Form.TheVariants as form
use Rattle.dnp_appfragment.specs.Table.{form_eq, form_of, is_response, rules, takes_of, IsInTable}
use Rattle.dnp_appfragment.specs.Headers.{Head, octets_of, objects_size, IsHeader, Divide}
use Rattle.dnp_appfragment.specs.Fragments.{looked_at}
use Rattle.dnp_appfragment.specs.Built.{carries_commands}
use Rattle.dnp_objects.specs.Rows.{Fits}
use Rattle.dnp_objects.specs.Events.{IsEvent, event_object}
use Rattle.dnp_appfragment.specs.Written.{indexed, spanned, FitsPoint, is_point_object}
use Rattle.dnp_appfragment.proofs.PointObjects.{point_in_table}

-- ---- forms

form_is : (f : Form) → form_eq f form.Response ≡ true → f ≡ form.Response
form_is form.Response is = refl
form_is form.Bare is = cc
form_is form.Read is = cc
form_is form.Write is = cc
form_is form.Command is = cc
form_is form.Enable is = cc

pub response_form : (f : Function) → IsTrue (is_response f) → form_of f ≡ form.Response
response_form f is = form_is (form_of f) is

command_form : (f : Form) → form_eq f form.Command || form_eq f form.Response ≡ true → (f ≡ form.Command) ⊎ (f ≡ form.Response)
command_form form.Command is = inl refl
command_form form.Response is = inr refl
command_form form.Bare is = cc
command_form form.Read is = cc
command_form form.Write is = cc
command_form form.Enable is = cc

-- a fragment without headers has none
none_bare : (g v q : ℕ) → IsInTable form.Bare g v q → ⊥
unfolding takes_of rules objects
none_bare g v q is = is

bare_divides : (octets : List ℕ) (hs : List Head) → Divide form.Bare octets hs → Divide form.Bare [] hs
bare_divides octets [] divide = record { each = tt; whole = refl }
bare_divides octets (h ∷ hs) divide = absurd (none_bare h.group h.variation _ divide.each.0.header.object)

pub looked_at_divides : (f : Form) (octets : List ℕ) (hs : List Head) → Divide f octets hs → Divide f (looked_at f octets) hs
looked_at_divides form.Bare octets hs divide = bare_divides octets hs divide
looked_at_divides form.Read octets hs divide = divide
looked_at_divides form.Write octets hs divide = divide
looked_at_divides form.Command octets hs divide = divide
looked_at_divides form.Enable octets hs divide = divide
looked_at_divides form.Response octets hs divide = divide

-- ---- the octets of one object

pub record IsSized (g v : ℕ) (octets : List ℕ) : Type 0 where
  pub size : ℕ
  pub size_is : object_size g v ≡ Some size
  pub length_is : length octets ≡ size

-- by the law that a row fills the object that it is written as
abbrev pub RowsFill : Type 0
RowsFill = (g v : ℕ) (row : Row) → Fits g v row → object_size g v ≡ Some (length (written g v row))

pub row_sized : RowsFill → (g v : ℕ) (row : Row) → Fits g v row → IsSized g v (written g v row)
row_sized law g v row fits = record { size = length (written g v row); size_is = law g v row fits; length_is = refl }

pub command_sized : (c : Command) (status : ℕ) → IsSized (object_of c).0 (object_of c).1 (command_octets c status)
unfolding content_of objects
command_sized (command.Block index code count on off) status = record { size = 11; size_is = refl; length_is = refl }
command_sized (command.Set16 index value) status = record { size = 3; size_is = refl; length_is = refl }
command_sized (command.Set32 index value) status = record { size = 5; size_is = refl; length_is = refl }

pub has_size : (g v : ℕ) (octets : List ℕ) → IsSized g v octets → IsSome (object_size g v)
has_size g v octets sized = subst (λ (o : Option ℕ). IsSome o) (sym sized.size_is) refl

-- ---- the headers

indexed_header : (f : Form) (g v i : ℕ) (octets : List ℕ) → IsInTable f g v 0x28
    → objects_size f g v (range.Indexed true 1) ≡ octets_of 1 2 (object_size g v) → IsSized g v octets → IsHeader f (indexed g v i octets)
indexed_header f g v i octets object all sized =
    let size : octets_of 1 2 (object_size g v) ≡ 1 * (2 + sized.size) = ap (λ (o : Option ℕ). octets_of 1 2 o) sized.size_is in
    record { object = object; fits = omega arith; forward = tt; objects = omega (arith, all, size, sized.length_is) }

spanned_header : (g v i : ℕ) (octets : List ℕ) → IsInTable form.Response g v 0x01 → i < 2 ^ 16 → IsSized g v octets
    → IsHeader form.Response (spanned g v i octets)
spanned_header g v i octets object fits sized =
    let size : octets_of (i + 1 - i) 0 (object_size g v) ≡ (i + 1 - i) * (0 + sized.size) = ap (λ (o : Option ℕ). octets_of (i + 1 - i) 0 o) sized.size_is in
    let one : i + 1 - i ≡ 1 = omega arith in
    let product : (i + 1 - i) * (0 + sized.size) ≡ 1 * (0 + sized.size) = ap (λ (n : ℕ). n * (0 + sized.size)) one in
    record { object = object; fits = (fits, fits); forward = omega arith; objects = omega (arith, size, product, sized.length_is) }

event_in_table : (k : Kind) (time : Option ℕ) → IsInTable form.Response (event_object k time).0 (event_object k time).1 0x28
unfolding takes_of rules objects
event_in_table Binary (Some time) = refl
event_in_table Binary None = refl
event_in_table Counter (Some time) = refl
event_in_table Counter None = refl
event_in_table Analog (Some time) = refl
event_in_table Analog None = refl

pub event_header : (f : Function) (k : Kind) (time : Option ℕ) (i : ℕ) (octets : List ℕ) → IsTrue (is_response f)
    → IsSized (event_object k time).0 (event_object k time).1 octets
    → IsHeader (form_of f) (indexed (event_object k time).0 (event_object k time).1 i octets)
event_header f k time i octets response sized =
    subst (λ (x : Form). IsHeader x (indexed (event_object k time).0 (event_object k time).1 i octets)) (sym (response_form f response))
    (indexed_header form.Response _ _ i octets (event_in_table k time) refl sized)

pub point_header : (f : Function) (g v i : ℕ) (octets : List ℕ) → IsTrue (is_response f) → IsTrue (is_point_object g v) → i < 2 ^ 16
    → IsSized g v octets → IsHeader (form_of f) (spanned g v i octets)
point_header f g v i octets response object fits sized =
    subst (λ (x : Form). IsHeader x (spanned g v i octets)) (sym (response_form f response))
    (spanned_header g v i octets (point_in_table g v object) fits sized)

command_in_table : (c : Command) → IsInTable form.Command (object_of c).0 (object_of c).1 0x28 × IsInTable form.Response (object_of c).0 (object_of c).1 0x28
unfolding takes_of rules objects
command_in_table (command.Block index code count on off) = (refl, refl)
command_in_table (command.Set16 index value) = (refl, refl)
command_in_table (command.Set32 index value) = (refl, refl)

pub command_header : (f : Function) (c : Command) (octets : List ℕ) → IsTrue (carries_commands f)
    → IsSized (object_of c).0 (object_of c).1 octets
    → IsHeader (form_of f) (indexed (object_of c).0 (object_of c).1 (index_of c) octets)
command_header f c octets carries sized = go (command_form (form_of f) carries)
  where
    go : (form_of f ≡ form.Command) ⊎ (form_of f ≡ form.Response) → IsHeader (form_of f) (indexed (object_of c).0 (object_of c).1 (index_of c) octets)
    go (inl is) =
        subst (λ (x : Form). IsHeader x (indexed (object_of c).0 (object_of c).1 (index_of c) octets)) (sym is)
        (indexed_header form.Command _ _ (index_of c) octets (command_in_table c).0 refl sized)
    go (inr is) =
        subst (λ (x : Form). IsHeader x (indexed (object_of c).0 (object_of c).1 (index_of c) octets)) (sym is)
        (indexed_header form.Response _ _ (index_of c) octets (command_in_table c).1 refl sized)

-- ---- the same of what a call has found: the object, and its octets as they are shown

pub event_put : RowsFill → (f : Function) (row : Row) (kind : Kind) (time : Option ℕ) → row.kind ≡ kind → row.time ≡ time
    → IsTrue (is_response f) → IsEvent row
    → IsHeader (form_of f) (indexed (event_object kind time).0 (event_object kind time).1 row.index
    (written (event_object kind time).0 (event_object kind time).1 row))
event_put law f row kind time of_kind at_time response fits =
    let same : event_object row.kind row.time ≡ event_object kind time = ap₂ event_object of_kind at_time in
    subst (λ (o : ℕ × ℕ). IsHeader (form_of f) (indexed o.0 o.1 row.index (written o.0 o.1 row))) same
    (event_header f row.kind row.time row.index _ response
    (row_sized law (event_object row.kind row.time).0 (event_object row.kind row.time).1 row fits))

pub point_put : RowsFill → (f : Function) (g v : ℕ) (row : Row) → IsTrue (is_response f) → FitsPoint g v row → row.index < 2 ^ 16
    → IsHeader (form_of f) (spanned g v row.index (written g v row))
point_put law f g v row response fits index =
    point_header f g v row.index (written g v row) response fits.object_is index (row_sized law g v row fits.row_fits)

pub command_put : (f : Function) (c : Command) (status : ℕ) (object : ℕ × ℕ) (index : ℕ) (items shown : List ℕ) → object ≡ object_of c → index ≡ index_of c
    → items ≡ command_octets c status → shown ≡ items → IsTrue (carries_commands f)
    → IsHeader (form_of f) (indexed object.0 object.1 index shown) × IsSome (object_size object.0 object.1)
command_put f c status object index items shown same its own seen carries =
    let o = object_of c in
    let sized : IsSized o.0 o.1 shown = subst (λ (t : List ℕ). IsSized o.0 o.1 t) (sym (seen ∙ own)) (command_sized c status) in (
      subst (λ (p : (ℕ × ℕ) × ℕ). IsHeader (form_of f) (indexed p.0.0 p.0.1 p.1 shown)) (λ i. (sym same i, sym its i))
          (command_header f c shown carries sized),
      subst (λ (p : ℕ × ℕ). IsSome (object_size p.0 p.1)) (sym same) (has_size o.0 o.1 shown sized),
    )
