-- The commands in the concentrator's book can be sent, where those in the centre's can and links of the law stand behind the system.
use Rattle.std.proofs.Common.{◌≡◌, ℕ, ◌<◌, ◌≤◌, Bool, true, false, cond, if◌then◌else◌, List, [], ◌∷◌, ◌++◌, Option, Some, None, refl, sym, ap, subst, arith}
use Rattle.std.specs.Prelude.{nat_eq, ◌-◌}
use Rattle.std.specs.Option.{option_map}
use Rattle.std.specs.List.{All, count_by}
use Rattle.std.proofs.lemmas.Option.{none-some, same_Some}
use Rattle.std.proofs.lemmas.List.Elements.{All-append, All-nil, All-cons, All-head, All-tail, All-map}
use Rattle.dnp_objects.specs.Commands.{index_of}
use Rattle.dnp_objects.specs.Counts.{IsCoveredBy, IsEqualityTest}
use Rattle.dnp_objects.specs.Equality.{command_eq, pair_eq}
use Rattle.dnp_objects.specs.declared.command.Command.{Command}
use Rattle.dnp_objects.specs.declared.command.Command.TheVariants.{Block, Set16, Set32}
use Rattle.dnp_controls.specs.declared.book.Entry.{Entry}
use Rattle.dnp_concentrator.specs.IndexKinds.{kind_of_command}
use Rattle.dnp_concentrator.specs.IndexMap.{index_below, is_in, one_on, span_of}
use Rattle.dnp_concentrator.specs.Mapped.{command_below, with_index}
use Rattle.dnp_concentrator.specs.declared.index_kind.IndexKind.{IndexKind}
use Rattle.dnp_concentrator.specs.declared.span.Spans.{Spans}
use Rattle.dnp_world.specs.Behind.{Elsewhere}
use Rattle.dnp_world.specs.CommandWidths.{HasWidths}
use Rattle.dnp_world.specs.Kept.{command_of, commands_below, commands_in, is_used, order_of, orders_in}
use Rattle.dnp_world.specs.LawLink.{LawLink}
use Rattle.dnp_world.specs.Standing.{CarriesLaw}
use Rattle.dnp_world.specs.SystemStanding.{IsStanding}
use Rattle.dnp_world.specs.Systems.{System}
use Rattle.dnp_world.proofs.Counting.{one_if, count_by-cons}
use Rattle.dnp_world.proofs.SystemCounts.{given, given_first, picked}

-- what laws promise of equality, and of the commands of a link
pub record CommandLaws : Type 0 where
  pub commands : IsEqualityTest command_eq
  pub orders : IsEqualityTest (pair_eq nat_eq command_eq)
  pub performed : (l : LawLink) → CarriesLaw l → IsCoveredBy l.performed l.asked

-- ---- what holds of all of a list holds of all that it covers

-- one that passes the test is there
passing : {A : Type 0} (P : A → Type 0) (test : A → Bool) (ys : List A) → All P ys → 0 < count_by test ys → (y : A) × P y × (test y ≡ true)
passing P test [] all some = absurd (omega (arith, some))
passing {A} P test (y ∷ ys) all some = by (test y) refl (λ rest. passing P test ys (All-tail P y ys all) rest)
  where
    by : (b : Bool) → test y ≡ b → (0 < count_by test ys → (y : A) × P y × (test y ≡ true)) → (y : A) × P y × (test y ≡ true)
    by true passes later = (y, All-head P y ys all, passes)
    by false fails later =
        let none : one_if test y ≡ 0 = ap {B = ℕ} (λ b. cond b 1 0) fails in
        later (omega (arith, some, none, count_by-cons test y ys))

all_counted : {A : Type 0} (equal : A → A → Bool) → IsEqualityTest equal → (P : A → Type 0) (xs ys : List A)
    → ((test : A → Bool) → count_by test xs ≤ count_by test ys) → All P ys → All P xs
all_counted equal decides P [] ys few all = All-nil P
all_counted {A} equal decides P (x ∷ xs) ys few all =
    All-cons P x xs here (all_counted equal decides P xs ys (λ test. omega (arith, few test, count_by-cons test x xs)) all)
  where
    here : P x
    here =
        let itself : equal x x ≡ true = (decides.decides x x).1 refl in
        let one : one_if (equal x) x ≡ 1 = ap {B = ℕ} (λ b. cond b 1 0) itself in
        let (y, holds, same) = passing P (equal x) ys all (omega (arith, few (equal x), one, count_by-cons (equal x) x xs)) in
        subst P (sym ((decides.decides x y).0 same)) holds

-- ---- as commands go down

-- an index is no greater below
index_falls : (spans : List Spans) (kind : IndexKind) (index : ℕ) (p : ℕ × ℕ) → index_below spans kind index ≡ Some p → p.1 ≤ index
index_falls [] kind index p is = absurd (none-some p is)
index_falls (x ∷ xs) kind index p is =
    by (is_in (span_of x kind) index) is (λ same. later (index_below xs kind index) (index_falls xs kind index) same)
  where
    later : (o : Option (ℕ × ℕ)) → ((q : ℕ × ℕ) → o ≡ Some q → q.1 ≤ index) → option_map one_on o ≡ Some p → p.1 ≤ index
    later None falls same = absurd (none-some p same)
    later (Some q) falls same = subst (λ (x : ℕ × ℕ). x.1 ≤ index) (same_Some (one_on q) p same) (falls q refl)

    by : (b : Bool) → (if b then Some (0, index - (span_of x kind).base) else option_map one_on (index_below xs kind index)) ≡ Some p
        → (option_map one_on (index_below xs kind index) ≡ Some p → p.1 ≤ index) → p.1 ≤ index
    by true same rest = subst (λ (x : ℕ × ℕ). x.1 ≤ index) (same_Some (0, index - (span_of x kind).base) p same) (omega arith)
    by false same rest = rest same

with_index_fits : (command : Command) (index : ℕ) → HasWidths command → index ≤ index_of command → HasWidths (with_index command index)
with_index_fits (Block index code count on off) new (wide, codes, counts, ons, offs) low = (omega (arith, wide, low), codes, counts, ons, offs)
with_index_fits (Set16 index value) new (wide, rest) low = (omega (arith, wide, low), rest)
with_index_fits (Set32 index value) new (wide, rest) low = (omega (arith, wide, low), rest)

-- an order's command can be sent
abbrev FitsOrder : ℕ × Command → Type 0
FitsOrder order = HasWidths order.1

pub below_fits : (spans : List Spans) (command : Command) (order : ℕ × Command) → HasWidths command → command_below spans command ≡ Some order
    → FitsOrder order
below_fits spans command order h is = by (index_below spans (kind_of_command command) (index_of command)) refl is
  where
    by : (o : Option (ℕ × ℕ)) → index_below spans (kind_of_command command) (index_of command) ≡ o
        → option_map (λ p. (p.0, with_index command p.1)) o ≡ Some order → FitsOrder order
    by None found same = absurd (none-some order same)
    by (Some p) found same =
        subst FitsOrder (same_Some (p.0, with_index command p.1) order same)
        (with_index_fits command p.1 h (index_falls spans (kind_of_command command) (index_of command) p found))

all_below : (spans : List Spans) (commands : List Command) → All HasWidths commands → All FitsOrder (commands_below spans commands)
all_below spans [] all = All-nil FitsOrder
all_below spans (command ∷ commands) all =
    subst (All FitsOrder) (sym (given_first (command_below spans) command commands))
    (by (command_below spans command) refl (all_below spans commands (All-tail HasWidths command commands all)))
  where
    by : (o : Option (ℕ × Command)) → command_below spans command ≡ o → All FitsOrder (commands_below spans commands)
        → All FitsOrder (given o (commands_below spans commands))
    by None is rest = rest
    by (Some order) is rest =
        All-cons FitsOrder order (commands_below spans commands) (below_fits spans command order (All-head HasWidths command commands all) is) rest

-- ---- the books

-- an entry's command can be sent
abbrev pub FitsEntry : Entry → Type 0
FitsEntry entry = HasWidths entry.command

of_orders : (entries : List Entry) → All FitsOrder (orders_in entries) → All FitsEntry entries
of_orders [] all = All-nil FitsEntry
of_orders (e ∷ entries) all =
    All-cons FitsEntry e entries (All-head FitsOrder (order_of e) (orders_in entries) all)
    (of_orders entries (All-tail FitsOrder (order_of e) (orders_in entries) all))

-- what the link above performed can be sent
pub performed_fit : CommandLaws → (s : System) {el : Elsewhere} (h : IsStanding el s) → All FitsEntry s.centre.orders.entries
    → All HasWidths h.links.above.performed
performed_fit laws s h all =
    let l : LawLink = h.links.above in
    let orders : List Entry = s.centre.orders.entries in
    let asked : All HasWidths l.asked =
    all_counted command_eq laws.commands HasWidths l.asked (commands_in orders)
    (λ test. omega (arith, h.behind.asked_above.at_most test, (picked is_used command_of orders).at_most test))
    (All-map HasWidths command_of orders all) in
    all_counted command_eq laws.commands HasWidths l.performed l.asked (laws.performed l h.behind.above_stands).at_most asked

pub controls_fit : CommandLaws → (s : System) {el : Elsewhere} → IsStanding el s → All FitsEntry s.centre.orders.entries
    → All FitsEntry s.concentrator.controls.entries
controls_fit laws s {el = el} h all =
    let l : LawLink = h.links.above in
    let controls : List Entry = s.concentrator.controls.entries in
    let performed : All HasWidths l.performed = performed_fit laws s h all in
    of_orders controls
    (all_counted (pair_eq nat_eq command_eq) laws.orders FitsOrder (orders_in controls)
    (commands_below s.indices l.performed ++ commands_below s.indices el.performed) (λ test. omega (arith, h.behind.relayed.same test))
    (All-append FitsOrder (commands_below s.indices l.performed) (commands_below s.indices el.performed) (all_below s.indices l.performed performed)
    (all_below s.indices el.performed h.behind.theirs.widths)))
