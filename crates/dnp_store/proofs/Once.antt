-- A database holds one content: its rows stand in no order, and are told by their ids, which rise.
use Rattle.std.proofs.Common.{◌≡◌, ◌⊎◌, ℕ, zero, suc, ◌+◌, ◌<◌, ◌==◌, pos, Bool, true, false, cond, List, [], ◌∷◌, map, length, codes, refl, sym, ap, ap₂, ◌∙◌}
use Rattle.std.proofs.Common.{arith, inl, inr, IsPermutation}
use Rattle.std.specs.Prelude.{AllPairs, filter, slice_index_or}
use Rattle.std.specs.List.{AllByRecursion}
use Rattle.std.proofs.lemmas.List.Elements.{recursion_from_All}
use Rattle.sqlite.specs.declared.types.Value.TheVariants.{Int}
use Rattle.sqlite.specs.Order.{Row as SqlRow, column}
use Rattle.sqlite.specs.Tree.{Trees, IsAscending}
use Rattle.sqlite_keyed.proofs.ListLemmas.{ascending-map}
use Rattle.dnp_objects.specs.declared.command.Command.{Command}
use Rattle.dnp_objects.specs.declared.command.Command.TheVariants.{Block, Set16, Set32}
use Rattle.dnp_objects.specs.declared.limits.TheConstants.{LANES}
use Rattle.dnp_controls.specs.declared.book.Entry.{Entry}
use Rattle.dnp_controls.specs.declared.book.State.{State}
use Rattle.dnp_controls.specs.declared.book.State.TheVariants.{Pending, Spent, Finished}
use Rattle.dnp_controls.specs.Book.{Ledger, IsSoundLedger as IsSoundBook}
use Rattle.dnp_eventbuf.specs.Archive.{Archive}
use Rattle.dnp_eventbuf.specs.Sound.{IsSoundBuffer}
use Rattle.dnp_eventbuf.specs.declared.numbered.Numbered.{Numbered}
use Rattle.dnp_eventbuf.specs.EventBuffer.{LaneState, EventBuffer, lane_at, no_lane}
use Rattle.dnp_store.specs.Tables.{IsCounted, counts_of}
use Rattle.dnp_store.specs.declared.queue_side.QueueSide.{QueueSide}
use Rattle.dnp_store.specs.declared.queue_side.QueueSide.TheVariants.{First, Second}
use Rattle.dnp_store.specs.QueueKept.{AreSound}
use Rattle.dnp_store.specs.PairTables.{HoldsPair, HoldsSide, Sides, lanes_tree, rows_name, rows_tree}
use Rattle.dnp_store.specs.BookTables.{HoldsBook, entry_row}
use Rattle.dnp_store.specs.JournalTables.{HoldsArchive, archive_in, event_in, natural, whole}
use Rattle.dnp_store.specs.QueueTables.{Queued, Figures, HoldsLanes, HoldsBuffer, queued_row, event_of, figures_rows, figures_cells, in_lane, no_figures, is_raised}
use Rattle.dnp_store.proofs.JournalHolding.{archive_is, told}
use Rattle.dnp_store.proofs.Rising.{Rise, once}

-- rows of a table rise by their ids, which stand first
abbrev id_in : SqlRow → ℕ
id_in r = natural (column r 0)

-- what holds of the one or of the other
pub of_two : {P Q R S : Type 0} → (P → R) → (Q → S) → P ⊎ Q → R ⊎ S
of_two f g (inl p) = inl (f p)
of_two f g (inr q) = inr (g q)

-- ---- the count of ids

one_count : (name : List ℕ) (rows : List SqlRow) (m n : ℕ) → IsCounted name rows m → IsCounted name rows n → m ≡ n
one_count name rows m n (inl one) (inl other) = one.1 ∙ sym other.1
one_count name rows m n (inl one) (inr other) = absurd (grind (arith, one.0, other.1))
one_count name rows m n (inr one) (inl other) = absurd (grind (arith, one.1, other.0))
one_count name rows m n (inr one) (inr other) = grind (arith, one.1, other.1)

-- ---- a journal

pub one_archive : (db : Trees) (one other : Archive) → HoldsArchive db one → HoldsArchive db other → one ≡ other
one_archive db one other holds held =
    sym (archive_is db one holds)
    ∙ ap (archive_in db) (one_count (codes "journal") (db 2) one.last_id other.last_id holds.counted held.counted)
    ∙ archive_is db other held

-- ---- a book

command_in : ℕ → SqlRow → Command
command_in zero r = Block (natural (column r 4)) (natural (column r 5)) (natural (column r 6)) (natural (column r 7)) (natural (column r 8))
command_in (suc zero) r = Set16 (natural (column r 4)) (whole (column r 9))
command_in (suc (suc kind)) r = Set32 (natural (column r 4)) (whole (column r 9))

state_in : ℕ → ℕ → State
state_in zero status = Pending
state_in (suc zero) status = Spent
state_in (suc (suc number)) status = Finished status

entry_in : SqlRow → Entry
entry_in r = record {
  id = id_in r;
  target = natural (column r 2);
  command = command_in (natural (column r 3)) r;
  state = state_in (natural (column r 10)) (natural (column r 11));
}

entry_is : (e : Entry) → entry_in (entry_row e) ≡ e
unfolding entry_in command_in state_in
entry_is e = go e.command e.state
  where
    go : (c : Command) (s : State) → entry_in (entry_row (record e { command = c; state = s })) ≡ record e { command = c; state = s }
    go (Block i c n on off) Pending = refl
    go (Block i c n on off) Spent = refl
    go (Block i c n on off) (Finished status) = refl
    go (Set16 i v) Pending = refl
    go (Set16 i v) Spent = refl
    go (Set16 i v) (Finished status) = refl
    go (Set32 i v) Pending = refl
    go (Set32 i v) Spent = refl
    go (Set32 i v) (Finished status) = refl

entries_are : (es : List Entry) → map entry_in (map entry_row es) ≡ es
entries_are [] = refl
entries_are (e ∷ es) = ap₂ (λ (x : Entry) xs. x ∷ xs) (entry_is e) (entries_are es)

pub ascending : (es : List Entry) → AllPairs (λ (x y : Entry). x.id < y.id) es → IsAscending (λ (x y : Entry). x.id < y.id) es
ascending [] h = tt
ascending (e ∷ es) h = (
  recursion_from_All (λ (f : Entry). e.id < f.id) es (λ j d within. h 0 (suc j) d (omega arith) (omega arith)),
  ascending es (λ i j d less within. h (suc i) (suc j) d (omega arith) (omega arith)),
)

rows_rise : (b : Ledger) → IsSoundBook b → Rise id_in (map entry_row b.entries)
rows_rise b sound = ascending-map (λ (x y : SqlRow). id_in x < id_in y) entry_row b.entries (ascending b.entries sound.rising)

pub one_ledger : (db : Trees) (one other : Ledger) → IsSoundBook one → IsSoundBook other → HoldsBook db one → HoldsBook db other → one ≡ other
one_ledger db one other sound sounds holds held =
    let rows : map entry_row one.entries ≡ map entry_row other.entries =
    once id_in (db 1) (map entry_row one.entries) (map entry_row other.entries) holds.entries held.entries (rows_rise one sound) (rows_rise other sounds) in
    ap₂ (λ (es : List Entry) (n : ℕ). record { entries = es; last_id = n })
    (sym (entries_are one.entries) ∙ ap (map entry_in) rows ∙ entries_are other.entries)
    (one_count (codes "control") (db 2) one.last_id other.last_id holds.counted held.counted)

-- ---- a queue: its rows, lane by lane

lane_in : ℕ → List SqlRow → List SqlRow
lane_in number rows = filter (λ r. natural (column r 2) == number) rows

lane_told : (number : ℕ) (xs : List Queued) → map event_in (lane_in number (map queued_row xs)) ≡ in_lane number xs
unfolding lane_in
lane_told number [] = refl
lane_told number (x ∷ xs) = go (x.lane == number) (lane_told number xs)
  where
    go : (here : Bool) → map event_in (lane_in number (map queued_row xs)) ≡ in_lane number xs
        → map event_in (cond here (queued_row x ∷ lane_in number (map queued_row xs)) (lane_in number (map queued_row xs)))
        ≡ map event_of (cond here (x ∷ filter (λ y. y.lane == number) xs) (filter (λ y. y.lane == number) xs))
    go true rest = ap₂ (λ e es. e ∷ es) (ap (λ es. slice_index_or es 0 (event_of x)) (told (x ∷ []))) rest
    go false rest = rest

queued_rise : (xs : List Queued) → IsAscending (λ (x y : Queued). x.id < y.id) xs → Rise id_in (map queued_row xs)
queued_rise xs rise = ascending-map (λ (x y : SqlRow). id_in x < id_in y) queued_row xs rise

-- ---- and its lanes' figures

raised_in : ℕ → Bool
raised_in zero = false
raised_in (suc n) = true

figures_in : SqlRow → Figures
figures_in r = record { capacity = natural (column r 2); lost = natural (column r 3); raised = raised_in (natural (column r 4)) }

figures_is : (number : ℕ) (f : Figures) → figures_in (Int (pos number) ∷ figures_cells f) ≡ f
unfolding figures_in raised_in
figures_is number f = go f.raised
  where
    go : (up : Bool) → figures_in (Int (pos number) ∷ figures_cells (record f { raised = up })) ≡ record f { raised = up }
    go true = refl
    go false = refl

figures_are : (number : ℕ) (fs : List Figures) → map figures_in (figures_rows number fs) ≡ fs
figures_are number [] = refl
figures_are number (f ∷ fs) = ap₂ (λ (x : Figures) xs. x ∷ xs) (figures_is number f) (figures_are (number + 1) fs)

over : (number next : ℕ) (fs : List Figures) → number < next → AllByRecursion (λ (r : SqlRow). number < id_in r) (figures_rows next fs)
over number next [] less = tt
over number next (f ∷ fs) less = (less, over number (next + 1) fs (omega (arith, less)))

figures_rise : (number : ℕ) (fs : List Figures) → Rise id_in (figures_rows number fs)
figures_rise number [] = tt
figures_rise number (f ∷ fs) = (over number (number + 1) fs (omega arith), figures_rise (number + 1) fs)

-- figures are told by their rows
pub one_figures : (numbers : List SqlRow) (fs gs : List Figures) → IsPermutation (figures_rows 0 fs) numbers → IsPermutation (figures_rows 0 gs) numbers → fs ≡ gs
one_figures numbers fs gs one other =
    sym (figures_are 0 fs)
    ∙ ap (map figures_in) (once id_in numbers (figures_rows 0 fs) (figures_rows 0 gs) one other (figures_rise 0 fs) (figures_rise 0 gs))
    ∙ figures_are 0 gs

-- ---- all of it

abbrev lane_with : List Numbered → Figures → LaneState
lane_with rows f = record { capacity = f.capacity; rows = rows; lost = f.lost }

same_lanes : (xs ys : List LaneState) (d : LaneState) → length xs ≡ length ys
    → ((k : ℕ) → k < length xs → slice_index_or xs k d ≡ slice_index_or ys k d) → xs ≡ ys
same_lanes [] [] d long h = refl
same_lanes [] (y ∷ ys) d long h = absurd (omega (arith, long))
same_lanes (x ∷ xs) [] d long h = absurd (omega (arith, long))
same_lanes (x ∷ xs) (y ∷ ys) d long h =
    ap₂ (λ (l : LaneState) ls. l ∷ ls) (h 0 (omega arith)) (same_lanes xs ys d (omega (arith, long)) (λ k low. h (suc k) (omega (arith, low))))

pub one_lanes : (name : List ℕ) (events counts numbers : List SqlRow) (one other : EventBuffer) (fs gs : List Figures) → IsSoundBuffer one → IsSoundBuffer other
    → HoldsLanes name events counts numbers one fs → HoldsLanes name events counts numbers other gs → one.overflow ≡ is_raised fs
    → other.overflow ≡ is_raised gs → one ≡ other
one_lanes name events counts numbers one other fs gs sound sounds a b overflow overflows =
    let rows : map queued_row a.queued ≡ map queued_row b.queued =
    once id_in events (map queued_row a.queued) (map queued_row b.queued) a.queue_is b.queue_is (queued_rise a.queued a.rise) (queued_rise b.queued b.rise) in
    let figures : fs ≡ gs = one_figures numbers fs gs a.lanes_is b.lanes_is in
    let lane : (number : ℕ) → in_lane number a.queued ≡ in_lane number b.queued =
    λ number. sym (lane_told number a.queued) ∙ ap (λ rs. map event_in (lane_in number rs)) rows ∙ lane_told number b.queued in
    let lanes : (number : ℕ) → number < LANES → lane_at one number ≡ lane_at other number =
    λ number low. a.lanes number low
    ∙ ap₂ (λ (es : List Numbered) (xs : List Figures). lane_with es (slice_index_or xs number no_figures)) (lane number) figures
    ∙ sym (b.lanes number low) in
    make one other
    (same_lanes one.lanes other.lanes no_lane (sound.nine ∙ sym sounds.nine) (λ k low. lanes k (let nine = sound.nine in omega (arith, low, nine))))
    (overflow ∙ ap is_raised figures ∙ sym overflows)
    (one_count name counts one.last_id other.last_id a.counted b.counted)
  where
    make : (s t : EventBuffer) → s.lanes ≡ t.lanes → s.overflow ≡ t.overflow → s.last_id ≡ t.last_id → s ≡ t
    make s t lanes overflow last =
        ap₂ (λ (p : List LaneState × Bool) (n : ℕ). record { lanes = p.0; overflow = p.1; last_id = n }) (ap₂ (λ ls up. (ls, up)) lanes overflow) last

pub one_buffer : (db : Trees) (one other : EventBuffer) → IsSoundBuffer one → IsSoundBuffer other → HoldsBuffer db one → HoldsBuffer db other → one ≡ other
one_buffer db one other sound sounds a b =
    one_lanes (codes "queue") (db 1) (db 2) (db 3) one other a.figures b.figures sound sounds a.lanes b.lanes a.overflow b.overflow

-- ---- a queue for two centres

one_side : (side : QueueSide) (db : Trees) (one other : EventBuffer) → IsSoundBuffer one → IsSoundBuffer other → HoldsSide side db one
    → HoldsSide side db other → one ≡ other
one_side side db one other sound sounds a b =
    one_lanes (rows_name side) (db (rows_tree side)) (counts_of (rows_name side) (db 2)) (db (lanes_tree side)) one other a.figures b.figures sound sounds
    a.lanes b.lanes a.overflow b.overflow

pub one_pair : (db : Trees) (one other : Sides) → AreSound one → AreSound other → HoldsPair db one → HoldsPair db other → one ≡ other
one_pair db one other sound sounds a b =
    ap₂ (λ (s t : EventBuffer). record { first = s; second = t }) (one_side First db one.first other.first sound.0 sounds.0 a.first b.first)
    (one_side Second db one.second other.second sound.1 sounds.1 a.second b.second)
