-- An event on the link to a substation, at which its master takes no rows, keeps what stands behind the system.
use Rattle.std.proofs.Common.{◌≡◌, ◌≢◌, ℕ, List, [], ◌∷◌, ◌++◌, length, drop, map, Option, Some, refl, sym, ap, ◌∙◌, subst, append-nil, arith}
use Rattle.std.specs.Prelude.{slice_get, slice_set, IfSome, ⊤}
use Rattle.std.specs.List.Sorted.{IsPermutation}
use Rattle.std.proofs.Math.Seq.{drop-append_seam}
use Rattle.std.proofs.lemmas.List.{map-append}
use Rattle.std.proofs.lemmas.List.Sorted.{IsPermutation-refl}
use Rattle.dnp_objects.specs.Counts.{IsCoveredBy}
use Rattle.dnp_objects.specs.declared.command.Command.{Command}
use Rattle.dnp_objects.specs.declared.row.Row.{Row}
use Rattle.dnp_eventbuf.specs.EventBuffer.{rows_in}
use Rattle.dnp_controls.specs.Book.{Ledger}
use Rattle.dnp_controls.specs.Panel.{Panel}
use Rattle.dnp_concentrator.specs.BookOutputs.{ordered}
use Rattle.dnp_concentrator.specs.Below.{link_in}
use Rattle.dnp_outstation.specs.State.{State}
use Rattle.dnp_outstation.specs.Station.{with_points}
use Rattle.dnp_pointdb.specs.Database.{Database}
use Rattle.dnp_pointdb.specs.Sound as points
use Rattle.dnp_concentrator.specs.Relaying.{Relaying}
use Rattle.dnp_concentrator.specs.declared.span.Spans.{Spans}
use Rattle.dnp_world.specs.declared.link_event.LinkEvent.{LinkEvent}
use Rattle.dnp_world.specs.Behind.{Elsewhere, does_nothing, LinkDoes, Grows, Links, with_links, IsBehind, OneEvent, made_at, rows_of}
use Rattle.dnp_world.specs.Joined.{Follows, Joined, rows_made_by}
use Rattle.dnp_world.specs.Kept.{KeptLists, kept_in, lane_rows_of, orders_in, shown_of, used_orders, used_commands}
use Rattle.dnp_world.specs.LawLink.{LawLink}
use Rattle.dnp_world.specs.Moves.{Done}
use Rattle.dnp_world.specs.OneLinkEvents.{LinkState, HappensOn}
use Rattle.dnp_world.specs.OutstationSeen.{ShowOctets, Shows}
use Rattle.dnp_world.specs.Reports.{IsFate}
use Rattle.dnp_world.specs.Standing.{CarriesLaw}
use Rattle.dnp_world.specs.Stations.{of_substation, HasSameCounts}
use Rattle.dnp_world.specs.Systems.{SubstationState, System, at_substation, middle_of, panel_of}
use Rattle.dnp_world.specs.SystemStanding.{RowLists, lists_of, no_sink, points_asked, seen, seen_above, seen_below, IsJoinedBelow, IsStanding, Keeps}
use Rattle.dnp_world.proofs.Counting.{count_by-append}
use Rattle.dnp_world.proofs.JoinedSteps.{with_lists}
use Rattle.dnp_world.proofs.ListedAt.{set_here, set_there, listed_here, listed_there}
use Rattle.dnp_world.proofs.OutstationOpenings.{rows_from}
use Rattle.dnp_world.proofs.SystemCounts.{same_refl, same_is, same_sym, same_permutation}
use Rattle.dnp_world.proofs.SystemPlans.{still_of_plan}
use Rattle.dnp_world.proofs.Turning.{by_substation}

-- what a law of a system's lists says
pub record TurnLaws : Type 0 where
  pub kept : (indices : List Spans) {el : Elsewhere} (substation : ℕ) (links : Links) (old new : KeptLists) → IsBehind indices el links old
      → (turn : OneEvent indices substation links old new) → IsBehind indices el (with_links links substation turn.below turn.above) new
  pub fate : (indices : List Spans) {el : Elsewhere} (substation : ℕ) (links : Links) (old new : KeptLists) → IsBehind indices el links old
      → (turn : OneEvent indices substation links old new)
      → IsFate (made_at substation turn.here.made) (shown_of indices old) (shown_of indices new)

-- and the law of one link, of an event by itself
pub record Grounds : Type 0 where
  pub turns : TurnLaws
  pub happens : (panel : Panel) (s new : LinkState ⊤) (event : LinkEvent) (l : LawLink) → ShowOctets panel → CarriesLaw l → Joined [] s l
      → HappensOn no_sink panel s event new
      → Follows [] (rows_made_by s.outstation.core.points (event ∷ [])) [] s.outstation.performed l new

-- ---- lists that get nothing

pub none_more : {A : Type 0} (xs : List A) → HasSameCounts xs (xs ++ [])
none_more xs = same_is xs (xs ++ []) (sym (append-nil xs))

pub none_used : {A : Type 0} (xs : List A) → IsCoveredBy (xs ++ []) xs
none_used xs = record { at_most = λ test. omega (arith, count_by-append test xs []) }

pub stays_still : (l : LawLink) → Grows l l does_nothing
stays_still l = record {
  moves = Done;
  stood = none_more (rows_of l.stood);
  released = none_more (rows_of l.released);
  left = none_more (rows_of l.left);
  took = none_more (rows_of l.took);
  asked = none_more l.asked;
  performed = none_more l.performed;
}

-- ---- a link by itself, with the lists of its link, at any moment

pub relisted : (s : LinkState ⊤) (l : LawLink) (now : ℕ) → Joined [] s l
    → Joined [] (record s { now = now; taken = rows_of l.took; released = rows_of l.released; left = rows_of l.left }) l
relisted s l now j =
    with_lists [] [] s l s.sink now (rows_of l.took) (rows_of l.released) (rows_of l.left) j (IsPermutation-refl (rows_of l.took)) refl
    (subst (λ (xs : List Row). IsPermutation (rows_of l.left) xs) (sym (append-nil (rows_of l.left))) (IsPermutation-refl (rows_of l.left)))

-- another outstation that the link shows, over the same lines
pub shown_by : (s : LinkState ⊤) (l : LawLink) (outstation : State) → outstation.core.is_open ≡ s.outstation.core.is_open → Shows outstation l
    → Joined [] s l → Joined [] (record s { outstation = outstation }) l
shown_by s l outstation same shows j = record {
  outstation = shows;
  master = j.master;
  number = j.number;
  going_down = j.going_down;
  down = j.down;
  down_is = j.down_is;
  octets = j.octets;
  up = rw same j.up;
  taken = j.taken;
  released = j.released;
  left = j.left;
}

-- other readings of its points are no matter of the link
pub points_set : (s : LinkState ⊤) (l : LawLink) (database : Database) → points.IsSoundDatabase database → Joined [] s l
    → Joined [] (record s { outstation = record s.outstation { core = with_points s.outstation.core database } }) l
points_set s l database sound j =
    let shows : Shows s.outstation l = j.outstation in
    let order = shows.well.order in
    let tidy = shows.well.tidy in
    shown_by s l _ refl (record {
      outstation = shows.outstation;
      lanes = shows.lanes;
      well = record {
        lanes = shows.well.lanes;
        points = sound;
        order = record { number = order.number; classes = order.classes; held = order.held; several = order.several };
        tidy = record { awaited = tidy.awaited; first = tidy.first; unsolicited = tidy.unsolicited };
        ids = shows.well.ids;
      };
    }) j

-- the rows in its lanes
pub lane_rows : (s : LinkState ⊤) (l : LawLink) → Joined [] s l → rows_of l.lanes ≡ rows_in s.outstation.lanes
lane_rows s l j = ap rows_of j.outstation.lanes.rows ∙ rows_from 0 s.outstation.lanes.lanes

-- what the link did, by the lists of the link by itself
pub grows_by : (came taken released left : List Row) (asked before : List Command) (l : LawLink) (new : LinkState ⊤)
    → new.taken ≡ rows_of l.took ++ taken → new.released ≡ rows_of l.released ++ released → new.left ≡ rows_of l.left ++ left
    → (f : Follows [] came asked before l new)
    → Grows l f.link (record {
      made = came;
      discarded = released;
      left = left;
      taken = taken;
      asked = asked;
      performed = drop (length before) new.outstation.performed;
    })
grows_by came taken released left asked before l new takes releases leaves f =
    let link : LawLink = f.link in
    let j : Joined [] new link = f.joined in
    let performed : drop (length before) new.outstation.performed ≡ f.commands =
    ap (λ (xs : List Command). drop (length before) xs) f.performed ∙ drop-append_seam before f.commands in
    record {
      moves = f.moves;
      stood = same_is (rows_of link.stood) (rows_of l.stood ++ came) f.stood;
      released = same_is (rows_of link.released) (rows_of l.released ++ released) (j.released ∙ releases);
      left = subst (λ (xs : List Row). HasSameCounts (rows_of link.left) xs) (append-nil new.left ∙ leaves)
          (same_permutation (rows_of link.left) (new.left ++ []) j.left);
      took = subst (λ (xs : List Row). HasSameCounts (rows_of link.took) xs) takes
          (same_sym new.taken (rows_of link.took) (same_permutation new.taken (rows_of link.took) j.taken));
      asked = same_is link.asked (l.asked ++ asked) f.asked_is;
      performed = same_is link.performed (l.performed ++ drop (length before) new.outstation.performed)
          (f.performed_is ∙ ap (λ (xs : List Command). l.performed ++ xs) (sym performed));
    }

-- ---- the system after it

-- the rows that became of it: released, dropped by full lanes, and emptied by a restart
pub record Gone : Type 0 where
  pub confirmed : List Row
  pub overwritten : List Row
  pub emptied : List Row

-- the commands that a substation performs besides
abbrev pub performs : SubstationState → SubstationState → List Command
performs was is = drop (length was.outputs.performed) is.outputs.performed

-- what changes of the concentrator besides: the links to substations, and the readings above
pub record Middle : Type 0 where
  pub links : List Relaying
  pub points : Database

abbrev pub middle_in : System → Middle
middle_in s = record { links = s.concentrator.links; points = s.concentrator.core.points }

-- the substation is another, and so is what the concentrator has of it, and the lists get what became of the rows and commands
abbrev pub changed_below : ℕ → SubstationState → SubstationState → Middle → Gone → System → System
changed_below substation was is middle gone s = record s {
  substations = slice_set s.substations substation is;
  concentrator = record s.concentrator { core = with_points s.concentrator.core middle.points; links = middle.links };
  history = record s.history {
    confirmed = s.history.confirmed ++ at_substation substation gone.confirmed;
    overwritten = s.history.overwritten ++ at_substation substation gone.overwritten;
    gone = s.history.gone ++ at_substation substation gone.emptied;
    operated = s.history.operated ++ at_substation substation (performs was is);
  };
}

-- the links to all other substations are as they were, the masters ask for the same points, and the points above stay sound
pub record KeepsMiddle (substation : ℕ) (middle : Middle) (s : System) : Type 0 where
  pub others : (i : ℕ) → i ≢ substation → link_in middle.links i ≡ link_in s.concentrator.links i
  pub masters : map points_asked middle.links ≡ map points_asked s.concentrator.links
  pub sound : points.IsSoundDatabase s.concentrator.core.points → points.IsSoundDatabase middle.points

pub middle_same : (substation : ℕ) (s : System) → KeepsMiddle substation (middle_in s) s
middle_same substation s = record { others = λ i other. refl; masters = refl; sound = λ h. h }

left_more : (substation : ℕ) (a b c d : List (ℕ × Row)) → HasSameCounts ((a ++ b) ++ (c ++ d)) ((a ++ c) ++ (b ++ d))
left_more substation a b c d = record {
  same = λ test.
      omega (
        arith,
        count_by-append test (a ++ b) (c ++ d),
        count_by-append test a b,
        count_by-append test c d,
        count_by-append test (a ++ c) (b ++ d),
        count_by-append test a c,
        count_by-append test b d,
      );
}

pub some_of : {S : Type 0} (P : S → Type 0) (o : Option S) (x : S) → o ≡ Some x → IfSome o P → P x
some_of P o x e h = subst (λ o. IfSome o P) e h

pub of_some : {S : Type 0} (P : S → Type 0) (o : Option S) (x : S) → o ≡ Some x → P x → IfSome o P
of_some P o x e h = subst (λ o. IfSome o P) (sym e) h

-- and the concentrator's book
abbrev pub with_controls : Ledger → System → System
with_controls controls s = record s { concentrator = record s.concentrator { controls = controls } }

-- what the book says of commands that are asked for
pub record BookShows (old : System) (substation : ℕ) (controls : Ledger) (asked : List Command) : Type 0 where
  pub used : IsCoveredBy (used_orders old.concentrator.controls.entries ++ at_substation substation asked) (used_orders controls.entries)
  pub orders : orders_in controls.entries ≡ orders_in old.concentrator.controls.entries
  pub shown : map (ordered old.concentrator.indices) controls.entries ≡ map (ordered old.concentrator.indices) old.concentrator.controls.entries

-- what happened to the link
abbrev did : SubstationState → SubstationState → Gone → List Row → List Command → LinkDoes
did was is gone came asked = record {
  made = came;
  discarded = gone.confirmed;
  left = gone.overwritten ++ gone.emptied;
  taken = [];
  asked = asked;
  performed = performs was is;
}

turn_below : (old : System) {el : Elsewhere} (links : Links) (substation : ℕ) (was is : SubstationState) (middle : Middle) (controls : Ledger) (gone : Gone)
    (came : List Row) (asked : List Command) (link : LawLink)
    → IsBehind old.indices el links (kept_in old) → slice_get old.substations substation ≡ Some was → BookShows old substation controls asked
    → Grows (links.below substation) link (did was is gone came asked) → rows_of link.lanes ≡ rows_in is.lanes
    → OneEvent old.indices substation links (kept_in old) (kept_in (with_controls controls (changed_below substation was is middle gone old)))
turn_below old links substation was is middle controls gone came asked link b there book grows lanes =
    let new : System = with_controls controls (changed_below substation was is middle gone old) in
    record {
      below = link;
      above = links.above;
      here = did was is gone came asked;
      there = does_nothing;
      below_grows = grows;
      above_grows = stays_still links.above;
      joined = refl;
      mapped = refl;
      buffered = same_is (rows_of link.lanes) (of_substation substation (kept_in new).buffered)
          (lanes ∙ sym (listed_here lane_rows_of old.substations substation was is there));
      others = λ i other. same_is (of_substation i (kept_in new).buffered) (of_substation i (kept_in old).buffered)
          (listed_there lane_rows_of old.substations substation i is other);
      confirmed = same_refl new.history.confirmed;
      left = subst (λ (xs : List (ℕ × Row)). HasSameCounts (new.history.overwritten ++ new.history.gone)
          ((old.history.overwritten ++ old.history.gone) ++ xs))
          (sym (map-append (λ row. (substation, row)) gone.overwritten gone.emptied))
          (left_more substation old.history.overwritten (at_substation substation gone.overwritten) old.history.gone (at_substation substation gone.emptied));
      queue = b.queue;
      dropped = none_more old.history.dropped;
      lost = omega arith;
      journal = none_more (kept_in old).journal;
      operated = same_refl new.history.operated;
      used = book.used;
      added = same_is (orders_in controls.entries) (orders_in old.concentrator.controls.entries ++ [])
          (book.orders ∙ sym (append-nil (orders_in old.concentrator.controls.entries)));
      used_above = none_used (used_commands (kept_in old).orders);
      issues = [];
      issued = none_more old.history.issued;
      ordered = none_more _;
    }

-- what a link by itself lists after it
pub record IsListed (l : LawLink) (gone : Gone) (lists : RowLists) : Type 0 where
  pub taken : lists.taken ≡ rows_of l.took
  pub released : lists.released ≡ rows_of l.released ++ gone.confirmed
  pub left : lists.left ≡ rows_of l.left ++ (gone.overwritten ++ gone.emptied)

-- the link to another substation is as it was
pub other_stands : (old : System) {el : Elsewhere} (h : IsStanding el old) (substation : ℕ) (is : SubstationState) (relays : List Relaying)
    → ((i : ℕ) → i ≢ substation → link_in relays i ≡ link_in old.concentrator.links i) → (i : ℕ) → i ≢ substation
    → IfSome (slice_get (slice_set old.substations substation is) i) (IsJoinedBelow old.now (link_in relays i) (h.links.below i))
other_stands old h substation is relays others i other = rw (others i other, set_there old.substations substation i is other) (h.below i)

-- The link by itself moves so.
pub below_follows : TurnLaws → (old : System) {el : Elsewhere} (h : IsStanding el old) (substation : ℕ) (was is : SubstationState) (middle : Middle)
    (controls : Ledger) (gone : Gone) (lists : RowLists) (came : List Row) (asked : List Command)
    → slice_get old.substations substation ≡ Some was → KeepsMiddle substation middle old → ShowOctets (panel_of is)
    → IsListed (h.links.below substation) gone lists → BookShows old substation controls asked
    → Follows [] came asked was.outputs.performed (h.links.below substation) (seen_below old.now (link_in middle.links substation) is lists)
    → Keeps el substation came old (with_controls controls (changed_below substation was is middle gone old))
unfolding turn_below
below_follows laws old h substation was is middle controls gone lists came asked there keeps shown listed book f =
    let l : LawLink = h.links.below substation in
    let next : System = with_controls controls (changed_below substation was is middle gone old) in
    let s' : LinkState ⊤ = seen_below old.now (link_in middle.links substation) is lists in
    let link : LawLink = f.link in
    let t : OneEvent old.indices substation h.links (kept_in old) (kept_in next) =
    turn_below old h.links substation was is middle controls gone came asked link h.behind there book
    (grows_by came [] gone.confirmed (gone.overwritten ++ gone.emptied) asked was.outputs.performed l s'
    (listed.taken ∙ sym (append-nil (rows_of l.took))) listed.released listed.left f)
    (lane_rows s' link f.joined) in
    record {
      standing = record {
        plan = h.plan;
        of_plan = still_of_plan old next h.plan refl refl refl refl keeps.masters h.of_plan;
        links = with_links h.links substation link h.links.above;
        below = by_substation (λ i x. IfSome (slice_get next.substations i) (IsJoinedBelow old.now (link_in middle.links i) x)) h.links substation link
            h.links.above
            (of_some (IsJoinedBelow old.now (link_in middle.links substation) link) (slice_get next.substations substation) is
            (set_here old.substations substation was is there)
            (record { joined = relisted s' link old.now f.joined; shown = shown }))
            (other_stands old h substation is middle.links keeps.others);
        above = subst (λ (performed : List Command). Joined [] (seen (record (middle_of next.concentrator) { performed = performed })
            old.centre.link.master old.above old.now (lists_of h.links.above)) h.links.above) (sym book.shown)
            (points_set (seen_above old (lists_of h.links.above)) h.links.above middle.points (keeps.sound h.above.outstation.well.points) h.above);
        behind = laws.kept old.indices substation h.links (kept_in old) (kept_in next) h.behind t;
      };
      fate = laws.fate old.indices substation h.links (kept_in old) (kept_in next) h.behind t;
    }

-- The event is one of the link by itself, which asks for no command.
pub below_keeps : Grounds → (old new : System) {el : Elsewhere} (h : IsStanding el old) (substation : ℕ)
    → (was is : SubstationState) (middle : Middle) (gone : Gone) (lists : RowLists) (e : LinkEvent)
    → slice_get old.substations substation ≡ Some was → KeepsMiddle substation middle old → ShowOctets (panel_of is)
    → IsListed (h.links.below substation) gone lists
    → HappensOn no_sink (panel_of was) (seen_below old.now (link_in old.concentrator.links substation) was (lists_of (h.links.below substation))) e
    (seen_below old.now (link_in middle.links substation) is lists)
    → new ≡ changed_below substation was is middle gone old → Keeps el substation (rows_made_by was.core.points (e ∷ [])) old new
below_keeps grounds old new {el = el} h substation was is middle gone lists e there keeps shown listed happens after =
    let l : LawLink = h.links.below substation in
    let came : List Row = rows_made_by was.core.points (e ∷ []) in
    let r : Relaying = link_in old.concentrator.links substation in
    let before : IsJoinedBelow old.now r l was = some_of (IsJoinedBelow old.now r l) (slice_get old.substations substation) was there (h.below substation) in
    subst (λ (x : System). Keeps el substation came old x) (sym after)
    (below_follows grounds.turns old h substation was is middle old.concentrator.controls gone lists came [] there keeps shown listed
    (record { used = none_used (used_orders old.concentrator.controls.entries); orders = refl; shown = refl })
    (grounds.happens (panel_of was) (seen_below old.now r was (lists_of l)) (seen_below old.now (link_in middle.links substation) is lists) e l before.shown
    (h.behind.below_stands substation) before.joined happens))
