-- What the link between concentrator and centre does by itself keeps what stands behind the system.
use Rattle.std.proofs.Common.{◌≡◌, ℕ, List, [], ◌∷◌, ◌++◌, length, drop, map, refl, sym, ap, ◌∙◌, subst, append-nil, arith}
use Rattle.std.specs.Prelude.{slice_get, IfSome, ⊤}
use Rattle.std.proofs.Math.Seq.{drop-append_seam}
use Rattle.dnp_concentrator.specs.Below.{link_in}
use Rattle.dnp_concentrator.specs.BookOutputs.{all_added, ordered}
use Rattle.dnp_concentrator.specs.Relaying.{Relaying}
use Rattle.dnp_concentrator.specs.declared.span.Spans.{Spans}
use Rattle.dnp_controls.specs.Book.{Ledger}
use Rattle.dnp_controls.specs.Panel.{Panel}
use Rattle.dnp_eventbuf.specs.Archive.{Archive}
use Rattle.dnp_eventbuf.specs.EventBuffer.{EventBuffer, lost_in, row_of}
use Rattle.dnp_objects.specs.Counts.{IsCoveredBy}
use Rattle.dnp_objects.specs.declared.command.Command.{Command}
use Rattle.dnp_objects.specs.declared.row.Row.{Row}
use Rattle.dnp_outstation.specs.State.{Core}
use Rattle.dnp_world.specs.declared.link_event.LinkEvent.{LinkEvent}
use Rattle.dnp_world.specs.Behind.{Elsewhere, does_nothing, rows_of, with_links, Grows, OneEvent}
use Rattle.dnp_world.specs.Channels.{ChannelState}
use Rattle.dnp_world.specs.Joined.{Follows, rows_made_by}
use Rattle.dnp_world.specs.Kept.{commands_below, commands_in, kept_in, orders_in, used_commands, used_orders}
use Rattle.dnp_world.specs.LawLink.{LawLink}
use Rattle.dnp_world.specs.OneLinkEvents.{LinkState, HappensOn}
use Rattle.dnp_world.specs.OutstationSeen.{ShowOctets}
use Rattle.dnp_world.specs.Stations.{of_substation, HasSameCounts}
use Rattle.dnp_world.specs.Systems.{System, middle_panel}
use Rattle.dnp_world.specs.SystemStanding.{RowLists, lists_of, no_sink, seen_above, IsJoinedBelow, IsStanding, Keeps}
use Rattle.dnp_world.proofs.BelowKeeps.{Grounds, TurnLaws, grows_by, lane_rows, none_more, none_used, relisted, stays_still}
use Rattle.dnp_world.proofs.SystemCounts.{same_is, same_refl}
use Rattle.dnp_world.proofs.SystemMapping.{added_orders, added_unused}
use Rattle.dnp_world.proofs.SystemPlans.{still_of_plan}
use Rattle.dnp_world.proofs.Turning.{by_substation}

-- What changes above: the concentrator's outstation with its queue, and the commands that come into its book, the centre's link with its
-- journal, and the lines.
pub record Above : Type 0 where
  pub core : Core
  pub queue : EventBuffer
  pub commands : List Command
  pub link : Relaying
  pub journal : Archive
  pub lines : ChannelState

abbrev pub book_with : System → List Command → Ledger
book_with s commands = all_added s.concentrator.indices s.concentrator.controls commands

abbrev pub changed_above : Above → System → System
changed_above a s = record s {
  concentrator = record s.concentrator { core = a.core; queue = a.queue; controls = book_with s a.commands };
  centre = record s.centre { link = a.link; journal = a.journal };
  above = a.lines;
}

-- and the centre's book
abbrev pub with_orders : Ledger → System → System
with_orders orders s = record s { centre = record s.centre { orders = orders } }

-- what the stores say of rows that are taken, and of commands that are performed and asked for
pub record StoresShow (old : System) (a : Above) (orders : Ledger) (taken : List Row) (asked : List Command) : Type 0 where
  pub lost : lost_in a.queue ≡ lost_in old.concentrator.queue
  pub journal : map row_of a.journal.rows ≡ map row_of old.centre.journal.rows ++ taken
  pub performs : map (ordered old.concentrator.indices) (book_with old a.commands).entries
      ≡ map (ordered old.concentrator.indices) old.concentrator.controls.entries ++ a.commands
  pub used : IsCoveredBy (used_commands old.centre.orders.entries ++ asked) (used_commands orders.entries)
  pub same : commands_in orders.entries ≡ commands_in old.centre.orders.entries

-- the outputs above show no status
shown_above : (s : System) → ShowOctets (middle_panel s.concentrator s.now)
shown_above s = record { outputs = omega arith; status = λ index low. omega arith }

-- what the link by itself lists: these rows were taken besides, and these released
pub record ListsMore (l : LawLink) (taken released : List Row) (lists : RowLists) : Type 0 where
  pub taken_is : lists.taken ≡ rows_of l.took ++ taken
  pub released_is : lists.released ≡ rows_of l.released ++ released
  pub left_is : lists.left ≡ rows_of l.left

pub none_listed : (l : LawLink) → ListsMore l [] [] (lists_of l)
none_listed l = record { taken_is = sym (append-nil (rows_of l.took)); released_is = sym (append-nil (rows_of l.released)); left_is = refl }

turn_above : (old : System) {el : Elsewhere} (h : IsStanding el old) (substation : ℕ) (a : Above) (orders : Ledger) (taken released : List Row)
    (asked : List Command) (link : LawLink) → StoresShow old a orders taken asked
    → Grows h.links.above link (record does_nothing { discarded = released; taken = taken; asked = asked; performed = a.commands })
    → HasSameCounts (rows_of link.lanes) (kept_in (with_orders orders (changed_above a old))).queue
    → OneEvent old.indices substation h.links (kept_in old) (kept_in (with_orders orders (changed_above a old)))
turn_above old h substation a orders taken released asked link shows grows lanes =
    let new : System = with_orders orders (changed_above a old) in
    let spans : List Spans = old.concentrator.indices in
    let was : Ledger = old.concentrator.controls in
    record {
      below = h.links.below substation;
      above = link;
      here = does_nothing;
      there = record does_nothing { discarded = released; taken = taken; asked = asked; performed = a.commands };
      below_grows = stays_still (h.links.below substation);
      above_grows = grows;
      joined = refl;
      mapped = refl;
      buffered = h.behind.buffered substation;
      others = λ i other. same_refl (of_substation i (kept_in old).buffered);
      confirmed = none_more old.history.confirmed;
      left = none_more (old.history.overwritten ++ old.history.gone);
      queue = lanes;
      dropped = none_more old.history.dropped;
      lost = omega (arith, shows.lost);
      journal = same_is (kept_in new).journal ((kept_in old).journal ++ taken) shows.journal;
      operated = none_more old.history.operated;
      used = subst (λ (xs : List (ℕ × Command)). IsCoveredBy (used_orders was.entries ++ []) xs) (sym (added_unused spans was a.commands))
          (none_used (used_orders was.entries));
      added = same_is (orders_in (book_with old a.commands).entries) (orders_in was.entries ++ commands_below old.indices a.commands)
          (added_orders spans was a.commands
          ∙ ap (λ (xs : List Spans). orders_in was.entries ++ commands_below xs a.commands) h.of_plan.middle_indices);
      used_above = shows.used;
      issues = [];
      issued = none_more old.history.issued;
      ordered = same_is (commands_below old.indices (commands_in orders.entries))
          (commands_below old.indices (commands_in old.centre.orders.entries) ++ [])
          (ap (commands_below old.indices) shows.same ∙ sym (append-nil (commands_below old.indices (commands_in old.centre.orders.entries))));
    }

-- The link by itself moves so.
pub above_follows : TurnLaws → (old : System) {el : Elsewhere} (h : IsStanding el old) (substation : ℕ) (a : Above) (orders : Ledger)
    (taken released : List Row)
    (asked : List Command) (lists : RowLists) → StoresShow old a orders taken asked → ListsMore h.links.above taken released lists
    → Follows [] [] asked (middle_panel old.concentrator old.now).performed h.links.above (seen_above (changed_above a old) lists)
    → Keeps el substation [] old (with_orders orders (changed_above a old))
unfolding turn_above
above_follows laws old h substation a orders taken released asked lists shows listed f =
    let l : LawLink = h.links.above in
    let next : System = with_orders orders (changed_above a old) in
    let s' : LinkState ⊤ = seen_above next lists in
    let before : List Command = (middle_panel old.concentrator old.now).performed in
    let link : LawLink = f.link in
    let grows : Grows l link (record does_nothing { discarded = released; taken = taken; asked = asked; performed = a.commands }) =
    subst (λ (xs : List Command). Grows l link (record does_nothing { discarded = released; taken = taken; asked = asked; performed = xs }))
    (ap (λ (xs : List Command). drop (length before) xs) shows.performs ∙ drop-append_seam before a.commands)
    (grows_by [] taken released [] asked before l s' listed.taken_is listed.released_is (listed.left_is ∙ sym (append-nil (rows_of l.left))) f) in
    let t : OneEvent old.indices substation h.links (kept_in old) (kept_in next) =
    turn_above old h substation a orders taken released asked link shows grows
    (same_is (rows_of link.lanes) (kept_in next).queue (lane_rows s' link f.joined)) in
    record {
      standing = record {
        plan = h.plan;
        of_plan = still_of_plan old next h.plan refl refl refl refl refl h.of_plan;
        links = with_links h.links substation (h.links.below substation) link;
        below = by_substation (λ i x. IfSome (slice_get old.substations i) (IsJoinedBelow old.now (link_in old.concentrator.links i) x)) h.links substation
            (h.links.below substation) link (h.below substation) (λ i other. h.below i);
        above = relisted s' link old.now f.joined;
        behind = laws.kept old.indices substation h.links (kept_in old) (kept_in next) h.behind t;
      };
      fate = laws.fate old.indices substation h.links (kept_in old) (kept_in next) h.behind t;
    }

-- The event is one of the link by itself, at which no point changes, and which asks for no command.
pub above_keeps : Grounds → (old new : System) {el : Elsewhere} (h : IsStanding el old) (substation : ℕ) (a : Above)
    (taken released : List Row) (lists : RowLists)
    (e : LinkEvent) → StoresShow old a old.centre.orders taken [] → ListsMore h.links.above taken released lists
    → rows_made_by old.concentrator.core.points (e ∷ []) ≡ []
    → HappensOn no_sink (middle_panel old.concentrator old.now) (seen_above old (lists_of h.links.above)) e
    (seen_above (changed_above a old) lists) → new ≡ changed_above a old → Keeps el substation [] old new
above_keeps grounds old new {el = el} h substation a taken released lists e shows listed none happens after =
    let s : LinkState ⊤ = seen_above old (lists_of h.links.above) in
    let s' : LinkState ⊤ = seen_above (changed_above a old) lists in
    let panel : Panel = middle_panel old.concentrator old.now in
    subst (λ (x : System). Keeps el substation [] old x) (sym after)
    (above_follows grounds.turns old h substation a old.centre.orders taken released [] lists shows listed
    (subst (λ (rows : List Row). Follows [] rows [] panel.performed h.links.above s') none
    (grounds.happens panel s s' e h.links.above (shown_above old) h.behind.above_stands h.above happens)))
