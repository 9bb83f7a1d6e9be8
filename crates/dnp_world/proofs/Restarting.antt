-- A restart of the concentrator, at which all its links close, keeps what stands behind the system.
use Rattle.std.proofs.Common.{◌≡◌, ℕ, zero, suc, ◌+◌, List, [], ◌∷◌, ◌++◌, length, drop, map, Option, Some, None, refl, sym, ap, ◌∙◌, subst, append-nil, arith}
use Rattle.std.specs.Prelude.{slice_get, IfSome, true, ⊤}
use Rattle.std.proofs.Math.Seq.{drop-append_seam}
use Rattle.std.proofs.lemmas.List.{drop_all, length-map}
use Rattle.dnp_concentrator.specs.Below.{link_in}
use Rattle.dnp_concentrator.specs.Relaying as relaying
use Rattle.dnp_concentrator.specs.Relaying.{Relaying}
use Rattle.dnp_concentrator.specs.declared.span.Spans.{Spans}
use Rattle.dnp_eventbuf.specs.Buffered.{buffered_row}
use Rattle.dnp_eventbuf.specs.EventBuffer.{rows_in}
use Rattle.dnp_objects.specs.Counts.{IsCoveredBy}
use Rattle.dnp_objects.specs.declared.command.Command.{Command}
use Rattle.dnp_objects.specs.declared.row.Row.{Row}
use Rattle.dnp_outstation.specs.Calls.{restart_of}
use Rattle.dnp_pointdb.specs.Plan as points
use Rattle.dnp_world.specs.declared.link_event.End.TheVariants as end
use Rattle.dnp_world.specs.declared.link_event.LinkEvent.TheVariants as event
use Rattle.dnp_world.specs.Behind.{Elsewhere, Links, IsBehind, made_at, rows_of}
use Rattle.dnp_world.specs.Channels.{hung_up_at}
use Rattle.dnp_world.specs.Joined.{Follows, Joined}
use Rattle.dnp_world.specs.Kept.{KeptLists, commands_below, kept_in, lane_rows_of, orders_in, report_of, rows_below, shown_of, used_commands, used_orders}
use Rattle.dnp_world.specs.LawLink.{LawLink}
use Rattle.dnp_world.specs.OneLinkEvents.{LinkState}
use Rattle.dnp_world.specs.Reports.{IsFate, happened}
use Rattle.dnp_world.specs.Standing.{CarriesLaw}
use Rattle.dnp_world.specs.Stations.{listed_from, of_substation, HasSameCounts}
use Rattle.dnp_world.specs.SystemEvents.{concentrator_restarted, master_gone}
use Rattle.dnp_world.specs.SystemStanding.{lists_of, points_asked, seen_above, seen_below, IsJoinedBelow, IsStanding, Keeps}
use Rattle.dnp_world.specs.Systems.{SubstationState, System, at_substation, panel_of}
use Rattle.dnp_world.proofs.BelowKeeps.{Grounds, lane_rows, none_more, relisted}
use Rattle.dnp_world.proofs.Keeping.{moves_stand}
use Rattle.dnp_world.proofs.SystemCounts.{same_filter_map, same_is, same_length, same_of_substation, same_permutation, same_refl, same_sym, same_trans}
use Rattle.dnp_world.proofs.SystemPlans.{still_of_plan}

-- what the crates below promise of a restart
pub record RestartLaws : Type 0 where
  pub restarts : (s new : LinkState ⊤) (l : LawLink) → Joined [] s l
      → new ≡ record s { outstation = restart_of s.outstation true; channel = hung_up_at end.Outstation s.channel }
      → Follows [] [] [] s.outstation.performed l new

-- ---- links on which nothing came, was taken, released or performed

pub record IsStill (l new : LawLink) : Type 0 where
  pub stands : CarriesLaw new
  pub lanes : HasSameCounts (rows_of new.lanes) (rows_of l.lanes)
  pub stood : HasSameCounts (rows_of new.stood) (rows_of l.stood)
  pub released : HasSameCounts (rows_of new.released) (rows_of l.released)
  pub left : HasSameCounts (rows_of new.left) (rows_of l.left)
  pub took : HasSameCounts (rows_of new.took) (rows_of l.took)
  pub asked : new.asked ≡ l.asked
  pub performed : new.performed ≡ l.performed

same_still : (l : LawLink) → CarriesLaw l → IsStill l l
same_still l stands = record {
  stands = stands;
  lanes = same_refl (rows_of l.lanes);
  stood = same_refl (rows_of l.stood);
  released = same_refl (rows_of l.released);
  left = same_refl (rows_of l.left);
  took = same_refl (rows_of l.took);
  asked = refl;
  performed = refl;
}

still_mapped : (indices : List Spans) (l new : LawLink) → IsStill l new → length (rows_below indices (rows_of l.stood)) ≡ length l.stood
    → length (rows_below indices (rows_of new.stood)) ≡ length new.stood
still_mapped indices l new still mapped =
    omega (
      arith,
      mapped,
      same_length (rows_below indices (rows_of new.stood)) (rows_below indices (rows_of l.stood))
          (same_filter_map _ (rows_of new.stood) (rows_of l.stood) still.stood),
      same_length (rows_of new.stood) (rows_of l.stood) still.stood,
      length-map new.stood buffered_row,
      length-map l.stood buffered_row,
    )

still_behind : (indices : List Spans) {el : Elsewhere} (links new : Links) (k : KeptLists) → ((i : ℕ) → IsStill (links.below i) (new.below i))
    → IsStill links.above new.above → IsBehind indices el links k → IsBehind indices el new k
still_behind indices {el = el} links new k below above b = record {
  below_stands = λ i. (below i).stands;
  above_stands = above.stands;
  buffered = λ i. same_trans (rows_of (new.below i).lanes) (rows_of (links.below i).lanes) (of_substation i k.buffered) (below i).lanes (b.buffered i);
  confirmed = λ i.
      same_trans (rows_of (new.below i).released) (rows_of (links.below i).released) (of_substation i k.confirmed) (below i).released (b.confirmed i);
  left = λ i.
      same_trans (rows_of (new.below i).left) (rows_of (links.below i).left) (of_substation i (k.overwritten ++ k.gone)) (below i).left (b.left i);
  joined = λ i.
      let before : List (ℕ × Row) = rows_below indices (rows_of links.above.stood) in
      let now : List (ℕ × Row) = rows_below indices (rows_of new.above.stood) in
      same_trans (rows_of (new.below i).took) (rows_of (links.below i).took) (of_substation i now) (below i).took
      (same_trans (rows_of (links.below i).took) (of_substation i before) (of_substation i now) (b.joined i)
      (same_of_substation i before now
      (same_sym now before (same_filter_map _ (rows_of new.above.stood) (rows_of links.above.stood) above.stood))));
  mapped = still_mapped indices links.above new.above above b.mapped;
  queue = same_trans (rows_of new.above.lanes) (rows_of links.above.lanes) k.queue above.lanes b.queue;
  dropped = same_trans (rows_of new.above.left) (rows_of links.above.left) k.dropped above.left b.dropped;
  journal = same_trans (rows_of new.above.took) (rows_of links.above.took) k.journal above.took b.journal;
  lost = b.lost;
  operated = λ i. subst (λ (xs : List Command). HasSameCounts xs (of_substation i k.operated)) (sym (below i).performed) (b.operated i);
  asked_below = λ i. subst (λ (xs : List Command). IsCoveredBy xs (of_substation i (used_orders k.controls))) (sym (below i).asked) (b.asked_below i);
  relayed = subst (λ (xs : List Command). HasSameCounts (commands_below indices xs ++ commands_below indices el.performed) (orders_in k.controls))
      (sym above.performed) b.relayed;
  asked_above = subst (λ (xs : List Command). IsCoveredBy xs (used_commands k.orders)) (sym above.asked) b.asked_above;
  issued = b.issued;
  theirs = b.theirs;
}

-- what follows of a link, where its lists and what its outputs performed stayed
still_of : (l : LawLink) (s new : LinkState ⊤) → CarriesLaw l → Joined [] s l → (f : Follows [] [] [] s.outstation.performed l new)
    → new.outstation.performed ≡ s.outstation.performed → new.outstation.lanes ≡ s.outstation.lanes
    → new.taken ≡ rows_of l.took → new.released ≡ rows_of l.released → new.left ≡ rows_of l.left → IsStill l f.link
still_of l s new stands joined f same lanes takes releases leaves =
    let link : LawLink = f.link in
    let j : Joined [] new link = f.joined in
    let none : f.commands ≡ [] =
    sym (drop-append_seam s.outstation.performed f.commands)
    ∙ ap (λ (xs : List Command). drop (length s.outstation.performed) xs) (sym f.performed ∙ same)
    ∙ drop_all (length s.outstation.performed) s.outstation.performed (omega arith) in
    record {
      stands = moves_stand l link f.moves stands;
      lanes = same_is (rows_of link.lanes) (rows_of l.lanes)
          (lane_rows new link j ∙ ap rows_in lanes ∙ sym (lane_rows s l joined));
      stood = same_is (rows_of link.stood) (rows_of l.stood) (f.stood ∙ append-nil (rows_of l.stood));
      released = same_is (rows_of link.released) (rows_of l.released) (j.released ∙ releases);
      left = subst (λ (xs : List Row). HasSameCounts (rows_of link.left) xs) (append-nil new.left ∙ leaves)
          (same_permutation (rows_of link.left) (new.left ++ []) j.left);
      took = subst (λ (xs : List Row). HasSameCounts (rows_of link.took) xs) takes
          (same_sym new.taken (rows_of link.took) (same_permutation new.taken (rows_of link.took) j.taken));
      asked = f.asked_is ∙ append-nil l.asked;
      performed = f.performed_is ∙ ap (λ (xs : List Command). l.performed ++ xs) none ∙ append-nil l.performed;
    }

-- ---- the links below

link_of_map : (links : List Relaying) (i : ℕ) → link_in (map relaying.hung_up links) i ≡ relaying.hung_up (link_in links i)
link_of_map [] i = refl
link_of_map (r ∷ links) zero = refl
link_of_map (r ∷ links) (suc i) = link_of_map links i

pub asked_of_map : (links : List Relaying) → map points_asked (map relaying.hung_up links) ≡ map points_asked links
asked_of_map [] = refl
asked_of_map (r ∷ links) = ap (λ (ps : List points.Plan). points_asked r ∷ ps) (asked_of_map links)

-- a substation whose master is gone, if there is one
abbrev gone : Option SubstationState → Option SubstationState
gone None = None
gone (Some s) = Some (master_gone s)

gone_at : (xs : List SubstationState) (i : ℕ) → slice_get (map master_gone xs) i ≡ gone (slice_get xs i)
gone_at [] i = refl
gone_at (x ∷ xs) zero = refl
gone_at (x ∷ xs) (suc i) = gone_at xs i

listed_gone : (n : ℕ) (xs : List SubstationState) → listed_from lane_rows_of n (map master_gone xs) ≡ listed_from lane_rows_of n xs
listed_gone n [] = refl
listed_gone n (x ∷ xs) = ap (λ (rows : List (ℕ × Row)). at_substation n (lane_rows_of x) ++ rows) (listed_gone (n + 1) xs)

-- what becomes of a link below
record Closes (now : ℕ) (r : Relaying) (l : LawLink) (o : Option SubstationState) : Type 0 where
  link : LawLink
  still : IsStill l link
  joined : IfSome (gone o) (IsJoinedBelow now (relaying.hung_up r) link)

closes : Grounds → (now : ℕ) (r : Relaying) (l : LawLink) (o : Option SubstationState) → CarriesLaw l → IfSome o (IsJoinedBelow now r l) → Closes now r l o
closes grounds now r l None stands j = record { link = l; still = same_still l stands; joined = tt }
closes grounds now r l (Some was) stands j =
    let s : LinkState ⊤ = seen_below now r was (lists_of l) in
    let s' : LinkState ⊤ = seen_below now (relaying.hung_up r) (master_gone was) (lists_of l) in
    let f : Follows [] [] [] was.outputs.performed l s' =
    grounds.happens (panel_of was) s s' (event.HangUp end.Master) l j.shown stands j.joined refl in
    record {
      link = f.link;
      still = still_of l s s' stands j.joined f refl refl refl refl refl;
      joined = record { joined = relisted s' f.link now f.joined; shown = j.shown };
    }

-- ---- the concentrator restarts

pub concentrator_restarts : Grounds → RestartLaws → (old new : System) {el : Elsewhere} (substation : ℕ) → IsStanding el old → new ≡ concentrator_restarted old
    → Keeps el substation [] old new
concentrator_restarts grounds laws old new {el = el} substation h after =
    let next : System = concentrator_restarted old in
    let relays : List Relaying = old.concentrator.links in
    let each : (i : ℕ) → Closes old.now (link_in relays i) (h.links.below i) (slice_get old.substations i) = λ i.
    closes grounds old.now (link_in relays i) (h.links.below i) (slice_get old.substations i) (h.behind.below_stands i) (h.below i) in
    let l : LawLink = h.links.above in
    let s : LinkState ⊤ = seen_above old (lists_of l) in
    let s' : LinkState ⊤ = seen_above next (lists_of l) in
    let f : Follows [] [] [] s.outstation.performed l s' = laws.restarts s s' l h.above refl in
    let links : Links = record { below = λ i. (each i).link; above = f.link } in
    let same : kept_in next ≡ kept_in old =
    ap (λ (rows : List (ℕ × Row)). record (kept_in old) { buffered = rows }) (listed_gone 0 old.substations) in
    let joined_as : (i : ℕ) → Relaying → Option SubstationState → Type 0 = λ i r o. IfSome o (IsJoinedBelow old.now r (each i).link) in
    subst (λ (x : System). Keeps el substation [] old x) (sym after)
    (record {
      standing = record {
        plan = h.plan;
        of_plan = still_of_plan old next h.plan refl refl refl refl (asked_of_map relays) h.of_plan;
        links = links;
        below = λ i.
            subst (λ (o : Option SubstationState). joined_as i (link_in (map relaying.hung_up relays) i) o) (sym (gone_at old.substations i))
            (subst (λ (r : Relaying). joined_as i r (gone (slice_get old.substations i))) (sym (link_of_map relays i)) (each i).joined);
        above = relisted s' f.link old.now f.joined;
        behind = subst (λ (k : KeptLists). IsBehind old.indices el links k) (sym same)
            (still_behind old.indices h.links links (kept_in old) (λ i. (each i).still)
            (still_of l s s' h.behind.above_stands h.above f refl refl refl refl refl) h.behind);
      };
      fate = subst (λ (k : KeptLists). IsFate (made_at substation []) (report_of old) (shown_of old.indices k)) (sym same)
          (λ i. none_more (of_substation i (happened (report_of old))));
    })
