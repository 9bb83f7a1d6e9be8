-- What one centre sees of what is at another one keeps its system steady.
use Rattle.std.proofs.Common.{ℕ, List, [], ◌++◌, Option, refl, sym, subst}
use Rattle.std.specs.Prelude.{⊤}
use Rattle.dnp_objects.specs.declared.command.Command.{Command}
use Rattle.dnp_objects.specs.Counts.{IsCoveredBy}
use Rattle.dnp_concentrator.specs.Reserving.{Reserved}
use Rattle.dnp_concentrator.specs.BookOutputs.{all_added}
use Rattle.dnp_controls.specs.Book.{Ledger}
use Rattle.dnp_world.specs.Behind.{Elsewhere, IsFrom, Links}
use Rattle.dnp_world.specs.BothSteady.{IssuesAs, RelaysAs, StaysBeside}
use Rattle.dnp_world.specs.Centres.{SeesElsewhere}
use Rattle.dnp_world.specs.Joined.{Joined}
use Rattle.dnp_world.specs.Kept.{report_of}
use Rattle.dnp_world.specs.LawLink.{LawLink}
use Rattle.dnp_world.specs.OneLinkEvents.{LinkState}
use Rattle.dnp_world.specs.OutstationSeen.{Shows}
use Rattle.dnp_world.specs.Stations.{of_substation}
use Rattle.dnp_world.specs.Steady.{IsSteadyBeside}
use Rattle.dnp_world.specs.Systems.{System, middle_of}
use Rattle.dnp_world.specs.SystemStanding.{lists_of, seen_above}
use Rattle.dnp_world.proofs.BelowKeeps.{shown_by}
use Rattle.dnp_world.proofs.Lasting.{nothing_more}
use Rattle.dnp_world.proofs.StepBooks.{Carries, SoundLaw, all_added_carries, carried}
use Rattle.dnp_world.proofs.SystemMapping.{added_unused}
use Rattle.dnp_world.proofs.SystemPlans.{still_of_plan}

-- what others had performed is no matter of the link
performed_set : (s : LinkState ⊤) (l : LawLink) (performed : List Command) → Joined [] s l
    → Joined [] (record s { outstation = record s.outstation { performed = performed } }) l
performed_set s l performed j =
    let shows : Shows s.outstation l = j.outstation in
    let well = shows.well in
    let tidy = well.tidy in
    shown_by s l _ refl (record {
      outstation = shows.outstation;
      lanes = shows.lanes;
      well = record {
        lanes = well.lanes;
        points = well.points;
        order = well.order;
        tidy = record { awaited = tidy.awaited; first = tidy.first; unsolicited = tidy.unsolicited };
        ids = well.ids;
      };
    }) j

-- the system that it sees then
abbrev pub seen_then : System → List Command → (ℕ → Option Command) → List (ℕ × Command) → System
seen_then s commands reserved issues = record s {
  concentrator = record s.concentrator { controls = all_added s.concentrator.indices s.concentrator.controls commands; reserved = reserved };
  history = record s.history { issued = s.history.issued ++ issues };
}

-- with the same links, beside what stands elsewhere then
beside_then : SoundLaw → (s : System) {el : Elsewhere} (others : Elsewhere) (commands : List Command) (reserved : ℕ → Reserved)
    (issues : List (ℕ × Command)) (h : IsSteadyBeside el s) → IsFrom s.indices others
    → RelaysAs others h.standing.links (seen_then s commands reserved issues) → IssuesAs others (seen_then s commands reserved issues)
    → StaysBeside others h.standing.links s (seen_then s commands reserved issues)
beside_then sound s others commands reserved issues h from relays issued =
    let next : System = seen_then s commands reserved issues in
    let was : Ledger = s.concentrator.controls in
    let k = h.standing in
    let b = k.behind in
    let p = h.planned in
    let carries : Carries was next.concentrator.controls = all_added_carries sound s.concentrator.indices was commands in
    record {
      steady = record {
        standing = record {
          plan = k.plan;
          of_plan = still_of_plan s next k.plan refl refl refl refl refl k.of_plan;
          links = k.links;
          below = k.below;
          above = performed_set (seen_above s (lists_of k.links.above)) k.links.above (middle_of next.concentrator).performed k.above;
          behind = record {
            below_stands = b.below_stands;
            above_stands = b.above_stands;
            buffered = b.buffered;
            confirmed = b.confirmed;
            left = b.left;
            joined = b.joined;
            mapped = b.mapped;
            queue = b.queue;
            dropped = b.dropped;
            journal = b.journal;
            lost = b.lost;
            operated = b.operated;
            asked_below = λ i.
                subst (λ (xs : List (ℕ × Command)). IsCoveredBy (k.links.below i).asked (of_substation i xs))
                (sym (added_unused s.concentrator.indices was commands)) (b.asked_below i);
            relayed = relays;
            asked_above = b.asked_above;
            issued = issued;
            theirs = from;
          };
        };
        happened = h.happened;
        planned = record {
          plan = p.plan;
          limits = p.limits;
          happened = record { points = p.happened.points; rows = p.happened.rows };
          indices = p.indices;
          below = p.below;
          above = p.above;
        };
        settled = h.settled;
        controls = record {
          below = λ substation. carried was next.concentrator.controls substation _ carries (h.controls.below substation);
          above = h.controls.above;
          controls = carries.sound h.controls.controls;
          orders = h.controls.orders;
          widths = h.controls.widths;
        };
      };
      same = refl;
      fate = nothing_more (report_of s);
    }

pub sees_elsewhere : SoundLaw → (old new : System) {el : Elsewhere} (others : Elsewhere) (h : IsSteadyBeside el old) → SeesElsewhere old new
    → IsFrom old.indices others → RelaysAs others h.standing.links new → IssuesAs others new → StaysBeside others h.standing.links old new
sees_elsewhere sound old new others h x from relays issued =
    let links : Links = h.standing.links in
    subst (λ (s : System). StaysBeside others links old s) (sym x.after)
    (beside_then sound old others x.commands new.concentrator.reserved x.issues h from (subst (RelaysAs others links) x.after relays)
    (subst (IssuesAs others) x.after issued))
