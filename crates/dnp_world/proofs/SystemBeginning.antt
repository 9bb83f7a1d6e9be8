-- Before the first event of a system.
use Rattle.std.proofs.Common.{◌≡◌, ℕ, List, [], ◌++◌, length, refl, sym, ap, ◌∙◌, subst}
use Rattle.std.proofs.lemmas.List.Elements.{All-nil}
use Rattle.dnp_objects.specs.declared.command.Command.{Command}
use Rattle.dnp_objects.specs.Counts.{IsCoveredBy}
use Rattle.dnp_eventbuf.specs.Buffered.{Buffered}
use Rattle.dnp_concentrator.specs.declared.span.Spans.{Spans}
use Rattle.dnp_world.specs.Behind.{alone, Links, IsBehind, IsUntouched, rows_of}
use Rattle.dnp_world.specs.CommandWidths.{HasWidths}
use Rattle.dnp_world.specs.Kept.{nothing_kept, rows_below, commands_below}
use Rattle.dnp_world.specs.LawLink.{LawLink}
use Rattle.dnp_world.specs.Standing.{CarriesLaw, IsFresh}
use Rattle.dnp_world.specs.Stations.{of_substation, HasSameCounts}
use Rattle.dnp_world.proofs.Counting.{covered_nil}
use Rattle.dnp_world.proofs.SystemCounts.{same_refl, same_is}

no_rows : (events : List Buffered) → events ≡ [] → HasSameCounts (rows_of events) []
no_rows events e = same_is (rows_of events) [] (ap rows_of e)

-- over empty stores, behind empty lists, there are links on which nothing has happened
pub fresh_behind : (starts : (l : LawLink) → IsFresh l → CarriesLaw l) → (indices : List Spans) (links : Links) → ((i : ℕ) → IsUntouched (links.below i))
    → IsUntouched links.above → IsBehind indices alone links nothing_kept
fresh_behind starts indices links below above =
    let stood : links.above.stood ≡ [] = above.fresh.stood ∙ above.lanes in
    record {
      below_stands = λ i. starts (links.below i) (below i).fresh;
      above_stands = starts links.above above.fresh;
      buffered = λ i. no_rows (links.below i).lanes (below i).lanes;
      confirmed = λ i. no_rows (links.below i).released (below i).fresh.released;
      left = λ i. no_rows (links.below i).left (below i).fresh.left;
      joined = λ i. subst (λ (xs : List Buffered). HasSameCounts (rows_of (links.below i).took) (of_substation i (rows_below indices (rows_of xs)))) (sym stood)
          (no_rows (links.below i).took (below i).fresh.took);
      mapped = subst (λ (xs : List Buffered). length (rows_below indices (rows_of xs)) ≡ length xs) (sym stood) refl;
      queue = no_rows links.above.lanes above.lanes;
      dropped = no_rows links.above.left above.fresh.left;
      journal = no_rows links.above.took above.fresh.took;
      lost = refl;
      operated = λ i. same_is (links.below i).performed [] (below i).fresh.performed;
      asked_below = λ i. subst (λ (xs : List Command). IsCoveredBy xs []) (sym (below i).asked) (covered_nil []);
      relayed = subst (λ (xs : List Command). HasSameCounts (commands_below indices xs ++ []) []) (sym above.fresh.performed) (same_refl []);
      asked_above = subst (λ (xs : List Command). IsCoveredBy xs []) (sym above.asked) (covered_nil []);
      issued = same_refl [];
      theirs = record { entered = covered_nil []; widths = All-nil HasWidths };
    }
