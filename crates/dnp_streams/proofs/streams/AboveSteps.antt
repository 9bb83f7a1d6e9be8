-- What a stream sees of a step of a concentrator's outstation towards a centre.
use Rattle.std.proofs.Common.{◌≡◌, ℕ, List, [], ◌∷◌, Option, refl, ap}
use Rattle.dnp_concentrator.specs.BookOutputs.{Performs, all_added, book_in, map_in}
use Rattle.dnp_concentrator.specs.declared.book_outputs.BookOutputs.{BookOutputs}
use Rattle.dnp_concentrator.specs.declared.span.Spans.{Spans}
use Rattle.dnp_controls.specs.Book.{Ledger}
use Rattle.dnp_objects.specs.declared.command.Command.{Command}
use Rattle.dnp_outstation.specs.State.{State}
use Rattle.dnp_streams.specs.streams.Concentrators.{AboveSeen}

abbrev above : State → List Spans → Ledger → (ℕ → Option Command) → AboveSeen
above whole indices controls reserved = record { whole = whole; indices = indices; controls = controls; reserved = reserved }

-- the outstation is seen as its parts are
pub above_is : (whole : State) (indices indices' : List Spans) (controls controls' : Ledger) (reserved reserved' : ℕ → Option Command)
    → indices' ≡ indices → controls' ≡ controls → reserved' ≡ reserved → above whole indices' controls' reserved' ≡ above whole indices controls reserved
above_is whole indices indices' controls controls' reserved reserved' a b c = cc

-- outputs that performed commands have added them to the book, and kept their index map
pub performed_above : {B : Type 0} (contents : B → Ledger) (old new : BookOutputs B) (commands : List Command) → (commands ≡ [] → new ≡ old)
    → ((commands ≡ [] → ⊥) → Performs contents old commands new)
    → (map_in new ≡ map_in old) × (contents (book_in new) ≡ all_added (map_in old) (contents (book_in old)) commands)
performed_above {B} contents old new [] idle performed =
    (ap (λ (o : BookOutputs B). map_in o) (idle refl), ap (λ (o : BookOutputs B). contents (book_in o)) (idle refl))
performed_above contents old new (command ∷ commands) idle performed =
    let does = performed (λ none. cc) in
    (does.0, does.1)
