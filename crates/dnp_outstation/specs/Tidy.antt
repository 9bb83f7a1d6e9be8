-- Definition: what stands in the lanes of what a connection gave (IEEE Std 1815-2012, application layer: responses of
-- several fragments, confirms).
use Rattle.std.specs.Prelude.{◌≡◌, ℕ, List, length, Option, IfSome, ⊤}
use Rattle.dnp_eventbuf.specs.EventBuffer.{EventBuffer}
use Rattle.dnp_objects.specs.declared.limits.TheConstants.{LANES}
use Rattle.dnp_outstation.specs.declared.offer.place.ReadPlace.{ReadPlace}
use Rattle.dnp_outstation.specs.declared.session.Reply.{Reply}
use Rattle.dnp_outstation.specs.declared.session.Reply.TheVariants.{Held, Silent, First, Further}
use Rattle.dnp_outstation.specs.declared.session.LastRequest.{LastRequest}
use Rattle.dnp_outstation.specs.Laws.{LeavesOnly}
use Rattle.dnp_outstation.specs.State.{State}

-- the fragment with these ids is the last one given of a response that goes on at this place, if it goes on: of all
-- that the response gave only its rows are left
abbrev pub IsLastGiven : EventBuffer → Option ReadPlace → List ℕ → Type 0
IsLastGiven s left upto = IfSome left (λ place. LeavesOnly s place.given upto)

-- so it is of the first fragment, as long as no other was sent
abbrev pub IsFirstGiven : EventBuffer → LastRequest → Type 0
IsFirstGiven s last = by_reply last.reply
  where
    by_reply : Reply → Type 0
    by_reply Held = ⊤
    by_reply Silent = ⊤
    by_reply (First f) = IsLastGiven s last.left f.upto
    by_reply Further = ⊤

-- so it is of the fragment whose confirm is awaited, and of the first one, which may go out and be awaited again
pub record LeavesNothing (s : State) : Type 0 where
  pub awaited : IfSome s.core.session.awaited (λ w. IfSome s.core.session.last (λ last. IsLastGiven s.lanes last.left w.upto))
  pub first : IfSome s.core.session.last (IsFirstGiven s.lanes)
  -- an unsolicited response has an id for each lane
  pub unsolicited : IfSome s.core.session.unsolicited (λ w. length w.upto ≡ LANES)
