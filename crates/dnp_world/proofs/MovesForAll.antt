-- What a clean round moves, as each centre sees it.
use Rattle.std.proofs.Common.{◌≡◌, ℕ, ◌<◌, Bool, true, false, not, List, ◌++◌, Some, refl, ap, ◌∙◌, sym}
use Rattle.std.proofs.lemmas.Bool.{and_parts, ltb-true}
use Rattle.std.specs.Prelude.{nat_lt}
use Rattle.dnp_controls.specs.Book.{Ledger}
use Rattle.dnp_eventbuf.specs.declared.pair.TheConstants.{CENTRES}
use Rattle.dnp_objects.specs.declared.command.Command.{Command}
use Rattle.dnp_outstation.specs.Polled.{Portion}
use Rattle.dnp_outstation.specs.State.{State}
use Rattle.dnp_world.specs.Behind.{Elsewhere}
use Rattle.dnp_world.specs.BothSteady.{AreSteady, beside}
use Rattle.dnp_world.specs.Centres as all
use Rattle.dnp_world.specs.Centres.{HappensToAll, SeesElsewhere, centre_of, is_elsewhere, seen_at}
use Rattle.dnp_world.specs.Movement.{MovesAbove, RoundMoves, is_repeated_on}
use Rattle.dnp_world.specs.Rounds.{IsRound, is_quiet_on}
use Rattle.dnp_world.specs.Steady.{IsSteadyBeside}
use Rattle.dnp_world.specs.SystemRuns.{Happens}
use Rattle.dnp_world.specs.Systems.{System, itself}
use Rattle.dnp_world.specs.WholeMoves.{MovesFor, Rests, RoundMovesAll}
use Rattle.dnp_world.specs.Wholes.{Whole, seen_by}
use Rattle.dnp_world.specs.declared.event.Link.{Link}
use Rattle.dnp_world.specs.declared.event.Link.TheVariants.{Below, Above}
use Rattle.dnp_world.proofs.PerCentre.{own_and_others}
use Rattle.dnp_world.proofs.Seen.{own_link, round_elsewhere, round_seen}

-- what the law of one centre's system promises
abbrev pub MovesLaw : Type 0
MovesLaw = (on : Link) (old new : System) (el : Elsewhere) → IsSteadyBeside el old → is_quiet_on old on ≡ true → IsRound Happens itself on old new
    → RoundMoves on old new

-- over a link above the book stays, and what was issued
above_rests : (n : ℕ) (old new : System) → RoundMoves (Above n) old new
    → (new.concentrator.controls ≡ old.concentrator.controls) × (new.history.issued ≡ old.history.issued)
above_rests n old new m = by (is_repeated_on old (Above n)) refl
  where
    of : {portion : State → Portion} → MovesAbove portion old new → (new.concentrator.controls ≡ old.concentrator.controls)
        × (new.history.issued ≡ old.history.issued)
    of x = (ap (λ c. c.controls) x.concentrator, ap (λ h. h.issued) x.history)

    by : (b : Bool) → is_repeated_on old (Above n) ≡ b
        → (new.concentrator.controls ≡ old.concentrator.controls) × (new.history.issued ≡ old.history.issued)
    by true is = of (m.repeated is)
    by false is = of (m.polled is)

-- to another centre nothing moves but the point that is reserved
other_rests : (old new : System) → SeesElsewhere old new → new.concentrator.controls ≡ old.concentrator.controls
    → new.history.issued ≡ old.history.issued → Rests old new
other_rests old new x book issued =
    let set : Ledger → List (ℕ × Command) → System = λ controls issues. record old {
      concentrator = record old.concentrator { controls = controls; reserved = new.concentrator.reserved };
      history = record old.history { issued = issues };
    } in
    x.after
    ∙ ap (λ (b : Ledger). set b (old.history.issued ++ x.issues)) (sym (ap (λ (s : System). s.concentrator.controls) x.after) ∙ book)
    ∙ ap (set old.concentrator.controls) (sym (ap (λ (s : System). s.history.issued) x.after) ∙ issued)

pub moves_all : MovesLaw → (on : Link) (old new : Whole) → AreSteady old → all.is_quiet_on old on ≡ true
    → IsRound HappensToAll (seen_at (centre_of on)) on old new → RoundMovesAll on old new
moves_all law (Below substation) old new s quiet round = λ n low.
    law (Below substation) (seen_by n old) (seen_by n new) (beside n s.sides) (s.among n low).steady quiet
    (round_seen (seen_at (centre_of (Below substation))) n low (Below substation) refl refl (λ w way. refl) old new round)
moves_all law (Above n) old new s quiet round =
    let parts = and_parts (nat_lt n CENTRES) (is_quiet_on (seen_by n old) (Above n)) quiet in
    let low : n < CENTRES = ltb-true n CENTRES parts.0 in
    let m : RoundMoves (Above n) (seen_by n old) (seen_by n new) =
    law (Above n) (seen_by n old) (seen_by n new) (beside n s.sides) (s.among n low).steady parts.1
    (round_seen (seen_by n) n low (Above n) parts.0 (own_link n) (λ w way. refl) old new round) in
    let r = above_rests n (seen_by n old) (seen_by n new) m in
    own_and_others (λ m. MovesFor (is_elsewhere m (Some n)) (Above n) (seen_by m old) (seen_by m new)) n (rw (own_link n) m)
    (λ m few apart.
    let elsewhere : is_elsewhere m (Some n) ≡ true = ap not apart in
    rw elsewhere
    (other_rests (seen_by m old) (seen_by m new) (round_elsewhere m few (Above n) parts.0 elsewhere (seen_by n) old new round) r.0 r.1))
