-- What comes to the outstation of a link, whatever its outputs are.
use Rattle.std.proofs.Common.{◌≡◌, ℕ, ◌≤◌, Bool, true, false, List, [], ◌∷◌, ◌++◌, length, sym, ap, ◌∙◌, subst}
use Rattle.std.specs.Prelude.{⊤}
use Rattle.std.proofs.lemmas.Bool.{false≢true}
use Rattle.dnp_objects.specs.declared.row.Row.{Row}
use Rattle.dnp_objects.specs.declared.command.Command.{Command}
use Rattle.dnp_controls.specs.Panel.{Panel}
use Rattle.dnp_eventbuf.specs.EventBuffer.{rows_in}
use Rattle.dnp_line.specs.Ports.{PortState}
use Rattle.dnp_outstation.specs.Calls.{connection_after}
use Rattle.dnp_outstation.specs.State.{State, Step, Actions}
use Rattle.dnp_world.specs.Channels.{ChannelState, AnswersTo, ComesToOutstation, GoUp, left_at, left_by}
use Rattle.dnp_world.specs.OneLinkEvents.{LinkState, ComeDown, ComesDown}
use Rattle.dnp_world.specs.declared.link_event.Way.TheVariants as way
use Rattle.dnp_world.proofs.OneLinkSteps.{Laws, few_released, steps}

-- the link with another outstation, other lines, and another list of what was released
abbrev pub with_parts : {S : Type 0} → LinkState S → State → ChannelState → List Row → LinkState S
with_parts s state lines released = record s { outstation = state; channel = lines; released = released }

-- the line down has then given its front unit
settled : (repeats : Bool) (fragments : List (List ℕ)) (old new : ChannelState) → GoUp fragments old new
    → GoUp fragments (record old { down = left_by repeats old.down }) (record new { down = left_by repeats new.down })
settled repeats fragments old new up =
    record { sent = up.sent; after = ap (λ (c : ChannelState). record c { down = left_by repeats c.down }) up.after }

come : {S : Type 0} (follows : List Command → Type 0) (panel : Panel) (repeats : Bool) (old : LinkState S) (state : State) (does : Actions)
    (answered : Bool) (port : PortState) (lines : ChannelState) (released : List Row) (given : List (List ℕ))
    → AnswersTo given follows panel old.now old.outstation state does answered (record old.channel { outstation_port = port }) lines
    → (answered ≡ true → released ≡ old.released ++ does.discarded) → (answered ≡ false → released ≡ old.released)
    → ComeDown panel given (record old { channel = record old.channel { down = left_by repeats old.channel.down; outstation_port = port } })
    (with_parts old state (left_at way.Down repeats lines) released)
come follows panel repeats old state does answered port lines released [] (none, same, is, _) some all =
    ap (λ (s : State). with_parts old s (left_at way.Down repeats lines) released) same
    ∙ ap (λ (c : ChannelState). with_parts old old.outstation (left_at way.Down repeats c) released) is
    ∙ ap (λ (rows : List Row). with_parts old old.outstation (left_at way.Down repeats (record old.channel { outstation_port = port })) rows) (all none)
come {S} follows panel repeats old state does answered port lines released (fragment ∷ others) (one, is, up, _) some all =
    steps (record old { channel = record old.channel { down = left_by repeats old.channel.down; outstation_port = port } })
    (connection_after old.outstation panel old.now fragment) state does (left_at way.Down repeats lines) released is
    (settled repeats does.send (record old.channel { outstation_port = port }) lines up) (some one)

-- what comes to the outstation's end is what comes down the link
pub comes : {S : Type 0} (follows : List Command → Type 0) (panel : Panel) (repeats : Bool) (old : LinkState S) (state : State) (does : Actions)
    (answered : Bool) (lines : ChannelState) (released : List Row)
    → ComesToOutstation follows panel old.now old.outstation state does answered old.channel lines
    → (answered ≡ true → released ≡ old.released ++ does.discarded) → (answered ≡ false → released ≡ old.released)
    → ComesDown panel (left_by repeats old.channel.down) old (with_parts old state (left_at way.Down repeats lines) released)
comes follows panel repeats old state does answered lines released c some all = record {
  port = c.port;
  given = c.given;
  heard = c.heard;
  came = come follows panel repeats old state does answered c.port lines released c.given c.came some all;
}

few_given : Laws → (follows : List Command → Type 0) (panel : Panel) (now : ℕ) (before after : State) (does : Actions) (answered : Bool)
    (old new : ChannelState) (given : List (List ℕ))
    → AnswersTo given follows panel now before after does answered old new → answered ≡ true
    → length does.discarded ≤ length (rows_in before.lanes)
few_given laws follows panel now before after does answered old new [] (none, same, is, _) one = absurd (false≢true (sym none ∙ one))
few_given laws follows panel now before after does answered old new (fragment ∷ others) (one, is, up, _) _ =
    subst (λ (step : Step). length step.does.discarded ≤ length (rows_in before.lanes)) is (few_released laws before panel now fragment)

-- no more rows are released than waited
pub few_came : Laws → (follows : List Command → Type 0) (panel : Panel) (now : ℕ) (before after : State) (does : Actions) (answered : Bool)
    (old new : ChannelState)
    → ComesToOutstation follows panel now before after does answered old new → answered ≡ true
    → length does.discarded ≤ length (rows_in before.lanes)
few_came laws follows panel now before after does answered old new c one =
    few_given laws follows panel now before after does answered (record old { outstation_port = c.port }) new c.given c.came one

unfollowed_by : (follows : List Command → Type 0) (panel : Panel) (now : ℕ) (before after : State) (does : Actions) (answered : Bool) (old new : ChannelState)
    (given : List (List ℕ)) → AnswersTo given follows panel now before after does answered old new
    → AnswersTo given (λ _. ⊤) panel now before after does answered old new
unfollowed_by follows panel now before after does answered old new [] (none, same, is, _) = (none, same, is, tt)
unfollowed_by follows panel now before after does answered old new (fragment ∷ others) (one, is, up, _) = (one, is, up, tt)

-- whatever its outputs performed
pub unfollowed : (follows : List Command → Type 0) (panel : Panel) (now : ℕ) (before after : State) (does : Actions) (answered : Bool) (old new : ChannelState)
    → ComesToOutstation follows panel now before after does answered old new → ComesToOutstation (λ _. ⊤) panel now before after does answered old new
unfollowed follows panel now before after does answered old new c = record {
  port = c.port;
  given = c.given;
  heard = c.heard;
  came = unfollowed_by follows panel now before after does answered (record old { outstation_port = c.port }) new c.given c.came;
}
