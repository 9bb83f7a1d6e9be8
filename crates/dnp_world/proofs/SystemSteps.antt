-- What comes to a substation.
use Rattle.std.proofs.Common.{◌≡◌, ℕ, ◌≤◌, Bool, true, false, List, [], ◌∷◌, ◌++◌, ◌-◌, length, take, drop, refl, sym, ap, ◌∙◌, subst, arith}
use Rattle.std.specs.Prelude.{if◌then◌else◌, nat_lt, pos}
use Rattle.std.proofs.lemmas.Bool.Decides.{nat_tests}
use Rattle.std.proofs.lemmas.List.{drop_at}
use Rattle.dnp_objects.specs.declared.command.Command.{Command}
use Rattle.dnp_objects.specs.declared.row.Row.{Row}
use Rattle.dnp_controls.specs.Latches.{PlainState, plain_panel}
use Rattle.dnp_controls.specs.Panel.{Panel}
use Rattle.dnp_objects.specs.Status as status
use Rattle.dnp_objects.specs.declared.command.Command.TheVariants.{Set16}
use Rattle.dnp_outstation.specs.State.{State, Step, Actions}
use Rattle.std.proofs.lemmas.Bool.{false≢true}
use Rattle.std.proofs.lemmas.List.{length-take, length-drop, take_all}
use Rattle.dnp_outstation.specs.Calls.{connection_after, performed_in}
use Rattle.dnp_outstation.specs.Links as those
use Rattle.dnp_line.specs.Lines.{LineState}
use Rattle.dnp_line.specs.Ports.{PortState}
use Rattle.dnp_world.specs.Channels.{AnswersTo, ChannelState, ComesToOutstation, GoUp, HavePerformed, left_by}
use Rattle.dnp_world.specs.SystemEvents.{ComesToSubstation, SubstationAnswers, SubstationSteps}
use Rattle.dnp_world.specs.Systems.{SubstationState, station_of, panel_of}
use Rattle.dnp_world.proofs.SystemComing.{relined}

abbrev pub Performs : PlainState → List Command → PlainState → Type 0
Performs old commands new = new ≡ record old { performed = old.performed ++ commands }

-- its outputs are what they were but for what they performed
pub outputs_with : (commands : List Command) (old new : PlainState) → HavePerformed Performs commands old new → new ≡ record old { performed = new.performed }
outputs_with [] old new h = h.idle refl ∙ ap (λ (o : PlainState). record old { performed = o.performed }) (sym (h.idle refl))
outputs_with (command ∷ commands) old new h =
    let is : new ≡ record old { performed = old.performed ++ command ∷ commands } = h.performed (λ none. absurd (cc)) in
    is ∙ ap (λ (o : PlainState). record old { performed = o.performed }) (sym is)

-- the rows that are released, where it is answered and where it isn't
abbrev pub released_by : Bool → Actions → List Row
released_by true does = does.discarded
released_by false does = []

answers : (was is : SubstationState) (now : ℕ) (port : PortState) (does : Actions) (answered repeats : Bool) (lines : ChannelState) (given : List (List ℕ))
    → AnswersTo given (λ commands. HavePerformed Performs commands was.outputs is.outputs) (panel_of was) now (station_of was) (station_of is) does answered
    (record was.channel { outstation_port = port }) lines
    → SubstationAnswers given now (released_by answered does)
    (record was { channel = record was.channel { down = left_by repeats was.channel.down; outstation_port = port } })
    (record is { channel = record lines { down = left_by repeats lines.down } })
answers was is now port does answered repeats lines [] (none, same, kept, follows) = (
  ap (λ (b : Bool). released_by b does) none,
  ap (λ (s : State). record is { core = s.core; lanes = s.lanes; channel = record lines { down = left_by repeats lines.down } }) same
      ∙ ap (λ (o : PlainState). record was { outputs = o; channel = record lines { down = left_by repeats lines.down } }) (follows.idle refl)
      ∙ ap (λ (l : ChannelState). record was { channel = record l { down = left_by repeats l.down } }) kept,
)
answers was is now port does answered repeats lines (fragment ∷ others) (one, step_is, up, follows) =
    let down : lines.down ≡ was.channel.down = ap (λ (l : ChannelState). l.down) up.after in
    let last : ChannelState = record lines { down = left_by repeats lines.down } in
    let first : ChannelState = record was.channel { down = left_by repeats was.channel.down; outstation_port = port } in
    let commands : List Command = performed_in was.core (panel_of was) now fragment in
    subst (λ (step : Step). (released_by answered does ≡ step.does.discarded)
    × SubstationSteps step first (record was { channel = first }) (record is { channel = last })) (sym step_is) (
      ap (λ (b : Bool). released_by b does) one,
      record {
        sent = subst (λ (l : LineState). GoUp does.send (record was.channel { down = left_by repeats l; outstation_port = port }) last) down
            (relined does.send (record was.channel { outstation_port = port }) lines (left_by repeats lines.down) up);
        after = ap (λ (o : PlainState). record is { outputs = o; channel = last }) (outputs_with commands was.outputs is.outputs follows);
      },
    )

-- what comes to the outstation's end of the lines is what comes to the substation
pub comes : (was is : SubstationState) (now : ℕ) (does : Actions) (answered repeats : Bool) (lines : ChannelState)
    → ComesToOutstation (λ commands. HavePerformed Performs commands was.outputs is.outputs) (panel_of was) now (station_of was) (station_of is) does
    answered was.channel lines
    → ComesToSubstation (left_by repeats) now (released_by answered does) was (record is { channel = record lines { down = left_by repeats lines.down } })
comes was is now does answered repeats lines came = record {
  port = came.port;
  given = came.given;
  heard = came.heard;
  came = answers was is now came.port does answered repeats lines came.given came.came;
}

-- ---- how much is performed

abbrev pub PerformLaw : Type 0
PerformLaw = (s : State) (o : Panel) (now : ℕ) (octets : List ℕ) → those.Performs o octets s.performed (connection_after s o now octets).state.performed

few_given : PerformLaw → (follows : List Command → Type 0) (panel : Panel) (now : ℕ) (before after : State) (does : Actions) (answered : Bool)
    (old new : ChannelState) (given : List (List ℕ)) → AnswersTo given follows panel now before after does answered old new → answered ≡ true
    → length (drop (length before.performed) after.performed) ≤ panel.most
few_given law follows panel now before after does answered old new [] (none, same, is, _) one = absurd (false≢true (sym none ∙ one))
few_given law follows panel now before after does answered old new (fragment ∷ others) (one, step_is, up, _) _ =
    let p = law before panel now fragment in
    let performed : after.performed ≡ before.performed ++ p.those = ap (λ (step : Step). step.state.performed) (sym step_is) ∙ p.is in
    subst (λ (commands : List Command). length commands ≤ panel.most)
    (sym (ap (λ (commands : List Command). drop (length before.performed) commands) performed
    ∙ drop_at before.performed p.those (length before.performed) refl)) p.few

-- no more commands are performed than one request may have
pub few_performed : PerformLaw → (follows : List Command → Type 0) (panel : Panel) (now : ℕ) (before after : State) (does : Actions) (answered : Bool)
    (old new : ChannelState) → ComesToOutstation follows panel now before after does answered old new → answered ≡ true
    → length (drop (length before.performed) after.performed) ≤ panel.most
few_performed law follows panel now before after does answered old new c one =
    few_given law follows panel now before after does answered (record old { outstation_port = c.port }) new c.given c.came one

-- a view of what was performed since
pub few_since : (a b p q : List Command) (most room : ℕ) → a ≡ p → b ≡ q → length (drop (length p) q) ≤ most → most ≤ room
    → length (take (length b - length a) (drop (length a) b)) ≤ room
few_since a b p q most room a_is b_is few low =
    let here : length (drop (length a) b) ≤ most =
    subst (λ (xs : List Command). length (drop (length xs) b) ≤ most) (sym a_is)
    (subst (λ (xs : List Command). length (drop (length p) xs) ≤ most) (sym b_is) few) in
    omega (arith, length-take (length b - length a) (drop (length a) b), here, low)

pub since_is : (a b p q : List Command) → a ≡ p → b ≡ q → take (length b - length a) (drop (length a) b) ≡ drop (length p) q
since_is a b p q a_is b_is =
    take_all (length b - length a) (drop (length a) b) (omega (arith, length-drop (length a) b))
    ∙ ap (λ (xs : List Command). drop (length xs) b) a_is ∙ ap (λ (xs : List Command). drop (length p) xs) b_is

-- ---- outputs that show the same

answers_alike : (b c : Bool) → (if b then status.success else status.not_supported) ≡ (if c then status.success else status.not_supported)
    → c ≡ false → b ≡ false
answers_alike false c h none = refl
answers_alike true true h none = absurd (cc)
answers_alike true false h none = absurd (omega (arith, h))

most_of : (m n : ℕ) → (if nat_lt n m then status.success else status.not_supported) ≡ (if nat_lt n n then status.success else status.not_supported) → m ≤ n
most_of m n h =
    let over : nat_lt n n ≡ false = grind (arith, nat_tests) in
    let none : nat_lt n m ≡ false = answers_alike (nat_lt n m) (nat_lt n n) h over in
    grind (arith, nat_tests, none)

-- they are the same
pub same_outputs : (a b : PlainState) → plain_panel a ≡ plain_panel b → a ≡ b
same_outputs a b e =
    let setpoints : a.setpoints ≡ b.setpoints =
    omega (
      arith,
      most_of a.setpoints b.setpoints (ap (λ (p : Panel). p.check (Set16 b.setpoints (pos 0))) e),
      most_of b.setpoints a.setpoints (sym (ap (λ (p : Panel). p.check (Set16 a.setpoints (pos 0))) e)),
    ) in
    ap (λ (p : Panel). record a { outputs = p.outputs; performed = p.performed }) e
    ∙ ap (λ (n : ℕ). record b { setpoints = n }) setpoints
