-- An outstation's steps come out in one way.
use Rattle.std.proofs.Common.{◌≡◌, ℕ, List, [], ◌∷◌, ◌++◌, refl, sym, ap, ◌∙◌}
use Rattle.dnp_controls.specs.Latches.{plain_check, plain_panel, status_of}
use Rattle.dnp_controls.specs.Panel.{Panel}
use Rattle.dnp_controls.specs.declared.limits.TheConstants.{MAX_COMMANDS}
use Rattle.dnp_objects.specs.declared.command.Command.{Command}
use Rattle.dnp_outstation.specs.Calls.{opened_of, connection_after, performed_in}
use Rattle.dnp_outstation.specs.State.{State, Actions, Step}
use Rattle.dnp_streams.specs.streams.Stations.{Answer}
use Rattle.dnp_streams.specs.streams.OneWay.{OpensOneWay, ReceivesOneWay}
use Rattle.dnp_streams.specs.streams.Outstations.{Seen, answer_by, Perform, ShowOneWay, outstation_opens, outstation_receives}

abbrev seen : State → Panel → Seen
seen whole panel = record { whole = whole; panel = panel }

same_seen : (a b : State) (p q : Panel) → a ≡ b → p ≡ q → seen a p ≡ seen b q
same_seen a b p q states panels = cc

-- one step, one answer and one state
pub same_step : (step : Step) (a b : State) (does does' : Actions) (answer answer' : Answer) → step ≡ record { state = a; does = does }
    → step ≡ record { state = b; does = does' }
    → answer ≡ answer_by does → answer' ≡ answer_by does' → (answer ≡ answer') × (a ≡ b)
same_step step a b does does' answer answer' first second is is' =
    let both : record { state = a; does = does } ≡ record { state = b; does = does' } = sym first ∙ second in
    (is ∙ ap (λ (s : Step). answer_by s.does) both ∙ sym is', ap (λ (s : Step). s.state) both)

pub opens_one_way : OpensOneWay outstation_opens
opens_one_way old new other now a b first second =
    let (answers, states) = same_step (opened_of old.whole now)
    new.whole other.whole first.does second.does a b first.step second.step first.answered second.answered in
    (answers, same_seen new.whole other.whole new.panel other.panel states (first.outputs ∙ sym second.outputs))

-- what is shown after the commands of a step
panels : {O : Type 0} (panel : O → Panel) (performs : O → List Command → O → Type 0) → ShowOneWay panel performs → (old : Panel) (commands : List Command)
    (new other : Panel)
    → (commands ≡ [] → new ≡ old) → (commands ≡ [] → other ≡ old)
    → ((commands ≡ [] → ⊥) → Perform panel performs old commands new) → ((commands ≡ [] → ⊥) → Perform panel performs old commands other) → new ≡ other
panels panel performs one old [] new other idle idle' performed performed' = idle refl ∙ sym (idle' refl)
panels panel performs one old (command ∷ commands) new other idle idle' performed performed' =
    let some : command ∷ commands ≡ [] → ⊥ = λ none. cc in
    let first = performed some in
    let second = performed' some in
    sym first.shows
    ∙ one first.before second.before first.after second.after (command ∷ commands) (first.shown ∙ sym second.shown) first.performed second.performed
    ∙ second.shows

pub receives_one_way : {O : Type 0} (panel : O → Panel) (performs : O → List Command → O → Type 0) → ShowOneWay panel performs
    → ReceivesOneWay (outstation_receives panel performs)
receives_one_way panel performs one old new other now octets a b first second =
    let (answers, states) =
    same_step (connection_after old.whole old.panel now octets)
    new.whole other.whole first.does second.does a b first.step second.step first.answered second.answered in (
      answers,
      same_seen new.whole other.whole new.panel other.panel states
          (panels panel performs one old.panel (performed_in old.whole.core old.panel now octets) new.panel other.panel
          first.idle second.idle first.performed second.performed),
    )

-- ---- outputs in memory

abbrev panel_by : ℕ → (Command → ℕ) → List Command → Panel
panel_by outputs check performed = record { most = MAX_COMMANDS; outputs = outputs; status = status_of performed; check = check; performed = performed }

pub plain_one_way : ShowOneWay plain_panel (λ old commands new. new ≡ record old { performed = old.performed ++ commands })
plain_one_way o p q r commands same first second =
    let outputs : o.outputs ≡ p.outputs = ap (λ (s : Panel). s.outputs) same in
    let checks : plain_check o.outputs o.setpoints ≡ plain_check p.outputs p.setpoints = ap (λ (s : Panel). s.check) same in
    let performed : o.performed ≡ p.performed = ap (λ (s : Panel). s.performed) same in
    ap plain_panel first
    ∙ ap (λ (n : ℕ). panel_by n (plain_check o.outputs o.setpoints) (o.performed ++ commands)) outputs
    ∙ ap (λ (c : Command → ℕ). panel_by p.outputs c (o.performed ++ commands)) checks
    ∙ ap (λ (l : List Command). panel_by p.outputs (plain_check p.outputs p.setpoints) (l ++ commands)) performed
    ∙ sym (ap plain_panel second)
