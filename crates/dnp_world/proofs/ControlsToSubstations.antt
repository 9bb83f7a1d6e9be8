-- A step of relaying to a substation, and what comes of it.
use Rattle.std.proofs.Common.{◌≡◌, ℕ, ◌<◌, true, false, Bool, List, [], ◌++◌, length, Some, None, append-nil, refl, sym, ap, ◌∙◌, subst, arith}
use Rattle.std.specs.Prelude.{slice_get, if◌then◌else◌}
use Rattle.std.proofs.lemmas.Option.{none-some, same_Some}
use Rattle.std.proofs.lemmas.List.{length-set}
use Rattle.dnp_concentrator.specs.Relaying.{Relaying, Step, relaying_after}
use Rattle.dnp_controls.specs.Book.{Ledger}
use Rattle.dnp_controls.specs.Latches.{plain_check}
use Rattle.dnp_controls.specs.Panel.{Panel}
use Rattle.dnp_objects.specs.declared.command.Command.{Command}
use Rattle.dnp_outstation.specs.State.{State}
use Rattle.dnp_world.specs.Arriving.{UnderWay, channel_at}
use Rattle.dnp_world.specs.ControlExchanges.{AnswersAll, ChecksAs, ExchangeEnds, HearsAnswers, next_step, status_at, told_to}
use Rattle.dnp_world.specs.Controls.{Passes, PassesBack}
use Rattle.dnp_world.specs.SystemEvents.{Refuses, RelaysOn, Steps, requests_of, told}
use Rattle.dnp_world.specs.SystemRuns.{Happens, IfThere}
use Rattle.dnp_world.specs.Systems.{SubstationState, System, has_substation, itself, link_at, station_of}
use Rattle.dnp_world.specs.declared.event.Link.TheVariants.{Below}
use Rattle.dnp_world.proofs.RoundBelow.{LineLaws}
use Rattle.dnp_world.proofs.ControlsAccepted.{Back, IsTaken, OverLink, SaysSuccess, Told}
use Rattle.dnp_world.proofs.ControlsBelow.{DownBelow, KeptBelow, PerformsLaw, UpBelow, below_down, below_up, beside, join_below, on_lines, same_below}
use Rattle.dnp_world.proofs.ListedAt.{set_here}
use Rattle.dnp_world.proofs.SystemPlans.{link_here}

-- ---- what a system shows of the link

-- what is under way is so on a link of the plan
pub under_has : (substation : ℕ) (down up : List (List ℕ)) (s : System) → UnderWay (Below substation) down up s → has_substation s substation ≡ true
under_has substation down up s u = by (has_substation s substation) u.there
  where
    by : (b : Bool) → (if b then channel_at (slice_get s.substations substation) else None) ≡ Some u.channel → b ≡ true
    by true there = refl
    by false there = absurd (none-some u.channel there)

abbrev pub ends_below : ℕ → System → SubstationState → List (List ℕ) → ExchangeEnds
ends_below substation s was going =
    record { link = link_at s.concentrator substation; book = s.concentrator.controls; station = station_of was; going = going }

-- its outputs are so many
pub record SeenBelow (substation outputs setpoints : ℕ) (s : System) (ends : ExchangeEnds) : Type 0 where
  pub was : SubstationState
  pub there : slice_get s.substations substation ≡ Some was
  pub going : List (List ℕ)
  pub is : ends ≡ ends_below substation s was going
  pub under : UnderWay (Below substation) going [] s
  pub long : substation < length s.concentrator.links
  pub outputs_are : was.outputs.outputs ≡ outputs
  pub setpoints_are : was.outputs.setpoints ≡ setpoints

-- ---- a step of relaying

record RelayedBelow (substation : ℕ) (was : SubstationState) (going : List (List ℕ)) (old relayed : System) : Type 0 where
  is : SubstationState
  there : slice_get relayed.substations substation ≡ Some is
  is_as : is ≡ on_lines was is.channel
  under : UnderWay (Below substation) (going ++ requests_of (next_step substation (ends_below substation old was going))
      (link_at old.concentrator substation).master.seq)
      [] relayed
  link : link_at relayed.concentrator substation
      ≡ relaying_after (link_at old.concentrator substation) old.now (next_step substation (ends_below substation old was going))
  controls : relayed.concentrator.controls ≡ told_to substation (ends_below substation old was going)
  kept : KeptBelow substation [] old relayed

happens : (substation : ℕ) (old relayed : System) → has_substation old substation ≡ true
    → IfThere (has_substation old substation) (RelaysOn (Below substation)) old relayed → RelaysOn (Below substation) old relayed
happens substation old relayed has relays = subst (λ (b : Bool). IfThere b (RelaysOn (Below substation)) old relayed) has relays

relayed_below : LineLaws → (substation : ℕ) (was : SubstationState) (old relayed : System) (going : List (List ℕ))
    → slice_get old.substations substation ≡ Some was → substation < length old.concentrator.links → UnderWay (Below substation) going [] old
    → RelaysOn (Below substation) old relayed → IsTaken substation (ends_below substation old was going) → RelayedBelow substation was going old relayed
relayed_below laws substation was old relayed going there long under (Refuses refused same) taken = absurd (taken refused)
relayed_below laws substation was old relayed going there long under (Steps pending sends) taken =
    let step : Step = next_step substation (ends_below substation old was going) in
    let requests : List (List ℕ) = requests_of step (link_at old.concentrator substation).master.seq in
    let link : Relaying = relaying_after (link_at old.concentrator substation) old.now step in
    let still : UnderWay (Below substation) going [] (told old (Below substation) step) =
    record { channel = under.channel; there = under.there; down_is = under.down_is; up_is = under.up_is } in
    let from : sends.was ≡ was = same_Some sends.was was (sym sends.there ∙ there) in
    record {
      is = sends.is;
      there = ap (λ (s : System). slice_get s.substations substation) sends.after ∙ set_here old.substations substation was sends.is there;
      is_as = sends.changed.1 ∙ ap (λ (x : SubstationState). on_lines x sends.is.channel) from;
      under = laws.asked (Below substation) requests going [] link (told old (Below substation) step) relayed still sends;
      link = ap (λ (s : System). link_at s.concentrator substation) sends.after ∙ link_here old.concentrator.links substation link long;
      controls = ap (λ (s : System). s.concentrator.controls) sends.after;
      kept = same_below substation old relayed (ap beside sends.after)
          (ap (λ (s : System). length s.concentrator.links) sends.after ∙ length-set old.concentrator.links substation link)
          (ap (λ (s : System). s.history.operated) sends.after);
    }

told_below : (substation id : ℕ) (old relayed : System) (ends : ExchangeEnds) → Passes Happens itself (Below substation) (Some id) old relayed
    → relayed.concentrator.controls ≡ told_to substation ends → SaysSuccess (told_to substation ends) id
told_below substation id old relayed ends p controls status says = p.passes status (ap (λ (b : Ledger). status_at b id) controls ∙ says)

pub back_from : LineLaws → PerformsLaw → (substation id : ℕ) (command : Command) (outputs setpoints : ℕ) (was : SubstationState) (old new : System)
    (going : List (List ℕ)) → slice_get old.substations substation ≡ Some was → substation < length old.concentrator.links
    → UnderWay (Below substation) going [] old → was.outputs.outputs ≡ outputs → was.outputs.setpoints ≡ setpoints
    → PassesBack Happens itself (Below substation) (Some id) old new → IsTaken substation (ends_below substation old was going)
    → Back (SeenBelow substation outputs setpoints) (KeptBelow substation) substation id (plain_check outputs setpoints command) command old new
    (ends_below substation old was going)
back_from laws law substation id command outputs setpoints was old new going there long under outputs_are setpoints_are p taken =
    let has : has_substation old substation ≡ true = under_has substation going [] old under in
    let r : RelayedBelow substation was going old p.relayed =
    relayed_below laws substation was old p.relayed going there long under (happens substation old p.relayed has p.step.relays) taken in
    let step : Step = next_step substation (ends_below substation old was going) in
    let requests : List (List ℕ) = requests_of step (link_at old.concentrator substation).master.seq in
    let link : Relaying = relaying_after (link_at old.concentrator substation) old.now step in
    let (answers, arrive, under') = laws.down (Below substation) (going ++ requests) [] p.relayed p.answered r.under p.down in
    let d : DownBelow substation command r.is (going ++ requests) answers p.relayed p.answered =
    below_down law substation command r.is (going ++ requests) answers p.relayed p.answered r.there arrive in
    let (confirms, arrive_up, under_up) = laws.up (Below substation) [] answers p.answered new under' p.up in
    let long' : substation < length p.answered.concentrator.links = omega (arith, long, r.kept.links, d.kept.links) in
    let u : UpBelow substation d.is answers confirms p.answered new = below_up substation d.is answers confirms p.answered new d.there long' arrive_up in
    let check : ℕ = plain_check outputs setpoints command in
    let counts : r.is.outputs ≡ was.outputs = ap (λ (x : SubstationState). x.outputs) r.is_as in
    let outputs_is : r.is.outputs.outputs ≡ outputs = ap (λ o. o.outputs) counts ∙ outputs_are in
    let setpoints_is : r.is.outputs.setpoints ≡ setpoints = ap (λ o. o.setpoints) counts ∙ setpoints_are in
    let check_is : plain_check r.is.outputs.outputs r.is.outputs.setpoints command ≡ check =
    ap (λ (n : ℕ). plain_check n r.is.outputs.setpoints command) outputs_is ∙ ap (λ (n : ℕ). plain_check outputs n command) setpoints_is in
    let Kinds : ℕ → Panel → Type 0 = λ n. ChecksAs command n in
    let now_is : p.relayed.now ≡ old.now = ap (λ b. b.now) r.kept.beside_is in
    record {
      after = ends_below substation new u.is confirms;
      now = old.now;
      commands = d.commands;
      view = record {
        was = u.is;
        there = u.there;
        going = confirms;
        is = refl;
        under = under_up;
        long = omega (arith, long', u.kept.links);
        outputs_are = u.many.outputs ∙ d.many.outputs ∙ outputs_is;
        setpoints_are = u.many.setpoints ∙ d.many.setpoints ∙ setpoints_is;
      };
      goes = record {
        sent = answers;
        answered = subst (λ (n : ℕ). AnswersAll n (Kinds check) (going ++ requests) (station_of was) (station_of u.is) answers d.commands) now_is
            (subst (λ (x : State). AnswersAll p.relayed.now (Kinds check) (going ++ requests) x (station_of u.is) answers d.commands)
            (ap station_of r.is_as)
            (subst (λ (x : State). AnswersAll p.relayed.now (Kinds check) (going ++ requests) (station_of r.is) x answers d.commands) (sym u.stays)
            (subst (λ (n : ℕ). AnswersAll p.relayed.now (Kinds n) (going ++ requests) (station_of r.is) (station_of d.is) answers d.commands) check_is d.all)));
        heard = subst (λ (n : ℕ). HearsAnswers n answers link (link_at new.concentrator substation) confirms)
            (ap (λ b. b.now) d.kept.beside_is ∙ now_is)
            (subst (λ (x : Relaying). HearsAnswers p.answered.now answers x (link_at new.concentrator substation) confirms)
            (ap (λ c. link_at c substation) d.concentrator ∙ r.link) u.all);
        told = u.controls ∙ ap (λ c. c.controls) d.concentrator ∙ r.controls;
      };
      kept = subst (λ (xs : List Command). KeptBelow substation xs old new) (append-nil d.commands)
          (join_below substation d.commands [] old p.answered new (join_below substation [] d.commands old p.relayed p.answered r.kept d.kept) u.kept);
      told = told_below substation id old p.relayed (ends_below substation old was going) p.step r.controls;
    }

pub step_from : LineLaws → (substation : ℕ) (was : SubstationState) (old new : System) (going : List (List ℕ))
    → slice_get old.substations substation ≡ Some was → substation < length old.concentrator.links → UnderWay (Below substation) going [] old
    → IfThere (has_substation old substation) (RelaysOn (Below substation)) old new → IsTaken substation (ends_below substation old was going)
    → Told (KeptBelow substation) substation (λ s. s.concentrator.controls) old new (ends_below substation old was going)
step_from laws substation was old new going there long under relays taken =
    let has : has_substation old substation ≡ true = under_has substation going [] old under in
    let r : RelayedBelow substation was going old new =
    relayed_below laws substation was old new going there long under (happens substation old new has relays) taken in
    record { kept = r.kept; is = r.controls }

unfoldable pub over_below : LineLaws → PerformsLaw → (substation id : ℕ) (command : Command) (outputs setpoints : ℕ)
    → OverLink (Below substation) substation id (plain_check outputs setpoints command) command
over_below laws law substation id command outputs setpoints = record {
  View = SeenBelow substation outputs setpoints;
  Kept = KeptBelow substation;
  book = λ s. s.concentrator.controls;
  join = join_below substation;
  back = λ old new ends seen p taken.
      subst (Back (SeenBelow substation outputs setpoints) (KeptBelow substation) substation id (plain_check outputs setpoints command) command
      old new) (sym seen.is)
      (back_from laws law substation id command outputs setpoints seen.was old new seen.going seen.there seen.long seen.under seen.outputs_are
      seen.setpoints_are p (subst (IsTaken substation) seen.is taken));
  step = λ old new ends seen relays taken.
      subst (Told (KeptBelow substation) substation (λ s. s.concentrator.controls) old new) (sym seen.is)
      (step_from laws substation seen.was old new seen.going seen.there seen.long seen.under relays (subst (IsTaken substation) seen.is taken));
  says = λ s. refl;
}
