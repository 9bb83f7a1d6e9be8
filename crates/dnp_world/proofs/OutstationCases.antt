-- What comes to an outstation, by its case, as moves of its link.
use Rattle.std.proofs.Common.{◌≡◌, ℕ, ◌<◌, ◌≤◌, ◌^◌, Bool, true, false, List, [], ◌∷◌, ◌++◌, length, refl, sym, ap, ◌∙◌, subst, arith, append-nil, Option, Some, None, option_map}
use Rattle.std.specs.List.{All}
use Rattle.std.proofs.lemmas.Option.{same_Some}
use Rattle.dnp_objects.specs.Counts.{IsCoveredBy}
use Rattle.dnp_objects.specs.declared.command.Command.{Command}
use Rattle.dnp_controls.specs.Panel.{Panel}
use Rattle.dnp_outstation.specs.declared.case.Case.{Case}
use Rattle.dnp_outstation.specs.declared.case.Case.TheVariants.{PassedOver, Confirms, ConfirmsUnsolicited, Stray, Again, Waits, Asks}
use Rattle.dnp_outstation.specs.declared.session.LastRequest.{LastRequest}
use Rattle.dnp_outstation.specs.declared.session.Awaited.{Awaited}
use Rattle.dnp_outstation.specs.declared.session.Unsolicited.{Unsolicited}
use Rattle.dnp_outstation.specs.Calls.{with_that, answered_by, received, connection_after}
use Rattle.dnp_outstation.specs.Connection.{is_looked_at, control_in, function_in, on_confirm, on_again, waiting, at_end, case_of}
use Rattle.dnp_outstation.specs.Links.{CaseSays, Performs}
use Rattle.dnp_outstation.specs.State.{Core, State, Step, still}
use Rattle.dnp_world.specs.LawLink as link
use Rattle.dnp_world.specs.LawLink.{Down, LawLink}
use Rattle.dnp_world.specs.Octets.{seq_in, commands_in}
use Rattle.dnp_world.specs.OutstationSeen.{down_of, ShowOctets, Shows, Simulates}
use Rattle.dnp_world.specs.Standing.{CarriesLaw}
use Rattle.dnp_world.proofs.OutstationConfirms.{goes_confirm}
use Rattle.dnp_world.proofs.OutstationFragments.{same_seq, same_uns, same_commands, down_confirms, down_confirms_report, down_asks}
use Rattle.dnp_world.proofs.OutstationLaws.{EndLaws, AnswerLaws, ReleaseLaws, FurtherLaws, HeldLaws, CallLaws}
use Rattle.dnp_world.proofs.OutstationReports.{goes_report_confirm}
use Rattle.dnp_world.proofs.OutstationRequests.{goes_asks, goes_waits, goes_again}
use Rattle.dnp_world.proofs.OutstationSteps.{Sees, shown_sees, Goes, goes_still, goes_simulates, goes_end}

-- what lower crates promise of all that comes
pub record Laws : Type 0 where
  pub ends : EndLaws
  pub answers : AnswerLaws
  pub releases : ReleaseLaws
  pub further : FurtherLaws
  pub held : HeldLaws
  pub calls : CallLaws

looked_open : (c : Core) (octets : List ℕ) → is_looked_at c octets ≡ true → c.is_open ≡ true
looked_open c octets looked = by c.is_open refl
  where
    by : (b : Bool) → c.is_open ≡ b → c.is_open ≡ true
    by true is = is
    by false is = let off : is_looked_at c octets ≡ false = rw is refl in absurd (cc)

module _ (laws : Laws) (s : State) (o : Panel) (now : ℕ) (octets : List ℕ) (l : LawLink) (rest : List Down) (shown : ShowOctets o)
    (small : All (λ octet. octet < 2 ^ 8) octets) (shows : Shows s l) (stands : CarriesLaw l) (down_is : l.down ≡ down_of octets ∷ rest) where
  abbrev after : Step
  after = connection_after s o now octets

  sees : Sees s l
  sees = shown_sees s l shows

  classes : length after.state.core.enabled ≤ 3
  classes = (laws.calls.order s o now octets shows.well.order).classes

  -- the call as a whole
  whole : (commands : List Command) → after.state.performed ≡ s.performed ++ commands → Goes [] commands after l → Simulates s [] after l
  whole commands performed goes =
      goes_simulates s [] commands after l performed (laws.calls.order s o now octets shows.well.order)
      (laws.calls.tidy s o now octets shows.well.lanes shows.well.tidy) goes

  -- one that performs nothing
  idle : after.state.performed ≡ s.performed → Goes [] [] after l → Simulates s [] after l
  idle same goes = whole [] (same ∙ sym (append-nil s.performed)) goes

  -- by a function that performs nothing
  unperformed : (code : ℕ) → function_in octets ≡ code → code < 4 → after.state.performed ≡ s.performed
  unperformed code is few =
      laws.calls.only s o now octets (λ e. omega (arith, is, few, e)) (λ e. omega (arith, is, few, e)) (λ e. omega (arith, is, few, e))

  -- its end
  ended : (commands : List Command) (step : Step) → after ≡ at_end now step → Goes [] commands step l → Goes [] commands after l
  ended commands step is goes =
      subst (λ (x : Step). Goes [] commands x l) (sym is)
      (goes_end laws.ends [] commands now step l stands (subst (λ (x : Step). length x.state.core.enabled ≤ 3) is classes) goes)

  by_awaited : (awaited : Option Awaited) → s.core.session.awaited ≡ awaited → option_map (λ w. w.seq) awaited ≡ Some (control_in octets).seq
      → s.core.is_open ≡ true → down_of octets ≡ link.Confirms (seq_in octets) → Goes [] [] (with_that s awaited (on_confirm s o now)) l
  by_awaited None is number opens comes = absurd (cc)
  by_awaited (Some w) is number opens comes =
      let seq : seq_in octets ≡ w.seq = sym (same_seq octets) ∙ sym (same_Some w.seq (control_in octets).seq number) in
      goes_confirm laws.answers laws.releases laws.further s o now w l rest shown sees shows.well.tidy stands opens is
      (down_is ∙ ap (λ (d : Down). d ∷ rest) comes ∙ ap (λ (n : ℕ). link.Confirms n ∷ rest) seq)

  by_report : (unsolicited : Option Unsolicited) → s.core.session.unsolicited ≡ unsolicited
      → option_map (λ w. w.seq) unsolicited ≡ Some (control_in octets).seq → s.core.is_open ≡ true → case_of s.core octets ≡ ConfirmsUnsolicited
      → down_of octets ≡ link.ConfirmsReport (seq_in octets) → Goes [] [] after l
  by_report None is number opens case_is comes = absurd (cc)
  by_report (Some w) is number opens case_is comes =
      let seq : seq_in octets ≡ w.seq = sym (same_seq octets) ∙ sym (same_Some w.seq (control_in octets).seq number) in
      goes_report_confirm laws.ends laws.answers laws.releases laws.held s o now octets w l rest shown sees shows.well.tidy stands opens case_is is
      (down_is ∙ ap (λ (d : Down). d ∷ rest) comes ∙ ap (λ (n : ℕ). link.ConfirmsReport n ∷ rest) seq) classes

  by_last : (last : Option LastRequest) → s.core.session.last ≡ last → s.core.is_open ≡ true → octets ≡ s.core.session.request
      → Goes [] [] (with_that s last (on_again s now octets)) l
  by_last None is opens same = goes_still s l sees
  by_last (Some last) is opens same = goes_again s now octets last l sees stands opens is same

  by_case : (case : Case) → case_of s.core octets ≡ case → CaseSays s.core octets case → Simulates s [] after l
  by_case PassedOver is says =
      let e : after ≡ still s = ap (received s o now octets) is in
      idle (ap (λ (x : Step). x.state.performed) e) (subst (λ (x : Step). Goes [] [] x l) (sym e) (goes_still s l sees))
  by_case Confirms is says =
      let opens : s.core.is_open ≡ true = looked_open s.core octets says.is_looked_at in
      idle (unperformed 0 says.function_is (omega arith))
      (ended [] (answered_by s o now octets Confirms) (ap (received s o now octets) is)
      (by_awaited s.core.session.awaited refl says.number opens (down_confirms octets says.function_is (sym (same_uns octets) ∙ says.uns_is))))
  by_case ConfirmsUnsolicited is says =
      let opens : s.core.is_open ≡ true = looked_open s.core octets says.is_looked_at in
      idle (unperformed 0 says.function_is (omega arith))
      (by_report s.core.session.unsolicited refl says.number opens is
      (down_confirms_report octets says.function_is (sym (same_uns octets) ∙ says.uns_is)))
  by_case Stray is says =
      idle (unperformed 0 says.function_is (omega arith))
      (ended [] (answered_by s o now octets Stray) (ap (received s o now octets) is) (goes_still s l sees))
  by_case Again is says =
      let opens : s.core.is_open ≡ true = looked_open s.core octets says.is_looked_at in
      idle (laws.calls.again s o now octets is).performed
      (ended [] (answered_by s o now octets Again) (ap (received s o now octets) is) (by_last s.core.session.last refl opens says.same))
  by_case Waits is says =
      let opens : s.core.is_open ≡ true = looked_open s.core octets says.0.is_looked_at in
      let goes : Goes [] [] (still (record s { core = waiting s.core octets })) l =
      goes_waits s octets l rest sees (down_is ∙ ap (λ (d : Down). d ∷ rest) (down_asks octets says.0.no_confirm)) opens says.0.other in
      idle (unperformed 1 says.1 (omega arith)) (subst (λ (x : Step). Goes [] [] x l) (sym (laws.held.waits s o now octets is)) goes)
  by_case Asks is says =
      let opens : s.core.is_open ≡ true = looked_open s.core octets says.0.is_looked_at in
      let p : Performs o octets s.performed after.state.performed = laws.calls.performed s o now octets in
      let few : IsCoveredBy p.those (commands_in octets) = subst (IsCoveredBy p.those) (same_commands octets) p.covered in
      whole p.those p.is
      (ended p.those (answered_by s o now octets Asks) (ap (received s o now octets) is)
      (goes_asks laws.answers s o now octets p.those l rest shown small sees
      (down_is ∙ ap (λ (d : Down). d ∷ rest) (down_asks octets says.0.no_confirm)) opens says.0.other few))

  pub comes_simulates : Simulates s [] (connection_after s o now octets) l
  comes_simulates = by_case (case_of s.core octets) refl (laws.calls.says s.core octets)
