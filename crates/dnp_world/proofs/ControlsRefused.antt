-- A control that a status ends over one link, whichever it is: its command is not performed.
use Rattle.std.proofs.Common.{eqb-true, if◌then◌else◌, ◌≡◌, ℕ, ◌<◌, ◌==◌, true, false, Bool, List, [], ◌∷◌, ◌++◌, Some, refl, sym, ap, ◌∙◌, subst, append-nil}
use Rattle.std.specs.Prelude.{◌≢◌}
use Rattle.std.proofs.lemmas.Option.{same_Some}
use Rattle.dnp_concentrator.specs.Relaying.{ledger_after}
use Rattle.dnp_controls.specs.Book.{Ledger, entry_of, is_pending}
use Rattle.dnp_controls.specs.declared.book.Entry.{Entry}
use Rattle.dnp_objects.specs.Status.{success}
use Rattle.dnp_objects.specs.declared.command.Command.{Command}
use Rattle.dnp_world.specs.ControlAnswers.{operated_by}
use Rattle.dnp_world.specs.ControlExchanges.{ExchangeEnds, HasSelected, Refused, SelectComesTo, Stands}
use Rattle.dnp_world.specs.Controls.{First, IsRefusedOn, IsTold, PassesBack, Second, Third}
use Rattle.dnp_world.specs.SystemRuns.{Happens}
use Rattle.dnp_world.specs.Systems.{System, itself}
use Rattle.dnp_world.specs.declared.event.Link.{Link}
use Rattle.dnp_world.proofs.ControlAccepts.{Began, second_step, select_goes}
use Rattle.dnp_world.proofs.ControlArrivals.{ControlLaws}
use Rattle.dnp_world.proofs.ControlsAccepted.{Answered, Begins, IsSelected, IsTaken, OverLink, Starts, Tells, answered_over, ended_good, ended_over, ended_says, finish_taken, operate_taken, pending_open, select_taken, told_of}

none_operated : (status : ℕ) (command : Command) → status ≢ success → operated_by status command ≡ []
none_operated status command other = by (status == success) refl
  where
    by : (b : Bool) → (status == success) ≡ b → (if b then command ∷ [] else []) ≡ []
    by true e = absurd (other (eqb-true status 0 e))
    by false e = refl

module _ (laws : ControlLaws) (on : Link) (target check : ℕ) (entry : Entry) (over : OverLink on target entry.id check entry.command) (low : check < 128) where
  -- what its OPERATE came to, where that is told and is no SUCCESS
  operate_rests : (mid operated new : System) (a : Answered over.View over.Kept target check entry mid operated) (status : ℕ)
      → IsTold Happens itself on (Some entry.id) status operated new → over.Kept [] mid new
  operate_rests mid operated new a status told =
      let last = over.step operated new a.after a.view told.relays a.taken in
      let says : Some a.comes.status ≡ Some status =
      sym (over.says new ∙ told_of laws on target check entry over low new a.after a.comes.status a.comes.told last.is) ∙ told.says in
      let other : a.comes.status ≢ success = λ good. told.other (sym (same_Some a.comes.status status says) ∙ good) in
      let performs : a.commands ++ [] ≡ [] = append-nil a.commands ∙ a.comes.performs ∙ none_operated a.comes.status entry.command other in
      subst (λ (xs : List Command). over.Kept xs mid new) performs (over.join a.commands [] mid operated new a.kept last.kept)

  -- ---- its SELECT was answered before

  begun_rests : (old new : System) (ends : ExchangeEnds) (status : ℕ) → over.View old ends → HasSelected entry ends
      → entry_of ends.book.entries entry.id ≡ Some entry → is_pending entry.state ≡ true → IsRefusedOn Happens itself on (Some entry.id) status old new
      → over.Kept [] old new
  begun_rests old new ends status view has there pending (First told) =
      (over.step old new ends view told.relays (operate_taken target entry ends (second_step laws.same target entry ends has) there pending)).kept
  begun_rests old new ends status view has there pending (Second selected selects told) =
      operate_rests old selected new (answered_over laws on target check entry over low old selected ends view has there pending selects) status told
  begun_rests old new ends status view has there pending (Third selected operated selects operates told) =
      let a = answered_over laws on target check entry over low old selected ends view has there pending selects in
      let e = ended_over laws on target check entry over low old selected operated a operates in
      let good : a.comes.status ≡ success = ended_good laws on target check entry over low old selected operated a operates in
      let last = over.step operated new e.after e.view told.relays e.leaves.taken in
      let says : Some a.comes.status ≡ Some status =
      sym (over.says new ∙ ended_says laws on target check entry over low old selected operated new a e last.is) ∙ told.says in
      absurd (told.other (sym (same_Some a.comes.status status says) ∙ good))

  -- ---- its SELECT is asked, or the book is told at once

  told_rests : (old new : System) (ends : ExchangeEnds) (status : ℕ) → over.View old ends → IsTaken target ends
      → ((selected : System) → PassesBack Happens itself on (Some entry.id) old selected → ⊥) → IsRefusedOn Happens itself on (Some entry.id) status old new
      → over.Kept [] old new
  told_rests old new ends status view taken never (First told) = (over.step old new ends view told.relays taken).kept
  told_rests old new ends status view taken never (Second selected selects told) = absurd (never selected selects)
  told_rests old new ends status view taken never (Third selected operated selects operates told) = absurd (never selected selects)

  -- once it was selected, or the book can be told its status
  selected_rests : (old selected new : System) (e : ExchangeEnds) (status : ℕ) → over.View selected e → over.Kept [] old selected
      → entry_of e.book.entries entry.id ≡ Some entry → is_pending entry.state ≡ true → SelectComesTo target check entry e
      → IsTold Happens itself on (Some entry.id) status selected new → over.Kept [] old new
  selected_rests old selected new e status seen kept here pending comes told =
      over.join [] [] old selected new kept (over.step selected new e seen told.relays (taken comes)).kept
    where
      taken : SelectComesTo target check entry e → IsTaken target e
      taken (Stands good seq asked has) = operate_taken target entry e (second_step laws.same target entry e has) here pending
      taken (Refused other next says) = finish_taken target entry.id check entry e next here (pending_open entry.state pending)

  operated_rests : (old selected operated new : System) (e : ExchangeEnds) (status : ℕ) → over.View selected e → over.Kept [] old selected
      → entry_of e.book.entries entry.id ≡ Some entry → is_pending entry.state ≡ true → PassesBack Happens itself on (Some entry.id) selected operated
      → IsTold Happens itself on (Some entry.id) status operated new → SelectComesTo target check entry e → over.Kept [] old new
  operated_rests old selected operated new e status seen kept here pending operates told (Stands good seq asked has) =
      over.join [] [] old selected new kept
      (operate_rests selected operated new (answered_over laws on target check entry over low selected operated e seen has here pending operates) status told)
  operated_rests old selected operated new e status seen kept here pending operates told (Refused other next says) =
      let second = over.back selected operated e seen operates
      (finish_taken target entry.id check entry e next here (pending_open entry.state pending)) in
      absurd (other (second.told check says))

  -- so nothing is performed
  pub refused_over : (old new : System) (ends : ExchangeEnds) (status : ℕ) → over.View old ends → Starts target entry ends
      → entry_of ends.book.entries entry.id ≡ Some entry → is_pending entry.state ≡ true → IsRefusedOn Happens itself on (Some entry.id) status old new
      → over.Kept [] old new
  refused_over old new ends status view (IsSelected has) there pending refused = begun_rests old new ends status view has there pending refused
  refused_over old new ends status view (Tells first other next told) there pending refused =
      let taken : IsTaken target ends = finish_taken target entry.id first entry ends next there (pending_open entry.state pending) in
      told_rests old new ends status view taken (λ selected selects. other ((over.back old selected ends view selects taken).told first told)) refused
  refused_over old new ends status view (Begins can) there pending refused = by refused
    where
      taken : IsTaken target ends
      taken = select_taken target entry ends can

      Selected : System → Type 0
      Selected selected = (e : ExchangeEnds) × over.View selected e × over.Kept [] old selected × (entry_of e.book.entries entry.id ≡ Some entry)
          × SelectComesTo target check entry e

      comes : (selected : System) → PassesBack Happens itself on (Some entry.id) old selected → Selected selected
      comes selected selects =
          let first = over.back old selected ends view selects taken in
          let began : Began target check entry first.commands first.after =
          select_goes laws target first.now check entry ends first.after first.commands low can first.goes in
          let book : first.after.book ≡ ends.book = first.goes.told ∙ ap (ledger_after ends.book) can.selects in (
            first.after,
            first.view,
            subst (λ (xs : List Command). over.Kept xs old selected) began.none first.kept,
            ap (λ (b : Ledger). entry_of b.entries entry.id) book ∙ there,
            began.comes,
          )

      by : IsRefusedOn Happens itself on (Some entry.id) status old new → over.Kept [] old new
      by (First told) = (over.step old new ends view told.relays taken).kept
      by (Second selected selects told) =
          let (e, seen, kept, here, came) = comes selected selects in
          selected_rests old selected new e status seen kept here pending came told
      by (Third selected operated selects operates told) =
          let (e, seen, kept, here, came) = comes selected selects in
          operated_rests old selected operated new e status seen kept here pending operates told came
