-- What calls of a book make of the controls in progress: they stay in step with it.
use Rattle.std.proofs.Common.{◌≡◌, ℕ, suc, ◌+◌, ◌<◌, ◌≤◌, ◌==◌, ◌&&◌, Bool, true, false, cond, List, [], ◌∷◌, ◌++◌, ◌⊎◌, inl, inr, Option, Some, None, IfSome, refl, sym, ap, ◌∙◌, subst, arith}
use Rattle.std.specs.List.{All, AllPairs}
use Rattle.std.specs.Option.{option_map, option_or}
use Rattle.std.proofs.lemmas.Option.{none-some, same_Some}
use Rattle.std.proofs.lemmas.Bool.Decides.{Decides-eqb, nat_tests}
use Rattle.std.proofs.lemmas.List.Elements.{All-nil, All-cons, All-head, All-tail, All-map}
use Rattle.std.proofs.lemmas.List.Folds.{find-append}
use Rattle.dnp_objects.specs.declared.command.Command.{Command}
use Rattle.dnp_controls.specs.Book.{Ledger, IsSoundLedger, added, entry_of, in_state, is_pending, next_of}
use Rattle.dnp_controls.specs.Moves.{Move, Add, Spend, Finish, after}
use Rattle.dnp_controls.specs.declared.book.Entry.{Entry}
use Rattle.dnp_controls.specs.declared.book.State.{State}
use Rattle.dnp_controls.specs.declared.book.State.TheVariants.{Pending, Spent, Finished}
use Rattle.dnp_concentrator.specs.BookOutputs.{added_for, all_added}
use Rattle.dnp_concentrator.specs.Mapped.{command_below}
use Rattle.dnp_concentrator.specs.Relaying.{Relaying, Step, Waits, Selects, Operates, Finishes, ledger_after, relaying_after, step_of}
use Rattle.dnp_concentrator.specs.declared.progress.Progress.{Progress}
use Rattle.dnp_concentrator.specs.declared.progress.Stage.TheVariants.{Selecting, Operating}
use Rattle.dnp_concentrator.specs.declared.span.Spans.{Spans}
use Rattle.dnp_world.specs.CommandWidths.{HasWidths}
use Rattle.dnp_world.specs.ControlsInStep.{GoesWith, IsOfEntry, IsUnspent}
use Rattle.dnp_world.specs.Kept.{command_of, commands_in}
use Rattle.dnp_world.proofs.Books.{put}
use Rattle.dnp_world.proofs.RelayLinks.{book_same}
use Rattle.dnp_world.proofs.RelaySteps.{FromProgress, FromEntry, IsInStep, in_progress, next_has, operates_from, selects_from, step_widths}
use Rattle.dnp_world.proofs.RelayWidths.{FitsEntry}

-- what the crate of controls promises of a book
abbrev pub SoundLaw : Type 0
SoundLaw = (book : Ledger) (moves : List Move) → IsSoundLedger book → IsSoundLedger (after book moves)

-- What goes with the one book goes with the other.
pub record Carries (old new : Ledger) : Type 0 where
  pub given : old.last_id ≤ new.last_id
  pub entry : (target : ℕ) (p : Progress) → p.id ≤ old.last_id → IfSome (entry_of old.entries p.id) (IsOfEntry target p)
      → IfSome (entry_of new.entries p.id) (IsOfEntry target p)
  pub sound : IsSoundLedger old → IsSoundLedger new

pub carried : (old new : Ledger) (target : ℕ) (o : Option Progress) → Carries old new → IfSome o (GoesWith old target)
    → IfSome o (GoesWith new target)
carried old new target None c h = h
carried old new target (Some p) c h = record {
  given = omega (arith, h.given, c.given);
  entry = c.entry target p h.given h.entry;
  widths = h.widths;
}

pub carried_same : (book : Ledger) → Carries book book
carried_same book = record { given = omega arith; entry = λ target p low h. h; sound = λ h. h }

carried_on : (a b c : Ledger) → Carries a b → Carries b c → Carries a c
carried_on a b c h k = record {
  given = omega (arith, h.given, k.given);
  entry = λ target p low e. k.entry target p (omega (arith, low, h.given)) (h.entry target p low e);
  sound = λ s. k.sound (h.sound s);
}

-- ---- a command is added

-- an entry of another id isn't found
other_id : (e : Entry) (id : ℕ) → id < e.id → entry_of (e ∷ []) id ≡ None
other_id e id low = let apart : (e.id == id) ≡ false = grind (arith, nat_tests, low) in rw apart refl

added_entry : (entries : List Entry) (new : Entry) (target : ℕ) (p : Progress) → p.id < new.id → IfSome (entry_of entries p.id) (IsOfEntry target p)
    → IfSome (entry_of (entries ++ new ∷ []) p.id) (IsOfEntry target p)
added_entry entries new target p low h =
    subst (λ (o : Option Entry). IfSome o (IsOfEntry target p))
    (sym (find-append (λ (e : Entry). e.id == p.id) entries (new ∷ [])
    ∙ ap (λ (o : Option Entry). option_or (entry_of entries p.id) o) (other_id new p.id low)))
    (by (entry_of entries p.id) h)
  where
    by : (o : Option Entry) → IfSome o (IsOfEntry target p) → IfSome (option_or o None) (IsOfEntry target p)
    by None k = k
    by (Some e) k = k

pub added_carries : SoundLaw → (book : Ledger) (target : ℕ) (command : Command) → Carries book (added book target command)
added_carries sound book target command = record {
  given = omega arith;
  entry = λ other p low h. added_entry book.entries (record { id = book.last_id + 1; target = target; command = command; state = Pending }) other p
      (omega (arith, low)) h;
  sound = sound book (Add target command ∷ []);
}

added_for_carries : SoundLaw → (book : Ledger) (o : Option (ℕ × Command)) → Carries book (added_for book o)
added_for_carries sound book None = carried_same book
added_for_carries sound book (Some below) = added_carries sound book below.0 below.1

pub all_added_carries : SoundLaw → (spans : List Spans) (book : Ledger) (commands : List Command) → Carries book (all_added spans book commands)
all_added_carries sound spans book [] = carried_same book
all_added_carries sound spans book (command ∷ commands) =
    let next : Ledger = added_for book (command_below spans command) in
    carried_on book next (all_added spans next commands) (added_for_carries sound book (command_below spans command))
    (all_added_carries sound spans next commands)

-- ---- an entry comes into a state

-- it has the command and the target that it had, and is pending no more
put_entry : (entries : List Entry) (other : ℕ) (state : State) → is_pending state ≡ false → (target : ℕ) (p : Progress)
    → IfSome (entry_of entries p.id) (IsOfEntry target p)
    → IfSome (entry_of (in_state entries other state) p.id) (IsOfEntry target p)
put_entry [] other state past target p h = h
put_entry (e ∷ entries) other state past target p h = by (e.id == other) (put_entry entries other state past target p)
  where
    never : is_pending state ≡ true → ⊥
    never pending = let both : false ≡ true = sym past ∙ pending in cc

    found : (b : Bool) (x : Entry) → (IsOfEntry target p e → IsOfEntry target p x)
        → (IfSome (entry_of entries p.id) (IsOfEntry target p) → IfSome (entry_of (in_state entries other state) p.id) (IsOfEntry target p))
        → IfSome (cond b (Some e) (entry_of entries p.id)) (IsOfEntry target p)
        → IfSome (cond b (Some x) (entry_of (in_state entries other state) p.id)) (IsOfEntry target p)
    found true x here later k = here k
    found false x here later k = later k

    by : (b : Bool)
        → (IfSome (entry_of entries p.id) (IsOfEntry target p) → IfSome (entry_of (in_state entries other state) p.id) (IsOfEntry target p))
        → IfSome (entry_of (cond b (put state e) e ∷ in_state entries other state) p.id) (IsOfEntry target p)
    by true later = found (e.id == p.id) (put state e) (λ k. (k.0, k.1, λ pending. absurd (never pending))) later h
    by false later = found (e.id == p.id) e (λ k. k) later h

pub step_carries : SoundLaw → (book : Ledger) (step : Step) → Carries book (ledger_after book step)
step_carries sound book Waits = carried_same book
step_carries sound book (Selects id command) = carried_same book
step_carries sound book (Operates id command) = record {
  given = omega arith;
  entry = λ target p low h. put_entry book.entries id Spent refl target p h;
  sound = sound book (Spend id ∷ []);
}
step_carries sound book (Finishes id status) = record {
  given = omega arith;
  entry = λ target p low h. put_entry book.entries id (Finished status) refl target p h;
  sound = sound book (Finish id status ∷ []);
}

-- ---- what of it can be sent

of_commands : (entries : List Entry) → All HasWidths (commands_in entries) → All FitsEntry entries
of_commands [] all = All-nil FitsEntry
of_commands (e ∷ entries) all =
    All-cons FitsEntry e entries (All-head HasWidths (command_of e) (commands_in entries) all)
    (of_commands entries (All-tail HasWidths (command_of e) (commands_in entries) all))

pub step_fits : (book : Ledger) (step : Step) → All FitsEntry book.entries → All FitsEntry (ledger_after book step).entries
step_fits book step all =
    of_commands (ledger_after book step).entries
    (subst (All HasWidths) (sym (book_same command_of (λ e state. refl) book step)) (All-map HasWidths command_of book.entries all))

-- ---- the control in progress after a step

-- in a sound book the entry of the next one's id is that one
pub next_found : (entries : List Entry) (target : ℕ) (e : Entry) → AllPairs (λ (x y : Entry). x.id < y.id) entries → next_of entries target ≡ Some e
    → entry_of entries e.id ≡ Some e
next_found [] target e rising is = absurd (none-some e is)
next_found (x ∷ xs) target e rising is =
    by (is_pending x.state && x.target == target) is
    (λ rest. next_found xs target e (λ i j d low inside. rising (suc i) (suc j) d (omega (arith, low)) (omega (arith, inside))) rest)
  where
    later_id : next_of xs target ≡ Some e → x.id < e.id
    later_id rest =
        (next_has (λ (y : Entry). x.id < y.id) xs target e (λ k d inside. rising 0 (suc k) d (omega arith) (omega (arith, inside))) rest).0

    by : (b : Bool) → cond b (Some x) (next_of xs target) ≡ Some e → (next_of xs target ≡ Some e → entry_of xs e.id ≡ Some e)
        → cond (x.id == e.id) (Some x) (entry_of xs e.id) ≡ Some e
    by true same later =
        let is : x ≡ e = same_Some x e same in
        ap (λ (b : Bool). cond b (Some x) (entry_of xs e.id)) ((Decides-eqb x.id e.id).1 (ap (λ (y : Entry). y.id) is))
        ∙ ap (λ (y : Entry). Some y) is
    by false same later =
        let low : x.id < e.id = later_id same in
        let apart : (x.id == e.id) ≡ false = grind (arith, nat_tests, low) in
        rw apart (later same)

-- another of the same id and command, at a stage before its OPERATE where this one is
renamed : (book : Ledger) (target : ℕ) (p q : Progress) → p.id ≡ q.id → p.command ≡ q.command → IsUnspent q.stage
    → IfSome (entry_of book.entries p.id) (IsOfEntry target p)
    → IfSome (entry_of book.entries q.id) (IsOfEntry target q)
renamed book target p q ids commands unspent h =
    subst (λ (id : ℕ). IfSome (entry_of book.entries id) (IsOfEntry target q)) ids (by (entry_of book.entries p.id) h)
  where
    by : (o : Option Entry) → IfSome o (IsOfEntry target p) → IfSome o (IsOfEntry target q)
    by None k = k
    by (Some e) k = (k.0, k.1 ∙ commands, λ pending. unspent)

-- an entry that comes into a state is there in it
pub entry_put : (entries : List Entry) (id : ℕ) (state : State)
    → entry_of (in_state entries id state) id ≡ option_map (put state) (entry_of entries id)
entry_put [] id state = refl
entry_put (x ∷ xs) id state = by (x.id == id) refl (entry_put xs id state)
  where
    by : (b : Bool) → (x.id == id) ≡ b → entry_of (in_state xs id state) id ≡ option_map (put state) (entry_of xs id)
        → entry_of (cond b (put state x) x ∷ in_state xs id state) id ≡ option_map (put state) (cond b (Some x) (entry_of xs id))
    by true one later = rw one refl
    by false other later = rw other later

-- one whose entry is spent may be at any stage
spent_goes : (target : ℕ) (p q : Progress) → p.command ≡ q.command → (o : Option Entry) → IfSome o (IsOfEntry target p)
    → IfSome (option_map (put Spent) o) (IsOfEntry target q)
spent_goes target p q commands None k = tt
spent_goes target p q commands (Some e) k = (k.0, k.1 ∙ commands, λ pending. absurd (let never : false ≡ true = pending in cc))

pub step_in_progress : SoundLaw → (r : Relaying) (now : ℕ) (book : Ledger) (target : ℕ) (step : Step) → step_of r book.entries target ≡ step
    → IsInStep r book target → IfSome (relaying_after r now step).progress (GoesWith (ledger_after book step) target)
step_in_progress sound r now book target Waits is h = h.control
step_in_progress sound r now book target (Selects id command) is h =
    by (selects_from r book.entries target id command is).1 (step_widths r book target (Selects id command) is h)
  where
    by : FromProgress r id command ⊎ FromEntry book.entries target id command → HasWidths command
        → GoesWith book target (record { id = id; command = command; stage = Selecting })
    by (inl (p, there, ids, commands)) widths =
        let g : GoesWith book target p = in_progress r book target p there h.control in
        record {
          given = subst (λ (n : ℕ). n ≤ book.last_id) ids g.given;
          entry = renamed book target p (record { id = id; command = command; stage = Selecting }) ids commands tt g.entry;
          widths = widths;
        }
    by (inr (e, next, ids, commands)) widths =
        let of_target : e.target ≡ target = (next_has (λ (x : Entry). x.id ≤ book.last_id) book.entries target e h.sound.up_to_last next).2 in
        record {
          given = subst (λ (n : ℕ). n ≤ book.last_id) ids
              (next_has (λ (x : Entry). x.id ≤ book.last_id) book.entries target e h.sound.up_to_last next).0;
          entry = subst (λ (o : Option Entry). IfSome o (IsOfEntry target (record { id = id; command = command; stage = Selecting })))
              (sym (ap (entry_of book.entries) (sym ids) ∙ next_found book.entries target e h.sound.rising next)) (of_target, commands, λ pending. tt);
          widths = widths;
        }
step_in_progress sound r now book target (Operates id command) is h =
    let (idle, chosen, (p, there, ids, commands)) = operates_from r book.entries target id command is in
    let g : GoesWith book target p = in_progress r book target p there h.control in
    let after : Progress = record { id = id; command = command; stage = Operating } in
    record {
      given = subst (λ (n : ℕ). n ≤ book.last_id) ids g.given;
      entry = subst (λ (o : Option Entry). IfSome o (IsOfEntry target after)) (sym (entry_put book.entries id Spent))
          (spent_goes target p after commands (entry_of book.entries id)
          (subst (λ (n : ℕ). IfSome (entry_of book.entries n) (IsOfEntry target p)) ids g.entry));
      widths = step_widths r book target (Operates id command) is h;
    }
step_in_progress sound r now book target (Finishes id status) is h = tt
