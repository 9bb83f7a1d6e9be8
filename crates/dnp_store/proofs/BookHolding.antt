-- The entries that a book's tables hold after a statement.
use Rattle.std.proofs.Common.{◌≡◌, ℕ, ◌+◌, ◌≤◌, ◌==◌, pos, Bool, true, false, cond, List, [], ◌∷◌, map, codes, Option, None, Some, Ok, refl, sym, ap, subst, subst₂, ◌∙◌, arith, IsPermutation}
use Rattle.std.specs.List.{AllByRecursion}
use Rattle.std.proofs.lemmas.List.{map-append}
use Rattle.std.proofs.lemmas.List.Elements.{recursion_from_All}
use Rattle.std.proofs.lemmas.List.Sorted.{IsPermutation-append_left}
use Rattle.sqlite.specs.Tree.{Trees}
use Rattle.sqlite.specs.State.{State, Executes}
use Rattle.dnp_objects.specs.declared.command.Command.{Command}
use Rattle.dnp_controls.specs.declared.book.Entry.{Entry}
use Rattle.dnp_controls.specs.declared.book.State.{State as Control}
use Rattle.dnp_controls.specs.declared.book.State.TheVariants.{Pending}
use Rattle.dnp_controls.specs.Book.{Ledger, IsSoundLedger, added, entry_of, in_state}
use Rattle.dnp_store.specs.QueueTables.{IsForm1}
use Rattle.dnp_store.specs.Tables.{IsCounted}
use Rattle.dnp_store.specs.BookTables.{HoldsBook, IsBook, entry_cells, entry_row, kind_of, code_of, count_of, on_of, off_of, value_of, state_of, status_of}
use Rattle.dnp_objects.specs.Commands.{index_of}
use Rattle.std.specs.Prelude.{IsSome}
use Rattle.sqlite.specs.Values.{bound_value}
use Rattle.sqlite.specs.declared.types.Value.{Value}
use Rattle.sqlite.specs.declared.types.Value.TheVariants.{Int}
use Rattle.dnp_store.proofs.IdRows as id_rows
use Rattle.dnp_store.proofs.Counting.{PutsAt}
use Rattle.dnp_store.proofs.BookStatements.{insert_text, insert_params, inserts}
use Rattle.dnp_store.proofs.BookUpdates.{update_text, update_params, updates}

-- ---- one entry more

abbrev pub entry_for : ℕ → ℕ → Command → Entry
entry_for id target command = record { id = id; target = target; command = command; state = Pending }

low : (book : Ledger) → IsSoundLedger book → AllByRecursion (λ (x : Entry). x.id ≤ book.last_id) book.entries
low book sound = recursion_from_All (λ (x : Entry). x.id ≤ book.last_id) book.entries sound.up_to_last

put : (db now : Trees) (book : Ledger) (target : ℕ) (command : Command) → IsSoundLedger book → HoldsBook db book
    → PutsAt 3 (codes "control") db (entry_cells (entry_for (book.last_id + 1) target command)) book.last_id now → HoldsBook now (added book target command)
put db now book target command sound h puts =
    let new = entry_for (book.last_id + 1) target command in
    let under = id_rows.are_under (λ (e : Entry). e.id) entry_cells book.entries book.last_id (db 1) (low book sound) h.entries in
    record {
      form = subst IsForm1 (sym (puts.others 0 (omega arith) (λ e. absurd (omega arith)) (λ e. absurd (omega arith)))) h.form;
      entries = subst₂ IsPermutation (sym (map-append entry_row book.entries (new ∷ [])))
          (sym (puts.table ∙ id_rows.put_last (db 1) book.last_id (entry_cells new) under))
          (IsPermutation-append_left (entry_row new ∷ []) (map entry_row book.entries) (db 1) h.entries);
      counted = puts.count;
    }

pub insert_holds : (old new : State) (book : Ledger) (target count : ℕ) (command : Command) → IsSoundLedger book
    → Executes insert_text (insert_params (entry_for 0 target command)) old new (Ok count) → IsBook old.now book → IsBook new.now (added book target command)
insert_holds old new book target count command sound ran h =
    let under = id_rows.are_under (λ (e : Entry). e.id) entry_cells book.entries book.last_id (old.now.trees 1) (low book sound) h.holds.entries in
    let next = id_rows.next_is (old.now.trees 1) book.last_id under in
    let did = inserts old new h.form_checks h.control_checks h.more h.behind (entry_for (book.last_id + 1) target command) book.last_id next.0 count h.schema h.holds.counted
    next.1 next.2 ran in
    record {
      form_checks = h.form_checks;
      control_checks = h.control_checks;
      more = h.more;
      schema = did.0;
      behind = h.behind;
      holds = put old.now.trees new.now.trees book target command sound h.holds did.1;
    }

-- ---- an entry comes into a state

same_id : (a b : ℕ) → (a == b) ≡ true → a ≡ b
same_id a b h = grind (h, arith)

pub some_is : (a b : Entry) → ◌≡◌ {A = Option Entry} (Some a) (Some b) → a ≡ b
some_is a b h = cc

pub named : (es : List Entry) (id : ℕ) (e : Entry) → entry_of es id ≡ Some e → e.id ≡ id
named [] id e h = absurd cc
named (x ∷ es) id e h = go (x.id == id) refl (named es id e) h
  where
    go : (b : Bool) → (x.id == id) ≡ b → (entry_of es id ≡ Some e → e.id ≡ id) → cond b (Some x) (entry_of es id) ≡ Some e → e.id ≡ id
    go true is more at = ap (λ (y : Entry). y.id) (sym (some_is x e at)) ∙ same_id x.id id is
    go false is more at = more at

pub update_holds : (old new : State) (book : Ledger) (id count : ℕ) (s : Control) (e : Entry) → IsSoundLedger book → entry_of book.entries id ≡ Some e
    → Executes update_text (update_params id s) old new (Ok count) → IsBook old.now book
    → IsBook new.now (record book { entries = in_state book.entries id s })
update_holds old new book id count s e sound at ran h =
    let did = updates old new h.form_checks h.control_checks h.more h.behind id count s book.entries e h.schema h.holds.entries sound.rising at (named book.entries id e at) ran in
    record {
      form_checks = h.form_checks;
      control_checks = h.control_checks;
      more = h.more;
      schema = did.0;
      behind = h.behind;
      holds = record {
        form = subst IsForm1 (sym (did.1.others 0 (omega arith) (λ e. absurd (omega arith)))) h.holds.form;
        entries = did.1.table;
        counted = subst (λ rows. IsCounted (codes "control") rows book.last_id) (sym (did.1.others 2 (omega arith) (λ e. absurd (omega arith)))) h.holds.counted;
      };
    }

pub turn_holds : (old new : State) (book : Ledger) (id count : ℕ) (s : Control) → IsSoundLedger book → IsSome (entry_of book.entries id)
    → Executes update_text (update_params id s) old new (Ok count) → IsBook old.now book
    → IsBook new.now (record book { entries = in_state book.entries id s })
turn_holds old new book id count s sound there ran h = go (entry_of book.entries id) refl there
  where
    go : (o : Option Entry) → entry_of book.entries id ≡ o → IsSome o → IsBook new.now (record book { entries = in_state book.entries id s })
    go None is some = absurd cc
    go (Some e) is some = update_holds old new book id count s e sound is ran h

-- ---- what the statements are given

pub insert_bound : (e : Entry) (a b c d f g h v : Value) → a ≡ Int (pos e.target) → b ≡ Int (pos (kind_of e.command)) → c ≡ Int (pos (index_of e.command))
    → d ≡ Int (pos (code_of e.command)) → f ≡ Int (pos (count_of e.command)) → g ≡ Int (pos (on_of e.command)) → h ≡ Int (pos (off_of e.command))
    → v ≡ Int (value_of e.command)
    → (bound_value a ∷ bound_value b ∷ bound_value c ∷ bound_value d ∷ bound_value f ∷ bound_value g ∷ bound_value h ∷ bound_value v ∷ []) ≡ insert_params e
insert_bound e a b c d f g h v p q r s t u w x = rw (p, q, r, s, t, u, w, x) refl

pub turn_bound : (a b c : Value) (id : ℕ) (s : Control) → a ≡ Int (pos id) → b ≡ Int (pos (state_of s)) → c ≡ Int (pos (status_of s))
    → (bound_value a ∷ bound_value b ∷ bound_value c ∷ []) ≡ update_params id s
turn_bound a b c id s p q r = rw (p, q, r) refl
