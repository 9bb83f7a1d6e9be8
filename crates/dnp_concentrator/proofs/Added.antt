-- What is performed by being added to a book.
use Rattle.std.proofs.Common.{◌≡◌, ℕ, ◌<◌, ◌≤◌, Bool, true, false, cond, List, [], ◌∷◌, ◌++◌, length, map, get_or, Option, Some, None, refl, sym, ◌∙◌, ap, arith, append-nil}
use Rattle.std.specs.Prelude.{◌==◌, ◌&&◌, if◌then◌else◌, is_some, unwrap_or}
use Rattle.std.proofs.lemmas.List.{map-append}
use Rattle.dnp_objects.specs.declared.command.Command.{Command}
use Rattle.dnp_objects.specs.Status as status
use Rattle.dnp_controls.specs.Book.{Ledger}
use Rattle.dnp_controls.specs.Panel.{accepted}
use Rattle.dnp_concentrator.specs.declared.span.Spans.{Spans}
use Rattle.dnp_concentrator.specs.BookOutputs.{added_for, can_relay, obeys_code, ordered, relay_check}
use Rattle.dnp_concentrator.specs.Mapped.{command_below}
use Rattle.dnp_concentrator.specs.Reserving.{Reserved, is_reserved}
use Rattle.dnp_concentrator.proofs.MappedBack.{command_redone}

-- a list of one
pub one_command : (commands : List Command) (d : Command) → 1 ≤ length commands → length commands < 2 → commands ≡ get_or commands 0 d ∷ []
one_command [] d some few = absurd (omega arith)
one_command (x ∷ []) d some few = refl
one_command (x ∷ y ∷ more) d some few = absurd (omega arith)

-- a command whose status is SUCCESS is accepted, and no other
accepts : (spans : List Spans) (reserved : Reserved) (command : Command) (b : Bool)
    → (relay_check spans reserved command == status.success) ≡ b
    → accepted (relay_check spans reserved) (command ∷ []) ≡ cond b (command ∷ []) []
accepts spans reserved command b is = ap (λ (c : Bool). cond c (command ∷ []) []) is

-- only a command that can be relayed has that status
relays : (can taken : Bool) → ((if can then (if taken then status.already_active else status.success) else status.not_supported) == status.success) ≡ true
    → can ≡ true
relays true taken is = refl
relays false taken is = absurd (cc)

added_ordered : (spans : List Spans) (book : Ledger) (command : Command) (o : Option (ℕ × Command)) → command_below spans command ≡ o
    → is_some o ≡ true
    → map (ordered spans) (added_for book o).entries ≡ map (ordered spans) book.entries ++ command ∷ []
added_ordered spans book command None is some = absurd (cc)
added_ordered spans book command (Some p) is some =
    map-append (ordered spans) book.entries (_ ∷ [])
    ∙ ap (λ (o : Option Command). map (ordered spans) book.entries ++ unwrap_or o p.1 ∷ []) (command_redone spans command p is)

-- a command whose status is SUCCESS stands after the others as it came
pub listed_added : (spans : List Spans) (reserved : Reserved) (book after : Ledger) (commands : List Command) (command : Command)
    → commands ≡ command ∷ [] → (relay_check spans reserved command == status.success) ≡ true → after ≡ added_for book (command_below spans command)
    → map (ordered spans) after.entries ≡ map (ordered spans) book.entries ++ accepted (relay_check spans reserved) commands
listed_added spans reserved book after commands command one can is =
    ap (λ (b : Ledger). map (ordered spans) b.entries) is
    ∙ added_ordered spans book command (command_below spans command) refl
    (found (is_some (command_below spans command)) (obeys_code command) (relays (can_relay spans command) (is_reserved reserved command) can))
    ∙ ap (λ (cs : List Command). map (ordered spans) book.entries ++ cs) (sym (accepts spans reserved command true can))
    ∙ ap (λ (cs : List Command). map (ordered spans) book.entries ++ accepted (relay_check spans reserved) cs) (sym one)
  where
    found : (a b : Bool) → a && b ≡ true → a ≡ true
    found true b e = refl
    found false b e = absurd (cc)

-- one of another status changes nothing
pub listed_same : (spans : List Spans) (reserved : Reserved) (book : Ledger) (commands : List Command) (command : Command)
    → commands ≡ command ∷ [] → (relay_check spans reserved command == status.success) ≡ false
    → map (ordered spans) book.entries ≡ map (ordered spans) book.entries ++ accepted (relay_check spans reserved) commands
listed_same spans reserved book commands command one can =
    sym (append-nil (map (ordered spans) book.entries))
    ∙ ap (λ (cs : List Command). map (ordered spans) book.entries ++ cs) (sym (accepts spans reserved command false can))
    ∙ ap (λ (cs : List Command). map (ordered spans) book.entries ++ accepted (relay_check spans reserved) cs) (sym one)
