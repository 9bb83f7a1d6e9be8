-- A whole system by what its two centres see of it.
use Rattle.std.proofs.Common.{◌≡◌, ℕ, zero, suc, ◌<◌, Bool, true, false, nat_lt, List, ◌++◌, Option, Some, None, refl, sym, ap, ◌∙◌, arith}
use Rattle.std.proofs.lemmas.Bool.{false≢true}
use Rattle.std.proofs.lemmas.Bool.Decides.{nat_tests}
use Rattle.dnp_concentrator.specs.Reserving.{reserved_by}
use Rattle.dnp_controls.specs.Book.{Ledger}
use Rattle.dnp_eventbuf.specs.declared.pair.TheConstants.{CENTRES}
use Rattle.dnp_objects.specs.declared.command.Command.{Command}
use Rattle.dnp_world.specs.Centres.{ChangesAll, SeesElsewhere, is_there}
use Rattle.dnp_world.specs.Systems.{System}
use Rattle.dnp_world.specs.Wholes.{Whole, seen_by}

-- the whole of which the first centre sees this, and the second that
whole_of : System → System → Whole
whole_of s t = record {
  indices = s.indices;
  substations = s.substations;
  concentrator = record {
    cores = record { first = s.concentrator.core; second = t.concentrator.core };
    queues = record { first = s.concentrator.queue; second = t.concentrator.queue };
    indices = s.concentrator.indices;
    points = s.concentrator.points;
    controls = s.concentrator.controls;
    links = s.concentrator.links;
  };
  centres = record { first = s.centre; second = t.centre };
  above = record { first = s.above; second = t.above };
  now = s.now;
  history = record {
    confirmed = s.history.confirmed;
    overwritten = s.history.overwritten;
    gone = s.history.gone;
    dropped = record { first = s.history.dropped; second = t.history.dropped };
    issued = s.history.issued;
    operated = s.history.operated;
  };
}

-- what both see unchanged is unchanged
pub same_to_both : (old new : Whole) → seen_by 0 new ≡ seen_by 0 old → seen_by 1 new ≡ seen_by 1 old → new ≡ old
unfolding whole_of
same_to_both old new first second =
    ap (λ (s : System). whole_of s (seen_by 1 new)) first ∙ ap (λ (t : System). whole_of (seen_by 0 old) t) second

-- what a centre sees of a change elsewhere: these commands in the concentrator's book, these issues, and this point reserved
seen_with : System → Ledger → (ℕ → Option Command) → List (ℕ × Command) → System
seen_with s controls reserved issued = record s {
  concentrator = record s.concentrator { controls = controls; reserved = reserved };
  history = record s.history { issued = issued };
}

-- where these are as they were, all is
same_elsewhere : (old new : System) → SeesElsewhere old new → new.concentrator.controls ≡ old.concentrator.controls
    → new.concentrator.reserved ≡ old.concentrator.reserved → new.history.issued ≡ old.history.issued → new ≡ old
unfolding seen_with
same_elsewhere old new seen controls reserved issued =
    let listed : List (ℕ × Command) = old.history.issued ++ seen.issues in
    seen.after
    ∙ ap (λ (c : Ledger). seen_with old c new.concentrator.reserved listed) (sym (ap (λ (s : System). s.concentrator.controls) seen.after) ∙ controls)
    ∙ ap (λ (r : ℕ → Option Command). seen_with old old.concentrator.controls r listed) reserved
    ∙ ap (λ (l : List (ℕ × Command)). seen_with old old.concentrator.controls old.concentrator.reserved l)
    (sym (ap (λ (s : System). s.history.issued) seen.after) ∙ issued)

-- the first sees nothing changed, and the second what changed at another centre: nothing changed
first_unchanged : (old new : Whole) → seen_by 0 new ≡ seen_by 0 old → SeesElsewhere (seen_by 1 old) (seen_by 1 new) → new ≡ old
first_unchanged old new same seen =
    same_to_both old new same
    (same_elsewhere (seen_by 1 old) (seen_by 1 new) seen (ap (λ (s : System). s.concentrator.controls) same)
    (ap (λ (s : System). reserved_by s.concentrator.core) same) (ap (λ (s : System). s.history.issued) same))

second_unchanged : (old new : Whole) → seen_by 1 new ≡ seen_by 1 old → SeesElsewhere (seen_by 0 old) (seen_by 0 new) → new ≡ old
second_unchanged old new same seen =
    same_to_both old new
    (same_elsewhere (seen_by 0 old) (seen_by 0 new) seen (ap (λ (s : System). s.concentrator.controls) same)
    (ap (λ (s : System). reserved_by s.concentrator.core) same) (ap (λ (s : System). s.history.issued) same)) same

-- a change at a centre changes nothing, where that centre sees nothing changed
pub unchanged_to_all : (at : Option ℕ) (Change : System → System → Type 0) (old new : Whole) → is_there at ≡ true
    → ((centre : ℕ) → centre < CENTRES → Change (seen_by centre old) (seen_by centre new) → seen_by centre new ≡ seen_by centre old)
    → ChangesAll at Change old new → new ≡ old
unchanged_to_all None Change old new there same all =
    same_to_both old new (same 0 (omega arith) (all 0 (omega arith))) (same 1 (omega arith) (all 1 (omega arith)))
unchanged_to_all (Some zero) Change old new there same all =
    first_unchanged old new (same 0 (omega arith) (all 0 (omega arith))) (all 1 (omega arith))
unchanged_to_all (Some (suc zero)) Change old new there same all =
    second_unchanged old new (same 1 (omega arith) (all 1 (omega arith))) (all 0 (omega arith))
unchanged_to_all (Some (suc (suc n))) Change old new there same all =
    let past : nat_lt (suc (suc n)) CENTRES ≡ false = grind (arith, nat_tests) in
    absurd (false≢true (sym past ∙ there))
