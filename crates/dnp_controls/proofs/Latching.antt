-- The latches that a list of commands leaves.
use Rattle.std.proofs.Common.{◌≡◌, ℕ, ◌-◌, ◌<◌, ◌≤◌, Bool, true, false, List, [], ◌∷◌, ◌++◌, length, get_or, replicate, refl, ap, sym, ◌∙◌, arith, subst, unwrap_or, length-append, append-nil}
use Rattle.std.specs.Prelude.{Option, Some, None, All, eqb, cond}
use Rattle.std.specs.List.{filter_map, cons_option}
use Rattle.std.proofs.Math.Seq.{get_or-append_seam}
use Rattle.std.proofs.lemmas.List.{get_or-replicate}
use Rattle.std.proofs.lemmas.List.Elements.{filter_map-append, All-head, All-tail, All-push, All-nil}
use Rattle.std.proofs.lemmas.Bool.Decides.{Decides-eqb}
use Rattle.dnp_controls.specs.declared.limits.TheConstants.{MAX_OUTPUTS}
use Rattle.dnp_objects.specs.declared.command.Command.{Command}
use Rattle.dnp_objects.specs.declared.command.Command.TheVariants.{Block, Set16, Set32}
use Rattle.dnp_controls.specs.Latches.{latch_of, latch_by, is_latched}
use Rattle.dnp_controls.specs.steps.History.{IsInPlace, IsLatchedBy}
use Rattle.dnp_controls.specs.Code.{operation}

-- the last of the values, or false
last : List Bool → Bool
last xs = get_or xs (length xs - 1) false

last-push : (xs : List Bool) (y : Bool) → last (xs ++ y ∷ []) ≡ y
unfolding last
last-push xs y =
    let e : length (xs ++ y ∷ []) - 1 ≡ length xs = omega (arith, length-append xs (y ∷ [])) in
    ap (λ k. get_or (xs ++ y ∷ []) k false) e ∙ get_or-append_seam xs y [] false

-- one command more
pub is_latched-push : (commands : List Command) (command : Command) (output : ℕ)
    → is_latched (commands ++ command ∷ []) output ≡ unwrap_or (latch_of output command) (is_latched commands output)
unfolding last
is_latched-push commands command output =
    ap last (filter_map-append (latch_of output) commands (command ∷ [])) ∙ go (latch_of output command) (filter_map (latch_of output) commands)
  where
    go : (o : Option Bool) (xs : List Bool) → last (xs ++ cons_option o []) ≡ unwrap_or o (last xs)
    go None xs = ap last (append-nil xs)
    go (Some y) xs = last-push xs y

-- a command in place touches no latch beyond those that are kept
latch_of-beyond : (command : Command) (output : ℕ) → IsInPlace command → MAX_OUTPUTS ≤ output → latch_of output command ≡ None
latch_of-beyond (Block index code count on off) output in_place beyond =
    let e : eqb index output ≡ false = go (eqb index output) (Decides-eqb index output).0 in
    ap (λ b. cond b (latch_by (operation code)) None) e
  where
    go : (b : Bool) → (b ≡ true → index ≡ output) → b ≡ false
    go true same = absurd (let e : index ≡ output = same refl in omega arith)
    go false same = refl
latch_of-beyond (Set16 index value) output in_place beyond = refl
latch_of-beyond (Set32 index value) output in_place beyond = refl

latches-beyond : (commands : List Command) (output : ℕ) → All IsInPlace commands → MAX_OUTPUTS ≤ output
    → filter_map (latch_of output) commands ≡ []
latches-beyond [] output in_place beyond = refl
latches-beyond (command ∷ commands) output in_place beyond =
    ap (λ o. cons_option o (filter_map (latch_of output) commands))
    (latch_of-beyond command output (All-head IsInPlace command commands in_place) beyond)
    ∙ latches-beyond commands output (All-tail IsInPlace command commands in_place) beyond

-- no output beyond those that are kept is latched on
pub is_latched-beyond : (commands : List Command) (output : ℕ) → All IsInPlace commands → MAX_OUTPUTS ≤ output
    → is_latched commands output ≡ false
unfolding last
is_latched-beyond commands output in_place beyond = ap last (latches-beyond commands output in_place beyond)

-- at first nothing is latched on
pub IsLatchedBy-nothing : (commands : List Command) → commands ≡ [] → IsLatchedBy (replicate MAX_OUTPUTS false) commands
IsLatchedBy-nothing commands none =
    let P : List Command → Type 0 = λ cs. IsLatchedBy (replicate MAX_OUTPUTS false) cs in
    subst P (sym none) (record {
      count = refl;
      each = λ output low. get_or-replicate MAX_OUTPUTS output false false low;
      in_place = All-nil IsInPlace;
    })

-- one command more leaves the latches that it left
pub IsLatchedBy-push : (latched new : List Bool) (commands more : List Command) (command : Command)
    → IsLatchedBy latched commands → length new ≡ MAX_OUTPUTS → IsInPlace command
    → ((output : ℕ) → output < MAX_OUTPUTS → get_or new output false ≡ unwrap_or (latch_of output command) (get_or latched output false))
    → more ≡ commands ++ command ∷ [] → IsLatchedBy new more
IsLatchedBy-push latched new commands more command before count in_place set is =
    let P : List Command → Type 0 = λ cs. IsLatchedBy new cs in
    subst P (sym is) (record {
      count = count;
      each = λ output low. set output low ∙ ap (λ b. unwrap_or (latch_of output command) b) (before.each output low) ∙ sym (is_latched-push commands command output);
      in_place = All-push IsInPlace commands command before.in_place in_place;
    })
