-- The values that a list of commands gives setpoints, and the states in which it leaves all outputs.
use Rattle.std.proofs.Common.{◌≡◌, ℕ, ℤ, ◌-◌, ◌<◌, ◌≤◌, Bool, true, false, List, [], ◌∷◌, ◌++◌, length, get_or, replicate, refl, ap, sym, ◌∙◌, arith, subst, length-append, append-nil}
use Rattle.std.specs.Prelude.{Option, Some, None, All, eqb, cond, pos, unwrap_or, slice_get}
use Rattle.std.specs.Option.{option_or}
use Rattle.std.specs.List.{filter_map, cons_option}
use Rattle.std.proofs.Math.Seq.{get_or-append_seam}
use Rattle.std.proofs.lemmas.List.{get_or-replicate}
use Rattle.std.proofs.lemmas.List.Elements.{filter_map-append, All-head, All-tail}
use Rattle.std.proofs.lemmas.Option.{slice_get-get_or}
use Rattle.std.proofs.lemmas.Bool.Decides.{Decides-eqb}
use Rattle.dnp_controls.specs.declared.limits.TheConstants.{MAX_OUTPUTS}
use Rattle.dnp_objects.specs.declared.command.Command.{Command}
use Rattle.dnp_objects.specs.declared.command.Command.TheVariants.{Block, Set16, Set32}
use Rattle.dnp_controls.specs.Latches.{latch_of, setting_of, value_of}
use Rattle.dnp_controls.specs.steps.History.{IsInPlace, IsValuedBy, IsLeftBy}
use Rattle.dnp_controls.proofs.Latching.{IsLatchedBy-nothing, IsLatchedBy-push}

-- the last of the values, if there is one
last : List ℤ → Option ℤ
last xs = slice_get xs (length xs - 1)

last-push : (xs : List ℤ) (y : ℤ) → last (xs ++ y ∷ []) ≡ Some y
unfolding last
last-push xs y =
    let all : List ℤ = xs ++ y ∷ [] in
    let e : length all - 1 ≡ length xs = omega (arith, length-append xs (y ∷ [])) in
    let low : length xs < length all = omega (arith, length-append xs (y ∷ [])) in
    ap (slice_get all) e ∙ slice_get-get_or all (length xs) (pos 0) low ∙ ap Some (get_or-append_seam xs y [] (pos 0))

-- one command more
pub value_of-push : (commands : List Command) (command : Command) (setpoint : ℕ)
    → value_of (commands ++ command ∷ []) setpoint ≡ option_or (setting_of setpoint command) (value_of commands setpoint)
unfolding last
value_of-push commands command setpoint =
    ap last (filter_map-append (setting_of setpoint) commands (command ∷ []))
    ∙ go (setting_of setpoint command) (filter_map (setting_of setpoint) commands)
  where
    go : (o : Option ℤ) (xs : List ℤ) → last (xs ++ cons_option o []) ≡ option_or o (last xs)
    go None xs = ap last (append-nil xs)
    go (Some y) xs = last-push xs y

-- a command in place sets no setpoint beyond those that are kept
unset : (index setpoint : ℕ) (value : ℤ) → index < MAX_OUTPUTS → MAX_OUTPUTS ≤ setpoint → cond (eqb index setpoint) (Some value) None ≡ None
unset index setpoint value low beyond =
    let e : eqb index setpoint ≡ false = go (eqb index setpoint) (Decides-eqb index setpoint).0 in
    ap (λ b. cond b (Some value) None) e
  where
    go : (b : Bool) → (b ≡ true → index ≡ setpoint) → b ≡ false
    go true same = absurd (let e : index ≡ setpoint = same refl in omega arith)
    go false same = refl

setting_of-beyond : (command : Command) (setpoint : ℕ) → IsInPlace command → MAX_OUTPUTS ≤ setpoint → setting_of setpoint command ≡ None
setting_of-beyond (Block index code count on off) setpoint in_place beyond = refl
setting_of-beyond (Set16 index value) setpoint in_place beyond = unset index setpoint value in_place beyond
setting_of-beyond (Set32 index value) setpoint in_place beyond = unset index setpoint value in_place beyond

settings-beyond : (commands : List Command) (setpoint : ℕ) → All IsInPlace commands → MAX_OUTPUTS ≤ setpoint
    → filter_map (setting_of setpoint) commands ≡ []
settings-beyond [] setpoint in_place beyond = refl
settings-beyond (command ∷ commands) setpoint in_place beyond =
    ap (λ o. cons_option o (filter_map (setting_of setpoint) commands))
    (setting_of-beyond command setpoint (All-head IsInPlace command commands in_place) beyond)
    ∙ settings-beyond commands setpoint (All-tail IsInPlace command commands in_place) beyond

-- no setpoint beyond those that are kept has a value
pub value_of-beyond : (commands : List Command) (setpoint : ℕ) → All IsInPlace commands → MAX_OUTPUTS ≤ setpoint
    → value_of commands setpoint ≡ None
unfolding last
value_of-beyond commands setpoint in_place beyond = ap last (settings-beyond commands setpoint in_place beyond)

-- at first nothing is latched on, and no setpoint has a value
pub IsLeftBy-nothing : (commands : List Command) → commands ≡ [] → IsLeftBy (replicate MAX_OUTPUTS false) (replicate MAX_OUTPUTS None) commands
IsLeftBy-nothing commands none =
    let P : List Command → Type 0 = λ cs. IsValuedBy (replicate MAX_OUTPUTS None) cs in
    record {
      latches = IsLatchedBy-nothing commands none;
      values_are = subst P (sym none) (record {
        count = refl;
        each = λ setpoint low. get_or-replicate MAX_OUTPUTS setpoint None None low;
      });
    }

-- one command more leaves the values that it gave
IsValuedBy-push : (values new : List (Option ℤ)) (commands more : List Command) (command : Command)
    → IsValuedBy values commands → length new ≡ MAX_OUTPUTS
    → ((setpoint : ℕ) → setpoint < MAX_OUTPUTS → get_or new setpoint None ≡ option_or (setting_of setpoint command) (get_or values setpoint None))
    → more ≡ commands ++ command ∷ [] → IsValuedBy new more
IsValuedBy-push values new commands more command before count set is =
    let P : List Command → Type 0 = λ cs. IsValuedBy new cs in
    subst P (sym is) (record {
      count = count;
      each = λ setpoint low.
          set setpoint low
          ∙ ap (λ v. option_or (setting_of setpoint command) v) (before.each setpoint low)
          ∙ sym (value_of-push commands command setpoint);
    })

-- one command more leaves the output that it is for in its state, and all others in theirs
pub IsLeftBy-push : (latched latched' : List Bool) (values values' : List (Option ℤ)) (commands more : List Command) (command : Command)
    → IsLeftBy latched values commands → IsInPlace command → length latched' ≡ MAX_OUTPUTS → length values' ≡ MAX_OUTPUTS
    → ((output : ℕ) → output < MAX_OUTPUTS → get_or latched' output false ≡ unwrap_or (latch_of output command) (get_or latched output false))
    → ((setpoint : ℕ) → setpoint < MAX_OUTPUTS → get_or values' setpoint None ≡ option_or (setting_of setpoint command) (get_or values setpoint None))
    → more ≡ commands ++ command ∷ [] → IsLeftBy latched' values' more
IsLeftBy-push latched latched' values values' commands more command before in_place count counted latches settings is = record {
  latches = IsLatchedBy-push latched latched' commands more command before.latches count in_place latches is;
  values_are = IsValuedBy-push values values' commands more command before.values_are counted settings is;
}
