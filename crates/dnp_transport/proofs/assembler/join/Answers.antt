-- The data fit exactly where `try_extend_from_slice` says so.
use Rattle.std.proofs.Common.{◌≡◌, ℕ, ◌+◌, ◌≤◌, inl, inr, IsOk, is_ok, List, ◌++◌, ◌-◌, length, take, drop, length-append, refl, sym, ap, ◌∙◌, arith}
use Rattle.std.proofs.lemmas.Bool.{both_ways, cases_lt}
use Rattle.std.proofs.lemmas.List.{take_rest}
use Rattle.dnp_transport.specs.Segments.{carried}
use Rattle.dnp_transport.specs.steps.Stages.{Passes, Completes, Waits}
use Rattle.dnp_transport.proofs.Calls.{at_ok}
use Rattle.dnp_transport.proofs.assembler.join.Goals as goal
use Rattle.dnp_transport.specs.declared.limits.TheConstants.{MAX_FRAGMENT}

pub returns-then-is_err : goal.returns-then-is_err
returns-then-is_err c =
    let s : List ℕ = c.args.segment.now in
    let so_far : List ℕ = c.args.octets.now.items in
    let rest : take (length s - 1) (drop 1 s) ≡ carried s = take_rest s 1 in
    let no_room : IsOk c.try_extend_from_slice.result → ⊥ =
    both_ways (is_ok c.try_extend_from_slice.result) c.if-is_err.ensures.negation in
    Passes refl
    (elim (cases_lt MAX_FRAGMENT (length (so_far ++ carried s))) [
      | inl long ↦ long
      | inr short ↦
          absurd
          (no_room
          (c.try_extend_from_slice.ensures.variant.1 (omega (arith, length-append so_far (carried s), ap length rest))))
    ])

-- where the data found room, the octets are those so far with the data after them, and fit
record IsGrown (so_far s octets : List ℕ) : Type 0 where
  grown : octets ≡ so_far ++ carried s
  fits : length octets ≤ MAX_FRAGMENT

found_room : (so_far s octets : List ℕ) → octets ≡ so_far ++ take (length s - 1) (drop 1 s)
    → length so_far + length (take (length s - 1) (drop 1 s)) ≤ MAX_FRAGMENT → IsGrown so_far s octets
found_room so_far s octets e room =
    let rest : take (length s - 1) (drop 1 s) ≡ carried s = take_rest s 1 in
    let grown : octets ≡ so_far ++ carried s = e ∙ ap (λ (l : List ℕ). so_far ++ l) rest in
    record { grown = grown; fits = omega (arith, room, ap length grown, ap length rest, length-append so_far (carried s)) }

pub returns-then-is_last : goal.returns-then-is_last
returns-then-is_last c =
    let ok : IsOk c.try_extend_from_slice.result = c.if-is_err.ensures.negation in
    let i : IsGrown c.args.octets.now.items c.args.segment.now c.try_extend_from_slice.new.self.items =
    found_room c.args.octets.now.items c.args.segment.now c.try_extend_from_slice.new.self.items
    (at_ok c.try_extend_from_slice.result ok c.try_extend_from_slice.ensures.ok) (c.try_extend_from_slice.ensures.variant.0 ok) in
    Completes refl i.grown i.fits (sym c.is_last.ensures ∙ c.if-is_last.true)

pub returns : goal.returns
returns c =
    let ok : IsOk c.try_extend_from_slice.result = c.if-is_err.ensures.negation in
    let i : IsGrown c.args.octets.now.items c.args.segment.now c.try_extend_from_slice.new.self.items =
    found_room c.args.octets.now.items c.args.segment.now c.try_extend_from_slice.new.self.items
    (at_ok c.try_extend_from_slice.result ok c.try_extend_from_slice.ensures.ok) (c.try_extend_from_slice.ensures.variant.0 ok) in
    Waits refl i.grown i.fits (sym c.is_last.ensures ∙ c.if-is_last.false)
