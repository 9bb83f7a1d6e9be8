-- Runs of events with a common time: what continues one, and the common time that stands before it.
use Rattle.std.proofs.Common.{◌≡◌, Bool, true, false, if◌then◌else◌, refl, ◌∙◌, ap, ℕ, nat_le, ◌&&◌, List, ◌∷◌, [], ◌++◌, Option, Some, None, IfSome}
use Rattle.std.specs.Prelude.{nat_eq}
use Rattle.std.specs.Option.{option_eq}
use Rattle.std.proofs.lemmas.Bool.{and_parts}
use Rattle.std.proofs.lemmas.List.Sums.{fold_push}
use Rattle.dnp_appfragment.specs.Built.{context_of}
use Rattle.dnp_appfragment.specs.Headers.{Head, begin, context_after, context_past, count_of, is_common, last_time}
use Rattle.dnp_appfragment.specs.Written.{common_head}
use Rattle.dnp_outstation.specs.declared.offer.writer.Run.{Run}
use Rattle.dnp_outstation.specs.declared.offer.writer.Writer.{Writer}
use Rattle.dnp_outstation.specs.Items.{Thing}
use Rattle.dnp_outstation.specs.Items.Thing.{Event, Present}
use Rattle.dnp_outstation.specs.Layout.{Laid, goes_on, front_of}
use Rattle.dnp_outstation.specs.steps.Filling.{is_same_run, common_of, continues_by, continues}
use Rattle.dnp_outstation.proofs.Joined.{run_at, IsTold}
use Rattle.dnp_outstation.proofs.Stretches.{laid_as, same_common}

-- these headers end with this common time, if there is one
abbrev pub IsTimed : List Head → Option ℕ → Type 0
IsTimed hs common = IfSome common (λ t. context_past begin hs ≡ Some (last_time (common_head t)))

-- what continues is of the same run
pub continues_same : (w : Writer) (run : Run) → continues w run ≡ true → is_same_run w.run run ≡ true
continues_same w run is = go (common_of run) is
  where
    go : (common : Option ℕ) → continues_by w run common ≡ true → is_same_run w.run run ≡ true
    go None is = is
    go (Some t) is = (and_parts _ _ is).0

pub another_run : (w : Writer) (run : Run) → is_same_run w.run run ≡ false → continues w run ≡ false
another_run w run other = go (common_of run)
  where
    go : (common : Option ℕ) → continues_by w run common ≡ false
    go None = other
    go (Some t) = ap (λ (b : Bool). b && option_eq nat_eq (context_of w.builder) (Some (last_time (common_head t)))) other

-- a header of another group than 51 leaves the common time as it was
pub past_one : (hs : List Head) (h : Head) → is_common h ≡ false → context_past begin (hs ++ h ∷ []) ≡ context_past begin hs
past_one hs h other =
    fold_push context_after begin hs h
    ∙ ap (λ (b : Bool). if b && nat_le 1 (count_of h.range) then Some (last_time h) else context_past begin hs) other

-- what an item begins with
pub begun_timed : (hs : List Head) (y : Laid) → IsTimed (hs ++ front_of y) (common_of (run_at y))
begun_timed hs y = go y.item.thing y.common
  where
    go : (thing : Thing) (common : Option ℕ) → (let x : Laid = laid_as y.item.header thing y.object common in IsTimed (hs ++ front_of x) (common_of (run_at x)))
    go (Event lane row) None = tt
    go (Event lane row) (Some t) = fold_push context_after begin hs (common_head t)
    go (Present static) common = tt

-- what goes on has the same common time
pub same_time : (x y : Laid) → goes_on x y ≡ true → common_of (run_at x) ≡ common_of (run_at y)
same_time x y on = go x.item.thing y.item.thing on
  where
    go : (t t' : Thing) → goes_on (laid_as x.item.header t x.object x.common) (laid_as y.item.header t' y.object y.common) ≡ true
        → common_of (run_at (laid_as x.item.header t x.object x.common)) ≡ common_of (run_at (laid_as y.item.header t' y.object y.common))
    go (Event lane a) (Event lane' b) is = same_common x.common y.common (and_parts _ _ (and_parts _ _ is).0).1
    go (Event lane a) (Present b) is = cc
    go (Present a) (Event lane' b) is = cc
    go (Present a) (Present b) is = refl

-- a run with a common time is no header of common times
pub told_run : (x : Laid) → IsTold x → IfSome (common_of (run_at x)) (λ _. x.object.group ≡ 2)
told_run x told = go x.item.thing x.common told
  where
    go : (thing : Thing) (common : Option ℕ) → (let y : Laid = laid_as x.item.header thing x.object common in
        IsTold y → IfSome (common_of (run_at y)) (λ _. x.object.group ≡ 2))
    go (Event lane row) None told = tt
    go (Event lane row) (Some t) told = told.0
    go (Present static) common told = tt
