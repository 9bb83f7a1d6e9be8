-- Lanes that are one side of a store, lent to a call: what the call leaves of the store.
use Rattle.std.proofs.Common.{◌≡◌, ℕ, Bool, Result, refl, sym, ◌∙◌, ap, subst}
use Rattle.std.specs.Borrow.{GName}
use Rattle.std.specs.Prelude.{OnErr}
use Rattle.dnp_eventbuf.specs.Sides.{beside_of, centre_in, lent_pair, pair_in}
use Rattle.dnp_eventbuf.specs.EventBuffer.{EventBuffer}
use Rattle.dnp_eventbuf.specs.declared.side.Side.{Side}
use Rattle.dnp_outstation.specs.Stores.{KeepsLanes}
use Rattle.dnp_concentrator.specs.Concentrator.{KeepsSide}

-- the store and the centre of a side
abbrev pub place_of : {Pair : Type 0} → Side Pair → GName × ℕ
place_of s = ((lent_pair s).ghost_name, centre_in s)

-- a call that keeps a side keeps it in the store
pub side_kept : {Pair Answer Fault : Type 0} (honest : Pair → Type 0) (is_stopped : Pair → Bool) (contents : Pair → ℕ → EventBuffer) (device : Fault)
    (s t : Side Pair) (answer : Result Answer Fault) (pair : Pair) (centre : ℕ)
    → KeepsLanes (λ x. honest (pair_in x)) (λ x. is_stopped (pair_in x)) (λ x. contents (pair_in x) (centre_in x))
    (λ x. beside_of contents (centre_in x) (pair_in x)) place_of device s t answer
    → pair_in s ≡ pair → centre_in s ≡ centre → KeepsSide honest is_stopped contents centre device pair (pair_in t) answer
side_kept honest is_stopped contents device s t answer pair centre k is_pair is_centre =
    subst (λ q. KeepsSide honest is_stopped contents centre device q (pair_in t) answer) is_pair
    (subst (λ n. KeepsSide honest is_stopped contents n device (pair_in s) (pair_in t) answer) is_centre here)
  where
    stays : centre_in t ≡ centre_in s
    stays = ap (λ (p : GName × ℕ). p.1) k.place

    here : KeepsSide honest is_stopped contents (centre_in s) device (pair_in s) (pair_in t) answer
    here = record {
      held = k.held;
      place = refl;
      beside = λ h. ap (λ (n : ℕ). beside_of contents n (pair_in t)) (sym stays) ∙ k.beside h;
      unchanged = λ h. subst (λ (n : ℕ). OnErr answer (contents (pair_in t) n ≡ contents (pair_in s) (centre_in s))) stays (k.unchanged h);
      runs_on = k.runs_on;
    }
