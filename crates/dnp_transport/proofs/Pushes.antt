-- How the last push left a series open, or completed a fragment.
use Rattle.std.proofs.Common.{◌≡◌, ℕ, ◌≤◌, true, false, inl, inr, List, [], ◌∷◌, ◌++◌, length, refl, sym, ap, ◌∙◌, subst, arith, length-append}
use Rattle.std.proofs.lemmas.Bool.{cases_Bool}
use Rattle.dnp_transport.specs.Segments.{is_last, carried}
use Rattle.dnp_transport.specs.Series.{is_left_out, kept, IsSeries, newest, joined, IsOpen, IsWhole}
use Rattle.dnp_transport.specs.Laws.{OpenBy, LeftOut, Begins, GoesOn, WholeBy, Alone, Ends}
use Rattle.dnp_transport.proofs.Histories.{kept_left_out, kept_stays, series_front}
use Rattle.dnp_transport.specs.declared.limits.TheConstants.{MAX_FRAGMENT}

open_by_at : (before t r older : List (List ℕ)) (s : List ℕ) → s ∷ before ≡ r ++ older → kept r ≡ t → IsSeries t → is_last (newest t) ≡ false
    → length (joined t) ≤ MAX_FRAGMENT → OpenBy before s t
open_by_at before t [] older s e k h u f = absurd (subst (λ (l : List (List ℕ)). IsSeries l) (sym k) h)
open_by_at before t (x ∷ r) older s e k h u f =
    let heads : x ≡ s = cc in
    let tails : before ≡ r ++ older = cc in
    let k' : kept (s ∷ r) ≡ t = subst (λ (y : List ℕ). kept (y ∷ r) ≡ t) heads k in
    elim (cases_Bool (is_left_out (kept r) s)) [
      | inl out ↦
          let same : kept r ≡ t = sym (kept_left_out s r out) ∙ k' in
          LeftOut
          (subst (λ (l : List (List ℕ)). is_left_out l s ≡ true) same out)
          record { recent = r; older = older; split = tails; kept_are = same; in_series = h; unended = u; fits = f }
      | inr stays ↦
          let same : t ≡ s ∷ kept r = sym k' ∙ kept_stays s r stays in
          let unended : is_last s ≡ false = subst (λ (l : List (List ℕ)). is_last (newest l) ≡ false) same u in
          elim (series_front s (kept r) (subst (λ (l : List (List ℕ)). IsSeries l) same h)) [
            | inl front ↦ Begins front.1 unended (same ∙ ap (λ (l : List (List ℕ)). s ∷ l) front.0)
            | inr back ↦
                let long : length (joined (s ∷ kept r)) ≤ MAX_FRAGMENT = subst (λ (l : List (List ℕ)). length (joined l) ≤ MAX_FRAGMENT) same f in
                let shorter : length (joined (kept r)) ≤ MAX_FRAGMENT = omega (arith, long, length-append (joined (kept r)) (carried s)) in
                GoesOn (kept r)
                record { recent = r; older = older; split = tails; kept_are = refl; in_series = back.1; unended = back.0.unended; fits = shorter }
                back.0 unended same
          ]
    ]

pub open_by : (before t : List (List ℕ)) (s : List ℕ) → IsOpen (s ∷ before) t → OpenBy before s t
open_by before t s o = open_by_at before t o.recent o.older s o.split o.kept_are o.in_series o.unended o.fits

whole_by_at : (before r older : List (List ℕ)) (s f : List ℕ) → before ≡ r ++ older → IsSeries (s ∷ kept r) → is_last s ≡ true
    → joined (s ∷ kept r) ≡ f → length f ≤ MAX_FRAGMENT → WholeBy before s f
whole_by_at before r older s f e h u j fits =
    elim (series_front s (kept r) h) [
      | inl front ↦ Alone front.1 u (sym j ∙ ap (λ (l : List (List ℕ)). joined l ++ carried s) front.0)
      | inr back ↦
          let shorter : length (joined (kept r)) ≤ MAX_FRAGMENT = omega (arith, fits, ap length j, length-append (joined (kept r)) (carried s)) in
          Ends (kept r)
          record { recent = r; older = older; split = e; kept_are = refl; in_series = back.1; unended = back.0.unended; fits = shorter }
          back.0 u (sym j)
    ]

pub whole_by : (before : List (List ℕ)) (s f : List ℕ) → IsWhole (s ∷ before) f → WholeBy before s f
whole_by before s f w =
    let split : s ∷ before ≡ w.segment ∷ (w.recent ++ w.older) = w.split in
    let heads : w.segment ≡ s = cc in
    let tails : before ≡ w.recent ++ w.older = cc in
    whole_by_at before w.recent w.older s f tails
    (subst (λ (x : List ℕ). IsSeries (x ∷ kept w.recent)) heads w.in_series)
    (subst (λ (x : List ℕ). is_last x ≡ true) heads w.ended)
    (subst (λ (x : List ℕ). joined (x ∷ kept w.recent) ≡ f) heads w.joined_is)
    w.fits
