-- What follows from the words on lists.
use Rattle.std.proofs.Common.{◌≡◌, ℕ, zero, suc, List, [], ◌∷◌, ◌++◌, drop, map, inl, inr, refl, sym, ap, subst, append_assoc}
use Rattle.dnp_world.specs.Lists.{Each, IsEnd, Turns, picked}

-- ---- ends

pub end_same : {X : Type 0} (xs ys : List X) → xs ≡ ys → IsEnd xs ys
end_same xs [] e = e
end_same xs (y ∷ ys) e = inl e

-- nothing is an end of any list
pub end_none : {X : Type 0} (ys : List X) → IsEnd [] ys
end_none [] = refl
end_none (y ∷ ys) = inr (end_none ys)

pub end_tail : {X : Type 0} (x : X) (xs ys : List X) → IsEnd (x ∷ xs) ys → IsEnd xs ys
end_tail x xs [] e = absurd (cc)
end_tail x xs (y ∷ ys) h =
    elim h [
      | inl e ↦ let tails : xs ≡ ys = cc in inr (end_same xs ys tails)
      | inr t ↦ inr (end_tail x xs ys t)
    ]

pub end_after : {X : Type 0} (ws xs ys : List X) → IsEnd (ws ++ xs) ys → IsEnd xs ys
end_after [] xs ys h = h
end_after (w ∷ ws) xs ys h = end_after ws xs ys (end_tail w (ws ++ xs) ys h)

pub end_trans : {X : Type 0} (xs ys zs : List X) → IsEnd xs ys → IsEnd ys zs → IsEnd xs zs
end_trans xs [] zs e h = subst (λ (l : List _). IsEnd l zs) (sym e) (end_none zs)
end_trans xs (y ∷ ys) zs h k =
    elim h [
      | inl e ↦ subst (λ (l : List _). IsEnd l zs) (sym e) k
      | inr t ↦ end_trans xs ys zs t (end_tail y ys zs k)
    ]

-- what is sent comes after
pub end_more : {X : Type 0} (xs ys zs : List X) → IsEnd xs ys → IsEnd (xs ++ zs) (ys ++ zs)
end_more xs [] zs e = end_same (xs ++ zs) zs (ap (λ (l : List _). l ++ zs) e)
end_more xs (y ∷ ys) zs h =
    elim h [
      | inl e ↦ inl (ap (λ (l : List _). l ++ zs) e)
      | inr t ↦ inr (end_more xs ys zs t)
    ]

pub end_map : {X Y : Type 0} (f : X → Y) (xs ys : List X) → IsEnd xs ys → IsEnd (map f xs) (map f ys)
end_map f xs [] e = ap (map f) e
end_map f xs (y ∷ ys) h =
    elim h [
      | inl e ↦ inl (ap (map f) e)
      | inr t ↦ inr (end_map f xs ys t)
    ]

-- ---- each

pub each_end : {X : Type 0} (P : X → Type 0) (xs ys : List X) → IsEnd xs ys → Each P ys → Each P xs
each_end P xs [] e h = subst (Each P) (sym e) tt
each_end P xs (y ∷ ys) k h =
    elim k [
      | inl e ↦ subst (Each P) (sym e) h
      | inr t ↦ each_end P xs ys t h.1
    ]

pub each_both : {X : Type 0} (P : X → Type 0) (xs ys : List X) → Each P xs → Each P ys → Each P (xs ++ ys)
each_both P [] ys h k = k
each_both P (x ∷ xs) ys h k = (h.0, each_both P xs ys h.1 k)

pub each_left : {X : Type 0} (P : X → Type 0) (xs ys : List X) → Each P (xs ++ ys) → Each P xs
each_left P [] ys h = tt
each_left P (x ∷ xs) ys h = (h.0, each_left P xs ys h.1)

pub each_right : {X : Type 0} (P : X → Type 0) (xs ys : List X) → Each P (xs ++ ys) → Each P ys
each_right P [] ys h = h
each_right P (x ∷ xs) ys h = each_right P xs ys h.1

pub each_weaker : {X : Type 0} (P Q : X → Type 0) → ((x : X) → P x → Q x) → (xs : List X) → Each P xs → Each Q xs
each_weaker P Q f [] h = tt
each_weaker P Q f (x ∷ xs) h = (f x h.0, each_weaker P Q f xs h.1)

pub each_map : {X Y : Type 0} (P : Y → Type 0) (f : X → Y) (xs : List X) → Each P (map f xs) → Each (λ x. P (f x)) xs
each_map P f [] h = tt
each_map P f (x ∷ xs) h = (h.0, each_map P f xs h.1)

-- ---- turns

pub turns_each : {X : Type 0} (Old New : X → Type 0) (xs : List X) → Each New xs → Turns Old New xs
turns_each Old New [] h = tt
turns_each Old New (x ∷ xs) h = inl h

-- new ones come after
pub turns_more : {X : Type 0} (Old New : X → Type 0) (xs ys : List X) → Turns Old New xs → Each New ys → Turns Old New (xs ++ ys)
turns_more Old New [] ys h k = turns_each Old New ys k
turns_more Old New (x ∷ xs) ys h k =
    elim h [
      | inl n ↦ inl (n.0, each_both New xs ys n.1 k)
      | inr o ↦ inr (o.0, turns_more Old New xs ys o.1 k)
    ]

-- all become old ones
pub turns_over : {X : Type 0} (Old New : X → Type 0) (xs ys : List X) → Each Old xs → Each New ys → Turns Old New (xs ++ ys)
turns_over Old New [] ys h k = turns_each Old New ys k
turns_over Old New (x ∷ xs) ys h k = inr (h.0, turns_over Old New xs ys h.1 k)

pub turns_end : {X : Type 0} (Old New : X → Type 0) (xs ys : List X) → IsEnd xs ys → Turns Old New ys → Turns Old New xs
turns_end Old New xs [] e h = subst (Turns Old New) (sym e) tt
turns_end Old New xs (y ∷ ys) k h =
    elim k [
      | inl e ↦ subst (Turns Old New) (sym e) h
      | inr t ↦ elim h [
        | inl n ↦ turns_each Old New xs (each_end New xs ys t n.1)
        | inr o ↦ turns_end Old New xs ys t o.1
      ]
    ]

-- an end of what stands behind
pub turns_behind : {X : Type 0} (Old New : X → Type 0) (ws xs ys : List X) → IsEnd xs ys → Turns Old New (ws ++ ys) → Turns Old New (ws ++ xs)
turns_behind Old New [] xs ys k h = turns_end Old New xs ys k h
turns_behind Old New (w ∷ ws) xs ys k h =
    elim h [
      | inl n ↦ inl (n.0, each_both New ws xs (each_left New ws ys n.1) (each_end New xs ys k (each_right New ws ys n.1)))
      | inr o ↦ inr (o.0, turns_behind Old New ws xs ys k o.1)
    ]

-- one in the middle is there twice
pub turns_twice : {X : Type 0} (Old New : X → Type 0) (ws : List X) (x : X) (xs : List X) → Turns Old New (ws ++ x ∷ xs) →
    Turns Old New ((ws ++ x ∷ []) ++ x ∷ xs)
turns_twice Old New [] x xs h =
    elim h [
      | inl n ↦ inl (n.0, n)
      | inr o ↦ inr (o.0, inr o)
    ]
turns_twice Old New (w ∷ ws) x xs h =
    elim h [
      | inl n ↦
          inl (
            n.0,
            each_both New (ws ++ x ∷ []) (x ∷ xs)
                (each_both New ws (x ∷ []) (each_left New ws (x ∷ xs) n.1) ((each_right New ws (x ∷ xs) n.1).0, tt)) (each_right New ws (x ∷ xs) n.1),
          )
      | inr o ↦ inr (o.0, turns_twice Old New ws x xs o.1)
    ]

-- after a new one all are new
pub turns_head : {X : Type 0} (Old New : X → Type 0) (x : X) (xs : List X) → (Old x → ⊥) → Turns Old New (x ∷ xs) → Each New (x ∷ xs)
turns_head Old New x xs never h = elim h [ inl n ↦ n | inr o ↦ absurd (never o.0) ]

-- ---- what is picked

pub picked_both : {X Y : Type 0} (pick : X → List Y) (xs ys : List X) → picked pick (xs ++ ys) ≡ picked pick xs ++ picked pick ys
picked_both pick [] ys = refl
picked_both pick (x ∷ xs) ys = simp (picked_both pick xs ys, append_assoc) refl

pub picked_end : {X Y : Type 0} (pick : X → List Y) (n : ℕ) (xs : List X) → IsEnd (picked pick (drop n xs)) (picked pick xs)
picked_end pick zero xs = end_same (picked pick xs) (picked pick xs) refl
picked_end pick (suc n) [] = refl
picked_end pick (suc n) (x ∷ xs) =
    end_trans (picked pick (drop n xs)) (picked pick xs) (pick x ++ picked pick xs) (picked_end pick n xs)
    (end_after (pick x) (picked pick xs) (pick x ++ picked pick xs) (end_same (pick x ++ picked pick xs) (pick x ++ picked pick xs) refl))

pub drop_end : {X : Type 0} (n : ℕ) (xs : List X) → IsEnd (drop n xs) xs
drop_end zero xs = end_same xs xs refl
drop_end (suc n) [] = refl
drop_end (suc n) (x ∷ xs) = inr (drop_end n xs)
