-- There is one cut of a list.
use Rattle.std.proofs.Common.{◌≡◌, Bool, true, false, if◌then◌else◌, refl, sym, ◌∙◌, ap, List, [], ◌∷◌, ◌++◌, append_assoc, append-nil}
use Rattle.std.specs.Prelude.{IsTrue}
use Rattle.std.specs.List.{flat_map, AllByRecursion}
use Rattle.dnp_outstation.specs.Groups.{Group, group, members, AreApart, IsCut, grown, cut}

module _ {A : Type 0} (reaches : A → A → Bool) where
  abbrev InReach : A → List A → Type 0
  InReach first more = AllByRecursion (λ x. IsTrue (reaches first x)) more

  reach_more : (first : A) (more : List A) (x : A) → InReach first more → IsTrue (reaches first x) → InReach first (more ++ x ∷ [])
  reach_more first [] x all one = (one, tt)
  reach_more first (y ∷ ys) x all one = (all.0, reach_more first ys x all.1 one)

  -- groups that begin with one that has grown
  record IsGrown (first : A) (more xs : List A) (groups : List (Group A)) : Type 0 where
    whole : flat_map members groups ≡ first ∷ (more ++ xs)
    within : AllByRecursion (λ g. InReach g.first g.more) groups
    apart : AreApart reaches groups
    begins : (h : A) → reaches h first ≡ false → (own : List A) → AreApart reaches (group h own ∷ groups)

  is_grown : (first : A) (more xs : List A) → InReach first more → IsGrown first more xs (grown reaches first more xs)
  is_grown first more [] all = record {
    whole = refl;
    within = (all, tt);
    apart = tt;
    begins = λ h off own. (off, tt);
  }
  is_grown first more (x ∷ xs) all =
      by (λ one. is_grown first (more ++ x ∷ []) xs (reach_more first more x all one)) (is_grown x [] xs tt) (reaches first x) refl
    where
      by : (IsTrue (reaches first x) → IsGrown first (more ++ x ∷ []) xs (grown reaches first (more ++ x ∷ []) xs))
          → IsGrown x [] xs (grown reaches x [] xs) → (b : Bool) → reaches first x ≡ b
          → IsGrown first more (x ∷ xs) (if b then grown reaches first (more ++ x ∷ []) xs else group first more ∷ grown reaches x [] xs)
      by on off true is =
          let longer = on is in
          record {
            whole = longer.whole ∙ ap (λ (l : List A). first ∷ l) (append_assoc more (x ∷ []) xs);
            within = longer.within;
            apart = longer.apart;
            begins = longer.begins;
          }
      by on off false is = record {
        whole = ap (λ (l : List A). first ∷ (more ++ l)) off.whole;
        within = (all, off.within);
        apart = off.begins first is more;
        begins = λ h other own. (other, off.begins first is more);
      }

  pub is_cut : (items : List A) → IsCut reaches items (cut reaches items)
  is_cut [] = record { whole = refl; within = tt; apart = tt }
  is_cut (x ∷ xs) = let g = is_grown x [] xs tt in record { whole = g.whole; within = g.within; apart = g.apart }

  -- ---- and no other

  abbrev AreWithin : List (Group A) → Type 0
  AreWithin groups = AllByRecursion (λ g. InReach g.first g.more) groups

  -- the first of a group alone matters
  apart_any : (g : Group A) (own : List A) (gs : List (Group A)) → AreApart reaches (g ∷ gs) → AreApart reaches (group g.first own ∷ gs)
  apart_any g own [] apart = tt
  apart_any g own (h ∷ hs) apart = apart

  abbrev Ends : List (Group A) → Type 0
  Ends gs = (first : A) (own : List A) → AreApart reaches (group first own ∷ gs)
      → grown reaches first own (flat_map members gs) ≡ group first own ∷ gs

  -- a group that goes on with some more, and ends before others
  ends_later : (gs : List (Group A)) → Ends gs → (first : A) (own more : List A) → InReach first more → AreApart reaches (group first own ∷ gs)
      → grown reaches first own (more ++ flat_map members gs) ≡ group first (own ++ more) ∷ gs
  ends_later gs ends first own [] near apart = ends first own apart ∙ ap (λ (l : List A). group first l ∷ gs) (sym (append-nil own))
  ends_later gs ends first own (x ∷ more) near apart =
      let rest : List A = more ++ flat_map members gs in
      ap (λ (b : Bool). if b then grown reaches first (own ++ x ∷ []) rest else group first own ∷ grown reaches x [] rest) near.0
      ∙ ends_later gs ends first (own ++ x ∷ []) more near.1 (apart_any (group first own) (own ++ x ∷ []) gs apart)
      ∙ ap (λ (l : List A). group first l ∷ gs) (append_assoc own (x ∷ []) more)

  ends : (gs : List (Group A)) → AreWithin gs → Ends gs
  ends [] within first own apart = refl
  ends (h ∷ hs) within first own apart =
      let rest : List A = h.more ++ flat_map members hs in
      ap (λ (b : Bool). if b then grown reaches first (own ++ h.first ∷ []) rest else group first own ∷ grown reaches h.first [] rest) apart.0
      ∙ ap (λ (l : List (Group A)). group first own ∷ l) (ends_later hs (ends hs within.1) h.first [] h.more within.0 (apart_any h [] hs apart.1))

  cut_again : (groups : List (Group A)) → AreWithin groups → AreApart reaches groups → cut reaches (flat_map members groups) ≡ groups
  cut_again [] within apart = refl
  cut_again (g ∷ gs) within apart = ends_later gs (ends gs within.1) g.first [] g.more within.0 (apart_any g [] gs apart)

  pub only_cut : (items : List A) (groups : List (Group A)) → IsCut reaches items groups → groups ≡ cut reaches items
  only_cut items groups is = sym (cut_again groups is.within is.apart) ∙ ap (cut reaches) is.whole
