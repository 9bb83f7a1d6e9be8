-- Texts that are written one after the other.
use Rattle.std.proofs.Common.{◌≡◌, ℕ, ◌+◌, ◌<◌, ◌≤◌, List, [], ◌∷◌, ◌++◌, length, map, drop, get_or, Option, Result, Ok, Err, refl, sym, ap, ◌∙◌, subst, append_assoc, append-nil, add-one, drop-cons}
use Rattle.std.proofs.lemmas.List.{drop_all, get_or-map, length-map}
use Rattle.std.specs.Prelude.{OnErr}
use Rattle.std.specs.List.{concat}
use Rattle.std.specs.Io.KnownBytes.{Appends}
use Rattle.std.proofs.KnownBytes.{Appends-nil, Appends-trans}

-- of a text these parts are still to be written
pub record Leaves (whole : List ℕ) (held now : Option (List ℕ)) (parts : List (List ℕ)) : Type 0 where
  pub written : List ℕ
  pub split : written ++ concat parts ≡ whole
  pub appended : Appends held now written

-- a beginning of a text is written
abbrev pub Begins : List ℕ → Option (List ℕ) → Option (List ℕ) → Type 0
Begins whole held now = (part rest : List ℕ) × (whole ≡ part ++ rest) × Appends held now part

pub none_written : (held : Option (List ℕ)) (parts : List (List ℕ)) → Leaves (concat parts) held held parts
none_written held parts = record { written = []; split = refl; appended = Appends-nil held }

pub all_written : {whole : List ℕ} {held now : Option (List ℕ)} → Leaves whole held now [] → Appends held now whole
all_written {whole} {held} {now} left = subst (Appends held now) (sym (append-nil left.written) ∙ left.split) left.appended

-- the next part is written
pub next_written : {whole part : List ℕ} {held now later : Option (List ℕ)} {more : List (List ℕ)} →
    Leaves whole held now (part ∷ more) → Appends now later part → Leaves whole held later more
next_written {whole} {part} {held} {now} {later} {more} left wrote = record {
  written = left.written ++ part;
  split = append_assoc left.written part (concat more) ∙ left.split;
  appended = Appends-trans held now later left.written part left.appended wrote;
}

-- the next part is cut
pub next_cut : {whole text : List ℕ} {held now : Option (List ℕ)} {more : List (List ℕ)} (later : Option (List ℕ)) →
    Leaves whole held now (text ∷ more) → Begins text now later → Begins whole held later
next_cut {whole} {text} {held} {now} {more} later left (part, rest, cut, wrote) = (
  left.written ++ part,
  rest ++ concat more,
  sym left.split ∙ ap (λ l. left.written ++ (l ++ concat more)) cut ∙ ap (λ l. left.written ++ l) (append_assoc part rest (concat more))
      ∙ sym (append_assoc left.written part (rest ++ concat more)),
  Appends-trans held now later left.written part left.appended wrote,
)

-- the next of the parts that things say
pub next_of : {A : Type 0} (f : A → List ℕ) (things : List A) (i : ℕ) (d : A) → i < length things →
    {whole : List ℕ} {held now : Option (List ℕ)} → Leaves whole held now (drop i (map f things)) →
    Leaves whole held now (f (get_or things i d) ∷ drop (i + 1) (map f things))
next_of f things i d low {whole} {held} {now} left =
    let within : i < length (map f things) = subst (λ (n : ℕ). i < n) (sym (length-map things f)) low in
    let here = drop-cons (map f things) i [] within in
    let first : get_or (map f things) i [] ≡ f (get_or things i d) = get_or-map f things i d [] low in
    let at : drop i (map f things) ≡ f (get_or things i d) ∷ drop (i + 1) (map f things) = rw (add-one, ← first) here in
    subst (Leaves whole held now) at left

-- none of them is left
pub none_left : {A : Type 0} (f : A → List ℕ) (things : List A) (i : ℕ) → length things ≤ i →
    {whole : List ℕ} {held now : Option (List ℕ)} → Leaves whole held now (drop i (map f things)) → Appends held now whole
none_left f things i past {whole} {held} {now} left =
    all_written (subst (Leaves whole held now) (drop_all i (map f things) (subst (λ (n : ℕ). n ≤ i) (sym (length-map things f)) past)) left)

-- what holds holds of a fault
pub of_fault : {A E : Type 0} (result : Result A E) {P : Type 0} → P → OnErr result P
of_fault (Ok done) holds = tt
of_fault (Err fault) holds = holds
