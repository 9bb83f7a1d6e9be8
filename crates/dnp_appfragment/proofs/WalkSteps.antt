-- One step of a walk over a header's rows.
use Rattle.std.proofs.Common.{◌≡◌, refl, sym, ◌∙◌, ap, ℕ, zero, suc, ◌+◌, ◌-◌, ◌<◌, List, [], ◌∷◌, arith, Option, Some, None}
use Rattle.std.specs.Option.{option_map_or}
use Rattle.dnp_objects.specs.declared.row.Row.{Row}
use Rattle.dnp_objects.specs.declared.table.Shape.{Shape}
use Rattle.dnp_objects.specs.Objects.{shape_size}
use Rattle.dnp_objects.specs.Parts.{row_of}
use Rattle.dnp_appfragment.specs.declared.header.Range.{Range}
use Rattle.dnp_appfragment.specs.declared.row_walk.RowForm.{RowForm}
use Rattle.dnp_appfragment.specs.declared.row_walk.RowForm.TheVariants as carried
use Rattle.dnp_appfragment.specs.Headers.{head_of}
use Rattle.dnp_appfragment.specs.Meaning.{bit_in}
use Rattle.dnp_appfragment.specs.steps.Walking.{Cut, cut_at, cut_left, row_after, bits_left, rows_left}

not_none : (n : ℕ) → (n ≡ 0 → ⊥) → 0 < n
not_none zero some = absurd (some refl)
not_none (suc n) some = omega arith

pub none_left : (c : RowForm) (r : Range) (octets : List ℕ) (k left : ℕ) → left ≡ 0 → rows_left c r octets k left ≡ []
unfolding cut_left bits_left
none_left carried.Bits r octets k zero none = refl
none_left (carried.Rows s) r octets k zero none = refl
none_left (carried.Relative common) r octets k zero none = refl
none_left carried.Nothing r octets k left none = refl
none_left carried.Bits r octets k (suc n) none = absurd (omega arith)
none_left (carried.Rows s) r octets k (suc n) none = absurd (omega arith)
none_left (carried.Relative common) r octets k (suc n) none = absurd (omega arith)

pub bit_step : (r : Range) (octets : List ℕ) (k left : ℕ) → 0 < left
    → bits_left r octets left k ≡ option_map_or (λ (row : Row). row ∷ bits_left r octets (left - 1) (k + 1)) (bit_in (head_of 1 1 r octets) k) []
unfolding bits_left
bit_step r octets k zero some = absurd (omega arith)
bit_step r octets k (suc n) some =
    let same : n ≡ suc n - 1 = omega arith in
    ap (λ (m : ℕ). option_map_or (λ (row : Row). row ∷ bits_left r octets m (k + 1)) (bit_in (head_of 1 1 r octets) k) []) same

pub row_step : (f : ℕ → List ℕ → Row) (size : ℕ) (r : Range) (octets : List ℕ) (k left : ℕ) → 0 < left
    → cut_left f size r left k octets
    ≡ option_map_or (λ (cut : Cut). f cut.index cut.octets ∷ cut_left f size r (left - 1) (k + 1) cut.rest) (cut_at r size k octets) []
unfolding cut_left
row_step f size r octets k zero some = absurd (omega arith)
row_step f size r octets k (suc n) some =
    let same : n ≡ suc n - 1 = omega arith in
    ap (λ (m : ℕ). option_map_or (λ (cut : Cut). f cut.index cut.octets ∷ cut_left f size r m (k + 1) cut.rest) (cut_at r size k octets) []) same

-- rows of so many octets are carried, each given by its index and its octets
abbrev pub Carries : RowForm → (ℕ → List ℕ → Row) → ℕ → Type 0
Carries c f n = (r : Range) (octets : List ℕ) (k left : ℕ) → rows_left c r octets k left ≡ cut_left f n r left k octets

pub carries_rows : (c : RowForm) (s : Shape) → c ≡ carried.Rows s → Carries c (row_of s) (shape_size s)
carries_rows c s is = λ r octets k left. ap (λ (c : RowForm). rows_left c r octets k left) is

pub carries_relative : (c : RowForm) (common : ℕ) → c ≡ carried.Relative common → Carries c (row_after common) 3
carries_relative c common is = λ r octets k left. ap (λ (c : RowForm). rows_left c r octets k left) is

-- a row that was cut off the front is the first of those that were left
pub row_given : (before : List Row) (c : RowForm) (f : ℕ → List ℕ → Row) (n : ℕ) (r : Range) (octets : List ℕ) (k left : ℕ) (size : ℕ) (cut : Cut) (row : Row)
    → rows_left c r octets k left ≡ before → Carries c f n → (left ≡ 0 → ⊥) → size ≡ n
    → Some cut ≡ cut_at r size k octets → row ≡ f cut.index cut.octets
    → before ≡ row ∷ rows_left c r cut.rest (k + 1) (left - 1)
row_given before c f n r octets k left size cut row view carries some sized is same =
    let here : cut_at r n k octets ≡ Some cut = ap (λ (n : ℕ). cut_at r n k octets) (sym sized) ∙ sym is in
    sym view ∙ carries r octets k left ∙ row_step f n r octets k left (not_none left some)
    ∙ ap (λ (o : Option Cut). option_map_or (λ (cut : Cut). f cut.index cut.octets ∷ cut_left f n r (left - 1) (k + 1) cut.rest) o []) here
    ∙ (λ i. sym same i ∷ sym (carries r cut.rest (k + 1) (left - 1)) i)

-- and where none was, none was left
pub no_row_given : (before : List Row) (c : RowForm) (f : ℕ → List ℕ → Row) (n : ℕ) (r : Range) (octets : List ℕ) (k left : ℕ) (size : ℕ)
    → rows_left c r octets k left ≡ before → Carries c f n → (left ≡ 0 → ⊥) → size ≡ n → None ≡ cut_at r size k octets → before ≡ []
no_row_given before c f n r octets k left size view carries some sized is =
    let here : cut_at r n k octets ≡ None = ap (λ (n : ℕ). cut_at r n k octets) (sym sized) ∙ sym is in
    sym view ∙ carries r octets k left ∙ row_step f n r octets k left (not_none left some)
    ∙ ap (λ (o : Option Cut). option_map_or (λ (cut : Cut). f cut.index cut.octets ∷ cut_left f n r (left - 1) (k + 1) cut.rest) o []) here

pub bit_given : (before : List Row) (c : RowForm) (r : Range) (octets : List ℕ) (k left : ℕ) (row : Row)
    → rows_left c r octets k left ≡ before → c ≡ carried.Bits → (left ≡ 0 → ⊥) → Some row ≡ bit_in (head_of 1 1 r octets) k
    → before ≡ row ∷ rows_left c r octets (k + 1) (left - 1)
bit_given before c r octets k left row view carries some is =
    sym view ∙ ap (λ (c : RowForm). rows_left c r octets k left) carries ∙ bit_step r octets k left (not_none left some)
    ∙ ap (λ (o : Option Row). option_map_or (λ (row : Row). row ∷ bits_left r octets (left - 1) (k + 1)) o []) (sym is)
    ∙ ap (λ (c : RowForm). row ∷ rows_left c r octets (k + 1) (left - 1)) (sym carries)

pub no_bit_given : (before : List Row) (c : RowForm) (r : Range) (octets : List ℕ) (k left : ℕ)
    → rows_left c r octets k left ≡ before → c ≡ carried.Bits → (left ≡ 0 → ⊥) → None ≡ bit_in (head_of 1 1 r octets) k → before ≡ []
no_bit_given before c r octets k left view carries some is =
    sym view ∙ ap (λ (c : RowForm). rows_left c r octets k left) carries ∙ bit_step r octets k left (not_none left some)
    ∙ ap (λ (o : Option Row). option_map_or (λ (row : Row). row ∷ bits_left r octets (left - 1) (k + 1)) o []) (sym is)
