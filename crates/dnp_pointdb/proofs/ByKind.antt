-- Blocks by kind: those of one kind after a change of one bank, or of each.
use Rattle.std.proofs.Common.{◌≡◌, ◌≢◌, ℕ, zero, suc, ◌⊎◌, ◌↔◌, Bool, true, List, [], ◌∷◌, map, get_or, set, refl, sym, ◌∙◌, ap, subst, arith, inl, inr}
use Rattle.std.specs.Prelude.{IsTrue}
use Rattle.std.specs.List.{Any}
use Rattle.std.proofs.Math.ListN.{get_or-map}
use Rattle.std.proofs.lemmas.Bool.{cases_order}
use Rattle.std.proofs.lemmas.List.{get_or-set_other}
use Rattle.dnp_objects.specs.Equality.{kind_eq}
use Rattle.dnp_objects.specs.Lanes.{kind_number}
use Rattle.dnp_objects.specs.declared.row.Kind.{Kind}
use Rattle.dnp_objects.specs.declared.row.Kind.TheVariants.{Binary, Counter, Analog}
use Rattle.dnp_pointdb.specs.declared.state.BlockState.{BlockState}
use Rattle.dnp_pointdb.specs.Plan.{kinds}
use Rattle.dnp_pointdb.specs.Database.{Database, blocks_of, with_blocks, each_kind}

-- ---- a kind is known by its number

kind_at : ℕ → Kind
kind_at zero = Binary
kind_at (suc zero) = Counter
kind_at (suc (suc n)) = Analog

kind_at-number : (kind : Kind) → kind_at (kind_number kind) ≡ kind
unfolding kind_at
kind_at-number Binary = refl
kind_at-number Counter = refl
kind_at-number Analog = refl

pub same_number : (kind other : Kind) → kind_number kind ≡ kind_number other → kind ≡ other
same_number kind other same =
    sym (kind_at-number kind) ∙ ap (λ (n : ℕ). kind_at n) same ∙ kind_at-number other

pub same_or_not : (kind other : Kind) → (kind ≡ other) ⊎ (kind ≢ other)
same_or_not kind other =
    elim (cases_order (kind_number kind) (kind_number other)) [
      | inl same ↦ inl (same_number kind other same)
      | inr (inl lt) ↦ inr (λ is. absurd (omega (arith, ap (λ (k : Kind). kind_number k) is)))
      | inr (inr gt) ↦ inr (λ is. absurd (omega (arith, ap (λ (k : Kind). kind_number k) is)))
    ]

pub same_kind : (kind other : Kind) → kind_eq kind other ≡ true → kind ≡ other
same_kind Binary Binary is = refl
same_kind Counter Counter is = refl
same_kind Analog Analog is = refl
same_kind Binary Counter is = absurd (cc)
same_kind Binary Analog is = absurd (cc)
same_kind Counter Binary is = absurd (cc)
same_kind Counter Analog is = absurd (cc)
same_kind Analog Binary is = absurd (cc)
same_kind Analog Counter is = absurd (cc)

-- ---- the bank of a kind

put_back : {A : Type 0} (f : A → A) (d : A) → f d ≡ d → (xs : List A) (n : ℕ)
    → get_or (set xs n (f (get_or xs n d))) n d ≡ f (get_or xs n d)
put_back f d fixed [] n = sym fixed
put_back f d fixed (x ∷ xs) zero = refl
put_back f d fixed (x ∷ xs) (suc n) = put_back f d fixed xs n

-- a change of one bank that makes nothing of no blocks
pub blocks_of-same : (change : List BlockState → List BlockState) → change [] ≡ [] → (database : Database) (kind : Kind)
    → blocks_of (with_blocks database kind (change (blocks_of database kind))) kind ≡ change (blocks_of database kind)
blocks_of-same change none database kind = put_back change [] none database.banks (kind_number kind)

pub blocks_of-other : (database : Database) (kind other : Kind) (bs : List BlockState) → kind ≢ other
    → blocks_of (with_blocks database kind bs) other ≡ blocks_of database other
blocks_of-other database kind other bs apart =
    get_or-set_other database.banks (kind_number kind) (kind_number other) bs [] (λ same. apart (sym (same_number other kind same)))

-- the same change of each bank
pub blocks_of-each : (change : List BlockState → List BlockState) → change [] ≡ [] → (database : Database) (kind : Kind)
    → blocks_of (each_kind change database) kind ≡ change (blocks_of database kind)
blocks_of-each change none database kind =
    ap (λ (d : List BlockState). get_or (map change database.banks) (kind_number kind) d) (sym none)
    ∙ get_or-map change database.banks (kind_number kind) []

-- ---- lists of all kinds

-- a kind of which something is so is one of the list
pub any_kind : (P : Kind → Type 0) (found : Bool) (all : List Kind) → all ≡ kinds → (IsTrue found ↔ Any P all)
    → IsTrue found ↔ ((kind : Kind) × P kind)
any_kind P found all same is =
    (λ h. let of = is.0 h in (of.1, of.4), λ h. is.1 (subst (λ (ks : List Kind). Any P ks) (sym same) (listed h.0 h.1)))
  where
    listed : (kind : Kind) → P kind → Any P kinds
    listed Binary p = (0, Binary, omega arith, refl, p)
    listed Counter p = (1, Counter, omega arith, refl, p)
    listed Analog p = (2, Analog, omega arith, refl, p)
