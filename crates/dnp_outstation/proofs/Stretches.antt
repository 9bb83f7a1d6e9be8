-- Items that stand under one header, and what stands behind them.
use Rattle.std.proofs.Common.{◌≡◌, ℕ, Bool, true, false, if◌then◌else◌, refl, sym, ◌∙◌, ap, List, [], ◌∷◌, ◌++◌, Option, Some, None, eqb-true}
use Rattle.std.specs.Prelude.{nat_eq}
use Rattle.std.specs.Option.{option_eq}
use Rattle.dnp_appfragment.specs.Items.{Item as Object}
use Rattle.dnp_outstation.specs.Items.{Thing}
use Rattle.dnp_outstation.specs.Layout.{Laid, goes_on, Stretch, alone, in_front, stretches}

-- an item by its parts
abbrev pub laid_as : ℕ → Thing → Object → Option ℕ → Laid
laid_as header thing object common = record { item = record { header = header; thing = thing }; object = object; common = common }

-- common times that are told to be the same are
pub same_common : (a b : Option ℕ) → option_eq nat_eq a b ≡ true → a ≡ b
same_common None None same = refl
same_common None (Some t) same = cc
same_common (Some t) None same = cc
same_common (Some t) (Some t') same = ap Some (eqb-true t t' same)

-- each item goes on from the one before it
abbrev pub IsChain : Laid → List Laid → Type 0
IsChain x [] = Unit {0}
IsChain x (y ∷ ys) = (goes_on x y ≡ true) × IsChain y ys

-- the last of them
abbrev pub last_item : Laid → List Laid → Laid
last_item x [] = x
last_item x (y ∷ ys) = last_item y ys

pub chain_push : (x : Laid) (more : List Laid) (y : Laid) → IsChain x more → goes_on (last_item x more) y ≡ true → IsChain x (more ++ y ∷ [])
chain_push x [] y chain on = (on, tt)
chain_push x (z ∷ more) y chain on = (chain.0, chain_push z more y chain.1 on)

pub last_push : (x : Laid) (more : List Laid) (y : Laid) → last_item x (more ++ y ∷ []) ≡ y
last_push x [] y = refl
last_push x (z ∷ more) y = last_push z more y

-- the first stretch begins with the first item
pub record Begins (x : Laid) (found : List Stretch) : Type 0 where
  pub more : List Laid
  pub others : List Stretch
  pub is : found ≡ (record { first = x; more = more }) ∷ others

begins_by : (x : Laid) (next : Stretch) (others : List Stretch) (b : Bool)
    → Begins x (if b then (record { first = x; more = next.first ∷ next.more }) ∷ others else alone x ∷ next ∷ others)
begins_by x next others true = record { more = next.first ∷ next.more; others = others; is = refl }
begins_by x next others false = record { more = []; others = next ∷ others; is = refl }

pub begins_in : (x : Laid) (found : List Stretch) → Begins x (in_front x found)
begins_in x [] = record { more = []; others = []; is = refl }
begins_in x (next ∷ others) = begins_by x next others (goes_on x next.first)

pub begins : (x : Laid) (xs : List Laid) → Begins x (stretches (x ∷ xs))
begins x xs = begins_in x (stretches xs)

-- an item in front of a stretch that begins with y
pub in_front_on : (x y : Laid) (more : List Laid) (others : List Stretch) → goes_on x y ≡ true
    → in_front x ((record { first = y; more = more }) ∷ others) ≡ (record { first = x; more = y ∷ more }) ∷ others
in_front_on x y more others on =
    ap (λ (b : Bool). if b then (record { first = x; more = y ∷ more }) ∷ others else alone x ∷ (record { first = y; more = more }) ∷ others) on

pub in_front_off : (x y : Laid) (more : List Laid) (others : List Stretch) → goes_on x y ≡ false
    → in_front x ((record { first = y; more = more }) ∷ others) ≡ alone x ∷ (record { first = y; more = more }) ∷ others
in_front_off x y more others off =
    ap (λ (b : Bool). if b then (record { first = x; more = y ∷ more }) ∷ others else alone x ∷ (record { first = y; more = more }) ∷ others) off

-- a chain alone is one stretch
pub one_stretch : (x : Laid) (more : List Laid) → IsChain x more → stretches (x ∷ more) ≡ (record { first = x; more = more }) ∷ []
one_stretch x [] chain = refl
one_stretch x (y ∷ ys) chain = ap (in_front x) (one_stretch y ys chain.1) ∙ in_front_on x y ys [] chain.0

-- a chain ends where an item doesn't go on from it
pub stretch_ends : (x : Laid) (more : List Laid) (z : Laid) (zs : List Laid) → IsChain x more → goes_on (last_item x more) z ≡ false
    → stretches (x ∷ (more ++ z ∷ zs)) ≡ (record { first = x; more = more }) ∷ stretches (z ∷ zs)
stretch_ends x [] z zs chain off =
    let b = begins z zs in
    ap (in_front x) b.is ∙ in_front_off x z b.more b.others off ∙ ap (λ (found : List Stretch). alone x ∷ found) (sym b.is)
stretch_ends x (y ∷ ys) z zs chain off =
    ap (in_front x) (stretch_ends y ys z zs chain.1 off) ∙ in_front_on x y ys (stretches (z ∷ zs)) chain.0
