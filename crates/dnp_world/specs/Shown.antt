-- Definition: what contracts see of a whole system: what it holds, by what its stores say of themselves, and the stores; and what
-- holds of it at every moment (own rule: IEEE Std 1815-2012 speaks of one link at a time).
use Rattle.std.specs.Prelude.{◌≡◌, Bool, false, ◌||◌}
use Rattle.dnp_concentrator.specs.PerCentre.{at, for_each, is_any, per_centre}
use Rattle.dnp_eventbuf.specs.Sides.{ForEach}
use Rattle.dnp_world.specs.BothSteady.{AreSteady}
use Rattle.dnp_world.specs.Wholes.{Whole}

-- the concentrator's queues, the centres' journals, the concentrator's book, and the centres' books
pub record Stores (Q J A B : Type 0) : Type 0 where
  pub queues : Q
  pub journals : J × J
  pub controls : A
  pub orders : B × B

pub record Shown (Q J A B : Type 0) : Type 0 where
  pub system : Whole
  pub stores : Stores Q J A B

-- the book is honest, and has not answered Device
pub record IsBookWell {B : Type 0} (honest : B → Type 0) (is_stopped : B → Bool) (book : B) : Type 0 where
  pub is : honest book
  pub runs : is_stopped book ≡ false

-- the stores are honest, and no book has answered Device
pub record StoresAreWell {Q J A B : Type 0} (queues : Q → Type 0) (journal : J → Type 0) (controls : A → Type 0) (controls_stopped : A → Bool)
    (orders : B → Type 0) (orders_stopped : B → Bool) (stores : Stores Q J A B) : Type 0 where
  pub queues_are : queues stores.queues
  pub journals_are : ForEach (λ centre. journal (at centre (per_centre stores.journals)))
  pub controls_are : IsBookWell controls controls_stopped stores.controls
  pub orders_are : ForEach (λ centre. IsBookWell orders orders_stopped (at centre (per_centre stores.orders)))

-- one of them has answered Device
abbrev pub is_one_stopped : {Q J A B : Type 0} → (Q → Bool) → (J → Bool) → (A → Bool) → (B → Bool) → Stores Q J A B → Bool
is_one_stopped queues journal controls orders stores =
    (queues stores.queues || controls stores.controls)
    || is_any (for_each (λ centre. journal (at centre (per_centre stores.journals)) || orders (at centre (per_centre stores.orders))))

-- At every moment a system whose stores are well is steady, as each centre sees it.
abbrev pub IsSteadyWhileWell : {Q J A B : Type 0} → (Q → Type 0) → (J → Type 0) → (A → Type 0) → (A → Bool) → (B → Type 0) → (B → Bool)
    → Shown Q J A B → Type 0
IsSteadyWhileWell queues journal controls controls_stopped orders orders_stopped shown =
    StoresAreWell queues journal controls controls_stopped orders orders_stopped shown.stores → ∥ AreSteady shown.system ∥₁
