-- Definition: the object headers of a fragment from a place on, one after the other, each with its objects, and where what follows is no
-- header with its objects.
use Rattle.std.specs.Prelude.{◌≡◌, ℕ, ◌+◌, ◌<◌, ◌≤◌, List, [], ◌∷◌, drop, length, Option, Some, None, Ok, Err}
use Rattle.dnp_standard.specs.declared.fault.Fault.{Fault}
use Rattle.dnp_standard.specs.declared.function.Carried.{Carried}
use Rattle.dnp_standard.specs.declared.header.Block.{Block}
use Rattle.dnp_standard.specs.declared.walk.Placed.{Placed}
use Rattle.dnp_standard.specs.declared.walk.Stop.{Stop}
use Rattle.dnp_standard.specs.Headers.{block_at}

abbrev pub placed : ℕ → Block → Placed
placed place block = record { place = place; block = block }

abbrev pub stop : Fault → ℕ → Stop
stop why place = record { fault = why; place = place }

-- from this place of the fragment on there are these headers with their objects, and then its end, or a fault at a place
pub data IsWalk (c : Carried) (fragment : List ℕ) : ℕ → List Placed → Option Stop → Type 0 where
  Ends : (place : ℕ) → length fragment ≤ place → IsWalk c fragment place [] None
  Stops : (place : ℕ) (why : Fault) → place < length fragment → block_at c (drop place fragment) ≡ Err why
      → IsWalk c fragment place [] (Some (stop why place))
  GoesOn : (place : ℕ) (block : Block) (more : List Placed) (end : Option Stop) → place < length fragment
      → block_at c (drop place fragment) ≡ Ok block → IsWalk c fragment (place + (block.begin + block.size)) more end
      → IsWalk c fragment place (placed place block ∷ more) end
