-- One header more.
use Rattle.std.proofs.Common.{◌≡◌, ℕ, ◌+◌, ◌<◌, ◌≤◌, List, [], ◌∷◌, ◌++◌, drop, length, ◌∙◌, sym, subst, append_assoc, append-nil}
use Rattle.std.specs.Prelude.{Option, Some, None, Ok, Err}
use Rattle.dnp_standard.specs.declared.fault.Fault.{Fault}
use Rattle.dnp_standard.specs.declared.function.Carried.{Carried}
use Rattle.dnp_standard.specs.declared.header.Block.{Block}
use Rattle.dnp_standard.specs.declared.walk.Placed.{Placed}
use Rattle.dnp_standard.specs.declared.walk.Stop.{Stop}
use Rattle.dnp_standard.specs.Headers.{block_at}
use Rattle.dnp_standard.specs.Walks.{IsWalk, Ends, Stops, GoesOn, placed, stop}

-- with what goes on from a place, the headers so far are those of the walk
abbrev pub SoFar : Carried → List ℕ → ℕ → List Placed → ℕ → Type 0
SoFar c fragment begin blocks place =
    (more : List Placed) (end : Option Stop) → IsWalk c fragment place more end → IsWalk c fragment begin (blocks ++ more) end

pub so_far_more : (c : Carried) (fragment : List ℕ) (begin place : ℕ) (before after : List Placed) (block : Block)
    → SoFar c fragment begin before place → place < length fragment → block_at c (drop place fragment) ≡ Ok block
    → after ≡ before ++ placed place block ∷ [] → SoFar c fragment begin after (place + (block.begin + block.size))
so_far_more c fragment begin place before after block so_far low is pushed = λ more end walk.
    subst (λ (xs : List Placed). IsWalk c fragment begin xs end)
    (sym (append_assoc before (placed place block ∷ []) more) ∙ sym (let e : after ++ more ≡ (before ++ placed place block ∷ []) ++ more = cc in e))
    (so_far (placed place block ∷ more) end (GoesOn place block more end low is walk))

pub so_far_stop : (c : Carried) (fragment : List ℕ) (begin place : ℕ) (blocks : List Placed) (why : Fault)
    → SoFar c fragment begin blocks place → place < length fragment → block_at c (drop place fragment) ≡ Err why
    → IsWalk c fragment begin blocks (Some (stop why place))
so_far_stop c fragment begin place blocks why so_far low is =
    subst (λ (xs : List Placed). IsWalk c fragment begin xs (Some (stop why place))) (append-nil blocks)
    (so_far [] (Some (stop why place)) (Stops place why low is))

pub so_far_end : (c : Carried) (fragment : List ℕ) (begin place : ℕ) (blocks : List Placed)
    → SoFar c fragment begin blocks place → length fragment ≤ place → IsWalk c fragment begin blocks None
so_far_end c fragment begin place blocks so_far past =
    subst (λ (xs : List Placed). IsWalk c fragment begin xs None) (append-nil blocks) (so_far [] None (Ends place past))
