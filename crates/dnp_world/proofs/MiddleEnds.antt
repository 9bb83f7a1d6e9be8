-- What a call of the concentrator's outstation towards one centre leaves, as an outstation's end promises it.
use Rattle.std.proofs.Common.{ℕ, Bool, List, [], Result, refl, ap, slice_index_or}
use Rattle.dnp_objects.specs.declared.store.StoreFault.{StoreFault}
use Rattle.dnp_controls.specs.Book.{Ledger}
use Rattle.dnp_eventbuf.specs.Sides.{other_than}
use Rattle.dnp_eventbuf.specs.EventBuffer.{EventBuffer}
use Rattle.dnp_concentrator.specs.Concentrator.{LeavesAbove, queue_of}
use Rattle.dnp_concentrator.specs.declared.concentrator.Concentrator.{Concentrator}
use Rattle.dnp_world.proofs.SystemComing.{Follows}

-- one that only looks at the centre's queue performs nothing, and leaves the other centre's things as they are
pub looks_on : {Q B Answer : Type 0} (honest : Q → Type 0) (is_stopped : Q → Bool) (buffer : Q → ℕ → EventBuffer) (ledger : B → Ledger) (asks_memory : Bool)
    (may_fault : StoreFault → Bool) (n : ℕ) (old new : Concentrator Q B) (answer : Result Answer StoreFault)
    → LeavesAbove honest is_stopped buffer asks_memory may_fault n old new answer → Follows honest buffer ledger n old new []
looks_on honest is_stopped buffer ledger asks_memory may_fault n old new answer leaves = (
  record { idle = λ _. leaves.outputs; performed = λ some. absurd (some refl) },
  record {
    core = leaves.other;
    side = λ is. ap (λ (sides : List EventBuffer). slice_index_or sides 0 (buffer (queue_of old) (other_than n))) (leaves.look.beside is);
    links = leaves.links;
    plan = leaves.plan;
  },
)
