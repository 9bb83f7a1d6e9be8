-- A queue's database, and one side of it beside the other.
use Rattle.std.proofs.Common.{◌≡◌}
use Rattle.sqlite.specs.Effect.{Database}
use Rattle.dnp_eventbuf.specs.EventBuffer.{EventBuffer}
use Rattle.dnp_store.specs.declared.queue_side.QueueSide.{QueueSide}
use Rattle.dnp_store.specs.declared.queue_side.QueueSide.TheVariants.{First, Second}
use Rattle.dnp_store.specs.PairTables.{HoldsSide, IsPair, Sides}
use Rattle.dnp_store.specs.steps.Pairs.{HoldsFor, IsFor, sides_of}

-- the lanes on this side, as its tables hold them
pub side_in : (side : QueueSide) (others s : EventBuffer) (db : Database) → IsFor side others db s → HoldsSide side db.trees s
side_in side others s db h = record { figures = h.figures; lanes = h.holds.lanes; overflow = h.overflow }

pub pair_of : (side : QueueSide) (others s : EventBuffer) (db : Database) → IsFor side others db s → IsPair db (sides_of side s others)
pair_of First others s db h = record {
  checks = h.holds.checks;
  schema = h.holds.schema;
  behind = h.holds.behind;
  holds = record { form = h.holds.form; counts = h.holds.counts; first = side_in First others s db h; second = h.holds.rest };
}
pair_of Second others s db h = record {
  checks = h.holds.checks;
  schema = h.holds.schema;
  behind = h.holds.behind;
  holds = record { form = h.holds.form; counts = h.holds.counts; first = h.holds.rest; second = side_in Second others s db h };
}

pub for_of : (side : QueueSide) (others s : EventBuffer) (db : Database) → IsPair db (sides_of side s others) → IsFor side others db s
for_of First others s db h = record {
  figures = h.holds.first.figures;
  holds = record {
    checks = h.checks;
    schema = h.schema;
    behind = h.behind;
    form = h.holds.form;
    counts = h.holds.counts;
    lanes = h.holds.first.lanes;
    rest = h.holds.second;
  };
  overflow = h.holds.first.overflow;
}
for_of Second others s db h = record {
  figures = h.holds.second.figures;
  holds = record {
    checks = h.checks;
    schema = h.schema;
    behind = h.behind;
    form = h.holds.form;
    counts = h.holds.counts;
    lanes = h.holds.second.lanes;
    rest = h.holds.first;
  };
  overflow = h.holds.second.overflow;
}
