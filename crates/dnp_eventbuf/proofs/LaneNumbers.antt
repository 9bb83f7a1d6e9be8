-- The numbers of lanes, and the lane that a number reads.
use Rattle.std.proofs.Common.{◌≡◌, ◌∙◌, ℕ, ◌+◌, ◌*◌, ◌<◌, ◌≤◌, length, get_or, ap, refl, sym, arith}
use Rattle.std.proofs.lemmas.List.{get_or_read_under}
use Rattle.dnp_objects.specs.declared.limits.TheConstants.{LANES}
use Rattle.dnp_objects.specs.Lanes.{lane_number, kind_number}
use Rattle.dnp_objects.specs.declared.row.Kind.{Kind}
use Rattle.dnp_objects.specs.declared.row.Kind.TheVariants.{Binary, Counter, Analog}
use Rattle.dnp_objects.specs.declared.lane.Lane.{Lane}
use Rattle.dnp_eventbuf.specs.EventBuffer.{EventBuffer, LaneState, lane_at, no_lane}

kind_number-low : (kind : Kind) → kind_number kind ≤ 2
kind_number-low Binary = omega arith
kind_number-low Counter = omega arith
kind_number-low Analog = omega arith

pub lane_number-low : (lane : Lane) → lane_number lane < LANES
lane_number-low lane = omega (arith, kind_number-low lane.kind, lane.at_most_3)

-- what is read of nine lanes at a lane's number is that lane
pub lane_read : (s : EventBuffer) (number : ℕ) (of : Lane) (lane : LaneState) → lane ≡ get_or s.lanes number lane → number ≡ lane_number of → number < LANES
    → length s.lanes ≡ LANES → lane ≡ lane_at s (lane_number of)
lane_read s number of lane is value range nine = get_or_read_under s.lanes number LANES lane no_lane is range (sym nine) ∙ ap (lane_at s) value

-- lanes of one number are of one kind
pub same_kind : (j k : Kind) (m n : ℕ) → 3 * m + kind_number j ≡ 3 * n + kind_number k → j ≡ k
same_kind Binary Binary m n e = refl
same_kind Binary Counter m n e = absurd (omega arith)
same_kind Binary Analog m n e = absurd (omega arith)
same_kind Counter Binary m n e = absurd (omega arith)
same_kind Counter Counter m n e = refl
same_kind Counter Analog m n e = absurd (omega arith)
same_kind Analog Binary m n e = absurd (omega arith)
same_kind Analog Counter m n e = absurd (omega arith)
same_kind Analog Analog m n e = refl
