-- Definition: what a poll sends in place of the requests of its tasks (IEEE Std 1815-2012, application layer: READ, DIRECT_OPERATE, object
-- headers).
use Rattle.std.specs.Prelude.{ℕ, Bool, false, not, ◌&&◌, nat_lt, if◌then◌else◌, List, [], ◌∷◌, ◌++◌, take, Option, Some, None, slice_set}
use Rattle.dnp_appfragment.specs.Headers.{Head, head_of, header_octets}
use Rattle.dnp_appfragment.specs.Table.{function_octet}
use Rattle.dnp_appfragment.specs.declared.function.Function.TheVariants as function
use Rattle.dnp_appfragment.specs.declared.header.Range.TheVariants as range
use Rattle.dnp_master.specs.declared.task.Task.{Task}
use Rattle.dnp_master.specs.declared.task.Task.TheVariants.{Poll, ClearRestart, Enable, Disable, WriteTime, Select, Operate}
use Rattle.dnp_poll.specs.declared.instead.Instead.{Instead}
use Rattle.dnp_poll.specs.declared.instead.Points.{Points}

-- ---- which tasks can be asked

-- the task sends a command by DIRECT_OPERATE
abbrev pub is_direct : Instead → Task → Bool
is_direct instead (Select command) = instead.direct
is_direct instead (Poll classes) = false
is_direct instead ClearRestart = false
is_direct instead (Enable classes) = false
is_direct instead (Disable classes) = false
is_direct instead (WriteTime time) = false
is_direct instead (Operate command) = false

-- with DIRECT_OPERATE nothing is operated after a select, and once a command was sent none follows
abbrev pub is_barred : Instead → Bool → Task → Bool
is_barred instead is_spent (Select command) = instead.direct && is_spent
is_barred instead is_spent (Operate command) = instead.direct
is_barred instead is_spent (Poll classes) = false
is_barred instead is_spent ClearRestart = false
is_barred instead is_spent (Enable classes) = false
is_barred instead is_spent (Disable classes) = false
is_barred instead is_spent (WriteTime time) = false

-- ---- what is sent

-- the header of points: each index has an octet, qualifier 00, or else two, qualifier 01
abbrev pub is_wide : Points → Bool
is_wide points = not (nat_lt points.first 256 && nat_lt points.last 256)

abbrev pub points_header : Points → Head
points_header points = head_of points.group points.variation (range.Span (is_wide points) points.first points.last) []

-- a READ of points, behind the control octet of a request
abbrev pub read_of : Points → List ℕ → List ℕ
read_of points request = take 1 request ++ (function_octet function.Read ∷ header_octets (points_header points))

-- the points that are read in place of classes
abbrev pub reading : Option Points → List ℕ → List ℕ
reading None request = request
reading (Some points) request = read_of points request

-- the function of a request is its second octet; SELECT and DIRECT_OPERATE carry the same objects
abbrev pub operating : Bool → List ℕ → List ℕ
operating is_direct request = if is_direct then slice_set request 1 (function_octet function.DirectOperate) else request

-- in place of the request of this task
abbrev pub sent_for : Instead → Task → List ℕ → List ℕ
sent_for instead (Poll classes) request = reading instead.points request
sent_for instead (Select command) request = operating instead.direct request
sent_for instead ClearRestart request = request
sent_for instead (Enable classes) request = request
sent_for instead (Disable classes) request = request
sent_for instead (WriteTime time) request = request
sent_for instead (Operate command) request = request
