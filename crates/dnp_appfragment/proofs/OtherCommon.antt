-- What a header's octets say doesn't depend on its common time, but for the objects whose times are given after it.
use Rattle.std.proofs.Common.{ℕ, ◌≡◌, List, Option, inl, inr}
use Rattle.dnp_objects.specs.declared.row.Row.{Row}
use Rattle.dnp_objects.specs.declared.command.Command.{Command}
use Rattle.dnp_appfragment.specs.declared.table.Form.{Form}
use Rattle.dnp_appfragment.specs.declared.table.Form.TheVariants as form
use Rattle.dnp_appfragment.specs.Headers.{Head, IsHeader}
use Rattle.dnp_appfragment.specs.Objects.{IsObject, IsBit, IsObjectRow, IsWholeRow, IsCommand, HasWholeRows, HasCommands}

-- the header with another common time
abbrev pub with_common : Option ℕ → Head → Head
with_common o h = record h { common = o }

pub other_header : (o : Option ℕ) (f : Form) (h : Head) → IsHeader f h → IsHeader f (with_common o h)
other_header o f h is = record { object = is.object; fits = is.fits; forward = is.forward; objects = is.objects }

pub other_object : (o : Option ℕ) (h : Head) (size k index : ℕ) (octets : List ℕ) → IsObject h size k index octets
    → IsObject (with_common o h) size k index octets
other_object o h size k index octets is = record {
  counted = is.counted;
  index_is = is.index_is;
  before = is.before;
  after = is.after;
  placed = is.placed;
  sized = is.sized;
  joined = is.joined;
}

other_bit : (o : Option ℕ) (h : Head) (k : ℕ) (row : Row) → IsBit h k row → IsBit (with_common o h) k row
other_bit o h k row is = record {
  group = is.group;
  variation = is.variation;
  counted = is.counted;
  span = is.span;
  index = is.index;
  index_is = is.index_is;
  there = is.there;
  row_is = is.row_is;
}

other_object_row : (o : Option ℕ) (h : Head) (k : ℕ) (row : Row) → IsObjectRow h k row → IsObjectRow (with_common o h) k row
other_object_row o h k row is = record {
  size = is.size;
  size_is = is.size_is;
  index = is.index;
  octets = is.octets;
  object = other_object o h is.size k is.index is.octets is.object;
  reads = is.reads;
}

pub other_row : (o : Option ℕ) (h : Head) (k : ℕ) (row : Row) → IsWholeRow h k row → IsWholeRow (with_common o h) k row
other_row o h k row (inl is) = inl (other_bit o h k row is)
other_row o h k row (inr is) = inr (other_object_row o h k row is)

pub other_command : (o : Option ℕ) (h : Head) (k : ℕ) (answer : Command × ℕ) → IsCommand h k answer → IsCommand (with_common o h) k answer
other_command o h k answer is = record {
  size = is.size;
  size_is = is.size_is;
  index = is.index;
  octets = is.octets;
  object = other_object o h is.size k is.index is.octets is.object;
  reads = is.reads;
}

pub other_rows : (o : Option ℕ) (h : Head) → HasWholeRows h → HasWholeRows (with_common o h)
other_rows o h has = record { header = other_header o form.Response h has.header; rows = has.rows }

pub other_commands : (o : Option ℕ) (h : Head) → HasCommands h → HasCommands (with_common o h)
other_commands o h has = record { under = has.under; header = other_header o has.under h has.header; commands = has.commands }
