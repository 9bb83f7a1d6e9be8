-- Definition: what is left of a fragment while its headers are gone through.
use Rattle.std.specs.Prelude.{ℕ, Bool, List, [], is_ok}
use Rattle.std.specs.Result.{result_unwrap_or}
use Rattle.std.specs.Borrow.{Bor}
use Rattle.dnp_appfragment.specs.declared.table.Form.{Form}
use Rattle.dnp_appfragment.specs.Headers.{Head, Context, begin}
use Rattle.dnp_appfragment.specs.Reading.{headers_from}

-- the octets that are left, where they lie, and the headers in them
pub record Left : Type 0 where
  pub rest : Bor (List ℕ)
  pub headers : List Head

-- headers divide the octets, after what the headers before them say
abbrev pub is_whole : Form → Context → List ℕ → Bool
is_whole f context octets = is_ok (headers_from f context octets)

abbrev pub headers_left : Form → Context → List ℕ → List Head
headers_left f context octets = result_unwrap_or (headers_from f context octets) []

-- those of octets with which a fragment begins
abbrev pub headers_of : Form → List ℕ → List Head
headers_of f octets = headers_left f begin octets
