-- Private steps: what is read of a text's lines.
use Rattle.std.specs.Prelude.{◌≡◌, ℕ, false, List}
use Rattle.dnp_captures.specs.declared.item.Item.{Item}
use Rattle.dnp_captures.specs.declared.item.Mark.{Mark}
use Rattle.dnp_captures.specs.Hexadecimal.{lines_in, marks_from, octets_of_lines, refusals_from}

-- the text's octets, its marks and its refusals
pub record IsReadOf (text octets : List ℕ) (marks : List Mark) (items : List Item) : Type 0 where
  pub has_octets : octets ≡ octets_of_lines false (lines_in text)
  pub has_marks : marks ≡ marks_from false 0 1 (lines_in text)
  pub has_refusals : items ≡ refusals_from false 1 (lines_in text)
