-- Private steps: text that grows by lines.
use Rattle.std.specs.Prelude.{◌≡◌, ℕ, List, ◌++◌}
use Rattle.dnp_linkframe.specs.declared.frame.Frame.{Frame}
use Rattle.dnp_streams.specs.Units.{AreLinesOf}

-- the lines of these frames stand after the old text
pub record AreAppended (old : List ℕ) (frames : List Frame) (new : List ℕ) : Type 0 where
  pub lines : List ℕ
  pub are : AreLinesOf frames lines
  pub whole : new ≡ old ++ lines
