-- Private steps: what the fields of a line keep.
use Rattle.std.specs.Prelude.{◌≡◌, ℕ, ◌≤◌}
use Rattle.dnp_line.specs.declared.line.TheConstants.{BROKEN_LOSSES}

-- the number of units on the line, of losses in a row, of units that there is memory for, and of units that the queue
-- has places for
pub record IsHeld (units lost capacity places : ℕ) : Type 0 where
  pub within : units ≤ capacity
  pub placed : capacity ≤ places
  pub few_lost : lost ≤ BROKEN_LOSSES
  pub broken : BROKEN_LOSSES ≤ lost → units ≡ 0
