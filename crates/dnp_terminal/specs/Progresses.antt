-- Definition: how far a long work is, and when that is shown.
use Rattle.std.specs.Prelude.{ℕ, ◌*◌, ◌/◌, ◌==◌, min, if◌then◌else◌}

-- the whole percents of it; all of nothing is done
abbrev pub percent : ℕ → ℕ → ℕ
percent done all = if all == 0 then 100 else min done all * 100 / all
