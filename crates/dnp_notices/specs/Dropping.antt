-- Definition: rows that full lanes of a queue drop, and what a log says of them.
use Rattle.std.specs.Prelude.{ℕ, ◌-◌, nat_lt, Bool, ◌&&◌, if◌then◌else◌, Option, Some, None}
use Rattle.dnp_notices.specs.declared.dropping.Drops.{Drops}
use Rattle.dnp_notices.specs.declared.dropping.DropNotice.{DropNotice}
use Rattle.dnp_notices.specs.declared.dropping.DropNotice.TheVariants.{Begins, Ends}
use Rattle.dnp_notices.specs.declared.dropping.Dropping.{Dropping}
use Rattle.dnp_notices.specs.declared.dropping.Dropping.TheVariants.{Calm, Since}

-- it begins with the first row that is dropped, and lasts for as long as a lane is full
abbrev pub after : Dropping → Drops → Dropping
after (Calm lost) drops = if nat_lt lost drops.lost && drops.is_full then Since lost else Calm drops.lost
after (Since lost) drops = if drops.is_full then Since lost else Calm drops.lost

-- rows that were dropped while none was full any more have begun and ended at once
abbrev pub begins : Bool → ℕ → DropNotice
begins is_full rows = if is_full then Begins rows else Ends rows

abbrev pub notice : Dropping → Drops → Option DropNotice
notice (Calm lost) drops = if nat_lt lost drops.lost then Some (begins drops.is_full (drops.lost - lost)) else None
notice (Since lost) drops = if drops.is_full then None else Some (Ends (drops.lost - lost))
