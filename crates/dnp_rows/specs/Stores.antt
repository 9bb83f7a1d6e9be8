-- Definition: where the rows of a store are read: in which files, and which of the rows that stand there.
use Rattle.std.specs.Prelude.{ℕ}
use Rattle.dnp_rows.specs.declared.item.Store.{Store}
use Rattle.dnp_rows.specs.declared.stored.Stored.{Stored}

pub record StoredSeen (B : Type 0) : Type 0 where
  -- the files of the database
  pub files : B
  pub store : Store
  -- for which centre the rows of a queue are, 1 or 2
  pub centre : ℕ

abbrev pub stored_seen : {B : Type 0} → Stored B → StoredSeen B
stored_seen s = record { files = s.beside; store = s.store; centre = s.centre }

-- with other files
abbrev pub with_files : {B : Type 0} → Stored B → B → Stored B
with_files s files = record s { beside = files }
