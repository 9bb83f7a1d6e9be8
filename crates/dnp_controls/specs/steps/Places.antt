-- Private steps: how a book in memory keeps its entries, by place, the entry of id 1 at place 0.
use Rattle.std.specs.Prelude.{◌≡◌, ℕ, ◌≤◌, false, List, length, take, All}
use Rattle.dnp_controls.specs.declared.book.Entry.{Entry}
use Rattle.dnp_controls.specs.Book.{AreNumberedFrom, is_pending}

-- the ids are 1, 2, 3 and so on, and no entry before the place `first` is pending
pub record IsKept (entries : List Entry) (first : ℕ) : Type 0 where
  pub numbered : AreNumberedFrom 1 entries
  pub within : first ≤ length entries
  pub past : All (λ entry. is_pending entry.state ≡ false) (take first entries)
