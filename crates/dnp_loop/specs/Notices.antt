-- Definition: what the loop has told, and what it had no room for.
use Rattle.std.specs.Prelude.{◌≡◌, ◌⊎◌, ℕ, List, [], ◌∷◌, ◌++◌, ◌+◌, ◌-◌, ◌^◌, min}
use Rattle.dnp_loop.specs.declared.notice.Notice.{Notice}
use Rattle.dnp_loop.specs.declared.notice.Notices.{Notices}

-- in order, since it was taken last
abbrev pub told_of : Notices → List Notice
told_of notices = notices.list.items

-- those that had no room or no memory
abbrev pub missed_of : Notices → ℕ
missed_of notices = notices.missed

abbrev pub Stands : Notices → List Notice → ℕ → Type 0
Stands notices told missed = (told_of notices ≡ told) × (missed_of notices ≡ missed)

-- a notice comes last, or is counted, as far as the counter goes
abbrev pub IsTold : Notices → Notice → Notices → Type 0
IsTold old notice new =
    Stands new (told_of old ++ (notice ∷ [])) (missed_of old) ⊎ Stands new (told_of old) (min (missed_of old + 1) (2 ^ 64 - 1))
