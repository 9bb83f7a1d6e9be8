-- Definition: clean controls: the steps that relay a control over quiet links, with all that comes of them delivered (IEEE Std
-- 1815-2012, application layer: SELECT and OPERATE, each a request and its response).
use Rattle.std.specs.Prelude.{◌≡◌, ◌≢◌, ℕ, ◌-◌, Bool, true, false, ◌&&◌, ◌==◌, if◌then◌else◌, ◌⊎◌, is_none, List, [], ◌∷◌, Option, Some, None, Result, Ok, Err, ⊤}
use Rattle.std.specs.Option.{option_map, option_and_then}
use Rattle.dnp_controls.specs.Book.{next_of, rows_of}
use Rattle.dnp_controls.specs.declared.book.Entry.{Entry}
use Rattle.dnp_controls.specs.declared.book.State.{State}
use Rattle.dnp_controls.specs.declared.book.State.TheVariants.{Pending, Spent, Finished}
use Rattle.dnp_concentrator.specs.Mapped.{command_below}
use Rattle.dnp_concentrator.specs.declared.progress.Progress.{Progress}
use Rattle.dnp_objects.specs.Status.{success}
use Rattle.dnp_world.specs.Rounds.{Flushes, StopsFlushingAll, StopsInTurn, is_quiet_above, is_quiet_below}
use Rattle.dnp_world.specs.SystemEvents.{entries_on}
use Rattle.dnp_world.specs.SystemRuns.{CountsFor}
use Rattle.dnp_world.specs.Systems.{System, link_at}
use Rattle.dnp_world.specs.declared.event.Event.{Event}
use Rattle.dnp_world.specs.declared.event.Event.TheVariants.{Relay}
use Rattle.dnp_world.specs.declared.event.Link.{Link}
use Rattle.dnp_world.specs.declared.event.Link.TheVariants.{Below, Above}
use Rattle.dnp_world.specs.declared.link_event.Way.TheVariants.{Down, Up}
use Rattle.dnp_world.specs.declared.round_fault.ControlFault.{ControlFault}
use Rattle.dnp_world.specs.declared.round_fault.ControlFault.TheVariants as control

-- ---- what a book says of a control

-- the first of the entries, if it has this id
abbrev pub first_with : ℕ → List Entry → Option Entry
first_with id [] = None
first_with id (entry ∷ entries) = if entry.id == id then Some entry else None

-- the entry of this id, where ids rise: the first from it on
abbrev pub found_in : List Entry → ℕ → Option Entry
found_in entries id = first_with id (rows_of entries (id - 1) 1)

-- the substation that a control of the centre's book is for
abbrev pub substation_in : System → ℕ → Option ℕ
substation_in s id = option_and_then (λ entry. option_map (λ p. p.0) (command_below s.indices entry.command)) (found_in s.centre.orders.entries id)

abbrev pub status_in : State → Option ℕ
status_in Pending = None
status_in Spent = None
status_in (Finished status) = Some status

-- the status with which a book says that the control of this id finished
abbrev pub status_of : List Entry → ℕ → Option ℕ
status_of entries id = option_and_then (λ entry. status_in entry.state) (found_in entries id)

-- so does the book that keeps the controls of the link
abbrev pub status_on : System → Link → Option ℕ → Option ℕ
status_on s on None = None
status_on s on (Some id) = status_of (entries_on s on) id

-- the id of the control that the concentrator sends to the substation next
abbrev pub next_below : System → ℕ → Option ℕ
next_below s substation = option_map (λ entry. entry.id) (next_of s.concentrator.controls.entries substation)

-- ---- a control that can go at once

-- both links on its way are quiet
abbrev pub are_quiet_for : System → Option ℕ → Bool
are_quiet_for s None = is_quiet_above s
are_quiet_for s (Some substation) = is_quiet_above s && is_quiet_below s substation

abbrev pub is_entry : ℕ → Option Entry → Bool
is_entry id None = false
is_entry id (Some entry) = entry.id == id

-- none is in progress, or this one
abbrev pub is_free_for : ℕ → Option Progress → Bool
is_free_for id None = true
is_free_for id (Some p) = p.id == id

-- the concentrator has none pending or in progress for the substation
abbrev pub is_free_below : System → Option ℕ → Bool
is_free_below s None = true
is_free_below s (Some substation) = is_none (next_below s substation) && is_none (link_at s.concentrator substation).progress

-- a control for this substation is the centre's next one, and no other is before it
abbrev pub is_next_for : System → ℕ → Option ℕ → Bool
is_next_for s id substation = is_entry id (next_of s.centre.orders.entries 0) && (is_free_for id s.centre.link.progress && is_free_below s substation)

abbrev pub is_next : System → ℕ → Bool
is_next s id = is_next_for s id (substation_in s id)

abbrev pub CanGo : ℕ → System → Type 0
CanGo id s = (are_quiet_for s (substation_in s id) ≡ true) × (is_next s id ≡ true)

-- ---- by what an event makes of a system, and how the centre of the control sees that

module _ {World : Type 0} (Makes : World → Event → World → Type 0) (see : World → System) where
  -- ---- a control that goes all the way

  -- a step of relaying over the link, after which the control has finished with no status other than SUCCESS
  pub record Passes (on : Link) (id : Option ℕ) (old new : World) : Type 0 where
    pub relays : Makes old (Relay on) new
    pub passes : (status : ℕ) → status_on (see new) on id ≡ Some status → status ≡ success

  -- such a step, and what comes of it there and back
  pub record PassesBack (on : Link) (id : Option ℕ) (old new : World) : Type 0 where
    pub relayed : World
    pub answered : World
    pub step : Passes on id old relayed
    pub down : Flushes Makes see on Down relayed answered
    pub up : Flushes Makes see on Up answered new

  -- three steps: the SELECT, the OPERATE, and what became of it
  pub record IsAccepted (on : Link) (id : Option ℕ) (old new : World) : Type 0 where
    pub selected : World
    pub operated : World
    pub selects : PassesBack on id old selected
    pub operates : PassesBack on id selected operated
    pub finishes : Passes on id operated new

  -- over the link to this centre, and then below where the control is for a substation, for which the concentrator has it under an id
  -- of its own
  abbrev pub IsControlFor : ℕ → Option ℕ → ℕ → World → World → Type 0
  IsControlFor centre None id old new = IsAccepted (Above centre) (Some id) old new
  IsControlFor centre (Some substation) id old new =
      (above : World) × IsAccepted (Above centre) (Some id) old above × IsAccepted (Below substation) (next_below (see above) substation) above new

  abbrev pub IsControl : ℕ → ℕ → World → World → Type 0
  IsControl centre id old new = IsControlFor centre (substation_in (see old) id) id old new

  -- ---- a control that a status ends

  -- a step of relaying told that the control finished with a status other than SUCCESS
  pub record IsTold (on : Link) (id : Option ℕ) (status : ℕ) (old new : World) : Type 0 where
    pub relays : Makes old (Relay on) new
    pub says : status_on (see new) on id ≡ Some status
    pub other : status ≢ success

  -- one of the three steps over the link told that
  pub data IsRefusedOn (on : Link) (id : Option ℕ) (status : ℕ) (old new : World) : Type 0 where
    First : IsTold on id status old new → IsRefusedOn on id status old new
    Second : (selected : World) → PassesBack on id old selected → IsTold on id status selected new → IsRefusedOn on id status old new
    Third : (selected operated : World) → PassesBack on id old selected → PassesBack on id selected operated
        → IsTold on id status operated new → IsRefusedOn on id status old new

  -- over the link to this centre, or else over the one to its substation
  pub data IsRefusedFor (centre : ℕ) (substation : Option ℕ) (id status : ℕ) (old new : World) : Type 0 where
    AtCentre : IsRefusedOn (Above centre) (Some id) status old new → IsRefusedFor centre substation id status old new
    AtConcentrator : (its : ℕ) (above : World) → substation ≡ Some its → IsAccepted (Above centre) (Some id) old above
        → IsRefusedOn (Below its) (next_below (see above) its) status above new → IsRefusedFor centre substation id status old new

  abbrev pub IsRefusedControl : ℕ → ℕ → ℕ → World → World → Type 0
  IsRefusedControl centre id status old new = IsRefusedFor centre (substation_in (see old) id) id status old new

  -- ---- where a control stops, by the events at which a list may

  module _ (may : World → Event → Bool) where
    -- the step of relaying stops, or it is done and what became of the control can't be read
    abbrev pub StopsRelaying : Link → World → World → Type 0
    StopsRelaying on old new = CountsFor Makes old (Relay on) new ⊎ Makes old (Relay on) new

    -- the step, or what comes of it there or back
    abbrev pub StopsBack : Link → Option ℕ → World → World → Type 0
    StopsBack on id old new = StopsInTurn (StopsRelaying on) (Passes on id) (StopsFlushingAll Makes see may on (Down ∷ Up ∷ [])) old new

    -- the SELECT, the OPERATE, or the step that tells what became of it
    abbrev pub StopsOn : Link → Option ℕ → World → World → Type 0
    StopsOn on id old new =
        StopsInTurn (StopsBack on id) (PassesBack on id) (StopsInTurn (StopsBack on id) (PassesBack on id) (StopsRelaying on)) old new

    -- over the link to this centre, or else over the one to its substation
    abbrev pub StopsFor : ℕ → Option ℕ → ℕ → World → World → Type 0
    StopsFor centre None id old new = StopsOn (Above centre) (Some id) old new
    StopsFor centre (Some substation) id old new =
        StopsInTurn (StopsOn (Above centre) (Some id)) (IsAccepted (Above centre) (Some id))
        (λ (above new : World). StopsOn (Below substation) (next_below (see above) substation) above new) old new

    -- ---- how a call ends

    -- Refused is, first of all, a link on its way that isn't quiet, and then a control that isn't next; nothing has happened. Else it
    -- goes all the way, or a status ends it, or a store, or a request for memory, refuses: also where the call looks whether it can
    -- go, and then nothing has happened.
    abbrev pub ControlEnds : ℕ → ℕ → World → Result ⊤ ControlFault → World → Type 0
    ControlEnds centre id old (Ok done) new = CanGo id (see old) × IsControl centre id old new
    ControlEnds centre id old (Err control.NotQuiet) new = (are_quiet_for (see old) (substation_in (see old) id) ≡ false) × (new ≡ old)
    ControlEnds centre id old (Err control.NotNext) new =
        (are_quiet_for (see old) (substation_in (see old) id) ≡ true) × (is_next (see old) id ≡ false) × (new ≡ old)
    ControlEnds centre id old (Err (control.Refused status)) new = CanGo id (see old) × IsRefusedControl centre id status old new
    ControlEnds centre id old (Err (control.Fault cause)) new =
        (new ≡ old) ⊎ (CanGo id (see old) × StopsFor centre (substation_in (see old) id) id old new)
