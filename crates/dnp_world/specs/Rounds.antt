-- Definition: clean rounds: a poll over a quiet link, with all that comes of it delivered (IEEE Std 1815-2012, application layer: a
-- request, its response, and the confirm).
use Rattle.std.specs.Prelude.{ℕ, Bool, true, false, ◌&&◌, ◌⊎◌, List, [], ◌∷◌, replicate, slice_get, Option, Some, None}
use Rattle.dnp_master.specs.State.{is_idle}
use Rattle.dnp_master.specs.declared.task.Task.{Task}
use Rattle.dnp_master.specs.declared.task.Task.TheVariants.{Poll}
use Rattle.dnp_outstation.specs.State.{is_quiet}
use Rattle.dnp_world.specs.Channels.{are_quiet}
use Rattle.dnp_world.specs.SystemRuns.{CountsFor, RunsTo, StopsAfter}
use Rattle.dnp_world.specs.Systems.{SubstationState, System, has_substation, link_at, standing_on}
use Rattle.dnp_world.specs.declared.event.Event.{Event}
use Rattle.dnp_world.specs.declared.event.Event.TheVariants.{Ask, Deliver}
use Rattle.dnp_world.specs.declared.event.Link.{Link}
use Rattle.dnp_world.specs.declared.event.Link.TheVariants.{Below, Above}
use Rattle.dnp_world.specs.declared.link_event.Way.{Way}
use Rattle.dnp_world.specs.declared.link_event.Way.TheVariants.{Down, Up}

-- ---- quiet links

-- the outstation is open, awaits no confirm and holds no READ, and both lines carry nothing and are whole
abbrev pub is_quiet_at : Option SubstationState → Bool
is_quiet_at None = false
is_quiet_at (Some s) = is_quiet s.core && are_quiet s.channel

-- and the master is open and awaits no response
abbrev pub is_quiet_below : System → ℕ → Bool
is_quiet_below s substation =
    has_substation s substation && (is_idle (link_at s.concentrator substation).master && is_quiet_at (slice_get s.substations substation))

abbrev pub is_quiet_above : System → Bool
is_quiet_above s = is_idle s.centre.link.master && (is_quiet s.concentrator.core && are_quiet s.above)

abbrev pub is_quiet_on : System → Link → Bool
is_quiet_on s (Below substation) = is_quiet_below s substation
is_quiet_on s (Above centre) = is_quiet_above s

-- ---- polls

-- events of classes 1, 2 and 3
abbrev pub events_polled : Task
events_polled = Poll (record { 0 = false ∷ true ∷ true ∷ true ∷ [] })

abbrev pub deliveries : ℕ → Link → Way → List Event
deliveries count on way = replicate count (Deliver on way)

-- the first part stops, or it is done and the rest stops
abbrev pub StopsInTurn : {World : Type 0} → (Stops Done Rest : World → World → Type 0) → World → World → Type 0
StopsInTurn Stops Done Rest old new = Stops old new ⊎ ((next : _) × Done old next × Rest next new)

-- ---- by what an event makes of a system, and how the link's stations see that

module _ {World : Type 0} (Makes : World → Event → World → Type 0) (see : World → System) where
  -- as many units are delivered as stood on the line
  abbrev pub Flushes : Link → Way → World → World → Type 0
  Flushes on way old new = RunsTo Makes old (deliveries (standing_on (see old) on way) on way) new

  -- the poll, the request's units, those of the response, and those of the confirm
  pub record IsRound (on : Link) (old new : World) : Type 0 where
    pub asked : World
    pub answered : World
    pub taken : World
    pub asks : Makes old (Ask on events_polled) asked
    pub down : Flushes on Down asked answered
    pub up : Flushes on Up answered taken
    pub confirms : Flushes on Down taken new

  -- ---- where a round stops, by the events at which one may

  module _ (may : World → Event → Bool) where
    -- some of the units that stood on the line are delivered, and the next delivery stops
    abbrev pub StopsFlushing : Link → Way → World → World → Type 0
    StopsFlushing on way old new = (done : ℕ) × StopsAfter Makes may old (deliveries (standing_on (see old) on way) on way) done new

    -- so do the deliveries of one of these ways, which follow one another
    abbrev pub StopsFlushingAll : Link → List Way → World → World → Type 0
    StopsFlushingAll on [] old new = ⊥
    StopsFlushingAll on (way ∷ ways) old new = StopsInTurn (StopsFlushing on way) (Flushes on way) (StopsFlushingAll on ways) old new

    -- the poll stops, or it is done and the units of the request stop, those of the response, or those of the confirm
    abbrev pub StopsInRound : Link → World → World → Type 0
    StopsInRound on old new =
        CountsFor Makes old (Ask on events_polled) new
        ⊎ ((asked : World) × Makes old (Ask on events_polled) asked × StopsFlushingAll on (Down ∷ Up ∷ Down ∷ []) asked new)
