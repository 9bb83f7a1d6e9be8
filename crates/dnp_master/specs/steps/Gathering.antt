-- Private steps: rows that are gathered for the sink, as far as there is memory for them.
use Rattle.std.specs.Prelude.{◌≡◌, ℕ, ◌+◌, ◌<◌, ◌≤◌, true, false, List, [], ◌++◌, length, All, is_some}
use Rattle.dnp_objects.specs.Events.{IsEvent}
use Rattle.dnp_objects.specs.declared.row.Row.{Row}
use Rattle.dnp_appfragment.specs.EventRows.{events_in}
use Rattle.dnp_appfragment.specs.Headers.{Head}
use Rattle.dnp_pointdb.specs.Classes.{class_at}
use Rattle.dnp_pointdb.specs.Plan.{Plan}
use Rattle.dnp_master.specs.declared.gathering.Gathering.{Gathering}
use Rattle.dnp_master.specs.declared.gathering.Gathered.{Gathered}
use Rattle.dnp_master.specs.declared.known.Known.{Known}
use Rattle.dnp_master.specs.Rows.{statics_in, is_from_plan}

-- these rows were gathered
pub record Gathers (old : Gathering) (rows : List Row) (new : Gathering) : Type 0 where
  -- where there was memory for all, they stand after the others
  pub behind : new.is_cut ≡ false → (old.is_cut ≡ false) × (new.rows.items ≡ old.rows.items ++ rows)
  -- without rows no memory is asked for
  pub still : rows ≡ [] → new.is_cut ≡ old.is_cut

-- the rows of these headers, the events in front
pub record Holds (plan : Plan) (headers : List Head) (g : Gathered) : Type 0 where
  pub from_plan : is_from_plan plan headers ≡ true
  pub rows : g.rows.items ≡ events_in headers ++ statics_in plan headers
  pub events : g.events ≡ length (events_in headers)
  pub carried : All IsEvent (events_in headers)

-- the row's point is one of these
pub record HasRow (known : Known) (row : Row) : Type 0 where
  pub kind : row.kind ≡ known.kind
  pub from : known.first ≤ row.index
  pub upto : row.index < known.first + known.count

-- the plan has each of these points
abbrev pub IsKnown : Plan → Known → Type 0
IsKnown plan known = (index : ℕ) → known.first ≤ index → index < known.first + known.count → is_some (class_at plan known.kind index) ≡ true
