-- What a change of the point that a look-up found does to the blocks.
use Rattle.std.proofs.Common.{◌≡◌, ℕ, ◌<◌, Bool, true, false, cond, ◌&&◌, List, [], length, get_or, set, Option, Some, None, Result, Ok, Err, refl, sym, ◌∙◌, ap, subst}
use Rattle.std.specs.Option.{unwrap_or}
use Rattle.dnp_objects.specs.declared.row.Kind.{Kind}
use Rattle.dnp_objects.specs.declared.lane.LaneRow.{LaneRow}
use Rattle.dnp_pointdb.specs.declared.reading.Reading.{Reading}
use Rattle.dnp_pointdb.specs.declared.state.PointState.{PointState}
use Rattle.dnp_pointdb.specs.declared.state.BlockState.{BlockState}
use Rattle.dnp_pointdb.specs.declared.fault.ChangeFault.{ChangeFault}
use Rattle.dnp_pointdb.specs.declared.fault.ChangeFault.TheVariants.{ValueRange, TimeRange}
use Rattle.dnp_pointdb.specs.Ranges.{is_carried, is_in_time, is_in_range}
use Rattle.dnp_pointdb.specs.Database.{state_in, updated_in, checked, set_from, made_from, answer_in, new_state}
use Rattle.dnp_pointdb.specs.Events.{event_of}
use Rattle.dnp_pointdb.specs.steps.Order.{extents, place_in}
use Rattle.dnp_pointdb.proofs.Lookups.{lookup_found, lookup_lacks}

-- ---- the test

abbrev pub tested : PointState → Bool → Bool → Result PointState ChangeFault
tested s carried timely = cond carried (cond timely (Ok s) (Err TimeRange)) (Err ValueRange)

-- a refusal of a point that was found is one of the reading
out_of_range : (s : PointState) (fault : ChangeFault) (carried timely : Bool) → tested s carried timely ≡ Err fault → carried && timely ≡ false
out_of_range s fault true true is = absurd (cc)
out_of_range s fault true false is = refl
out_of_range s fault false timely is = refl

-- what is asked of the reading alone
pub can_have : (s : PointState) (kind : Kind) (reading : Reading) → set_from (checked (Some s) kind reading) ≡ Ok tt → is_in_range kind reading ≡ true
can_have s kind reading = by (is_carried kind reading) (is_in_time reading.time)
  where
    by : (carried timely : Bool) → set_from (tested s carried timely) ≡ Ok tt → carried && timely ≡ true
    by true true is = refl
    by true false is = absurd (cc)
    by false timely is = absurd (cc)

cannot_have : (s : PointState) (kind : Kind) (reading : Reading) (fault : ChangeFault) → set_from (checked (Some s) kind reading) ≡ Err fault
    → checked (Some s) kind reading ≡ Err fault
cannot_have s kind reading fault = by (is_carried kind reading) (is_in_time reading.time)
  where
    by : (carried timely : Bool) → set_from (tested s carried timely) ≡ Err fault → tested s carried timely ≡ Err fault
    by true true is = absurd (cc)
    by true false is = cc
    by false timely is = cc

-- the row that is made of a point that can have the reading
made_of : (s : PointState) (kind : Kind) (index : ℕ) (reading : Reading) (made : Option LaneRow) (carried timely : Bool) → carried && timely ≡ true
    → made_from kind index reading (tested s carried timely) ≡ Ok made → made ≡ event_of kind index s.point s.reported reading
made_of s kind index reading made true true can is = cc
made_of s kind index reading made true false can is = absurd (cc)
made_of s kind index reading made false timely can is = absurd (cc)

pub event_made : (blocks : List BlockState) (kind : Kind) (index : ℕ) (reading : Reading) (s : PointState) (made : Option LaneRow)
    → state_in blocks index ≡ Some s → is_in_range kind reading ≡ true → answer_in blocks kind index reading ≡ Ok made
    → made ≡ event_of kind index s.point s.reported reading
event_made blocks kind index reading s made there can is =
    made_of s kind index reading made (is_carried kind reading) (is_in_time reading.time) can
    (ap (λ (o : Option PointState). made_from kind index reading (checked o kind reading)) (sym there) ∙ is)

-- ---- the point in its place

pub in_blocks : (blocks : List BlockState) (index n p : ℕ) → place_in (extents blocks) index ≡ Some (n, p) → n < length blocks
in_blocks blocks index n p at = (lookup_found blocks index (n, p) at).in_blocks

pub in_points : (blocks : List BlockState) (index n p : ℕ) (d : BlockState) → place_in (extents blocks) index ≡ Some (n, p)
    → p < length (get_or blocks n d).points
in_points blocks index n p d at = (lookup_found blocks index (n, p) at).in_points d

pub in_points_of : (blocks : List BlockState) (index n p : ℕ) (b : BlockState) → place_in (extents blocks) index ≡ Some (n, p)
    → b ≡ get_or blocks n b → p < length b.points
in_points_of blocks index n p b at is =
    subst (λ (x : BlockState). p < length x.points) (sym is) (in_points blocks index n p b at)

pub state_in-place : (blocks : List BlockState) (index n p : ℕ) (b : BlockState) (s : PointState)
    → place_in (extents blocks) index ≡ Some (n, p) → b ≡ get_or blocks n b → s ≡ get_or b.points p s
    → state_in blocks index ≡ Some s
state_in-place blocks index n p b s at b_is s_is =
    (lookup_found blocks index (n, p) at).state b s
    ∙ ap (λ (x : BlockState). Some (get_or x.points p s)) (sym b_is)
    ∙ ap (λ (x : PointState). Some x) (sym s_is)

no_block : BlockState
no_block = record { base = 0; points = [] }

-- a reading that no point can have is refused to the one that was found
pub refused_there : (blocks : List BlockState) (index n p : ℕ) (kind : Kind) (reading : Reading) (fault : ChangeFault)
    → place_in (extents blocks) index ≡ Some (n, p) → ((s : PointState) → set_from (checked (Some s) kind reading) ≡ Err fault)
    → checked (state_in blocks index) kind reading ≡ Err fault
refused_there blocks index n p kind reading fault at refused =
    let blank : PointState = new_state (record { class = 0; deadband = 0 }) in
    let s : PointState = get_or (get_or blocks n no_block).points p blank in
    ap (λ (o : Option PointState). checked o kind reading) ((lookup_found blocks index (n, p) at).state no_block blank)
    ∙ cannot_have s kind reading fault (refused s)

-- another point in the place of the one that was found
put_at : (blocks after : List BlockState) (index n p : ℕ) (s x : PointState) (f : PointState → PointState)
    → place_in (extents blocks) index ≡ Some (n, p) → state_in blocks index ≡ Some s → x ≡ f s
    → ((d : BlockState) → after ≡ set blocks n (record (get_or blocks n d) { points = set (get_or blocks n d).points p x }))
    → after ≡ updated_in f blocks index
put_at blocks after index n p s x f at there x_is is =
    let found = lookup_found blocks index (n, p) at in
    let same : Some (get_or (get_or blocks n no_block).points p s) ≡ Some s = sym (found.state no_block s) ∙ there in
    is no_block
    ∙ ap (λ (y : PointState). set blocks n (record (get_or blocks n no_block) { points = set (get_or blocks n no_block).points p y }))
    (x_is ∙ ap (λ (o : Option PointState). f (unwrap_or o s)) (sym same))
    ∙ sym (found.change f no_block s)

-- ---- a reading that comes: f of the point, where the reading is in range

-- where the point can have it
pub read_at : (f : PointState → PointState) (blocks after : List BlockState) (kind : Kind) (index : ℕ) (reading : Reading) (n p : ℕ) (s x : PointState)
    → place_in (extents blocks) index ≡ Some (n, p) → state_in blocks index ≡ Some s → is_in_range kind reading ≡ true
    → x ≡ f s
    → ((d : BlockState) → after ≡ set blocks n (record (get_or blocks n d) { points = set (get_or blocks n d).points p x }))
    → after ≡ cond (is_in_range kind reading) (updated_in f blocks index) blocks
read_at f blocks after kind index reading n p s x at there can x_is is =
    put_at blocks after index n p s x f at there x_is is
    ∙ sym (ap (λ (t : Bool). cond t (updated_in f blocks index) blocks) can)

same_either_way : {A : Type 0} (b : Bool) (x y : A) → x ≡ y → cond b x y ≡ y
same_either_way true x y same = same
same_either_way false x y same = refl

-- where it is refused
pub read_refused : (f : PointState → PointState) (blocks : List BlockState) (kind : Kind) (index : ℕ) (reading : Reading) (fault : ChangeFault)
    → checked (state_in blocks index) kind reading ≡ Err fault
    → cond (is_in_range kind reading) (updated_in f blocks index) blocks ≡ blocks
read_refused f blocks kind index reading fault refused = by_place (place_in (extents blocks) index) refl
  where
    by_place : (place : Option (ℕ × ℕ)) → place_in (extents blocks) index ≡ place
        → cond (is_in_range kind reading) (updated_in f blocks index) blocks ≡ blocks
    by_place None none =
        same_either_way (is_in_range kind reading) (updated_in f blocks index) blocks ((lookup_lacks blocks index none).change f)
    by_place (Some at) is =
        let s : PointState = new_state (record { class = 0; deadband = 0 }) in
        let there = (lookup_found blocks index at is).state no_block s in
        let point : PointState = get_or (get_or blocks at.0 no_block).points at.1 s in
        let out = out_of_range point fault (is_carried kind reading) (is_in_time reading.time)
        (sym (ap (λ (o : Option PointState). checked o kind reading) there) ∙ refused) in
        ap (λ (t : Bool). cond t (updated_in f blocks index) blocks) out
