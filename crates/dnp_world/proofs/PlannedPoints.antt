-- No event changes the class of a point of a substation.
use Rattle.std.proofs.Common.{◌≡◌, ◌≢◌, ℕ, ◌<◌, ◌⊎◌, inl, inr, Bool, true, false, cond, List, [], Option, Some, None, refl, sym, ap, ◌∙◌, subst, arith}
use Rattle.std.specs.Prelude.{option_to_list, slice_get}
use Rattle.std.specs.Option.{IsSomeAnd, option_map}
use Rattle.std.proofs.lemmas.Bool.{cases_order}
use Rattle.std.proofs.lemmas.List.{set-get_or}
use Rattle.dnp_concentrator.specs.declared.plan.Plan.{Plan}
use Rattle.dnp_concentrator.specs.declared.plan.SubPlan.{SubPlan}
use Rattle.dnp_eventbuf.specs.EventBuffer.{dropped_by, with_rows}
use Rattle.dnp_objects.specs.Lanes.{kind_number}
use Rattle.dnp_objects.specs.declared.row.Kind.{Kind}
use Rattle.dnp_objects.specs.declared.row.Kind.TheVariants.{Binary, Counter, Analog}
use Rattle.dnp_outstation.specs.State.{State, Step, nothing}
use Rattle.dnp_pointdb.specs.Database.{Database, blocks_of, changed_of, changed_state, restarted, restarted_state, state_at, updated_in, with_blocks}
use Rattle.dnp_pointdb.specs.Ranges.{is_in_range}
use Rattle.dnp_pointdb.specs.declared.reading.Reading.{Reading}
use Rattle.dnp_pointdb.specs.declared.state.BlockState.{BlockState}
use Rattle.dnp_pointdb.specs.declared.state.PointState.{PointState}
use Rattle.dnp_world.specs.Planned.{HasClassesBelow, HavePlannedPoints, class_of}
use Rattle.dnp_world.specs.Systems.{System}
use Rattle.dnp_world.specs.steps.MoveLaws.{PointLaws}
use Rattle.dnp_world.proofs.JoinedPoints.{end_points, opened_leaves, received_leaves, ticked_leaves}
use Rattle.dnp_world.proofs.Touches.{Call, Waits, Opens, Hears, Reads, Ticks, HangsUp, Restarts, Touched, after_call, each_keeps}

-- what the crates of points and of an outstation promise
pub record ClassLaws : Type 0 where
  pub content : PointLaws
  pub changed : (d : Database) (kind : Kind) (index : ℕ) (reading : Reading) → is_in_range kind reading ≡ true
      → state_at (changed_of d kind index reading) kind index ≡ option_map (changed_state kind index reading) (state_at d kind index)
  pub others : (d : Database) (kind other_kind : Kind) (index other : ℕ) (reading : Reading) → (kind ≢ other_kind) ⊎ (index ≢ other)
      → state_at (changed_of d kind index reading) other_kind other ≡ state_at d other_kind other
  pub restarted : (d : Database) (kind : Kind) (index : ℕ) → state_at (restarted d) kind index ≡ option_map restarted_state (state_at d kind index)

-- ---- the points of one substation

-- each point has its class
abbrev pub SameClasses : Database → Database → Type 0
SameClasses old new = (kind : Kind) (index : ℕ) → class_of new kind index ≡ class_of old kind index

pub same_points : (old new : Database) → new ≡ old → SameClasses old new
same_points old new same kind index = ap (λ (d : Database). class_of d kind index) same

abbrev class_in : PointState → ℕ
class_in state = state.point.class

of_changed : (kind : Kind) (index : ℕ) (reading : Reading) (o : Option PointState)
    → option_map class_in (option_map (changed_state kind index reading) o) ≡ option_map class_in o
of_changed kind index reading None = refl
of_changed kind index reading (Some state) = refl

of_restarted : (o : Option PointState) → option_map class_in (option_map restarted_state o) ≡ option_map class_in o
of_restarted None = refl
of_restarted (Some state) = refl

same_blocks : (d : Database) (kind : Kind) → with_blocks d kind (blocks_of d kind) ≡ d
same_blocks d kind =
    ap (λ (banks : List (List BlockState)). let e : Database = record { banks = banks } in e) (set-get_or d.banks (kind_number kind) [])

same_kind : (a b : Kind) → (a ≡ b) ⊎ (a ≢ b)
same_kind Binary Binary = inl refl
same_kind Binary Counter = inr (λ e. cc)
same_kind Binary Analog = inr (λ e. cc)
same_kind Counter Binary = inr (λ e. cc)
same_kind Counter Counter = inl refl
same_kind Counter Analog = inr (λ e. cc)
same_kind Analog Binary = inr (λ e. cc)
same_kind Analog Counter = inr (λ e. cc)
same_kind Analog Analog = inl refl

pub changed_classes : ClassLaws → (d : Database) (kind : Kind) (index : ℕ) (reading : Reading) → SameClasses d (changed_of d kind index reading)
changed_classes laws d kind index reading k i = by_range (is_in_range kind reading) refl
  where
    Same : Kind → ℕ → Type 0
    Same a n = class_of (changed_of d kind index reading) a n ≡ class_of d a n

    by_index : is_in_range kind reading ≡ true → kind ≡ k → (index ≡ i) ⊎ ((index < i) ⊎ (i < index)) → Same k i
    by_index in_range same (inl at) =
        subst (λ (a : Kind). Same a i) same
        (subst (λ (n : ℕ). Same kind n) at
        (ap (option_map class_in) (laws.changed d kind index reading in_range) ∙ of_changed kind index reading (state_at d kind index)))
    by_index in_range same (inr (inl below)) = ap (option_map class_in) (laws.others d kind k index i reading (inr (λ e. omega (arith, e, below))))
    by_index in_range same (inr (inr above)) = ap (option_map class_in) (laws.others d kind k index i reading (inr (λ e. omega (arith, e, above))))

    by_kind : is_in_range kind reading ≡ true → (kind ≡ k) ⊎ (kind ≢ k) → Same k i
    by_kind in_range (inl same) = by_index in_range same (cases_order index i)
    by_kind in_range (inr apart) = ap (option_map class_in) (laws.others d kind k index i reading (inl apart))

    by_range : (b : Bool) → is_in_range kind reading ≡ b → Same k i
    by_range true in_range = by_kind in_range (same_kind kind k)
    by_range false refused =
        let blocks : List BlockState = blocks_of d kind in
        let changed : List BlockState = updated_in (changed_state kind index reading) blocks index in
        subst (λ (b : Bool). class_of (with_blocks d kind (cond b changed blocks)) k i ≡ class_of d k i)
        (sym refused) (ap (λ (e : Database). class_of e k i) (same_blocks d kind))

pub restarted_classes : ClassLaws → (d : Database) → SameClasses d (restarted d)
restarted_classes laws d kind index = ap (option_map class_in) (laws.restarted d kind index) ∙ of_restarted (state_at d kind index)

-- each call keeps them
calls_keep : ClassLaws → (s : State) (call : Call) → SameClasses s.core.points (after_call s call).core.points
calls_keep laws s Waits = λ kind index. refl
calls_keep laws s (Opens now) = same_points s.core.points _ (opened_leaves laws.content s now).points_are
calls_keep laws s (Hears outputs now fragment) = same_points s.core.points _ (received_leaves laws.content s outputs now fragment).points_are
calls_keep laws s (Reads now kind index reading made) =
    let first : Step = record {
      state = record s { core = record s.core { points = changed_of s.core.points kind index reading }; lanes = with_rows s.lanes (option_to_list made) };
      does = record nothing { overwritten = dropped_by s.lanes (option_to_list made) };
    } in
    λ k i. same_points (changed_of s.core.points kind index reading) _
    (end_points laws.content (changed_of s.core.points kind index reading) now first refl) k i
    ∙ changed_classes laws s.core.points kind index reading k i
calls_keep laws s (Ticks now) = same_points s.core.points _ (ticked_leaves laws.content s now).points_are
calls_keep laws s HangsUp = λ kind index. refl
calls_keep laws s Restarts = restarted_classes laws s.core.points

-- ---- all substations

-- so the points stay those of the plan
pub planned_on : ClassLaws → (plan : Plan) (old new : System) → Touched old new → HavePlannedPoints plan old → HavePlannedPoints plan new
planned_on laws plan old new touched planned =
    each_keeps (λ substation s. IsSomeAnd (slice_get plan.substations substation) (λ x. HasClassesBelow x s.core.points)) old new
    (λ substation s call. moved s (after_call s call) (calls_keep laws s call) (slice_get plan.substations substation)) touched planned
  where
    moved : (was is : State) → SameClasses was.core.points is.core.points → (o : Option SubPlan)
        → IsSomeAnd o (λ x. HasClassesBelow x was.core.points) → IsSomeAnd o (λ x. HasClassesBelow x is.core.points)
    moved was is same None h = h
    moved was is same (Some x) h = λ kind index. same kind index ∙ h kind index
