-- Present values can be written: those of sound points, and the statuses that outputs show.
use Rattle.std.proofs.Common.{◌≡◌, Bool, true, false, if◌then◌else◌, refl, ℕ, zero, suc, ◌+◌, ◌<◌, ◌≤◌, ◌^◌, ◌==◌, List, [], ◌∷◌, length, arith}
use Rattle.std.specs.List.{All}
use Rattle.std.proofs.lemmas.List.Elements.{All-append, All-cons, All-head, All-nil, All-tail}
use Rattle.dnp_objects.specs.declared.row.Kind.{Kind}
use Rattle.dnp_objects.specs.declared.row.Kind.TheVariants.{Binary, Counter, Analog}
use Rattle.dnp_objects.specs.Rows.{Fits}
use Rattle.dnp_appfragment.specs.Written.{FitsPoint}
use Rattle.dnp_pointdb.specs.declared.state.BlockState.{BlockState}
use Rattle.dnp_pointdb.specs.declared.state.PointState.{PointState}
use Rattle.dnp_pointdb.specs.declared.reading.Reading.{Reading}
use Rattle.dnp_pointdb.specs.Database.{blocks_of}
use Rattle.dnp_pointdb.specs.Events.{row_of}
use Rattle.dnp_pointdb.specs.Ranges.{is_carried}
use Rattle.dnp_pointdb.specs.Sound.{IsSoundDatabase, IsSoundBlock, IsSoundPoint, static_object}
use Rattle.dnp_outstation.specs.Items.{Source, Static, statics_from, statics_in, output_row, outputs_from}
use Rattle.dnp_outstation.specs.Said.{AreWritable}
use Rattle.dnp_outstation.proofs.OfferPresent.{point_fits, output_fits}

abbrev CanBeWritten : Static → Type 0
CanBeWritten x = FitsPoint x.object.0 x.object.1 x.row × (x.row.index < 2 ^ 16)

abbrev pub ReadingsFit : Type 0
ReadingsFit = (kind : Kind) (asked index : ℕ) (reading : Reading) → is_carried kind reading ≡ true
    → Fits (static_object kind asked).0 (static_object kind asked).1 (row_of kind index reading)

points_fit : ReadingsFit → (asked : ℕ) (kind : Kind) (block index : ℕ) (ps : List PointState) → All (IsSoundPoint kind) ps → index + length ps ≤ 2 ^ 16
    → All CanBeWritten (statics_from asked block kind index ps)
points_fit fit asked kind block index [] sound narrow = All-nil CanBeWritten
points_fit fit asked kind block index (p ∷ ps) sound narrow =
    let row = row_of kind index p.reading in
    let first : IsSoundPoint kind p = All-head (IsSoundPoint kind) p ps sound in
    All-cons CanBeWritten (record { object = static_object kind asked; block = block; row = row }) (statics_from asked block kind (index + 1) ps)
    (point_fits kind asked row (fit kind asked index p.reading first.carried), omega arith)
    (points_fit fit asked kind block (index + 1) ps (All-tail (IsSoundPoint kind) p ps sound) (omega arith))

blocks_fit : ReadingsFit → (asked : ℕ) (kind : Kind) (block : ℕ) (bs : List BlockState) → All (IsSoundBlock kind) bs
    → All CanBeWritten (statics_in asked kind block bs)
blocks_fit fit asked kind block [] sound = All-nil CanBeWritten
blocks_fit fit asked kind block (b ∷ bs) sound =
    let first : IsSoundBlock kind b = All-head (IsSoundBlock kind) b bs sound in
    All-append CanBeWritten (statics_from asked block kind b.base b.points) (statics_in asked kind (block + 1) bs)
    (points_fit fit asked kind block b.base b.points first.points (let narrow = first.narrow in omega arith))
    (blocks_fit fit asked kind (block + 1) bs (All-tail (IsSoundBlock kind) b bs sound))

outputs_fit : (status : ℕ → ℕ) (index n : ℕ) → ((k : ℕ) → k < index + n → status k < 2 ^ 8) → index + n ≤ 2 ^ 16
    → All CanBeWritten (outputs_from status index n)
outputs_fit status index zero shown few = All-nil CanBeWritten
outputs_fit status index (suc n) shown few =
    All-cons CanBeWritten (record { object = (10, 2); block = 0; row = output_row status index }) (outputs_from status (index + 1) n)
    (output_fits status index (output_row status index) (shown index (omega arith)) refl, omega arith)
    (outputs_fit status (index + 1) n (λ k low. shown k (omega arith)) (omega arith))

pub present_can_be_written : ReadingsFit → (s : Source) → IsSoundDatabase s.points → s.panel.outputs ≤ 2 ^ 16
    → ((index : ℕ) → index < s.panel.outputs → s.panel.status index < 2 ^ 8) → AreWritable s
present_can_be_written fit s sound few shown = λ asked group. by asked (group == 1) (group == 10) (group == 20) (group == 30)
  where
    by : (asked : ℕ) (a b c d : Bool) → All CanBeWritten
        (if a then statics_in asked Binary 0 (blocks_of s.points Binary)
        else if b then outputs_from s.panel.status 0 s.panel.outputs
        else if c then statics_in asked Counter 0 (blocks_of s.points Counter)
        else if d then statics_in asked Analog 0 (blocks_of s.points Analog)
        else [])
    by asked true b c d = blocks_fit fit asked Binary 0 (blocks_of s.points Binary) (sound Binary).each
    by asked false true c d = outputs_fit s.panel.status 0 s.panel.outputs (λ k low. shown k (omega arith)) (omega arith)
    by asked false false true d = blocks_fit fit asked Counter 0 (blocks_of s.points Counter) (sound Counter).each
    by asked false false false true = blocks_fit fit asked Analog 0 (blocks_of s.points Analog) (sound Analog).each
    by asked false false false false = All-nil CanBeWritten
