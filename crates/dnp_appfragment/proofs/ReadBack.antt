-- Rows and commands that were put are read as themselves.
use Rattle.std.proofs.Common.{◌≡◌, Bool, true, false, IsTrue, refl, sym, subst, ℕ, ◌<◌, ◌==◌, ◌||◌, ◌≢◌, List, length, Option, Some, None, inr, eqb-true}
use Rattle.std.specs.Prelude.{slice_get}
use Rattle.dnp_objects.specs.Objects.{objects, content_of}
use Rattle.dnp_objects.specs.Rows.{Reads, written}
use Rattle.dnp_objects.specs.Commands.{IsInRange, ReadsCommand, object_of, index_of, command_octets}
use Rattle.dnp_objects.specs.declared.command.Command.{Command}
use Rattle.dnp_objects.specs.declared.row.Kind.{Kind}
use Rattle.dnp_objects.specs.declared.row.Kind.TheVariants.{Binary, Counter, Analog}
use Rattle.dnp_objects.specs.declared.row.Row.{Row}
use Rattle.dnp_appfragment.specs.Headers.{Head, is_relative, IsTimed}
use Rattle.dnp_appfragment.specs.Objects.{IsWholeRow, IsRelativeRow, IsCommand}
use Rattle.dnp_objects.specs.Rows.{Fits}
use Rattle.dnp_objects.specs.Relative.{FitsRelative, IsRelative, relative_octets}
use Rattle.dnp_objects.specs.Events.{IsEvent, event_object}
use Rattle.dnp_appfragment.specs.Written.{FitsPoint}
use Rattle.dnp_appfragment.specs.Items.{Item, Holds, event_item, relative_item, point_item, command_item}
use Rattle.dnp_appfragment.proofs.Held.{HasObject, has_object}
use Rattle.dnp_appfragment.proofs.PointObjects.{untimed, point_reads}

-- ---- the octets of an object

event_reads : (row : Row) (k : Kind) (time : Option ℕ) → row.time ≡ time → Fits (event_object k time).0 (event_object k time).1 row
    → Reads (event_object k time).0 (event_object k time).1 row.index (written (event_object k time).0 (event_object k time).1 row) row
unfolding content_of objects
event_reads row Binary (Some t) is fits = record { index_is = refl; carried_is = refl; row_is = record { fits = fits; spelled = refl } }
event_reads row Counter (Some t) is fits = record { index_is = refl; carried_is = refl; row_is = record { fits = fits; spelled = refl } }
event_reads row Analog (Some t) is fits = record { index_is = refl; carried_is = refl; row_is = record { fits = fits; spelled = refl } }
event_reads row Binary None is fits =
    record { index_is = refl; carried_is = λ i. record row { time = sym is i }; row_is = record { fits = fits; spelled = refl } }
event_reads row Counter None is fits =
    record { index_is = refl; carried_is = λ i. record row { time = sym is i }; row_is = record { fits = fits; spelled = refl } }
event_reads row Analog None is fits =
    record { index_is = refl; carried_is = λ i. record row { time = sym is i }; row_is = record { fits = fits; spelled = refl } }

-- ---- object k of a header

row_of : (h : Head) (k : ℕ) (item : Item) (row : Row) → HasObject h k item → Reads item.group item.variation item.index item.octets row → IsWholeRow h k row
row_of h k item row has reads = inr (record {
  size = length item.octets;
  size_is = has.size_is;
  index = item.index;
  octets = item.octets;
  object = has.object;
  reads = subst (λ (p : ℕ × ℕ). Reads p.0 p.1 item.index item.octets row) (λ i. (has.is_of.group i, has.is_of.variation i)) reads;
})

pub event_back : (h : Head) (items : List Item) (k : ℕ) (row : Row) → Holds h items → IsEvent row → slice_get items k ≡ Some (event_item row)
    → IsWholeRow h k row
event_back h items k row holds fits at =
    row_of h k (event_item row) row (has_object h items k (event_item row) holds at) (event_reads row row.kind row.time refl fits)

-- by the header's common time
pub relative_back : (h : Head) (items : List Item) (k common : ℕ) (row : Row) → Holds h items → IsTimed h → h.common ≡ Some common
    → FitsRelative common row → slice_get items k ≡ Some (relative_item common row) → IsRelativeRow h k row
relative_back h items k common row holds timed there fits at =
    let has = has_object h items k (relative_item common row) holds at in
    record {
      relative = (λ i. is_relative (sym has.is_of.group i) (sym has.is_of.variation i));
      timed = timed;
      index = row.index;
      octets = relative_octets common row;
      object = has.object;
      reads =
          subst (λ (n : ℕ). IsRelative row.index (relative_octets common row) n row) (same h.common common timed.common there timed.there)
          (record { index_is = refl; fits = fits; spelled = refl });
    }
  where
    same : (o : Option ℕ) (a b : ℕ) → o ≡ Some a → o ≡ Some b → a ≡ b
    same o a b p q = cc

pub point_back : (h : Head) (items : List Item) (k g v : ℕ) (row : Row) → Holds h items → FitsPoint g v row → g ≢ 10
    → slice_get items k ≡ Some (point_item g v row) → IsWholeRow h k (untimed row)
point_back h items k g v row holds fits other at =
    row_of h k (point_item g v row) (untimed row) (has_object h items k (point_item g v row) holds at) (point_reads g v row fits.object_is other fits.row_fits)

-- by the law that a command that was written is read
pub command_back : ((command : Command) (status : ℕ) → IsInRange command → status < 128
    → ReadsCommand (object_of command).0 (object_of command).1 (index_of command) (command_octets command status) (command, status))
    → (h : Head) (items : List Item) (k : ℕ) (command : Command) (status : ℕ) → Holds h items → IsInRange command → status < 128
    → slice_get items k ≡ Some (command_item command status) → IsCommand h k (command, status)
command_back law h items k command status holds in_range small at =
    let item = command_item command status in
    let has = has_object h items k item holds at in
    record {
      size = length item.octets;
      size_is = has.size_is;
      index = item.index;
      octets = item.octets;
      object = has.object;
      reads = subst (λ (p : ℕ × ℕ). ReadsCommand p.0 p.1 item.index item.octets (command, status)) (λ i. (has.is_of.group i, has.is_of.variation i))
          (law command status in_range small);
    }
