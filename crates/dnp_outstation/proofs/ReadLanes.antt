-- A header of a READ asks for lanes that there are, each once at most, and so does an unsolicited response.
use Rattle.std.proofs.Common.{Bool, true, false, if◌then◌else◌, ℕ, ◌+◌, ◌*◌, ◌<◌, ◌==◌, ◌&&◌, List, [], ◌∷◌, map, drop, arith}
use Rattle.dnp_appfragment.specs.Headers.{Head}
use Rattle.dnp_objects.specs.declared.limits.TheConstants.{LANES}
use Rattle.dnp_outstation.specs.Items.{Source, Part, class_lanes, kind_lanes, part_of, part_after, parts_left, enabled_lanes}
use Rattle.dnp_outstation.specs.Items.Part.{RowsOf, StaticsOf}
use Rattle.dnp_outstation.proofs.LaneRows.{IsApart, IsOnce, AreLow, HasLow, AllLow, HasOnce, AllOnce}

class_once : (class lane : ℕ) → IsOnce lane (class_lanes class)
class_once class lane = ((λ e. ((λ f. omega arith), ((λ f. omega arith), tt))), ((λ e. ((λ f. omega arith), tt)), ((λ e. tt), tt)))

kind_once : (kind lane : ℕ) → IsOnce lane (kind_lanes kind)
kind_once kind lane = ((λ e. ((λ f. omega arith), ((λ f. omega arith), tt))), ((λ e. ((λ f. omega arith), tt)), ((λ e. tt), tt)))

either : (lane : ℕ) (b : Bool) (p q : Part) → HasOnce lane p → HasOnce lane q → HasOnce lane (if b then p else q)
either lane true p q first second = first
either lane false p q first second = second

pub part_once : (s : Source) (h : Head) (lane : ℕ) → HasOnce lane (part_of s h)
part_once s h lane =
    either lane (h.group == 60 && h.variation == 2) _ _ (class_once 0 lane)
    (either lane (h.group == 60 && h.variation == 3) _ _ (class_once 1 lane)
    (either lane (h.group == 60 && h.variation == 4) _ _ (class_once 2 lane)
    (either lane (h.group == 2) _ _ (kind_once 0 lane)
    (either lane (h.group == 22) _ _ (kind_once 1 lane)
    (either lane (h.group == 32) _ _ (kind_once 2 lane)
    (either lane (h.group == 60) _ _ tt tt))))))

parts_once : (s : Source) (hs : List Head) (lane : ℕ) → AllOnce lane (map (part_of s) hs)
parts_once s [] lane = tt
parts_once s (h ∷ hs) lane = (part_once s h lane, parts_once s hs lane)

after_once : (count : ℕ) (part : Part) (lane : ℕ) → HasOnce lane part → HasOnce lane (part_after count part)
after_once count (RowsOf lanes most) lane once = once
after_once count (StaticsOf statics) lane once = tt

left_once : (count : ℕ) (parts : List Part) (lane : ℕ) → AllOnce lane parts → AllOnce lane (parts_left count parts)
left_once count [] lane once = tt
left_once count (part ∷ parts) lane once = (after_once count part lane once.0, once.1)

-- of the parts left of a READ each asks for a lane once at most
pub read_once : (s : Source) (count header : ℕ) (hs : List Head) (lane : ℕ) → AllOnce lane (parts_left count (map (part_of s) (drop header hs)))
read_once s count header hs lane = left_once count (map (part_of s) (drop header hs)) lane (parts_once s (drop header hs) lane)

-- ---- the lanes that there are

class_low : (class : ℕ) → class < 3 → AreLow LANES (class_lanes class)
class_low class low = (omega arith, (omega arith, (omega arith, tt)))

kind_low : (kind : ℕ) → kind < 3 → AreLow LANES (kind_lanes kind)
kind_low kind low = (omega arith, (omega arith, (omega arith, tt)))

either_low : (b : Bool) (p q : Part) → HasLow LANES p → HasLow LANES q → HasLow LANES (if b then p else q)
either_low true p q first second = first
either_low false p q first second = second

pub part_low : (s : Source) (h : Head) → HasLow LANES (part_of s h)
part_low s h =
    either_low (h.group == 60 && h.variation == 2) _ _ (class_low 0 (omega arith))
    (either_low (h.group == 60 && h.variation == 3) _ _ (class_low 1 (omega arith))
    (either_low (h.group == 60 && h.variation == 4) _ _ (class_low 2 (omega arith))
    (either_low (h.group == 2) _ _ (kind_low 0 (omega arith))
    (either_low (h.group == 22) _ _ (kind_low 1 (omega arith))
    (either_low (h.group == 32) _ _ (kind_low 2 (omega arith))
    (either_low (h.group == 60) _ _ tt tt))))))

parts_low : (s : Source) (hs : List Head) → AllLow LANES (map (part_of s) hs)
parts_low s [] = tt
parts_low s (h ∷ hs) = (part_low s h, parts_low s hs)

left_low : (count : ℕ) (parts : List Part) → AllLow LANES parts → AllLow LANES (parts_left count parts)
left_low count [] low = tt
left_low count (RowsOf lanes most ∷ parts) low = low
left_low count (StaticsOf statics ∷ parts) low = low

-- of the parts left of a READ each asks for lanes that there are
pub read_low : (s : Source) (count header : ℕ) (hs : List Head) → AllLow LANES (parts_left count (map (part_of s) (drop header hs)))
read_low s count header hs = left_low count (map (part_of s) (drop header hs)) (parts_low s (drop header hs))

-- ---- the lanes of the enabled classes

apart_below : (class lane : ℕ) (enabled : List Bool) → lane < 3 * class → IsApart lane (enabled_lanes class enabled)
apart_below class lane [] low = tt
apart_below class lane (true ∷ bs) low =
    ((λ e. omega arith), ((λ e. omega arith), ((λ e. omega arith), apart_below (class + 1) lane bs (omega arith))))
apart_below class lane (false ∷ bs) low = apart_below (class + 1) lane bs (omega arith)

pub enabled_once : (class lane : ℕ) (enabled : List Bool) → IsOnce lane (enabled_lanes class enabled)
enabled_once class lane [] = tt
enabled_once class lane (true ∷ bs) = (
  (λ e. ((λ f. omega arith), ((λ f. omega arith), apart_below (class + 1) lane bs (omega arith)))),
  (
    (λ e. ((λ f. omega arith), apart_below (class + 1) lane bs (omega arith))),
    ((λ e. apart_below (class + 1) lane bs (omega arith)), enabled_once (class + 1) lane bs),
  ),
)
enabled_once class lane (false ∷ bs) = enabled_once (class + 1) lane bs
