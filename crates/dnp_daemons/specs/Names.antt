-- Definition: what words name: links, ends, ways, kinds, stations, classes, flags, times and octets. A word that ends in 2 is of the
-- second centre.
use Rattle.std.specs.Prelude.{ℕ, ◌+◌, ◌*◌, ◌^◌, ◌==◌, nat_lt, nat_le, Bool, true, false, not, ◌&&◌, if◌then◌else◌, List, [], ◌∷◌, length, count_by, Option, Some, None, codes}
use Rattle.std.specs.List.{list_all}
use Rattle.std.specs.Str.{bytes_eq}
use Rattle.dnp_linkframe.specs.declared.frame.TheConstants.{MAX_UNIT}
use Rattle.dnp_master.specs.declared.task.Classes.{Classes}
use Rattle.dnp_objects.specs.declared.row.Kind.{Kind}
use Rattle.dnp_objects.specs.declared.row.Kind.TheVariants.{Binary, Counter, Analog}
use Rattle.dnp_world.specs.declared.event.Link.{Link}
use Rattle.dnp_world.specs.declared.event.Link.TheVariants.{Below, Above}
use Rattle.dnp_world.specs.declared.event.Place.{Place}
use Rattle.dnp_world.specs.declared.event.Place.TheVariants.{Centre, Concentrator, Substation}
use Rattle.dnp_world.specs.declared.link_event.End.{End}
use Rattle.dnp_world.specs.declared.link_event.End.TheVariants.{Master, Outstation}
use Rattle.dnp_world.specs.declared.link_event.Way.{Way}
use Rattle.dnp_world.specs.declared.link_event.Way.TheVariants.{Down, Up}
use Rattle.dnp_streams.specs.OctetLines.{octet_named}
use Rattle.dnp_plantext.specs.PlanFields.{◌>>=◌}
use Rattle.dnp_daemons.specs.Numbers.{number_below}

-- the word is this text
abbrev pub is : List ℕ → List ℕ → Bool
is word text = bytes_eq word text

-- a substation of a plan that has so many
abbrev pub substation_named : ℕ → List ℕ → Option ℕ
substation_named substations word = do
  number ← number_below (2 ^ 8) word
  if nat_lt number substations then Some number else None

abbrev pub link_named : ℕ → List ℕ → Option Link
link_named substations word =
    if is word (codes "above") then Some (Above 0)
    else (if is word (codes "above2") then Some (Above 1) else (do
      substation ← substation_named substations word
      Some (Below substation)))

abbrev pub place_named : ℕ → List ℕ → Option Place
place_named substations word =
    if is word (codes "centre") then Some (Centre 0)
    else (if is word (codes "centre2") then Some (Centre 1)
    else (if is word (codes "concentrator") then Some Concentrator else (do
      substation ← substation_named substations word
      Some (Substation substation))))

abbrev pub end_named : List ℕ → Option End
end_named word = if is word (codes "master") then Some Master else (if is word (codes "outstation") then Some Outstation else None)

abbrev pub way_named : List ℕ → Option Way
way_named word = if is word (codes "down") then Some Down else (if is word (codes "up") then Some Up else None)

abbrev pub kind_named : List ℕ → Option Kind
kind_named word =
    if is word (codes "binary") then Some Binary
    else (if is word (codes "counter") then Some Counter else (if is word (codes "analog") then Some Analog else None))

-- whether the character stands in the word, if it stands there once at most
abbrev pub once : List ℕ → ℕ → Option Bool
once word character =
    let times = count_by (λ c. c == character) word in
    if times == 0 then Some false else (if times == 1 then Some true else None)

-- '0' to '3'
abbrev pub is_class_digit : ℕ → Bool
is_class_digit c = nat_le 48 c && nat_le c 51

-- classes by their digits, each once at most; 48 is '0'
abbrev pub classes_named : List ℕ → Option Classes
classes_named word =
    if not (length word == 0) && list_all is_class_digit word then (do
      zero ← once word 48
      one ← once word 49
      two ← once word 50
      three ← once word 51
      Some (record { 0 = zero ∷ one ∷ two ∷ three ∷ [] }))
    else None

abbrev pub flags_named : List ℕ → Option ℕ
flags_named (high ∷ low ∷ []) = octet_named high low
flags_named _ = None

-- a time, or that there is none
abbrev pub time_named : List ℕ → Option (Option ℕ)
time_named word = if is word (codes "-") then Some None else (do
  time ← number_below (2 ^ 64) word
  Some (Some time))

-- two digits for each octet
abbrev pub octets_in_digits : List ℕ → Option (List ℕ)
octets_in_digits [] = Some []
octets_in_digits (high ∷ []) = None
octets_in_digits (high ∷ low ∷ more) = do
  octet ← octet_named high low
  octets ← octets_in_digits more
  Some (octet ∷ octets)

-- an octet at least, and as many as a unit has at most
abbrev pub octets_named : List ℕ → Option (List ℕ)
octets_named word =
    if not (length word == 0) && nat_le (length word) (2 * MAX_UNIT) then octets_in_digits word else None
