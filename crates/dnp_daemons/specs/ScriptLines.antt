-- Definition: the lines of a script, by their words. A verb that ends in 2 is of the second centre.
use Rattle.std.specs.Prelude.{ℕ, ◌+◌, ◌^◌, Bool, true, false, not, if◌then◌else◌, List, [], ◌∷◌, Option, Some, None, codes, position}
use Rattle.std.specs.Option.{option_map, is_some}
use Rattle.dnp_master.specs.declared.task.Task.TheVariants.{Poll, ClearRestart, Enable, Disable, WriteTime}
use Rattle.dnp_objects.specs.declared.command.Command.{Command}
use Rattle.dnp_objects.specs.declared.command.Command.TheVariants.{Block, Set16, Set32}
use Rattle.dnp_pointdb.specs.declared.reading.Reading.{Reading}
use Rattle.dnp_world.specs.declared.event.Event.TheVariants.{Open, HangUp, Deliver, Repeat, Lose, Damage, Change, Ask, Issue, Relay, Pass, Tick, Restart}
use Rattle.dnp_world.specs.declared.event.Link.{Link}
use Rattle.dnp_daemons.specs.declared.script.ScriptLine.{ScriptLine}
use Rattle.dnp_daemons.specs.declared.script.ScriptLine.TheVariants.{One, Flush, Round, Control}
use Rattle.dnp_daemons.specs.declared.script.which.WhichCentre.TheVariants.{First, Second}
use Rattle.dnp_daemons.specs.Words.{words_of}
use Rattle.dnp_daemons.specs.Numbers.{number_below, integer_within}
use Rattle.dnp_plantext.specs.PlanFields.{◌>>=◌}
use Rattle.dnp_daemons.specs.Names.{is, substation_named, link_named, place_named, end_named, way_named, kind_named, classes_named, flags_named, time_named, octets_named}

-- ---- by a link

-- a line of a verb and a link
unfoldable pub at_link : List ℕ → Link → Option ScriptLine
at_link verb link =
    if is verb (codes "open") then Some (One (Open link))
    else (if is verb (codes "clear") then Some (One (Ask link ClearRestart))
    else (if is verb (codes "relay") then Some (One (Relay link))
    else (if is verb (codes "round") then Some (Round link) else None)))

-- a verb, a link, and an end of it
unfoldable pub at_end : List ℕ → Link → List ℕ → Option ScriptLine
at_end verb link word =
    if is verb (codes "hangup") then option_map (λ end. One (HangUp link end)) (end_named word)
    else (if is verb (codes "tick") then option_map (λ end. One (Tick link end)) (end_named word) else None)

-- a verb, a link, and a way of it
unfoldable pub at_way : List ℕ → Link → List ℕ → Option ScriptLine
at_way verb link word =
    if is verb (codes "deliver") then option_map (λ way. One (Deliver link way)) (way_named word)
    else (if is verb (codes "repeat") then option_map (λ way. One (Repeat link way)) (way_named word)
    else (if is verb (codes "lose") then option_map (λ way. One (Lose link way)) (way_named word)
    else (if is verb (codes "flush") then option_map (λ way. Flush link way) (way_named word) else at_end verb link word)))

-- a line of a verb, a link and one word more: a way or an end of it, or what its master asks
unfoldable pub at_link_with : List ℕ → Link → List ℕ → Option ScriptLine
at_link_with verb link word =
    if is verb (codes "poll") then option_map (λ classes. One (Ask link (Poll classes))) (classes_named word)
    else (if is verb (codes "enable") then option_map (λ classes. One (Ask link (Enable classes))) (classes_named word)
    else (if is verb (codes "disable") then option_map (λ classes. One (Ask link (Disable classes))) (classes_named word)
    else (if is verb (codes "time") then option_map (λ time. One (Ask link (WriteTime time))) (number_below (2 ^ 64) word)
    else at_way verb link word)))

-- a line of a verb and one word
unfoldable pub at_word : ℕ → List ℕ → List ℕ → Option ScriptLine
at_word substations verb word =
    if is verb (codes "pass") then option_map (λ ms. One (Pass ms)) (number_below (2 ^ 64) word)
    else (if is verb (codes "control") then option_map (λ id. Control First id) (number_below (2 ^ 64) word)
    else (if is verb (codes "control2") then option_map (λ id. Control Second id) (number_below (2 ^ 64) word)
    else (if is verb (codes "restart") then option_map (λ place. One (Restart place)) (place_named substations word)
    else (do
      link ← link_named substations word
      at_link verb link))))

-- ---- readings and commands

-- what a point reads
unfoldable pub reading_named : List ℕ → List ℕ → List ℕ → Option Reading
reading_named value flags time = do
  value ← integer_within (2 ^ 63) value
  flags ← flags_named flags
  time ← time_named time
  Some (record { value = value; flags = flags; time = time })

-- a command to a setpoint
unfoldable pub setpoint_named : List ℕ → List ℕ → List ℕ → Option Command
setpoint_named form index value =
    if is form (codes "set16") then (do
      index ← number_below (2 ^ 16) index
      value ← integer_within (2 ^ 15) value
      Some (Set16 index value))
    else (if is form (codes "set32") then (do
      index ← number_below (2 ^ 16) index
      value ← integer_within (2 ^ 31) value
      Some (Set32 index value))
    else None)

-- a command to a binary output
unfoldable pub block_named : List ℕ → List ℕ → List ℕ → List ℕ → List ℕ → List ℕ → Option Command
block_named form index code count on_ms off_ms =
    if is form (codes "block") then (do
      index ← number_below (2 ^ 16) index
      code ← number_below (2 ^ 8) code
      count ← number_below (2 ^ 8) count
      on_ms ← number_below (2 ^ 32) on_ms
      off_ms ← number_below (2 ^ 32) off_ms
      Some (Block index code count on_ms off_ms))
    else None

-- the centre at which a line of this verb issues a command
abbrev pub issuer_named : List ℕ → Option ℕ
issuer_named verb = if is verb (codes "issue") then Some 0 else (if is verb (codes "issue2") then Some 1 else None)

-- the issue of a command
unfoldable pub issue_named : ℕ → List ℕ → List ℕ → Option Command → Option ScriptLine
issue_named substations verb substation command = do
  centre ← issuer_named verb
  substation ← substation_named substations substation
  command ← command
  Some (One (Issue centre substation command))

-- a change of a point
unfoldable pub change_named : ℕ → List ℕ → List ℕ → List ℕ → List ℕ → Option Reading → Option ScriptLine
change_named substations verb substation kind index reading =
    if is verb (codes "change") then (do
      substation ← substation_named substations substation
      kind ← kind_named kind
      index ← number_below (2 ^ 16) index
      reading ← reading
      Some (One (Change substation kind index reading)))
    else None

-- the damage of a unit
unfoldable pub damage_named : ℕ → List ℕ → List ℕ → List ℕ → List ℕ → Option ScriptLine
damage_named substations verb link way octets =
    if is verb (codes "damage") then (do
      link ← link_named substations link
      way ← way_named way
      octets ← octets_named octets
      Some (One (Damage link way octets)))
    else None

-- ---- lines

-- a line of a verb, a substation, a kind or form, an index, and these words more
abbrev pub at_index : ℕ → List ℕ → List ℕ → List ℕ → List ℕ → List (List ℕ) → Option ScriptLine
at_index n verb substation form index (value ∷ []) = issue_named n verb substation (setpoint_named form index value)
at_index n verb substation kind index (value ∷ flags ∷ time ∷ []) =
    change_named n verb substation kind index (reading_named value flags time)
at_index n verb substation form index (code ∷ count ∷ on_ms ∷ off_ms ∷ []) =
    issue_named n verb substation (block_named form index code count on_ms off_ms)
at_index n verb substation form index _ = None

-- what the words say, for a plan of so many substations
abbrev pub line_named : ℕ → List (List ℕ) → Option ScriptLine
line_named n [] = None
line_named n (verb ∷ []) = None
line_named n (verb ∷ word ∷ []) = at_word n verb word
line_named n (verb ∷ link ∷ word ∷ []) = do
  link ← link_named n link
  at_link_with verb link word
line_named n (verb ∷ link ∷ way ∷ octets ∷ []) = damage_named n verb link way octets
line_named n (verb ∷ substation ∷ form ∷ index ∷ value ∷ more) = at_index n verb substation form index (value ∷ more)

-- what a line says, if it fits
abbrev pub reading_of : ℕ → List ℕ → Option ScriptLine
reading_of substations line = line_named substations (words_of line)

-- it loses, repeats and damages no unit
abbrev pub is_lossless : ScriptLine → Bool
is_lossless (One (Lose link way)) = false
is_lossless (One (Repeat link way)) = false
is_lossless (One (Damage link way octets)) = false
is_lossless _ = true

abbrev pub if_lossless : Option ScriptLine → Option ScriptLine
if_lossless None = None
if_lossless (Some line) = if is_lossless line then Some line else None

-- what a line says, if it fits where units are carried
abbrev pub lossless_reading_of : ℕ → List ℕ → Option ScriptLine
lossless_reading_of substations line = if_lossless (reading_of substations line)

-- what lines say, for a plan of so many substations, where they fit
abbrev pub LineReader : Type 0
LineReader = ℕ → List ℕ → Option ScriptLine

-- the first of the lines that reads as none, counted from 1
abbrev pub first_unread : (List ℕ → Option ScriptLine) → List (List ℕ) → Option ℕ
first_unread reading lines = option_map (λ k. k + 1) (position (λ line. not (is_some (reading line))) lines)

-- the first of the lines that doesn't fit
abbrev pub first_misfit : ℕ → List (List ℕ) → Option ℕ
first_misfit substations lines = first_unread (reading_of substations) lines
