-- Private steps: the forms of a script's lines, word by word.
use Rattle.std.specs.Prelude.{ℕ, ◌+◌, ◌^◌, max, Bool, true, false, not, ◌&&◌, ◌||◌, if◌then◌else◌, List, [], ◌∷◌, codes}
use Rattle.std.specs.Option.{is_some}
use Rattle.dnp_daemons.specs.declared.script.forms.Form.{Form}
use Rattle.dnp_daemons.specs.declared.script.forms.Form.TheVariants as forms
use Rattle.dnp_daemons.specs.declared.script.forms.Slot.{Slot}
use Rattle.dnp_daemons.specs.declared.script.forms.Slot.TheVariants as slots
use Rattle.dnp_daemons.specs.declared.script.which.WhichCentre.{WhichCentre}
use Rattle.dnp_daemons.specs.declared.script.which.WhichCentre.TheVariants.{First, Second}
use Rattle.dnp_daemons.specs.Numbers.{number_below, integer_within}
use Rattle.dnp_daemons.specs.Names.{is, substation_named, link_named, place_named, end_named, way_named, kind_named, classes_named, flags_named, time_named, octets_named}

-- the words of a centre's lines
abbrev pub control_verb : WhichCentre → List ℕ
control_verb First = codes "control"
control_verb Second = codes "control2"

abbrev pub issue_verb : WhichCentre → List ℕ
issue_verb First = codes "issue"
issue_verb Second = codes "issue2"

-- the word that lines of the form begin with
abbrev pub verb_of : Form → List ℕ
verb_of forms.Open = codes "open"
verb_of forms.Clear = codes "clear"
verb_of forms.Relay = codes "relay"
verb_of forms.Round = codes "round"
verb_of forms.HangUp = codes "hangup"
verb_of forms.Tick = codes "tick"
verb_of forms.Deliver = codes "deliver"
verb_of forms.Repeat = codes "repeat"
verb_of forms.Lose = codes "lose"
verb_of forms.Flush = codes "flush"
verb_of forms.Damage = codes "damage"
verb_of forms.Poll = codes "poll"
verb_of forms.Enable = codes "enable"
verb_of forms.Disable = codes "disable"
verb_of forms.SetTime = codes "time"
verb_of forms.Pass = codes "pass"
verb_of (forms.Control centre) = control_verb centre
verb_of forms.Restart = codes "restart"
verb_of forms.Change = codes "change"
verb_of (forms.Set16 centre) = issue_verb centre
verb_of (forms.Set32 centre) = issue_verb centre
verb_of (forms.Block centre) = issue_verb centre

-- lines of the form lose, repeat and damage no unit
abbrev pub is_gentle : Form → Bool
is_gentle forms.Repeat = false
is_gentle forms.Lose = false
is_gentle forms.Damage = false
is_gentle _ = true

-- a line of the form is one, where units are carried or not
abbrev pub allows : Bool → Form → Bool
allows carried form = not carried || is_gentle form

-- what the words after the first say
abbrev pub slots_behind : Form → List Slot
slots_behind forms.Open = slots.Link ∷ []
slots_behind forms.Clear = slots.Link ∷ []
slots_behind forms.Relay = slots.Link ∷ []
slots_behind forms.Round = slots.Link ∷ []
slots_behind forms.HangUp = slots.Link ∷ slots.End ∷ []
slots_behind forms.Tick = slots.Link ∷ slots.End ∷ []
slots_behind forms.Deliver = slots.Link ∷ slots.Way ∷ []
slots_behind forms.Repeat = slots.Link ∷ slots.Way ∷ []
slots_behind forms.Lose = slots.Link ∷ slots.Way ∷ []
slots_behind forms.Flush = slots.Link ∷ slots.Way ∷ []
slots_behind forms.Damage = slots.Link ∷ slots.Way ∷ slots.Octets ∷ []
slots_behind forms.Poll = slots.Link ∷ slots.Classes ∷ []
slots_behind forms.Enable = slots.Link ∷ slots.Classes ∷ []
slots_behind forms.Disable = slots.Link ∷ slots.Classes ∷ []
slots_behind forms.SetTime = slots.Link ∷ slots.Number64 ∷ []
slots_behind forms.Pass = slots.Number64 ∷ []
slots_behind (forms.Control centre) = slots.Number64 ∷ []
slots_behind forms.Restart = slots.Station ∷ []
slots_behind forms.Change =
    slots.Substation ∷ slots.Kind ∷ slots.Number16 ∷ slots.Integer64 ∷ slots.Flags ∷ slots.Time ∷ []
slots_behind (forms.Set16 centre) = slots.Substation ∷ slots.Set16 ∷ slots.Number16 ∷ slots.Integer16 ∷ []
slots_behind (forms.Set32 centre) = slots.Substation ∷ slots.Set32 ∷ slots.Number16 ∷ slots.Integer32 ∷ []
slots_behind (forms.Block centre) =
    slots.Substation ∷ slots.Block ∷ slots.Number16 ∷ slots.Number8 ∷ slots.Number8 ∷ slots.Number32 ∷ slots.Number32 ∷ []

-- what the words say
abbrev pub slots_of : Form → List Slot
slots_of form = slots.Verb form ∷ slots_behind form

-- the word says such a thing
abbrev pub takes : ℕ → Slot → List ℕ → Bool
takes n (slots.Verb form) word = is word (verb_of form)
takes n slots.Link word = is_some (link_named n word)
takes n slots.Substation word = is_some (substation_named n word)
takes n slots.Station word = is_some (place_named n word)
takes n slots.End word = is_some (end_named word)
takes n slots.Way word = is_some (way_named word)
takes n slots.Kind word = is_some (kind_named word)
takes n slots.Classes word = is_some (classes_named word)
takes n slots.Flags word = is_some (flags_named word)
takes n slots.Time word = is_some (time_named word)
takes n slots.Octets word = is_some (octets_named word)
takes n slots.Set16 word = is word (codes "set16")
takes n slots.Set32 word = is word (codes "set32")
takes n slots.Block word = is word (codes "block")
takes n slots.Number8 word = is_some (number_below (2 ^ 8) word)
takes n slots.Number16 word = is_some (number_below (2 ^ 16) word)
takes n slots.Number32 word = is_some (number_below (2 ^ 32) word)
takes n slots.Number64 word = is_some (number_below (2 ^ 64) word)
takes n slots.Integer16 word = is_some (integer_within (2 ^ 15) word)
takes n slots.Integer32 word = is_some (integer_within (2 ^ 31) word)
takes n slots.Integer64 word = is_some (integer_within (2 ^ 63) word)

-- the words say these things, each its own, and there are as many
abbrev pub fit : ℕ → List (List ℕ) → List Slot → Bool
fit n [] [] = true
fit n [] (slot ∷ more) = false
fit n (word ∷ words) [] = false
fit n (word ∷ words) (slot ∷ more) = takes n slot word && fit n words more

-- how many of the words do, up to the first that doesn't
abbrev pub taken : ℕ → List (List ℕ) → List Slot → ℕ
taken n [] some = 0
taken n (word ∷ words) [] = 0
taken n (word ∷ words) (slot ∷ more) = if takes n slot word then taken n words more + 1 else 0

-- all forms
abbrev pub all_forms : List Form
all_forms =
    forms.Open ∷ forms.Clear ∷ forms.Relay ∷ forms.Round ∷ forms.HangUp ∷ forms.Tick ∷ forms.Deliver ∷ forms.Repeat ∷ forms.Lose ∷ forms.Flush
    ∷ forms.Damage ∷ forms.Poll ∷ forms.Enable ∷ forms.Disable ∷ forms.SetTime ∷ forms.Pass ∷ forms.Control First ∷ forms.Control Second
    ∷ forms.Restart ∷ forms.Change ∷ forms.Set16 First ∷ forms.Set32 First ∷ forms.Block First
    ∷ forms.Set16 Second ∷ forms.Set32 Second ∷ forms.Block Second ∷ []

-- the most that this counts of those of them that pass the test
abbrev pub most_of : (Form → Bool) → (Form → ℕ) → List Form → ℕ
most_of passes counts [] = 0
most_of passes counts (form ∷ more) = if passes form then max (counts form) (most_of passes counts more) else most_of passes counts more

-- the most of a line's first words that a form takes
abbrev pub most_taken : Bool → ℕ → List (List ℕ) → ℕ
most_taken carried n words = most_of (allows carried) (λ form. taken n words (slots_of form)) all_forms
