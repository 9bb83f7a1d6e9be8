-- The lines that fit are those of the forms.
use Rattle.std.proofs.Common.{◌≡◌, ℕ, ◌^◌, Bool, true, false, cond, List, [], ◌∷◌, Option, Some, None, refl, sym, ◌∙◌, ap, subst, codes, ◌⊎◌, inl, inr}
use Rattle.std.specs.Option.{is_some, option_map, option_and_then}
use Rattle.std.proofs.lemmas.Option.{none-some, same_Some}
use Rattle.dnp_master.specs.declared.task.Task.TheVariants.{Poll, Enable, Disable, WriteTime}
use Rattle.dnp_objects.specs.declared.command.Command.{Command}
use Rattle.dnp_objects.specs.declared.command.Command.TheVariants.{Block, Set16, Set32}
use Rattle.dnp_pointdb.specs.declared.reading.Reading.{Reading}
use Rattle.dnp_world.specs.declared.event.Event.TheVariants.{HangUp, Deliver, Repeat, Lose, Damage, Change, Ask, Issue, Pass, Tick, Restart}
use Rattle.dnp_world.specs.declared.event.Link.{Link}
use Rattle.dnp_plantext.specs.PlanFields.{◌>>=◌}
use Rattle.dnp_daemons.specs.declared.script.ScriptLine.TheVariants.{One, Flush, Control}
use Rattle.dnp_daemons.specs.declared.script.ScriptLine.{ScriptLine}
use Rattle.dnp_daemons.specs.declared.script.forms.Form.{Form}
use Rattle.dnp_daemons.specs.declared.script.forms.Form.TheVariants as forms
use Rattle.dnp_daemons.specs.declared.script.forms.Slot.{Slot}
use Rattle.dnp_daemons.specs.declared.script.forms.Slot.TheVariants as slots
use Rattle.dnp_daemons.specs.declared.script.which.WhichCentre.{WhichCentre}
use Rattle.dnp_daemons.specs.declared.script.which.WhichCentre.TheVariants.{First, Second}
use Rattle.dnp_daemons.specs.Numbers.{number_below, integer_within}
use Rattle.dnp_daemons.specs.Names.{is, substation_named, link_named, place_named, end_named, way_named, kind_named, classes_named, flags_named, time_named, octets_named}
use Rattle.dnp_daemons.specs.ScriptLines.{line_named, is_lossless, at_link, at_end, at_way, at_link_with, at_word, reading_named, setpoint_named, block_named, issue_named, issuer_named, change_named, damage_named}
use Rattle.dnp_daemons.specs.steps.Forms.{fit, takes, slots_of, slots_behind, issue_verb, verb_of, is_gentle}
use Rattle.dnp_daemons.proofs.LineWords.{took}

-- ---- options

chosen : {A : Type 0} (b : Bool) (x y : Option A) (r : A) → cond b x y ≡ Some r → ((b ≡ true) × (x ≡ Some r)) ⊎ ((b ≡ false) × (y ≡ Some r))
chosen true x y r e = inl (refl, e)
chosen false x y r e = inr (refl, e)

bound_some : {A B : Type 0} (f : A → Option B) (o : Option A) (r : B) → option_and_then f o ≡ Some r → (x : A) × (o ≡ Some x) × (f x ≡ Some r)
bound_some f None r e = absurd (none-some r e)
bound_some f (Some x) r e = (x, refl, e)

mapped_some : {A B : Type 0} (f : A → B) (o : Option A) (r : B) → option_map f o ≡ Some r → (x : A) × (o ≡ Some x) × (Some (f x) ≡ Some r)
mapped_some f None r e = absurd (none-some r e)
mapped_some f (Some x) r e = (x, refl, e)

-- ---- a line that fits has a form

pub record HasForm (n : ℕ) (words : List (List ℕ)) (read : ScriptLine) : Type 0 where
  pub form : Form
  pub fits : fit n words (slots_of form) ≡ true
  pub gentle : is_lossless read ≡ is_gentle form

same : (x read : ScriptLine) → Some x ≡ Some read → is_lossless read ≡ is_lossless x
same x read e = ap is_lossless (sym (same_Some x read e))

has : (n : ℕ) (verb : List ℕ) (words : List (List ℕ)) (read : ScriptLine) (form : Form) → is verb (verb_of form) ≡ true →
    fit n words (slots_behind form) ≡ true → is_lossless read ≡ is_gentle form → HasForm n (verb ∷ words) read
has n verb words read form v w g =
    record { form = form; fits = took n (slots.Verb form) verb words (slots_behind form) v w; gentle = g }

of_link : (n : ℕ) (verb word : List ℕ) (link : Link) (read : ScriptLine) → link_named n word ≡ Some link → at_link verb link ≡ Some read →
    HasForm n (verb ∷ word ∷ []) read
unfolding at_link
of_link n verb word link read l e =
    let w : fit n (word ∷ []) (slots.Link ∷ []) ≡ true = took n slots.Link word [] [] (ap is_some l) refl in
    elim (chosen (is verb (codes "open")) _ _ read e) [
      | inl h ↦ has n verb (word ∷ []) read forms.Open h.0 w (same _ read h.1)
      | inr h ↦ elim (chosen (is verb (codes "clear")) _ _ read h.1) [
        | inl h ↦ has n verb (word ∷ []) read forms.Clear h.0 w (same _ read h.1)
        | inr h ↦ elim (chosen (is verb (codes "relay")) _ _ read h.1) [
          | inl h ↦ has n verb (word ∷ []) read forms.Relay h.0 w (same _ read h.1)
          | inr h ↦ elim (chosen (is verb (codes "round")) _ _ read h.1) [
            | inl h ↦ has n verb (word ∷ []) read forms.Round h.0 w (same _ read h.1)
            | inr h ↦ absurd (none-some read h.1)
          ]
        ]
      ]
    ]

-- the words of a line of a verb, a link and one word more
with_link : (n : ℕ) (verb at word : List ℕ) (link : Link) (read : ScriptLine) (form : Form) (slot : Slot) → link_named n at ≡ Some link →
    slots_behind form ≡ slots.Link ∷ slot ∷ [] → is verb (verb_of form) ≡ true → takes n slot word ≡ true → is_lossless read ≡ is_gentle form →
    HasForm n (verb ∷ at ∷ word ∷ []) read
with_link n verb at word link read form slot l behind v w g =
    has n verb (at ∷ word ∷ []) read form v (subst (λ ss. fit n (at ∷ word ∷ []) ss ≡ true) (sym behind)
    (took n slots.Link at (word ∷ []) (slot ∷ []) (ap is_some l) (took n slot word [] [] w refl))) g

of_end : (n : ℕ) (verb at word : List ℕ) (link : Link) (read : ScriptLine) → link_named n at ≡ Some link → at_end verb link word ≡ Some read →
    HasForm n (verb ∷ at ∷ word ∷ []) read
unfolding at_end
of_end n verb at word link read l e =
    elim (chosen (is verb (codes "hangup")) _ _ read e) [
      | inl h ↦
          let m = mapped_some (λ end. One (HangUp link end)) (end_named word) read h.1 in
          with_link n verb at word link read forms.HangUp slots.End l refl h.0 (ap is_some m.1) (same _ read m.2)
      | inr h ↦ elim (chosen (is verb (codes "tick")) _ _ read h.1) [
        | inl h ↦
            let m = mapped_some (λ end. One (Tick link end)) (end_named word) read h.1 in
            with_link n verb at word link read forms.Tick slots.End l refl h.0 (ap is_some m.1) (same _ read m.2)
        | inr h ↦ absurd (none-some read h.1)
      ]
    ]

of_way : (n : ℕ) (verb at word : List ℕ) (link : Link) (read : ScriptLine) → link_named n at ≡ Some link → at_way verb link word ≡ Some read →
    HasForm n (verb ∷ at ∷ word ∷ []) read
unfolding at_way
of_way n verb at word link read l e =
    elim (chosen (is verb (codes "deliver")) _ _ read e) [
      | inl h ↦
          let m = mapped_some (λ way. One (Deliver link way)) (way_named word) read h.1 in
          with_link n verb at word link read forms.Deliver slots.Way l refl h.0 (ap is_some m.1) (same _ read m.2)
      | inr h ↦ elim (chosen (is verb (codes "repeat")) _ _ read h.1) [
        | inl h ↦
            let m = mapped_some (λ way. One (Repeat link way)) (way_named word) read h.1 in
            with_link n verb at word link read forms.Repeat slots.Way l refl h.0 (ap is_some m.1) (same _ read m.2)
        | inr h ↦ elim (chosen (is verb (codes "lose")) _ _ read h.1) [
          | inl h ↦
              let m = mapped_some (λ way. One (Lose link way)) (way_named word) read h.1 in
              with_link n verb at word link read forms.Lose slots.Way l refl h.0 (ap is_some m.1) (same _ read m.2)
          | inr h ↦ elim (chosen (is verb (codes "flush")) _ _ read h.1) [
            | inl h ↦
                let m = mapped_some (λ way. Flush link way) (way_named word) read h.1 in
                with_link n verb at word link read forms.Flush slots.Way l refl h.0 (ap is_some m.1) (same _ read m.2)
            | inr h ↦ of_end n verb at word link read l h.1
          ]
        ]
      ]
    ]

of_link_with : (n : ℕ) (verb at word : List ℕ) (link : Link) (read : ScriptLine) → link_named n at ≡ Some link → at_link_with verb link word ≡ Some read →
    HasForm n (verb ∷ at ∷ word ∷ []) read
unfolding at_link_with
of_link_with n verb at word link read l e =
    elim (chosen (is verb (codes "poll")) _ _ read e) [
      | inl h ↦
          let m = mapped_some (λ classes. One (Ask link (Poll classes))) (classes_named word) read h.1 in
          with_link n verb at word link read forms.Poll slots.Classes l refl h.0 (ap is_some m.1) (same _ read m.2)
      | inr h ↦ elim (chosen (is verb (codes "enable")) _ _ read h.1) [
        | inl h ↦
            let m = mapped_some (λ classes. One (Ask link (Enable classes))) (classes_named word) read h.1 in
            with_link n verb at word link read forms.Enable slots.Classes l refl h.0 (ap is_some m.1) (same _ read m.2)
        | inr h ↦ elim (chosen (is verb (codes "disable")) _ _ read h.1) [
          | inl h ↦
              let m = mapped_some (λ classes. One (Ask link (Disable classes))) (classes_named word) read h.1 in
              with_link n verb at word link read forms.Disable slots.Classes l refl h.0 (ap is_some m.1) (same _ read m.2)
          | inr h ↦ elim (chosen (is verb (codes "time")) _ _ read h.1) [
            | inl h ↦
                let m = mapped_some (λ time. One (Ask link (WriteTime time))) (number_below (2 ^ 64) word) read h.1 in
                with_link n verb at word link read forms.SetTime slots.Number64 l refl h.0 (ap is_some m.1) (same _ read m.2)
            | inr h ↦ of_way n verb at word link read l h.1
          ]
        ]
      ]
    ]

of_word : (n : ℕ) (verb word : List ℕ) (read : ScriptLine) → at_word n verb word ≡ Some read → HasForm n (verb ∷ word ∷ []) read
unfolding at_word
of_word n verb word read e =
    elim (chosen (is verb (codes "pass")) _ _ read e) [
      | inl h ↦
          let m = mapped_some (λ ms. One (Pass ms)) (number_below (2 ^ 64) word) read h.1 in
          has n verb (word ∷ []) read forms.Pass h.0 (took n slots.Number64 word [] [] (ap is_some m.1) refl) (same _ read m.2)
      | inr h ↦ elim (chosen (is verb (codes "control")) _ _ read h.1) [
        | inl h ↦
            let m = mapped_some (λ id. Control First id) (number_below (2 ^ 64) word) read h.1 in
            has n verb (word ∷ []) read (forms.Control First) h.0 (took n slots.Number64 word [] [] (ap is_some m.1) refl) (same _ read m.2)
        | inr h ↦ elim (chosen (is verb (codes "control2")) _ _ read h.1) [
          | inl h ↦
              let m = mapped_some (λ id. Control Second id) (number_below (2 ^ 64) word) read h.1 in
              has n verb (word ∷ []) read (forms.Control Second) h.0 (took n slots.Number64 word [] [] (ap is_some m.1) refl) (same _ read m.2)
          | inr h ↦ elim (chosen (is verb (codes "restart")) _ _ read h.1) [
            | inl h ↦
                let m = mapped_some (λ place. One (Restart place)) (place_named n word) read h.1 in
                has n verb (word ∷ []) read forms.Restart h.0 (took n slots.Station word [] [] (ap is_some m.1) refl) (same _ read m.2)
            | inr h ↦
                let m = bound_some (λ link. at_link verb link) (link_named n word) read h.1 in
                of_link n verb word m.0 read m.1 m.2
          ]
        ]
      ]
    ]

of_three : (n : ℕ) (verb at word : List ℕ) (read : ScriptLine) → line_named n (verb ∷ at ∷ word ∷ []) ≡ Some read → HasForm n (verb ∷ at ∷ word ∷ []) read
of_three n verb at word read e =
    let m = bound_some (λ link. at_link_with verb link word) (link_named n at) read e in
    of_link_with n verb at word m.0 read m.1 m.2

of_damage : (n : ℕ) (verb at by octets : List ℕ) (read : ScriptLine) → damage_named n verb at by octets ≡ Some read →
    HasForm n (verb ∷ at ∷ by ∷ octets ∷ []) read
unfolding damage_named
of_damage n verb at by octets read e =
    elim (chosen (is verb (codes "damage")) _ _ read e) [
      | inl h ↦
          let l = bound_some (λ link. way_named by >>= λ way. octets_named octets >>= λ what. Some (One (Damage link way what))) (link_named n at) read h.1 in
          let w = bound_some (λ way. octets_named octets >>= λ what. Some (One (Damage l.0 way what))) (way_named by) read l.2 in
          let o = bound_some (λ what. Some (One (Damage l.0 w.0 what))) (octets_named octets) read w.2 in
          has n verb (at ∷ by ∷ octets ∷ []) read forms.Damage h.0
          (took n slots.Link at (by ∷ octets ∷ []) (slots.Way ∷ slots.Octets ∷ []) (ap is_some l.1)
          (took n slots.Way by (octets ∷ []) (slots.Octets ∷ []) (ap is_some w.1)
          (took n slots.Octets octets [] [] (ap is_some o.1) refl)))
          (same _ read o.2)
      | inr h ↦ absurd (none-some read h.1)
    ]

-- the centre of a verb that issues a command
issuer : (verb : List ℕ) (number : ℕ) → issuer_named verb ≡ Some number → (centre : WhichCentre) × (is verb (issue_verb centre) ≡ true)
issuer verb number e =
    elim (chosen (is verb (codes "issue")) _ _ number e) [
      | inl h ↦ (First, h.0)
      | inr h ↦ elim (chosen (is verb (codes "issue2")) _ _ number h.1) [
        | inl h ↦ (Second, h.0)
        | inr h ↦ absurd (none-some number h.1)
      ]
    ]

-- the command of an issue, its substation, and the centre
pub record IsIssue (n : ℕ) (verb substation : List ℕ) (command : Option Command) (read : ScriptLine) : Type 0 where
  pub centre : WhichCentre
  pub verb_is : is verb (issue_verb centre) ≡ true
  pub substation_is : is_some (substation_named n substation) ≡ true
  pub commanded : Command
  pub command_is : command ≡ Some commanded
  pub gentle : is_lossless read ≡ true

of_issue : (n : ℕ) (verb substation : List ℕ) (command : Option Command) (read : ScriptLine) → issue_named n verb substation command ≡ Some read →
    IsIssue n verb substation command read
unfolding issue_named
of_issue n verb substation command read e =
    let b = bound_some (λ by. substation_named n substation >>= λ station. command >>= λ what. Some (One (Issue by station what))) (issuer_named verb) read e in
    let i = issuer verb b.0 b.1 in
    let s = bound_some (λ station. command >>= λ what. Some (One (Issue b.0 station what))) (substation_named n substation) read b.2 in
    let c = bound_some (λ what. Some (One (Issue b.0 s.0 what))) command read s.2 in
    record {
      centre = i.0;
      verb_is = i.1;
      substation_is = ap is_some s.1;
      commanded = c.0;
      command_is = c.1;
      gentle = same _ read c.2;
    }

of_setpoint : (n : ℕ) (verb substation form index value : List ℕ) (read : ScriptLine) →
    issue_named n verb substation (setpoint_named form index value) ≡ Some read →
    HasForm n (verb ∷ substation ∷ form ∷ index ∷ value ∷ []) read
unfolding setpoint_named
of_setpoint n verb substation form index value read e =
    let i = of_issue n verb substation (setpoint_named form index value) read e in
    elim (chosen (is form (codes "set16")) _ _ i.commanded i.command_is) [
      | inl h ↦
          let x = bound_some (λ index. integer_within (2 ^ 15) value >>= λ value. Some (Set16 index value)) (number_below (2 ^ 16) index) i.commanded h.1 in
          let v = bound_some (λ value. Some (Set16 x.0 value)) (integer_within (2 ^ 15) value) i.commanded x.2 in
          has n verb (substation ∷ form ∷ index ∷ value ∷ []) read (forms.Set16 i.centre) i.verb_is
          (took n slots.Substation substation (form ∷ index ∷ value ∷ []) (slots.Set16 ∷ slots.Number16 ∷ slots.Integer16 ∷ []) i.substation_is
          (took n slots.Set16 form (index ∷ value ∷ []) (slots.Number16 ∷ slots.Integer16 ∷ []) h.0
          (took n slots.Number16 index (value ∷ []) (slots.Integer16 ∷ []) (ap is_some x.1)
          (took n slots.Integer16 value [] [] (ap is_some v.1) refl)))) i.gentle
      | inr h ↦ elim (chosen (is form (codes "set32")) _ _ i.commanded h.1) [
        | inl h ↦
            let x = bound_some (λ index. integer_within (2 ^ 31) value >>= λ value. Some (Set32 index value)) (number_below (2 ^ 16) index) i.commanded h.1 in
            let v = bound_some (λ value. Some (Set32 x.0 value)) (integer_within (2 ^ 31) value) i.commanded x.2 in
            has n verb (substation ∷ form ∷ index ∷ value ∷ []) read (forms.Set32 i.centre) i.verb_is
            (took n slots.Substation substation (form ∷ index ∷ value ∷ []) (slots.Set32 ∷ slots.Number16 ∷ slots.Integer32 ∷ []) i.substation_is
            (took n slots.Set32 form (index ∷ value ∷ []) (slots.Number16 ∷ slots.Integer32 ∷ []) h.0
            (took n slots.Number16 index (value ∷ []) (slots.Integer32 ∷ []) (ap is_some x.1)
            (took n slots.Integer32 value [] [] (ap is_some v.1) refl)))) i.gentle
        | inr h ↦ absurd (none-some i.commanded h.1)
      ]
    ]

of_block : (n : ℕ) (verb substation form index code count on off : List ℕ) (read : ScriptLine) →
    issue_named n verb substation (block_named form index code count on off) ≡ Some read →
    HasForm n (verb ∷ substation ∷ form ∷ index ∷ code ∷ count ∷ on ∷ off ∷ []) read
unfolding block_named
of_block n verb substation form index code count on off read e =
    let i = of_issue n verb substation (block_named form index code count on off) read e in
    elim (chosen (is form (codes "block")) _ _ i.commanded i.command_is) [
      | inl h ↦
          let a = bound_some (λ index. number_below (2 ^ 8) code >>= λ code. number_below (2 ^ 8) count >>= λ count.
          number_below (2 ^ 32) on >>= λ on. number_below (2 ^ 32) off >>= λ off. Some (Block index code count on off)) (number_below (2 ^ 16) index) i.commanded h.1 in
          let b = bound_some (λ code. number_below (2 ^ 8) count >>= λ count.
          number_below (2 ^ 32) on >>= λ on. number_below (2 ^ 32) off >>= λ off. Some (Block a.0 code count on off)) (number_below (2 ^ 8) code) i.commanded a.2 in
          let c = bound_some (λ count. number_below (2 ^ 32) on >>= λ on. number_below (2 ^ 32) off >>= λ off. Some (Block a.0 b.0 count on off))
          (number_below (2 ^ 8) count) i.commanded b.2 in
          let d = bound_some (λ on. number_below (2 ^ 32) off >>= λ off. Some (Block a.0 b.0 c.0 on off)) (number_below (2 ^ 32) on) i.commanded c.2 in
          let f = bound_some (λ off. Some (Block a.0 b.0 c.0 d.0 off)) (number_below (2 ^ 32) off) i.commanded d.2 in
          has n verb (substation ∷ form ∷ index ∷ code ∷ count ∷ on ∷ off ∷ []) read (forms.Block i.centre) i.verb_is
          (took n slots.Substation substation (form ∷ index ∷ code ∷ count ∷ on ∷ off ∷ []) (slots.Block ∷ slots.Number16 ∷ slots.Number8 ∷ slots.Number8 ∷ slots.Number32 ∷ slots.Number32 ∷ []) i.substation_is
          (took n slots.Block form (index ∷ code ∷ count ∷ on ∷ off ∷ []) (slots.Number16 ∷ slots.Number8 ∷ slots.Number8 ∷ slots.Number32 ∷ slots.Number32 ∷ []) h.0
          (took n slots.Number16 index (code ∷ count ∷ on ∷ off ∷ []) (slots.Number8 ∷ slots.Number8 ∷ slots.Number32 ∷ slots.Number32 ∷ []) (ap is_some a.1)
          (took n slots.Number8 code (count ∷ on ∷ off ∷ []) (slots.Number8 ∷ slots.Number32 ∷ slots.Number32 ∷ []) (ap is_some b.1)
          (took n slots.Number8 count (on ∷ off ∷ []) (slots.Number32 ∷ slots.Number32 ∷ []) (ap is_some c.1)
          (took n slots.Number32 on (off ∷ []) (slots.Number32 ∷ []) (ap is_some d.1)
          (took n slots.Number32 off [] [] (ap is_some f.1) refl))))))) i.gentle
      | inr h ↦ absurd (none-some i.commanded h.1)
    ]

of_reading : (n : ℕ) (value flags time : List ℕ) (read : Reading) → reading_named value flags time ≡ Some read →
    fit n (value ∷ flags ∷ time ∷ []) (slots.Integer64 ∷ slots.Flags ∷ slots.Time ∷ []) ≡ true
unfolding reading_named
of_reading n value flags time read e =
    let v = bound_some (λ value. flags_named flags >>= λ flags. time_named time >>= λ time. Some (record { value = value; flags = flags; time = time }))
    (integer_within (2 ^ 63) value) read e in
    let f = bound_some (λ flags. time_named time >>= λ time. Some (record { value = v.0; flags = flags; time = time })) (flags_named flags) read v.2 in
    let t = bound_some (λ time. Some (record { value = v.0; flags = f.0; time = time })) (time_named time) read f.2 in
    took n slots.Integer64 value (flags ∷ time ∷ []) (slots.Flags ∷ slots.Time ∷ []) (ap is_some v.1)
    (took n slots.Flags flags (time ∷ []) (slots.Time ∷ []) (ap is_some f.1)
    (took n slots.Time time [] [] (ap is_some t.1) refl))

of_change : (n : ℕ) (verb substation kind index value flags time : List ℕ) (read : ScriptLine) →
    change_named n verb substation kind index (reading_named value flags time) ≡ Some read →
    HasForm n (verb ∷ substation ∷ kind ∷ index ∷ value ∷ flags ∷ time ∷ []) read
unfolding change_named
of_change n verb substation kind index value flags time read e =
    elim (chosen (is verb (codes "change")) _ _ read e) [
      | inl h ↦
          let reading = reading_named value flags time in
          let s = bound_some (λ station. kind_named kind >>= λ of. number_below (2 ^ 16) index >>= λ at. reading >>= λ what. Some (One (Change station of at what)))
          (substation_named n substation) read h.1 in
          let k = bound_some (λ of. number_below (2 ^ 16) index >>= λ at. reading >>= λ what. Some (One (Change s.0 of at what))) (kind_named kind) read s.2 in
          let i = bound_some (λ at. reading >>= λ what. Some (One (Change s.0 k.0 at what))) (number_below (2 ^ 16) index) read k.2 in
          let r = bound_some (λ what. Some (One (Change s.0 k.0 i.0 what))) reading read i.2 in
          has n verb (substation ∷ kind ∷ index ∷ value ∷ flags ∷ time ∷ []) read forms.Change h.0
          (took n slots.Substation substation (kind ∷ index ∷ value ∷ flags ∷ time ∷ []) (slots.Kind ∷ slots.Number16 ∷ slots.Integer64 ∷ slots.Flags ∷ slots.Time ∷ []) (ap is_some s.1)
          (took n slots.Kind kind (index ∷ value ∷ flags ∷ time ∷ []) (slots.Number16 ∷ slots.Integer64 ∷ slots.Flags ∷ slots.Time ∷ []) (ap is_some k.1)
          (took n slots.Number16 index (value ∷ flags ∷ time ∷ []) (slots.Integer64 ∷ slots.Flags ∷ slots.Time ∷ []) (ap is_some i.1) (of_reading n value flags time r.0 r.1)))) (same _ read r.2)
      | inr h ↦ absurd (none-some read h.1)
    ]

pub form_of : (n : ℕ) (words : List (List ℕ)) (read : ScriptLine) → line_named n words ≡ Some read → HasForm n words read
form_of n [] read e = absurd (none-some read e)
form_of n (a ∷ []) read e = absurd (none-some read e)
form_of n (a ∷ b ∷ []) read e = of_word n a b read e
form_of n (a ∷ b ∷ c ∷ []) read e = of_three n a b c read e
form_of n (a ∷ b ∷ c ∷ d ∷ []) read e = of_damage n a b c d read e
form_of n (a ∷ b ∷ c ∷ d ∷ f ∷ []) read e = of_setpoint n a b c d f read e
form_of n (a ∷ b ∷ c ∷ d ∷ f ∷ g ∷ []) read e = absurd (none-some read e)
form_of n (a ∷ b ∷ c ∷ d ∷ f ∷ g ∷ h ∷ []) read e = of_change n a b c d f g h read e
form_of n (a ∷ b ∷ c ∷ d ∷ f ∷ g ∷ h ∷ i ∷ []) read e = of_block n a b c d f g h i read e
form_of n (a ∷ b ∷ c ∷ d ∷ f ∷ g ∷ h ∷ i ∷ j ∷ more) read e = absurd (none-some read e)
