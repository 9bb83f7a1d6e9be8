-- The lines of the forms fit.
use Rattle.std.proofs.Common.{◌≡◌, ℕ, ◌^◌, Bool, true, false, cond, List, [], ◌∷◌, Option, Some, None, refl, sym, ◌∙◌, ap, subst, codes}
use Rattle.std.specs.Option.{is_some, option_map, option_and_then}
use Rattle.std.proofs.lemmas.Bool.{and_parts, false≢true}
use Rattle.std.proofs.lemmas.Slice.Eq.{bytes_eq-Decides}
use Rattle.dnp_master.specs.declared.task.Task.TheVariants.{Poll, ClearRestart, Enable, Disable, WriteTime}
use Rattle.dnp_objects.specs.declared.command.Command.{Command}
use Rattle.dnp_objects.specs.declared.command.Command.TheVariants.{Block, Set16, Set32}
use Rattle.dnp_world.specs.declared.event.Event.TheVariants.{Open, HangUp, Deliver, Repeat, Lose, Damage, Change, Ask, Issue, Relay, Pass, Tick, Restart}
use Rattle.dnp_world.specs.declared.event.Link.{Link}
use Rattle.dnp_plantext.specs.PlanFields.{◌>>=◌}
use Rattle.dnp_daemons.specs.declared.script.ScriptLine.{ScriptLine}
use Rattle.dnp_daemons.specs.declared.script.ScriptLine.TheVariants.{One, Flush, Round, Control}
use Rattle.dnp_daemons.specs.declared.script.forms.Form.{Form}
use Rattle.dnp_daemons.specs.declared.script.forms.Form.TheVariants as forms
use Rattle.dnp_daemons.specs.declared.script.forms.Slot.{Slot}
use Rattle.dnp_daemons.specs.declared.script.forms.Slot.TheVariants as slots
use Rattle.dnp_daemons.specs.declared.script.which.WhichCentre.{WhichCentre}
use Rattle.dnp_daemons.specs.declared.script.which.WhichCentre.TheVariants.{First, Second}
use Rattle.dnp_daemons.specs.Centres.{number_of}
use Rattle.dnp_daemons.specs.Numbers.{number_below, integer_within}
use Rattle.dnp_daemons.specs.Names.{is, substation_named, link_named, place_named, end_named, way_named, kind_named, classes_named, flags_named, time_named, octets_named}
use Rattle.dnp_daemons.specs.ScriptLines.{line_named, is_lossless, at_link, at_end, at_way, at_link_with, at_word, reading_named, setpoint_named, block_named, issue_named, issuer_named, change_named, damage_named}
use Rattle.dnp_daemons.specs.steps.Forms.{fit, takes, slots_of, slots_behind, issue_verb, verb_of, is_gentle}

-- ---- options

some_is : {A : Type 0} (o : Option A) → is_some o ≡ true → (x : A) × (o ≡ Some x)
some_is None e = absurd (false≢true e)
some_is (Some x) e = (x, refl)

then_is : {A B : Type 0} (f : A → Option B) (o : Option A) (x : A) → o ≡ Some x → option_and_then f o ≡ f x
then_is f o x e = ap (option_and_then f) e

map_is : {A B : Type 0} (f : A → B) (o : Option A) (x : A) → o ≡ Some x → option_map f o ≡ Some (f x)
map_is f o x e = ap (option_map f) e

-- ---- words, each with the slot that takes it

Taken : ℕ → List Slot → List (List ℕ) → Type 0
Taken n [] words = words ≡ []
Taken n (slot ∷ more) words = (word : List ℕ) × (rest : List (List ℕ)) × (words ≡ word ∷ rest) × (takes n slot word ≡ true) × Taken n more rest

apart : (n : ℕ) (ss : List Slot) (words : List (List ℕ)) → fit n words ss ≡ true → Taken n ss words
unfolding Taken
apart n [] [] e = refl
apart n [] (word ∷ words) e = absurd (false≢true e)
apart n (slot ∷ more) [] e = absurd (false≢true e)
apart n (slot ∷ more) (word ∷ words) e =
    let parts = and_parts (takes n slot word) (fit n words more) e in
    (word, words, refl, parts.0, apart n more words parts.1)

-- what words say that have a form
pub record Reads (n : ℕ) (form : Form) (words : List (List ℕ)) : Type 0 where
  pub read : ScriptLine
  pub is : line_named n words ≡ Some read
  pub gentle : is_lossless read ≡ is_gentle form

cons_is : {A : Type 0} (xs : List A) (x y : A) (more same : List A) → xs ≡ x ∷ more → x ≡ y → more ≡ same → xs ≡ y ∷ same
cons_is xs x y more same e v m = e ∙ ap (λ w. w ∷ more) v ∙ ap (λ ws. y ∷ ws) m

verb_is : (n : ℕ) (form : Form) (word : List ℕ) → takes n (slots.Verb form) word ≡ true → word ≡ verb_of form
verb_is n form word e = (bytes_eq-Decides word (verb_of form)).0 e

-- a form of a verb and one thing
by_one : {A : Type 0} (n : ℕ) (form : Form) (slot : Slot) (named : List ℕ → Option A) (line : A → ScriptLine) →
    slots_behind form ≡ slot ∷ [] → ((word : List ℕ) → takes n slot word ≡ is_some (named word)) →
    ((word : List ℕ) (x : A) → named word ≡ Some x → line_named n (verb_of form ∷ word ∷ []) ≡ Some (line x)) →
    ((x : A) → is_lossless (line x) ≡ is_gentle form) → (words : List (List ℕ)) → fit n words (slots_of form) ≡ true → Reads n form words
unfolding Taken
by_one n form slot named line behind tests reads gentle words e =
    let t : Taken n (slots.Verb form ∷ slot ∷ []) words =
    apart n (slots.Verb form ∷ slot ∷ []) words (subst (λ ss. fit n words (slots.Verb form ∷ ss) ≡ true) behind e) in
    let (verb, rest, are, is_verb, more) = t in
    let (word, none, rest_are, is_word, end) = more in
    let found = some_is (named word) (sym (tests word) ∙ is_word) in
    let whole : words ≡ verb_of form ∷ word ∷ [] =
    cons_is words verb (verb_of form) rest (word ∷ []) are (verb_is n form verb is_verb) (cons_is rest word word none [] rest_are refl end) in
    subst (λ ws. Reads n form ws) (sym whole) (record { read = line found.0; is = reads word found.0 found.1; gentle = gentle found.0 })

-- a form of a verb and two things
by_two : {A B : Type 0} (n : ℕ) (form : Form) (slot next : Slot) (named : List ℕ → Option A) (named_next : List ℕ → Option B) (line : A → B → ScriptLine) →
    slots_behind form ≡ slot ∷ next ∷ [] → ((word : List ℕ) → takes n slot word ≡ is_some (named word)) →
    ((word : List ℕ) → takes n next word ≡ is_some (named_next word)) →
    ((word other : List ℕ) (x : A) (y : B) → named word ≡ Some x → named_next other ≡ Some y →
    line_named n (verb_of form ∷ word ∷ other ∷ []) ≡ Some (line x y)) →
    ((x : A) (y : B) → is_lossless (line x y) ≡ is_gentle form) → (words : List (List ℕ)) → fit n words (slots_of form) ≡ true → Reads n form words
unfolding Taken
by_two n form slot next named named_next line behind tests tests_next reads gentle words e =
    let t : Taken n (slots.Verb form ∷ slot ∷ next ∷ []) words =
    apart n (slots.Verb form ∷ slot ∷ next ∷ []) words (subst (λ ss. fit n words (slots.Verb form ∷ ss) ≡ true) behind e) in
    let (verb, rest, are, is_verb, more) = t in
    let (word, behind_word, rest_are, is_word, last) = more in
    let (other, none, last_are, is_other, end) = last in
    let found = some_is (named word) (sym (tests word) ∙ is_word) in
    let found_next = some_is (named_next other) (sym (tests_next other) ∙ is_other) in
    let whole : words ≡ verb_of form ∷ word ∷ other ∷ [] =
    cons_is words verb (verb_of form) rest (word ∷ other ∷ []) are (verb_is n form verb is_verb)
    (cons_is rest word word behind_word (other ∷ []) rest_are refl (cons_is behind_word other other none [] last_are refl end)) in
    subst (λ ws. Reads n form ws) (sym whole)
    (record { read = line found.0 found_next.0; is = reads word other found.0 found_next.0 found.1 found_next.1; gentle = gentle found.0 found_next.0 })

-- ---- the forms of two words

reads_two : (n : ℕ) (form : Form) (line : Link → ScriptLine) → slots_behind form ≡ slots.Link ∷ [] →
    ((word : List ℕ) (link : Link) → link_named n word ≡ Some link → line_named n (verb_of form ∷ word ∷ []) ≡ Some (line link)) →
    ((link : Link) → is_lossless (line link) ≡ is_gentle form) → (words : List (List ℕ)) → fit n words (slots_of form) ≡ true → Reads n form words
reads_two n form line behind reads gentle words e = by_one n form slots.Link (link_named n) line behind (λ word. refl) reads gentle words e

reads_open : (n : ℕ) (words : List (List ℕ)) → fit n words (slots_of forms.Open) ≡ true → Reads n forms.Open words
unfolding at_word at_link
reads_open n words e = reads_two n forms.Open (λ link. One (Open link)) refl
    (λ word link l. then_is (λ it. at_link (codes "open") it) (link_named n word) link l) (λ link. refl) words e

reads_clear : (n : ℕ) (words : List (List ℕ)) → fit n words (slots_of forms.Clear) ≡ true → Reads n forms.Clear words
unfolding at_word at_link
reads_clear n words e = reads_two n forms.Clear (λ link. One (Ask link ClearRestart)) refl
    (λ word link l. then_is (λ it. at_link (codes "clear") it) (link_named n word) link l) (λ link. refl) words e

reads_relay : (n : ℕ) (words : List (List ℕ)) → fit n words (slots_of forms.Relay) ≡ true → Reads n forms.Relay words
unfolding at_word at_link
reads_relay n words e = reads_two n forms.Relay (λ link. One (Relay link)) refl
    (λ word link l. then_is (λ it. at_link (codes "relay") it) (link_named n word) link l) (λ link. refl) words e

reads_round : (n : ℕ) (words : List (List ℕ)) → fit n words (slots_of forms.Round) ≡ true → Reads n forms.Round words
unfolding at_word at_link
reads_round n words e = reads_two n forms.Round (λ link. Round link) refl
    (λ word link l. then_is (λ it. at_link (codes "round") it) (link_named n word) link l) (λ link. refl) words e

reads_pass : (n : ℕ) (words : List (List ℕ)) → fit n words (slots_of forms.Pass) ≡ true → Reads n forms.Pass words
unfolding at_word
reads_pass n words e = by_one n forms.Pass slots.Number64 (number_below (2 ^ 64)) (λ ms. One (Pass ms)) refl (λ word. refl)
    (λ word ms m. map_is (λ it. One (Pass it)) (number_below (2 ^ 64) word) ms m) (λ ms. refl) words e

reads_control : (n : ℕ) (centre : WhichCentre) (words : List (List ℕ)) → fit n words (slots_of (forms.Control centre)) ≡ true → Reads n (forms.Control centre) words
unfolding at_word
reads_control n First words e = by_one n (forms.Control First) slots.Number64 (number_below (2 ^ 64)) (λ id. Control First id) refl (λ word. refl)
    (λ word id m. map_is (λ it. Control First it) (number_below (2 ^ 64) word) id m) (λ id. refl) words e
reads_control n Second words e = by_one n (forms.Control Second) slots.Number64 (number_below (2 ^ 64)) (λ id. Control Second id) refl (λ word. refl)
    (λ word id m. map_is (λ it. Control Second it) (number_below (2 ^ 64) word) id m) (λ id. refl) words e

reads_restart : (n : ℕ) (words : List (List ℕ)) → fit n words (slots_of forms.Restart) ≡ true → Reads n forms.Restart words
unfolding at_word
reads_restart n words e = by_one n forms.Restart slots.Station (place_named n) (λ place. One (Restart place)) refl (λ word. refl)
    (λ word place m. map_is (λ it. One (Restart it)) (place_named n word) place m) (λ place. refl) words e

-- ---- the forms of three words

reads_hangup : (n : ℕ) (words : List (List ℕ)) → fit n words (slots_of forms.HangUp) ≡ true → Reads n forms.HangUp words
unfolding at_end at_way at_link_with
reads_hangup n words e = by_two n forms.HangUp slots.Link slots.End (link_named n) end_named (λ link end. One (HangUp link end)) refl (λ word. refl) (λ word. refl)
    (λ word other link end l m. then_is (λ it. at_link_with (codes "hangup") it other) (link_named n word) link l
    ∙ map_is (λ it. One (HangUp link it)) (end_named other) end m) (λ link end. refl) words e

reads_tick : (n : ℕ) (words : List (List ℕ)) → fit n words (slots_of forms.Tick) ≡ true → Reads n forms.Tick words
unfolding at_end at_way at_link_with
reads_tick n words e = by_two n forms.Tick slots.Link slots.End (link_named n) end_named (λ link end. One (Tick link end)) refl (λ word. refl) (λ word. refl)
    (λ word other link end l m. then_is (λ it. at_link_with (codes "tick") it other) (link_named n word) link l
    ∙ map_is (λ it. One (Tick link it)) (end_named other) end m) (λ link end. refl) words e

reads_deliver : (n : ℕ) (words : List (List ℕ)) → fit n words (slots_of forms.Deliver) ≡ true → Reads n forms.Deliver words
unfolding at_way at_link_with
reads_deliver n words e = by_two n forms.Deliver slots.Link slots.Way (link_named n) way_named (λ link way. One (Deliver link way)) refl (λ word. refl) (λ word. refl)
    (λ word other link way l m. then_is (λ it. at_link_with (codes "deliver") it other) (link_named n word) link l
    ∙ map_is (λ it. One (Deliver link it)) (way_named other) way m) (λ link way. refl) words e

reads_repeat : (n : ℕ) (words : List (List ℕ)) → fit n words (slots_of forms.Repeat) ≡ true → Reads n forms.Repeat words
unfolding at_way at_link_with
reads_repeat n words e = by_two n forms.Repeat slots.Link slots.Way (link_named n) way_named (λ link way. One (Repeat link way)) refl (λ word. refl) (λ word. refl)
    (λ word other link way l m. then_is (λ it. at_link_with (codes "repeat") it other) (link_named n word) link l
    ∙ map_is (λ it. One (Repeat link it)) (way_named other) way m) (λ link way. refl) words e

reads_lose : (n : ℕ) (words : List (List ℕ)) → fit n words (slots_of forms.Lose) ≡ true → Reads n forms.Lose words
unfolding at_way at_link_with
reads_lose n words e = by_two n forms.Lose slots.Link slots.Way (link_named n) way_named (λ link way. One (Lose link way)) refl (λ word. refl) (λ word. refl)
    (λ word other link way l m. then_is (λ it. at_link_with (codes "lose") it other) (link_named n word) link l
    ∙ map_is (λ it. One (Lose link it)) (way_named other) way m) (λ link way. refl) words e

reads_flush : (n : ℕ) (words : List (List ℕ)) → fit n words (slots_of forms.Flush) ≡ true → Reads n forms.Flush words
unfolding at_way at_link_with
reads_flush n words e = by_two n forms.Flush slots.Link slots.Way (link_named n) way_named (λ link way. Flush link way) refl (λ word. refl) (λ word. refl)
    (λ word other link way l m. then_is (λ it. at_link_with (codes "flush") it other) (link_named n word) link l
    ∙ map_is (λ it. Flush link it) (way_named other) way m) (λ link way. refl) words e

reads_poll : (n : ℕ) (words : List (List ℕ)) → fit n words (slots_of forms.Poll) ≡ true → Reads n forms.Poll words
unfolding at_link_with
reads_poll n words e = by_two n forms.Poll slots.Link slots.Classes (link_named n) classes_named (λ link classes. One (Ask link (Poll classes))) refl (λ word. refl) (λ word. refl)
    (λ word other link classes l m. then_is (λ it. at_link_with (codes "poll") it other) (link_named n word) link l
    ∙ map_is (λ it. One (Ask link (Poll it))) (classes_named other) classes m) (λ link classes. refl) words e

reads_enable : (n : ℕ) (words : List (List ℕ)) → fit n words (slots_of forms.Enable) ≡ true → Reads n forms.Enable words
unfolding at_link_with
reads_enable n words e = by_two n forms.Enable slots.Link slots.Classes (link_named n) classes_named (λ link classes. One (Ask link (Enable classes))) refl (λ word. refl) (λ word. refl)
    (λ word other link classes l m. then_is (λ it. at_link_with (codes "enable") it other) (link_named n word) link l
    ∙ map_is (λ it. One (Ask link (Enable it))) (classes_named other) classes m) (λ link classes. refl) words e

reads_disable : (n : ℕ) (words : List (List ℕ)) → fit n words (slots_of forms.Disable) ≡ true → Reads n forms.Disable words
unfolding at_link_with
reads_disable n words e = by_two n forms.Disable slots.Link slots.Classes (link_named n) classes_named (λ link classes. One (Ask link (Disable classes))) refl (λ word. refl) (λ word. refl)
    (λ word other link classes l m. then_is (λ it. at_link_with (codes "disable") it other) (link_named n word) link l
    ∙ map_is (λ it. One (Ask link (Disable it))) (classes_named other) classes m) (λ link classes. refl) words e

reads_time : (n : ℕ) (words : List (List ℕ)) → fit n words (slots_of forms.SetTime) ≡ true → Reads n forms.SetTime words
unfolding at_link_with
reads_time n words e = by_two n forms.SetTime slots.Link slots.Number64 (link_named n) (number_below (2 ^ 64)) (λ link time. One (Ask link (WriteTime time))) refl (λ word. refl) (λ word. refl)
    (λ word other link time l m. then_is (λ it. at_link_with (codes "time") it other) (link_named n word) link l
    ∙ map_is (λ it. One (Ask link (WriteTime it))) (number_below (2 ^ 64) other) time m) (λ link time. refl) words e

-- ---- the longer forms

reads_damage : (n : ℕ) (words : List (List ℕ)) → fit n words (slots_of forms.Damage) ≡ true → Reads n forms.Damage words
unfolding Taken damage_named
reads_damage n words e =
    let t : Taken n (slots_of forms.Damage) words = apart n (slots_of forms.Damage) words e in
    let (verb, ws, are, is_verb, ta) = t in
    let (a, rs, rs_are, is_a, tb) = ta in
    let (b, bs, bs_are, is_b, tc) = tb in
    let (c, cs, cs_are, is_c, end) = tc in
    let l = some_is (link_named n a) is_a in
    let w = some_is (way_named b) is_b in
    let o = some_is (octets_named c) is_c in
    let whole : words ≡ codes "damage" ∷ a ∷ b ∷ c ∷ [] =
    cons_is words verb (codes "damage") ws (a ∷ b ∷ c ∷ []) are (verb_is n forms.Damage verb is_verb)
    (cons_is ws a a rs (b ∷ c ∷ []) rs_are refl (cons_is rs b b bs (c ∷ []) bs_are refl (cons_is bs c c cs [] cs_are refl end))) in
    subst (λ it. Reads n forms.Damage it) (sym whole) (record {
      read = One (Damage l.0 w.0 o.0);
      is = then_is (λ link. way_named b >>= λ way. octets_named c >>= λ octets. Some (One (Damage link way octets))) (link_named n a) l.0 l.1
          ∙ then_is (λ way. octets_named c >>= λ octets. Some (One (Damage l.0 way octets))) (way_named b) w.0 w.1
          ∙ then_is (λ octets. Some (One (Damage l.0 w.0 octets))) (octets_named c) o.0 o.1;
      gentle = refl;
    })

-- the issue of a command
issuer_is : (centre : WhichCentre) → issuer_named (issue_verb centre) ≡ Some (number_of centre)
issuer_is First = refl
issuer_is Second = refl

issued : (n : ℕ) (centre : WhichCentre) (substation : List ℕ) (command : Option Command) (station : ℕ) (what : Command) →
    substation_named n substation ≡ Some station → command ≡ Some what →
    issue_named n (issue_verb centre) substation command ≡ Some (One (Issue (number_of centre) station what))
unfolding issue_named
issued n centre substation command station what s c =
    then_is (λ by. substation_named n substation >>= λ it. command >>= λ of. Some (One (Issue by it of))) (issuer_named (issue_verb centre))
    (number_of centre) (issuer_is centre)
    ∙ then_is (λ it. command >>= λ of. Some (One (Issue (number_of centre) it of))) (substation_named n substation) station s
    ∙ then_is (λ of. Some (One (Issue (number_of centre) station of))) command what c

reads_set16 : (n : ℕ) (centre : WhichCentre) (words : List (List ℕ)) → fit n words (slots_of (forms.Set16 centre)) ≡ true → Reads n (forms.Set16 centre) words
unfolding Taken setpoint_named
reads_set16 n centre words e =
    let t : Taken n (slots_of (forms.Set16 centre)) words = apart n (slots_of (forms.Set16 centre)) words e in
    let (verb, ws, are, is_verb, ta) = t in
    let (a, rs, rs_are, is_a, tb) = ta in
    let (b, bs, bs_are, is_b, tc) = tb in
    let (c, cs, cs_are, is_c, td) = tc in
    let (d, ds, ds_are, is_d, end) = td in
    let s = some_is (substation_named n a) is_a in
    let i = some_is (number_below (2 ^ 16) c) is_c in
    let v = some_is (integer_within (2 ^ 15) d) is_d in
    let whole : words ≡ issue_verb centre ∷ a ∷ codes "set16" ∷ c ∷ d ∷ [] =
    cons_is words verb (issue_verb centre) ws (a ∷ codes "set16" ∷ c ∷ d ∷ []) are (verb_is n (forms.Set16 centre) verb is_verb)
    (cons_is ws a a rs (codes "set16" ∷ c ∷ d ∷ []) rs_are refl
    (cons_is rs b (codes "set16") bs (c ∷ d ∷ []) bs_are ((bytes_eq-Decides b (codes "set16")).0 is_b)
    (cons_is bs c c cs (d ∷ []) cs_are refl (cons_is cs d d ds [] ds_are refl end)))) in
    subst (λ it. Reads n (forms.Set16 centre) it) (sym whole) (record {
      read = One (Issue (number_of centre) s.0 (Set16 i.0 v.0));
      is = issued n centre a (setpoint_named (codes "set16") c d) s.0 (Set16 i.0 v.0) s.1
          (then_is (λ index. integer_within (2 ^ 15) d >>= λ value. Some (Set16 index value)) (number_below (2 ^ 16) c) i.0 i.1
          ∙ then_is (λ value. Some (Set16 i.0 value)) (integer_within (2 ^ 15) d) v.0 v.1);
      gentle = refl;
    })

reads_set32 : (n : ℕ) (centre : WhichCentre) (words : List (List ℕ)) → fit n words (slots_of (forms.Set32 centre)) ≡ true → Reads n (forms.Set32 centre) words
unfolding Taken setpoint_named
reads_set32 n centre words e =
    let t : Taken n (slots_of (forms.Set32 centre)) words = apart n (slots_of (forms.Set32 centre)) words e in
    let (verb, ws, are, is_verb, ta) = t in
    let (a, rs, rs_are, is_a, tb) = ta in
    let (b, bs, bs_are, is_b, tc) = tb in
    let (c, cs, cs_are, is_c, td) = tc in
    let (d, ds, ds_are, is_d, end) = td in
    let s = some_is (substation_named n a) is_a in
    let i = some_is (number_below (2 ^ 16) c) is_c in
    let v = some_is (integer_within (2 ^ 31) d) is_d in
    let whole : words ≡ issue_verb centre ∷ a ∷ codes "set32" ∷ c ∷ d ∷ [] =
    cons_is words verb (issue_verb centre) ws (a ∷ codes "set32" ∷ c ∷ d ∷ []) are (verb_is n (forms.Set32 centre) verb is_verb)
    (cons_is ws a a rs (codes "set32" ∷ c ∷ d ∷ []) rs_are refl
    (cons_is rs b (codes "set32") bs (c ∷ d ∷ []) bs_are ((bytes_eq-Decides b (codes "set32")).0 is_b)
    (cons_is bs c c cs (d ∷ []) cs_are refl (cons_is cs d d ds [] ds_are refl end)))) in
    subst (λ it. Reads n (forms.Set32 centre) it) (sym whole) (record {
      read = One (Issue (number_of centre) s.0 (Set32 i.0 v.0));
      is = issued n centre a (setpoint_named (codes "set32") c d) s.0 (Set32 i.0 v.0) s.1
          (then_is (λ index. integer_within (2 ^ 31) d >>= λ value. Some (Set32 index value)) (number_below (2 ^ 16) c) i.0 i.1
          ∙ then_is (λ value. Some (Set32 i.0 value)) (integer_within (2 ^ 31) d) v.0 v.1);
      gentle = refl;
    })

reads_block : (n : ℕ) (centre : WhichCentre) (words : List (List ℕ)) → fit n words (slots_of (forms.Block centre)) ≡ true → Reads n (forms.Block centre) words
unfolding Taken block_named
reads_block n centre words e =
    let t : Taken n (slots_of (forms.Block centre)) words = apart n (slots_of (forms.Block centre)) words e in
    let (verb, ws, are, is_verb, ta) = t in
    let (a, rs, rs_are, is_a, tb) = ta in
    let (b, bs, bs_are, is_b, tc) = tb in
    let (c, cs, cs_are, is_c, td) = tc in
    let (d, ds, ds_are, is_d, tf) = td in
    let (f, fs, fs_are, is_f, tg) = tf in
    let (g, gs, gs_are, is_g, th) = tg in
    let (h, hs, hs_are, is_h, end) = th in
    let s = some_is (substation_named n a) is_a in
    let i = some_is (number_below (2 ^ 16) c) is_c in
    let v = some_is (number_below (2 ^ 8) d) is_d in
    let w = some_is (number_below (2 ^ 8) f) is_f in
    let x = some_is (number_below (2 ^ 32) g) is_g in
    let y = some_is (number_below (2 ^ 32) h) is_h in
    let whole : words ≡ issue_verb centre ∷ a ∷ codes "block" ∷ c ∷ d ∷ f ∷ g ∷ h ∷ [] =
    cons_is words verb (issue_verb centre) ws (a ∷ codes "block" ∷ c ∷ d ∷ f ∷ g ∷ h ∷ []) are (verb_is n (forms.Block centre) verb is_verb)
    (cons_is ws a a rs (codes "block" ∷ c ∷ d ∷ f ∷ g ∷ h ∷ []) rs_are refl
    (cons_is rs b (codes "block") bs (c ∷ d ∷ f ∷ g ∷ h ∷ []) bs_are ((bytes_eq-Decides b (codes "block")).0 is_b)
    (cons_is bs c c cs (d ∷ f ∷ g ∷ h ∷ []) cs_are refl (cons_is cs d d ds (f ∷ g ∷ h ∷ []) ds_are refl
    (cons_is ds f f fs (g ∷ h ∷ []) fs_are refl (cons_is fs g g gs (h ∷ []) gs_are refl (cons_is gs h h hs [] hs_are refl end))))))) in
    subst (λ it. Reads n (forms.Block centre) it) (sym whole) (record {
      read = One (Issue (number_of centre) s.0 (Block i.0 v.0 w.0 x.0 y.0));
      is = issued n centre a (block_named (codes "block") c d f g h) s.0 (Block i.0 v.0 w.0 x.0 y.0) s.1
          (then_is (λ index. number_below (2 ^ 8) d >>= λ code. number_below (2 ^ 8) f >>= λ count. number_below (2 ^ 32) g >>= λ on.
          number_below (2 ^ 32) h >>= λ off. Some (Block index code count on off)) (number_below (2 ^ 16) c) i.0 i.1
          ∙ then_is (λ code. number_below (2 ^ 8) f >>= λ count. number_below (2 ^ 32) g >>= λ on.
          number_below (2 ^ 32) h >>= λ off. Some (Block i.0 code count on off)) (number_below (2 ^ 8) d) v.0 v.1
          ∙ then_is (λ count. number_below (2 ^ 32) g >>= λ on. number_below (2 ^ 32) h >>= λ off. Some (Block i.0 v.0 count on off)) (number_below (2 ^ 8) f) w.0 w.1
          ∙ then_is (λ on. number_below (2 ^ 32) h >>= λ off. Some (Block i.0 v.0 w.0 on off)) (number_below (2 ^ 32) g) x.0 x.1
          ∙ then_is (λ off. Some (Block i.0 v.0 w.0 x.0 off)) (number_below (2 ^ 32) h) y.0 y.1);
      gentle = refl;
    })

reads_change : (n : ℕ) (words : List (List ℕ)) → fit n words (slots_of forms.Change) ≡ true → Reads n forms.Change words
unfolding Taken change_named reading_named
reads_change n words e =
    let t : Taken n (slots_of forms.Change) words = apart n (slots_of forms.Change) words e in
    let (verb, ws, are, is_verb, ta) = t in
    let (a, rs, rs_are, is_a, tb) = ta in
    let (b, bs, bs_are, is_b, tc) = tb in
    let (c, cs, cs_are, is_c, td) = tc in
    let (d, ds, ds_are, is_d, tf) = td in
    let (f, fs, fs_are, is_f, tg) = tf in
    let (g, gs, gs_are, is_g, end) = tg in
    let s = some_is (substation_named n a) is_a in
    let k = some_is (kind_named b) is_b in
    let i = some_is (number_below (2 ^ 16) c) is_c in
    let v = some_is (integer_within (2 ^ 63) d) is_d in
    let w = some_is (flags_named f) is_f in
    let x = some_is (time_named g) is_g in
    let whole : words ≡ codes "change" ∷ a ∷ b ∷ c ∷ d ∷ f ∷ g ∷ [] =
    cons_is words verb (codes "change") ws (a ∷ b ∷ c ∷ d ∷ f ∷ g ∷ []) are (verb_is n forms.Change verb is_verb)
    (cons_is ws a a rs (b ∷ c ∷ d ∷ f ∷ g ∷ []) rs_are refl (cons_is rs b b bs (c ∷ d ∷ f ∷ g ∷ []) bs_are refl
    (cons_is bs c c cs (d ∷ f ∷ g ∷ []) cs_are refl (cons_is cs d d ds (f ∷ g ∷ []) ds_are refl
    (cons_is ds f f fs (g ∷ []) fs_are refl (cons_is fs g g gs [] gs_are refl end)))))) in
    let reading = reading_named d f g in
    subst (λ it. Reads n forms.Change it) (sym whole) (record {
      read = One (Change s.0 k.0 i.0 (record { value = v.0; flags = w.0; time = x.0 }));
      is = then_is (λ station. kind_named b >>= λ kind. number_below (2 ^ 16) c >>= λ index. reading >>= λ what. Some (One (Change station kind index what)))
          (substation_named n a) s.0 s.1
          ∙ then_is (λ kind. number_below (2 ^ 16) c >>= λ index. reading >>= λ what. Some (One (Change s.0 kind index what))) (kind_named b) k.0 k.1
          ∙ then_is (λ index. reading >>= λ what. Some (One (Change s.0 k.0 index what))) (number_below (2 ^ 16) c) i.0 i.1
          ∙ then_is (λ what. Some (One (Change s.0 k.0 i.0 what))) reading (record { value = v.0; flags = w.0; time = x.0 })
          (then_is (λ value. flags_named f >>= λ flags. time_named g >>= λ time. Some (record { value = value; flags = flags; time = time }))
          (integer_within (2 ^ 63) d) v.0 v.1
          ∙ then_is (λ flags. time_named g >>= λ time. Some (record { value = v.0; flags = flags; time = time })) (flags_named f) w.0 w.1
          ∙ then_is (λ time. Some (record { value = v.0; flags = w.0; time = time })) (time_named g) x.0 x.1);
      gentle = refl;
    })

pub form_reads : (n : ℕ) (form : Form) (words : List (List ℕ)) → fit n words (slots_of form) ≡ true → Reads n form words
form_reads n forms.Open words e = reads_open n words e
form_reads n forms.Clear words e = reads_clear n words e
form_reads n forms.Relay words e = reads_relay n words e
form_reads n forms.Round words e = reads_round n words e
form_reads n forms.HangUp words e = reads_hangup n words e
form_reads n forms.Tick words e = reads_tick n words e
form_reads n forms.Deliver words e = reads_deliver n words e
form_reads n forms.Repeat words e = reads_repeat n words e
form_reads n forms.Lose words e = reads_lose n words e
form_reads n forms.Flush words e = reads_flush n words e
form_reads n forms.Damage words e = reads_damage n words e
form_reads n forms.Poll words e = reads_poll n words e
form_reads n forms.Enable words e = reads_enable n words e
form_reads n forms.Disable words e = reads_disable n words e
form_reads n forms.SetTime words e = reads_time n words e
form_reads n forms.Pass words e = reads_pass n words e
form_reads n (forms.Control centre) words e = reads_control n centre words e
form_reads n forms.Restart words e = reads_restart n words e
form_reads n forms.Change words e = reads_change n words e
form_reads n (forms.Set16 centre) words e = reads_set16 n centre words e
form_reads n (forms.Set32 centre) words e = reads_set32 n centre words e
form_reads n (forms.Block centre) words e = reads_block n centre words e
