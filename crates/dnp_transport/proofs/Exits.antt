-- What each rule of `push` makes of an assembler, and which answer is right.
use Rattle.std.proofs.Common.{◌≡◌, ℕ, ◌+◌, ◌%◌, ◌<◌, ◌≤◌, Bool, true, false, not, ◌&&◌, nat_lt, ◌⊎◌, ◌↔◌, inl, inr, List, [], ◌∷◌, ◌++◌, length, refl, sym, ap, ◌∙◌, subst, arith, length-drop}
use Rattle.std.proofs.lemmas.Bool.{both_ways, or_left, or_right, or_parts, or_from, and_from, and_right, not_from_false, false_from_ne_true, ltb-false}
use Rattle.std.proofs.lemmas.Slice.Eq.{bytes_eq-Decides}
use Rattle.std.specs.Str.{bytes_eq}
use Rattle.dnp_transport.specs.Segments.{is_first, is_last, number, carried, has_no_size}
use Rattle.dnp_transport.specs.Series.{repeats, is_left_out, kept, Follows, IsSeries, newest, joined, IsOpen, IsWhole, IsDropped, IsNothing}
use Rattle.dnp_transport.specs.Assembly.{Assembly, Idle, Joining, Complete, IsJoining, IsIdle, ArePushed, Answers, Shows}
use Rattle.dnp_transport.specs.steps.Stages.{assembly, HasHistory, MayGoOn, First, Next, GoesOn, Passes, Completes, Waits, stage_after}
use Rattle.dnp_transport.specs.declared.assembler.Stage.{Stage}
use Rattle.dnp_transport.specs.declared.assembler.Stage.TheVariants as stage
use Rattle.dnp_transport.specs.declared.assembler.Pushed.{Pushed}
use Rattle.dnp_transport.specs.declared.assembler.Pushed.TheVariants.{Nothing, Whole, Dropped}
use Rattle.dnp_transport.proofs.Histories.{kept_left_out, kept_stays, first_stays, one_whole, open_not_whole, Continues, whole_back, open_back, dropped_not_open, whole_not_dropped}
use Rattle.dnp_transport.specs.declared.limits.TheConstants.{MAX_FRAGMENT, MAX_SEGMENT, SEGMENT_NUMBERS}

-- the right answers

pub answers_whole : (pushed : List (List ℕ)) (f : List ℕ) → IsWhole pushed f → Answers pushed Whole
answers_whole pushed f w =
    record {
      whole = ((λ _. (f, w)), (λ _. refl));
      dropped = ((λ e. absurd (cc)), (λ d. absurd (whole_not_dropped pushed f w d)));
      nothing = ((λ e. absurd (cc)), (λ n. absurd (n.no_whole f w)));
    }

pub answers_dropped : (pushed : List (List ℕ)) → IsDropped pushed → Answers pushed Dropped
answers_dropped pushed d =
    record {
      whole = ((λ e. absurd (cc)), (λ w. absurd (whole_not_dropped pushed w.0 w.1 d)));
      dropped = ((λ _. d), (λ _. refl));
      nothing = ((λ e. absurd (cc)), (λ n. absurd (n.no_drop d)));
    }

pub answers_nothing : (pushed : List (List ℕ)) → IsNothing pushed → Answers pushed Nothing
answers_nothing pushed n =
    record {
      whole = ((λ e. absurd (cc)), (λ w. absurd (n.no_whole w.0 w.1)));
      dropped = ((λ e. absurd (cc)), (λ d. absurd (n.no_drop d)));
      nothing = ((λ _. n), (λ _. refl));
    }

-- no series is open
abbrev pub NoSeries : List (List ℕ) → Type 0
NoSeries pushed = (series : List (List ℕ)) → IsOpen pushed series → ⊥

-- what the stage says of the pushes

pub no_series : (s : Stage) (last octets : List ℕ) (a : Assembly) (pushed : List (List ℕ)) (joining : Bool) → assembly s last octets ≡ a
    → (joining ≡ true) ↔ (s ≡ stage.Joining) → joining ≡ false → ArePushed pushed a → NoSeries pushed
unfolding ArePushed
no_series stage.Idle last octets a pushed joining e n f h =
    let i : IsIdle pushed = subst (λ (x : Assembly). ArePushed pushed x) (sym e) h in i.no_series
no_series stage.Joining last octets a pushed joining e n f h = absurd (both_ways joining f (n.1 refl))
no_series stage.Complete last octets a pushed joining e n f h =
    let w : IsWhole pushed octets = subst (λ (x : Assembly). ArePushed pushed x) (sym e) h in
    λ series o. open_not_whole pushed series octets o w

pub is_joining : (s : Stage) (last octets : List ℕ) (a : Assembly) (pushed : List (List ℕ)) (joining : Bool) → assembly s last octets ≡ a
    → (joining ≡ true) ↔ (s ≡ stage.Joining) → joining ≡ true → ArePushed pushed a → IsJoining pushed last octets
unfolding ArePushed
is_joining s last octets a pushed joining e j t h =
    let is : Joining last octets ≡ a = ap (λ (u : Stage). assembly u last octets) (sym (j.0 t)) ∙ e in
    subst (λ (x : Assembly). ArePushed pushed x) (sym is) h

pub joining_is : (s : Stage) (last octets : List ℕ) (a : Assembly) (joining : Bool) → assembly s last octets ≡ a
    → (joining ≡ true) ↔ (s ≡ stage.Joining) → joining ≡ true → a ≡ Joining last octets
joining_is s last octets a joining e j t = sym e ∙ ap (λ (u : Stage). assembly u last octets) (j.0 t)

pub joining_stands : (s : Stage) (last octets : List ℕ) (a : Assembly) (pushed : List (List ℕ)) (joining : Bool) → assembly s last octets ≡ a
    → (joining ≡ true) ↔ (s ≡ stage.Joining) → joining ≡ true → IsJoining pushed last octets → ArePushed pushed a
unfolding ArePushed
joining_stands s last octets a pushed joining e j t h =
    let is : Joining last octets ≡ a = ap (λ (u : Stage). assembly u last octets) (sym (j.0 t)) ∙ e in
    subst (λ (x : Assembly). ArePushed pushed x) is h

pub idle_stands : (pushed : List (List ℕ)) → IsIdle pushed → ArePushed pushed Idle
unfolding ArePushed
idle_stands pushed i = i

pub complete_stands : (pushed : List (List ℕ)) (f : List ℕ) → IsWhole pushed f → ArePushed pushed (Complete f)
unfolding ArePushed
complete_stands pushed f w = w

pub at_joining : (pushed : List (List ℕ)) (last octets : List ℕ) → IsJoining pushed last octets → ArePushed pushed (Joining last octets)
unfolding ArePushed
at_joining pushed last octets j = j

-- nothing is whole or dropped while a series is open
pub joining_nothing : (pushed : List (List ℕ)) (last octets : List ℕ) → IsJoining pushed last octets → IsNothing pushed
joining_nothing pushed last octets j =
    record {
      no_whole = λ f w. open_not_whole pushed j.series f j.opened w;
      no_drop = λ d. dropped_not_open pushed j.series d j.opened;
    }

-- with no series open, what is no segment, or no first one, changes nothing

not_begun : (before : List (List ℕ)) (s : List ℕ) → NoSeries before → (is_first s ≡ false) ⊎ (has_no_size s ≡ true)
    → ((is_first s ≡ true) × (has_no_size s ≡ false)) ⊎ Continues before s → ⊥
not_begun before s n h start =
    elim start [
      | inl first ↦
          elim h [
            | inl no_first ↦ both_ways (is_first s) no_first first.0
            | inr unsized ↦ both_ways (has_no_size s) first.1 unsized
          ]
      | inr more ↦ n more.series more.opened
    ]

pub idle_stays : (before : List (List ℕ)) (s : List ℕ) → NoSeries before → (is_first s ≡ false) ⊎ (has_no_size s ≡ true) → IsIdle (s ∷ before)
idle_stays before s n h =
    record {
      no_series =
          λ t o. elim (open_back before t s o) [
            | inl out ↦ n t out.1
            | inr start ↦ not_begun before s n h start
          ];
      no_whole = λ f w. not_begun before s n h (whole_back before s f w);
    }

pub idle_nothing : (before : List (List ℕ)) (s : List ℕ) → NoSeries before → (is_first s ≡ false) ⊎ (has_no_size s ≡ true) → IsNothing (s ∷ before)
idle_nothing before s n h =
    record {
      no_whole = (idle_stays before s n h).no_whole;
      no_drop =
          λ d.
          let tails : d.before ≡ before = let split : s ∷ before ≡ d.segment ∷ d.before = d.split in cc in
          n d.series (subst (λ (l : List (List ℕ)). IsOpen l d.series) tails d.opened);
    }

-- what is left out of an open series leaves it as it is

pub left_out_joining : (before : List (List ℕ)) (s last octets : List ℕ) (j : IsJoining before last octets) → is_left_out j.series s ≡ true
    → IsJoining (s ∷ before) last octets
left_out_joining before s last octets j out =
    let o : IsOpen before j.series = j.opened in
    let out' : is_left_out (kept o.recent) s ≡ true =
    subst (λ (l : List (List ℕ)). is_left_out l s ≡ true) (sym o.kept_are) out in
    let split : before ≡ o.recent ++ o.older = o.split in
    record {
      series = j.series;
      opened = record {
        recent = s ∷ o.recent;
        older = o.older;
        split = cc;
        kept_are = kept_left_out s o.recent out' ∙ o.kept_are;
        in_series = o.in_series;
        unended = o.unended;
        fits = o.fits;
      };
      last_is = j.last_is;
      octets_are = j.octets_are;
    }

repeat_left_out : (series : List (List ℕ)) (s : List ℕ) → IsSeries series → is_first s ≡ false → s ≡ newest series → is_left_out series s ≡ true
repeat_left_out [] s h n e = absurd h
repeat_left_out (last ∷ earlier) s h n e =
    or_right (has_no_size s) (not (is_first s) && bytes_eq s last)
    (and_from (not (is_first s)) (bytes_eq s last) (not_from_false (is_first s) n) ((bytes_eq-Decides s last).1 e))

pub repeat_joining : (before : List (List ℕ)) (s last octets : List ℕ) → IsJoining before last octets → is_first s ≡ false → s ≡ last
    → IsJoining (s ∷ before) last octets
repeat_joining before s last octets j n e =
    left_out_joining before s last octets j (repeat_left_out j.series s j.opened.in_series n (e ∙ j.last_is))

pub unsized_joining : (before : List (List ℕ)) (s last octets : List ℕ) → IsJoining before last octets → has_no_size s ≡ true
    → IsJoining (s ∷ before) last octets
unsized_joining before s last octets j h =
    left_out_joining before s last octets j (or_left (has_no_size s) (repeats j.series s) h)

-- a segment of the right size that is no repeat is kept
fresh_stays : (series : List (List ℕ)) (s : List ℕ) → IsSeries series → has_no_size s ≡ false → (s ≡ newest series → ⊥) → is_left_out series s ≡ false
fresh_stays [] s h z n = absurd h
fresh_stays (last ∷ earlier) s h z n =
    or_from (has_no_size s) (not (is_first s) && bytes_eq s last) z
    (and_right (not (is_first s)) (bytes_eq s last)
    (false_from_ne_true (bytes_eq s last) (λ t. n ((bytes_eq-Decides s last).0 t))))

-- a series ends without a fragment

pub drops_series : (before : List (List ℕ)) (s last octets : List ℕ) → IsJoining before last octets → has_no_size s ≡ false → is_first s ≡ false
    → (s ≡ last → ⊥) → (number s ≡ (number last + 1) % SEGMENT_NUMBERS → MAX_FRAGMENT < length (octets ++ carried s)) → IsDropped (s ∷ before)
drops_series before s last octets j z n fresh unfit =
    record {
      segment = s;
      before = before;
      split = refl;
      series = j.series;
      opened = j.opened;
      stays = fresh_stays j.series s j.opened.in_series z (λ e. fresh (e ∙ sym j.last_is));
      no_first = n;
      unfit =
          λ turn.
          subst (λ (l : List ℕ). MAX_FRAGMENT < length (l ++ carried s)) j.octets_are
          (unfit (turn ∙ ap (λ (l : List ℕ). (number l + 1) % SEGMENT_NUMBERS) (sym j.last_is)));
    }

pub dropped_idle : (pushed : List (List ℕ)) → IsDropped pushed → IsIdle pushed
dropped_idle pushed d =
    record { no_series = λ t o. dropped_not_open pushed t d o; no_whole = λ f w. whole_not_dropped pushed f w d }

-- a segment is taken in

-- with the segment the newest pushes are a series, of these octets
pub record Accepted (before : List (List ℕ)) (s octets : List ℕ) : Type 0 where
  pub recent : List (List ℕ)
  pub older : List (List ℕ)
  pub split : before ≡ recent ++ older
  pub stays : is_left_out (kept recent) s ≡ false
  pub in_series : IsSeries (s ∷ kept recent)
  pub octets_are : octets ≡ joined (s ∷ kept recent)
  pub fits : length octets ≤ MAX_FRAGMENT

-- the data of one segment fits a fragment
pub one_fits : (s : List ℕ) → has_no_size s ≡ false → length (carried s) ≤ MAX_FRAGMENT
one_fits s z =
    let short : length s ≤ MAX_SEGMENT =
    ltb-false MAX_SEGMENT (length s) (or_parts (nat_lt (length s) 2) (nat_lt MAX_SEGMENT (length s)) z).1 in
    omega (arith, length-drop 1 s)

pub accepts_first : (before : List (List ℕ)) (s octets : List ℕ) → is_first s ≡ true → has_no_size s ≡ false → octets ≡ carried s
    → Accepted before s octets
accepts_first before s octets h z e =
    record {
      recent = [];
      older = before;
      split = refl;
      stays = first_stays [] s h z;
      in_series = h;
      octets_are = e;
      fits = subst (λ (l : List ℕ). length l ≤ MAX_FRAGMENT) (sym e) (one_fits s z);
    }

follows_series : (series : List (List ℕ)) (s : List ℕ) → IsSeries series → Follows (newest series) s → IsSeries (s ∷ series)
follows_series [] s h f = absurd h
follows_series (last ∷ earlier) s h f = (f, h)

pub accepts_next : (before : List (List ℕ)) (s last before_octets octets : List ℕ) → IsJoining before last before_octets → has_no_size s ≡ false
    → is_first s ≡ false → (s ≡ last → ⊥) → number s ≡ (number last + 1) % SEGMENT_NUMBERS → octets ≡ before_octets ++ carried s → length octets ≤ MAX_FRAGMENT
    → Accepted before s octets
accepts_next before s last before_octets octets j z n fresh turn e fits =
    let o : IsOpen before j.series = j.opened in
    let back : j.series ≡ kept o.recent = sym o.kept_are in
    let stays : is_left_out j.series s ≡ false = fresh_stays j.series s o.in_series z (λ e. fresh (e ∙ sym j.last_is)) in
    let follows : Follows (newest j.series) s =
    record { unended = o.unended; no_first = n; in_turn = turn ∙ ap (λ (l : List ℕ). (number l + 1) % SEGMENT_NUMBERS) j.last_is } in
    record {
      recent = o.recent;
      older = o.older;
      split = o.split;
      stays = subst (λ (l : List (List ℕ)). is_left_out l s ≡ false) back stays;
      in_series = subst (λ (l : List (List ℕ)). IsSeries (s ∷ l)) back (follows_series j.series s o.in_series follows);
      octets_are = e ∙ ap (λ (l : List ℕ). l ++ carried s) j.octets_are ∙ ap (λ (l : List (List ℕ)). joined l ++ carried s) back;
      fits = fits;
    }

pub accepted_whole : (before : List (List ℕ)) (s octets : List ℕ) → Accepted before s octets → is_last s ≡ true → IsWhole (s ∷ before) octets
accepted_whole before s octets a h =
    let split : before ≡ a.recent ++ a.older = a.split in
    record {
      segment = s;
      recent = a.recent;
      older = a.older;
      split = cc;
      stays = a.stays;
      in_series = a.in_series;
      ended = h;
      joined_is = sym a.octets_are;
      fits = a.fits;
    }

pub accepted_joining : (before : List (List ℕ)) (s octets last : List ℕ) → Accepted before s octets → is_last s ≡ false → last ≡ s
    → IsJoining (s ∷ before) last octets
accepted_joining before s octets last a h e =
    let split : before ≡ a.recent ++ a.older = a.split in
    record {
      series = s ∷ kept a.recent;
      opened = record {
        recent = s ∷ a.recent;
        older = a.older;
        split = cc;
        kept_are = kept_stays s a.recent a.stays;
        in_series = a.in_series;
        unended = h;
        fits = subst (λ (l : List ℕ). length l ≤ MAX_FRAGMENT) a.octets_are a.fits;
      };
      last_is = e;
      octets_are = a.octets_are;
    }

-- the newest pushes are a series of these data, and the segment is its next; or there are none, and it is a first one
pub record IsNext (before : List (List ℕ)) (s so_far : List ℕ) : Type 0 where
  pub accepted : (octets : List ℕ) → octets ≡ so_far ++ carried s → length octets ≤ MAX_FRAGMENT → Accepted before s octets
  pub dropped : MAX_FRAGMENT < length (so_far ++ carried s) → IsDropped (s ∷ before)

pub next_first : (before : List (List ℕ)) (s : List ℕ) → is_first s ≡ true → has_no_size s ≡ false → IsNext before s []
next_first before s h z =
    record {
      accepted = λ octets e fits. accepts_first before s octets h z e;
      dropped = λ long. absurd (omega (arith, long, one_fits s z));
    }

pub next_after : (before : List (List ℕ)) (s last so_far : List ℕ) → IsJoining before last so_far → has_no_size s ≡ false → is_first s ≡ false
    → (s ≡ last → ⊥) → number s ≡ (number last + 1) % SEGMENT_NUMBERS → IsNext before s so_far
next_after before s last so_far j z n fresh turn =
    record {
      accepted = λ octets e fits. accepts_next before s last so_far octets j z n fresh turn e fits;
      dropped = λ long. drops_series before s last so_far j z n fresh (λ _. long);
    }

-- how the assembler is after the push, and what it answers
pub record IsAfter (before : List (List ℕ)) (s : List ℕ) (new : Assembly) (answer : Pushed) : Type 0 where
  pub stands : ArePushed (s ∷ before) new
  pub answers : Answers (s ∷ before) answer

pub settled : (before : List (List ℕ)) (s so_far octets last : List ℕ) (answer : Pushed) → IsNext before s so_far → GoesOn so_far s octets answer
    → last ≡ s → IsAfter before s (assembly (stage_after answer) last octets) answer
settled before s so_far octets last answer next (Passes is long) e =
    let d : IsDropped (s ∷ before) = next.dropped long in
    subst (λ (r : Pushed). IsAfter before s (assembly (stage_after r) last octets) r) (sym is)
    record { stands = idle_stands (s ∷ before) (dropped_idle (s ∷ before) d); answers = answers_dropped (s ∷ before) d }
settled before s so_far octets last answer next (Completes is grown fits ended) e =
    let w : IsWhole (s ∷ before) octets = accepted_whole before s octets (next.accepted octets grown fits) ended in
    subst (λ (r : Pushed). IsAfter before s (assembly (stage_after r) last octets) r) (sym is)
    record { stands = complete_stands (s ∷ before) octets w; answers = answers_whole (s ∷ before) octets w }
settled before s so_far octets last answer next (Waits is grown fits unended) e =
    let j : IsJoining (s ∷ before) last octets =
    accepted_joining before s octets last (next.accepted octets grown fits) unended e in
    subst (λ (r : Pushed). IsAfter before s (assembly (stage_after r) last octets) r) (sym is)
    record {
      stands = at_joining (s ∷ before) last octets j;
      answers = answers_nothing (s ∷ before) (joining_nothing (s ∷ before) last octets j);
    }

-- the data that the segment goes on with: none where it is a first one, and else those of the series
abbrev pub GoesOnWith : (s octets so_far : List ℕ) → Type 0
GoesOnWith s octets so_far = ((is_first s ≡ true) × (so_far ≡ [])) ⊎ ((is_first s ≡ false) × (so_far ≡ octets))

same_joining : (u : Stage) (last octets last' octets' : List ℕ) → assembly u last octets ≡ Joining last' octets' → (last ≡ last') × (octets ≡ octets')
same_joining stage.Idle last octets last' octets' e = absurd (cc)
same_joining stage.Joining last octets last' octets' e = (cc, cc)
same_joining stage.Complete last octets last' octets' e = absurd (cc)

next_of : (u : Stage) (last octets : List ℕ) (a : Assembly) (s so_far : List ℕ) (before : List (List ℕ)) → assembly u last octets ≡ a
    → has_no_size s ≡ false → MayGoOn a s → GoesOnWith s octets so_far → ArePushed before a → IsNext before s so_far
unfolding ArePushed
next_of u last octets a s so_far before is z may (inl first) h =
    subst (λ (l : List ℕ). IsNext before s l) (sym first.1) (next_first before s first.0 z)
next_of u last octets a s so_far before is z (First first) (inr later) h = absurd (both_ways (is_first s) later.0 first)
next_of u last octets a s so_far before is z (Next last' octets' joining no_first fresh turn) (inr later) h =
    let same : (last ≡ last') × (octets ≡ octets') = same_joining u last octets last' octets' (is ∙ joining) in
    let j : IsJoining before last' octets' = subst (λ (x : Assembly). ArePushed before x) joining h in
    subst (λ (l : List ℕ). IsNext before s l) (sym (later.1 ∙ same.1)) (next_after before s last' octets' j z no_first fresh turn)

-- a segment that goes on with what the fields say
pub went_on : (u : Stage) (last octets : List ℕ) (a : Assembly) (s so_far octets' last' : List ℕ) (answer : Pushed) → assembly u last octets ≡ a
    → has_no_size s ≡ false → MayGoOn a s → GoesOnWith s octets so_far → GoesOn so_far s octets' answer → last' ≡ s → (before : List (List ℕ))
    → ArePushed before a → IsAfter before s (assembly (stage_after answer) last' octets') answer
went_on u last octets a s so_far octets' last' answer is z may onto goes last_is before h =
    settled before s so_far octets' last' answer (next_of u last octets a s so_far before is z may onto h) goes last_is

-- what `fragment` gives

pub shows_complete : (pushed : List (List ℕ)) (f : List ℕ) → ArePushed pushed (Complete f) → Shows pushed f
unfolding ArePushed
shows_complete pushed f w =
    record { whole = λ g v. one_whole pushed f g w v; none = λ n. absurd (n f w) }

pub shows_none : (pushed : List (List ℕ)) → ((f : List ℕ) → IsWhole pushed f → ⊥) → Shows pushed []
shows_none pushed n = record { whole = λ f w. absurd (n f w); none = λ _. refl }

pub unfinished_shows_none : (s : Stage) (last octets : List ℕ) (a : Assembly) (pushed : List (List ℕ)) → assembly s last octets ≡ a
    → (s ≡ stage.Idle) ⊎ (s ≡ stage.Joining) → ArePushed pushed a → Shows pushed []
unfolding ArePushed
unfinished_shows_none stage.Idle last octets a pushed e k h =
    let i : IsIdle pushed = subst (λ (x : Assembly). ArePushed pushed x) (sym e) h in shows_none pushed i.no_whole
unfinished_shows_none stage.Joining last octets a pushed e k h =
    let j : IsJoining pushed last octets = subst (λ (x : Assembly). ArePushed pushed x) (sym e) h in
    shows_none pushed (λ f w. open_not_whole pushed j.series f j.opened w)
unfinished_shows_none stage.Complete last octets a pushed e k h =
    absurd (elim k [ inl p ↦ (let q : stage.Complete ≡ stage.Idle = p in cc) | inr p ↦ (let q : stage.Complete ≡ stage.Joining = p in cc) ])

-- before the first push
pub nothing_pushed : IsIdle []
nothing_pushed =
    record {
      no_series = λ t o. nothing_open t o.recent o.older o.split o.kept_are o.in_series;
      no_whole = λ f w. let e : [] ≡ w.segment ∷ (w.recent ++ w.older) = w.split in cc;
    }
  where
    nothing_open : (t recent older : List (List ℕ)) → [] ≡ recent ++ older → kept recent ≡ t → IsSeries t → ⊥
    nothing_open t [] older e k h = subst (λ (l : List (List ℕ)). IsSeries l) (sym k) h
    nothing_open t (x ∷ recent) older e k h = cc

-- a new assembler has a history
pub nothing_made_it : HasHistory Idle
nothing_made_it = ([], idle_stands [] nothing_pushed)
