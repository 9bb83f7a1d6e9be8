-- What each string does to an assembler is a function of the assembler: whatever was pushed before.
use Rattle.std.proofs.Common.{◌≡◌, ℕ, ◌+◌, ◌%◌, true, false, ◌⊎◌, inl, inr, List, [], ◌∷◌, ◌++◌, length, refl, sym, ap, ◌∙◌}
use Rattle.std.proofs.lemmas.Bool.{cases_Bool, cases_lt, cases_eq, both_ways}
use Rattle.std.proofs.lemmas.Slice.Eq.{bytes_eq-Decides}
use Rattle.std.specs.Str.{bytes_eq}
use Rattle.dnp_transport.specs.Segments.{is_first, is_last, number, carried, has_no_size}
use Rattle.dnp_transport.specs.Series.{newest, joined}
use Rattle.dnp_transport.specs.Assembly.{Assembly, Idle, Joining, Complete, IsJoining, ArePushed, Answers, Shows}
use Rattle.dnp_transport.specs.steps.Stages.{Passes, Completes, Waits}
use Rattle.dnp_transport.specs.declared.assembler.Pushed.{Pushed}
use Rattle.dnp_transport.specs.declared.assembler.Pushed.TheVariants.{Nothing, Whole, Dropped}
use Rattle.dnp_transport.proofs.Histories.{one_open, one_whole, open_not_whole}
use Rattle.dnp_transport.proofs.Exits.{NoSeries, IsNext, IsAfter, answers_nothing, answers_dropped, idle_stands, idle_stays, idle_nothing, at_joining, joining_nothing, unsized_joining, repeat_joining, drops_series, dropped_idle, next_first, next_after, settled}
use Rattle.dnp_transport.specs.declared.limits.TheConstants.{MAX_FRAGMENT, SEGMENT_NUMBERS}

-- a list of pushes makes one assembler

pub one_assembly : (pushed : List (List ℕ)) (a b : Assembly) → ArePushed pushed a → ArePushed pushed b → a ≡ b
unfolding ArePushed
one_assembly pushed Idle Idle h k = refl
one_assembly pushed Idle (Joining last octets) h k = absurd (h.no_series k.series k.opened)
one_assembly pushed Idle (Complete f) h k = absurd (h.no_whole f k)
one_assembly pushed (Joining last octets) Idle h k = absurd (k.no_series h.series h.opened)
one_assembly pushed (Joining last octets) (Joining last' octets') h k =
    let same : h.series ≡ k.series = one_open pushed h.series k.series h.opened k.opened in
    let lasts : last ≡ last' = h.last_is ∙ ap (λ (s : List (List ℕ)). newest s) same ∙ sym k.last_is in
    let data_so_far : octets ≡ octets' = h.octets_are ∙ ap (λ (s : List (List ℕ)). joined s) same ∙ sym k.octets_are in
    cc
one_assembly pushed (Joining last octets) (Complete f) h k = absurd (open_not_whole pushed h.series f h.opened k)
one_assembly pushed (Complete f) Idle h k = absurd (k.no_whole f h)
one_assembly pushed (Complete f) (Joining last octets) h k = absurd (open_not_whole pushed k.series f k.opened h)
one_assembly pushed (Complete f) (Complete g) h k = ap Complete (one_whole pushed f g h k)

-- the pushes determine the right answer
one_answer : (pushed : List (List ℕ)) (r t : Pushed) → Answers pushed r → Answers pushed t → r ≡ t
one_answer pushed Nothing t h k = sym (k.nothing.1 (h.nothing.0 refl))
one_answer pushed Whole t h k = sym (k.whole.1 (h.whole.0 refl))
one_answer pushed Dropped t h k = sym (k.dropped.1 (h.dropped.0 refl))

-- what a string does to an assembler, whatever was pushed before
record Steps (a : Assembly) (s : List ℕ) : Type 0 where
  next : Assembly
  answer : Pushed
  after : (before : List (List ℕ)) → ArePushed before a → IsAfter before s next answer

taken : (a : Assembly) (s so_far : List ℕ) → ((before : List (List ℕ)) → ArePushed before a → IsNext before s so_far) → Steps a s
taken a s so_far next =
    let octets : List ℕ = so_far ++ carried s in
    elim (cases_lt MAX_FRAGMENT (length octets)) [
      | inl long ↦
          record { next = Idle; answer = Dropped; after = λ before h. settled before s so_far octets s Dropped (next before h) (Passes refl long) refl }
      | inr short ↦
          elim (cases_Bool (is_last s)) [
            | inl ended ↦
                record {
                  next = Complete octets;
                  answer = Whole;
                  after = λ before h. settled before s so_far octets s Whole (next before h) (Completes refl refl short ended) refl;
                }
            | inr unended ↦
                record {
                  next = Joining s octets;
                  answer = Nothing;
                  after = λ before h. settled before s so_far octets s Nothing (next before h) (Waits refl refl short unended) refl;
                }
          ]
    ]

-- no series is in progress

ignored : (a : Assembly) (s : List ℕ) → ((before : List (List ℕ)) → ArePushed before a → NoSeries before) → (is_first s ≡ false) ⊎ (has_no_size s ≡ true)
    → Steps a s
ignored a s none no_start =
    record {
      next = Idle;
      answer = Nothing;
      after = λ before h.
          record {
            stands = idle_stands (s ∷ before) (idle_stays before s (none before h) no_start);
            answers = answers_nothing (s ∷ before) (idle_nothing before s (none before h) no_start);
          };
    }

step_idle : (a : Assembly) (s : List ℕ) → ((before : List (List ℕ)) → ArePushed before a → NoSeries before) → Steps a s
step_idle a s none =
    elim (cases_Bool (has_no_size s)) [
      | inl unsized ↦ ignored a s none (inr unsized)
      | inr sized ↦
          elim (cases_Bool (is_first s)) [
            | inl first ↦ taken a s [] (λ before _. next_first before s first sized)
            | inr no_first ↦ ignored a s none (inl no_first)
          ]
    ]

-- a series is in progress

stays : (last octets s : List ℕ) → ((before : List (List ℕ)) → IsJoining before last octets → IsJoining (s ∷ before) last octets)
    → Steps (Joining last octets) s
unfolding ArePushed
stays last octets s goes =
    record {
      next = Joining last octets;
      answer = Nothing;
      after = λ before h.
          record {
            stands = at_joining (s ∷ before) last octets (goes before h);
            answers = answers_nothing (s ∷ before) (joining_nothing (s ∷ before) last octets (goes before h));
          };
    }

step_later : (last octets s : List ℕ) → has_no_size s ≡ false → is_first s ≡ false → (s ≡ last → ⊥) → Steps (Joining last octets) s
unfolding ArePushed
step_later last octets s sized no_first fresh =
    elim (cases_eq (number s) ((number last + 1) % SEGMENT_NUMBERS)) [
      | inl turn ↦ taken (Joining last octets) s octets (λ before h. next_after before s last octets h sized no_first fresh turn)
      | inr astray ↦
          record {
            next = Idle;
            answer = Dropped;
            after = λ before h.
                let d = drops_series before s last octets h sized no_first fresh (λ e. absurd (astray e)) in
                record { stands = idle_stands (s ∷ before) (dropped_idle (s ∷ before) d); answers = answers_dropped (s ∷ before) d };
          }
    ]

step_joining : (last octets s : List ℕ) → Steps (Joining last octets) s
step_joining last octets s =
    elim (cases_Bool (has_no_size s)) [
      | inl unsized ↦ stays last octets s (λ before j. unsized_joining before s last octets j unsized)
      | inr sized ↦
          elim (cases_Bool (is_first s)) [
            | inl first ↦ taken (Joining last octets) s [] (λ before _. next_first before s first sized)
            | inr no_first ↦
                elim (cases_Bool (bytes_eq s last)) [
                  | inl again ↦ stays last octets s (λ before j. repeat_joining before s last octets j no_first ((bytes_eq-Decides s last).0 again))
                  | inr other ↦
                      step_later last octets s sized no_first
                      (λ e. both_ways (bytes_eq s last) other ((bytes_eq-Decides s last).1 e))
                ]
          ]
    ]

step : (a : Assembly) (s : List ℕ) → Steps a s
unfolding ArePushed
step Idle s = step_idle Idle s (λ before h. h.no_series)
step (Joining last octets) s = step_joining last octets s
step (Complete f) s = step_idle (Complete f) s (λ before h series o. open_not_whole before series f o h)

-- which of the lists that made the assembler it was does not matter

pub same_answer : (a : Assembly) (p q : List (List ℕ)) (s : List ℕ) (r t : Pushed) → ArePushed p a → ArePushed q a → Answers (s ∷ p) r → Answers (s ∷ q) t
    → r ≡ t
same_answer a p q s r t h k x y =
    let i : Steps a s = step a s in
    one_answer (s ∷ p) r i.answer x (i.after p h).answers ∙ one_answer (s ∷ q) i.answer t (i.after q k).answers y

pub same_next : (a : Assembly) (p q : List (List ℕ)) (s : List ℕ) (b c : Assembly) → ArePushed p a → ArePushed q a → ArePushed (s ∷ p) b → ArePushed (s ∷ q) c
    → b ≡ c
same_next a p q s b c h k x y =
    let i : Steps a s = step a s in
    one_assembly (s ∷ p) b i.next x (i.after p h).stands ∙ one_assembly (s ∷ q) i.next c (i.after q k).stands y

pub same_shown : (a : Assembly) (p q : List (List ℕ)) (x y : List ℕ) → ArePushed p a → ArePushed q a → Shows p x → Shows q y → x ≡ y
unfolding ArePushed
same_shown Idle p q x y h k v w = v.none h.no_whole ∙ sym (w.none k.no_whole)
same_shown (Joining last octets) p q x y h k v w =
    v.none (λ f i. open_not_whole p h.series f h.opened i) ∙ sym (w.none (λ f i. open_not_whole q k.series f k.opened i))
same_shown (Complete f) p q x y h k v w = v.whole f h ∙ sym (w.whole f k)
