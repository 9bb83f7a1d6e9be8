-- Each exit of `push`: the rule that it follows is a lemma of `Exits`.
use Rattle.std.proofs.Common.{◌≡◌, ℕ, ◌+◌, ◌%◌, inl, inr, false, List, ◌∷◌, sym, ap, ◌∙◌}
use Rattle.std.proofs.lemmas.Bool.{both_ways}
use Rattle.std.proofs.lemmas.Slice.Eq.{bytes_eq-Decides}
use Rattle.dnp_transport.specs.Segments.{is_first, number, has_no_size}
use Rattle.dnp_transport.specs.Series.{IsDropped}
use Rattle.dnp_transport.specs.Assembly.{IsJoining, ArePushed}
use Rattle.dnp_transport.proofs.Exits.{NoSeries, Accepted}
use Rattle.dnp_transport.specs.steps.Stages.{Next}
use Rattle.dnp_transport.proofs.Exits as exits
use Rattle.dnp_transport.proofs.assembler.Assembler.push.Goals as goal
use Rattle.dnp_transport.specs.declared.limits.TheConstants.{SEGMENT_NUMBERS}

-- no segment, and no series in progress
pub returns-then-not-joining-clause-stands : goal.returns-then-not-joining-clause-stands
returns-then-not-joining-clause-stands c =
    λ before h.
    let none : NoSeries before =
    exits.no_series c.self.inside.stage c.self.inside.last.items c.self.inside.octets.items c.args.self.now before
    c.is_joining-joining.result c.self.view_is c.is_joining-joining.ensures c.if-not-joining.true h in
    exits.idle_stands (c.args.segment.now ∷ before)
    (exits.idle_stays before c.args.segment.now none (inr (sym c.has_no_size.ensures ∙ c.if-has_no_size.true)))

-- no segment, in a series
pub returns-else-not-joining-clause-stands : goal.returns-else-not-joining-clause-stands
returns-else-not-joining-clause-stands c =
    λ before h.
    let joining : IsJoining before c.self.inside.last.items c.self.inside.octets.items =
    exits.is_joining c.self.inside.stage c.self.inside.last.items c.self.inside.octets.items c.args.self.now before
    c.is_joining-joining.result c.self.view_is c.is_joining-joining.ensures c.if-not-joining.false h in
    exits.joining_stands c.self.inside.stage c.self.inside.last.items c.self.inside.octets.items c.args.self.now
    (c.args.segment.now ∷ before)
    c.is_joining-joining.result c.self.view_is c.is_joining-joining.ensures c.if-not-joining.false
    (exits.unsized_joining before c.args.segment.now c.self.inside.last.items c.self.inside.octets.items joining
    (sym c.has_no_size.ensures ∙ c.if-has_no_size.true))

-- no first segment, and no series in progress
pub returns-then-not-joining-2 : goal.returns-then-not-joining-2
returns-then-not-joining-2 c =
    let none : (before : List (List ℕ)) → ArePushed before c.args.self.now → NoSeries before =
    λ before h.
    exits.no_series c.self.inside.stage c.self.inside.last.items c.self.inside.octets.items c.args.self.now before
    c.is_joining-joining.result c.self.view_is c.is_joining-joining.ensures c.if-not-joining-2.true h in
    let no_first : is_first c.args.segment.now ≡ false = sym c.is_first.ensures ∙ c.if-is_first.false in
    record {
      stands = λ before h.
          exits.idle_stands (c.args.segment.now ∷ before)
          (exits.idle_stays before c.args.segment.now (none before h) (inl no_first));
      answers = λ before h.
          exits.answers_nothing (c.args.segment.now ∷ before)
          (exits.idle_nothing before c.args.segment.now (none before h) (inl no_first));
    }

-- a repeat
pub returns-then-eq : goal.returns-then-eq
returns-then-eq c =
    let no_first : is_first c.args.segment.now ≡ false = sym c.is_first.ensures ∙ c.if-is_first.false in
    let same : c.args.segment.now ≡ c.self.inside.last.items =
    (bytes_eq-Decides c.args.segment.now c.as_slice.result.now).0 (sym c.eq.ensures ∙ c.if-eq.true) ∙ c.as_slice.ensures.value in
    let joining : (before : List (List ℕ)) → ArePushed before c.args.self.now
    → IsJoining (c.args.segment.now ∷ before) c.self.inside.last.items c.self.inside.octets.items =
    λ before h.
    exits.repeat_joining before c.args.segment.now c.self.inside.last.items c.self.inside.octets.items
    (exits.is_joining c.self.inside.stage c.self.inside.last.items c.self.inside.octets.items c.args.self.now before
    c.is_joining-joining.result c.self.view_is c.is_joining-joining.ensures c.if-not-joining-2.false h)
    no_first same in
    record {
      stands = λ before h.
          exits.joining_stands c.self.inside.stage c.self.inside.last.items c.self.inside.octets.items c.args.self.now
          (c.args.segment.now ∷ before)
          c.is_joining-joining.result c.self.view_is c.is_joining-joining.ensures c.if-not-joining-2.false
          (joining before h);
      answers = λ before h.
          exits.answers_nothing (c.args.segment.now ∷ before)
          (exits.joining_nothing (c.args.segment.now ∷ before) c.self.inside.last.items c.self.inside.octets.items
          (joining before h));
    }

-- not the next number
pub returns-then-number : goal.returns-then-number
returns-then-number c =
    let sized : has_no_size c.args.segment.now ≡ false = sym c.has_no_size.ensures ∙ c.if-has_no_size.false in
    let no_first : is_first c.args.segment.now ≡ false = sym c.is_first.ensures ∙ c.if-is_first.false in
    let fresh : c.args.segment.now ≡ c.self.inside.last.items → ⊥ =
    λ e. both_ways c.eq.result c.if-eq.false
    (c.eq.ensures ∙ (bytes_eq-Decides c.args.segment.now c.as_slice.result.now).1 (e ∙ sym c.as_slice.ensures.value)) in
    let same_number : c.number-2.result ≡ number c.self.inside.last.items =
    c.number-2.ensures ∙ ap (λ (l : List ℕ). number l) c.deref.ensures.0 in
    let astray : number c.args.segment.now ≡ (number c.self.inside.last.items + 1) % SEGMENT_NUMBERS → ⊥ =
    λ e. c.if-number.true (c.number.ensures ∙ e ∙ ap (λ (n : ℕ). (n + 1) % SEGMENT_NUMBERS) (sym same_number)) in
    let dropped : (before : List (List ℕ)) → ArePushed before c.args.self.now → IsDropped (c.args.segment.now ∷ before) =
    λ before h.
    exits.drops_series before c.args.segment.now c.self.inside.last.items c.self.inside.octets.items
    (exits.is_joining c.self.inside.stage c.self.inside.last.items c.self.inside.octets.items c.args.self.now before
    c.is_joining-joining.result c.self.view_is c.is_joining-joining.ensures c.if-not-joining-2.false h)
    sized no_first fresh (λ e. absurd (astray e)) in
    record {
      stands = λ before h.
          exits.idle_stands (c.args.segment.now ∷ before)
          (exits.dropped_idle (c.args.segment.now ∷ before) (dropped before h));
      answers = λ before h. exits.answers_dropped (c.args.segment.now ∷ before) (dropped before h);
    }

-- nothing is left of a history where no series is in progress any more

pub invariant_of-self : goal.invariant_of-self
invariant_of-self c = exits.nothing_made_it

pub invariant_of-self-then-not-joining-2 : goal.invariant_of-self-then-not-joining-2
invariant_of-self-then-not-joining-2 c = exits.nothing_made_it

pub invariant_of-self-then-number : goal.invariant_of-self-then-number
invariant_of-self-then-number c = exits.nothing_made_it

-- the next segment of the series
pub go_on-requires-2-clause-goes_on : goal.go_on-requires-2-clause-goes_on
go_on-requires-2-clause-goes_on c =
    let fresh : c.args.segment.now ≡ c.self.inside.last.items → ⊥ =
    λ e. both_ways c.eq.result c.if-eq.false
    (c.eq.ensures ∙ (bytes_eq-Decides c.args.segment.now c.as_slice.result.now).1 (e ∙ sym c.as_slice.ensures.value)) in
    let same_number : c.number-2.result ≡ number c.self.inside.last.items =
    c.number-2.ensures ∙ ap (λ (l : List ℕ). number l) c.deref.ensures.0 in
    Next c.self.inside.last.items c.self.inside.octets.items
    (exits.joining_is c.self.inside.stage c.self.inside.last.items c.self.inside.octets.items c.args.self.now
    c.is_joining-joining.result c.self.view_is c.is_joining-joining.ensures c.if-not-joining-2.false)
    (sym c.is_first.ensures ∙ c.if-is_first.false) fresh
    (sym c.number.ensures ∙ c.if-number.false ∙ ap (λ (n : ℕ). (n + 1) % SEGMENT_NUMBERS) same_number)
