-- The moves can be made: those of one poll and one direct operate, one after the other.
use Rattle.std.proofs.Common.{◌≡◌, ℕ, ◌≤◌, zero, suc, false, List, [], ◌∷◌, refl, sym, subst, arith, ap, Some, None}
use Rattle.std.specs.Prelude.{slice_index_or}
use Rattle.std.proofs.lemmas.List.Elements.{All-nil}
use Rattle.std.proofs.lemmas.List.Sorted.{IsPermutation-refl}
use Rattle.dnp_objects.specs.Objects.{objects, content_of}
use Rattle.dnp_objects.specs.Counts.{IsCoveredBy}
use Rattle.dnp_objects.specs.declared.command.Command.{Command}
use Rattle.dnp_appfragment.specs.Table.{codes, function_of, rules, takes_of}
use Rattle.dnp_appfragment.specs.Reading.{headers_at, headers_in, header_at, range_at, span_at}
use Rattle.dnp_appfragment.specs.Meaning.{response_at, request_at}
use Rattle.dnp_eventbuf.specs.Buffered.{buffered_row, id_limit}
use Rattle.dnp_world.specs.Octets.{seq_in, uns_in, con_in, fin_in, rows_in, commands_in}
use Rattle.dnp_world.specs.LawLink.{LawLink, Confirms, Idle, Awaited}
use Rattle.dnp_world.specs.Moves.{Says, IsOffered, appended, opened, asking, received, responded, taken, lost_down, confirmed, nothing_sent, nothing_reported, Append, Open, Ask, Receive, Respond, Take, LoseDown, Confirm, Moves, Done, Then}
use Rattle.dnp_world.specs.Standing.{IsFresh}
use Rattle.dnp_world.specs.Round.{one_event, one_read, one_response, one_command, one_operate, Round}
use Rattle.dnp_world.proofs.Counting.{covered_nil}

-- ---- what the octets say

response_says : Says false one_response
unfolding uns_in rows_in response_at headers_at headers_in header_at range_at span_at function_of codes takes_of rules objects content_of
response_says = record { uns_is = refl; rows_are = IsPermutation-refl (buffered_row one_event ∷ []) }

operate_commands : commands_in one_operate ≡ one_command ∷ []
unfolding commands_in request_at headers_at headers_in header_at range_at span_at function_of codes takes_of rules objects content_of
operate_commands = refl

one_limit : (lane : ℕ) → id_limit (1 ∷ []) lane ≤ 1
one_limit zero = omega arith
one_limit (suc lane) = omega arith

response_offered : IsOffered false (one_event ∷ []) 1 one_response
response_offered = record { limits = one_limit; rows = refl; says = response_says }

same_covered : (xs ys : List Command) → ys ≡ xs → IsCoveredBy xs ys
same_covered xs ys e = subst (λ (l : List Command). IsCoveredBy xs l) (sym e) record { at_most = λ test. omega arith }

another_request : one_read ≡ one_operate → ⊥
another_request e =
    let first : 192 ≡ 193 = ap (λ (l : List ℕ). slice_index_or l 0 0) e in
    omega (arith, first)

-- ---- the links

before : LawLink
before = record {
  outstation = record { is_open = false; last = None; awaited = None; report = None; next = 0 };
  master = record { is_open = false; is_busy = false; seq = 0 };
  lanes = [];
  last_id = 0;
  down = [];
  up = [];
  stood = [];
  took = [];
  released = [];
  left = [];
  asked = [];
  performed = [];
  phase = Idle;
  trigger = Confirms 14;
  current = nothing_sent;
  reported = nothing_reported;
}

abbrev one_wait : Awaited
one_wait = record { seq = 0; upto = 1 ∷ [] }

abbrev ready : LawLink
ready = opened (appended one_event before)

abbrev polled : LawLink
polled = received one_read [] (asking one_read ready)

abbrev sent : LawLink
sent = responded one_read one_response false (Some one_wait) polled

abbrev confirming : LawLink
confirming = lost_down 1 (taken one_response sent)

abbrev reported : LawLink
reported = confirmed one_wait confirming

abbrev operating : LawLink
operating = lost_down 1 (asking one_operate reported)

abbrev operated : LawLink
operated = received one_operate (one_command ∷ []) operating

-- ---- the moves

to_ready : Moves before ready
unfolding before
to_ready = Then (Then Done (Append one_event (omega arith) refl)) (Open refl)

to_polled : Moves before polled
unfolding before seq_in
to_polled =
    Then (Then to_ready (Ask one_read refl refl refl refl))
    (Receive one_read [] [] refl refl tt (covered_nil (commands_in one_read)) refl)

to_sent : Moves before sent
unfolding before seq_in
to_sent =
    Then to_polled
    (Respond one_read one_response false false (Some one_wait) refl refl response_offered (λ e. absurd (cc)) (refl, refl) refl)

to_reported : Moves before reported
unfolding before seq_in con_in fin_in
to_reported =
    Then (Then (Then to_sent (Take one_response [] refl refl refl refl refl)) (LoseDown 1 refl))
    (Confirm one_wait [] refl refl refl refl)

to_operated : Moves before operated
unfolding before seq_in con_in fin_in
to_operated =
    Then (Then (Then to_reported (Ask one_operate refl refl refl refl)) (LoseDown 1 refl))
    (Receive one_operate [] (one_command ∷ []) refl refl another_request
    (same_covered (one_command ∷ []) (commands_in one_operate) operate_commands) refl)

before_fresh : IsFresh before
unfolding before
before_fresh = record {
  closed = refl;
  stood = refl;
  once = λ id lane. omega arith;
  ids = All-nil (λ x. (1 ≤ x.id) × (x.id ≤ 0));
  took = refl;
  released = refl;
  left = refl;
  performed = refl;
  up = refl;
  current = refl;
  reported = refl;
}

pub a_round : Round
unfolding before
a_round = record {
  old = before;
  new = operated;
  fresh = before_fresh;
  moves = to_operated;
  took = refl;
  released = refl;
  performed = refl;
}
