-- What the octets of an outstation's fragments say, and what it makes of octets that come, in the words of the link.
use Rattle.std.proofs.Common.{◌≡◌, ℕ, ◌<◌, ◌≤◌, ◌==◌, Bool, true, false, if◌then◌else◌, List, [], ◌∷◌, ◌++◌, map, refl, sym, ap, ◌∙◌, subst, arith, Option, Some, None, Result, Ok, Err, flat_map, option_to_list, option_map, eq-eqb, eqb-true}
use Rattle.std.specs.List.{filter, range_with_len}
use Rattle.std.specs.List.Sorted.{IsPermutation}
use Rattle.dnp_objects.specs.declared.command.Command.{Command}
use Rattle.dnp_objects.specs.declared.row.Row.{Row}
use Rattle.dnp_appfragment.specs.declared.fault.AppFault.{AppFault}
use Rattle.dnp_appfragment.specs.declared.function.Function.{Function}
use Rattle.dnp_appfragment.specs.declared.function.Function.TheVariants as function
use Rattle.dnp_appfragment.specs.declared.table.Form.TheVariants as form
use Rattle.dnp_appfragment.specs.Control.{ControlBits}
use Rattle.dnp_appfragment.specs.EventRows.{answered_events}
use Rattle.dnp_appfragment.specs.Fragments.{Asked, Answered}
use Rattle.dnp_appfragment.specs.Headers.{Head, count_of}
use Rattle.dnp_appfragment.specs.Meaning.{control_of, command_in, function_at, request_at, response_at}
use Rattle.dnp_appfragment.specs.Reading.{◌>>=◌, headers_at}
use Rattle.dnp_appfragment.specs.Table.{function_of, function_octet}
use Rattle.dnp_eventbuf.specs.Buffered.{Buffered, buffered_row, id_limit, is_upto}
use Rattle.dnp_eventbuf.specs.EventBuffer.{EventBuffer}
use Rattle.dnp_outstation.specs.Connection.{function_in}
use Rattle.dnp_outstation.specs.Connection as connection
use Rattle.dnp_outstation.specs.Controls.{commands_of}
use Rattle.dnp_outstation.specs.Links.{Reports, commands_asked}
use Rattle.dnp_outstation.specs.Links as links
use Rattle.dnp_world.specs.Lanes.{HasLanes}
use Rattle.dnp_world.specs.LawLink.{SentFragment, Asks, Confirms, ConfirmsReport, LawLink}
use Rattle.dnp_world.specs.Moves.{IsOffered}
use Rattle.dnp_world.specs.Octets.{control_in, seq_in, uns_in, fin_in, rows_in, commands_in, asked_commands, header_commands}
use Rattle.dnp_world.specs.OutstationSeen.{down_of}

-- ---- the control octet of a response

pub said_control : (octets : List ℕ) (answered : Answered) → response_at octets ≡ Ok answered → answered.control ≡ control_in octets
unfolding response_at
said_control [] answered e = absurd (cc)
said_control (control ∷ []) answered e = absurd (cc)
said_control (control ∷ code ∷ []) answered e = absurd (cc)
said_control (control ∷ code ∷ one ∷ []) answered e = absurd (cc)
said_control (control ∷ code ∷ one ∷ two ∷ body) answered e = by_function (function_at true (function_of code)) e
  where
    by_headers : (f : Function) (r : Result (List Head) AppFault)
        → (r >>= λ hs. Ok (record { control = control_of control; function = f; iin = record { one = one; two = two }; headers = hs })) ≡ Ok answered
        → answered.control ≡ control_of control
    by_headers f (Err fault) e = absurd (cc)
    by_headers f (Ok hs) e = cc

    by_function : (r : Result Function AppFault)
        → (r >>= λ f. headers_at form.Response body
        >>= λ hs. Ok (record { control = control_of control; function = f; iin = record { one = one; two = two }; headers = hs })) ≡ Ok answered
        → answered.control ≡ control_of control
    by_function (Err fault) e = absurd (cc)
    by_function (Ok f) e = by_headers f (headers_at form.Response body) e

-- ---- a fragment that is sent

abbrev pub made_of : List ℕ → List ℕ → LawLink → SentFragment
made_of octets upto l = record { octets = octets; upto = upto; rows = filter (is_upto upto) l.lanes }

module _ (s : EventBuffer) (octets : List ℕ) (control : ControlBits) (upto : List ℕ) (reports : Reports s octets control upto) where
  reported_control : control_in octets ≡ control
  reported_control = sym (said_control octets reports.answered reports.read) ∙ reports.control_is

  pub reported_seq : seq_in octets ≡ control.seq
  unfolding seq_in
  reported_seq = ap (λ (c : ControlBits). c.seq) reported_control

  pub reported_fin : fin_in octets ≡ control.fin
  unfolding fin_in
  reported_fin = ap (λ (c : ControlBits). c.fin) reported_control

  pub reported_uns : uns_in octets ≡ control.uns
  unfolding uns_in
  reported_uns = ap (λ (c : ControlBits). c.uns) reported_control

  reported_rows : rows_in octets ≡ answered_events (Ok reports.answered)
  unfolding rows_in
  reported_rows = ap answered_events reports.read

  -- it is offered by the link that has these lanes
  pub reported_offer : (uns : Bool) (l : LawLink) → control.uns ≡ uns → HasLanes s l → IsOffered uns l.lanes l.last_id (made_of octets upto l)
  reported_offer uns l uns_is lanes = record {
    limits = λ lane. subst (λ (n : ℕ). id_limit upto lane ≤ n) (sym lanes.last_id) (reports.used lane);
    rows = refl;
    says = record {
      uns_is = reported_uns ∙ uns_is;
      rows_are = subst (λ (rows : List Row). IsPermutation rows (map buffered_row (filter (is_upto upto) l.lanes))) (sym reported_rows)
          (subst (λ (xs : List Buffered). IsPermutation (answered_events (Ok reports.answered)) (map buffered_row (filter (is_upto upto) xs)))
          (sym lanes.rows) reports.rows);
    };
  }

-- ---- the numbers of requests

pub same_seq : (octets : List ℕ) → (connection.control_in octets).seq ≡ seq_in octets
unfolding seq_in
same_seq octets = refl

pub same_uns : (octets : List ℕ) → (connection.control_in octets).uns ≡ uns_in octets
unfolding uns_in
same_uns octets = refl

pub seq_below : (octets : List ℕ) → (connection.control_in octets).seq < 16
seq_below octets = omega arith

-- ---- the commands of requests

one_command : (o : Option (Command × ℕ)) → option_to_list (option_map (λ c. c.0) o) ≡ map (λ x. x.0) (option_to_list o)
one_command None = refl
one_command (Some c) = refl

each_command : (h : Head) (ks : List ℕ) → flat_map (λ k. option_to_list (option_map (λ c. c.0) (command_in h k))) ks
    ≡ flat_map (λ k. map (λ x. x.0) (option_to_list (command_in h k))) ks
each_command h [] = refl
each_command h (k ∷ ks) =
    ap (λ (cs : List Command). cs ++ flat_map (λ k. option_to_list (option_map (λ c. c.0) (command_in h k))) ks) (one_command (command_in h k))
    ∙ ap (λ (cs : List Command). map (λ x. x.0) (option_to_list (command_in h k)) ++ cs) (each_command h ks)

same_header : (h : Head) → commands_of h ≡ header_commands h
same_header h = each_command h (range_with_len 0 (count_of h.range))

same_headers : (hs : List Head) → flat_map commands_of hs ≡ flat_map header_commands hs
same_headers [] = refl
same_headers (h ∷ hs) =
    ap (λ (cs : List Command). cs ++ flat_map commands_of hs) (same_header h)
    ∙ ap (λ (cs : List Command). header_commands h ++ cs) (same_headers hs)

same_asked : (r : Result Asked AppFault) → links.asked_commands r ≡ asked_commands r
same_asked (Err fault) = refl
same_asked (Ok asked) = by asked.function
  where
    by : (f : Function) → links.asked_commands (Ok (record { control = asked.control; function = f; headers = asked.headers }))
        ≡ asked_commands (Ok (record { control = asked.control; function = f; headers = asked.headers }))
    by function.Operate = same_headers asked.headers
    by function.DirectOperate = same_headers asked.headers
    by function.DirectOperateNr = same_headers asked.headers
    by _ = refl

pub same_commands : (octets : List ℕ) → commands_asked octets ≡ commands_in octets
unfolding commands_in
same_commands octets = same_asked (request_at octets)

-- ---- what comes down

pub down_confirms : (octets : List ℕ) → function_in octets ≡ function_octet function.Confirm → uns_in octets ≡ false
    → down_of octets ≡ Confirms (seq_in octets)
down_confirms octets e k =
    let confirm : (function_in octets == function_octet function.Confirm) ≡ true = eq-eqb (function_in octets) (function_octet function.Confirm) e in
    rw (confirm, k) refl

pub down_confirms_report : (octets : List ℕ) → function_in octets ≡ function_octet function.Confirm → uns_in octets ≡ true
    → down_of octets ≡ ConfirmsReport (seq_in octets)
down_confirms_report octets e k =
    let confirm : (function_in octets == function_octet function.Confirm) ≡ true = eq-eqb (function_in octets) (function_octet function.Confirm) e in
    rw (confirm, k) refl

pub down_asks : (octets : List ℕ) → (function_in octets ≡ function_octet function.Confirm → ⊥) → down_of octets ≡ Asks octets
down_asks octets other = by (function_in octets == function_octet function.Confirm) refl
  where
    by : (b : Bool) → (function_in octets == function_octet function.Confirm) ≡ b
        → (if b then if uns_in octets then ConfirmsReport (seq_in octets) else Confirms (seq_in octets) else Asks octets) ≡ Asks octets
    by true e = absurd (other (eqb-true (function_in octets) (function_octet function.Confirm) e))
    by false e = refl
