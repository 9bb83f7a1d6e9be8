-- Every move keeps what stands, and so does every list of moves.
use Rattle.std.proofs.Common.{◌≡◌, false, List, sym, subst}
use Rattle.dnp_objects.specs.declared.command.Command.{Command}
use Rattle.dnp_objects.specs.Counts.{IsCoveredBy}
use Rattle.dnp_world.specs.LawLink.{LawLink}
use Rattle.dnp_world.specs.Moves.{Append, Ask, CloseMaster, CloseOutstation, Confirm, ConfirmReport, Continue, Done, Drop, LoseDown, LoseUp, Move, Moves, Open, Receive, Repeat, RepeatReport, Respond, StartReport, StopWaiting, Take, TakeReport, Then, appended, asking, confirmed, continued, dropped, lost_down, lost_up, opened, received, repeated, report_confirmed, report_repeated, report_sent, report_taken, responded, stopped_waiting, taken, with_master, with_outstation}
use Rattle.dnp_world.specs.Standing.{IsFresh, CarriesLaw}
use Rattle.dnp_world.proofs.Counting.{covered_nil}
use Rattle.dnp_world.proofs.Connections.{appended_stands, asking_stands, closed_master_stands, closed_outstation_stands, dropped_stands, lost_down_stands, lost_up_stands, opened_stands, report_taken_stands, taken_stands}
use Rattle.dnp_world.proofs.Answering.{confirmed_stands, continued_stands, received_stands, repeated_stands, report_confirmed_stands, report_repeated_stands, report_sent_stands, responded_stands, stopped_waiting_stands}
use Rattle.dnp_world.proofs.EventLaw

-- ---- every move

moved : (old new after_it : LawLink) → new ≡ after_it → CarriesLaw after_it → CarriesLaw new
moved old new after_it e s = subst (λ (l : LawLink). CarriesLaw l) (sym e) s

pub move_stands : (old new : LawLink) → Move old new → CarriesLaw old → CarriesLaw new
move_stands old new (Append x newer e) s = moved old new (appended x old) e (appended_stands old x newer s)
move_stands old new (Drop stay gone parts e) s = moved old new (dropped stay gone old) e (dropped_stands old stay gone parts s)
move_stands old new (Open e) s = moved old new (opened old) e (opened_stands old s)
move_stands old new (CloseMaster m closed e) s = moved old new (with_master m old) e (closed_master_stands old m closed s)
move_stands old new (CloseOutstation o closed e) s = moved old new (with_outstation o old) e (closed_outstation_stands old o closed s)
move_stands old new (LoseDown n e) s = moved old new (lost_down n old) e (lost_down_stands old n s)
move_stands old new (LoseUp n e) s = moved old new (lost_up n old) e (lost_up_stands old n s)
move_stands old new (Ask q opens idle number e) s = moved old new (asking q old) e (asking_stands old q opens idle number s)
move_stands old new (Take f rest up_is opens busy number e) s = moved old new (taken f old) e (taken_stands old f rest up_is opens busy number s)
move_stands old new (TakeReport f rest up_is e) s = moved old new (report_taken f old) e (report_taken_stands old f rest up_is s)
move_stands old new (Receive q rest commands down_is opens other few e) s = moved old new (received q commands old) e
    (received_stands old q rest commands down_is opens other few s)
move_stands old new (Respond q f was_more more awaited last_is number offered ended waits e) s =
    moved old new (responded q f more awaited old) e (responded_stands old q f was_more more awaited last_is number offered ended waits s)
move_stands old new (Repeat q octets upto more awaited last_is waits e) s =
    moved old new (repeated awaited old) e (repeated_stands old q octets upto more awaited last_is waits s)
move_stands old new (Confirm w rest down_is opens waits e) s = moved old new (confirmed w old) e (confirmed_stands old w rest down_is opens waits s)
move_stands old new (Continue a rest f more awaited down_is last_is more_left number offered ended waits e) s =
    moved old new (continued a.request f more awaited old) e
    (continued_stands old a rest f more awaited down_is last_is more_left number offered ended waits s)
move_stands old new (ConfirmReport w rest down_is opens waits e) s = moved old new (report_confirmed w old) e
    (report_confirmed_stands old w rest down_is opens waits s)
move_stands old new (StopWaiting e) s = moved old new (stopped_waiting old) e (stopped_waiting_stands old s)
move_stands old new (StartReport f none number offered e) s = moved old new (report_sent f old) e (report_sent_stands old f none number offered s)
move_stands old new (RepeatReport w waits e) s = moved old new (report_repeated old) e (report_repeated_stands old w waits s)

pub moves_stand : (old new : LawLink) → Moves old new → CarriesLaw old → CarriesLaw new
moves_stand old new Done s = s
moves_stand old new (Then {next = next} ms m) s = move_stands next new m (moves_stand old next ms s)

pub fresh_stands : (l : LawLink) → IsFresh l → CarriesLaw l
fresh_stands l fresh =
    record {
      rows = EventLaw.rows_fresh l fresh;
      commands = record {
        covered = subst (λ (xs : List Command). IsCoveredBy xs l.asked) (sym fresh.performed) (covered_nil l.asked);
        pending = λ opens q e. let closed : l.outstation.is_open ≡ false = fresh.closed in absurd (cc);
      };
      solicited = λ opens. let closed : l.outstation.is_open ≡ false = fresh.closed in absurd (cc);
      agrees = λ opens o. let closed : l.outstation.is_open ≡ false = fresh.closed in absurd (cc);
      unsolicited = λ opens. let closed : l.outstation.is_open ≡ false = fresh.closed in absurd (cc);
    }
