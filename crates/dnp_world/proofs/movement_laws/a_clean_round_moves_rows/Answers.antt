-- The laws that the body calls are what the lemmas ask for, and each link has its own round.
use Rattle.std.proofs.Common.{◌≡◌, true}
use Rattle.dnp_world.specs.Behind.{Elsewhere}
use Rattle.dnp_world.specs.Movement.{RoundMoves, is_repeated_on}
use Rattle.dnp_world.specs.Rounds.{IsRound, is_quiet_on}
use Rattle.dnp_world.specs.Steady.{IsSteadyBeside}
use Rattle.dnp_world.specs.SystemRuns.{Happens}
use Rattle.dnp_world.specs.Systems.{System, itself}
use Rattle.dnp_world.specs.declared.event.Link.{Link}
use Rattle.dnp_world.specs.declared.event.Link.TheVariants.{Below, Above}
use Rattle.dnp_world.proofs.RoundBelow.{LineLaws}
use Rattle.dnp_world.proofs.RepeatedPoll.{ReportLaws}
use Rattle.dnp_world.proofs.RoundExchange.{StationLaws}
use Rattle.dnp_world.proofs.RoundMoves.{LaneLaws, PassedAbove, PassedBelow, polled_above, polled_below, repeated_above, repeated_below}
use Rattle.dnp_world.proofs.movement_laws.a_clean_round_moves_rows.Goals as goal

stations_of : goal.After-each_case_says_what_came → StationLaws
stations_of c = record {
  offered = c.a_quiet_outstation_offers_its_events.ensures.offered;
  confirmed = c.a_quiet_outstation_offers_its_events.ensures.confirmed;
  again = c.a_quiet_outstation_offers_its_events.ensures.again;
  released = c.a_fragment_of_classes_is_said_and_released.ensures.released;
  asks = c.a_master_takes_what_it_polled.ensures.asks;
  takes = c.a_master_takes_what_it_polled.ensures.takes;
  writable = c.what_is_sound_can_be_written.ensures;
}

lines_of : goal.After-each_case_says_what_came → LineLaws
lines_of c = record {
  quiet = c.what_is_sent_arrives.ensures.quiet;
  asked = c.what_is_sent_arrives.ensures.asked;
  down = c.what_is_sent_arrives.ensures.down;
  up = c.what_is_sent_arrives.ensures.up;
}

lanes_of : goal.After-each_case_says_what_came → LaneLaws
lanes_of c = record {
  below = c.rows_in_lanes_are_asked_for.ensures.below;
  queued = c.no_event_is_passed_over.ensures.all;
  above = c.rows_in_lanes_are_asked_for.ensures.above;
}

reports_of : goal.After-each_case_says_what_came → ReportLaws
reports_of c = record {
  again = c.a_quiet_outstation_offers_its_events.ensures.again;
  said = c.a_fragment_of_classes_is_said_and_released.ensures.said;
  released = c.a_fragment_of_classes_is_said_and_released.ensures.released;
  confirmed = c.a_fragment_of_classes_is_said_and_released.ensures.confirmed;
  read = c.a_release_takes_what_the_octets_said.ensures.unsolicited_read;
  releases = c.a_confirm_releases_what_its_fragment_reported.ensures.unsolicited;
  only = c.commands_are_performed_as_they_are_asked.ensures.only;
}

moves : goal.After-each_case_says_what_came → (on : Link) (old new : System) {el : Elsewhere} → IsSteadyBeside el old → is_quiet_on old on ≡ true
    → IsRound Happens itself on old new → RoundMoves on old new
moves c (Below substation) old new steady quiet round = record {
  polled = polled_below (stations_of c) (lines_of c) (lanes_of c) substation old new steady quiet round;
  repeated = λ again. (passed again).moves;
  busy = λ again. (passed again).busy;
}
  where
    passed : is_repeated_on old (Below substation) ≡ true → PassedBelow substation old new
    passed = repeated_below (stations_of c) (lines_of c) (lanes_of c) substation old new steady quiet round (reports_of c) c.each_case_says_what_came.ensures
moves c (Above centre) old new steady quiet round = record {
  polled = polled_above (stations_of c) (lines_of c) (lanes_of c) centre old new steady quiet round;
  repeated = λ again. (passed again).moves;
  busy = λ again. (passed again).busy;
}
  where
    passed : is_repeated_on old (Above centre) ≡ true → PassedAbove old new
    passed = repeated_above (stations_of c) (lines_of c) (lanes_of c) centre old new steady quiet round (reports_of c) c.each_case_says_what_came.ensures

pub returns : goal.returns
returns c = moves c
