-- The laws that the body calls are what the lemmas ask for.
use Rattle.dnp_outstation.proofs.PolledAnswer.{OfferLaws, comes_again, offers_rows, quiet_parts}
use Rattle.dnp_outstation.proofs.PolledConfirm.{ConfirmLaws, releases_rows}
use Rattle.dnp_outstation.proofs.poll_laws.a_quiet_outstation_offers_its_events.Goals as goal

offer_laws_of : goal.After-commands_are_performed_as_they_are_asked → OfferLaws
offer_laws_of c = record {
  is_control = c.octets_say_their_control_and_function.ensures.control;
  is_request = c.what_is_spelled_is_said.ensures.request;
  is_answer = c.a_release_takes_what_the_octets_said.ensures.read;
}

confirm_laws_of : goal.After-commands_are_performed_as_they_are_asked → ConfirmLaws
confirm_laws_of c = record {
  is_control = c.octets_say_their_control_and_function.ensures.control;
  releases = c.a_confirm_releases_what_its_fragment_reported.ensures.solicited;
  only = c.commands_are_performed_as_they_are_asked.ensures.only;
}

pub returns-clause-offered : goal.returns-clause-offered
returns-clause-offered c = λ s o now seq sound writable quiet low other.
    offers_rows (offer_laws_of c) s o now seq low sound writable (quiet_parts s.core quiet) other

pub returns-clause-confirmed : goal.returns-clause-confirmed
returns-clause-confirmed c = releases_rows (confirm_laws_of c)

pub returns-clause-again : goal.returns-clause-again
returns-clause-again c = comes_again c.octets_say_their_control_and_function.ensures.control
