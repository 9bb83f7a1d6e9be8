-- Definition: a centre as a stream sees it.
use Rattle.std.specs.Prelude.{◌≡◌, ℕ, List, Ok}
use Rattle.dnp_controls.specs.Book.{Ledger}
use Rattle.dnp_eventbuf.specs.Archive.{Archive, passes_limit, with_events}
use Rattle.dnp_master.specs.Calls.{Taking, receive_of}
use Rattle.dnp_concentrator.specs.Centre.{book_of, journal_of, link_of}
use Rattle.dnp_concentrator.specs.Relaying.{Relaying, hung_up, opened, received}
use Rattle.dnp_concentrator.specs.declared.centre.Centre.{Centre}
use Rattle.dnp_streams.specs.streams.Stations.{Answer, Opening, Receiving}
use Rattle.dnp_streams.specs.streams.Masters.{RefusesRows, nothing_answered, answer_taking}

-- its link, what its journal holds, and what its book of controls does
pub record CentreSeen : Type 0 where
  pub link : Relaying
  pub archive : Archive
  pub controls : Ledger

abbrev pub centre_seen : {J B : Type 0} → (J → Archive) → (B → Ledger) → Centre J B → CentreSeen
centre_seen archive ledger c = record { link = link_of c; archive = archive (journal_of c); controls = ledger (book_of c) }

-- an opening
pub record OpensCentre (old : CentreSeen) (now : ℕ) (answer : Answer) (new : CentreSeen) : Type 0 where
  pub answered : answer ≡ nothing_answered
  pub after : new ≡ record old { link = opened old.link }

-- a fragment that came: its events are kept in the journal
pub record CentreReceives (old : CentreSeen) (now : ℕ) (octets : List ℕ) (answer : Answer) (new : CentreSeen) : Type 0 where
  pub taking : Taking
  pub taken : receive_of old.link.master now octets ≡ Ok taking
  pub answered : answer ≡ answer_taking taking
  pub after : new ≡ record old { link = received old.link taking; archive = with_events old.archive taking.events }

-- an opening is never refused
abbrev pub centre_opens : Opening CentreSeen
centre_opens = record { answers = OpensCentre; refuses = λ old now fault. ⊥ }

-- a fragment is, by the master or by the journal
abbrev pub centre_receives : Receiving CentreSeen
centre_receives = record {
  answers = CentreReceives;
  refuses = λ old now octets fault. RefusesRows (receive_of old.link.master now octets) (λ t. passes_limit old.archive t.events) fault;
}

-- a hang-up
abbrev pub centre_hung_up : CentreSeen → CentreSeen
centre_hung_up s = record s { link = hung_up s.link }
