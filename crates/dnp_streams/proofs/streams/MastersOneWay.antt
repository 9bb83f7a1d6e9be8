-- The steps of a centre, and of a concentrator's link to a substation, come out in one way.
use Rattle.std.proofs.Common.{◌≡◌, Ok, sym, ap, ◌∙◌, arith}
use Rattle.std.specs.Prelude.{Result}
use Rattle.dnp_eventbuf.specs.Archive.{with_events}
use Rattle.dnp_eventbuf.specs.EventBuffer.{EventBuffer, with_rows}
use Rattle.dnp_master.specs.Calls.{Taking, receive_of}
use Rattle.dnp_master.specs.declared.fault.MasterFault.{MasterFault}
use Rattle.dnp_concentrator.specs.Below.{link_in}
use Rattle.dnp_concentrator.specs.Mapped.{queued_rows}
use Rattle.dnp_concentrator.specs.Relaying.{Relaying, received}
use Rattle.dnp_streams.specs.streams.Centres.{centre_opens, centre_receives}
use Rattle.dnp_streams.specs.streams.Concentrators.{BelowSeen, below_opens, below_receives, both, with_link, with_readings}
use Rattle.dnp_streams.specs.streams.Concentrators.BelowReceives.{Taken, Missing}
use Rattle.dnp_streams.specs.streams.Masters.{answer_taking}
use Rattle.dnp_streams.specs.streams.OneWay.{OpensOneWay, ReceivesOneWay}

-- what is found is one taking
one_taking : (found : Result Taking MasterFault) (t u : Taking) → found ≡ Ok t → found ≡ Ok u → t ≡ u
one_taking found t u first second = cc

pub centre_opens_one_way : OpensOneWay centre_opens
centre_opens_one_way old new other now a b first second = (first.answered ∙ sym second.answered, first.after ∙ sym second.after)

pub centre_receives_one_way : ReceivesOneWay centre_receives
centre_receives_one_way old new other now octets a b first second =
    let same = one_taking (receive_of old.link.master now octets) first.taking second.taking first.taken second.taken in (
      first.answered ∙ ap answer_taking same ∙ sym second.answered,
      first.after
          ∙ ap (λ (t : Taking). record old { link = received old.link t; archive = with_events old.archive t.events }) same
          ∙ sym second.after,
    )

pub below_opens_one_way : OpensOneWay below_opens
below_opens_one_way old new other now a b first second = (first.answered ∙ sym second.answered, first.after ∙ sym second.after)

-- what a taking makes of the link
abbrev taken_below : BelowSeen → Taking → BelowSeen
taken_below old t = record old {
  links = with_link old (λ (link : Relaying). received link t);
  cores = both (with_readings old t) old.cores;
  queues = both (λ (queue : EventBuffer). with_rows queue (queued_rows old.indices old.points old.substation t.events)) old.queues;
}

pub below_receives_one_way : ReceivesOneWay below_receives
below_receives_one_way old new other now octets a b (Taken there t taken is became) (Taken there' u taken' is' became') =
    let same = one_taking (receive_of (link_in old.links old.substation).master now octets) t u taken taken' in
    (is ∙ ap answer_taking same ∙ sym is', became ∙ ap (taken_below old) same ∙ sym became')
below_receives_one_way old new other now octets a b (Taken there t taken is became) (Missing gone is' became') = absurd (omega (arith, there, gone))
below_receives_one_way old new other now octets a b (Missing gone is became) (Taken there u taken is' became') = absurd (omega (arith, there, gone))
below_receives_one_way old new other now octets a b (Missing gone is became) (Missing gone' is' became') = (is ∙ sym is', became ∙ sym became')
