-- The steps of a concentrator's outstation towards a centre come out in one way.
use Rattle.std.proofs.Common.{sym, ap, ◌∙◌}
use Rattle.dnp_concentrator.specs.BookOutputs.{all_added}
use Rattle.dnp_outstation.specs.Calls.{connection_after, opened_of, performed_in}
use Rattle.dnp_outstation.specs.State.{State}
use Rattle.dnp_streams.specs.streams.Concentrators.{above_opens, above_receives, panel_at}
use Rattle.dnp_streams.specs.streams.OneWay.{OpensOneWay, ReceivesOneWay}
use Rattle.dnp_streams.proofs.streams.OutstationsOneWay.{same_step}

pub above_opens_one_way : OpensOneWay above_opens
above_opens_one_way old new other now a b first second =
    let (answers, states) =
    same_step (opened_of old.whole now) new.whole other.whole first.does second.does a b first.step second.step first.answered second.answered in
    (answers, first.after ∙ ap (λ (w : State). record old { whole = w }) states ∙ sym second.after)

pub above_receives_one_way : ReceivesOneWay above_receives
above_receives_one_way old new other now octets a b first second =
    let (answers, states) =
    same_step (connection_after old.whole (panel_at old now) now octets) new.whole other.whole first.does second.does a b first.step second.step
    first.answered second.answered in (
      answers,
      first.after
          ∙ ap (λ (w : State). record old {
            whole = w;
            controls = all_added old.indices old.controls (performed_in old.whole.core (panel_at old now) now octets);
          }) states
          ∙ sym second.after,
    )
