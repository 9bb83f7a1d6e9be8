use Rattle.std.proofs.Common.{[]}
use Rattle.dnp_transport.proofs.Exits.{idle_stands, nothing_pushed}
use Rattle.dnp_transport.proofs.Pushes.{open_by, whole_by}
use Rattle.dnp_transport.proofs.laws.a_push_goes_on.Goals as goal

pub returns : goal.returns
returns c =
    record {
      opens = λ before series segment. open_by before series segment;
      completes = whole_by;
      none_open = nothing_pushed.no_series;
      idle = idle_stands [] nothing_pushed;
    }
