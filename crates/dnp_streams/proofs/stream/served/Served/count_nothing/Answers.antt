use Rattle.dnp_streams.specs.streams.Exchanges.{no_output}
use Rattle.dnp_streams.proofs.stream.served.Served.count_nothing.Goals as goal

pub returns : goal.returns
returns c = c.add.ensures no_output c.of.ensures
