use Rattle.dnp_tcp.proofs.asking.Call.ask_on.Goals as goal

pub returns-clause-asks : goal.returns-clause-asks
returns-clause-asks g c honest = (c.ask_seen-seen.result.idle, c.ask_seen-seen.ensures.leads honest, c.tell-ended.ensures)
