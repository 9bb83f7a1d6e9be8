use Rattle.dnp_outstation.specs.Station.{sent_of}
use Rattle.dnp_streams.proofs.NewPort.{HasTaken, has_taken, heeded, on_err, reply_alone, reply_and_answer, replied}
use Rattle.dnp_streams.proofs.station.respond.Goals as goal

pub returns-then-not-taken-clause-sent : goal.returns-then-not-taken-clause-sent
returns-then-not-taken-clause-sent c =
    let h : HasTaken c.args.own c.args.peer c.args.frame.now c.take-taken.new.self c.take-taken.result =
    has_taken c.args.own c.args.peer c.new-port.result c.take-taken.new.self c.args.frame.now c.take-taken.result c.new-port.ensures.port c.new-port.ensures.answers c.new-port.ensures.stands c.take-taken.ensures.takes in
    reply_alone c.args.own c.args.peer c.args.frame.now c.take-taken.new.self c.take-taken.result c.new-lines.result.items c.push_reply.new.text.items h
    c.if-not-taken.true c.new-lines.ensures.items c.in_ok-push_reply.ensures.appended

pub returns-clause-sent : goal.returns-clause-sent
returns-clause-sent c =
    let h : HasTaken c.args.own c.args.peer c.args.frame.now c.take-taken.new.self c.take-taken.result =
    has_taken c.args.own c.args.peer c.new-port.result c.take-taken.new.self c.args.frame.now c.take-taken.result c.new-port.ensures.port c.new-port.ensures.answers c.new-port.ensures.stands c.take-taken.ensures.takes in
    reply_and_answer c.args.own c.args.peer c.args.frame.now c.take-taken.new.self c.take-taken.result c.fragment.result.now c.new-lines.result.items
    c.push_reply.new.text.items c.push_fragments.new.text.items (sent_of c.in_ok-actions.actions.send) h
    c.if-not-taken.false c.fragment.ensures.shown c.new-lines.ensures.items c.in_ok-push_reply.ensures.appended c.in_ok-actions.ensures
    c.in_ok-push_fragments.ensures.lines

pub returns-in_err-push_reply-clause-memory : goal.returns-in_err-push_reply-clause-memory
returns-in_err-push_reply-clause-memory c =
    let h : HasTaken c.args.own c.args.peer c.args.frame.now c.take-taken.new.self c.take-taken.result =
    has_taken c.args.own c.args.peer c.new-port.result c.take-taken.new.self c.args.frame.now c.take-taken.result c.new-port.ensures.port c.new-port.ensures.answers c.new-port.ensures.stands c.take-taken.ensures.takes in
    on_err c.from_residual.result
    (replied c.args.own c.args.peer c.args.frame.now c.take-taken.new.self c.take-taken.result h c.in_err-push_reply.ensures.memory)

pub returns-in_err-actions-clause-memory : goal.returns-in_err-actions-clause-memory
returns-in_err-actions-clause-memory c =
    let h : HasTaken c.args.own c.args.peer c.args.frame.now c.take-taken.new.self c.take-taken.result =
    has_taken c.args.own c.args.peer c.new-port.result c.take-taken.new.self c.args.frame.now c.take-taken.result c.new-port.ensures.port c.new-port.ensures.answers c.new-port.ensures.stands c.take-taken.ensures.takes in
    on_err c.from_residual-in_err-actions.result
    (heeded c.args.own c.args.peer c.args.frame.now c.take-taken.new.self c.take-taken.result c.fragment.result.now h c.if-not-taken.false
    c.fragment.ensures.shown)

pub returns-in_err-push_fragments-clause-memory : goal.returns-in_err-push_fragments-clause-memory
returns-in_err-push_fragments-clause-memory c =
    let h : HasTaken c.args.own c.args.peer c.args.frame.now c.take-taken.new.self c.take-taken.result =
    has_taken c.args.own c.args.peer c.new-port.result c.take-taken.new.self c.args.frame.now c.take-taken.result c.new-port.ensures.port c.new-port.ensures.answers c.new-port.ensures.stands c.take-taken.ensures.takes in
    on_err c.from_residual-in_err-push_fragments.result
    (heeded c.args.own c.args.peer c.args.frame.now c.take-taken.new.self c.take-taken.result c.fragment.result.now h c.if-not-taken.false
    c.fragment.ensures.shown)
