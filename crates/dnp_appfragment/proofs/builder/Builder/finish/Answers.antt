use Rattle.dnp_appfragment.proofs.Finished.{request_finished, response_finished}
use Rattle.dnp_appfragment.proofs.builder.Builder.finish.Goals as goal

pub returns-clause-request : goal.returns-clause-request
returns-clause-request c = λ request.
    (request_finished c.args.self c.self.inside.function c.self.inside.octets.items c.self.inside.ended c.self.inside.run c.args.control
    c.write_front.new.octets.items c.self.view_is c.self.invariant.0 c.write_front.ensures.control c.write_front.ensures.request request).0

pub returns-clause-response : goal.returns-clause-response
returns-clause-response c = λ response.
    (response_finished c.args.self c.self.inside.function c.self.inside.octets.items c.self.inside.ended c.self.inside.run c.args.control c.args.iin
    c.write_front.new.octets.items c.self.view_is c.self.invariant.0 c.write_front.ensures.control c.write_front.ensures.response response).0

pub returns-clause-request_octets : goal.returns-clause-request_octets
returns-clause-request_octets c = λ request.
    (request_finished c.args.self c.self.inside.function c.self.inside.octets.items c.self.inside.ended c.self.inside.run c.args.control
    c.write_front.new.octets.items c.self.view_is c.self.invariant.0 c.write_front.ensures.control c.write_front.ensures.request request).1

pub returns-clause-response_octets : goal.returns-clause-response_octets
returns-clause-response_octets c = λ response.
    (response_finished c.args.self c.self.inside.function c.self.inside.octets.items c.self.inside.ended c.self.inside.run c.args.control c.args.iin
    c.write_front.new.octets.items c.self.view_is c.self.invariant.0 c.write_front.ensures.control c.write_front.ensures.response response).1
