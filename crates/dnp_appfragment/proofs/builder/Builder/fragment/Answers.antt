use Rattle.std.proofs.Common.{◌∙◌, refl, sym, ap}
use Rattle.dnp_appfragment.specs.Built.{context_of}
use Rattle.dnp_appfragment.proofs.Finished.{request_finished, response_finished, front_written}
use Rattle.dnp_appfragment.proofs.builder.Builder.fragment.Goals as goal

pub invariant_of-self : goal.invariant_of-self
invariant_of-self c =
    let both =
    front_written c.self.inside.function c.self.inside.octets.items c.write_front.new.octets.items c.self.inside.ended c.self.inside.run c.args.control
    c.args.iin c.self.invariant.0 c.write_front.ensures.request c.write_front.ensures.response in
    (both.0, c.self.invariant.1 ∙ sym (ap context_of both.1))

pub returns : goal.returns
returns c = (
  (
    refl,
    λ _. tt,
    (front_written c.self.inside.function c.self.inside.octets.items c.write_front.new.octets.items c.self.inside.ended c.self.inside.run c.args.control
        c.args.iin c.self.invariant.0 c.write_front.ensures.request c.write_front.ensures.response).1 ∙ c.self.view_is,
  ),
  record {
    stays = tt;
    request = λ request.
        (request_finished c.args.self.now c.self.inside.function c.self.inside.octets.items c.self.inside.ended c.self.inside.run c.args.control
        c.deref.result.now c.self.view_is c.self.invariant.0 c.write_front.ensures.control
        (λ no. c.deref.ensures.0 ∙ c.write_front.ensures.request no) request).0;
    request_octets = λ request.
        (request_finished c.args.self.now c.self.inside.function c.self.inside.octets.items c.self.inside.ended c.self.inside.run c.args.control
        c.deref.result.now c.self.view_is c.self.invariant.0 c.write_front.ensures.control
        (λ no. c.deref.ensures.0 ∙ c.write_front.ensures.request no) request).1;
    response = λ response.
        (response_finished c.args.self.now c.self.inside.function c.self.inside.octets.items c.self.inside.ended c.self.inside.run c.args.control c.args.iin
        c.deref.result.now c.self.view_is c.self.invariant.0 c.write_front.ensures.control
        (λ yes. c.deref.ensures.0 ∙ c.write_front.ensures.response yes) response).0;
    response_octets = λ response.
        (response_finished c.args.self.now c.self.inside.function c.self.inside.octets.items c.self.inside.ended c.self.inside.run c.args.control c.args.iin
        c.deref.result.now c.self.view_is c.self.invariant.0 c.write_front.ensures.control
        (λ yes. c.deref.ensures.0 ∙ c.write_front.ensures.response yes) response).1;
  },
)
