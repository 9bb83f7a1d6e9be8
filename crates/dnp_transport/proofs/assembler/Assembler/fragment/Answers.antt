use Rattle.std.proofs.Common.{◌≡◌, ℕ, List, ap, ◌∙◌, sym, subst, arith}
use Rattle.dnp_transport.specs.Assembly.{Assembly, Complete, ArePushed, Shows}
use Rattle.dnp_transport.specs.steps.Stages.{assembly}
use Rattle.dnp_transport.specs.declared.assembler.Stage.{Stage}
use Rattle.dnp_transport.proofs.Exits.{shows_complete, unfinished_shows_none}
use Rattle.dnp_transport.proofs.assembler.Assembler.fragment.Goals as goal

pub returns-in-Complete-clause-shown : goal.returns-in-Complete-clause-shown
returns-in-Complete-clause-shown c =
    λ pushed h.
    let is : Complete c.self.inside.octets.items ≡ c.args.self.now =
    ap (λ (s : Stage). assembly s c.self.inside.last.items c.self.inside.octets.items) (sym c.in-Complete.is) ∙ c.self.view_is in
    subst (λ (octets : List ℕ). Shows pushed octets) (sym c.as_slice.ensures.value)
    (shows_complete pushed c.self.inside.octets.items (subst (λ (a : Assembly). ArePushed pushed a) (sym is) h))

pub returns-in-Idle : goal.returns-in-Idle
returns-in-Idle c =
    record {
      shown = λ pushed h.
          unfinished_shows_none c.self.inside.stage c.self.inside.last.items c.self.inside.octets.items c.args.self.now pushed
          c.self.view_is c.in-Idle.is h;
      fits = omega arith;
    }
