-- What the calls of the line and the port did is what `Brings` says.
use Rattle.std.proofs.Common.{List, ℕ, [], ◌∷◌, ◌++◌, sym, subst}
use Rattle.std.specs.Prelude.{if◌then◌else◌}
use Rattle.dnp_line.specs.Lines.{LineState, delivered_on}
use Rattle.dnp_line.specs.Ports.{PortState}
use Rattle.dnp_line.specs.Ways.{HearsUnit}
use Rattle.dnp_line.proofs.Bringing.{brings, brings_none}
use Rattle.dnp_line.proofs.way.deliver.Goals as goal

pub returns-in-Some-clause-happens : goal.returns-in-Some-clause-happens
returns-in-Some-clause-happens c =
    λ way fragment e f shown.
    let unit : List ℕ = c.in-Some.unit.items in
    let given : List (List ℕ) = if c.hear.result then way.given ++ fragment ∷ [] else way.given in
    brings (λ (l : LineState). delivered_on l) c.args.line.now c.deliver.new.self unit way c.hear.new.port given
    (record { line = c.deliver.ensures.line; front = c.in-Some.ensures.unit }) e
    (subst (λ (p : PortState). HearsUnit unit p c.hear.new.port way.given given) (sym f)
    (subst (λ (u : List ℕ). HearsUnit u c.args.receiver.now c.hear.new.port way.given given) c.as_slice.ensures.value
    (c.hear.ensures way.given fragment shown)))

pub returns-in-None-clause-happens : goal.returns-in-None-clause-happens
returns-in-None-clause-happens c =
    λ way fragment e f shown.
    brings_none (λ (l : LineState). delivered_on l) c.args.line.now c.deliver.new.self way c.args.receiver.now
    (record { line = c.deliver.ensures.line; front = c.in-None.ensures.unit }) e f
