-- A unit that a line gives comes to the receiver's port, whether the line keeps it or not.
use Rattle.std.proofs.Common.{◌≡◌, List, ℕ, refl, sym, ap, ◌∙◌, subst, Some, None}
use Rattle.std.specs.Prelude.{Option}
use Rattle.dnp_line.specs.Lines.{LineState, HeldLine, front_of}
use Rattle.dnp_line.specs.Ports.{PortState}
use Rattle.dnp_line.specs.Ways.{Way, HearsUnit, HearsIfAny, Brings}

-- a call of a line that leaves it as `after` says, and gives this unit or none
pub record IsGiven (after : LineState → LineState) (old new : HeldLine) (unit : Option (List ℕ)) : Type 0 where
  pub line : new ≡ record old { state = after old.state }
  pub front : unit ≡ front_of old.state

-- the port hears the unit
pub brings : (after : LineState → LineState) (old new : HeldLine) (unit : List ℕ) (way : Way) (receiver : PortState) (given : List (List ℕ))
    → IsGiven after old new (Some unit) → way.line ≡ old.state → HearsUnit unit way.receiver receiver way.given given
    → Brings (after way.line) way (record way { line = new.state; receiver = receiver; given = given })
brings after old new unit way receiver given g e h =
    let front : Some unit ≡ front_of way.line = g.front ∙ ap (λ (l : LineState). front_of l) (sym e) in
    let line_is : new.state ≡ after way.line = ap (λ (l : HeldLine). l.state) g.line ∙ ap after (sym e) in
    record {
      receiver = receiver;
      given = given;
      heard = subst (λ (o : Option (List ℕ)). HearsIfAny o way.receiver receiver way.given given) front h;
      after = ap (λ (l : LineState). record way { line = l; receiver = receiver; given = given }) line_is;
    }

-- no unit came
pub brings_none : (after : LineState → LineState) (old new : HeldLine) (way : Way) (receiver : PortState) → IsGiven after old new None
    → way.line ≡ old.state → way.receiver ≡ receiver
    → Brings (after way.line) way (record way { line = new.state; receiver = receiver; given = way.given })
brings_none after old new way receiver g e f =
    let front : None ≡ front_of way.line = g.front ∙ ap (λ (l : LineState). front_of l) (sym e) in
    let line_is : new.state ≡ after way.line = ap (λ (l : HeldLine). l.state) g.line ∙ ap after (sym e) in
    record {
      receiver = receiver;
      given = way.given;
      heard = subst (λ (o : Option (List ℕ)). HearsIfAny o way.receiver receiver way.given way.given) front (sym f, refl);
      after = ap (λ (l : LineState). record way { line = l; receiver = receiver }) line_is;
    }
