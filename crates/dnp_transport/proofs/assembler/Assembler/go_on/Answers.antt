-- The one exit of `go_on`: the segment begins a series or goes on with the one in progress.
use Rattle.std.proofs.Common.{ℕ, inl, inr, List, ◌∷◌, sym, ap, ◌∙◌, subst}
use Rattle.dnp_transport.specs.Assembly.{ArePushed}
use Rattle.dnp_transport.specs.steps.Stages.{assembly, stage_after}
use Rattle.dnp_transport.specs.declared.assembler.Stage.{Stage}
use Rattle.dnp_transport.specs.declared.assembler.Assembler.TheInside.{Inside}
use Rattle.dnp_transport.proofs.Exits.{GoesOnWith, IsAfter, went_on}
use Rattle.dnp_transport.proofs.assembler.Assembler.go_on.Goals as goal
use Rattle.dnp_transport.proofs.assembler.Assembler.go_on.Goals.{then-is_first, else-is_first}

pub invariant_of-self : goal.invariant_of-self
invariant_of-self c =
    let s : List ℕ = c.args.segment.now in
    let onto : GoesOnWith s c.self.inside.octets.items c.if-is_first.self-inside.octets.items =
    elim c.if-is_first.branch [
      | then-is_first w ↦
          inl (sym c.is_first.ensures ∙ w.if-is_first.true, ap (λ (i : Inside). i.octets.items) w.self-inside-is ∙ w.clear.ensures)
      | else-is_first w ↦
          inr (sym c.is_first.ensures ∙ w.if-is_first.false, ap (λ (i : Inside). i.octets.items) w.self-inside-is)
    ] in
    let pushed : List (List ℕ) = c.self.invariant.0 in
    let after : IsAfter pushed s (assembly (stage_after c.join-pushed.result) c.refill.new.items.items c.join-pushed.new.octets.items)
    c.join-pushed.result =
    went_on c.self.inside.stage c.self.inside.last.items c.self.inside.octets.items c.args.self.now s
    c.if-is_first.self-inside.octets.items c.join-pushed.new.octets.items c.refill.new.items.items
    c.join-pushed.result c.self.view_is c.requires.sized c.requires.goes_on onto c.join-pushed.ensures
    c.refill.ensures pushed (subst (λ a. ArePushed pushed a) c.self.view_is c.self.invariant.1) in (
      s ∷ pushed,
      subst (λ (u : Stage). ArePushed (s ∷ pushed) (assembly u c.refill.new.items.items c.join-pushed.new.octets.items))
          (sym c.after-self-inside.ensures) after.stands,
    )

pub returns : goal.returns
returns c =
    let s : List ℕ = c.args.segment.now in
    let onto : GoesOnWith s c.self.inside.octets.items c.if-is_first.self-inside.octets.items =
    elim c.if-is_first.branch [
      | then-is_first w ↦
          inl (sym c.is_first.ensures ∙ w.if-is_first.true, ap (λ (i : Inside). i.octets.items) w.self-inside-is ∙ w.clear.ensures)
      | else-is_first w ↦
          inr (sym c.is_first.ensures ∙ w.if-is_first.false, ap (λ (i : Inside). i.octets.items) w.self-inside-is)
    ] in
    let after : (before : List (List ℕ)) → ArePushed before c.args.self.now
    → IsAfter before s (assembly (stage_after c.join-pushed.result) c.refill.new.items.items c.join-pushed.new.octets.items) c.join-pushed.result =
    went_on c.self.inside.stage c.self.inside.last.items c.self.inside.octets.items c.args.self.now s
    c.if-is_first.self-inside.octets.items c.join-pushed.new.octets.items c.refill.new.items.items
    c.join-pushed.result c.self.view_is c.requires.sized c.requires.goes_on onto c.join-pushed.ensures
    c.refill.ensures in
    record {
      stands = λ before h.
          subst (λ (u : Stage). ArePushed (s ∷ before) (assembly u c.refill.new.items.items c.join-pushed.new.octets.items)) (sym c.after-self-inside.ensures)
          (after before h).stands;
      answers = λ before h. (after before h).answers;
    }
