use Rattle.std.proofs.Common.{◌≡◌, ◌∙◌, ap, sym, ℕ, ◌+◌, ◌≤◌, length, arith}
use Rattle.dnp_objects.specs.declared.limits.TheConstants.{MAX_FRAGMENT}
use Rattle.dnp_appfragment.specs.Headers.{Context, context_after, header_octets}
use Rattle.dnp_appfragment.specs.Built.{context_of, size}
use Rattle.dnp_appfragment.specs.Seen.{head}
use Rattle.dnp_appfragment.proofs.Commons.{common_full}
use Rattle.dnp_appfragment.proofs.Contexts.{context_broken, context_header}
use Rattle.dnp_appfragment.proofs.Laid.{header_laid}
use Rattle.dnp_appfragment.proofs.builder.Builder.header.Goals as goal

pub invariant_of-self : goal.invariant_of-self
invariant_of-self c =
    let room : size c.args.self.now + length (header_octets (head c.args.header.now)) ≤ MAX_FRAGMENT =
    omega (arith, c.left.ensures, c.header_size-size.ensures, c.if-left-size.false) in
    let laid =
    header_laid c.args.self.now c.self.inside.function c.self.inside.octets.items c.push_header.new.octets.items c.self.inside.ended
    (c.self.inside.ended + c.header_size-size.result) c.self.inside.run (head c.args.header.now) (c.self.view_is ∙ c.break_run.ensures) c.self.invariant.0
    c.requires c.push_header.ensures (ap (λ (n : ℕ). c.self.inside.ended + n) c.header_size-size.ensures) room in
    let before : c.self.inside.common ≡ context_of c.args.self.now =
    c.self.invariant.1 ∙ ap context_of (c.self.view_is ∙ c.break_run.ensures) ∙ context_broken c.args.self.now in (
      laid.0,
      c.common_after-self-inside.ensures ∙ ap (λ (o : Context). context_after o (head c.args.header.now)) before
          ∙ sym (ap context_of laid.1 ∙ context_header c.args.self.now (head c.args.header.now)),
    )

pub returns-clause-ok : goal.returns-clause-ok
returns-clause-ok c =
    let room : size c.args.self.now + length (header_octets (head c.args.header.now)) ≤ MAX_FRAGMENT =
    omega (arith, c.left.ensures, c.header_size-size.ensures, c.if-left-size.false) in
    (header_laid c.args.self.now c.self.inside.function c.self.inside.octets.items c.push_header.new.octets.items c.self.inside.ended
    (c.self.inside.ended + c.header_size-size.result) c.self.inside.run (head c.args.header.now) (c.self.view_is ∙ c.break_run.ensures) c.self.invariant.0
    c.requires c.push_header.ensures (ap (λ (n : ℕ). c.self.inside.ended + n) c.header_size-size.ensures) room).1

pub common_after-self-inside-requires : goal.common_after-self-inside-requires
common_after-self-inside-requires c = record { there = common_full _ (head c.args.header.now) c.requires.header }
