use Rattle.std.proofs.Common.{◌≡◌, ◌<◌, ℕ, Option, Some, None, ap, sym, ◌∙◌, arith}
use Rattle.std.specs.Option.{option_map}
use Rattle.dnp_appfragment.specs.Headers.{count_of}
use Rattle.dnp_appfragment.specs.Seen.{head}
use Rattle.dnp_objects.specs.declared.command.Command.{Command}
use Rattle.dnp_outstation.specs.Controls.{command_at}
use Rattle.dnp_concentrator.proofs.Naming.{first_here, first_later}
use Rattle.dnp_concentrator.proofs.reserving.first_of.Goals as goal

pub returns-in-Some : goal.returns-in-Some
returns-in-Some c =
    let h = head c.args.header.now in
    let less : c.loop-k.k < count_of h.range = omega (arith, c.loop-k.invariant.end, c.loop-k-test.true) in
    let is : command_at h c.loop-k.k ≡ Some c.in-Some.command =
    ap (λ (o : Option (Command × ℕ)). option_map (λ x. x.0) o) (sym c.in-Some.ensures.value) in
    sym (first_here h c.loop-k.k (count_of h.range) c.in-Some.command less is) ∙ c.loop-k.invariant.first

pub loop-k-preserved : goal.loop-k-preserved
loop-k-preserved c =
    let h = head c.args.header.now in
    let less : c.loop-k.k < count_of h.range = omega (arith, c.loop-k.invariant.end, c.loop-k-test.true) in
    let is : command_at h c.loop-k.k ≡ None =
    ap (λ (o : Option (Command × ℕ)). option_map (λ x. x.0) o) (sym c.command.ensures.value ∙ c.in_default.is) in
    record {
      end = c.loop-k.invariant.end;
      first = first_later h c.loop-k.k (count_of h.range) less is ∙ c.loop-k.invariant.first;
    }
