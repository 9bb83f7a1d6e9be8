use Rattle.std.proofs.Common.{◌≡◌, ◌<◌, ℕ, Option, Some, None, [], ◌∷◌, ap, sym, ◌∙◌, arith, length-append}
use Rattle.std.specs.Option.{option_map}
use Rattle.dnp_appfragment.specs.Headers.{count_of}
use Rattle.dnp_appfragment.specs.Seen.{head}
use Rattle.dnp_objects.specs.declared.command.Command.{Command}
use Rattle.dnp_outstation.specs.Controls.{command_at}
use Rattle.dnp_outstation.proofs.ControlCommands.{one_put, none_put, more_than}
use Rattle.dnp_outstation.proofs.controls.commands.Commands.append.Goals as goal
use Rattle.dnp_outstation.proofs.controls.commands.Commands.append.Goals.{in-Some+else-len-most, in_default}

pub returns-then-len-most-clause-many : goal.returns-then-len-most-clause-many
returns-then-len-most-clause-many c = λ _.
    let h = head c.args.header.now in
    let is : command_at h c.loop-k.k ≡ Some c.in-Some.command = ap (λ (o : Option (Command × ℕ)). option_map (λ x. x.0) o) (sym c.in-Some.ensures.value) in
    let less : c.loop-k.k < count_of h.range = omega (arith, c.loop-k.invariant.end, c.loop-k-test.true) in
    let longer = more_than h c.loop-k.k (count_of h.range) c.loop-k.self _ c.in-Some.command less is c.loop-k.invariant.all in
    omega (arith, longer, c.len.ensures, c.if-len-most.true)

pub loop-k-preserved : goal.loop-k-preserved
loop-k-preserved c =
    let h = head c.args.header.now in
    let less : c.loop-k.k < count_of h.range = omega (arith, c.loop-k.invariant.end, c.loop-k-test.true) in
    elim c.match-command.branch [
      | in-Some+else-len-most w ↦
          let is : command_at h c.loop-k.k ≡ Some w.in-Some.command =
          ap (λ (o : Option (Command × ℕ)). option_map (λ x. x.0) o) (sym w.in-Some.ensures.value) in
          let put = one_put h c.loop-k.k (count_of h.range) c.loop-k.self _ w.in-Some.command less is c.loop-k.invariant.all in
          let sum = length-append c.loop-k.self (w.in-Some.command ∷ []) in
          record {
            end = c.loop-k.invariant.end;
            all = rw (w.self-is, w.push.ensures) put;
            few = rw (w.self-is, w.push.ensures) (omega (arith, sum, w.len.ensures, w.if-len-most.false, c.loop-k.invariant.few));
          }
      | in_default w ↦
          let is : command_at h c.loop-k.k ≡ None =
          ap (λ (o : Option (Command × ℕ)). option_map (λ x. x.0) o) (sym c.command.ensures.value ∙ w.in_default.is) in
          record {
            end = c.loop-k.invariant.end;
            all = rw w.self-is (none_put h c.loop-k.k (count_of h.range) c.loop-k.self _ less is c.loop-k.invariant.all);
            few = rw w.self-is c.loop-k.invariant.few;
          }
    ]
