use Rattle.std.proofs.Common.{◌≡◌, ◌≤◌, ◌∷◌, [], sym, subst, rules}
use Rattle.dnp_appfragment.specs.Built.{Built, heads, size, with_object}
use Rattle.dnp_appfragment.specs.Written.{order}
use Rattle.dnp_master.proofs.RequestHeaders.{one_command}
use Rattle.dnp_master.proofs.requesting.put_command.Goals as goal

pub unwrap-requires : goal.unwrap-requires
unwrap-requires c =
    let small : size (with_object c.args.builder.now (order c.args.command.now 0)) ≤ 1024 =
    subst (λ (b : Built). size (with_object b (order c.args.command.now 0)) ≤ 1024) (sym c.requires.empty)
    (one_command c.args.builder.now.function c.args.command.now).0 in
    search rules

pub returns-clause-heads : goal.returns-clause-heads
returns-clause-heads c =
    let one : heads (with_object c.args.builder.now (order c.args.command.now 0)) ≡ order c.args.command.now 0 ∷ [] =
    subst (λ (b : Built). heads (with_object b (order c.args.command.now 0)) ≡ order c.args.command.now 0 ∷ [])
    (sym c.requires.empty)
    (one_command c.args.builder.now.function c.args.command.now).1 in
    search rules
