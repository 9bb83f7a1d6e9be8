use Rattle.std.proofs.Common.{◌≡◌, [], false, Ok, Err, Result}
use Rattle.std.specs.Prelude.{IfErr, is_ok}
use Rattle.sqlite.specs.Held.{state}
use Rattle.sqlite.specs.Order.{Row}
use Rattle.sqlite.specs.State.{State, IsNotRun}
use Rattle.sqlite.specs.declared.error.Error.{Error}
use Rattle.dnp_store.specs.Faults.{RefusesNothing}
use Rattle.dnp_store.proofs.fault.serves.Goals as goal

refuses : {A : Type 0} (old new : State) (r : Result A Error) → IfErr r (λ e. (params : Row) → IsNotRun old new [] params e) → is_ok r ≡ false
    → RefusesNothing old new
refuses old new (Ok _) h none = absurd cc
refuses old new (Err e) h none = (e, h)

pub returns-clause-refused : goal.returns-clause-refused
returns-clause-refused g c clean none =
    refuses (state g.S.Store c.args.conn.now) (state g.S.Store c.probe.new.conn) c.probe.result (c.probe.ensures.refused clean) cc
