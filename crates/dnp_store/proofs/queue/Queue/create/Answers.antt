use Rattle.std.proofs.Common.{rules, ◌≡◌, Err, refl, arith, ap, sym, subst}
use Rattle.sqlite.specs.Held.{state}
use Rattle.dnp_store.specs.PairTables.{Sides}
use Rattle.dnp_store.specs.QueueKept.{QueueStands}
use Rattle.dnp_store.proofs.Beginning.{inside_not, inside_wrong}
use Rattle.dnp_store.proofs.queue.Queue.create.Goals as goal

pub invariant_of-result : goal.invariant_of-result
invariant_of-result g c = record {
  idle = c.in-Ok.ensures.is.begins.idle;
  first = search rules;
  second = search rules;
  stands = λ serves own clean.
      subst (QueueStands (state g.S.Store c.make_lanes.new.conn)) (sym c.in-Ok.ensures.empty)
      (c.in-Ok.ensures.is.made clean (c.in-Ok.ensures.is.alone.0 own)).0;
}

pub returns-in-Ok-clause-inside : goal.returns-in-Ok-clause-inside
returns-in-Ok-clause-inside g c inside = inside_not g.S.Store _ c.args.conn c.make_lanes.new.conn _ c.in-Ok.ensures.is.begins inside

pub returns-in-Err-clause-inside : goal.returns-in-Err-clause-inside
returns-in-Err-clause-inside g c inside = inside_wrong g.S.Store _ c.args.conn c.make_lanes.new.conn c.in-Err.fault c.in-Err.ensures.is.begins inside

pub returns-in-Ok-clause-held : goal.returns-in-Ok-clause-held
returns-in-Ok-clause-held g c clean = omega (arith, clean, c.in-Ok.ensures.is.begins.survives.clean)

pub returns-in-Err-clause-same : goal.returns-in-Err-clause-same
returns-in-Err-clause-same g c = c.in-Err.ensures.is.begins.same

pub returns-in-Err-clause-handed_back : goal.returns-in-Err-clause-handed_back
returns-in-Err-clause-handed_back g c = (c.in-Err.ensures.is.begins.kept, c.in-Err.ensures.is.begins.survives.limit)

pub returns-in-Ok-clause-owned : goal.returns-in-Ok-clause-owned
returns-in-Ok-clause-owned g c = c.in-Ok.ensures.is.alone

pub returns-in-Err-clause-device : goal.returns-in-Err-clause-device
returns-in-Err-clause-device g c clean told = c.in-Err.ensures.is.device clean (ap Err told)

pub returns-in-Err-clause-taken : goal.returns-in-Err-clause-taken
returns-in-Err-clause-taken g c clean told = c.in-Err.ensures.is.taken clean (ap Err told)

pub returns-in-Ok-clause-empty : goal.returns-in-Ok-clause-empty
returns-in-Ok-clause-empty g c = (c.in-Ok.ensures.empty, refl)

pub returns-in-Ok-clause-stands : goal.returns-in-Ok-clause-stands
returns-in-Ok-clause-stands g c clean own =
    subst (QueueStands (state g.S.Store c.make_lanes.new.conn)) (sym c.in-Ok.ensures.empty) (c.in-Ok.ensures.is.made clean (c.in-Ok.ensures.is.alone.0 own)).0

pub returns-in-Ok-clause-schema : goal.returns-in-Ok-clause-schema
returns-in-Ok-clause-schema g c clean own = (c.in-Ok.ensures.is.made clean (c.in-Ok.ensures.is.alone.0 own)).1

pub returns-in-Ok-clause-made : goal.returns-in-Ok-clause-made
returns-in-Ok-clause-made g c = c.in-Ok.ensures.is.begins.survives

pub returns-in-Err-clause-left : goal.returns-in-Err-clause-left
returns-in-Err-clause-left g c = c.in-Err.ensures.is.begins.survives

pub returns-in-Ok-clause-added : goal.returns-in-Ok-clause-added
returns-in-Ok-clause-added g c = c.in-Ok.ensures.is.added
