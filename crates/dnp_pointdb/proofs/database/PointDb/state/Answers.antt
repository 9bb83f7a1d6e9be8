use Rattle.std.proofs.Common.{List, Option, ◌∙◌, sym, ap, subst}
use Rattle.std.specs.Prelude.{IfSome}
use Rattle.dnp_pointdb.specs.declared.state.PointState.{PointState}
use Rattle.dnp_pointdb.specs.declared.state.BlockState.{BlockState}
use Rattle.dnp_pointdb.specs.Database.{state_in}
use Rattle.dnp_pointdb.specs.Sound.{IsSoundPoint}
use Rattle.dnp_pointdb.proofs.Sound.{point_is_sound}
use Rattle.dnp_pointdb.proofs.database.PointDb.state.Goals as goal

pub returns-clause-sound_point : goal.returns-clause-sound_point
returns-clause-sound_point c =
    subst (λ (o : Option PointState). IfSome o (IsSoundPoint c.args.kind))
    (sym (c.state.ensures ∙ ap (λ (bs : List BlockState). state_in bs c.args.index) c.bank.ensures.value))
    (point_is_sound c.args.self.now c.args.kind c.args.index c.bank.ensures.sound)
