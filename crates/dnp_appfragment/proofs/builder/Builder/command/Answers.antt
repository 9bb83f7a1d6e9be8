use Rattle.std.proofs.Common.{refl}
use Rattle.dnp_appfragment.specs.Built.{context_of}
use Rattle.dnp_appfragment.specs.Table.{form_of}
use Rattle.dnp_appfragment.proofs.ObjectHeaders.{command_put}
use Rattle.dnp_appfragment.proofs.Places.{any_place, command_whole, command_other}
use Rattle.dnp_appfragment.proofs.builder.Builder.command.Goals as goal

pub put-requires-clause-fits : goal.put-requires-clause-fits
put-requires-clause-fits c = λ _.
    any_place (form_of c.args.self.now.function) (context_of c.args.self.now) _
    (command_put c.args.self.now.function c.args.command.now c.args.status c.object-group.result c.index.result c.write_command-octets.result.items
    c.deref.result.now c.object-group.ensures c.index.ensures c.write_command-octets.ensures c.deref.ensures.0 c.requires.carries).0
    refl (command_whole c.args.command.now c.object-group.result c.object-group.ensures)

pub put-requires-clause-sized : goal.put-requires-clause-sized
put-requires-clause-sized c =
    (command_put c.args.self.now.function c.args.command.now c.args.status c.object-group.result c.index.result c.write_command-octets.result.items
    c.deref.result.now c.object-group.ensures c.index.ensures c.write_command-octets.ensures c.deref.ensures.0 c.requires.carries).1

pub put-requires-clause-other : goal.put-requires-clause-other
put-requires-clause-other c = command_other c.args.command.now c.object-group.result c.object-group.ensures
