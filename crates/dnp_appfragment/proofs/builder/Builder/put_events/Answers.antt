use Rattle.std.proofs.Common.{◌≡◌, ◌∙◌, sym, ap, List}
use Rattle.dnp_appfragment.specs.Built.{context_of, objects_put, with_objects}
use Rattle.dnp_appfragment.specs.Headers.{Head}
use Rattle.dnp_appfragment.proofs.EventLists.{all_fit, event_object_is, events_are, events_stand}
use Rattle.dnp_appfragment.proofs.builder.Builder.put_events.Goals as goal

pub put_list-requires-clause-can : goal.put_list-requires-clause-can
put_list-requires-clause-can g c = (event_object_is c.args.kind c.args.has_time g.row.GROUP g.row.VARIATION c.requires.object).sized

pub put_list-requires-clause-fits : goal.put_list-requires-clause-fits
put_list-requires-clause-fits g c =
    all_fit c.args.kind c.args.has_time g.row.GROUP g.row.VARIATION (g.R.RowSource.rows c.args.rows) c.requires.object c.requires.fits c.requires.same

pub put_list-requires-clause-stands : goal.put_list-requires-clause-stands
put_list-requires-clause-stands g c = λ n few low.
    events_stand c.a_written_row_fills_its_object.ensures c.args.self.now.function (context_of c.args.self.now) g.row.GROUP g.row.VARIATION n
    (g.R.RowSource.rows c.args.rows) c.requires.response (event_object_is c.args.kind c.args.has_time g.row.GROUP g.row.VARIATION c.requires.object)
    (all_fit c.args.kind c.args.has_time g.row.GROUP g.row.VARIATION (g.R.RowSource.rows c.args.rows) c.requires.object c.requires.fits c.requires.same)
    few low

pub put_list-requires-clause-sized : goal.put_list-requires-clause-sized
put_list-requires-clause-sized g c = (event_object_is c.args.kind c.args.has_time g.row.GROUP g.row.VARIATION c.requires.object).sized

pub put_list-requires-clause-other : goal.put_list-requires-clause-other
put_list-requires-clause-other g c = (event_object_is c.args.kind c.args.has_time g.row.GROUP g.row.VARIATION c.requires.object).other

pub returns-clause-count : goal.returns-clause-count
returns-clause-count g c =
    c.put_list.ensures.count
    ∙ ap (objects_put c.args.self.now)
    (sym (events_are c.args.kind c.args.has_time g.row.GROUP g.row.VARIATION (g.R.RowSource.rows c.args.rows) c.requires.object c.requires.same))

pub returns-clause-put : goal.returns-clause-put
returns-clause-put g c =
    c.put_list.ensures.put
    ∙ ap (with_objects c.args.self.now)
    (sym (events_are c.args.kind c.args.has_time g.row.GROUP g.row.VARIATION (g.R.RowSource.rows c.args.rows) c.requires.object c.requires.same))
