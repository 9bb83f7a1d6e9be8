use Rattle.dnp_objects.specs.declared.row.Kind.TheVariants as kind
use Rattle.std.proofs.Common.{refl, Some, None}
use Rattle.dnp_appfragment.specs.Built.{context_of}
use Rattle.dnp_appfragment.specs.Table.{form_of}
use Rattle.dnp_appfragment.proofs.Places.{any_place}
use Rattle.dnp_appfragment.proofs.ObjectHeaders.{event_put}
use Rattle.dnp_appfragment.proofs.builder.Builder.event.Goals as goal

pub put-requires-clause-fits : goal.put-requires-clause-fits
put-requires-clause-fits c = λ _.
    any_place (form_of c.args.self.now.function) (context_of c.args.self.now) _
    (event_put c.a_written_row_fills_its_object.ensures c.args.self.now.function c.args.row.now kind.Binary (Some c.in-Binary-Some.field-0-1)
    c.in-Binary-Some.is-0 c.in-Binary-Some.is-1 c.requires.response c.requires.fits) refl refl

pub put-requires-in-Binary-None-clause-fits : goal.put-requires-in-Binary-None-clause-fits
put-requires-in-Binary-None-clause-fits c = λ _.
    any_place (form_of c.args.self.now.function) (context_of c.args.self.now) _
    (event_put c.a_written_row_fills_its_object.ensures c.args.self.now.function c.args.row.now kind.Binary None
    c.in-Binary-None.is-0 c.in-Binary-None.is-1 c.requires.response c.requires.fits) refl refl

pub put-requires-in-Counter-Some-clause-fits : goal.put-requires-in-Counter-Some-clause-fits
put-requires-in-Counter-Some-clause-fits c = λ _.
    any_place (form_of c.args.self.now.function) (context_of c.args.self.now) _
    (event_put c.a_written_row_fills_its_object.ensures c.args.self.now.function c.args.row.now kind.Counter (Some c.in-Counter-Some.field-0-1)
    c.in-Counter-Some.is-0 c.in-Counter-Some.is-1 c.requires.response c.requires.fits) refl refl

pub put-requires-in-Counter-None-clause-fits : goal.put-requires-in-Counter-None-clause-fits
put-requires-in-Counter-None-clause-fits c = λ _.
    any_place (form_of c.args.self.now.function) (context_of c.args.self.now) _
    (event_put c.a_written_row_fills_its_object.ensures c.args.self.now.function c.args.row.now kind.Counter None
    c.in-Counter-None.is-0 c.in-Counter-None.is-1 c.requires.response c.requires.fits) refl refl

pub put-requires-in-Analog-Some-clause-fits : goal.put-requires-in-Analog-Some-clause-fits
put-requires-in-Analog-Some-clause-fits c = λ _.
    any_place (form_of c.args.self.now.function) (context_of c.args.self.now) _
    (event_put c.a_written_row_fills_its_object.ensures c.args.self.now.function c.args.row.now kind.Analog (Some c.in-Analog-Some.field-0-1)
    c.in-Analog-Some.is-0 c.in-Analog-Some.is-1 c.requires.response c.requires.fits) refl refl

pub put-requires-in-Analog-None-clause-fits : goal.put-requires-in-Analog-None-clause-fits
put-requires-in-Analog-None-clause-fits c = λ _.
    any_place (form_of c.args.self.now.function) (context_of c.args.self.now) _
    (event_put c.a_written_row_fills_its_object.ensures c.args.self.now.function c.args.row.now kind.Analog None
    c.in-Analog-None.is-0 c.in-Analog-None.is-1 c.requires.response c.requires.fits) refl refl
