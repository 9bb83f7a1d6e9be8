use Rattle.dnp_appfragment.specs.Seen.{head}
use Rattle.dnp_outstation.specs.Forms.{leaves_open}
use Rattle.dnp_outstation.specs.Items.{each_static, in_range, part_of, statics_of}
use Rattle.dnp_outstation.specs.steps.Filling.{reached}
use Rattle.dnp_outstation.proofs.OfferParts.{statics_put}
use Rattle.dnp_outstation.proofs.offer.writer.Writer.put_part.Goals as goal

pub returns-in-EachGroup-clause-written : goal.returns-in-EachGroup-clause-written
returns-in-EachGroup-clause-written g c = λ honest s points panel lanes.
    let h = head c.args.header.now in
    let w = c.args.self.now in
    statics_put s c.args.from.now.stood (reached w) c.args.at c.args.count (leaves_open h) (part_of s h) (each_static s) w c.put_each_group.new.self
    c.put_each_group.result (c.in-EachGroup.ensures.part s) (c.put_each_group.ensures.written s points panel)

pub returns-in-OneGroup-clause-written : goal.returns-in-OneGroup-clause-written
returns-in-OneGroup-clause-written g c = λ honest s points panel lanes.
    let h = head c.args.header.now in
    let w = c.args.self.now in
    let asked = c.in-OneGroup in
    statics_put s c.args.from.now.stood (reached w) c.args.at c.args.count (leaves_open h) (part_of s h)
    (in_range asked.range (statics_of s asked.variation asked.group)) w c.put_one_group.new.self
    c.put_one_group.result (asked.ensures.part s) (c.put_one_group.ensures.written s points panel)
