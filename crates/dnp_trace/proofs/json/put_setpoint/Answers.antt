-- One member after the other.
use Rattle.std.proofs.Common.{ℕ, List, [], ◌∷◌, codes}
use Rattle.dnp_trace.specs.ReportJsons.{Named, plain, text}
use Rattle.dnp_trace.proofs.Members.{member_more, member_last}
use Rattle.dnp_trace.proofs.json.put_setpoint.Goals as goal

pub returns : goal.returns
returns c =
    let from_value : List Named = plain (codes "value") ∷ [] in
    let from_index : List Named = plain (codes "index") ∷ from_value in
    member_more (text (codes "command")) from_index c.args.words.now c.in_ok-from_index.from_index.now
    c.args.sheet.now c.put_next.new.sheet c.put_next-3.new.sheet c.in_ok-from_index.ensures.written
    c.in_ok-from_index.ensures.rest
    (member_more (plain (codes "index")) from_value c.in_ok-from_index.from_index.now c.in_ok-from_value.from_value.now
    c.put_next.new.sheet c.put_next-2.new.sheet c.put_next-3.new.sheet c.in_ok-from_value.ensures.written
    c.in_ok-from_value.ensures.rest
    (member_last (plain (codes "value")) c.in_ok-from_value.from_value.now c.put_next-2.new.sheet c.put_next-3.new.sheet
    c.in_ok-put_next.ensures.written))
