-- One member after the other.
use Rattle.std.proofs.Common.{ℕ, List, [], ◌∷◌, codes}
use Rattle.dnp_trace.specs.ReportJsons.{Named, plain, text}
use Rattle.dnp_trace.proofs.Members.{member_more, member_last}
use Rattle.dnp_trace.proofs.json.put_block.Goals as goal

pub returns : goal.returns
returns c =
    let from_off_ms : List Named = plain (codes "off_ms") ∷ [] in
    let from_on_ms : List Named = plain (codes "on_ms") ∷ from_off_ms in
    let from_count : List Named = plain (codes "count") ∷ from_on_ms in
    let from_code : List Named = plain (codes "code") ∷ from_count in
    let from_index : List Named = plain (codes "index") ∷ from_code in
    member_more (text (codes "command")) from_index c.args.words.now c.in_ok-from_index.from_index.now
    c.args.sheet.now c.put_next.new.sheet c.put_next-6.new.sheet c.in_ok-from_index.ensures.written
    c.in_ok-from_index.ensures.rest
    (member_more (plain (codes "index")) from_code c.in_ok-from_index.from_index.now c.in_ok-from_code.from_code.now
    c.put_next.new.sheet c.put_next-2.new.sheet c.put_next-6.new.sheet c.in_ok-from_code.ensures.written
    c.in_ok-from_code.ensures.rest
    (member_more (plain (codes "code")) from_count c.in_ok-from_code.from_code.now c.in_ok-from_count.from_count.now
    c.put_next-2.new.sheet c.put_next-3.new.sheet c.put_next-6.new.sheet c.in_ok-from_count.ensures.written
    c.in_ok-from_count.ensures.rest
    (member_more (plain (codes "count")) from_on_ms c.in_ok-from_count.from_count.now c.in_ok-from_on.from_on.now
    c.put_next-3.new.sheet c.put_next-4.new.sheet c.put_next-6.new.sheet c.in_ok-from_on.ensures.written
    c.in_ok-from_on.ensures.rest
    (member_more (plain (codes "on_ms")) from_off_ms c.in_ok-from_on.from_on.now c.in_ok-from_off.from_off.now
    c.put_next-4.new.sheet c.put_next-5.new.sheet c.put_next-6.new.sheet c.in_ok-from_off.ensures.written
    c.in_ok-from_off.ensures.rest
    (member_last (plain (codes "off_ms")) c.in_ok-from_off.from_off.now c.put_next-5.new.sheet c.put_next-6.new.sheet
    c.in_ok-put_next.ensures.written)))))
