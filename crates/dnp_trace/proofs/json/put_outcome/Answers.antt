use Rattle.dnp_trace.proofs.Members.{outcome_put}
use Rattle.dnp_trace.proofs.json.put_outcome.Goals as goal

pub returns : goal.returns
returns c =
    outcome_put c.args.words.now c.first_word.result.0.now c.first_word.result.1.now c.first_word-2.result.0.now
    c.first_word-2.result.1.now c.in_ok-refused.refused.now c.args.sheet.now c.word.new.self c.put_member.new.sheet
    c.put_next.new.sheet c.put_reason.new.sheet c.word-2.new.self c.first_word.ensures.word c.first_word.ensures.more
    c.first_word-2.ensures.word c.first_word-2.ensures.more c.in_ok-refused.ensures.rest c.in_ok-word.ensures
    c.in_ok-put_member.ensures c.in_ok-refused.ensures.written c.in_ok-put_reason.ensures c.in_ok-word-2.ensures
