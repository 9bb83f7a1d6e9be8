use Rattle.dnp_trace.proofs.Members.{item_put}
use Rattle.dnp_trace.proofs.json.put_item.Goals as goal

pub returns : goal.returns
returns c =
    item_put c.args.words.now c.first_word.result.0.now c.first_word.result.1.now c.args.sheet.now c.word.new.self
    c.put_member.new.sheet c.put_words.new.sheet c.word-2.new.self c.first_word.ensures.word c.first_word.ensures.more
    c.in_ok-word.ensures c.in_ok-put_member.ensures c.in_ok-put_words.ensures c.in_ok-word-2.ensures
