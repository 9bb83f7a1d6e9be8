use Rattle.std.proofs.Common.{◌≡◌, ◌++◌, ◌∙◌, ap, rules, arith}
use Rattle.dnp_eventbuf.specs.Archive.{Archive, with_events}
use Rattle.dnp_eventbuf.proofs.Archives.{placed_sound, placed_with}
use Rattle.dnp_eventbuf.proofs.plain_journal.PlainJournalSink.append.Goals as goal

pub invariant_of-self-2 : goal.invariant_of-self-2
invariant_of-self-2 c =
    let all : c.extend_from_slice.new.self.items ≡ c.self.inside.rows.items ++ c.args.events.now = search rules in
    placed_sound c.self.inside.rows.items c.args.events.now c.extend_from_slice.new.self.items all (omega arith) c.self.invariant

pub returns-clause-taken : goal.returns-clause-taken
returns-clause-taken c = λ _.
    let all : c.extend_from_slice.new.self.items ≡ c.self.inside.rows.items ++ c.args.events.now = search rules in (
      placed_with c.self.inside.rows.items c.args.events.now c.extend_from_slice.new.self.items all
          ∙ ap (λ (a : Archive). with_events a c.args.events.now) c.self.view_is,
      c.new.ensures.items,
    )
