use Rattle.std.proofs.Common.{ℕ, sym, ◌∙◌, ap}
use Rattle.std.specs.Prelude.{◌==◌}
use Rattle.dnp_concentrator.specs.BookOutputs.{map_in, book_in, reserved_in, added_for}
use Rattle.dnp_concentrator.proofs.Added.{one_command, listed_added, listed_same}
use Rattle.dnp_concentrator.proofs.book_outputs.BookOutputsOutputs.operate.Goals as goal
use Rattle.dnp_concentrator.proofs.book_outputs.BookOutputsOutputs.operate.Goals.{then-eq+in_ok-add, else-eq}

pub returns-clause-listed : goal.returns-clause-listed
returns-clause-listed g c = λ well.
    let test = ap (λ (n : ℕ). n == 0) (sym c.status_of-status.ensures) ∙ sym c.eq.ensures in
    let one = one_command c.args.commands.now _ c.in-len1.len_at_least c.in-len1.len_below in
    elim c.if-eq.branch [
      | then-eq+in_ok-add w ↦
          let added = w.in_ok-add.ensures.added (rw w.self-is at well)
          ∙ ap (added_for (g.B.Book.contents (book_in c.args.self.now))) c.command_below-below.ensures.value in
          rw (w.self-is, w.add.ensures.map)
          (listed_added (map_in c.args.self.now) (reserved_in c.args.self.now) (g.B.Book.contents (book_in c.args.self.now))
          (g.B.Book.contents (book_in w.add.new.self)) c.args.commands.now _ one (test ∙ w.if-eq.true) added)
      | else-eq w ↦
          rw w.self-is
          (listed_same (map_in c.args.self.now) (reserved_in c.args.self.now) (g.B.Book.contents (book_in c.args.self.now)) c.args.commands.now _ one
          (test ∙ w.if-eq.false))
    ]
