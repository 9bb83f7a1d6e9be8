use Rattle.std.proofs.Common.{◌≡◌, ◌+◌, ◌++◌, ◌∷◌, [], List, rules, arith, refl, sym, subst}
use Rattle.dnp_controls.specs.declared.book.Entry.{Entry}
use Rattle.dnp_controls.specs.declared.book.State.TheVariants.{Pending}
use Rattle.dnp_controls.specs.steps.Places.{IsKept}
use Rattle.dnp_controls.proofs.Numbered.{IsKept-push}
use Rattle.dnp_controls.proofs.Moving.{granted_call, sound_numbered}
use Rattle.dnp_controls.proofs.plain_book.PlainBookBook.add.Goals as goal

pub invariant_of-self-2 : goal.invariant_of-self-2
invariant_of-self-2 c =
    let entry : Entry = record { id = c.len-count.result + 1; target = c.args.target; command = c.args.command.now; state = Pending } in
    let pushed : c.push.new.self.items ≡ c.self.inside.entries.items ++ entry ∷ [] = search rules in
    let P : List Entry → Type 0 = λ es. IsKept es c.self.inside.first in
    subst P (sym pushed) (IsKept-push c.self.inside.entries.items c.self.inside.first entry (omega arith) c.self.invariant)

pub returns-clause-call : goal.returns-clause-call
returns-clause-call c = granted_call _ _ _ _ (sound_numbered _ (invariant_of-self-2 c).numbered)
