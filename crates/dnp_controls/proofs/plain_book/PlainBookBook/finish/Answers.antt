use Rattle.std.proofs.Common.{◌≡◌, List, length, arith, refl, sym, subst}
use Rattle.dnp_controls.specs.declared.book.Entry.{Entry}
use Rattle.dnp_controls.specs.steps.Places.{IsKept}
use Rattle.dnp_controls.proofs.Numbered.{refilled}
use Rattle.dnp_controls.proofs.Moving.{granted_call, sound_numbered}
use Rattle.dnp_controls.proofs.plain_book.PlainBookBook.finish.Goals as goal

pub invariant_of-self : goal.invariant_of-self
invariant_of-self c =
    let P : List Entry → Type 0 = λ es. IsKept es c.self.inside.first in
    let same : length c.set_state.new.entries ≡ length c.self.inside.entries.items = omega arith in
    subst P (sym (refilled c.set_state.new.entries c.self.inside.entries.items c.self.inside.entries.len (omega arith) same))
    (c.set_state.ensures.kept c.self.inside.first refl (subst P (sym c.deref_mut.ensures.value) c.self.invariant))

pub returns-in-Some-Pending-clause-call : goal.returns-in-Some-Pending-clause-call
returns-in-Some-Pending-clause-call c = granted_call _ _ _ _ (sound_numbered _ (invariant_of-self c).numbered)
