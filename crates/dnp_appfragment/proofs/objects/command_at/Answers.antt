use Rattle.std.proofs.Common.{◌∙◌, sym, subst, ap, ℕ, List, Option, IfSome, Result}
use Rattle.std.specs.Result.{result_ok}
use Rattle.dnp_objects.specs.declared.command.Command.{Command}
use Rattle.dnp_objects.specs.declared.fault.ObjectFault.{ObjectFault}
use Rattle.dnp_objects.specs.Commands.{ReadsCommand}
use Rattle.dnp_appfragment.specs.Objects.{IsCommand}
use Rattle.dnp_appfragment.specs.Headers.{head_of}
use Rattle.dnp_appfragment.proofs.Numbers.{are_octets}
use Rattle.dnp_appfragment.proofs.HeaderObjects.{command_cut, same_cut}
use Rattle.dnp_appfragment.proofs.There.{commands_of, not_there}
use Rattle.dnp_appfragment.proofs.ObjectValues.{given_command, no_command, no_command_there}
use Rattle.dnp_appfragment.proofs.objects.command_at.Goals as goal

pub returns-clause-found : goal.returns-clause-found
returns-clause-found c =
    let a = c.args in
    subst (λ (o : Option (Command × ℕ)). IfSome o (IsCommand (head_of a.group a.variation a.range a.octets.now) a.k)) (sym c.ok.ensures.value)
    (command_cut a.group a.variation a.range a.octets.now c.in_ok-size.size a.k c.in_ok-index.index c.in_ok-index.octets.now
    (are_octets a.octets.now (λ i. let fits = c.type_inv.octets i in fits.fits)) (sym (c.in_ok-size.ensures).value)
    (sym c.in_ok-index.ensures.value) c.read_command.result c.read_command.ensures.found)

pub returns-clause-only : goal.returns-clause-only
returns-clause-only c = λ wanted is.
    let a = c.args in
    let same =
    same_cut a.group a.variation a.range a.octets.now c.in_ok-size.size a.k c.in_ok-index.index c.in_ok-index.octets.now
    is.size is.index is.octets (sym (c.in_ok-size.ensures).value) (sym c.in_ok-index.ensures.value) is.size_is is.object in
    let reads : ReadsCommand a.group a.variation c.in_ok-index.index c.in_ok-index.octets.now wanted =
    subst (λ (n : ℕ). ReadsCommand a.group a.variation n c.in_ok-index.octets.now wanted) same.0
    (subst (λ (t : List ℕ). ReadsCommand a.group a.variation is.index t wanted) same.1 is.reads) in
    c.ok.ensures.value ∙ ap (λ (x : Result (Command × ℕ) ObjectFault). result_ok x) (c.read_command.ensures.only wanted reads)

pub returns-in_err-index-clause-there : goal.returns-in_err-index-clause-there
returns-in_err-index-clause-there c = λ has here.
    let a = c.args in
    let commands = commands_of a.group a.variation a.range a.octets.now a.k has here in
    absurd (not_there a.group a.variation a.range a.octets.now a.k c.in_ok-size.size commands.1 (sym (c.in_ok-size.ensures).value) (sym c.in_err-index.ensures.value))

pub returns-clause-value : goal.returns-clause-value
returns-clause-value c =
    let a = c.args in
    let law = c.octets_are_read_as_one_command.ensures in
    given_command law.read law.only (head_of a.group a.variation a.range a.octets.now) a.k c.ok.result
    (are_octets a.octets.now (λ i. let fits = c.type_inv.octets i in fits.fits)) (returns-clause-found c) (returns-clause-only c)

pub returns-in_err-size-clause-value : goal.returns-in_err-size-clause-value
returns-in_err-size-clause-value c =
    let a = c.args in
    c.from_residual.ensures ∙ no_command (head_of a.group a.variation a.range a.octets.now) a.k (sym c.in_err-size.ensures.value)

pub returns-in_err-index-clause-value : goal.returns-in_err-index-clause-value
returns-in_err-index-clause-value c =
    let a = c.args in
    c.from_residual-in_err-index.ensures ∙ no_command_there (head_of a.group a.variation a.range a.octets.now) a.k c.in_ok-size.size (sym (c.in_ok-size.ensures).value)
    (sym c.in_err-index.ensures.value)
