use Rattle.std.proofs.Common.{◌≡◌, Bool, true, false, if◌then◌else◌, ℕ, ◌<◌, ◌==◌, nat_lt, List, [], ◌∷◌, length, refl, sym, ap, ◌∙◌, arith}
use Rattle.std.specs.List.{list_all}
use Rattle.std.proofs.lemmas.Bool.{ltb-true}
use Rattle.dnp_objects.specs.Status as status
use Rattle.dnp_objects.specs.declared.command.Command.{Command}
use Rattle.dnp_controls.specs.Panel.{Panel}
use Rattle.dnp_outstation.specs.Controls.{alike}
use Rattle.dnp_outstation.specs.declared.controls.told.Statuses.TheVariants.{Alike, Checked}
use Rattle.dnp_outstation.proofs.controls.decision.stands.Goals as goal

-- few commands each have their check
checks : (b : Bool) (o : Panel) (all few : List Command) → Checked ≡ (if b then Alike status.too_many_objs else Checked) → few ≡ (if b then [] else all)
    → list_all (λ c. o.check c == status.success) few ≡ list_all (λ c. (if b then alike status.too_many_objs else o.check) c == status.success) all
checks true o all few told is = cc
checks false o all few told is = ap (λ (cs : List Command). list_all (λ c. o.check c == status.success) cs) is

-- too many are one at least, which isn't answered SUCCESS
too_many : (b : Bool) (most code : ℕ) (o : Panel) (all : List Command) → nat_lt most (length all) ≡ b
    → Alike code ≡ (if b then Alike status.too_many_objs else Checked)
    → false ≡ list_all (λ c. (if b then alike status.too_many_objs else o.check) c == status.success) all
too_many true most code o [] is told = let less : most < 0 = ltb-true most 0 is in absurd (omega (arith, less))
too_many true most code o (c ∷ cs) is told = refl
too_many false most code o all is told = cc

pub returns-in-Checked : goal.returns-in-Checked
returns-in-Checked g c = λ all told few.
    let o = g.O.Outputs.panel c.args.outputs.now in
    c.are_accepted.ensures ∙ checks (nat_lt o.most (length all)) o all c.args.commands.now (sym c.in-Checked.is ∙ told) few

pub returns-in-Alike : goal.returns-in-Alike
returns-in-Alike g c = λ all told few.
    let o = g.O.Outputs.panel c.args.outputs.now in
    too_many (nat_lt o.most (length all)) o.most _ o all refl (sym c.in-Alike.is ∙ told)
