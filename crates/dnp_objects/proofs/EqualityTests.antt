-- The tests of equality of rows, commands and pairs decide it.
use Rattle.std.proofs.Common.{◌≡◌, Bool, eqb, refl, ap, Option, Some, None}
use Rattle.std.specs.Bool.{Decides}
use Rattle.std.specs.Option.{option_eq}
use Rattle.std.proofs.lemmas.Bool.Decides.{Decides-and, Decides-like, Decides-eqb, Decides-int_eq}
use Rattle.dnp_objects.specs.Counts.{IsEqualityTest}
use Rattle.dnp_objects.specs.Equality.{kind_eq, row_eq, command_eq, pair_eq}
use Rattle.dnp_objects.specs.declared.row.Kind.{Kind}
use Rattle.dnp_objects.specs.declared.row.Kind.TheVariants.{Binary, Counter, Analog}
use Rattle.dnp_objects.specs.declared.row.Row.{Row}
use Rattle.dnp_objects.specs.declared.command.Command.{Command}
use Rattle.dnp_objects.specs.declared.command.Command.TheVariants.{Block, Set16, Set32}

pub Decides-kind_eq : (a b : Kind) → Decides (kind_eq a b) (a ≡ b)
Decides-kind_eq Binary Binary = (λ _. refl, λ _. refl)
Decides-kind_eq Counter Counter = (λ _. refl, λ _. refl)
Decides-kind_eq Analog Analog = (λ _. refl, λ _. refl)
Decides-kind_eq _ _ = (λ h. cc, λ h. cc)

Decides-option_eq : {A : Type 0} (equal : A → A → Bool) → ((x y : A) → Decides (equal x y) (x ≡ y)) → (s t : Option A) → Decides (option_eq equal s t) (s ≡ t)
Decides-option_eq equal e None None = (λ _. refl, λ _. refl)
Decides-option_eq equal e None (Some y) = (λ h. cc, λ h. cc)
Decides-option_eq equal e (Some x) None = (λ h. cc, λ h. cc)
Decides-option_eq equal e (Some x) (Some y) = (λ h. ap Some ((e x y).0 h), λ h. (e x y).1 (cc))

pub IsEqualityTest-row_eq : IsEqualityTest row_eq
IsEqualityTest-row_eq =
    record {
      decides = λ a b.
          Decides-like (row_eq a b)
          (λ h. λ i. record { kind = h.0 i; index = h.1.0 i; flags = h.1.1.0 i; value = h.1.1.1.0 i; time = h.1.1.1.1 i })
          (λ h. (ap (λ (r : Row). r.kind) h, (ap (λ (r : Row). r.index) h, (ap (λ (r : Row). r.flags) h, (ap (λ (r : Row). r.value) h, ap (λ (r : Row). r.time) h)))))
          (Decides-and _ _ (Decides-kind_eq a.kind b.kind)
          (Decides-and _ _ (Decides-eqb a.index b.index)
          (Decides-and _ _ (Decides-eqb a.flags b.flags)
          (Decides-and _ _ (Decides-int_eq a.value b.value) (Decides-option_eq eqb Decides-eqb a.time b.time)))));
    }

Decides-command_eq : (a b : Command) → Decides (command_eq a b) (a ≡ b)
Decides-command_eq (Block index code number on off) (Block index' code' number' on' off') =
    Decides-like (command_eq (Block index code number on off) (Block index' code' number' on' off'))
    (λ h. cc)
    (λ h. (cc, (cc, (cc, (cc, cc)))))
    (Decides-and _ _ (Decides-eqb index index')
    (Decides-and _ _ (Decides-eqb code code')
    (Decides-and _ _ (Decides-eqb number number') (Decides-and _ _ (Decides-eqb on on') (Decides-eqb off off')))))
Decides-command_eq (Set16 index value) (Set16 index' value') =
    Decides-like (command_eq (Set16 index value) (Set16 index' value'))
    (λ h. cc)
    (λ h. (cc, cc))
    (Decides-and _ _ (Decides-eqb index index') (Decides-int_eq value value'))
Decides-command_eq (Set32 index value) (Set32 index' value') =
    Decides-like (command_eq (Set32 index value) (Set32 index' value'))
    (λ h. cc)
    (λ h. (cc, cc))
    (Decides-and _ _ (Decides-eqb index index') (Decides-int_eq value value'))
Decides-command_eq _ _ = (λ h. cc, λ h. cc)

pub IsEqualityTest-command_eq : IsEqualityTest command_eq
IsEqualityTest-command_eq = record { decides = Decides-command_eq }

pub IsEqualityTest-pair_eq : {A B : Type 0} (first : A → A → Bool) (second : B → B → Bool) → IsEqualityTest first → IsEqualityTest second → IsEqualityTest (pair_eq first second)
IsEqualityTest-pair_eq {A} {B} first second e f =
    record {
      decides = λ p q.
          Decides-like (pair_eq first second p q)
          (λ h. λ i. (h.0 i, h.1 i))
          (λ h. (ap (λ (r : A × B). r.0) h, ap (λ (r : A × B). r.1) h))
          (Decides-and _ _ (e.decides p.0 q.0) (f.decides p.1 q.1));
    }
