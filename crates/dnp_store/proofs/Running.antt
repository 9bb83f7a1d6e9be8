-- What a statement's answer is to its store.
use Rattle.std.proofs.Common.{◌≡◌, ℕ, ◌+◌, ◌<◌, ◌≤◌, List, [], ◌∷◌, map, drop, length, get_or, IsTrue, Ok, Err, Result, arith, refl, sym, ap, subst, ◌∙◌}
use Rattle.std.proofs.Math.ListN.{drop_of_length-le}
use Rattle.std.proofs.lemmas.List.{drop_more, get_or-map, length-map}
use Rattle.std.specs.Prelude.{IfErr, IsErr, IsErrAnd, OnOk}
use Rattle.std.specs.Borrow.{Bor, MutBor}
use Rattle.sqlite_trees.specs.declared.store.Store.{Ghosts}
use Rattle.sqlite.specs.Held.{Held, state}
use Rattle.sqlite.specs.Order.{Row}
use Rattle.sqlite.specs.State.{State, Executes, ExecutesInside}
use Rattle.sqlite.specs.declared.error.Error.{Error}
use Rattle.dnp_store.specs.declared.store_kind.StoreKind.{StoreKind}
use Rattle.dnp_store.specs.Refusals.{IsRefused}
use Rattle.dnp_store.specs.Texts.{IsOwn}
use Rattle.dnp_store.specs.steps.Inside.{IsStep}
use Rattle.dnp_store.specs.steps.Making.{ExecuteAll}
use Rattle.dnp_store.proofs.Refusing.{by_statement}

-- what follows of a statement that ran
pub ran_then : (old new : State) (sql : List ℕ) (params : Row) (Q : Type 0) (r : Result (Unit {0}) Error)
    → OnOk r ((count : ℕ) × Executes sql params old new (Ok count)) → ((count : ℕ) → Executes sql params old new (Ok count) → Q) → OnOk r Q
ran_then old new sql params Q (Ok _) h follows = follows h.0 h.1
ran_then old new sql params Q (Err e) h follows = tt

pub statement_refused : {S : Type 0} (g : Ghosts S) (kind : StoreKind) (old new : Held S) (sql : List ℕ) (params : Row) (r : Result (Unit {0}) Error) → IsOwn kind sql
    → IfErr r (λ e. IsTrue (state g old).in_transaction × ExecutesInside 0 sql params (state g old) (state g new) (Err e)) → IfErr r (IsRefused g kind old new)
statement_refused g kind old new sql params (Ok _) own h = tt
statement_refused g kind old new sql params (Err e) own h = by_statement g kind old new sql params e own h.0 h.1

-- ---- what `?` hands on

pub err_too : {A : Type 0} (P : Error → Type 0) (r : Result A Error) (e : Error) → IsErr r × IsErrAnd r (λ f. f ≡ e) → P e → IfErr r P
err_too P (Ok a) e is h = tt
err_too P (Err f) e is h = subst P (sym is.1) h

pub step_too : {S A B E F X : Type 0} (g : Ghosts S) (old new : MutBor (Held S)) (e : E) (r : Result B F) → IsErr r × X
    → IsStep {A = A} {E = E} g old new (Err e) → IsStep g old new r
step_too g old new e (Ok a) is step = absurd (let no = is.0 in cc)
step_too g old new e (Err f) is step = record {
  same_reference = step.same_reference;
  inside = λ clean. tt;
  kept = step.kept;
  survives = step.survives;
}

-- ---- statements one after the other

abbrev pub texts_in : List (Bor (List ℕ)) → List (List ℕ)
texts_in = map (λ text. text.now)

-- with the texts that are still to come all of them ran
abbrev pub RunsOn : {S : Type 0} → Ghosts S → List (List ℕ) → List (List ℕ) → Held S → Held S → Type 0
RunsOn {S} g all rest old now = (last : Held S) → ExecuteAll g rest now last → ExecuteAll g all old last

pub one_more : {S : Type 0} (g : Ghosts S) (all : List (List ℕ)) (texts : List (Bor (List ℕ))) (i : ℕ) (d : Bor (List ℕ)) (old now next : Held S)
    → i < length texts → (count : ℕ) × Executes (get_or texts i d).now [] (state g now) (state g next) (Ok count)
    → RunsOn g all (drop i (texts_in texts)) old now → RunsOn g all (drop (i + 1) (texts_in texts)) old next
one_more g all texts i d old now next low ran before last rest =
    let mapped = texts_in texts in
    let long : i < length mapped = omega (arith, low, length-map texts (λ (t : Bor (List ℕ)). t.now)) in
    let here : get_or mapped i [] ≡ (get_or texts i d).now = get_or-map (λ (t : Bor (List ℕ)). t.now) texts i d [] low in
    let split : drop i mapped ≡ (get_or texts i d).now ∷ drop (i + 1) mapped =
    drop_more mapped i [] long ∙ ap (λ (text : List ℕ). text ∷ drop (i + 1) mapped) here in
    before last (subst (λ (xs : List (List ℕ)). ExecuteAll g xs now last) (sym split) (next, ran.0, ran.1, rest))

pub none_left : {S : Type 0} (g : Ghosts S) (all : List (List ℕ)) (texts : List (Bor (List ℕ))) (i : ℕ) (old now : Held S) → length texts ≤ i
    → RunsOn g all (drop i (texts_in texts)) old now → ExecuteAll g all old now
none_left g all texts i old now past before =
    let mapped = texts_in texts in
    let empty : drop i mapped ≡ [] = drop_of_length-le mapped (omega (arith, past, length-map texts (λ (t : Bor (List ℕ)). t.now))) in
    before now (subst (λ (xs : List (List ℕ)). ExecuteAll g xs now now) (sym empty) refl)
