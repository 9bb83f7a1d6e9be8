-- What follows of an answer, by several facts of it.
use Rattle.std.proofs.Common.{◌≡◌, refl, subst, Ok, Err, Result, IfOk}
use Rattle.std.specs.Prelude.{OnErr, OnOk}

pub if_both : {A E : Type 0} (P Q R : A → Type 0) (result : Result A E) → ((a : A) → P a → Q a → R a) → IfOk result P → IfOk result Q → IfOk result R
if_both P Q R (Ok a) follows one two = follows a one two
if_both P Q R (Err e) follows one two = tt

pub if_both_on : {A E : Type 0} (P : Type 0) (Q R : A → Type 0) (result : Result A E) → ((a : A) → P → Q a → R a) → OnOk result P → IfOk result Q
    → IfOk result R
if_both_on P Q R (Ok a) follows one two = follows a one two
if_both_on P Q R (Err e) follows one two = tt

-- what is so of an answer, which is this
pub at_ok : {A E : Type 0} (P : A → Type 0) (result : Result A E) (a : A) → result ≡ Ok a → IfOk result P → P a
at_ok P (Ok b) a is holds = subst P (let e : b ≡ a = cc in e) holds
at_ok P (Err e) a is holds = absurd cc

-- it is itself
pub ok_itself : {A E : Type 0} (result : Result A E) → IfOk result (λ a. result ≡ Ok a)
ok_itself (Ok a) = refl
ok_itself (Err e) = tt

pub at_ok_on : {A E : Type 0} (P : Type 0) (result : Result A E) (a : A) → result ≡ Ok a → OnOk result P → P
at_ok_on P (Ok b) a is holds = holds
at_ok_on P (Err e) a is holds = absurd cc

-- what is so in any case
pub on_any : {A E : Type 0} (P : Type 0) (result : Result A E) → P → OnOk result P
on_any P (Ok a) holds = holds
on_any P (Err e) holds = tt

-- what follows of each answer
pub on_each : {A E : Type 0} (P : A → Type 0) (Q : Type 0) (result : Result A E) → ((a : A) → P a → Q) → IfOk result P → OnOk result Q
on_each P Q (Ok a) follows holds = follows a holds
on_each P Q (Err e) follows holds = tt
