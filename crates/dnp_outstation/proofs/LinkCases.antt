-- What came is what its case says.
use Rattle.std.proofs.Common.{◌≡◌, ◌≢◌, Bool, true, false, if◌then◌else◌, refl, sym, ◌∙◌, ap, ℕ, ◌==◌, ◌&&◌, not, List, Option, None, Some, is_some, eqb-true, eq-eqb}
use Rattle.std.specs.Str.{bytes_eq}
use Rattle.std.proofs.lemmas.Bool.{and_parts}
use Rattle.std.proofs.lemmas.Slice.Eq.{bytes_eq-Decides}
use Rattle.dnp_appfragment.specs.declared.function.Function.TheVariants as function
use Rattle.dnp_appfragment.specs.Table.{function_octet}
use Rattle.dnp_outstation.specs.declared.case.Case.TheVariants.{PassedOver, Confirms, ConfirmsUnsolicited, Stray, Again, Waits, Asks}
use Rattle.dnp_outstation.specs.State.{Core}
use Rattle.dnp_outstation.specs.Connection.{is_looked_at, control_in, function_in, awaited_number, is_number, is_last_request, case_of}
use Rattle.dnp_outstation.specs.Links.{ComesConfirm, ComesOther, CaseSays}

number_is : (o : Option ℕ) (n : ℕ) → is_number o n ≡ true → o ≡ Some n
number_is None n is = cc
number_is (Some m) n is = ap Some (eqb-true m n is)

is_the_number : (o : Option ℕ) (n : ℕ) → o ≡ Some n → is_number o n ≡ true
is_the_number o n is = ap (λ (p : Option ℕ). is_number p n) is ∙ eq-eqb n n refl

none_there : {A : Type 0} (o : Option A) → is_some o ≡ false → o ≡ None
none_there None is = refl
none_there (Some x) is = cc

both_true : (a b : Bool) → a ≡ true → b ≡ true → (a && b) ≡ true
both_true true true p q = refl
both_true true false p q = cc
both_true false b p q = cc

no_number : (a b : ℕ) → (a == b) ≡ false → a ≢ b
no_number a b other is = let same : (a == b) ≡ true = eq-eqb a b is in cc

pub case_says : (c : Core) (octets : List ℕ) → CaseSays c octets (case_of c octets)
case_says c octets =
    by (is_looked_at c octets) (function_in octets == function_octet function.Confirm)
    (is_number (awaited_number c.session (control_in octets).uns) (control_in octets).seq) (control_in octets).uns
    (is_last_request c.session octets) (function_in octets == function_octet function.Read) (is_some c.session.unsolicited)
    refl refl refl refl refl refl refl
  where
    confirms : (uns : Bool) → is_looked_at c octets ≡ true → (function_in octets == function_octet function.Confirm) ≡ true
        → is_number (awaited_number c.session (control_in octets).uns) (control_in octets).seq ≡ true
        → (control_in octets).uns ≡ uns → ComesConfirm c octets uns
    confirms uns looked confirm number is = record {
      is_looked_at = looked;
      function_is = eqb-true (function_in octets) 0 confirm;
      uns_is = is;
      number = ap (awaited_number c.session) (sym is)
          ∙ number_is (awaited_number c.session (control_in octets).uns) (control_in octets).seq number;
    }

    other : is_looked_at c octets ≡ true → (function_in octets == function_octet function.Confirm) ≡ false
        → is_last_request c.session octets ≡ false → ComesOther c octets
    other looked confirm last = record {
      is_looked_at = looked;
      no_confirm = no_number (function_in octets) 0 confirm;
      other = λ there same.
          let both = both_true (is_some c.session.last) (bytes_eq octets c.session.request) there
          ((bytes_eq-Decides octets c.session.request).1 same) in cc;
    }

    by : (looked confirm number uns last read awaits : Bool) → is_looked_at c octets ≡ looked
        → (function_in octets == function_octet function.Confirm) ≡ confirm
        → is_number (awaited_number c.session (control_in octets).uns) (control_in octets).seq ≡ number
        → (control_in octets).uns ≡ uns → is_last_request c.session octets ≡ last
        → (function_in octets == function_octet function.Read) ≡ read → is_some c.session.unsolicited ≡ awaits
        → CaseSays c octets (if not looked then PassedOver
        else if confirm then if number then if uns then ConfirmsUnsolicited else Confirms else Stray
        else if last then Again
        else if read && awaits then Waits
        else Asks)
    by false confirm number uns last read awaits l c n u p r a = l
    by true true true true last read awaits l c n u p r a = confirms true l c n u
    by true true true false last read awaits l c n u p r a = confirms false l c n u
    by true true false uns last read awaits l f n u p r a = record {
      is_looked_at = l;
      function_is = eqb-true (function_in octets) 0 f;
      number = λ is. let same = is_the_number (awaited_number c.session (control_in octets).uns) (control_in octets).seq is in cc;
    }
    by true false number uns true read awaits l f n u p r a =
        let both = and_parts (is_some c.session.last) (bytes_eq octets c.session.request) p in
        record {
          is_looked_at = l;
          no_confirm = no_number (function_in octets) 0 f;
          has_last = both.0;
          same = (bytes_eq-Decides octets c.session.request).0 both.1;
        }
    by true false number uns false true true l f n u p r a = (other l f p, eqb-true (function_in octets) 1 r, a)
    by true false number uns false true false l f n u p r a = (other l f p, λ is. none_there c.session.unsolicited a)
    by true false number uns false false awaits l f n u p r a = (other l f p, λ is. absurd (no_number (function_in octets) 1 r is))
