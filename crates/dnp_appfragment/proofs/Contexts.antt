-- What the headers that were put say for one after them.
use Rattle.std.proofs.Common.{◌≡◌, Bool, true, false, cond, refl, sym, ◌∙◌, ap, ℕ, List, [], ◌∷◌, ◌++◌, Option, Some, None, ◌==◌, ◌&&◌, ◌||◌, ◌<◌, ◌%◌, ◌^◌, nat_le, eqb-true}
use Rattle.std.specs.Prelude.{option_to_list}
use Rattle.std.specs.Option.{option_and_then}
use Rattle.std.proofs.lemmas.Bool.{and_parts}
use Rattle.std.proofs.lemmas.List.{append-nil}
use Rattle.std.proofs.Math.Nat.{div-one, mod-eq_of_lt}
use Rattle.byteorder.specs.Endian.{little_number, little_bytes}
use Rattle.byteorder.specs.Numbers.{little_from-bytes}
use Rattle.dnp_objects.specs.declared.limits.TheConstants.{MAX_TIME}
use Rattle.dnp_appfragment.specs.Written.{common_head}
use Rattle.dnp_appfragment.specs.Headers.{Head, Context, begin, count_of, is_common, last_time, context_after, context_past}
use Rattle.dnp_appfragment.specs.Joining.{joined, joined_range}
use Rattle.dnp_appfragment.specs.Built.{Built, heads, context_of, broken, with_header, with_run, with_object}
use Rattle.dnp_appfragment.proofs.JoinedTimes.{join_by}
use Rattle.dnp_appfragment.proofs.Joins.{joined_is}
use Rattle.dnp_appfragment.proofs.Places.{past_more}

-- a header of another object leaves it
context_same : (context : Context) (h : Head) → is_common h ≡ false → context_after context h ≡ context
context_same context h is = ap (λ (b : Bool). cond (b && nat_le 1 (count_of h.range)) (Some (last_time h)) context) is

one_more : (hs : List Head) (h : Head) → is_common h ≡ false → context_past begin (hs ++ h ∷ []) ≡ context_past begin hs
one_more hs h is = past_more begin hs h ∙ context_same (context_past begin hs) h is

pub context_broken : (b : Built) → context_of (broken b) ≡ context_of b
context_broken b = ap (context_past begin) (append-nil (heads b))

pub context_header : (b : Built) (h : Head) → context_of (with_header b h) ≡ context_after (context_of b) h
context_header b h = ap (context_past begin) (append-nil (heads b ++ h ∷ [])) ∙ past_more begin (heads b) h

pub context_begun : (b : Built) (object : Head) → is_common object ≡ false → context_of (with_run b None object) ≡ context_of b
context_begun b object is = one_more (heads b) object is

-- the time itself, for rows after it
time_back : (time : ℕ) → time < MAX_TIME → little_number 6 (little_bytes 6 time) ≡ time
time_back time low =
    ap (little_number 6) (sym (append-nil (little_bytes 6 time))) ∙ little_from-bytes 6 0 time [] ∙ ap (λ (n : ℕ). n % 256 ^ 6) (div-one time)
    ∙ mod-eq_of_lt low

pub context_common : (b : Built) (time : ℕ) → time < MAX_TIME → context_of (with_header b (common_head time)) ≡ Some time
context_common b time low = context_header b (common_head time) ∙ ap (λ (n : ℕ). Some n) (time_back time low)

pub context_other : (b : Built) (h : Head) → is_common h ≡ false → context_of (with_header b h) ≡ context_of b
context_other b h is = context_header b h ∙ context_same (context_of b) h is

common_by : ℕ → ℕ → Bool
common_by g v = (g == 51) && ((v == 1) || (v == 2))

pub context_object : (b : Built) (object : Head) → is_common object ≡ false → context_of (with_object b object) ≡ context_of b
unfolding with_object common_by
context_object b object other = go b.run refl (option_and_then (λ (r : Head). joined r object) b.run) refl
  where
    of_run : (o : Option Head) → b.run ≡ o → context_of b ≡ context_past begin (b.ended ++ option_to_list o)
    of_run o there = ap (λ (o : Option Head). context_past begin (b.ended ++ option_to_list o)) there

    longer : (run long : Head) → b.run ≡ Some run → joined run object ≡ Some long → context_past begin (b.ended ++ long ∷ []) ≡ context_of b
    longer run long there is =
        let parts = joined_is run object long ((run.group == object.group) && (run.variation == object.variation)) (joined_range run.range object.range) is in
        let same = and_parts (run.group == object.group) (run.variation == object.variation) parts.0 in
        let group : run.group ≡ object.group = eqb-true run.group object.group same.0 in
        let variation : run.variation ≡ object.variation = eqb-true run.variation object.variation same.1 in
        let run_is : is_common run ≡ false = (λ i. common_by (group i) (variation i)) ∙ other in
        let long_is : is_common long ≡ false = sym (ap (λ (h : Head). is_common h) parts.3) ∙ run_is in
        one_more b.ended long long_is ∙ sym (one_more b.ended run run_is) ∙ sym (of_run (Some run) there)

    go : (run : Option Head) → b.run ≡ run → (o : Option Head) → option_and_then (λ (r : Head). joined r object) b.run ≡ o
        → context_of (with_run b o object) ≡ context_of b
    go run there None is = context_begun b object other
    go (Some run) there (Some long) is = longer run long there (sym (ap (λ (o : Option Head). option_and_then (λ (r : Head). joined r object) o) there) ∙ is)
    go None there (Some long) is =
        let none : None ≡ Some long = sym (ap (λ (o : Option Head). option_and_then (λ (r : Head). joined r object) o) there) ∙ is in
        cc
