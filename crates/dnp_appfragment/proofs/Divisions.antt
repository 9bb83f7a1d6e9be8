-- The headers that divide octets, read and spelled.
use Rattle.std.proofs.Common.{◌≡◌, refl, sym, ◌∙◌, ap, subst, ℕ, zero, suc, ◌<◌, ◌≤◌, List, [], ◌∷◌, ◌++◌, length, arith, Result, Ok, Err}
use Rattle.std.proofs.lemmas.List.{append_assoc}
use Rattle.dnp_appfragment.specs.declared.fault.AppFault.{AppFault}
use Rattle.dnp_appfragment.specs.declared.table.Form.{Form}
use Rattle.dnp_appfragment.specs.Headers.{Head, header_octets, spelled, IsHeaderAt, Context, DivideFrom, Divide, AreHeaders, begin, context_after, context_past}
use Rattle.dnp_appfragment.specs.Faults.{IsHeaderFault, HasFaultFrom, HasHeaderFault}
use Rattle.dnp_appfragment.specs.Reading.{header_at, headers_from, headers_at}
use Rattle.dnp_appfragment.proofs.Numbers.{AreOctets}
use Rattle.dnp_appfragment.proofs.Walk.{header_fewer, Fewer, headers_none, headers_step, onto, others, stops}
use Rattle.dnp_appfragment.proofs.Grammar.{ReadsHeader, header_reads, header_again, fault_again, fault_some}

-- what is read
abbrev pub ReadsHeaders : Form → Context → List ℕ → Result (List Head) AppFault → Type 0
ReadsHeaders f context octets (Ok hs) = DivideFrom f context octets hs
ReadsHeaders f context octets (Err e) = HasFaultFrom f context octets e

one_more : (f : Form) (context : Context) (octets : List ℕ) (h : Head) (rest : List ℕ) → IsHeaderAt f context h → octets ≡ header_octets h ++ rest
    → (r : Result (List Head) AppFault) → ReadsHeaders f (context_after context h) rest r
    → ReadsHeaders f context octets (onto h r)
one_more f context octets h rest is whole (Ok hs) reads =
    record { each = (is, reads.each); whole = whole ∙ ap (λ (t : List ℕ). header_octets h ++ t) reads.whole }
one_more f context octets h rest is whole (Err e) reads = record {
  before = h ∷ reads.before;
  rest = reads.rest;
  each = (is, reads.each);
  whole =
      whole ∙ ap (λ (t : List ℕ). header_octets h ++ t) reads.whole
      ∙ sym (append_assoc (header_octets h) (spelled reads.before) reads.rest);
  here = reads.here;
}

read_in : (n : ℕ) (f : Form) (context : Context) (octets : List ℕ) → length octets ≤ n → AreOctets octets
    → ReadsHeaders f context octets (headers_from f context octets)
read_in n f context [] small are =
    subst (λ (r : Result (List Head) AppFault). ReadsHeaders f context [] r) (sym (headers_none f context)) (record { each = tt; whole = refl })
read_in zero f context (b ∷ octets) small are = absurd (omega arith)
read_in (suc n) f context (b ∷ octets) small are =
    let some : 0 < length (b ∷ octets) = omega arith in
    subst (λ (r : Result (List Head) AppFault). ReadsHeaders f context (b ∷ octets) r) (sym (headers_step f context (b ∷ octets) some))
    (go (λ after rest. read_in n f after rest) (header_at f context (b ∷ octets)) (header_reads f context (b ∷ octets) some are)
    (header_fewer f context (b ∷ octets)))
  where
    go : ((after : Context) (rest : List ℕ) → length rest ≤ n → AreOctets rest → ReadsHeaders f after rest (headers_from f after rest))
        → (r : Result (Head × List ℕ) AppFault) → ReadsHeader f context (b ∷ octets) r → Fewer (b ∷ octets) r
        → ReadsHeaders f context (b ∷ octets) (others f context r)
    go more (Ok h) reads fewer =
        one_more f context (b ∷ octets) h.0 h.1 reads.0 reads.1 (headers_from f (context_after context h.0) h.1)
        (more (context_after context h.0) h.1 (omega (arith, fewer)) reads.2)
    go more (Err e) reads fewer = record { before = []; rest = b ∷ octets; each = tt; whole = refl; here = reads }

pub headers_read_from : (f : Form) (context : Context) (octets : List ℕ) → AreOctets octets → ReadsHeaders f context octets (headers_from f context octets)
headers_read_from f context octets are = read_in (length octets) f context octets (omega arith) are

pub headers_read : (f : Form) (octets : List ℕ) → AreOctets octets → ReadsHeaders f begin octets (headers_at f octets)
unfolding headers_at
headers_read f octets are = headers_read_from f begin octets are

-- what is spelled is read
step_over : (f : Form) (context : Context) (h : Head) (rest : List ℕ) → IsHeaderAt f context h
    → headers_from f context (header_octets h ++ rest) ≡ onto h (headers_from f (context_after context h) rest)
step_over f context h rest is =
    headers_step f context (header_octets h ++ rest) (omega arith)
    ∙ ap (others f context) (header_again f context h rest is)

spelled_again : (f : Form) (context : Context) (hs : List Head) → AreHeaders f context hs → headers_from f context (spelled hs) ≡ Ok hs
spelled_again f context [] each = headers_none f context
spelled_again f context (h ∷ hs) each =
    step_over f context h (spelled hs) each.0 ∙ ap (onto h) (spelled_again f (context_after context h) hs each.1)

pub divided_from : (f : Form) (context : Context) (octets : List ℕ) (hs : List Head) → DivideFrom f context octets hs
    → headers_from f context octets ≡ Ok hs
divided_from f context octets hs divide = ap (headers_from f context) divide.whole ∙ spelled_again f context hs divide.each

pub divided_headers : (f : Form) (octets : List ℕ) (hs : List Head) → Divide f octets hs → headers_at f octets ≡ Ok hs
unfolding headers_at
divided_headers f octets hs divide = divided_from f begin octets hs divide

-- and refused for the first fault
fault_after : (f : Form) (context : Context) (before : List Head) (rest : List ℕ) (e : AppFault) → AreHeaders f context before
    → IsHeaderFault f (context_past context before) rest e → headers_from f context (spelled before ++ rest) ≡ Err e
fault_after f context [] rest e each here = stops f context rest e (fault_some f context rest e here) (fault_again f context rest e here)
fault_after f context (h ∷ before) rest e each here =
    ap (headers_from f context) (append_assoc (header_octets h) (spelled before) rest)
    ∙ step_over f context h (spelled before ++ rest) each.0
    ∙ ap (onto h) (fault_after f (context_after context h) before rest e each.1 here)

pub fault_headers : (f : Form) (octets : List ℕ) (e : AppFault) → HasHeaderFault f octets e → headers_at f octets ≡ Err e
unfolding headers_at
fault_headers f octets e has = ap (headers_from f begin) has.whole ∙ fault_after f begin has.before has.rest e has.each has.here
