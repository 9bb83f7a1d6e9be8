-- The assemblers after one more frame.
use Rattle.std.proofs.Common.{◌≡◌, ℕ, ◌<◌, Bool, true, false, ◌==◌, ◌&&◌, cond, List, [], ◌∷◌, arith, ◌∙◌, ap, sym, subst, refl, inl, inr, eqb-true, eq-eqb}
use Rattle.std.proofs.lemmas.Bool.{and_parts, and_from, cases_Bool}
use Rattle.std.specs.BTreeMap.{is_at}
use Rattle.std.specs.Global.{Box}
use Rattle.std.specs.Map.{lookup}
use Rattle.std.specs.Ordering.{nat_cmp}
use Rattle.dnp_linkframe.specs.declared.frame.Frame.{Frame}
use Rattle.dnp_transport.specs.Assembly.{Assembly, Idle, ArePushed}
use Rattle.dnp_decode.specs.FrameLines.{says_data, is_data_of, data_of}
use Rattle.dnp_decode.specs.steps.Remembered.{Ports, Remembers, direction_of, found, assembly_at}

-- nothing is remembered before the first frame
pub remembers_none : ArePushed [] Idle → (ports : Ports) → ports.entries ≡ [] → Remembers [] ports
remembers_none idle ports none = record {
  each = λ s d low.
      subst (λ (es : List (ℕ × Box Assembly)). ArePushed [] (found (lookup (is_at (nat_cmp (direction_of s d))) es))) (sym none) idle;
}

-- a direction is told by its number
same_way : (s d t e : ℕ) → d < 0x1_0000 → e < 0x1_0000 → (direction_of s d == direction_of t e) ≡ ((s == t) && (d == e))
same_way s d t e low lower = elim (cases_Bool (direction_of s d == direction_of t e)) [
  | inl one ↦
      let equal : direction_of s d ≡ direction_of t e = eqb-true (direction_of s d) (direction_of t e) one in
      one ∙ sym (and_from (s == t) (d == e) (eq-eqb s t (omega (arith, equal, low, lower))) (eq-eqb d e (omega (arith, equal, low, lower))))
  | inr two ↦ elim (cases_Bool ((s == t) && (d == e))) [
    | inl both ↦
        let parts = and_parts (s == t) (d == e) both in
        let from : s ≡ t = eqb-true s t parts.0 in
        let to : d ≡ e = eqb-true d e parts.1 in
        let equal : direction_of s d ≡ direction_of t e = ap (λ x. direction_of x d) from ∙ ap (λ y. direction_of t y) to in
        absurd (cc (sym two ∙ eq-eqb (direction_of s d) (direction_of t e) equal))
    | inr other ↦ two ∙ sym other
  ]
]

-- the frame is not of that direction: its addresses are others
other_way : (frame : Frame) (t e : ℕ) → ((frame.source == t) && (frame.dest == e)) ≡ false → is_data_of t e frame ≡ false
other_way frame t e isnt = ap (λ (b : Bool). b && says_data frame.control) isnt

-- the user data of a frame are the newest of its direction
pub own_way : (heard : List Frame) (frame : Frame) → says_data frame.control ≡ true
    → data_of frame.source frame.dest (frame ∷ heard) ≡ frame.user.items ∷ data_of frame.source frame.dest heard
own_way heard frame carries =
    let same : ((frame.source == frame.source) && (frame.dest == frame.dest)) ≡ true =
    and_from (frame.source == frame.source) (frame.dest == frame.dest) (eq-eqb frame.source frame.source refl) (eq-eqb frame.dest frame.dest refl) in
    ap (λ (b : Bool). cond b (frame.user.items ∷ data_of frame.source frame.dest heard) (data_of frame.source frame.dest heard))
    (ap (λ (b : Bool). b && says_data frame.control) same ∙ carries)

-- taken out and put in again
put_again : (b : Bool) (new old : Assembly) → cond b new (cond b Idle old) ≡ cond b new old
put_again true new old = refl
put_again false new old = refl

-- one frame more: the assembler of its direction was taken out, took its user data, and was put in again
pub remembers_more : (heard : List Frame) (frame : Frame) (ports without after : Ports) (new : Assembly) → frame.dest < 0x1_0000
    → Remembers heard ports → says_data frame.control ≡ true
    → ((d : ℕ) → assembly_at without d ≡ cond (direction_of frame.source frame.dest == d) Idle (assembly_at ports d))
    → ((d : ℕ) → assembly_at after d ≡ cond (direction_of frame.source frame.dest == d) new (assembly_at without d))
    → ArePushed (frame.user.items ∷ data_of frame.source frame.dest heard) new
    → Remembers (frame ∷ heard) after
remembers_more heard frame ports without after new within before carries left put stands = record {
  each = λ t e low.
      let way : ℕ = direction_of t e in
      let own : Bool = direction_of frame.source frame.dest == way in
      let old : Assembly = assembly_at ports way in
      let here : assembly_at after way ≡ cond ((frame.source == t) && (frame.dest == e)) new old =
      put way ∙ ap (λ (a : Assembly). cond own new a) (left way) ∙ put_again own new old
      ∙ ap (λ (b : Bool). cond b new old) (same_way frame.source frame.dest t e within low) in
      let stood : ArePushed (data_of t e (frame ∷ heard)) (cond ((frame.source == t) && (frame.dest == e)) new old) =
      elim (cases_Bool ((frame.source == t) && (frame.dest == e))) [
        | inl same ↦
            let parts = and_parts (frame.source == t) (frame.dest == e) same in
            let t_is : frame.source ≡ t = eqb-true frame.source t parts.0 in
            let e_is : frame.dest ≡ e = eqb-true frame.dest e parts.1 in
            let pushed : data_of t e (frame ∷ heard) ≡ frame.user.items ∷ data_of t e heard =
            ap (λ (b : Bool). cond b (frame.user.items ∷ data_of t e heard) (data_of t e heard))
            (ap (λ (b : Bool). b && says_data frame.control) same ∙ carries) in
            let took : ArePushed (frame.user.items ∷ data_of t e heard) new =
            subst (λ (x : ℕ). ArePushed (frame.user.items ∷ data_of x e heard) new) t_is
            (subst (λ (y : ℕ). ArePushed (frame.user.items ∷ data_of frame.source y heard) new) e_is stands) in
            subst (λ (a : Assembly). ArePushed (data_of t e (frame ∷ heard)) a) (sym (ap (λ (b : Bool). cond b new old) same))
            (subst (λ (xs : List (List ℕ)). ArePushed xs new) (sym pushed) took)
        | inr other ↦
            let pushed : data_of t e (frame ∷ heard) ≡ data_of t e heard =
            ap (λ (b : Bool). cond b (frame.user.items ∷ data_of t e heard) (data_of t e heard)) (other_way frame t e other) in
            subst (λ (a : Assembly). ArePushed (data_of t e (frame ∷ heard)) a) (sym (ap (λ (b : Bool). cond b new old) other))
            (subst (λ (xs : List (List ℕ)). ArePushed xs old) (sym pushed) (before.each t e low))
      ] in
      subst (λ (a : Assembly). ArePushed (data_of t e (frame ∷ heard)) a) (sym here) stood;
}
