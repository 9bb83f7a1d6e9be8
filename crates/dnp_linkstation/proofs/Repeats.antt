-- The frame count bit: what it makes the station expect, and a frame that comes twice in a row.
use Rattle.std.proofs.Common.{◌≡◌, Bool, true, false, not, if◌then◌else◌, List, ◌∷◌, Option, Some, None, refl, sym, ap, ◌∙◌, subst}
use Rattle.dnp_linkframe.specs.declared.frame.Frame.{Frame}
use Rattle.dnp_linkstation.specs.declared.function.PrimaryFunction.{PrimaryFunction}
use Rattle.dnp_linkstation.specs.declared.function.PrimaryFunction.TheVariants as primary
use Rattle.dnp_linkstation.specs.Control.{primary_function, frame_count_bit}
use Rattle.dnp_linkstation.specs.Station.{Ends, is_for, expected, expected_next, answer, answer_to, dropped, is_same, counts}

opposite_bits : (fcb : Bool) → is_same fcb (not fcb) ≡ false
opposite_bits true = refl
opposite_bits false = refl

-- confirmed user data, for the station or not
twice : (e : Ends) (mine fcb : Bool) (before other : Option Bool)
    → (if mine then answer_to e primary.ConfirmedUserData (if mine then expected_next primary.ConfirmedUserData fcb before else other) fcb else dropped).up ≡ false
twice e false fcb before other = refl
twice e true fcb None other = refl
twice e true fcb (Some awaited) other = opposite_bits fcb

pub goes_up_once : (e : Ends) (before : List Frame) (frame : Frame) → primary_function frame.control ≡ primary.ConfirmedUserData
    → (answer e (frame ∷ before) frame).up ≡ false
goes_up_once e before frame confirmed =
    let P : PrimaryFunction → Type 0 = λ f.
    (if is_for e frame
    then answer_to e f (if is_for e frame then expected_next f (frame_count_bit frame.control) (expected e before) else expected e before)
    (frame_count_bit frame.control)
    else dropped).up ≡ false in
    subst P (sym confirmed) (twice e (is_for e frame) (frame_count_bit frame.control) (expected e before) (expected e before))

-- the opposite of a bit is what its toggling gives
toggled : (fcb awaited : Bool) → not fcb ≡ (if is_same fcb awaited then not awaited else awaited)
toggled true true = refl
toggled true false = refl
toggled false true = refl
toggled false false = refl

next_toggles : (f : PrimaryFunction) (fcb awaited : Bool) → counts f ≡ true
    → expected_next f fcb (Some awaited) ≡ Some (if is_same fcb awaited then not awaited else awaited)
next_toggles primary.TestLinkStates fcb awaited counted = ap Some (toggled fcb awaited)
next_toggles primary.ConfirmedUserData fcb awaited counted = ap Some (toggled fcb awaited)
next_toggles primary.ResetLinkStates fcb awaited counted = cc
next_toggles primary.UnconfirmedUserData fcb awaited counted = cc
next_toggles primary.RequestLinkStatus fcb awaited counted = cc
next_toggles primary.Other fcb awaited counted = cc

pub toggles : (e : Ends) (before : List Frame) (frame : Frame) (awaited : Bool) → is_for e frame ≡ true
    → counts (primary_function frame.control) ≡ true → expected e before ≡ Some awaited
    → expected e (frame ∷ before) ≡ Some (if is_same (frame_count_bit frame.control) awaited then not awaited else awaited)
toggles e before frame awaited mine counted now =
    let next : Option Bool = expected_next (primary_function frame.control) (frame_count_bit frame.control) (expected e before) in
    let here : expected e (frame ∷ before) ≡ next = ap (λ (b : Bool). if b then next else expected e before) mine in
    let there : next ≡ expected_next (primary_function frame.control) (frame_count_bit frame.control) (Some awaited) =
    ap (λ (x : Option Bool). expected_next (primary_function frame.control) (frame_count_bit frame.control) x) now in
    here ∙ there ∙ next_toggles (primary_function frame.control) (frame_count_bit frame.control) awaited counted
