-- What a port makes of the units of a fragment's segments: the last of them completes the fragment, and each before it gives nothing.
use Rattle.std.proofs.Common.{◌≡◌, ℕ, ◌<◌, ◌≤◌, true, inl, inr, List, [], ◌∷◌, ◌++◌, length, take, map, refl, sym, ap, ◌∙◌, subst, arith, append_assoc}
use Rattle.std.specs.List.{range_with_len}
use Rattle.std.specs.Prelude.{slice_get}
use Rattle.std.proofs.lemmas.Bool.{cases_Bool, cond-true, cond-false}
use Rattle.std.proofs.lemmas.List.{reverse-append, length-append, take_at}
use Rattle.std.proofs.lemmas.List.FromFn.{length-map-range_with_len}
use Rattle.dnp_linkframe.specs.Frames.{Spells}
use Rattle.dnp_linkframe.specs.declared.frame.Frame.{Frame}
use Rattle.dnp_linkstation.specs.Station.{ends, AreHeard as Answers}
use Rattle.dnp_transport.specs.Assembly.{ArePushed}
use Rattle.dnp_transport.specs.Cuts.{cut_count, cut, cuts}
use Rattle.dnp_transport.specs.Laws.{IsAssembled, pushed_after}
use Rattle.dnp_transport.specs.Series.{IsWhole}
use Rattle.dnp_transport.specs.declared.limits.TheConstants.{MAX_FRAGMENT}
use Rattle.dnp_line.specs.Flows.{AreFacing}
use Rattle.dnp_line.specs.Lines.{LineState, line_of, front_of, delivered_on}
use Rattle.dnp_line.specs.Ports.{PortState, data_frame, has_data, is_joined, Joins, TakesAfter, Takes}
use Rattle.dnp_line.specs.Ways.{HearsUnit, AFrame, NoFrame, HearsIfAny}
use Rattle.dnp_line.specs.steps.Lower.{Lower}
use Rattle.dnp_line.proofs.Hearing.{sent_joins, has_joined}

-- ---- one unit

-- what the port makes of the unit of a segment
pub record HasTaken (sender old new : PortState) (x : List ℕ) (pushed given : List (List ℕ)) : Type 0 where
  pub same_ends : ends new.link ≡ ends old.link
  pub heard : List Frame
  pub answers : Answers heard new.link
  pub stands : ArePushed (x ∷ pushed) new.assembly
  pub none : ((g : List ℕ) → IsWhole (x ∷ pushed) g → ⊥) → given ≡ []
  pub one : (g : List ℕ) → IsWhole (x ∷ pushed) g → given ≡ g ∷ []

pub has_taken : Lower → (sender old new : PortState) (u x : List ℕ) (heard : List Frame) (pushed given : List (List ℕ)) → has_data x ≡ true
    → AreFacing sender old → Answers heard old.link → ArePushed pushed old.assembly → Spells u (data_frame sender x) → HearsUnit u old new [] given
    → HasTaken sender old new x pushed given
has_taken low sender old new u x heard pushed given some facing answers stands spells hears =
    elim hears [
      | NoFrame none same e ↦ absurd (none (data_frame sender x, spells))
      | AFrame frame taken f spelled takes shown e ↦
          let same : frame ≡ data_frame sender x = low.one_frame u frame (data_frame sender x) spelled spells in
          let t : Takes old (data_frame sender x) new taken = subst (λ (g : Frame). Takes old g new taken) same takes in
          let after : TakesAfter heard pushed old (data_frame sender x) new taken = t.after heard answers pushed stands in
          let joins : Joins true pushed x old.assembly new.assembly taken.whole =
          has_joined (is_joined (ends old.link) heard (data_frame sender x)) pushed x old.assembly new.assembly taken.whole
          (sent_joins low sender old x heard facing some) after.joins in
          record {
            same_ends = t.same_ends;
            heard = data_frame sender x ∷ heard;
            answers = after.answers;
            stands = joins.0;
            none = λ not_whole.
                elim (cases_Bool taken.whole) [
                  | inl completes ↦ let found = joins.1.0 completes in absurd (not_whole found.0 found.1)
                  | inr completes_none ↦ e ∙ cond-false taken.whole (f ∷ []) [] completes_none
                ];
            one = λ g whole.
                let completes : taken.whole ≡ true = joins.1.1 (g, whole) in
                let f_is : f ≡ g = (shown (x ∷ pushed) joins.0).whole g whole in
                e ∙ cond-true taken.whole (f ∷ []) [] completes ∙ ap (λ (h : List ℕ). h ∷ []) f_is;
          }
    ]

-- the front unit of a line
pub delivered_from : (l : LineState) (u : List ℕ) (us : List (List ℕ)) → l.units ≡ u ∷ us → delivered_on l ≡ line_of us 0
delivered_from l u us e = subst (λ (xs : List (List ℕ)). delivered_on (line_of xs l.lost) ≡ line_of us 0) (sym e) refl

pub heard_front : (l : LineState) (u : List ℕ) (us : List (List ℕ)) (old new : PortState) (given given' : List (List ℕ)) → l.units ≡ u ∷ us
    → HearsIfAny (front_of l) old new given given' → HearsUnit u old new given given'
heard_front l u us old new given given' e h = subst (λ (xs : List (List ℕ)). HearsIfAny (slice_get xs 0) old new given given') e h

-- ---- the segments of a fragment

-- pushed after these, the segments complete the fragment with the last of them, and nothing before
abbrev pub WillGive : List ℕ → List (List ℕ) → List (List ℕ) → Type 0
WillGive f pushed [] = ⊥
WillGive f pushed (x ∷ []) = (has_data x ≡ true) × IsWhole (x ∷ pushed) f
WillGive f pushed (x ∷ y ∷ segments) =
    (has_data x ≡ true) × ((g : List ℕ) → IsWhole (x ∷ pushed) g → ⊥) × WillGive f (x ∷ pushed) (y ∷ segments)

-- one more push, newest first
pushed_one : (before done : List (List ℕ)) (x : List ℕ) → pushed_after before (done ++ x ∷ []) ≡ x ∷ pushed_after before done
pushed_one before done x = ap (λ (xs : List (List ℕ)). xs ++ before) (reverse-append done (x ∷ []))

-- each of some segments has data
abbrev HaveData : List (List ℕ) → Type 0
HaveData [] = Unit {0}
HaveData (x ∷ xs) = (has_data x ≡ true) × HaveData xs

cuts_have_data : (f : List ℕ) (n : ℕ) (places : List ℕ) → HaveData (map (cut f n) places)
cuts_have_data f n [] = tt
cuts_have_data f n (k ∷ places) = (refl, cuts_have_data f n places)

gives_from : (f : List ℕ) (first : ℕ) (before : List (List ℕ)) → IsAssembled before f first → length (cuts f first) ≡ cut_count (length f)
    → (done : List (List ℕ)) (x : List ℕ) (segs : List (List ℕ)) → cuts f first ≡ done ++ x ∷ segs → HaveData (x ∷ segs)
    → WillGive f (pushed_after before done) (x ∷ segs)
gives_from f first before carried as_many done x [] cut_is have =
    (have.0, subst (λ (p : List (List ℕ)). IsWhole p f) (ap (pushed_after before) cut_is ∙ pushed_one before done x) carried.last)
gives_from f first before carried as_many done x (y ∷ segs) cut_is have =
    let done' : List (List ℕ) = done ++ x ∷ [] in
    let whole_cut : cuts f first ≡ done' ++ y ∷ segs = cut_is ∙ sym (append_assoc done (x ∷ []) (y ∷ segs)) in
    let front : take (length done') (cuts f first) ≡ done' =
    ap (take (length done')) whole_cut ∙ take_at done' (y ∷ segs) (length done') refl in
    let low_place : length done' < cut_count (length f) = omega (arith, as_many, ap length whole_cut, length-append done' (y ∷ segs)) in
    let some : 0 < length done' = omega (arith, length-append done (x ∷ [])) in
    let not_whole : (g : List ℕ) → IsWhole (x ∷ pushed_after before done) g → ⊥ =
    λ g whole. (carried.earlier (length done') some low_place).no_whole g
    (subst (λ (p : List (List ℕ)). IsWhole p g) (sym (ap (pushed_after before) front ∙ pushed_one before done x)) whole) in (
      have.0,
      not_whole,
      subst (λ (p : List (List ℕ)). WillGive f p (y ∷ segs)) (pushed_one before done x)
          (gives_from f first before carried as_many done' y segs whole_cut have.1),
    )

-- all of them, whatever was pushed before
pub cuts_will_give : Lower → (f : List ℕ) (first : ℕ) (before : List (List ℕ)) → 0 < length f → length f ≤ MAX_FRAGMENT
    → WillGive f before (cuts f first)
cuts_will_give low f first before some fits = from (cuts f first) refl (cuts_have_data f first (range_with_len 0 (cut_count (length f))))
  where
    as_many : length (cuts f first) ≡ cut_count (length f)
    as_many = length-map-range_with_len (cut f first) 0 (cut_count (length f))

    some_cut : 0 < length f → 0 < cut_count (length f)
    some_cut h = omega (arith, h)

    from : (cs : List (List ℕ)) → cuts f first ≡ cs → HaveData (cuts f first) → WillGive f before cs
    from [] e have = absurd (omega (arith, some_cut some, as_many, ap length e))
    from (x ∷ segs) e have =
        gives_from f first before (low.gives before f first some fits) as_many [] x segs e
        (subst (λ (cs : List (List ℕ)). HaveData cs) e have)
