-- A way that is clear delivers what is sent on it.
use Rattle.std.proofs.Common.{◌≡◌, ℕ, zero, suc, ◌+◌, ◌<◌, ◌≤◌, true, false, ◌⊎◌, inl, inr, List, [], ◌∷◌, ◌++◌, length, take, map, refl, sym, ap, ◌∙◌, subst, arith, append_assoc}
use Rattle.std.specs.Prelude.{slice_get, replicate}
use Rattle.std.specs.List.{range_with_len}
use Rattle.std.proofs.lemmas.Bool.{cases_Bool, cond-true, cond-false}
use Rattle.std.proofs.lemmas.Bool.Decides.{nat_tests}
use Rattle.std.proofs.lemmas.List.{append-nil, take-append-le, reverse-append, length-append}
use Rattle.std.proofs.lemmas.List.FromFn.{length-map-range_with_len}
use Rattle.dnp_linkframe.specs.Frames.{Spells}
use Rattle.dnp_linkframe.specs.declared.frame.Frame.{Frame}
use Rattle.dnp_linkstation.specs.Station.{ends, opposite, AreHeard as Answers}
use Rattle.dnp_transport.specs.Assembly.{ArePushed}
use Rattle.dnp_transport.specs.Cuts.{cut_count, cut, cuts}
use Rattle.dnp_transport.specs.Laws.{IsAssembled, pushed_after}
use Rattle.dnp_transport.specs.Series.{IsWhole}
use Rattle.dnp_line.specs.Clear.{IsClear, all_sent, all_delivered}
use Rattle.dnp_line.specs.Flows.{AreFacing, segment_total}
use Rattle.dnp_line.specs.Lines.{LineState, line_of, quiet_line, is_broken, front_of, delivered_on}
use Rattle.dnp_line.specs.Ports.{PortState, data_frame, moved_on, HasHistory, has_data, is_joined, Joins, TakesAfter, Takes}
use Rattle.dnp_line.specs.Ways.{Way, HearsUnit, AFrame, NoFrame, HearsIfAny, AreSpelled, Sends, SendsUnlessMute, Deliver, Happens, Runs}
use Rattle.dnp_line.specs.steps.Lower.{Lower}
use Rattle.dnp_line.proofs.OnLine.{all_sent as all_sent_line}
use Rattle.dnp_line.proofs.Hearing.{sent_joins, has_joined}
use Rattle.dnp_line.specs.declared.line.TheConstants.{BROKEN_LOSSES}
use Rattle.dnp_transport.specs.declared.limits.TheConstants.{MAX_FRAGMENT}

-- what the receiver's port makes of the unit of a segment
record HasTaken (s new : PortState) (x : List ℕ) (pushed given given' : List (List ℕ)) : Type 0 where
  facing : AreFacing s new
  heard : List Frame
  answers : Answers heard new.link
  stands : ArePushed (x ∷ pushed) new.assembly
  none : ((g : List ℕ) → IsWhole (x ∷ pushed) g → ⊥) → given' ≡ given
  one : (g : List ℕ) → IsWhole (x ∷ pushed) g → given' ≡ given ++ g ∷ []

has_taken : Lower → (s old new : PortState) (u x : List ℕ) (heard : List Frame) (pushed given given' : List (List ℕ)) → has_data x ≡ true
    → AreFacing s old → Answers heard old.link → ArePushed pushed old.assembly → Spells u (data_frame s x) → HearsUnit u old new given given'
    → HasTaken s new x pushed given given'
has_taken low s old new u x heard pushed given given' some facing answers stands spells hears =
    elim hears [
      | NoFrame none same e ↦ absurd (none (data_frame s x, spells))
      | AFrame frame taken f spelled takes shown e ↦
          let same : frame ≡ data_frame s x = low.one_frame u frame (data_frame s x) spelled spells in
          let t : Takes old (data_frame s x) new taken = subst (λ (g : Frame). Takes old g new taken) same takes in
          let after : TakesAfter heard pushed old (data_frame s x) new taken = t.after heard answers pushed stands in
          let joins : Joins true pushed x old.assembly new.assembly taken.whole =
          has_joined (is_joined (ends old.link) heard (data_frame s x)) pushed x old.assembly new.assembly taken.whole
          (sent_joins low s old x heard facing some) after.joins in
          record {
            facing = t.same_ends ∙ facing;
            heard = data_frame s x ∷ heard;
            answers = after.answers;
            stands = joins.0;
            none = λ not_whole.
                elim (cases_Bool taken.whole) [
                  | inl completes ↦ let found = joins.1.0 completes in absurd (not_whole found.0 found.1)
                  | inr completes_none ↦ e ∙ cond-false taken.whole (given ++ f ∷ []) given completes_none
                ];
            one = λ g whole.
                let completes : taken.whole ≡ true = joins.1.1 (g, whole) in
                let f_is : f ≡ g = (shown (x ∷ pushed) joins.0).whole g whole in
                e ∙ cond-true taken.whole (given ++ f ∷ []) given completes ∙ ap (λ (h : List ℕ). given ++ h ∷ []) f_is;
          }
    ]

delivered_from : (l : LineState) (u : List ℕ) (us : List (List ℕ)) → l.units ≡ u ∷ us → delivered_on l ≡ line_of us 0
delivered_from l u us e = subst (λ (xs : List (List ℕ)). delivered_on (line_of xs l.lost) ≡ line_of us 0) (sym e) refl

heard_front : (l : LineState) (u : List ℕ) (us : List (List ℕ)) (old new : PortState) (given given' : List (List ℕ)) → l.units ≡ u ∷ us
    → HearsIfAny (front_of l) old new given given' → HearsUnit u old new given given'
heard_front l u us old new given given' e h =
    subst (λ (xs : List (List ℕ)). HearsIfAny (slice_get xs 0) old new given given') e h

whole_taken : (xs : List (List ℕ)) → take (length xs) xs ≡ xs
whole_taken [] = refl
whole_taken (x ∷ xs) = ap (λ (ys : List (List ℕ)). x ∷ ys) (whole_taken xs)

-- one more push, newest first
pushed_one : (before done : List (List ℕ)) (x : List ℕ) → pushed_after before (done ++ x ∷ []) ≡ x ∷ pushed_after before done
pushed_one before done x = ap (λ (xs : List (List ℕ)). xs ++ before) (reverse-append done (x ∷ []))

-- each of some segments has data
abbrev HaveData : List (List ℕ) → Type 0
HaveData [] = Unit {0}
HaveData (x ∷ xs) = (has_data x ≡ true) × HaveData xs

cuts_have_data : (f : List ℕ) (n : ℕ) (places : List ℕ) → HaveData (map (cut f n) places)
cuts_have_data f n [] = tt
cuts_have_data f n (k ∷ places) = (refl, cuts_have_data f n places)

-- one unit was delivered
record HasCome (s : PortState) (x : List ℕ) (pushed us : List (List ℕ)) (w new : Way) : Type 0 where
  taken : HasTaken s new.receiver x pushed w.given new.given
  line : new.line ≡ line_of us 0
  sender : new.sender ≡ w.sender
  mute : new.mute ≡ w.mute

one_comes : Lower → (s : PortState) (u x : List ℕ) (us : List (List ℕ)) (w new : Way) (heard : List Frame) (pushed : List (List ℕ))
    → has_data x ≡ true → w.line.units ≡ u ∷ us → Spells u (data_frame s x) → AreFacing s w.receiver → Answers heard w.receiver.link
    → ArePushed pushed w.receiver.assembly → Happens w Deliver new → HasCome s x pushed us w new
one_comes low s u x us w new heard pushed some units spells facing answers stands b =
    let is : new ≡ record w { line = delivered_on w.line; receiver = b.receiver; given = b.given } = b.after in
    record {
      taken =
          subst (λ (v : Way). HasTaken s v.receiver x pushed w.given v.given) (sym is)
          (has_taken low s w.receiver b.receiver u x heard pushed w.given b.given some facing answers stands spells
          (heard_front w.line u us w.receiver b.receiver w.given b.given units b.heard));
      line = ap (λ (v : Way). v.line) is ∙ delivered_from w.line u us units;
      sender = ap (λ (v : Way). v.sender) is;
      mute = ap (λ (v : Way). v.mute) is;
    }

-- all units of a fragment were delivered, in front of others
record HasDelivered (s : PortState) (f : List ℕ) (tail : List (List ℕ)) (w new : Way) : Type 0 where
  given : new.given ≡ w.given ++ f ∷ []
  line : new.line ≡ line_of tail 0
  facing : AreFacing s new.receiver
  history : HasHistory new.receiver
  sender : new.sender ≡ w.sender
  mute : new.mute ≡ w.mute

delivers : Lower → (s : PortState) (f : List ℕ) (first : ℕ) (before : List (List ℕ)) → IsAssembled before f first
    → length (cuts f first) ≡ cut_count (length f)
    → (done : List (List ℕ)) (x : List ℕ) (segs units tail : List (List ℕ)) (w new : Way) (heard : List Frame)
    → cuts f first ≡ done ++ x ∷ segs → HaveData (x ∷ segs) → w.line.units ≡ units ++ tail → AreSpelled s (x ∷ segs) units → AreFacing s w.receiver
    → Answers heard w.receiver.link → ArePushed (pushed_after before done) w.receiver.assembly
    → Runs w (replicate (suc (length segs)) Deliver) new → HasDelivered s f tail w new
delivers low s f first before carried as_many done x [] units tail w new heard cut_is have line spelled facing answers stands runs =
    let u : List ℕ = spelled.0 in
    let us : List (List ℕ) = spelled.1 in
    let units_is : w.line.units ≡ u ∷ (us ++ tail) = line ∙ ap (λ (l : List (List ℕ)). l ++ tail) spelled.4 in
    let come : HasCome s x (pushed_after before done) (us ++ tail) w runs.0 =
    one_comes low s u x (us ++ tail) w runs.0 heard (pushed_after before done) have.0 units_is spelled.2 facing answers stands runs.1 in
    let whole : IsWhole (x ∷ pushed_after before done) f =
    subst (λ (p : List (List ℕ)). IsWhole p f) (ap (pushed_after before) cut_is ∙ pushed_one before done x) carried.last in
    subst (λ (v : Way). HasDelivered s f tail w v) (sym runs.2)
    record {
      given = come.taken.one f whole;
      line = come.line ∙ ap (λ (l : List (List ℕ)). line_of (l ++ tail) 0) spelled.3;
      facing = come.taken.facing;
      history = record { heard = come.taken.heard; answers = come.taken.answers; pushed = x ∷ pushed_after before done; stands = come.taken.stands };
      sender = come.sender;
      mute = come.mute;
    }
delivers low s f first before carried as_many done x (y ∷ segs) units tail w new heard cut_is have line spelled facing answers stands runs =
    let u : List ℕ = spelled.0 in
    let us : List (List ℕ) = spelled.1 in
    let next : Way = runs.0 in
    let units_is : w.line.units ≡ u ∷ (us ++ tail) = line ∙ ap (λ (l : List (List ℕ)). l ++ tail) spelled.4 in
    let come : HasCome s x (pushed_after before done) (us ++ tail) w next =
    one_comes low s u x (us ++ tail) w next heard (pushed_after before done) have.0 units_is spelled.2 facing answers stands runs.1 in
    let done' : List (List ℕ) = done ++ x ∷ [] in
    let whole_cut : cuts f first ≡ done' ++ y ∷ segs = cut_is ∙ sym (append_assoc done (x ∷ []) (y ∷ segs)) in
    let front : take (length done') (cuts f first) ≡ done' =
    ap (take (length done')) whole_cut ∙ take-append-le (length done') done' (y ∷ segs) (omega arith) ∙ whole_taken done' in
    let low_place : length done' < cut_count (length f) =
    omega (arith, as_many, ap length whole_cut, length-append done' (y ∷ segs)) in
    let some : 0 < length done' = omega (arith, length-append done (x ∷ [])) in
    let not_whole : (g : List ℕ) → IsWhole (x ∷ pushed_after before done) g → ⊥ =
    λ g whole. (carried.earlier (length done') some low_place).no_whole g
    (subst (λ (p : List (List ℕ)). IsWhole p g) (sym (ap (pushed_after before) front ∙ pushed_one before done x)) whole) in
    let rest : HasDelivered s f tail next new =
    delivers low s f first before carried as_many done' y segs us tail next new come.taken.heard whole_cut have.1
    (ap (λ (l : LineState). l.units) come.line) spelled.3 come.taken.facing come.taken.answers
    (subst (λ (p : List (List ℕ)). ArePushed p next.receiver.assembly) (sym (pushed_one before done x)) come.taken.stands) runs.2 in
    record {
      given = rest.given ∙ ap (λ (g : List (List ℕ)). g ++ f ∷ []) (come.taken.none not_whole);
      line = rest.line;
      facing = rest.facing;
      history = rest.history;
      sender = rest.sender ∙ come.sender;
      mute = rest.mute ∙ come.mute;
    }

-- the units of one fragment, in front of others
fragment_comes : Lower → (s : PortState) (f : List ℕ) (units tail : List (List ℕ)) (w new : Way) → 0 < length f → length f ≤ MAX_FRAGMENT
    → AreSpelled s (cuts f s.number) units → w.line.units ≡ units ++ tail → AreFacing s w.receiver → HasHistory w.receiver
    → Runs w (replicate (cut_count (length f)) Deliver) new → HasDelivered s f tail w new
fragment_comes low s f units tail w new some fits spelled line facing history runs =
    from (cuts f s.number) refl (cuts_have_data f s.number (range_with_len 0 (cut_count (length f))))
  where
    as_many : length (cuts f s.number) ≡ cut_count (length f)
    as_many = length-map-range_with_len (cut f s.number) 0 (cut_count (length f))

    some_cut : 0 < length f → 0 < cut_count (length f)
    some_cut h = omega (arith, h)

    from : (cs : List (List ℕ)) → cuts f s.number ≡ cs → HaveData (cuts f s.number) → HasDelivered s f tail w new
    from [] e have = absurd (omega (arith, some_cut some, as_many, ap length e))
    from (x ∷ segs) e have =
        let count : cut_count (length f) ≡ suc (length segs) = omega (arith, as_many, ap length e) in
        delivers low s f s.number history.pushed (low.gives history.pushed f s.number some fits) as_many [] x segs units tail w new
        history.heard e (subst (λ (cs : List (List ℕ)). HaveData cs) e have) line
        (subst (λ (cs : List (List ℕ)). AreSpelled s cs units) e spelled) facing history.answers history.stands
        (subst (λ (n : ℕ). Runs w (replicate n Deliver) new) count runs)

-- the units of some fragments, which the port sends one after the other
abbrev AreLoaded : PortState → List (List ℕ) → List (List ℕ) → Type 0
AreLoaded s [] units = units ≡ []
AreLoaded s (f ∷ fs) units =
    (us : List (List ℕ)) × (rest : List (List ℕ)) × (0 < length f) × (length f ≤ MAX_FRAGMENT) × AreSpelled s (cuts f s.number) us
    × AreLoaded (moved_on (cut_count (length f)) s) fs rest × (units ≡ us ++ rest)

-- the fragments were sent
record IsLoaded (w sent : Way) (fs : List (List ℕ)) : Type 0 where
  units : List (List ℕ)
  loaded : AreLoaded w.sender fs units
  line : sent.line ≡ line_of (w.line.units ++ units) w.line.lost
  receiver : sent.receiver ≡ w.receiver
  given : sent.given ≡ w.given
  mute : sent.mute ≡ w.mute
  same_ends : ends sent.sender.link ≡ ends w.sender.link

loads : (w sent : Way) (fs : List (List ℕ)) → w.mute ≡ false → w.line.lost < BROKEN_LOSSES → Runs w (all_sent fs) sent → IsLoaded w sent fs
loads w sent [] mute few runs =
    subst (λ (v : Way). IsLoaded w v []) (sym runs)
    record {
      units = [];
      loaded = refl;
      line = ap (λ (us : List (List ℕ)). line_of us w.line.lost) (sym (append-nil w.line.units));
      receiver = refl;
      given = refl;
      mute = refl;
      same_ends = refl;
    }
loads w sent (f ∷ fs) mute few runs =
    let next : Way = runs.0 in
    let s : Sends f w next = subst (λ (b : _). SendsUnlessMute b f w next) mute runs.1 in
    let line : next.line ≡ line_of (w.line.units ++ s.units) w.line.lost =
    ap (λ (v : Way). v.line) s.after ∙ all_sent_line s.units w.line.units w.line.lost few in
    let lost : next.line.lost ≡ w.line.lost = ap (λ (l : LineState). l.lost) line in
    let rest : IsLoaded next sent fs =
    loads next sent fs (ap (λ (v : Way). v.mute) s.after ∙ mute) (subst (λ (n : ℕ). n < BROKEN_LOSSES) (sym lost) few) runs.2 in
    record {
      units = s.units ++ rest.units;
      loaded = (
        s.units,
        rest.units,
        s.some,
        s.fits,
        s.spelled,
        subst (λ (p : PortState). AreLoaded p fs rest.units) (ap (λ (v : Way). v.sender) s.after) rest.loaded,
        refl,
      );
      line =
          rest.line ∙ ap (λ (n : ℕ). line_of (next.line.units ++ rest.units) n) lost
          ∙ ap (λ (l : LineState). line_of (l.units ++ rest.units) w.line.lost) line
          ∙ ap (λ (us : List (List ℕ)). line_of us w.line.lost) (append_assoc w.line.units s.units rest.units);
      receiver = rest.receiver ∙ ap (λ (v : Way). v.receiver) s.after;
      given = rest.given ∙ ap (λ (v : Way). v.given) s.after;
      mute = rest.mute ∙ ap (λ (v : Way). v.mute) s.after;
      same_ends = rest.same_ends ∙ ap (λ (v : Way). ends v.sender.link) s.after;
    }

-- deliveries of two fragments' units
runs_two : (m n : ℕ) (w new : Way) → Runs w (replicate (m + n) Deliver) new
    → (mid : Way) × Runs w (replicate m Deliver) mid × Runs mid (replicate n Deliver) new
runs_two zero n w new runs = (w, refl, subst (λ (k : ℕ). Runs w (replicate k Deliver) new) (omega arith) runs)
runs_two (suc m) n w new runs =
    let more : suc m + n ≡ suc (m + n) = omega arith in
    let r : Runs w (replicate (suc (m + n)) Deliver) new = subst (λ (k : ℕ). Runs w (replicate k Deliver) new) more runs in
    let t = runs_two m n r.0 new r.2 in
    (t.0, (r.0, r.1, t.1), t.2)

-- the fragments came
record HaveCome (s : PortState) (fs : List (List ℕ)) (w new : Way) : Type 0 where
  given : new.given ≡ w.given ++ fs
  line : (new.line ≡ quiet_line) ⊎ ((fs ≡ []) × (new.line ≡ w.line))
  facing : AreFacing s new.receiver
  history : HasHistory new.receiver
  sender : new.sender ≡ w.sender
  mute : new.mute ≡ w.mute

come : Lower → (s : PortState) (fs units : List (List ℕ)) (w new : Way) → AreLoaded s fs units → w.line.units ≡ units → AreFacing s w.receiver
    → HasHistory w.receiver → Runs w (all_delivered fs) new → HaveCome s fs w new
come low s [] units w new loaded line facing history runs =
    subst (λ (v : Way). HaveCome s [] w v) (sym runs)
    record {
      given = sym (append-nil w.given);
      line = inr (refl, refl);
      facing = facing;
      history = history;
      sender = refl;
      mute = refl;
    }
come low s (f ∷ fs) units w new (us, rest, some, fits, spelled, later, split) line facing history runs =
    let two = runs_two (cut_count (length f)) (segment_total fs) w new runs in
    let mid : Way = two.0 in
    let d : HasDelivered s f rest w mid =
    fragment_comes low s f us rest w mid some fits spelled (line ∙ split) facing history two.1 in
    let mid_units : mid.line.units ≡ rest = ap (λ (l : LineState). l.units) d.line in
    let h : HaveCome (moved_on (cut_count (length f)) s) fs mid new =
    come low (moved_on (cut_count (length f)) s) fs rest mid new later mid_units d.facing d.history two.2 in
    record {
      given = h.given ∙ ap (λ (g : List (List ℕ)). g ++ fs) d.given ∙ append_assoc w.given (f ∷ []) fs;
      line =
          elim h.line [
            | inl quiet ↦ inl quiet
            | inr none ↦ inl (none.1 ∙ d.line ∙ ap (λ (l : List (List ℕ)). line_of l 0) (none_left fs rest none.0 later))
          ];
      facing = h.facing;
      history = h.history;
      sender = h.sender ∙ d.sender;
      mute = h.mute ∙ d.mute;
    }
  where
    none_left : (gs units : List (List ℕ)) → gs ≡ [] → AreLoaded (moved_on (cut_count (length f)) s) gs units → units ≡ []
    none_left [] units e loaded = loaded
    none_left (g ∷ gs) units e loaded = absurd (cc)

-- what came of a clear way, and it is clear again
pub record ComesOut (fs : List (List ℕ)) (old new : Way) : Type 0 where
  pub given : new.given ≡ old.given ++ fs
  pub line : (new.line ≡ quiet_line) ⊎ (fs ≡ [])
  pub clear : IsClear new

pub comes_out : Lower → (old sent new : Way) (fs : List (List ℕ)) → IsClear old → Runs old (all_sent fs) sent → Runs sent (all_delivered fs) new
    → ComesOut fs old new
comes_out low old sent new fs clear sends delivers =
    let few : old.line.lost < BROKEN_LOSSES = unbroken_few old.line.lost clear.unbroken in
    let l : IsLoaded old sent fs = loads old sent fs clear.audible few sends in
    let sent_line : sent.line ≡ line_of l.units old.line.lost =
    l.line ∙ ap (λ (us : List (List ℕ)). line_of (us ++ l.units) old.line.lost) clear.empty in
    let h : HaveCome old.sender fs sent new =
    come low old.sender fs l.units sent new l.loaded (ap (λ (m : LineState). m.units) sent_line)
    (subst (λ (p : PortState). AreFacing old.sender p) (sym l.receiver) clear.facing)
    (subst (λ (p : PortState). HasHistory p) (sym l.receiver) clear.history) delivers in
    let facing : AreFacing new.sender new.receiver =
    h.facing ∙ ap (λ e. opposite e) (sym (ap (λ (p : PortState). ends p.link) h.sender ∙ l.same_ends)) in
    let given : new.given ≡ old.given ++ fs = h.given ∙ ap (λ (g : List (List ℕ)). g ++ fs) l.given in
    let mute : new.mute ≡ false = h.mute ∙ l.mute ∙ clear.audible in
    elim h.line [
      | inl quiet ↦
          record {
            given = given;
            line = inl quiet;
            clear = record { facing = facing; audible = mute; empty = ap (λ (m : LineState). m.units) quiet; unbroken = ap (λ (m : LineState). is_broken m) quiet; history = h.history };
          }
      | inr none ↦
          record {
            given = given;
            line = inr none.0;
            clear = record {
              facing = facing;
              audible = mute;
              empty = ap (λ (m : LineState). m.units) (none.1 ∙ sent_line) ∙ nothing_loaded fs l.units none.0 l.loaded;
              unbroken = ap (λ (m : LineState). is_broken m) (none.1 ∙ sent_line) ∙ clear.unbroken;
              history = h.history;
            };
          }
    ]
  where
    unbroken_few : (lost : ℕ) → is_broken (line_of old.line.units lost) ≡ false → lost < BROKEN_LOSSES
    unbroken_few lost h = grind (arith, nat_tests)

    nothing_loaded : (gs units : List (List ℕ)) → gs ≡ [] → AreLoaded old.sender gs units → units ≡ []
    nothing_loaded [] units e loaded = loaded
    nothing_loaded (g ∷ gs) units e loaded = absurd (cc)
