-- The port is new, so its link layer answers as one that has heard nothing, and what it joins is the frame's user data
-- alone.
use Rattle.std.proofs.Common.{◌≡◌, ◌≢◌, ℕ, Bool, true, false, inl, inr, List, [], ◌∷◌, ◌++◌, Option, Result, Ok, Err, sym, ap, ◌∙◌, subst, refl}
use Rattle.std.specs.Prelude.{OnErr, option_to_list}
use Rattle.std.proofs.lemmas.Bool.{cases_Bool, both_ways, and_from, and_parts}
use Rattle.dnp_linkframe.specs.declared.frame.Frame.{Frame}
use Rattle.dnp_linkstation.specs.Station.{Ends, ends, answer, AreHeard as Answers}
use Rattle.dnp_transport.specs.Assembly.{ArePushed}
use Rattle.dnp_transport.specs.Series.{is_left_out, kept, IsWhole}
use Rattle.dnp_line.specs.Ports.{PortState, new_port, has_data, is_joined, Joins, TakesAfter, Takes, IsShown}
use Rattle.dnp_line.specs.declared.port.Taken.{Taken}
use Rattle.dnp_streams.specs.Station.{HandsUp, station_ends, replies, responses, AreSentBack, Answered, Heeds, Unheard}
use Rattle.dnp_streams.specs.Units.{frames_of, AreLinesOf}
use Rattle.dnp_streams.specs.steps.Appended.{AreAppended}
use Rattle.dnp_streams.proofs.Lines.{appended_more}

-- what a new port made of a frame
pub record HasTaken (own peer : ℕ) (frame : Frame) (new : PortState) (taken : Taken) : Type 0 where
  pub reply : option_to_list taken.reply ≡ replies own peer frame
  pub ends_are : ends new.link ≡ station_ends own peer
  pub number_is : new.number ≡ 0
  pub heard : taken.whole ≡ true → (octets : List ℕ) → IsShown new octets → HandsUp own peer frame octets
  pub unheard : taken.whole ≡ false → (fragment : List ℕ) → HandsUp own peer frame fragment → ⊥

-- what completes a fragment has data
whole_has_data : (user : List ℕ) (before : List (List ℕ)) (fragment : List ℕ) → IsWhole (user ∷ before) fragment → has_data user ≡ true
whole_has_data [] before fragment w =
    let split : [] ∷ before ≡ w.segment ∷ (w.recent ++ w.older) = w.split in
    let none : w.segment ≡ [] = cc in
    absurd (both_ways true (subst (λ (x : List ℕ). is_left_out (kept w.recent) x ≡ false) none w.stays) refl)
whole_has_data (octet ∷ octets) before fragment w = refl

pub has_taken : (own peer : ℕ) (old new : PortState) (frame : Frame) (taken : Taken) → old ≡ new_port own peer false → Answers [] old.link
    → ArePushed [] old.assembly → Takes old frame new taken → HasTaken own peer frame new taken
has_taken own peer old new frame taken is_new answers stands takes =
    let ends_are : ends old.link ≡ station_ends own peer = ap (λ (p : PortState). ends p.link) is_new in
    let user : List ℕ = frame.user.items in
    let after : TakesAfter [] [] old frame new taken = takes.after [] answers [] stands in
    record {
      reply =
          ap (λ (r : Option Frame). option_to_list r) after.replied
          ∙ ap (λ (e : Ends). option_to_list (answer e [] frame).reply) ends_are;
      ends_are = takes.same_ends ∙ ends_are;
      number_is = takes.same_number ∙ ap (λ (p : PortState). p.number) is_new;
      heard = λ whole octets shown.
          elim (cases_Bool (is_joined (ends old.link) [] frame)) [
            | inl joined ↦
                let j : Joins true [] user old.assembly new.assembly taken.whole =
                subst (λ (b : Bool). Joins b [] user old.assembly new.assembly taken.whole) joined after.joins in
                let made : (fragment : List ℕ) × IsWhole (user ∷ []) fragment = j.1.0 whole in
                let same : octets ≡ made.0 = (shown (user ∷ []) j.0).whole made.0 made.1 in
                record {
                  up =
                      subst (λ (e : Ends). (answer e [] frame).up ≡ true) ends_are
                      (and_parts (answer (ends old.link) [] frame).up (has_data user) joined).0;
                  whole = subst (λ (f : List ℕ). IsWhole (user ∷ []) f) (sym same) made.1;
                }
            | inr other ↦
                let j : Joins false [] user old.assembly new.assembly taken.whole =
                subst (λ (b : Bool). Joins b [] user old.assembly new.assembly taken.whole) other after.joins in
                absurd (both_ways taken.whole j.1 whole)
          ];
      unheard = λ silent fragment up.
          let up' : (answer (ends old.link) [] frame).up ≡ true = subst (λ (e : Ends). (answer e [] frame).up ≡ true) (sym ends_are) up.up in
          let j : Joins true [] user old.assembly new.assembly taken.whole =
          subst (λ (b : Bool). Joins b [] user old.assembly new.assembly taken.whole)
          (and_from (answer (ends old.link) [] frame).up (has_data user) up' (whole_has_data user [] fragment up.whole)) after.joins in
          both_ways taken.whole silent (j.1.1 (fragment, up.whole));
    }

-- nothing is handed up: the reply is all
pub reply_alone : (own peer : ℕ) (frame : Frame) (new : PortState) (taken : Taken) (none lines : List ℕ) → HasTaken own peer frame new taken
    → taken.whole ≡ false → none ≡ [] → AreAppended none (option_to_list taken.reply) lines
    → (back : List Frame) × AreSentBack own peer frame back × AreLinesOf back lines
reply_alone own peer frame new taken none lines h silent empty appended = (
  replies own peer frame,
  Unheard (h.unheard silent) refl,
  subst (λ (t : List ℕ). AreLinesOf (replies own peer frame) t)
      (sym (appended.whole ∙ ap (λ (t : List ℕ). t ++ appended.lines) empty))
      (subst (λ (fs : List Frame). AreLinesOf fs appended.lines) h.reply appended.are),
)

-- the reply, and after it what the outstation answers
pub reply_and_answer : (own peer : ℕ) (frame : Frame) (new : PortState) (taken : Taken) (fragment none begun lines : List ℕ) (send : List (List ℕ)) → HasTaken own peer frame new taken
    → taken.whole ≡ true → IsShown new fragment → none ≡ [] → AreAppended none (option_to_list taken.reply) begun → send ≡ responses fragment
    → AreAppended begun (frames_of (ends new.link) new.number send) lines
    → (back : List Frame) × AreSentBack own peer frame back × AreLinesOf back lines
reply_and_answer own peer frame new taken fragment none begun lines send h whole shown empty first sends second =
    let e = station_ends own peer in
    let all : AreAppended none (option_to_list taken.reply ++ frames_of (ends new.link) new.number send) lines =
    appended_more none begun lines (option_to_list taken.reply) (frames_of (ends new.link) new.number send) first second in
    let frames : option_to_list taken.reply ++ frames_of (ends new.link) new.number send ≡ replies own peer frame ++ frames_of e 0 (responses fragment) =
    ap (λ (r : List Frame). r ++ frames_of (ends new.link) new.number send) h.reply
    ∙ (ap (λ (o : Ends). replies own peer frame ++ frames_of o new.number send) h.ends_are
    ∙ (ap (λ (n : ℕ). replies own peer frame ++ frames_of e n send) h.number_is
    ∙ ap (λ (fs : List (List ℕ)). replies own peer frame ++ frames_of e 0 fs) sends)) in (
      replies own peer frame ++ frames_of e 0 (responses fragment),
      Answered fragment (h.heard whole fragment shown) refl,
      subst (λ (t : List ℕ). AreLinesOf (replies own peer frame ++ frames_of e 0 (responses fragment)) t)
          (sym (all.whole ∙ ap (λ (t : List ℕ). t ++ all.lines) empty))
          (subst (λ (fs : List Frame). AreLinesOf fs all.lines) frames all.are),
    )

-- ---- a frame that is heeded

-- what holds anyway holds of a refusal
pub on_err : {A E P : Type 0} (r : Result A E) → P → OnErr r P
on_err (Ok x) p = tt
on_err (Err e) p = p

-- its link layer replied
pub replied : (own peer : ℕ) (frame : Frame) (new : PortState) (taken : Taken) → HasTaken own peer frame new taken → option_to_list taken.reply ≢ [] → Heeds own peer frame
replied own peer frame new taken h some = inl (λ none. some (h.reply ∙ none))

-- it was handed up
pub heeded : (own peer : ℕ) (frame : Frame) (new : PortState) (taken : Taken) (fragment : List ℕ) → HasTaken own peer frame new taken → taken.whole ≡ true
    → IsShown new fragment → Heeds own peer frame
heeded own peer frame new taken fragment h whole shown = inr (fragment, h.heard whole fragment shown)
