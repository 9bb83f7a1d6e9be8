-- The law of a link, step by step; `dnp_streams` keeps its own lemmas on it to itself.
use Rattle.std.proofs.Common.{◌≡◌, ℕ, List, [], ◌∷◌, ◌++◌, take, drop, refl, sym, ap, ◌∙◌, subst, append_assoc, append-nil, take-append-drop, arith}
use Rattle.std.specs.List.{concat}
use Rattle.std.proofs.lemmas.List.Folds.{concat-append}
use Rattle.dnp_line.specs.Ports.{PortState}
use Rattle.dnp_linkframe.specs.declared.frame.Frame.{Frame}
use Rattle.dnp_linkframe.specs.Stream.{Gives, SpellEach}
use Rattle.dnp_streams.specs.streams.Spelled.{AreSpelled}
use Rattle.dnp_streams.specs.links.Deeds.{Deed, Ways, Acts, ActsAll, Carries, CarriesAll, frames_of, frames_in}
use Rattle.dnp_streams.specs.links.Laws.{Stands}
use Rattle.dnp_streams.specs.links.Links.{LinkState, Feeds, Does, after_sent, new_link}

-- ---- frames that are spelled one after the other

each_joined : (us vs : List (List ℕ)) (fs gs : List Frame) → SpellEach us fs → SpellEach vs gs → SpellEach (us ++ vs) (fs ++ gs)
each_joined [] vs fs gs first second = subst (λ (l : List Frame). SpellEach vs (l ++ gs)) (sym first) second
each_joined (u ∷ us) vs [] gs first second = absurd first
each_joined (u ∷ us) vs (f ∷ fs) gs (here, later) second = (here, each_joined us vs fs gs later second)

spelled_none : AreSpelled [] []
spelled_none = record { units = []; spell = refl; joined = refl }

spelled_joined : (fs gs : List Frame) (a b : List ℕ) → AreSpelled fs a → AreSpelled gs b → AreSpelled (fs ++ gs) (a ++ b)
spelled_joined fs gs a b first second = record {
  units = first.units ++ second.units;
  spell = each_joined first.units second.units fs gs first.spell second.spell;
  joined =
      ap (λ (t : List ℕ). t ++ b) first.joined ∙ ap (λ (t : List ℕ). concat first.units ++ t) second.joined
      ∙ sym (concat-append first.units second.units);
}

-- ---- one step more

pub acts_more : {S : Type 0} (w : Ways S) (r s t : S) (deeds : List Deed) (deed : Deed) → ActsAll w r deeds s → Acts w s deed t → ActsAll w r (deeds ++ deed ∷ []) t
acts_more w r s t [] deed same one = (t, subst (λ x. Acts w x deed t) same one, refl)
acts_more w r s t (d ∷ deeds) deed (next, here, all) one = (next, here, acts_more w next s t deeds deed all one)

carries_more : (p q r : PortState) (deeds : List Deed) (deed : Deed) (frames more : List Frame) → CarriesAll p deeds frames q → Carries q deed more r
    → CarriesAll p (deeds ++ deed ∷ []) (frames ++ more) r
carries_more p q r [] deed frames more (none, same) one = (
  more,
  r,
  [],
  subst (λ (x : PortState). Carries x deed more r) same one,
  (refl, refl),
  ap (λ (l : List Frame). l ++ more) none ∙ sym (append-nil more),
)
carries_more p q r (d ∷ deeds) deed frames more (first, next, later, here, all, both) one = (
  first,
  next,
  later ++ more,
  here,
  carries_more next q r deeds deed later more all one,
  ap (λ (l : List Frame). l ++ more) both ∙ append_assoc first later more,
)

frames_in_more : (deeds : List Deed) (deed : Deed) → frames_in (deeds ++ deed ∷ []) ≡ frames_in deeds ++ frames_of deed
frames_in_more [] deed = append-nil (frames_of deed)
frames_in_more (d ∷ deeds) deed =
    ap (λ (l : List Frame). frames_of d ++ l) (frames_in_more deeds deed) ∙ sym (append_assoc (frames_of d) (frames_in deeds) (frames_of deed))

-- ---- what is done with a link

-- no octets give no frames
gives_none : Gives [] [] []
gives_none = record { decisions = 0; after = (refl, refl); waits = λ ten. absurd (omega (arith, ten)) }

pub stands_new : (p : PortState) → Stands p [] [] [] (new_link p)
stands_new p = record {
  frames = [];
  carries = (refl, refl);
  spelled = spelled_none;
  gives = gives_none;
}

pub stands_fed : (p : PortState) (deeds : List Deed) (received handed octets : List ℕ) (old new : LinkState) → Feeds old octets new → Stands p deeds received handed old
    → Stands p deeds (received ++ octets) handed new
stands_fed p deeds received handed octets old new feeds s =
    subst (λ (l : LinkState). Stands p deeds (received ++ octets) handed l) (sym feeds.after) record {
      frames = s.frames;
      carries = s.carries;
      spelled = s.spelled;
      gives =
          subst (λ (fs : List Frame). Gives (received ++ octets) fs feeds.partial) (append_assoc (frames_in deeds) old.waiting feeds.frames)
          (feeds.gives received (frames_in deeds ++ old.waiting) s.gives);
    }

pub stands_made : (p : PortState) (deeds : List Deed) (received handed : List ℕ) (deed : Deed) (old new : LinkState) → Does old deed new → Stands p deeds received handed old
    → Stands p (deeds ++ deed ∷ []) received handed new
stands_made p deeds received handed deed old new does s = record {
  frames = s.frames ++ does.frames;
  carries = carries_more p old.port new.port deeds deed s.frames does.frames s.carries does.carries;
  spelled =
      subst (λ (t : List ℕ). AreSpelled (s.frames ++ does.frames) t)
      (append_assoc handed old.pending does.put.octets ∙ ap (λ (t : List ℕ). handed ++ t) (sym does.put.whole))
      (spelled_joined s.frames does.frames (handed ++ old.pending) does.put.octets s.spelled does.put.spelled);
  gives =
      let here : frames_in deeds ++ old.waiting ≡ frames_in (deeds ++ deed ∷ []) ++ new.waiting =
      ap (λ (fs : List Frame). frames_in deeds ++ fs) does.waiting ∙ sym (append_assoc (frames_in deeds) (frames_of deed) new.waiting)
      ∙ ap (λ (fs : List Frame). fs ++ new.waiting) (sym (frames_in_more deeds deed)) in
      subst (λ (fs : List Frame). Gives received fs new.partial) here
      (subst (λ (t : List ℕ). Gives received (frames_in deeds ++ old.waiting) t) (sym does.partial) s.gives);
}

pub stands_sent : (p : PortState) (deeds : List Deed) (received handed : List ℕ) (count : ℕ) (old : LinkState) → Stands p deeds received handed old
    → Stands p deeds received (handed ++ take count old.pending) (after_sent old count)
stands_sent p deeds received handed count old s = record {
  frames = s.frames;
  carries = s.carries;
  spelled =
      subst (λ (t : List ℕ). AreSpelled s.frames t)
      (sym (append_assoc handed (take count old.pending) (drop count old.pending) ∙ ap (λ (t : List ℕ). handed ++ t) (take-append-drop count old.pending)))
      s.spelled;
  gives = s.gives;
}
