-- The law of a link, step by step.
use Rattle.std.proofs.Common.{◌≡◌, ℕ, List, [], ◌∷◌, ◌++◌, take, drop, refl, sym, ap, ◌∙◌, subst, append_assoc, append-nil, take-append-drop, arith}
use Rattle.dnp_line.specs.Ports.{PortState}
use Rattle.dnp_linkframe.specs.declared.frame.Frame.{Frame}
use Rattle.dnp_linkframe.specs.Stream.{Gives}
use Rattle.dnp_streams.specs.streams.Spelled.{AreSpelled}
use Rattle.dnp_streams.specs.links.Deeds.{Deed, Ways, Acts, ActsAll, Carries, CarriesAll, frames_of, frames_in}
use Rattle.dnp_streams.specs.links.Laws.{Stands, Event, Fed, Made, Handed, HappenAll, deeds_in, fed_in}
use Rattle.dnp_streams.specs.links.Links.{LinkState, Feeds, Does, new_link}
use Rattle.dnp_streams.proofs.streams.Spelling.{spelled_none, spelled_joined}

-- ---- one step more

pub acts_more : {S : Type 0} (w : Ways S) (r s t : S) (deeds : List Deed) (deed : Deed) → ActsAll w r deeds s → Acts w s deed t → ActsAll w r (deeds ++ deed ∷ []) t
acts_more w r s t [] deed same one = (t, subst (λ x. Acts w x deed t) same one, refl)
acts_more w r s t (d ∷ deeds) deed (next, here, all) one = (next, here, acts_more w next s t deeds deed all one)

pub carries_more : (p q r : PortState) (deeds : List Deed) (deed : Deed) (frames more : List Frame) → CarriesAll p deeds frames q → Carries q deed more r
    → CarriesAll p (deeds ++ deed ∷ []) (frames ++ more) r
carries_more p q r [] deed frames more (none, same) one = (
  more,
  r,
  [],
  subst (λ (x : PortState). Carries x deed more r) same one,
  (refl, refl),
  ap (λ (l : List Frame). l ++ more) none ∙ sym (append-nil more),
)
carries_more p q r (d ∷ deeds) deed frames more (first, next, later, here, all, both) one = (
  first,
  next,
  later ++ more,
  here,
  carries_more next q r deeds deed later more all one,
  ap (λ (l : List Frame). l ++ more) both ∙ append_assoc first later more,
)

pub frames_in_more : (deeds : List Deed) (deed : Deed) → frames_in (deeds ++ deed ∷ []) ≡ frames_in deeds ++ frames_of deed
frames_in_more [] deed = append-nil (frames_of deed)
frames_in_more (d ∷ deeds) deed =
    ap (λ (l : List Frame). frames_of d ++ l) (frames_in_more deeds deed) ∙ sym (append_assoc (frames_of d) (frames_in deeds) (frames_of deed))

-- ---- what is done with a link

-- no octets give no frames
pub gives_none : Gives [] [] []
gives_none = record { decisions = 0; after = (refl, refl); waits = λ ten. absurd (omega (arith, ten)) }

pub stands_new : (p : PortState) → Stands p [] [] [] (new_link p)
stands_new p = record {
  frames = [];
  carries = (refl, refl);
  spelled = spelled_none;
  gives = gives_none;
}

pub stands_fed : (p : PortState) (deeds : List Deed) (received handed octets : List ℕ) (old new : LinkState) → Feeds old octets new → Stands p deeds received handed old
    → Stands p deeds (received ++ octets) handed new
stands_fed p deeds received handed octets old new feeds s =
    subst (λ (l : LinkState). Stands p deeds (received ++ octets) handed l) (sym feeds.after) record {
      frames = s.frames;
      carries = s.carries;
      spelled = s.spelled;
      gives =
          subst (λ (fs : List Frame). Gives (received ++ octets) fs feeds.partial) (append_assoc (frames_in deeds) old.waiting feeds.frames)
          (feeds.gives received (frames_in deeds ++ old.waiting) s.gives);
    }

pub stands_made : (p : PortState) (deeds : List Deed) (received handed : List ℕ) (deed : Deed) (old new : LinkState) → Does old deed new → Stands p deeds received handed old
    → Stands p (deeds ++ deed ∷ []) received handed new
stands_made p deeds received handed deed old new does s = record {
  frames = s.frames ++ does.frames;
  carries = carries_more p old.port new.port deeds deed s.frames does.frames s.carries does.carries;
  spelled =
      subst (λ (t : List ℕ). AreSpelled (s.frames ++ does.frames) t)
      (append_assoc handed old.pending does.put.octets ∙ ap (λ (t : List ℕ). handed ++ t) (sym does.put.whole))
      (spelled_joined s.frames does.frames (handed ++ old.pending) does.put.octets s.spelled does.put.spelled);
  gives =
      let here : frames_in deeds ++ old.waiting ≡ frames_in (deeds ++ deed ∷ []) ++ new.waiting =
      ap (λ (fs : List Frame). frames_in deeds ++ fs) does.waiting ∙ sym (append_assoc (frames_in deeds) (frames_of deed) new.waiting)
      ∙ ap (λ (fs : List Frame). fs ++ new.waiting) (sym (frames_in_more deeds deed)) in
      subst (λ (fs : List Frame). Gives received fs new.partial) here
      (subst (λ (t : List ℕ). Gives received (frames_in deeds ++ old.waiting) t) (sym does.partial) s.gives);
}

pub stands_written : (p : PortState) (deeds : List Deed) (received handed part rest : List ℕ) (link : LinkState) → link.pending ≡ part ++ rest
    → Stands p deeds received handed link → Stands p deeds received (handed ++ part) (record link { pending = rest })
stands_written p deeds received handed part rest link split s = record {
  frames = s.frames;
  carries = s.carries;
  spelled =
      subst (λ (t : List ℕ). AreSpelled s.frames t)
      (ap (λ (t : List ℕ). handed ++ t) split ∙ sym (append_assoc handed part rest)) s.spelled;
  gives = s.gives;
}

-- ---- whatever is done

pub stands_after : (p : PortState) (deeds : List Deed) (received handed : List ℕ) (old new : LinkState) (events : List Event) → Stands p deeds received handed old
    → HappenAll old events new → (more : List ℕ) × Stands p (deeds ++ deeds_in events) (received ++ fed_in events) (handed ++ more) new
stands_after p deeds received handed old new [] s same = (
  [],
  subst (λ (l : LinkState). Stands p (deeds ++ []) (received ++ []) (handed ++ []) l) (sym same)
      (subst (λ (ds : List Deed). Stands p ds (received ++ []) (handed ++ []) old) (sym (append-nil deeds))
      (subst (λ (t : List ℕ). Stands p deeds t (handed ++ []) old) (sym (append-nil received))
      (subst (λ (t : List ℕ). Stands p deeds received t old) (sym (append-nil handed)) s))),
)
stands_after p deeds received handed old new (Fed octets ∷ events) s (next, feeds, all) =
    let (more, stands) = stands_after p deeds (received ++ octets) handed next new events (stands_fed p deeds received handed octets old next feeds s) all in (
      more,
      subst (λ (t : List ℕ). Stands p (deeds ++ deeds_in events) t (handed ++ more) new) (append_assoc received octets (fed_in events)) stands,
    )
stands_after p deeds received handed old new (Made deed ∷ events) s (next, does, all) =
    let (more, stands) = stands_after p (deeds ++ deed ∷ []) received handed next new events (stands_made p deeds received handed deed old next does s) all in (
      more,
      subst (λ (ds : List Deed). Stands p ds (received ++ fed_in events) (handed ++ more) new) (append_assoc deeds (deed ∷ []) (deeds_in events)) stands,
    )
stands_after p deeds received handed old new (Handed count ∷ events) s (next, (few, same), all) =
    let part = take count old.pending in
    let now : Stands p deeds received (handed ++ part) next =
    subst (λ (l : LinkState). Stands p deeds received (handed ++ part) l) (sym same)
    (stands_written p deeds received handed part (drop count old.pending) old (sym (take-append-drop count old.pending)) s) in
    let (more, stands) = stands_after p deeds received (handed ++ part) next new events now all in (
      part ++ more,
      subst (λ (t : List ℕ). Stands p (deeds ++ deeds_in events) (received ++ fed_in events) t new) (append_assoc handed part more) stands,
    )
