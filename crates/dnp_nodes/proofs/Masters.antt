-- Calls of a master's side: runs of its link, and their ends.
use Rattle.std.proofs.Common.{◌≡◌, ◌⊎◌, ℕ, ◌≤◌, Bool, true, false, List, [], ◌∷◌, ◌++◌, refl, subst, sym, ap, ◌∙◌}
use Rattle.std.specs.Prelude.{◌||◌, ◌&&◌, not, if◌then◌else◌, min, length, All, IfSome, Option, Some, None, is_some}
use Rattle.std.specs.List.{list_any}
use Rattle.std.proofs.lemmas.List.{append_assoc}
use Rattle.std.proofs.lemmas.List.Elements.{All-append, All-cons, All-nil}
use Rattle.dnp_streams.specs.links.Deeds.{Deed, Ways}
use Rattle.dnp_streams.specs.links.Laws.{Event, Fed, Made, Handed}
use Rattle.dnp_streams.specs.links.Links.{Feeds, LinkState, Makes, after_sent}
use Rattle.dnp_nodes.proofs.Runs.{runs_none, runs_made, runs_fed, runs_handed, runs_then, noted_one, noted_then, over_now, no_longer}
use Rattle.dnp_nodes.specs.Callers.{Calls, Goes, DoesByItself, IsCut, basis_of, has_stored, is_up, link_of, stores, want_of}
use Rattle.dnp_nodes.specs.Runs.{Runs, wanted}
use Rattle.dnp_nodes.specs.declared.caller.Caller.{Caller}
use Rattle.dnp_nodes.specs.declared.slot.Closing.{Closing}
use Rattle.dnp_nodes.specs.declared.slot.Want.{Want}

-- nothing was done
pub goes_none : {S : Type 0} (w : Ways S) (h : Type 0) (now : ℕ) (old : Caller) (s : S) → Goes w h now [] (link_of old) old s (link_of old) s old
goes_none w h now old s = record { rest = []; each = All-nil (DoesByItself (basis_of old) now); runs = runs_none w h (link_of old) s; stored = refl }

-- a step that a call begins with
pub goes_first : {S : Type 0} (w : Ways S) (h : Type 0) (now : ℕ) (a b : LinkState) (old new : Caller) (s t : S) (deed : Deed) → Makes w h a s deed b t
    → link_of new ≡ b → has_stored new ≡ (stores (Made deed) || has_stored old) → Goes w h now (Made deed ∷ []) a old s (link_of new) t new
goes_first w h now a b old new s t deed made same stored = record {
  rest = [];
  each = All-nil (DoesByItself (basis_of old) now);
  runs = subst (λ link. Runs w h a s (Made deed ∷ []) link t) (sym same) (runs_made w h a b s t deed made);
  stored = noted_one stores (Made deed) (has_stored old) (has_stored new) stored;
}

-- a step that it makes by itself
pub goes_made : {S : Type 0} (w : Ways S) (h : Type 0) (now : ℕ) (a b : LinkState) (old new : Caller) (s t : S) (deed : Deed)
    → DoesByItself (basis_of old) now (Made deed) → Makes w h a s deed b t
    → link_of new ≡ b → has_stored new ≡ (stores (Made deed) || has_stored old) → Goes w h now [] a old s (link_of new) t new
goes_made w h now a b old new s t deed does made same stored = record {
  rest = Made deed ∷ [];
  each = All-cons (DoesByItself (basis_of old) now) (Made deed) [] does (All-nil (DoesByItself (basis_of old) now));
  runs = subst (λ link. Runs w h a s (Made deed ∷ []) link t) (sym same) (runs_made w h a b s t deed made);
  stored = noted_one stores (Made deed) (has_stored old) (has_stored new) stored;
}

-- it goes on
pub goes_then : {S : Type 0} (w : Ways S) (h h' : Type 0) (now : ℕ) (first : List Event) (a b c : LinkState) (old mid new : Caller) (s t u : S)
    → (h' → h) → basis_of mid ≡ basis_of old → Goes w h now first a old s b t mid → Goes w h' now [] b mid t c u new → Goes w h' now first a old s c u new
goes_then w h h' now first a b c old mid new s t u held same one two = record {
  rest = one.rest ++ two.rest;
  each = All-append (DoesByItself (basis_of old) now) one.rest two.rest one.each (subst (λ b. All (DoesByItself b now) two.rest) same two.each);
  runs = subst (λ events. Runs w h' a s events c u) (append_assoc first one.rest two.rest)
      (runs_then w h h' a b c s t u (first ++ one.rest) two.rest held one.runs two.runs);
  stored = noted_then stores (first ++ one.rest) two.rest (has_stored old) (has_stored mid) (has_stored new) one.stored two.stored
      ∙ ap (λ events. list_any stores events || has_stored old) (append_assoc first one.rest two.rest);
}

-- octets came, or were handed out
pub goes_fed : {S : Type 0} (w : Ways S) (h : Type 0) (now : ℕ) (a b : LinkState) (old mid : Caller) (s : S) (octets : List ℕ) → Feeds a octets b
    → has_stored mid ≡ has_stored old → Goes w h now (Fed octets ∷ []) a old s b s mid
goes_fed w h now a b old mid s octets fed stored = record {
  rest = [];
  each = All-nil (DoesByItself (basis_of old) now);
  runs = runs_fed w h a b s octets fed;
  stored = stored;
}

pub goes_handed : {S : Type 0} (w : Ways S) (h : Type 0) (now : ℕ) (old mid : Caller) (s : S) (count : ℕ)
    → link_of mid ≡ after_sent (link_of old) (min count (length (link_of old).pending)) → has_stored mid ≡ has_stored old
    → Goes w h now (Handed (min count (length (link_of old).pending)) ∷ []) (link_of old) old s (link_of mid) s mid
goes_handed w h now old mid s count handed stored = record {
  rest = [];
  each = All-nil (DoesByItself (basis_of old) now);
  runs = runs_handed w h (link_of old) (link_of mid) s count handed;
  stored = stored;
}

-- it begins from another value with the same basis
pub goes_from : {S : Type 0} (w : Ways S) (h : Type 0) (now : ℕ) (first : List Event) (a a' last : LinkState) (old old' new : Caller) (s t : S)
    → a' ≡ a → basis_of old' ≡ basis_of old → has_stored old' ≡ has_stored old → Goes w h now first a' old' s last t new → Goes w h now first a old s last t new
goes_from w h now first a a' last old old' new s t link same stored goes = record {
  rest = goes.rest;
  each = subst (λ b. All (DoesByItself b now) goes.rest) same goes.each;
  runs = subst (λ from. Runs w h from s (first ++ goes.rest) last t) link goes.runs;
  stored = goes.stored ∙ ap (λ b. list_any stores (first ++ goes.rest) || b) stored;
}

-- ---- the end of a call

pub called : {S : Type 0} (w : Ways S) (hung_up_of : S → S) (h h' : Type 0) (now : ℕ) (first : List Event) (a : LinkState) (want : Option Want)
    (old mid new : Caller) (s t u : S) (over : Option Closing) → (h' → h) → Goes w h now first a old s (link_of mid) t mid → is_up mid ≡ true → want_of mid ≡ want
    → is_up new ≡ (is_up mid && not (is_some over)) → (over ≡ None → link_of new ≡ link_of mid) → (h' → u ≡ (if is_some over then hung_up_of t else t))
    → want_of new ≡ wanted over (want_of mid) → has_stored new ≡ has_stored mid → Calls w hung_up_of h' now first a want old s new u
called w hung_up_of h h' now first a want old mid new s t u over held goes was_up wants up link state wanting stored = record {
  over = over;
  last = link_of mid;
  station = t;
  goes = record {
    rest = goes.rest;
    each = goes.each;
    runs = record { happen = goes.runs.happen; acts = λ honest. goes.runs.acts (held honest) };
    stored = stored ∙ goes.stored;
  };
  ends = record {
    up = over_now (is_up mid) (is_up new) over was_up up;
    link = link;
    state = state;
    want = wanting ∙ ap (wanted over) wants;
  };
}

pub cut : {S : Type 0} (hung_up_of : S → S) (h' : Type 0) (cause : Closing) (old mid new : Caller) (s t u : S) (over : Option Closing)
    → over ≡ Some cause → mid ≡ old → t ≡ s → is_up new ≡ (is_up mid && not (is_some over)) → (h' → u ≡ (if is_some over then hung_up_of t else t))
    → want_of new ≡ wanted over (want_of mid) → has_stored new ≡ has_stored mid → IsCut hung_up_of h' cause old s new u
cut hung_up_of h' cause old mid new s t u over is same at up state wanting stored = record {
  up = no_longer (is_up mid) (is_up new) cause over is up;
  state = λ honest. state honest ∙ ap (λ o. if is_some o then hung_up_of t else t) is ∙ ap hung_up_of at;
  want = wanting ∙ ap (λ o. wanted o (want_of mid)) is;
  stored = stored ∙ ap has_stored same;
}

-- so it is if anything took too long
pub cut_if : {S : Type 0} (hung_up_of : S → S) (h' : Type 0) (old mid new : Caller) (s t u : S) (over budget : Option Closing)
    → is_up new ≡ (is_up mid && not (is_some over)) → (h' → u ≡ (if is_some over then hung_up_of t else t))
    → want_of new ≡ wanted over (want_of mid) → has_stored new ≡ has_stored mid
    → IfSome budget (λ cause. (over ≡ Some cause) × (mid ≡ old) × (t ≡ s)) → IfSome budget (λ cause. IsCut hung_up_of h' cause old s new u)
cut_if hung_up_of h' old mid new s t u over None up state wanting stored some = some
cut_if hung_up_of h' old mid new s t u over (Some cause) up state wanting stored (is, same, at) =
    cut hung_up_of h' cause old mid new s t u over is same at up state wanting stored
