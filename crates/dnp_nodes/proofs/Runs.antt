-- Runs of links, one after the other.
use Rattle.std.proofs.Common.{arith, ◌≡◌, ℕ, Bool, true, false, List, [], ◌∷◌, ◌++◌, refl, subst, sym, ap, ◌∙◌}
use Rattle.std.specs.Prelude.{◌||◌, ◌&&◌, not, length, min, Option, Some, None, is_some}
use Rattle.std.specs.List.{list_any}
use Rattle.std.proofs.lemmas.List.Folds.{list_any-append}
use Rattle.dnp_streams.specs.links.Deeds.{ActsAll, Deed, Ways}
use Rattle.dnp_streams.specs.links.Laws.{Event, Fed, Made, Handed, HappenAll, deeds_in}
use Rattle.dnp_streams.specs.links.Links.{Feeds, LinkState, Makes, after_sent}
use Rattle.dnp_nodes.specs.Runs.{Runs}
use Rattle.dnp_nodes.specs.declared.slot.Closing.{Closing}

happen_then : (a b c : LinkState) (xs ys : List Event) → HappenAll a xs b → HappenAll b ys c → HappenAll a (xs ++ ys) c
happen_then a b c [] ys same all = subst (λ x. HappenAll x ys c) same all
happen_then a b c (x ∷ xs) ys (next, here, rest) all = (next, here, happen_then next b c xs ys rest all)

acts_then : {S : Type 0} (w : Ways S) (s t u : S) (xs ys : List Event) → ActsAll w s (deeds_in xs) t → ActsAll w t (deeds_in ys) u → ActsAll w s (deeds_in (xs ++ ys)) u
acts_then w s t u [] ys same all = subst (λ x. ActsAll w x (deeds_in ys) u) same all
acts_then w s t u (Made deed ∷ xs) ys (next, here, rest) all = (next, here, acts_then w next t u xs ys rest all)
acts_then w s t u (Fed octets ∷ xs) ys rest all = acts_then w s t u xs ys rest all
acts_then w s t u (Handed count ∷ xs) ys rest all = acts_then w s t u xs ys rest all

pub runs_then : {S : Type 0} (w : Ways S) (h h' : Type 0) (a b c : LinkState) (s t u : S) (xs ys : List Event) → (h' → h)
    → Runs w h a s xs b t → Runs w h' b t ys c u → Runs w h' a s (xs ++ ys) c u
runs_then w h h' a b c s t u xs ys held first second = record {
  happen = happen_then a b c xs ys first.happen second.happen;
  acts = λ honest. acts_then w s t u xs ys (first.acts (held honest)) (second.acts honest);
}

pub runs_none : {S : Type 0} (w : Ways S) (h : Type 0) (a : LinkState) (s : S) → Runs w h a s [] a s
runs_none w h a s = record { happen = refl; acts = λ honest. refl }

pub runs_made : {S : Type 0} (w : Ways S) (h : Type 0) (a b : LinkState) (s t : S) (deed : Deed) → Makes w h a s deed b t → Runs w h a s (Made deed ∷ []) b t
runs_made w h a b s t deed made = record { happen = (b, made.does, refl); acts = λ honest. (t, made.acts honest, refl) }

-- octets came, or were handed out, of which the station sees nothing
pub runs_fed : {S : Type 0} (w : Ways S) (h : Type 0) (a b : LinkState) (s : S) (octets : List ℕ) → Feeds a octets b → Runs w h a s (Fed octets ∷ []) b s
runs_fed w h a b s octets fed = record { happen = (b, fed, refl); acts = λ honest. refl }

pub runs_handed : {S : Type 0} (w : Ways S) (h : Type 0) (a b : LinkState) (s : S) (count : ℕ) → b ≡ after_sent a (min count (length a.pending))
    → Runs w h a s (Handed (min count (length a.pending)) ∷ []) b s
runs_handed w h a b s count handed = record { happen = (b, (omega arith, handed), refl); acts = λ honest. refl }

-- ---- what was noted of events

noted : (x y b : Bool) → (y || (x || b)) ≡ ((x || y) || b)
noted false y b = refl
noted true true b = refl
noted true false b = refl

pub noted_then : (p : Event → Bool) (xs ys : List Event) (old mid new : Bool) → mid ≡ (list_any p xs || old) → new ≡ (list_any p ys || mid)
    → new ≡ (list_any p (xs ++ ys) || old)
noted_then p xs ys old mid new first second =
    second ∙ ap (λ b. list_any p ys || b) first ∙ noted (list_any p xs) (list_any p ys) old ∙ ap (λ b. b || old) (sym (list_any-append p xs ys))

alone : (x b : Bool) → (x || b) ≡ ((x || false) || b)
alone true b = refl
alone false b = refl

pub noted_one : (p : Event → Bool) (x : Event) (old new : Bool) → new ≡ (p x || old) → new ≡ (list_any p (x ∷ []) || old)
noted_one p x old new is = is ∙ alone (p x) old

-- ---- whether a connection stands

pub over_now : (was is : Bool) (over : Option Closing) → was ≡ true → is ≡ (was && not (is_some over)) → is ≡ not (is_some over)
over_now was is over was_up up = up ∙ ap (λ b. b && not (is_some over)) was_up

pub no_longer : (was is : Bool) (cause : Closing) (over : Option Closing) → over ≡ Some cause → is ≡ (was && not (is_some over)) → is ≡ false
no_longer false is cause over some up = up
no_longer true is cause over some up = up ∙ ap (λ o. not (is_some o)) some
