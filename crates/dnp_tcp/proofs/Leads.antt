-- A station that was led by some steps of its own.
use Rattle.std.proofs.Common.{◌≡◌, inl, inr, ℕ, ◌+◌, min, List, [], ◌∷◌, ◌++◌, refl, sym, ap, ◌∙◌, subst, arith}
use Rattle.dnp_streams.specs.links.Counts.{fragments_in, fragments_of}
use Rattle.dnp_linkframe.specs.declared.frame.Frame.{Frame}
use Rattle.dnp_streams.specs.declared.link.answering.Heard.{Heard}
use Rattle.dnp_streams.specs.links.Deeds.{Acts, ActsAll, Came, Deed, Joined, Part, Ways, Whole, heard_of}
use Rattle.dnp_streams.specs.links.Orders.{FollowsAll, FollowsDeed, Made, Standing, Step, Waited, deeds_in}
use Rattle.dnp_streams.specs.streams.Counts.{most}
use Rattle.dnp_tcp.specs.Connections.{Leads, LeadsOn, Listens, fragments_on, standing_on, wholes_of}
use Rattle.dnp_streams.specs.links.Links.{LinkState, Makes}
use Rattle.dnp_tcp.specs.declared.standing.StandingConnection.{StandingConnection}

pub leads_one : {S : Type 0} (w : Ways S) (s s' : S) (deed : Deed) → Acts w s deed s' → Leads w s s'
leads_one w s s' deed acts = (deed ∷ [], (s', acts, refl))

acts_then : {S : Type 0} (w : Ways S) (s t u : S) (deeds more : List Deed) → ActsAll w s deeds t → ActsAll w t more u → ActsAll w s (deeds ++ more) u
acts_then w s t u [] more same all = subst (λ x. ActsAll w x more u) same all
acts_then w s t u (d ∷ deeds) more (next, here, rest) all = (next, here, acts_then w next t u deeds more rest all)

pub leads_then : {S : Type 0} (w : Ways S) (s t u : S) → Leads w s t → Leads w t u → Leads w s u
leads_then w s t u first second = (first.0 ++ second.0, acts_then w s t u first.0 second.0 first.1 second.1)

pub leads_made : {S : Type 0} (w : Ways S) (honest : Type 0) (link link' : LinkState) (s s' : S) (deed : Deed) → Makes w honest link s deed link' s' → honest → Leads w s s'
leads_made w honest link link' s s' deed made is_honest = leads_one w s s' deed (made.acts is_honest)

-- ---- with the count of what came whole

counted_more : (a b c m x y : ℕ) → min b m ≡ min (a + x) m → min c m ≡ min (b + y) m → min c m ≡ min (a + (x + y)) m
counted_more a b c m x y first second = grind arith

counted_once : (a b m x : ℕ) → b ≡ min (a + x) m → min b m ≡ min (a + x) m
counted_once a b m x counted = grind arith

fragments_in_both : (deeds more : List Deed) → fragments_in (deeds ++ more) ≡ fragments_in deeds + fragments_in more
fragments_in_both [] more = omega arith
fragments_in_both (deed ∷ deeds) more = omega (arith, fragments_in_both deeds more)

follows_then : (a b c : Standing) (steps more : List Step) → FollowsAll a steps b → FollowsAll b more c → FollowsAll a (steps ++ more) c
follows_then a b c [] more same all = subst (λ (x : Standing). FollowsAll x more c) same all
follows_then a b c (step ∷ steps) more (next, here, rest) all = (next, here, follows_then next b c steps more rest all)

deeds_in_both : (steps more : List Step) → deeds_in (steps ++ more) ≡ deeds_in steps ++ deeds_in more
deeds_in_both [] more = refl
deeds_in_both (Made deed ∷ steps) more = ap (λ (ds : List Deed). deed ∷ ds) (deeds_in_both steps more)
deeds_in_both (Waited now ∷ steps) more = deeds_in_both steps more

pub on_none : {S : Type 0} (w : Ways S) (s : S) (a b : StandingConnection) → standing_on b ≡ standing_on a → fragments_on b ≡ fragments_on a → LeadsOn w s a s b
on_none w s a b same fragments = record {
  steps = [];
  follows = same;
  acts = refl;
  counted = ap (λ (m : ℕ). min m most) (omega (arith, fragments));
}

pub on_then : {S : Type 0} (w : Ways S) (s t u : S) (a b c : StandingConnection) → LeadsOn w s a t b → LeadsOn w t b u c → LeadsOn w s a u c
on_then w s t u a b c first second =
    let both = deeds_in_both first.steps second.steps in
    let acts = acts_then w s t u (deeds_in first.steps) (deeds_in second.steps) first.acts second.acts in
    record {
      steps = first.steps ++ second.steps;
      follows = follows_then (standing_on a) (standing_on b) (standing_on c) first.steps second.steps first.follows second.follows;
      acts = subst (λ (ds : List Deed). ActsAll w s ds u) (sym both) acts;
      counted = counted_more (fragments_on a) (fragments_on b) (fragments_on c) most (fragments_in (deeds_in first.steps)) (fragments_in (deeds_in second.steps))
          first.counted second.counted
          ∙ ap (λ (n : ℕ). min (fragments_on a + n) most)
          (sym (ap fragments_in both ∙ fragments_in_both (deeds_in first.steps) (deeds_in second.steps)));
    }

-- what was sent changes nothing of this
pub on_same : {S : Type 0} (w : Ways S) (s t : S) (a b c : StandingConnection) → LeadsOn w s a t b → standing_on c ≡ standing_on b → fragments_on c ≡ fragments_on b
    → LeadsOn w s a t c
on_same w s t a b c leads same fragments = on_then w s t t a b c leads (on_none w t b c same fragments)

pub on_listened : {S : Type 0} (w : Ways S) (s t : S) (a b c : StandingConnection) → LeadsOn w s a t b → Listens b c → LeadsOn w s a t c
on_listened w s t a b c leads (fragments, inl same) = on_same w s t a b c leads same fragments
on_listened w s t a b c leads (fragments, inr waited) = on_then w s t t a b c leads (record {
  steps = Waited c.moment ∷ [];
  follows = (standing_on c, waited, refl);
  acts = refl;
  counted = ap (λ (m : ℕ). min m most) (omega (arith, fragments));
})

pub on_made : {S : Type 0} (w : Ways S) (honest : Type 0) (link link' : LinkState) (s s' : S) (deed : Deed) (a b : StandingConnection)
    → Makes w honest link s deed link' s' → FollowsDeed (standing_on a) deed (standing_on b)
    → min (fragments_on b) most ≡ min (fragments_on a + fragments_of deed) most → honest → LeadsOn w s a s' b
on_made w honest link link' s s' deed a b made follows counted is_honest = record {
  steps = Made deed ∷ [];
  follows = (standing_on b, follows, refl);
  acts = (s', made.acts is_honest, refl);
  counted = counted ∙ ap (λ (n : ℕ). min (fragments_on a + n) most) (omega arith);
}

told_wholes : (now : ℕ) (frame : Frame) (joined : Joined) → wholes_of (heard_of joined) ≡ fragments_of (Came now frame joined)
told_wholes now frame Part = refl
told_wholes now frame (Whole fragment reply) = refl

pub on_heard : {S : Type 0} (w : Ways S) (honest : Type 0) (link link' : LinkState) (s s' : S) (now : ℕ) (frame : Frame) (joined : Joined) (heard : Heard) (a b : StandingConnection)
    → heard ≡ heard_of joined → Makes w honest link s (Came now frame joined) link' s' → FollowsDeed (standing_on a) (Came now frame joined) (standing_on b)
    → fragments_on b ≡ min (fragments_on a + wholes_of heard) most → honest → LeadsOn w s a s' b
on_heard w honest link link' s s' now frame joined heard a b same made follows counted is_honest =
    on_made w honest link link' s s' _ a b made follows
    (counted_once (fragments_on a) (fragments_on b) most (wholes_of heard) counted
    ∙ ap (λ (n : ℕ). min (fragments_on a + n) most) (ap wholes_of same ∙ told_wholes now frame joined)) is_honest
