-- The order of a session's steps, said of their whole list.
use Rattle.std.proofs.Common.{◌≡◌, ℕ, ◌≤◌, Bool, true, false, List, [], ◌∷◌, refl, sym, ap, ◌∙◌, subst}
use Rattle.dnp_streams.specs.links.Counts.{StopsLast, closes}
use Rattle.dnp_streams.specs.links.Deeds.{Deed, Opened, Came, Ticked, Changed, Asked, Relaid}
use Rattle.dnp_streams.specs.declared.link.stage.Stage.{Stage}
use Rattle.dnp_streams.specs.declared.link.stage.Stage.TheVariants.{Unopened, Idle, Owing, Closed}
use Rattle.dnp_streams.specs.links.Orders.{ComesTo, EachPasses, Follows, FollowsAll, FollowsDeed, Made, NeverFall, NeverOpens, NoneEarly, OpensFirst, PassesAt, Standing, Step, Waited, deeds_in, moment_of, unless_closed}

-- ---- one step

-- from which stage a step comes and to which it leads: it never comes after a closed connection, and never leads to an opening
record Goes (old : Standing) (deed : Deed) (new : Standing) : Type 0 where
  pub from : Stage
  pub to : Stage
  pub comes : ComesTo old from (moment_of (Made deed)) deed to new
  pub unclosed : from ≡ Closed → ⊥
  pub opened : to ≡ Unopened → ⊥

goes : (old new : Standing) (deed : Deed) → FollowsDeed old deed new → Goes old deed new
goes old new (Opened now reply) c = record { from = Unopened; to = Idle; comes = c; unclosed = λ e. cc e; opened = λ e. cc e }
goes old new (Came now frame joined) c = record { from = Idle; to = Owing; comes = c; unclosed = λ e. cc e; opened = λ e. cc e }
goes old new (Ticked now reply) (other, c) = record { from = Owing; to = Idle; comes = c; unclosed = λ e. cc e; opened = λ e. cc e }
goes old new (Changed now change reply) (other, c) = record { from = Idle; to = Idle; comes = c; unclosed = λ e. cc e; opened = λ e. cc e }
goes old new (Asked now task reply) c = record { from = Idle; to = Idle; comes = c; unclosed = λ e. cc e; opened = λ e. cc e }
goes old new (Relaid now reply) c = record { from = Idle; to = Idle; comes = c; unclosed = λ e. cc e; opened = λ e. cc e }

-- a step's moment is the new one, and not before the old one
moment_led : (old new : Standing) (step : Step) → Follows old step new → (old.now ≤ moment_of step) × (new.now ≡ moment_of step)
moment_led old new (Waited now) (later, idle, is) = (later, ap (λ (s : Standing). s.now) is)
moment_led old new (Made deed) follows =
    let g = goes old new deed follows in
    (g.comes.later, ap (λ (s : Standing). s.now) g.comes.after)

not_unopened : (closed : Bool) (to : Stage) → (to ≡ Unopened → ⊥) → unless_closed closed to ≡ Unopened → ⊥
not_unopened true to opened e = cc e
not_unopened false to opened e = opened e

-- after a step the station was opened
was_opened : (old new : Standing) (step : Step) → Follows old step new → new.stage ≡ Unopened → ⊥
was_opened old new (Waited now) (later, idle, is) unopened = cc (unopened, ap (λ (s : Standing). s.stage) is)
was_opened old new (Made deed) follows unopened =
    let g = goes old new deed follows in
    not_unopened (closes deed) g.to g.opened (sym (ap (λ (s : Standing). s.stage) g.comes.after) ∙ unopened)

-- ---- all steps

pub never_fall : (old new : Standing) (steps : List Step) → FollowsAll old steps new → NeverFall old.now steps
never_fall old new [] same = tt
never_fall old new (step ∷ steps) (next, here, rest) =
    let (later, is) = moment_led old next step here in
    (later, subst (λ (n : ℕ). NeverFall n steps) is (never_fall next new steps rest))

never_opens : (old new : Standing) (steps : List Step) → FollowsAll old steps new → (old.stage ≡ Unopened → ⊥) → NeverOpens steps
never_opens old new [] same opened = tt
never_opens old new (Made (Opened now reply) ∷ steps) (next, here, rest) opened = opened here.stage
never_opens old new (step ∷ steps) (next, here, rest) opened = never_opens next new steps rest (was_opened old next step here)

pub opens_first : (old new : Standing) (steps : List Step) → FollowsAll old steps new → old.stage ≡ Unopened → OpensFirst steps
opens_first old new [] same unopened = tt
opens_first old new (Waited now ∷ steps) (next, (later, idle, is), rest) unopened = cc (idle, unopened)
opens_first old new (Made (Opened now reply) ∷ steps) (next, here, rest) unopened = never_opens next new steps rest (was_opened old next (Made (Opened now reply)) here)
opens_first old new (Made (Ticked now reply) ∷ steps) (next, here, rest) unopened = cc (here.1.stage, unopened)
opens_first old new (Made (Changed now change reply) ∷ steps) (next, here, rest) unopened = cc (here.1.stage, unopened)
opens_first old new (Made deed ∷ steps) (next, here, rest) unopened = cc (here.stage, unopened)

-- where time is to pass it passes, if it isn't still owed at the end
owed : (old new : Standing) (now : ℕ) (steps : List Step) → FollowsAll old steps new → old.stage ≡ Owing → old.now ≡ now → (new.stage ≡ Owing → ⊥) → PassesAt now steps
owed old new now [] same owing at settled = absurd (settled (ap (λ (s : Standing). s.stage) same ∙ owing))
owed old new now (Waited moment ∷ steps) (next, (later, idle, is), rest) owing at settled = cc (idle, owing)
owed old new now (Made (Ticked moment reply) ∷ steps) (next, (same, here), rest) owing at settled = same ∙ at
owed old new now (Made (Changed moment change reply) ∷ steps) (next, here, rest) owing at settled = cc (here.1.stage, owing)
owed old new now (Made deed ∷ steps) (next, here, rest) owing at settled = cc (here.stage, owing)

pub each_passes : (old new : Standing) (steps : List Step) → FollowsAll old steps new → (new.stage ≡ Owing → ⊥) → EachPasses steps
each_passes old new [] same settled = tt
each_passes old new (Waited now ∷ steps) (next, (later, idle, is), rest) settled = (
  owed next new now steps rest (ap (λ (s : Standing). s.stage) is) (ap (λ (s : Standing). s.now) is) settled,
  each_passes next new steps rest settled,
)
each_passes old new (Made (Came now frame joined) ∷ steps) (next, here, rest) settled = (
  λ goes_on. owed next new now steps rest (ap (λ (s : Standing). s.stage) here.after ∙ ap (λ (c : Bool). unless_closed c Owing) goes_on)
      (ap (λ (s : Standing). s.now) here.after) settled,
  each_passes next new steps rest settled,
)
each_passes old new (step ∷ steps) (next, here, rest) settled = each_passes next new steps rest settled

pub none_early : (old new : Standing) (steps : List Step) → FollowsAll old steps new → NoneEarly steps
none_early old new [] same = tt
none_early old new (Made (Changed now change reply) ∷ steps) (next, (due, here), rest) = (due, none_early next new steps rest)
none_early old new (step ∷ steps) (next, here, rest) = none_early next new steps rest

none_after : (old new : Standing) (steps : List Step) → FollowsAll old steps new → old.stage ≡ Closed → deeds_in steps ≡ []
none_after old new [] same closed = refl
none_after old new (Waited now ∷ steps) (next, (later, idle, is), rest) closed = cc (idle, closed)
none_after old new (Made deed ∷ steps) (next, here, rest) closed =
    let g = goes old next deed here in
    absurd (g.unclosed (sym g.comes.stage ∙ closed))

pub stops_last : (old new : Standing) (steps : List Step) → FollowsAll old steps new → StopsLast (deeds_in steps)
stops_last old new [] same = tt
stops_last old new (Waited now ∷ steps) (next, here, rest) = stops_last next new steps rest
stops_last old new (Made deed ∷ steps) (next, here, rest) =
    let g = goes old next deed here in (
      λ closed. none_after next new steps rest (ap (λ (s : Standing). s.stage) g.comes.after ∙ ap (λ (c : Bool). unless_closed c g.to) closed),
      stops_last next new steps rest,
    )
