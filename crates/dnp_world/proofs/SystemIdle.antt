-- What comes over a line that nothing stands on.
use Rattle.std.proofs.Common.{◌≡◌, ℕ, zero, suc, ◌<◌, Bool, true, List, [], ◌∷◌, ◌++◌, length, drop, Option, Some, None, refl, sym, ap, ◌∙◌, subst, append-nil, slice_set, arith}
use Rattle.std.specs.Prelude.{if◌then◌else◌, nat_lt, slice_get}
use Rattle.std.proofs.lemmas.Bool.{and_parts}
use Rattle.std.proofs.lemmas.Bool.Decides.{nat_tests}
use Rattle.std.proofs.lemmas.List.{drop_all}
use Rattle.dnp_objects.specs.declared.command.Command.{Command}
use Rattle.dnp_objects.specs.declared.row.Row.{Row}
use Rattle.dnp_line.specs.Lines.{LineState, front_of}
use Rattle.dnp_world.specs.Channels.{ChannelState, left_by}
use Rattle.dnp_world.specs.Centres as all
use Rattle.dnp_world.specs.Centres.{ChangesAll, centre_of, is_there}
use Rattle.dnp_world.specs.SystemEvents.{ComesDownBelow, ComesOn, IsHeardUp}
use Rattle.dnp_world.specs.Systems.{SubstationState, System, at_substation, front_at, front_on, has_link, has_substation}
use Rattle.dnp_world.specs.Wholes.{Whole, seen_by}
use Rattle.dnp_world.specs.declared.event.Link.{Link}
use Rattle.dnp_world.specs.declared.event.Link.TheVariants.{Above, Below}
use Rattle.dnp_world.specs.declared.link_event.Way.{Way}
use Rattle.dnp_world.specs.declared.link_event.Way.TheVariants.{Down, Up}
use Rattle.dnp_world.proofs.CentrePlaces.{low_of, rests_there}
use Rattle.dnp_world.proofs.IdleLines.{idle_line, idle_port}

-- ---- the line up

idle_up : (repeats : Bool) (c : ChannelState) → front_of c.up ≡ None → IsHeardUp (left_by repeats) [] c c
idle_up repeats c none = record {
  heard = idle_port c.up c.master_port none;
  after = sym (ap (λ (l : LineState). record c { up = l }) (idle_line repeats c.up none));
}

-- ---- a substation

pub member : (xs : List SubstationState) (i : ℕ) → i < length xs → (s : SubstationState) × (slice_get xs i ≡ Some s)
member [] i low = absurd (omega (arith, low))
member (x ∷ xs) zero low = (x, refl)
member (x ∷ xs) (suc i) low = member xs i (omega (arith, low))

same_at : (xs : List SubstationState) (i : ℕ) (s : SubstationState) → slice_get xs i ≡ Some s → slice_set xs i s ≡ xs
same_at [] i s is = refl
same_at (x ∷ xs) zero s is = ap (λ (o : Option SubstationState). elim o as (λ _. List SubstationState) [ None ↦ x ∷ xs | Some y ↦ y ∷ xs ]) (sym is)
same_at (x ∷ xs) (suc i) s is = ap (λ (ys : List SubstationState). x ∷ ys) (same_at xs i s is)

pub same_system : (s : System) (substation : ℕ) (was : SubstationState) → slice_get s.substations substation ≡ Some was
    → s ≡ record s { substations = slice_set s.substations substation was }
same_system s substation was is = ap (λ (xs : List SubstationState). record s { substations = xs }) (sym (same_at s.substations substation was is))

idle_below_down : (repeats : Bool) (substation : ℕ) (s : System) (was : SubstationState) → slice_get s.substations substation ≡ Some was
    → front_of was.channel.down ≡ None → ComesDownBelow (left_by repeats) substation s s
idle_below_down repeats substation s was is none =
    let performed : List Command = was.outputs.performed in
    let listed : List (ℕ × Command) = at_substation substation (drop (length performed) performed) in
    record {
      released = [];
      came = record {
        was = was;
        is = was;
        there = is;
        changed = record {
          port = was.channel.outstation_port;
          given = [];
          heard = idle_port was.channel.down was.channel.outstation_port none;
          came = (refl, sym (ap (λ (l : LineState). record was { channel = record was.channel { down = l } }) (idle_line repeats was.channel.down none)));
        };
        after = same_system s substation was is
            ∙ sym (
            ap (λ (rows : List (ℕ × Row)). record s {
              substations = slice_set s.substations substation was;
              history = record s.history { confirmed = rows; operated = s.history.operated ++ listed };
            }) (append-nil s.history.confirmed)
            ∙ ap (λ (commands : List Command). record s {
              substations = slice_set s.substations substation was;
              history = record s.history { operated = s.history.operated ++ at_substation substation commands };
            }) (drop_all (length performed) performed (omega arith))
            ∙ ap (λ (commands : List (ℕ × Command)). record s {
              substations = slice_set s.substations substation was;
              history = record s.history { operated = commands };
            }) (append-nil s.history.operated)
            );
      };
    }

idle_below : (repeats : Bool) (way : Way) (substation : ℕ) (s : System) (was : SubstationState) → slice_get s.substations substation ≡ Some was
    → front_at way (Some was) ≡ None → ComesOn (left_by repeats) (Below substation) way s s
idle_below repeats Down substation s was is none = idle_below_down repeats substation s was is none
idle_below repeats Up substation s was is none = record {
  given = [];
  between = s;
  heard = record { was = was; is = was; there = is; changed = (idle_up repeats was.channel none, refl); after = same_system s substation was is };
  came = refl;
}

-- ---- a link

pub is_under : (s : System) (substation : ℕ) → has_substation s substation ≡ true → substation < length s.substations
is_under s substation has =
    let low : nat_lt substation (length s.substations) ≡ true =
    (and_parts (nat_lt substation (length s.substations)) (nat_lt substation (length s.concentrator.links)) has).0 in
    grind (arith, nat_tests, low)

pub comes_idle : (repeats : Bool) (on : Link) (way : Way) (s : System) → has_link s on ≡ true → front_on s on way ≡ None
    → ComesOn (left_by repeats) on way s s
comes_idle repeats (Below substation) way s has none =
    let low : substation < length s.substations = is_under s substation has in
    let found = member s.substations substation low in
    idle_below repeats way substation s found.0 found.1
    (subst (λ (o : Option SubstationState). front_at way o ≡ None) found.1
    (subst (λ (b : Bool). (if b then front_at way (slice_get s.substations substation) else None) ≡ None) has none))
comes_idle repeats (Above centre) Down s has none = record {
  port = s.above.outstation_port;
  given = [];
  heard = idle_port s.above.down s.above.outstation_port none;
  came = sym (ap (λ (l : LineState). record s { above = record s.above { down = l } }) (idle_line repeats s.above.down none));
}
comes_idle repeats (Above centre) Up s has none =
    record { given = []; between = s; heard = (idle_up repeats s.above none, refl); came = refl }

-- as all see it
pub all_idle : (repeats : Bool) (on : Link) (way : Way) (w : Whole) → all.has_link w on ≡ true → all.front_on w on way ≡ None
    → ChangesAll (centre_of on) (ComesOn (left_by repeats) on way) w w
all_idle repeats (Below substation) way w has none = λ centre low. comes_idle repeats (Below substation) way (seen_by centre w) has none
all_idle repeats (Above n) way w has none =
    rests_there n (low_of n w has) (ComesOn (left_by repeats) (Above n) way) w
    (comes_idle repeats (Above n) way (seen_by n w) refl
    (subst (λ (b : Bool). (if b then front_on (seen_by n w) (Above n) way else None) ≡ None) (and_parts (is_there (Some n)) true has).0 none))
