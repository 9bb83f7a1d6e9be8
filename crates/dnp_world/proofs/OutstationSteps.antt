-- Steps of an outstation as moves of its link: how they follow one another, and the end of a call.
use Rattle.std.proofs.Common.{◌≡◌, ℕ, ◌<◌, ◌≤◌, Bool, true, List, [], ◌∷◌, ◌++◌, length, map, inl, inr, refl, sym, ap, ◌∙◌, subst, arith, append_assoc, append-nil, Option, Some, None, option_map}
use Rattle.std.proofs.lemmas.List.{map-append}
use Rattle.dnp_objects.specs.declared.command.Command.{Command}
use Rattle.dnp_objects.specs.declared.row.Row.{Row}
use Rattle.dnp_eventbuf.specs.Buffered.{buffered_row}
use Rattle.dnp_eventbuf.specs.Sound.{IsSoundBuffer}
use Rattle.dnp_pointdb.specs.Sound as points
use Rattle.dnp_outstation.specs.declared.session.Unsolicited.{Unsolicited}
use Rattle.dnp_outstation.specs.Connection.{unsolicited_of, starts, at_end}
use Rattle.dnp_outstation.specs.Content.{Content, content_from}
use Rattle.dnp_outstation.specs.Links.{Reports, StartsOne, IsInOrder}
use Rattle.dnp_outstation.specs.Offer.{pushed}
use Rattle.dnp_outstation.specs.State.{State, Step, still}
use Rattle.dnp_outstation.specs.Tidy.{LeavesNothing}
use Rattle.dnp_world.specs.Lanes.{HasLanes}
use Rattle.dnp_world.specs.LawLink.{SentFragment, Up, Reports as ReportsUp, LastRequest, Awaited, AwaitedReport, LawOutstation, LawLink}
use Rattle.dnp_world.specs.Moves.{Move, StartReport, Moves, Done, Then, report_sent}
use Rattle.dnp_world.specs.Octets.{after, seq_in}
use Rattle.dnp_world.specs.Standing.{CarriesLaw}
use Rattle.dnp_world.specs.OutstationSeen.{octets_of, last_seen, awaited_seen, report_seen, outstation_seen, HaveIds, Shows, LeavesMaster, Simulates}
use Rattle.dnp_world.proofs.Keeping.{moves_stand}
use Rattle.dnp_world.proofs.OutstationFragments.{made_of, reported_seq, reported_offer}
use Rattle.dnp_world.proofs.OutstationLaws.{EndLaws}

-- ---- what a link grows by

pub record Grown (old new : LawLink) (came : List Row) (sent : List Up) (gone lost : List Row) (commands : List Command) : Type 0 where
  pub moves : Moves old new
  pub master : LeavesMaster old new
  pub stood : map buffered_row new.stood ≡ map buffered_row old.stood ++ came
  pub up : new.up ≡ old.up ++ sent
  pub released : map buffered_row new.released ≡ map buffered_row old.released ++ gone
  pub left : map buffered_row new.left ≡ map buffered_row old.left ++ lost
  pub performed : new.performed ≡ old.performed ++ commands

pub moves_after : (a b c : LawLink) → Moves a b → Moves b c → Moves a c
moves_after a b c h Done = h
moves_after a b c h (Then {next = next} ms m) = Then {next = next} (moves_after a b next h ms) m

pub one_move : (old new : LawLink) → Move old new → Moves old new
one_move old new m = Then {next = old} Done m

grow : {X : Type 0} (a b c first second : List X) → b ≡ a ++ first → c ≡ b ++ second → c ≡ a ++ (first ++ second)
grow a b c first second e f = f ∙ ap (λ (xs : List _). xs ++ second) e ∙ append_assoc a first second

pub master_after : (a b c : LawLink) → LeavesMaster a b → LeavesMaster b c → LeavesMaster a c
master_after a b c h k = record { master = k.master ∙ h.master; down = k.down ∙ h.down; took = k.took ∙ h.took; asked = k.asked ∙ h.asked }

pub grown_both : (a b c : LawLink) (came came' : List Row) (sent sent' : List Up) (gone gone' lost lost' : List Row) (commands commands' : List Command)
    → Grown a b came sent gone lost commands → Grown b c came' sent' gone' lost' commands'
    → Grown a c (came ++ came') (sent ++ sent') (gone ++ gone') (lost ++ lost') (commands ++ commands')
grown_both a b c came came' sent sent' gone gone' lost lost' commands commands' h k = record {
  moves = moves_after a b c h.moves k.moves;
  master = master_after a b c h.master k.master;
  stood = grow (map buffered_row a.stood) (map buffered_row b.stood) (map buffered_row c.stood) came came' h.stood k.stood;
  up = grow a.up b.up c.up sent sent' h.up k.up;
  released = grow (map buffered_row a.released) (map buffered_row b.released) (map buffered_row c.released) gone gone' h.released k.released;
  left = grow (map buffered_row a.left) (map buffered_row b.left) (map buffered_row c.left) lost lost' h.left k.left;
  performed = grow a.performed b.performed c.performed commands commands' h.performed k.performed;
}

-- a move of which the lists see what is sent and performed
pub grown_sends : (old new : LawLink) (sent : List Up) (commands : List Command) → Move old new → LeavesMaster old new → new.stood ≡ old.stood
    → new.up ≡ old.up ++ sent → new.released ≡ old.released → new.left ≡ old.left → new.performed ≡ old.performed ++ commands
    → Grown old new [] sent [] [] commands
grown_sends old new sent commands move master stood up released left performed = record {
  moves = one_move old new move;
  master = master;
  stood = ap (map buffered_row) stood ∙ sym (append-nil (map buffered_row old.stood));
  up = up;
  released = ap (map buffered_row) released ∙ sym (append-nil (map buffered_row old.released));
  left = ap (map buffered_row) left ∙ sym (append-nil (map buffered_row old.left));
  performed = performed;
}

-- one of which they see nothing
pub grown_quiet : (old new : LawLink) → Move old new → LeavesMaster old new → new.stood ≡ old.stood → new.up ≡ old.up → new.released ≡ old.released
    → new.left ≡ old.left → new.performed ≡ old.performed → Grown old new [] [] [] [] []
grown_quiet old new move master stood up released left performed =
    grown_sends old new [] [] move master stood (up ∙ sym (append-nil old.up)) released left (performed ∙ sym (append-nil old.performed))

pub grown_none : (l : LawLink) → Grown l l [] [] [] [] []
grown_none l = record {
  moves = Done;
  master = record { master = refl; down = refl; took = refl; asked = refl };
  stood = sym (append-nil (map buffered_row l.stood));
  up = sym (append-nil l.up);
  released = sym (append-nil (map buffered_row l.released));
  left = sym (append-nil (map buffered_row l.left));
  performed = sym (append-nil l.performed);
}

-- ---- steps before the call has ended

-- what is shown of a state within a call
pub record Sees (s : State) (l : LawLink) : Type 0 where
  pub outstation : outstation_seen s.core ≡ l.outstation
  pub lanes : HasLanes s.lanes l
  pub sound : IsSoundBuffer s.lanes
  pub points : points.IsSoundDatabase s.core.points
  pub ids : HaveIds s.core.session

pub shown_sees : (s : State) (l : LawLink) → Shows s l → Sees s l
shown_sees s l shows = record {
  outstation = shows.outstation;
  lanes = shows.lanes;
  sound = shows.well.lanes;
  points = shows.well.points;
  ids = shows.well.ids;
}

pub record Goes (came : List Row) (commands : List Command) (step : Step) (l : LawLink) : Type 0 where
  pub link : LawLink
  pub sent : List Up
  pub grown : Grown l link came sent step.does.discarded step.does.overwritten commands
  pub sees : Sees step.state link
  pub octets : map octets_of sent ≡ step.does.send

pub goes_still : (s : State) (l : LawLink) → Sees s l → Goes [] [] (still s) l
goes_still s l sees = record { link = l; sent = []; grown = grown_none l; sees = sees; octets = refl }

-- moves of which the lists see nothing, and then this step
pub goes_behind : (came : List Row) (commands : List Command) (step : Step) (l next : LawLink) → Grown l next [] [] [] [] [] → Goes came commands step next
    → Goes came commands step l
goes_behind came commands step l next grown goes = record {
  link = goes.link;
  sent = goes.sent;
  grown = grown_both l next goes.link [] came [] goes.sent [] step.does.discarded [] step.does.overwritten [] commands grown goes.grown;
  sees = goes.sees;
  octets = goes.octets;
}

-- the whole call, once it is known what holds of the state after it
pub goes_simulates : (s : State) (came : List Row) (commands : List Command) (step : Step) (l : LawLink)
    → step.state.performed ≡ s.performed ++ commands → IsInOrder step.state.core → LeavesNothing step.state → Goes came commands step l
    → Simulates s came step l
goes_simulates s came commands step l performed order tidy goes = record {
  link = goes.link;
  moves = goes.grown.moves;
  shows = record {
    outstation = goes.sees.outstation;
    lanes = goes.sees.lanes;
    well = record {
      lanes = goes.sees.sound;
      points = goes.sees.points;
      order = order;
      tidy = tidy;
      ids = goes.sees.ids;
    };
  };
  master = goes.grown.master;
  sent = goes.sent;
  up = goes.grown.up;
  octets = goes.octets;
  stood = goes.grown.stood;
  released = goes.grown.released;
  left = goes.grown.left;
  commands = commands;
  performed = performed;
  performed_seen = goes.grown.performed;
}

-- ---- an outstation by its parts

pub outstation_is : (is_open is_open' : Bool) (last last' : Option LastRequest) (awaited awaited' : Option Awaited)
    (report report' : Option AwaitedReport) (next next' : ℕ)
    → is_open ≡ is_open' → last ≡ last' → awaited ≡ awaited' → report ≡ report' → next ≡ next'
    → (let o : LawOutstation = record { is_open = is_open; last = last; awaited = awaited; report = report; next = next } in o)
    ≡ (let o : LawOutstation = record { is_open = is_open'; last = last'; awaited = awaited'; report = report'; next = next' } in o)
outstation_is is_open is_open' last last' awaited awaited' report report' next next' e f g h k = cc

-- ---- an unsolicited response starts

pub goes_starts : (came : List Row) (commands : List Command) (now : ℕ) (step : Step) (c : Content) (l : LawLink)
    → step.state.core.session.unsolicited ≡ None
    → Reports step.state.lanes (unsolicited_of step.state c)
    (record { fir = true; fin = true; con = true; uns = true; seq = step.state.core.session.next }) c.upto
    → Goes came commands step l → Goes came commands (starts step now c) l
goes_starts came commands now step c l none reports goes =
    let s : State = step.state in
    let link : LawLink = goes.link in
    let sees : Sees s link = goes.sees in
    let octets : List ℕ = unsolicited_of s c in
    let f : SentFragment = made_of octets c.upto link in
    let new : LawLink = report_sent f link in
    let seq : seq_in octets ≡ s.core.session.next =
    reported_seq s.lanes octets (record { fir = true; fin = true; con = true; uns = true; seq = s.core.session.next }) c.upto reports in
    let next : s.core.session.next ≡ link.outstation.next = ap (λ (o : LawOutstation). o.next) sees.outstation in
    let none' : link.outstation.report ≡ None =
    sym (ap (λ (o : LawOutstation). o.report) sees.outstation)
    ∙ ap (λ (x : Option Unsolicited). option_map (report_seen s.core.session) x) none in
    let move : Move link new = StartReport f none' (seq ∙ next)
    (reported_offer s.lanes octets (record { fir = true; fin = true; con = true; uns = true; seq = s.core.session.next }) c.upto reports true link refl
    sees.lanes) refl in
    let last : Grown link new [] (ReportsUp f ∷ []) [] [] [] =
    grown_sends link new (ReportsUp f ∷ []) [] move (record { master = refl; down = refl; took = refl; asked = refl }) refl refl refl refl
    (sym (append-nil link.performed)) in
    record {
      link = new;
      sent = goes.sent ++ ReportsUp f ∷ [];
      grown = record {
        moves = moves_after l link new goes.grown.moves last.moves;
        master = master_after l link new goes.grown.master last.master;
        stood = goes.grown.stood;
        up = ap (λ (us : List Up). us ++ ReportsUp f ∷ []) goes.grown.up ∙ append_assoc l.up goes.sent (ReportsUp f ∷ []);
        released = goes.grown.released;
        left = goes.grown.left;
        performed = goes.grown.performed;
      };
      sees = record {
        outstation = outstation_is s.core.is_open link.outstation.is_open (option_map (last_seen s.core.session) s.core.session.last)
            link.outstation.last (option_map awaited_seen s.core.session.awaited) link.outstation.awaited
            (Some (record { octets = octets; seq = s.core.session.next; upto = c.upto }))
            (Some (record { octets = octets; seq = seq_in octets; upto = c.upto })) (after s.core.session.next) (after link.outstation.next)
            (ap (λ (o : LawOutstation). o.is_open) sees.outstation) (ap (λ (o : LawOutstation). o.last) sees.outstation)
            (ap (λ (o : LawOutstation). o.awaited) sees.outstation)
            (ap (λ (n : ℕ). Some (record { octets = octets; seq = n; upto = c.upto })) (sym seq)) (ap after next);
        lanes = record { rows = sees.lanes.rows; last_id = sees.lanes.last_id };
        sound = sees.sound;
        points = sees.points;
        ids = record { awaited = sees.ids.awaited; first = sees.ids.first };
      };
      octets = map-append octets_of goes.sent (ReportsUp f ∷ []) ∙ ap (λ (os : List (List ℕ)). os ++ octets ∷ []) goes.octets;
    }

-- ---- the end of a call

pub number_below : (n next : ℕ) → next ≡ after n → next < 16
number_below n next e = omega (arith, e)

pub goes_end : EndLaws → (came : List Row) (commands : List Command) (now : ℕ) (step : Step) (l : LawLink) → CarriesLaw l
    → length (at_end now step).state.core.enabled ≤ 3 → Goes came commands step l → Goes came commands (at_end now step) l
goes_end laws came commands now step l stands classes goes = elim (laws.ends now step) [
  | inl same ↦ subst (λ (x : Step). Goes came commands x l) (sym same) goes
  | inr one ↦ subst (λ (x : Step). Goes came commands x l) (sym one.is) (started one)
]
  where
    started : StartsOne now step → Goes came commands (starts step now (content_from (pushed step.state.lanes step.state.core.enabled))) l
    started one =
        let s : State = step.state in
        let few : length s.core.enabled ≤ 3 = subst (λ (x : Step). length x.state.core.enabled ≤ 3) one.is classes in
        let opens : goes.link.outstation.is_open ≡ true = sym (ap (λ (o : LawOutstation). o.is_open) goes.sees.outstation) ∙ one.is_open in
        let number : s.core.session.next ≡ after (seq_in goes.link.reported.octets) =
        ap (λ (o : LawOutstation). o.next) goes.sees.outstation ∙ ((moves_stand l goes.link goes.grown.moves stands).unsolicited opens).number in
        let below : s.core.session.next < 16 = number_below (seq_in goes.link.reported.octets) s.core.session.next number in
        goes_starts came commands now step (content_from (pushed s.lanes s.core.enabled)) l one.awaits_no_unsolicited
        (laws.unsolicited s goes.sees.sound few below) goes
