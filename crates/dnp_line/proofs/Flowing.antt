-- A new way flows, and each event keeps it so.
use Rattle.std.proofs.Common.{◌≡◌, ℕ, ◌+◌, ◌<◌, ◌≤◌, Bool, true, false, inl, inr, List, [], ◌∷◌, ◌++◌, length, refl, sym, ap, ◌∙◌, subst, arith, append_assoc}
use Rattle.std.specs.Prelude.{nat_le, slice_get, Some}
use Rattle.std.proofs.lemmas.Bool.{cases_lt, both_ways, cond-true, cond-false, le-leb, lt-leb}
use Rattle.std.proofs.lemmas.List.{append-nil}
use Rattle.dnp_linkstation.specs.Station.{Ends, ends, opposite, sent}
use Rattle.dnp_linkstation.specs.declared.station.LinkStation.{LinkStation}
use Rattle.dnp_transport.specs.Assembly.{Assembly}
use Rattle.dnp_transport.specs.Cuts.{cut_count}
use Rattle.dnp_line.specs.Lines.{LineState, line_of, quiet_line, delivered_on, repeated_on, lost_on, Nothing, Loss}
use Rattle.dnp_line.specs.Ports.{PortState, data_frame, moved_on, reset_of}
use Rattle.dnp_line.specs.Ways.{Way, new_way, WayEvent, Send, Deliver, Repeat, Lose, Damage, Clear, SenderReset, WayBack, opened_on, all_sent_on, Sends, SendsUnlessMute, HearsIfAny, IsDamaged, Happens, Runs}
use Rattle.dnp_line.specs.Flows.{AreFacing, segment_total, AreLast, IsRecent, AreGiven, CarriesFrom, HasHalfBuilt, Flows, MayGive, RestMoves}
use Rattle.dnp_line.specs.Flows.{Nothing as NothingGiven}
use Rattle.dnp_line.proofs.Coming.{ComesTo-behind, ComesTo-clear}
use Rattle.dnp_line.proofs.Splits.{total-append, recent_more}
use Rattle.dnp_line.proofs.OnLine.{last_from, last_more, fresh_last, all_sent, all_dropped}
use Rattle.dnp_line.proofs.Hearing.{HasHeard, has_heard}
use Rattle.dnp_line.specs.steps.Lower.{Lower}
use Rattle.dnp_line.specs.declared.line.TheConstants.{BROKEN_LOSSES}

-- a port that was reset has half built nothing
reset_port : Lower → (p : PortState) (sent : List (List ℕ)) (gone lost : ℕ)
    → HasHalfBuilt (reset_of p).link (reset_of p).assembly sent gone lost
reset_port low p sent gone lost =
    record { heard = []; answers = refl; pushed = []; stands = low.idle; half_built = λ few s o. absurd (low.none_open s o) }

-- the fragments, when more segments are gone
given_later : (given sent rest : List (List ℕ)) (gone later : ℕ) → gone ≤ later → AreGiven given sent rest gone → AreGiven given sent rest later
given_later given sent rest gone later after g =
    record { past = g.past; split = g.split; came = g.came; reached = omega (arith, g.reached, after) }

-- the line, by a sender that spells the segments alike
spelled_alike : (gone : ℕ) (s s' : PortState) → ((x : List ℕ) → data_frame s x ≡ data_frame s' x) → (sent : List (List ℕ)) (line : LineState)
    → CarriesFrom gone s sent line → CarriesFrom gone s' sent line
spelled_alike gone s s' same sent line c =
    record { on_line = λ few. last_from s s' same sent gone line.units (c.on_line few); broken = c.broken }

-- a link that is opened again
pub opened_flows : Lower → (w : Way) → AreFacing w.sender w.receiver → Flows (opened_on w) []
opened_flows low w facing =
    record {
      facing = facing;
      numbered = λ _. refl;
      gone = 0;
      fragments = record { past = []; split = refl; came = (0, refl); reached = omega arith };
      units = record { on_line = λ _. refl; broken = λ _. refl };
      port = reset_port low w.receiver [] 0 0;
    }

-- a new way
pub new_flows : Lower → (own peer : ℕ) (m : Bool) → Flows (new_way own peer m) []
new_flows low own peer m =
    opened_flows low (new_way own peer m) refl

-- a send, which leaves the line so
send_flows : (w : Way) (rest : List (List ℕ)) (f : List ℕ) (line : LineState) → w.mute ≡ false → (fl : Flows w rest) → line.lost ≡ w.line.lost
    → CarriesFrom fl.gone (moved_on (cut_count (length f)) w.sender) (w.sent ++ f ∷ []) line
    → Flows (record w { line = line; sender = moved_on (cut_count (length f)) w.sender; sent = w.sent ++ f ∷ [] }) (rest ++ f ∷ [])
send_flows w rest f line audible fl lost_is units =
    record {
      facing = fl.facing;
      numbered = λ _. omega (arith, fl.numbered audible, total-append w.sent (f ∷ []));
      gone = fl.gone;
      fragments =
          record {
            past = fl.fragments.past;
            split = ap (λ (l : List (List ℕ)). l ++ f ∷ []) fl.fragments.split ∙ append_assoc fl.fragments.past rest (f ∷ []);
            came = ComesTo-behind w.given w.sent rest (f ∷ []) fl.fragments.came;
            reached = fl.fragments.reached;
          };
      units = units;
      port =
          record {
            heard = fl.port.heard;
            answers = fl.port.answers;
            pushed = fl.port.pushed;
            stands = fl.port.stands;
            half_built = λ few s o.
                let few' : w.line.lost < BROKEN_LOSSES = omega (arith, few, lost_is) in
                recent_more w.sent (f ∷ []) fl.gone line.lost s
                (subst (λ (n : ℕ). IsRecent w.sent fl.gone n s) (sym lost_is) (fl.port.half_built few' s o));
          };
    }

sends_flow : (w w' : Way) (rest : List (List ℕ)) (f : List ℕ) → w.mute ≡ false → Flows w rest → Sends f w w' → Flows w' (rest ++ f ∷ [])
sends_flow w w' rest f audible fl s =
    let moved : PortState = moved_on (cut_count (length f)) w.sender in
    let after : LineState → Way = λ line. record w { line = line; sender = moved; sent = w.sent ++ f ∷ [] } in
    let flows : Flows (after (all_sent_on s.units w.line)) (rest ++ f ∷ []) =
    elim (cases_lt w.line.lost BROKEN_LOSSES) [
      | inl few ↦
          let line_is : all_sent_on s.units w.line ≡ line_of (w.line.units ++ s.units) w.line.lost =
          all_sent s.units w.line.units w.line.lost few in
          let last : AreLast w.sender (w.sent ++ f ∷ []) fl.gone (w.line.units ++ s.units) =
          last_more w.sender w.sent f fl.gone w.line.units s.units (fl.units.on_line few)
          (fresh_last w.sender w.sent f w.sender.number s.units (fl.numbered audible) s.spelled) in
          subst (λ (l : LineState). Flows (after l) (rest ++ f ∷ [])) (sym line_is)
          (send_flows w rest f (line_of (w.line.units ++ s.units) w.line.lost) audible fl refl
          (record {
            on_line = λ _. last_from w.sender moved (λ x. refl) (w.sent ++ f ∷ []) fl.gone (w.line.units ++ s.units) last;
            broken = λ many. absurd (omega (arith, few, many));
          }))
      | inr many ↦
          let line_is : all_sent_on s.units w.line ≡ w.line = all_dropped s.units w.line.units w.line.lost many in
          subst (λ (l : LineState). Flows (after l) (rest ++ f ∷ [])) (sym line_is)
          (send_flows w rest f w.line audible fl refl
          (record { on_line = λ few. absurd (omega (arith, few, many)); broken = fl.units.broken }))
    ] in
    subst (λ (v : Way). Flows v (rest ++ f ∷ [])) (sym s.after) flows

-- the way flows still, with what may still come
pub record Goes (event : WayEvent) (old new : Way) (rest : List (List ℕ)) : Type 0 where
  pub left : List (List ℕ)
  pub moves : RestMoves old event new rest left
  pub flows : Flows new left

send_goes : (w w' : Way) (rest : List (List ℕ)) (f : List ℕ) (mute : Bool) → w.mute ≡ mute → Flows w rest → SendsUnlessMute mute f w w'
    → Goes (Send f) w w' rest
send_goes w w' rest f true e fl h =
    record { left = rest; moves = sym (cond-true w.mute rest (rest ++ f ∷ []) e); flows = subst (λ (v : Way). Flows v rest) (sym h) fl }
send_goes w w' rest f false e fl h =
    record { left = rest ++ f ∷ []; moves = sym (cond-false w.mute rest (rest ++ f ∷ []) e); flows = sends_flow w w' rest f e fl h }

-- a loss
lost_flows : (w : Way) (rest units : List (List ℕ)) (lost : ℕ) → Flows (record w { line = line_of units lost }) rest
    → Flows (record w { line = lost_on (line_of units lost) }) rest
lost_flows w rest [] lost fl = fl
lost_flows w rest (u ∷ units) lost fl =
    record {
      facing = fl.facing;
      numbered = fl.numbered;
      gone = fl.gone + 1;
      fragments = given_later w.given w.sent rest fl.gone (fl.gone + 1) (omega arith) fl.fragments;
      units =
          record {
            on_line = λ few.
                subst (λ (l : List (List ℕ)). AreLast w.sender w.sent (fl.gone + 1) l)
                (sym (cond-false (nat_le BROKEN_LOSSES (lost + 1)) [] units (lt-leb BROKEN_LOSSES (lost + 1) few)))
                ((fl.units.on_line (omega (arith, few))).3);
            broken = λ many. cond-true (nat_le BROKEN_LOSSES (lost + 1)) [] units (le-leb BROKEN_LOSSES (lost + 1) many);
          };
      port =
          record {
            heard = fl.port.heard;
            answers = fl.port.answers;
            pushed = fl.port.pushed;
            stands = fl.port.stands;
            half_built = λ few s o.
                let r : IsRecent w.sent fl.gone lost s = fl.port.half_built (omega (arith, few)) s o in
                record { place = r.place; is_begun = r.is_begun; low = omega (arith, r.low); high = omega (arith, r.high) };
          };
    }

damaged_flows : (w w' : Way) (rest : List (List ℕ)) (octets : List ℕ) → Flows w rest → IsDamaged octets w w' → Flows w' rest
damaged_flows w w' rest octets fl d =
    let flows : Flows (record w { line = d.line }) rest =
    elim d.damages [
      | Nothing reads e ↦ subst (λ (l : LineState). Flows (record w { line = l }) rest) (sym e) fl
      | Loss no_frame e ↦
          subst (λ (l : LineState). Flows (record w { line = l }) rest) (sym e)
          (lost_flows w rest w.line.units w.line.lost fl)
    ] in
    subst (λ (v : Way). Flows v rest) (sym d.after) flows

-- a unit that comes, by a delivery
pub record Brought (w : Way) (line : LineState) (rest : List (List ℕ)) (receiver : PortState) (given : List (List ℕ)) : Type 0 where
  pub left : List (List ℕ)
  pub gives : MayGive rest w.given left given
  pub flows : Flows (record w { line = line; receiver = receiver; given = given }) left

brought_nothing : (w : Way) (rest : List (List ℕ)) (receiver : PortState) (given : List (List ℕ)) → Flows w rest → receiver ≡ w.receiver
    → given ≡ w.given → Brought w w.line rest receiver given
brought_nothing w rest receiver given fl r g =
    record {
      left = rest;
      gives = NothingGiven refl g;
      flows =
          subst (λ (p : PortState). Flows (record w { receiver = p; given = given }) rest) (sym r)
          (subst (λ (l : List (List ℕ)). Flows (record w { given = l }) rest) (sym g) fl);
    }

-- a unit that the line gives, after which it is left so: the unit is gone from it, or may come again
comes : Lower → (w : Way) (rest units : List (List ℕ)) (u : List ℕ) (lost : ℕ) (receiver : PortState) (given : List (List ℕ))
    → (fl : Flows (record w { line = line_of (u ∷ units) lost }) rest) → HearsIfAny (Some u) w.receiver receiver w.given given
    → (left : List (List ℕ)) (gone : ℕ) → fl.gone ≤ gone → gone ≤ fl.gone + 1
    → (AreLast w.sender w.sent fl.gone (u ∷ units) → AreLast w.sender w.sent gone left)
    → Brought (record w { line = line_of (u ∷ units) lost }) (line_of left 0) rest receiver given
comes low w rest units u lost receiver given fl h left gone low_gone high_gone on_left =
    let v : Way = record w { line = line_of (u ∷ units) lost } in
    let few : lost < BROKEN_LOSSES =
    elim (cases_lt lost BROKEN_LOSSES) [ inl few ↦ few | inr many ↦ let none : u ∷ units ≡ [] = fl.units.broken many in absurd (cc) ] in
    let on = fl.units.on_line few in
    let heard : HasHeard v rest fl.gone receiver given = has_heard low v rest fl u on.0 receiver given few on.1 on.2 h in
    record {
      left = heard.left;
      gives = heard.gives;
      flows =
          record {
            facing = heard.port.facing;
            numbered = fl.numbered;
            gone = gone;
            fragments = given_later given w.sent heard.left fl.gone gone low_gone heard.fragments;
            units = record { on_line = λ _. on_left on; broken = λ many. absurd (omega (arith, many)) };
            port =
                record {
                  heard = heard.port.heard;
                  answers = heard.port.answers;
                  pushed = heard.port.pushed;
                  stands = heard.port.stands;
                  half_built = λ _ s o.
                      record {
                        place = fl.gone;
                        is_begun = heard.port.newest s o;
                        low = low_gone;
                        high = omega (arith, high_gone);
                      };
                };
          };
    }

delivered : Lower → (w : Way) (rest units : List (List ℕ)) (lost : ℕ) (receiver : PortState) (given : List (List ℕ))
    → Flows (record w { line = line_of units lost }) rest → HearsIfAny (slice_get units 0) w.receiver receiver w.given given
    → Brought (record w { line = line_of units lost }) (delivered_on (line_of units lost)) rest receiver given
delivered low w rest [] lost receiver given fl h =
    brought_nothing (record w { line = line_of [] lost }) rest receiver given fl h.0 h.1
delivered low w rest (u ∷ units) lost receiver given fl h =
    comes low w rest units u lost receiver given fl h units (fl.gone + 1) (omega arith) (omega arith) (λ on. on.3)

-- a unit that comes, by a repeat
repeated : Lower → (w : Way) (rest units : List (List ℕ)) (lost : ℕ) (receiver : PortState) (given : List (List ℕ))
    → Flows (record w { line = line_of units lost }) rest → HearsIfAny (slice_get units 0) w.receiver receiver w.given given
    → Brought (record w { line = line_of units lost }) (repeated_on (line_of units lost)) rest receiver given
repeated low w rest [] lost receiver given fl h =
    brought_nothing (record w { line = line_of [] lost }) rest receiver given fl h.0 h.1
repeated low w rest (u ∷ units) lost receiver given fl h =
    comes low w rest units u lost receiver given fl h (u ∷ units) fl.gone (omega arith) (omega arith) (λ on. on)

-- a clearing
cleared_flows : Lower → (w : Way) (rest : List (List ℕ)) → Flows w rest → Flows (record w { line = quiet_line; receiver = reset_of w.receiver }) []
cleared_flows low w rest fl =
    record {
      facing = fl.facing;
      numbered = fl.numbered;
      gone = segment_total w.sent;
      fragments =
          record {
            past = w.sent;
            split = sym (append-nil w.sent);
            came = ComesTo-clear w.given w.sent rest fl.fragments.came;
            reached = omega arith;
          };
      units = record { on_line = λ _. refl; broken = λ _. refl };
      port = reset_port low w.receiver w.sent (segment_total w.sent) 0;
    }

-- a reset of the sender's port
reset_flows : (w : Way) (rest : List (List ℕ)) → Flows w rest → Flows (record w { sender = reset_of w.sender; mute = true }) rest
reset_flows w rest fl =
    record {
      facing = fl.facing;
      numbered = λ audible. absurd (both_ways true audible refl);
      gone = fl.gone;
      fragments = fl.fragments;
      units = spelled_alike fl.gone w.sender (reset_of w.sender) (λ x. refl) w.sent w.line fl.units;
      port = fl.port;
    }

-- what happens on the way back
back_flows : (w : Way) (rest : List (List ℕ)) (link : LinkStation) (a : Assembly) (n : ℕ) → ends link ≡ ends w.sender.link → Flows w rest
    → Flows (record w { sender = record w.sender { link = link; assembly = a }; receiver = record w.receiver { number = n } }) rest
back_flows w rest link a n same fl =
    let sender : PortState = record w.sender { link = link; assembly = a } in
    let frames : (x : List ℕ) → data_frame w.sender x ≡ data_frame sender x = λ x. ap (λ (e : Ends). sent e x) (sym same) in
    record {
      facing = fl.facing ∙ ap (λ (e : Ends). opposite e) (sym same);
      numbered = fl.numbered;
      gone = fl.gone;
      fragments = fl.fragments;
      units = spelled_alike fl.gone w.sender sender frames w.sent w.line fl.units;
      port = fl.port;
    }

-- the way after a unit that came
record HasGone (old new : Way) (rest : List (List ℕ)) : Type 0 where
  left : List (List ℕ)
  gives : MayGive rest old.given left new.given
  flows : Flows new left

brought_gone : (w w' : Way) (rest : List (List ℕ)) (line : LineState) (receiver : PortState) (given : List (List ℕ))
    → Brought w line rest receiver given → w' ≡ record w { line = line; receiver = receiver; given = given } → HasGone w w' rest
brought_gone w w' rest line receiver given b e =
    record {
      left = b.left;
      gives = subst (λ (v : Way). MayGive rest w.given b.left v.given) (sym e) b.gives;
      flows = subst (λ (v : Way). Flows v b.left) (sym e) b.flows;
    }

-- each event
pub goes : Lower → (w w' : Way) (event : WayEvent) (rest : List (List ℕ)) → Flows w rest → Happens w event w' → Goes event w w' rest
goes low w w' (Send f) rest fl h = send_goes w w' rest f w.mute refl fl h
goes low w w' Deliver rest fl h =
    let b : HasGone w w' rest =
    brought_gone w w' rest (delivered_on w.line) h.receiver h.given
    (delivered low w rest w.line.units w.line.lost h.receiver h.given fl h.heard) h.after in
    record { left = b.left; moves = b.gives; flows = b.flows }
goes low w w' Repeat rest fl h =
    let b : HasGone w w' rest =
    brought_gone w w' rest (repeated_on w.line) h.receiver h.given
    (repeated low w rest w.line.units w.line.lost h.receiver h.given fl h.heard) h.after in
    record { left = b.left; moves = b.gives; flows = b.flows }
goes low w w' Lose rest fl h =
    record {
      left = rest;
      moves = refl;
      flows = subst (λ (v : Way). Flows v rest) (sym h) (lost_flows w rest w.line.units w.line.lost fl);
    }
goes low w w' (Damage octets) rest fl h =
    record { left = rest; moves = refl; flows = damaged_flows w w' rest octets fl h }
goes low w w' Clear rest fl h =
    record { left = []; moves = refl; flows = subst (λ (v : Way). Flows v []) (sym h) (cleared_flows low w rest fl) }
goes low w w' SenderReset rest fl h =
    record { left = rest; moves = refl; flows = subst (λ (v : Way). Flows v rest) (sym h) (reset_flows w rest fl) }
goes low w w' WayBack rest fl h =
    record {
      left = rest;
      moves = refl;
      flows =
          subst (λ (v : Way). Flows v rest) (sym h.after)
          (back_flows w rest w'.sender.link w'.sender.assembly w'.receiver.number h.same_ends fl);
    }

-- many events
pub keeps_flowing : Lower → (w w' : Way) (events : List WayEvent) (rest : List (List ℕ)) → Flows w rest → Runs w events w'
    → (left : List (List ℕ)) × Flows w' left
keeps_flowing low w w' [] rest fl h = (rest, subst (λ (v : Way). Flows v rest) (sym h) fl)
keeps_flowing low w w' (event ∷ events) rest fl h =
    let g : Goes event w h.0 rest = goes low w h.0 event rest fl h.1 in
    keeps_flowing low h.0 w' events g.left g.flows h.2
