-- What the receiver's port makes of a unit that the sender's port made.
use Rattle.std.proofs.Common.{◌≡◌, ℕ, ◌<◌, Bool, true, inl, inr, List, [], ◌∷◌, ◌++◌, length, drop, refl, sym, ap, ◌∙◌, subst, arith}
use Rattle.std.proofs.lemmas.Bool.{cases_Bool, cond-true, cond-false, and_from}
use Rattle.std.specs.Prelude.{slice_get, Some}
use Rattle.dnp_linkframe.specs.Frames.{Spells}
use Rattle.dnp_linkframe.specs.declared.frame.Frame.{Frame}
use Rattle.dnp_linkstation.specs.Control.{primary_function, frame_count_bit}
use Rattle.dnp_linkstation.specs.Station.{Ends, ends, opposite, is_for, expected, answer_to, dropped, answer, AreHeard as Answers}
use Rattle.dnp_linkstation.specs.declared.function.PrimaryFunction.{PrimaryFunction}
use Rattle.dnp_linkstation.specs.declared.function.PrimaryFunction.TheVariants.{UnconfirmedUserData}
use Rattle.dnp_linkstation.specs.declared.station.LinkAnswer.{LinkAnswer}
use Rattle.dnp_transport.specs.Assembly.{Assembly, ArePushed}
use Rattle.dnp_transport.specs.Series.{IsOpen, IsWhole}
use Rattle.dnp_line.specs.Comes.{ComesTo}
use Rattle.dnp_line.specs.Ports.{PortState, data_frame, has_data, is_joined, Joins, TakesAfter, Takes}
use Rattle.dnp_line.specs.Ways.{Way, HearsUnit, AFrame, NoFrame}
use Rattle.dnp_line.specs.Flows.{AreFacing, IsSegment, IsBegun, AreGiven, HasHalfBuilt, Flows, MayGive, Nothing, One}
use Rattle.dnp_line.specs.steps.Lower.{Lower}
use Rattle.dnp_line.proofs.Coming.{ComesTo-push}
use Rattle.dnp_line.proofs.Splits.{IsAmong, among_rest, at_length, drop_length}
use Rattle.dnp_line.proofs.Arrivals.{open_after, IsWholeAt, whole_after}
use Rattle.dnp_line.specs.declared.line.TheConstants.{BROKEN_LOSSES}

-- the user data of such a frame go up
up_after : (e : Ends) (heard : List Frame) (f : Frame) → is_for e f ≡ true → primary_function f.control ≡ UnconfirmedUserData
    → (answer e heard f).up ≡ true
up_after e heard f for_it unconfirmed =
    ap (λ (a : LinkAnswer). a.up)
    (cond-true (is_for e f) (answer_to e (primary_function f.control) (expected e heard) (frame_count_bit f.control)) dropped for_it
    ∙ ap (λ (p : PrimaryFunction). answer_to e p (expected e heard) (frame_count_bit f.control)) unconfirmed)

-- what the sender's port sends is joined at the receiver's, whatever that heard before
pub sent_joins : Lower → (s r : PortState) (x : List ℕ) (heard : List Frame) → AreFacing s r → has_data x ≡ true
    → is_joined (ends r.link) heard (data_frame s x) ≡ true
sent_joins low s r x heard facing some =
    subst (λ (e : Ends). is_joined e heard (data_frame s x) ≡ true) (sym facing)
    (and_from (answer (opposite (ends s.link)) heard (data_frame s x)).up (has_data x)
    (up_after (opposite (ends s.link)) heard (data_frame s x) (low.to_peer (ends s.link) x).0 (low.to_peer (ends s.link) x).1) some)

-- so the push is as `TakesAfter` says
pub has_joined : (b : Bool) (pushed : List (List ℕ)) (user : List ℕ) (old new : Assembly) (whole : Bool) → b ≡ true
    → Joins b pushed user old new whole → Joins true pushed user old new whole
has_joined b pushed user old new whole e j = subst (λ (d : Bool). Joins d pushed user old new whole) e j

-- the receiver's port after the unit, where so many segments were gone before
pub record IsHearing (w : Way) (gone : ℕ) (receiver : PortState) : Type 0 where
  pub facing : AreFacing w.sender receiver
  pub heard : List Frame
  pub answers : Answers heard receiver.link
  pub pushed : List (List ℕ)
  pub stands : ArePushed pushed receiver.assembly
  pub newest : (s : List (List ℕ)) → IsOpen pushed s → IsBegun w.sent gone s

-- what came of the unit
pub record HasHeard (w : Way) (rest : List (List ℕ)) (gone : ℕ) (receiver : PortState) (given : List (List ℕ)) : Type 0 where
  pub left : List (List ℕ)
  pub gives : MayGive rest w.given left given
  pub fragments : AreGiven given w.sent left gone
  pub port : IsHearing w gone receiver

-- no fragment was completed
heard_nothing : (w : Way) (rest : List (List ℕ)) (gone : ℕ) (receiver : PortState) (given : List (List ℕ)) → AreGiven w.given w.sent rest gone
    → IsHearing w gone receiver → given ≡ w.given → HasHeard w rest gone receiver given
heard_nothing w rest gone receiver given g port e =
    record {
      left = rest;
      gives = Nothing refl e;
      fragments = subst (λ (l : List (List ℕ)). AreGiven l w.sent rest gone) (sym e) g;
      port = port;
    }

-- this fragment was completed
heard_one : (w : Way) (rest : List (List ℕ)) (gone : ℕ) (receiver : PortState) (given : List (List ℕ)) → AreGiven w.given w.sent rest gone
    → IsHearing w gone receiver → (f : List ℕ) → IsWholeAt w.sent gone f → given ≡ w.given ++ f ∷ [] → HasHeard w rest gone receiver given
heard_one w rest gone receiver given g port f at e =
    let among : IsAmong g.past rest at.before f at.after =
    among_rest g.past rest at.before f at.after (sym g.split ∙ at.split) (omega (arith, g.reached, at.high)) in
    let n : ℕ = length among.between in
    let here : slice_get rest n ≡ Some f =
    ap (λ (l : List (List ℕ)). slice_get l n) among.rest_is ∙ at_length among.between f at.after in
    let end : drop n rest ≡ f ∷ at.after =
    ap (λ (l : List (List ℕ)). drop n l) among.rest_is ∙ drop_length among.between (f ∷ at.after) in
    record {
      left = drop n rest;
      gives = One n f here refl e;
      fragments =
          record {
            past = at.before;
            split = at.split ∙ ap (λ (l : List (List ℕ)). at.before ++ l) (sym end);
            came =
                subst (λ (l : List (List ℕ)). ComesTo l w.sent (drop n rest)) (sym e)
                (ComesTo-push w.given w.sent rest n f g.came here);
            reached = at.low;
          };
      port = port;
    }

pub has_heard : Lower → (w : Way) (rest : List (List ℕ)) (fl : Flows w rest) (u x : List ℕ) (receiver : PortState) (given : List (List ℕ))
    → w.line.lost < BROKEN_LOSSES → IsSegment w.sent fl.gone x → Spells u (data_frame w.sender x) → HearsUnit u w.receiver receiver w.given given
    → HasHeard w rest fl.gone receiver given
has_heard low w rest fl u x receiver given few i spells heard =
    elim heard [
      | NoFrame none same e ↦ absurd (none (data_frame w.sender x, spells))
      | AFrame frame taken f spelled takes shown e ↦
          let sent_frame : Frame = data_frame w.sender x in
          let same : frame ≡ sent_frame = low.one_frame u frame sent_frame spelled spells in
          let t : Takes w.receiver sent_frame receiver taken =
          subst (λ (g : Frame). Takes w.receiver g receiver taken) same takes in
          let facing : AreFacing w.sender receiver = t.same_ends ∙ fl.facing in
          let p : HasHalfBuilt w.receiver.link w.receiver.assembly w.sent fl.gone w.line.lost = fl.port in
          let after : TakesAfter p.heard p.pushed w.receiver sent_frame receiver taken =
          t.after p.heard p.answers p.pushed p.stands in
          let joins : Joins true p.pushed x w.receiver.assembly receiver.assembly taken.whole =
          has_joined (is_joined (ends w.receiver.link) p.heard sent_frame) p.pushed x w.receiver.assembly receiver.assembly
          taken.whole (sent_joins low w.sender w.receiver x p.heard fl.facing (ap (λ (l : List ℕ). has_data l) i.segment_is)) after.joins in
          let stands : ArePushed (x ∷ p.pushed) receiver.assembly = joins.0 in
          let port : IsHearing w fl.gone receiver =
          record {
            facing = facing;
            heard = sent_frame ∷ p.heard;
            answers = after.answers;
            pushed = x ∷ p.pushed;
            stands = stands;
            newest = λ s o. open_after low w.sent fl.gone w.line.lost x p.pushed s few i (p.half_built few) o;
          } in
          elim (cases_Bool taken.whole) [
            | inl completes ↦
                let found : (g : List ℕ) × IsWhole (x ∷ p.pushed) g =
                joins.1.0 completes in
                let f_is : f ≡ found.0 = (shown (x ∷ p.pushed) stands).whole found.0 found.1 in
                let is_whole : IsWhole (x ∷ p.pushed) f = subst (λ (g : List ℕ). IsWhole (x ∷ p.pushed) g) (sym f_is) found.1 in
                heard_one w rest fl.gone receiver given fl.fragments port f
                (whole_after low w.sent fl.gone w.line.lost x p.pushed f few i (p.half_built few) is_whole)
                (e ∙ cond-true taken.whole (w.given ++ f ∷ []) w.given completes)
            | inr completes_none ↦
                heard_nothing w rest fl.gone receiver given fl.fragments port
                (e ∙ cond-false taken.whole (w.given ++ f ∷ []) w.given completes_none)
          ]
    ]
