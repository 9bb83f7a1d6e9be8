-- The ways of a link, event by event: what `dnp_line` says of them, over the lines and ports of the link.
use Rattle.std.proofs.Common.{◌≡◌, ℕ, Bool, true, false, List, [], ◌∷◌, ◌++◌, length, Option, Some, None, refl, sym, ap, ◌∙◌, subst, append_assoc, append-nil}
use Rattle.std.specs.Prelude.{if◌then◌else◌}
use Rattle.std.proofs.lemmas.List.{append_cancel_left}
use Rattle.dnp_linkstation.specs.Station.{ends}
use Rattle.dnp_linkstation.specs.declared.station.LinkStation.{LinkStation}
use Rattle.dnp_transport.specs.Assembly.{Assembly}
use Rattle.dnp_transport.specs.Cuts.{cut_count}
use Rattle.dnp_line.specs.Flows.{Flows, MayGive, Nothing, One, RestMoves}
use Rattle.dnp_line.specs.Lines.{LineState, front_of, delivered_on, repeated_on, lost_on, cleared_on, Damages}
use Rattle.dnp_line.specs.Ports.{PortState, moved_on, reset_of}
use Rattle.dnp_line.specs.Ways.{Way, WayEvent, Send, Deliver, Repeat, Lose, Damage, Clear, SenderReset, WayBack, Happens, Brings, AFrame, NoFrame, HearsIfAny, all_sent_on}
use Rattle.dnp_world.specs.Joined.{Carries}
use Rattle.dnp_world.specs.Channels.{IsSent, AreSent}
use Rattle.dnp_world.specs.steps.MoveLaws.{LineLaws}

abbrev pub way_of : LineState → PortState → PortState → Bool → List (List ℕ) → List (List ℕ) → Way
way_of line sender receiver mute sent given =
    record { line = line; sender = sender; receiver = receiver; mute = mute; sent = sent; given = given }

-- ---- the stations

-- a station that closes hands over nothing
pub carries_still : (line : LineState) (sender receiver : PortState) (is_open is_open' : Bool) (rest : List (List ℕ))
    → (is_open ≡ false → is_open' ≡ false)
    → Carries line sender receiver is_open rest → Carries line sender receiver is_open' rest
carries_still line sender receiver is_open is_open' rest closes c =
    record { mute = c.mute; sent = c.sent; given = c.given; flows = c.flows; silent = λ e. closes (c.silent e) }

-- ---- what happens on the way back

-- the sender takes a frame
back_taken : LineLaws → (line : LineState) (sender receiver : PortState) (is_open : Bool) (rest : List (List ℕ)) (link : LinkStation)
    → (assembly : Assembly)
    → ends link ≡ ends sender.link
    → Carries line sender receiver is_open rest → Carries line (record sender { link = link; assembly = assembly }) receiver is_open rest
back_taken laws line sender receiver is_open rest link assembly same c =
    let old : Way = way_of line sender receiver c.mute c.sent c.given in
    let new : Way = way_of line (record sender { link = link; assembly = assembly }) receiver c.mute c.sent c.given in
    let h = laws.kept old new WayBack rest c.flows (record { same_ends = same; after = refl }) in
    record { mute = c.mute; sent = c.sent; given = c.given; flows = subst (λ (r : List (List ℕ)). Flows new r) h.1 h.2; silent = c.silent }

pub back_came : LineLaws → (line : LineState) (sender receiver sender' : PortState) (is_open : Bool) (rest : List (List ℕ))
    → ends sender'.link ≡ ends sender.link → sender'.number ≡ sender.number
    → Carries line sender receiver is_open rest → Carries line sender' receiver is_open rest
back_came laws line sender receiver sender' is_open rest same number c =
    subst (λ (n : ℕ). Carries line (record { link = sender'.link; number = n; assembly = sender'.assembly }) receiver is_open rest) (sym number)
    (back_taken laws line sender receiver is_open rest sender'.link sender'.assembly same c)

-- the receiver's number moves on
pub back_sent : LineLaws → (line : LineState) (sender receiver : PortState) (is_open : Bool) (rest : List (List ℕ)) (number : ℕ)
    → Carries line sender receiver is_open rest → Carries line sender (record receiver { number = number }) is_open rest
back_sent laws line sender receiver is_open rest number c =
    let old : Way = way_of line sender receiver c.mute c.sent c.given in
    let new : Way = way_of line sender (record receiver { number = number }) c.mute c.sent c.given in
    let h = laws.kept old new WayBack rest c.flows (record { same_ends = refl; after = refl }) in
    record { mute = c.mute; sent = c.sent; given = c.given; flows = subst (λ (r : List (List ℕ)). Flows new r) h.1 h.2; silent = c.silent }

-- ---- a line is cleared, ends are reset, a link is opened

pub carries_cleared : LineLaws → (line : LineState) (sender receiver : PortState) (is_open : Bool) (rest : List (List ℕ))
    → Carries line sender receiver is_open rest → Carries (cleared_on line) sender (reset_of receiver) is_open []
carries_cleared laws line sender receiver is_open rest c =
    let old : Way = way_of line sender receiver c.mute c.sent c.given in
    let new : Way = way_of (cleared_on line) sender (reset_of receiver) c.mute c.sent c.given in
    let h = laws.kept old new Clear rest c.flows refl in
    record { mute = c.mute; sent = c.sent; given = c.given; flows = subst (λ (r : List (List ℕ)). Flows new r) h.1 h.2; silent = c.silent }

pub carries_mute : LineLaws → (line : LineState) (sender receiver : PortState) (is_open : Bool) (rest : List (List ℕ))
    → Carries line sender receiver is_open rest → Carries line (reset_of sender) receiver false rest
carries_mute laws line sender receiver is_open rest c =
    let old : Way = way_of line sender receiver c.mute c.sent c.given in
    let new : Way = way_of line (reset_of sender) receiver true c.sent c.given in
    let h = laws.kept old new SenderReset rest c.flows refl in
    record { mute = true; sent = c.sent; given = c.given; flows = subst (λ (r : List (List ℕ)). Flows new r) h.1 h.2; silent = λ e. refl }

pub carries_opened : LineLaws → (line : LineState) (sender receiver : PortState) (is_open : Bool) (rest : List (List ℕ))
    → Carries line sender receiver is_open rest → Carries (cleared_on line) (reset_of sender) (reset_of receiver) true []
carries_opened laws line sender receiver is_open rest c =
    record {
      mute = false;
      sent = [];
      given = [];
      flows = laws.reopened (way_of line sender receiver c.mute c.sent c.given) c.flows.facing;
      silent = λ e. sym e;
    }

-- ---- a unit is lost or damaged

pub carries_lost : LineLaws → (line : LineState) (sender receiver : PortState) (is_open : Bool) (rest : List (List ℕ))
    → Carries line sender receiver is_open rest → Carries (lost_on line) sender receiver is_open rest
carries_lost laws line sender receiver is_open rest c =
    let old : Way = way_of line sender receiver c.mute c.sent c.given in
    let new : Way = way_of (lost_on line) sender receiver c.mute c.sent c.given in
    let h = laws.kept old new Lose rest c.flows refl in
    record { mute = c.mute; sent = c.sent; given = c.given; flows = subst (λ (r : List (List ℕ)). Flows new r) h.1 h.2; silent = c.silent }

pub carries_damaged : LineLaws → (line line' : LineState) (sender receiver : PortState) (is_open : Bool) (rest : List (List ℕ))
    → (octets : List ℕ)
    → Damages octets line line' → Carries line sender receiver is_open rest → Carries line' sender receiver is_open rest
carries_damaged laws line line' sender receiver is_open rest octets damages c =
    let old : Way = way_of line sender receiver c.mute c.sent c.given in
    let new : Way = way_of line' sender receiver c.mute c.sent c.given in
    let h = laws.kept old new (Damage octets) rest c.flows (record { line = line'; damages = damages; after = refl }) in
    record { mute = c.mute; sent = c.sent; given = c.given; flows = subst (λ (r : List (List ℕ)). Flows new r) h.1 h.2; silent = c.silent }

-- ---- a unit comes

-- the port has its ends and its number still
pub record IsSamePort (old new : PortState) : Type 0 where
  pub same_ends : ends new.link ≡ ends old.link
  pub number : new.number ≡ old.number

same_port : (old new : PortState) → new ≡ old → IsSamePort old new
same_port old new e = record { same_ends = ap (λ (p : PortState). ends p.link) e; number = ap (λ (p : PortState). p.number) e }

pub heard_port : (unit : Option (List ℕ)) (old new : PortState) (given given' : List (List ℕ)) → HearsIfAny unit old new given given'
    → IsSamePort old new
heard_port None old new given given' h = same_port old new h.0
heard_port (Some unit) old new given given' (AFrame frame taken fragment spells takes shown e) =
    record { same_ends = takes.same_ends; number = takes.same_number }
heard_port (Some unit) old new given given' (NoFrame never same e) = same_port old new same

behind_if : (b : Bool) (g : List (List ℕ)) (f : List ℕ) (given : List (List ℕ)) → given ≡ (if b then [] ++ f ∷ [] else [])
    → g ++ given ≡ (if b then g ++ f ∷ [] else g)
behind_if true g f given e = ap (λ (fs : List (List ℕ)). g ++ fs) e
behind_if false g f given e = ap (λ (fs : List (List ℕ)). g ++ fs) e ∙ append-nil g

-- what was given before doesn't matter
heard_behind : (unit : Option (List ℕ)) (old new : PortState) (g given : List (List ℕ)) → HearsIfAny unit old new [] given
    → HearsIfAny unit old new g (g ++ given)
heard_behind None old new g given h = (h.0, ap (λ (fs : List (List ℕ)). g ++ fs) h.1 ∙ append-nil g)
heard_behind (Some unit) old new g given (AFrame frame taken fragment spells takes shown e) =
    AFrame frame taken fragment spells takes shown (behind_if taken.whole g fragment given e)
heard_behind (Some unit) old new g given (NoFrame never same e) =
    NoFrame never same (ap (λ (fs : List (List ℕ)). g ++ fs) e ∙ append-nil g)

-- ---- what it gives

-- after what was given before, as after nothing
behind_none : {X : Type 0} (xs ys : List X) → xs ++ ys ≡ xs → ys ≡ []
behind_none xs ys e = append_cancel_left xs ys [] (e ∙ sym (append-nil xs))

gives_anew : (rest g rest' given : List (List ℕ)) → MayGive rest g rest' (g ++ given) → MayGive rest [] rest' given
gives_anew rest g rest' given (Nothing e f) = Nothing e (behind_none g given f)
gives_anew rest g rest' given (One n fragment at e f) = One n fragment at e (append_cancel_left g given (fragment ∷ []) f)

-- what may still come then
pub record Came (line : LineState) (sender receiver : PortState) (is_open : Bool) (rest given : List (List ℕ)) : Type 0 where
  pub left : List (List ℕ)
  pub gives : MayGive rest [] left given
  pub carries : Carries line sender receiver is_open left

-- the front unit comes to the receiver, and the line is left so
abbrev pub CarriesOver : (LineState → LineState) → Type 0
CarriesOver left = (line : LineState) (sender receiver receiver' : PortState) (is_open : Bool) (rest given : List (List ℕ))
    → HearsIfAny (front_of line) receiver receiver' [] given
    → Carries line sender receiver is_open rest → Came (left line) sender receiver' is_open rest given

carries_over : LineLaws → (event : WayEvent) (left : LineState → LineState) → ((old new : Way) → Brings (left old.line) old new → Happens old event new)
    → ((old new : Way) (rest after : List (List ℕ)) → RestMoves old event new rest after → MayGive rest old.given after new.given) → CarriesOver left
carries_over laws event left brings gives line sender receiver receiver' is_open rest given heard c =
    let old : Way = way_of line sender receiver c.mute c.sent c.given in
    let new : Way = way_of (left line) sender receiver' c.mute c.sent (c.given ++ given) in
    let h = laws.kept old new event rest c.flows (brings old new (record {
      receiver = receiver';
      given = c.given ++ given;
      heard = heard_behind (front_of line) receiver receiver' c.given given heard;
      after = refl;
    })) in
    record {
      left = h.0;
      gives = gives_anew rest c.given h.0 given (gives old new rest h.0 h.1);
      carries = record { mute = c.mute; sent = c.sent; given = c.given ++ given; flows = h.2; silent = c.silent };
    }

pub carries_delivered : LineLaws → CarriesOver delivered_on
carries_delivered laws = carries_over laws Deliver delivered_on (λ old new b. b) (λ old new rest after m. m)

pub carries_repeated : LineLaws → CarriesOver repeated_on
carries_repeated laws = carries_over laws Repeat repeated_on (λ old new b. b) (λ old new rest after m. m)

-- ---- fragments are sent

-- a way whose sender may speak
record Speaks (line : LineState) (sender receiver : PortState) (rest : List (List ℕ)) : Type 0 where
  sent : List (List ℕ)
  given : List (List ℕ)
  flows : Flows (way_of line sender receiver false sent given) rest

way_same : (line line' : LineState) (sender sender' receiver : PortState) (sent given : List (List ℕ)) → line ≡ line' → sender ≡ sender'
    → way_of line sender receiver false sent given ≡ way_of line' sender' receiver false sent given
way_same line line' sender sender' receiver sent given e f = cc

speaks_on : LineLaws → (fragment : List ℕ) (line line' : LineState) (sender sender' receiver : PortState) (rest : List (List ℕ))
    → IsSent fragment line sender line' sender' → Speaks line sender receiver rest → Speaks line' sender' receiver (rest ++ fragment ∷ [])
speaks_on laws fragment line line' sender sender' receiver rest s c =
    let old : Way = way_of line sender receiver false c.sent c.given in
    let new : Way = way_of line' sender' receiver false (c.sent ++ fragment ∷ []) c.given in
    let ready : Way = way_of (all_sent_on s.units line) (moved_on (cut_count (length fragment)) sender) receiver false (c.sent ++ fragment ∷ []) c.given in
    let after : new ≡ ready = way_same line' (all_sent_on s.units line) sender' (moved_on (cut_count (length fragment)) sender) receiver
    (c.sent ++ fragment ∷ []) c.given s.line_is s.port_is in
    let h = laws.kept old new (Send fragment) rest c.flows (record { some = s.some; fits = s.fits; units = s.units; spelled = s.spelled; after = after }) in
    record { sent = c.sent ++ fragment ∷ []; given = c.given; flows = subst (λ (r : List (List ℕ)). Flows new r) h.1 h.2 }

all_spoken : LineLaws → (fragments : List (List ℕ)) (line line' : LineState) (sender sender' receiver : PortState) (rest : List (List ℕ))
    → AreSent fragments line sender line' sender' → Speaks line sender receiver rest → Speaks line' sender' receiver (rest ++ fragments)
all_spoken laws [] line line' sender sender' receiver rest s c =
    subst (λ (r : List (List ℕ)). Speaks line' sender' receiver r) (sym (append-nil rest))
    (subst (λ (p : PortState). Speaks line' p receiver rest) (sym s.1)
    (subst (λ (l : LineState). Speaks l sender receiver rest) (sym s.0) c))
all_spoken laws (fragment ∷ fragments) line line' sender sender' receiver rest (between, port, first, others) c =
    subst (λ (r : List (List ℕ)). Speaks line' sender' receiver r) (append_assoc rest (fragment ∷ []) fragments)
    (all_spoken laws fragments between line' port sender' receiver (rest ++ fragment ∷ []) others
    (speaks_on laws fragment line between sender port receiver rest first c))

none_sent : (fragments : List (List ℕ)) (line line' : LineState) (sender sender' : PortState) → fragments ≡ []
    → AreSent fragments line sender line' sender' → (line' ≡ line) × (sender' ≡ sender)
none_sent [] line line' sender sender' e s = s
none_sent (fragment ∷ fragments) line line' sender sender' e s = absurd (cc)

-- a station that is closed sends nothing
sent_if : LineLaws → (mute : Bool) (fragments : List (List ℕ)) (line line' : LineState) (sender sender' receiver : PortState)
    → (is_open : Bool) (rest sent given : List (List ℕ))
    → (is_open ≡ false → fragments ≡ []) → AreSent fragments line sender line' sender'
    → Flows (way_of line sender receiver mute sent given) rest → (mute ≡ true → is_open ≡ false)
    → Carries line' sender' receiver is_open (rest ++ fragments)
sent_if laws true fragments line line' sender sender' receiver is_open rest sent given quiet s flows silent =
    let nothing : fragments ≡ [] = quiet (silent refl) in
    let same : (line' ≡ line) × (sender' ≡ sender) = none_sent fragments line line' sender sender' nothing s in
    let c : Carries line sender receiver is_open rest = record { mute = true; sent = sent; given = given; flows = flows; silent = silent } in
    subst (λ (r : List (List ℕ)). Carries line' sender' receiver is_open r) (sym (ap (λ (fs : List (List ℕ)). rest ++ fs) nothing ∙ append-nil rest))
    (subst (λ (p : PortState). Carries line' p receiver is_open rest) (sym same.1)
    (subst (λ (l : LineState). Carries l sender receiver is_open rest) (sym same.0) c))
sent_if laws false fragments line line' sender sender' receiver is_open rest sent given quiet s flows silent =
    let c : Speaks line' sender' receiver (rest ++ fragments) =
    all_spoken laws fragments line line' sender sender' receiver rest s (record { sent = sent; given = given; flows = flows }) in
    record { mute = false; sent = c.sent; given = c.given; flows = c.flows; silent = silent }

pub carries_sent : LineLaws → (fragments : List (List ℕ)) (line line' : LineState) (sender sender' receiver : PortState) (is_open : Bool)
    → (rest : List (List ℕ))
    → (is_open ≡ false → fragments ≡ []) → AreSent fragments line sender line' sender'
    → Carries line sender receiver is_open rest → Carries line' sender' receiver is_open (rest ++ fragments)
carries_sent laws fragments line line' sender sender' receiver is_open rest quiet s c =
    sent_if laws c.mute fragments line line' sender sender' receiver is_open rest c.sent c.given quiet s c.flows c.silent

-- the sender's number has moved on, and nothing else of its port
sent_port : (fragments : List (List ℕ)) (line line' : LineState) (sender sender' : PortState) → AreSent fragments line sender line' sender'
    → sender' ≡ record sender { number = sender'.number }
sent_port [] line line' sender sender' s =
    s.1 ∙ ap (λ (n : ℕ). let p : PortState = record sender { number = n } in p) (sym (ap (λ (p : PortState). p.number) s.1))
sent_port (fragment ∷ fragments) line line' sender sender' (between, port, first, others) =
    let later : sender' ≡ record port { number = sender'.number } = sent_port fragments between line' port sender' others in
    let now : port ≡ record sender { number = port.number } =
    first.port_is ∙ ap (λ (n : ℕ). let p : PortState = record sender { number = n } in p) (sym (ap (λ (p : PortState). p.number) first.port_is)) in
    later ∙ ap (λ (p : PortState). let q : PortState = record p { number = sender'.number } in q) now

pub back_all_sent : LineLaws → (fragments : List (List ℕ)) (line line' back : LineState) (port port' sender : PortState) (is_open : Bool)
    → (rest : List (List ℕ))
    → AreSent fragments line port line' port' → Carries back sender port is_open rest → Carries back sender port' is_open rest
back_all_sent laws fragments line line' back port port' sender is_open rest s c =
    subst (λ (p : PortState). Carries back sender p is_open rest) (sym (sent_port fragments line line' port port' s))
    (back_sent laws back sender port is_open rest port'.number c)
