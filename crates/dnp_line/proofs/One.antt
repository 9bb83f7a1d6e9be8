-- A port's history decides all that it does, and any of its histories decides the same.
use Rattle.std.proofs.Common.{◌≡◌, ℕ, Bool, true, false, List, ◌∷◌, Option, refl, sym, ap, ◌∙◌, subst}
use Rattle.std.proofs.lemmas.Bool.{both_ways}
use Rattle.dnp_linkframe.specs.declared.frame.Frame.{Frame}
use Rattle.dnp_linkstation.specs.declared.station.LinkStation.{LinkStation}
use Rattle.dnp_linkstation.specs.Station.{ends, AreHeard as Answers}
use Rattle.dnp_transport.specs.Assembly.{Assembly, ArePushed, Shows}
use Rattle.dnp_line.specs.Ports.{PortState, HasHistory, is_joined, Joins, TakesAfter, Takes, IsShown}
use Rattle.dnp_line.specs.declared.port.Taken.{Taken}

-- some frames make one station, and some pushes one assembler

abbrev pub OneStation : Type 0
OneStation = (heard : List Frame) (a b : LinkStation) → ends a ≡ ends b → Answers heard a → Answers heard b → a ≡ b

abbrev pub OneAssembly : Type 0
OneAssembly = (pushed : List (List ℕ)) (a b : Assembly) → ArePushed pushed a → ArePushed pushed b → a ≡ b

abbrev pub OneShown : Type 0
OneShown = (a : Assembly) (pushed other : List (List ℕ)) (octets octets' : List ℕ) → ArePushed pushed a → ArePushed other a → Shows pushed octets
    → Shows other octets' → octets ≡ octets'

abbrev port_of : LinkStation → ℕ → Assembly → PortState
port_of link number assembly = record { link = link; number = number; assembly = assembly }

abbrev taken_of : Bool → Option Frame → Taken
taken_of whole reply = record { whole = whole; reply = reply }

-- two bits that are true of the same are the same
same_bit : (a b : Bool) → ((a ≡ true) → (b ≡ true)) → ((b ≡ true) → (a ≡ true)) → a ≡ b
same_bit true b there back = sym (there refl)
same_bit false true there back = absurd (both_ways false refl (back refl))
same_bit false false there back = refl

-- what is joined
record AreOne (new other : Assembly) (whole whole' : Bool) : Type 0 where
  assemblies : new ≡ other
  wholes : whole ≡ whole'

one_joins : OneAssembly → (b : Bool) (pushed : List (List ℕ)) (user : List ℕ) (old new other : Assembly) (whole whole' : Bool)
    → Joins b pushed user old new whole → Joins b pushed user old other whole' → AreOne new other whole whole'
one_joins one true pushed user old new other whole whole' h k =
    record {
      assemblies = one (user ∷ pushed) new other h.0 k.0;
      wholes = same_bit whole whole' (λ w. k.1.1 (h.1.0 w)) (λ w. h.1.1 (k.1.0 w));
    }
one_joins one false pushed user old new other whole whole' h k =
    record { assemblies = h.0 ∙ sym k.0; wholes = h.1 ∙ sym k.1 }

pub one_take : OneStation → OneAssembly → (old new other : PortState) (frame : Frame) (taken taken' : Taken) → HasHistory old
    → Takes old frame new taken → Takes old frame other taken' → (new ≡ other) × (taken ≡ taken')
one_take station assembler old new other frame taken taken' h t u =
    let a : TakesAfter h.heard h.pushed old frame new taken = t.after h.heard h.answers h.pushed h.stands in
    let b : TakesAfter h.heard h.pushed old frame other taken' = u.after h.heard h.answers h.pushed h.stands in
    let links : new.link ≡ other.link =
    station (frame ∷ h.heard) new.link other.link (t.same_ends ∙ sym u.same_ends) a.answers b.answers in
    let numbers : new.number ≡ other.number = t.same_number ∙ sym u.same_number in
    let j : AreOne new.assembly other.assembly taken.whole taken'.whole =
    one_joins assembler (is_joined (ends old.link) h.heard frame) h.pushed frame.user.items old.assembly new.assembly
    other.assembly taken.whole taken'.whole a.joins b.joins in (
      ap (λ (l : LinkStation). port_of l new.number new.assembly) links
          ∙ ap (λ (n : ℕ). port_of other.link n new.assembly) numbers
          ∙ ap (λ (x : Assembly). port_of other.link other.number x) j.assemblies,
      ap (λ (w : Bool). taken_of w taken.reply) j.wholes
          ∙ ap (λ (r : Option Frame). taken_of taken'.whole r) (a.replied ∙ sym b.replied),
    )

pub one_shown : OneShown → (p : PortState) (octets octets' : List ℕ) → HasHistory p → IsShown p octets → IsShown p octets' → octets ≡ octets'
one_shown shown p octets octets' h s t =
    shown p.assembly h.pushed h.pushed octets octets' h.stands h.stands (s h.pushed h.stands) (t h.pushed h.stands)

-- the history after a frame
joined_history : (b : Bool) (pushed : List (List ℕ)) (user : List ℕ) (old new : Assembly) (whole : Bool) → ArePushed pushed old
    → Joins b pushed user old new whole → (later : List (List ℕ)) × ArePushed later new
joined_history true pushed user old new whole h j = (user ∷ pushed, j.0)
joined_history false pushed user old new whole h j = (pushed, subst (λ (a : Assembly). ArePushed pushed a) (sym j.0) h)

pub history_goes_on : (old new : PortState) (frame : Frame) (taken : Taken) → HasHistory old → Takes old frame new taken → HasHistory new
history_goes_on old new frame taken h t =
    let a : TakesAfter h.heard h.pushed old frame new taken = t.after h.heard h.answers h.pushed h.stands in
    let later : (pushed : List (List ℕ)) × ArePushed pushed new.assembly =
    joined_history (is_joined (ends old.link) h.heard frame) h.pushed frame.user.items old.assembly new.assembly taken.whole h.stands a.joins in
    record { heard = frame ∷ h.heard; answers = a.answers; pushed = later.0; stands = later.1 }
