-- Definition: what is written to a stream is a function of what is read from it.
use Rattle.std.specs.Prelude.{◌≡◌, ℕ, List, Option, Ok}
use Rattle.dnp_line.specs.Ports.{HasHistory}
use Rattle.dnp_streams.specs.declared.stream.served.Served.{Served}
use Rattle.dnp_streams.specs.streams.Stations.{Answer, Opening, Receiving, Endpoint}
use Rattle.dnp_streams.specs.streams.Serving.{Serves}

-- an opening comes out in one way
abbrev pub OpensOneWay : {S : Type 0} → Opening S → Type 0
OpensOneWay {S} opens = (old new other : S) (now : ℕ) (a b : Answer) → opens.answers old now a new → opens.answers old now b other → (a ≡ b) × (new ≡ other)

-- so does a fragment that comes
abbrev pub ReceivesOneWay : {S : Type 0} → Receiving S → Type 0
ReceivesOneWay {S} receives = (old new other : S) (now : ℕ) (octets : List ℕ) (a b : Answer)
    → receives.answers old now octets a new → receives.answers old now octets b other → (a ≡ b) × (new ≡ other)

-- Two streams that were served to their ends for the same station and port at the same moment, of which the same octets
-- were read, and nothing was refused: the same was written, and the same became of station and port.
abbrev pub OneOutput : {S : Type 0} → Opening S → Receiving S → Type 0
OneOutput {S} opens receives = (now turns turns' : ℕ) (old new other : Endpoint S)
    (left left' held held' l l' h h' : Option (List ℕ)) (served served' : Served) → HasHistory old.port
    → (a : Serves opens receives now turns old left left' held held' (Ok served) new) → (b : Serves opens receives now turns' old l l' h h' (Ok served') other)
    → a.traffic.octets ≡ b.traffic.octets → served.faults ≡ 0 → served'.faults ≡ 0
    → (a.traffic.written ≡ b.traffic.written) × (served ≡ served') × (new ≡ other)
