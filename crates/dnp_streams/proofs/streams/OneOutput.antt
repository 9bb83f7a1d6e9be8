-- What comes to a station whose steps come out in one way, by a port with a history, is answered in one way.
use Rattle.std.proofs.Common.{◌≡◌, ℕ, ◌+◌, inl, inr, Bool, false, ◌||◌, List, [], ◌∷◌, ◌++◌, refl, sym}
use Rattle.std.proofs.Common.{ap, ◌∙◌, subst, arith, length, min, append-nil}
use Rattle.std.specs.Prelude.{option_to_list}
use Rattle.std.specs.List.{concat}
use Rattle.std.proofs.lemmas.Bool.{cases_Bool, false≢true}
use Rattle.dnp_linkframe.specs.declared.frame.Frame.{Frame}
use Rattle.dnp_linkframe.specs.Frames.{Spells}
use Rattle.dnp_linkframe.specs.Stream.{Gives, SpellEach}
use Rattle.dnp_transport.specs.Cuts.{cut_count}
use Rattle.dnp_line.specs.declared.port.Taken.{Taken}
use Rattle.dnp_line.specs.Ports.{PortState, HasHistory, Takes, IsShown, moved_on}
use Rattle.dnp_streams.specs.streams.Stations.{Answer, Opening, Receiving, Endpoint}
use Rattle.dnp_streams.specs.streams.Spelled.{AreSpelled, sent_frames, port_after}
use Rattle.dnp_streams.specs.streams.Exchanges.{Output, no_output, output_with, Opens, Opened, Unopened, HearsAll, Converses}
use Rattle.dnp_streams.specs.streams.Exchanges.{Hears, Unfinished, Answered, Refused}
use Rattle.dnp_streams.specs.streams.Counts.{none_served, most, Counts}
use Rattle.dnp_streams.specs.streams.OneWay.{OpensOneWay, ReceivesOneWay, OneOutput}
use Rattle.dnp_streams.specs.declared.stream.served.Served.{Served}
use Rattle.dnp_streams.proofs.links.Standing.{gives_none}

-- what ports and streams of frames promise
pub record Laws : Type 0 where
  pub takes : (old new other : PortState) (frame : Frame) (taken taken' : Taken) → HasHistory old → Takes old frame new taken
      → Takes old frame other taken' → (new ≡ other) × (taken ≡ taken')
  pub shows : (port : PortState) (octets octets' : List ℕ) → HasHistory port → IsShown port octets → IsShown port octets' → octets ≡ octets'
  pub goes_on : (old new : PortState) (frame : Frame) (taken : Taken) → HasHistory old → Takes old frame new taken → HasHistory new
  pub gives : (stream rest other : List ℕ) (frames others : List Frame) → Gives stream frames rest → Gives stream others other
      → (frames ≡ others) × (rest ≡ other)
  pub spells : (unit other : List ℕ) (frame : Frame) → Spells unit frame → Spells other frame → unit ≡ other

-- sending changes no history
has_history_after : (p : PortState) (fragments : List (List ℕ)) → HasHistory p → HasHistory (port_after p fragments)
has_history_after p [] h = h
has_history_after p (f ∷ fragments) h =
    has_history_after (moved_on (cut_count (length f)) p) fragments record { heard = h.heard; answers = h.answers; pushed = h.pushed; stands = h.stands }

abbrev endpoint_of : {S : Type 0} → S → PortState → Endpoint S
endpoint_of station port = record { station = station; port = port }

same_endpoint : {S : Type 0} (s t : S) (p q : PortState) → s ≡ t → p ≡ q → endpoint_of s p ≡ endpoint_of t q
same_endpoint s t p q stations ports = cc

-- two steps that came out alike, after which the port has a history still
pub record Alike {S : Type 0} (output output' : Output) (new other : Endpoint S) : Type 0 where
  pub outputs : output ≡ output'
  pub ends : new ≡ other
  pub history : HasHistory new.port

-- nothing was refused
abbrev pub NoFault : Output → Type 0
NoFault output = output.faults ≡ 0

fault : (output step : Output) → NoFault output → output ≡ step → step.faults ≡ 1 → ⊥
fault output step none is one = omega (arith, none, ap (λ (o : Output). o.faults) is, one)

opens_alike : {S : Type 0} (opens : Opening S) (now : ℕ) (old new other : Endpoint S) (output output' : Output) → OpensOneWay opens → HasHistory old.port
    → Opens opens now old output new → Opens opens now old output' other → NoFault output → NoFault output' → Alike output output' new other
opens_alike opens now old new other output output' one history (Unopened why refused is same) second none none' = absurd (fault output _ none is refl)
opens_alike opens now old new other output output' one history (Opened a step is moved) (Unopened why refused is' same) none none' =
    absurd (fault output' _ none' is' refl)
opens_alike {S} opens now old new other output output' one history (Opened a step is moved) (Opened b step' is' moved') none none' =
    let (answers, stations) = one old.station new.station other.station now a b step step' in
    record {
      outputs =
          is
          ∙ ap (λ (x : Answer). record { frames = sent_frames old.port x.send; fragments = 0; faults = 0; closed = x.close }) answers
          ∙ sym is';
      ends = same_endpoint new.station other.station new.port other.port stations
          (moved ∙ ap (λ (x : Answer). port_after old.port x.send) answers ∙ sym moved');
      history = subst HasHistory (sym moved) (has_history_after old.port a.send history);
    }

hears_alike : {S : Type 0} (receives : Receiving S) (now : ℕ) (old new other : Endpoint S) (frame : Frame) (output output' : Output) → Laws
    → ReceivesOneWay receives → HasHistory old.port
    → Hears receives now old frame output new → Hears receives now old frame output' other → NoFault output → NoFault output' → Alike output output' new other
hears_alike receives now old new other frame output output' laws one history (Refused taken fragment takes whole shown why refused is same) second none none' =
    absurd (fault output _ none is refl)
hears_alike receives now old new other frame output output' laws one history first
    (Refused taken' fragment' takes' whole' shown' why refused is' same') none none' =
    absurd (fault output' _ none' is' refl)
hears_alike receives now old new other frame output output' laws one history (Unfinished taken takes partial is same)
    (Unfinished taken' takes' partial' is' same') none none' =
    let (ports, takens) = laws.takes old.port new.port other.port frame taken taken' history takes takes' in
    record {
      outputs = is ∙ ap (λ (t : Taken). record no_output { frames = option_to_list t.reply }) takens ∙ sym is';
      ends = same_endpoint new.station other.station new.port other.port (same ∙ sym same') ports;
      history = laws.goes_on old.port new.port frame taken history takes;
    }
hears_alike receives now old new other frame output output' laws one history (Unfinished taken takes partial is same)
    (Answered taken' heard' fragment' takes' whole' shown' b step' is' moved') none none' =
    let (ports, takens) = laws.takes old.port new.port heard' frame taken taken' history takes takes' in
    absurd (false≢true (sym partial ∙ ap (λ (t : Taken). t.whole) takens ∙ whole'))
hears_alike receives now old new other frame output output' laws one history (Answered taken heard fragment takes whole shown a step is moved)
    (Unfinished taken' takes' partial' is' same') none none' =
    let (ports, takens) = laws.takes old.port heard other.port frame taken taken' history takes takes' in
    absurd (false≢true (sym partial' ∙ ap (λ (t : Taken). t.whole) (sym takens) ∙ whole))
hears_alike {S} receives now old new other frame output output' laws one history (Answered taken heard fragment takes whole shown a step is moved)
    (Answered taken' heard' fragment' takes' whole' shown' b step' is' moved') none none' =
    let (ports, takens) = laws.takes old.port heard heard' frame taken taken' history takes takes' in
    let after = laws.goes_on old.port heard frame taken history takes in
    let shown'' : IsShown heard fragment' = subst (λ (p : PortState). IsShown p fragment') (sym ports) shown' in
    let fragments : fragment ≡ fragment' = laws.shows heard fragment fragment' after shown shown'' in
    let step'' : receives.answers old.station now fragment b other.station =
    subst (λ (f : List ℕ). receives.answers old.station now f b other.station) (sym fragments) step' in
    let (answers, stations) = one old.station new.station other.station now fragment a b step step'' in
    let first : output ≡ record { frames = option_to_list taken'.reply ++ sent_frames heard a.send; fragments = 1; faults = 0; closed = a.close } =
    is ∙ ap (λ (t : Taken). record { frames = option_to_list t.reply ++ sent_frames heard a.send; fragments = 1; faults = 0; closed = a.close }) takens in
    let second : output ≡ record { frames = option_to_list taken'.reply ++ sent_frames heard b.send; fragments = 1; faults = 0; closed = b.close } =
    first ∙ ap (λ (x : Answer). record { frames = option_to_list taken'.reply ++ sent_frames heard x.send; fragments = 1; faults = 0; closed = x.close })
    answers in
    record {
      outputs =
          second
          ∙ ap (λ (p : PortState). record { frames = option_to_list taken'.reply ++ sent_frames p b.send; fragments = 1; faults = 0; closed = b.close }) ports
          ∙ sym is';
      ends =
          same_endpoint new.station other.station new.port other.port stations
          (moved ∙ ap (λ (x : Answer). port_after heard x.send) answers ∙ ap (λ (p : PortState). port_after p b.send) ports ∙ sym moved');
      history = subst HasHistory (sym moved) (has_history_after heard a.send after);
    }

-- what is after the frames that came, and was not heard, is nothing, unless a step closed the connection
abbrev pub Finishes : Output → List Frame → Type 0
Finishes output unheard = output.closed ≡ false → unheard ≡ []

record AllAlike {S : Type 0} (output output' : Output) (new other : Endpoint S) : Type 0 where
  outputs : output ≡ output'
  ends : new ≡ other

-- no frames came
none_alike : {S : Type 0} (receives : Receiving S) (now : ℕ) (old new other : Endpoint S) (frames frames' : List Frame) (output output' : Output)
    → HearsAll receives now old frames output new → HearsAll receives now old frames' output' other → frames ≡ [] → frames' ≡ []
    → AllAlike output output' new other
none_alike receives now old new other [] [] output output' (is, same) (is', same') none none' = record { outputs = is ∙ sym is'; ends = same ∙ sym same' }
none_alike receives now old new other (f ∷ frames) frames' output output' first second none none' = cc
none_alike receives now old new other [] (f ∷ frames') output output' first second none none' = cc

-- the first steps and the rest had no fault
parts_without_fault : (output first more : Output) → output ≡ output_with first more → NoFault output → NoFault first × NoFault more
parts_without_fault output first more both none =
    let sum : first.faults + more.faults ≡ 0 = sym (ap (λ (o : Output). o.faults) both) ∙ none in
    (omega (arith, sum), omega (arith, sum))

-- nothing is left after the rest either
rest_finishes : (output first more : Output) (unheard : List Frame) → output ≡ output_with first more → first.closed ≡ false → Finishes output unheard
    → Finishes more unheard
rest_finishes output first more unheard both open_still finishes closed =
    finishes (ap (λ (o : Output). o.closed) both ∙ ap (λ (b : Bool). b || more.closed) open_still ∙ closed)

both_alike : {S : Type 0} (output output' first first' more more' : Output) (new other : Endpoint S) → output ≡ output_with first more
    → output' ≡ output_with first' more'
    → first ≡ first' → AllAlike more more' new other → AllAlike output output' new other
both_alike output output' first first' more more' new other both both' firsts rest = record {
  outputs = both ∙ ap (λ (o : Output). output_with o more) firsts ∙ ap (output_with first') rest.outputs ∙ sym both';
  ends = rest.ends;
}

hears_all_alike : {S : Type 0} (receives : Receiving S) (now : ℕ) (old new other : Endpoint S) (frames frames' unheard unheard' : List Frame)
    (output output' : Output) → Laws → ReceivesOneWay receives
    → HasHistory old.port → HearsAll receives now old frames output new → HearsAll receives now old frames' output' other
    → frames ++ unheard ≡ frames' ++ unheard'
    → NoFault output → NoFault output' → Finishes output unheard → Finishes output' unheard' → AllAlike output output' new other
hears_all_alike receives now old new other [] [] unheard unheard' output output' laws one history (is, same) (is', same') all none none' ends ends' =
    record { outputs = is ∙ sym is'; ends = same ∙ sym same' }
hears_all_alike receives now old new other [] (g ∷ frames') unheard unheard' output output' laws one history (is, same) second all none none' ends ends' =
    let nothing : unheard ≡ [] = ends (ap (λ (o : Output). o.closed) is) in
    cc
hears_all_alike receives now old new other (f ∷ frames) [] unheard unheard' output output' laws one history first (is', same') all none none' ends ends' =
    let nothing : unheard' ≡ [] = ends' (ap (λ (o : Output). o.closed) is') in
    cc
hears_all_alike {S} receives now old new other (f ∷ frames) (g ∷ frames') unheard unheard' output output' laws one history
    (first, next, more, here, rest, both, stops) (first', next', more', here', rest', both', stops') all none none' ends ends' =
    let heads : g ≡ f = cc in
    let tails : frames ++ unheard ≡ frames' ++ unheard' = cc in
    let (none_first, none_more) = parts_without_fault output first more both none in
    let (none_first', none_more') = parts_without_fault output' first' more' both' none' in
    let alike = hears_alike receives now old next next' f first first' laws one history here
    (subst (λ (x : Frame). Hears receives now old x first' next') heads here') none_first none_first' in
    let rest'' : HearsAll receives now next frames' more' other = subst (λ (e : Endpoint S). HearsAll receives now e frames' more' other) (sym alike.ends)
    rest' in
    elim (cases_Bool first.closed) [
      | inl closed ↦
          both_alike output output' first first' more more' new other both both' alike.outputs
          (none_alike receives now next new other frames frames' more more' rest rest'' (stops closed)
          (stops' (sym (ap (λ (o : Output). o.closed) alike.outputs) ∙ closed)))
      | inr open_still ↦
          both_alike output output' first first' more more' new other both both' alike.outputs
          (hears_all_alike receives now next new other frames frames' unheard unheard' more more' laws one alike.history rest rest'' tails none_more none_more'
          (rest_finishes output first more unheard both open_still ends)
          (rest_finishes output' first' more' unheard' both' (sym (ap (λ (o : Output). o.closed) alike.outputs) ∙ open_still) ends'))
    ]

no_members : (frames others : List Frame) → [] ≡ frames ++ others → frames ≡ []
no_members [] others none = refl
no_members (f ∷ frames) others none = cc

-- what no octets gave
gave_none : (laws : Laws) (octets waiting : List ℕ) (frames unheard : List Frame) → octets ≡ [] → Gives octets (frames ++ unheard) waiting → frames ≡ []
gave_none laws octets waiting frames unheard none gives =
    no_members frames unheard
    (laws.gives [] [] waiting [] (frames ++ unheard) gives_none (subst (λ (t : List ℕ). Gives t (frames ++ unheard) waiting) none gives)).0

converses_alike : {S : Type 0} (opens : Opening S) (receives : Receiving S) (now : ℕ) (old new other : Endpoint S) (octets : List ℕ)
    (unheard unheard' : List Frame) (output output' : Output)
    → Laws → OpensOneWay opens → ReceivesOneWay receives → HasHistory old.port
    → Converses opens receives now old octets unheard output new → Converses opens receives now old octets unheard' output' other
    → NoFault output → NoFault output' → Finishes output unheard → Finishes output' unheard' → AllAlike output output' new other
converses_alike {S} opens receives now old new other octets unheard unheard' output output' laws one_opens one_receives history a b none none' ends ends' =
    let (none_first, none_more) = parts_without_fault output a.greeting a.answers a.both none in
    let (none_first', none_more') = parts_without_fault output' b.greeting b.answers b.both none' in
    let alike = opens_alike opens now old a.opened b.opened a.greeting b.greeting one_opens history a.opening b.opening none_first none_first' in
    let all : a.frames ++ unheard ≡ b.frames ++ unheard' =
    (laws.gives octets a.waiting b.waiting (a.frames ++ unheard) (b.frames ++ unheard') a.gives b.gives).0 in
    let hears' : HearsAll receives now a.opened b.frames b.answers other = subst (λ (e : Endpoint S). HearsAll receives now e b.frames b.answers other)
    (sym alike.ends) b.hears in
    elim (cases_Bool a.greeting.closed) [
      | inl closed ↦
          both_alike output output' a.greeting b.greeting a.answers b.answers new other a.both b.both alike.outputs
          (none_alike receives now a.opened new other a.frames b.frames a.answers b.answers a.hears hears'
          (gave_none laws octets a.waiting a.frames unheard (a.silent closed) a.gives)
          (gave_none laws octets b.waiting b.frames unheard' (a.silent closed) b.gives))
      | inr open_still ↦
          both_alike output output' a.greeting b.greeting a.answers b.answers new other a.both b.both alike.outputs
          (hears_all_alike receives now a.opened new other a.frames b.frames unheard unheard' a.answers b.answers laws one_receives
          alike.history a.hears hears' all none_more none_more'
          (rest_finishes output a.greeting a.answers unheard a.both open_still ends)
          (rest_finishes output' b.greeting b.answers unheard' b.both (sym (ap (λ (o : Output). o.closed) alike.outputs) ∙ open_still) ends'))
    ]

-- ---- octets

one_each : (laws : Laws) (us vs : List (List ℕ)) (frames : List Frame) → SpellEach us frames → SpellEach vs frames → us ≡ vs
one_each laws [] [] frames first second = refl
one_each laws [] (v ∷ vs) [] first second = absurd second
one_each laws [] (v ∷ vs) (f ∷ frames) first second = cc
one_each laws (u ∷ us) vs [] first second = absurd first
one_each laws (u ∷ us) [] (f ∷ frames) first second = cc
one_each laws (u ∷ us) (v ∷ vs) (f ∷ frames) (here, later) (here', later') =
    let heads : u ≡ v = laws.spells u v f here here' in
    let tails : us ≡ vs = one_each laws us vs frames later later' in
    cc

one_spelling : (laws : Laws) (frames : List Frame) (a b : List ℕ) → AreSpelled frames a → AreSpelled frames b → a ≡ b
one_spelling laws frames a b first second =
    first.joined ∙ ap concat (one_each laws first.units second.units frames first.spell second.spell) ∙ sym second.joined

-- ---- what was served

-- a count of none is one of no fault
none_counted : (output : Output) (served : Served) → Counts none_served output served → served.faults ≡ 0 → NoFault output
none_counted output served counted none = omega (arith, counted.faults, none)

abbrev served_by : ℕ → ℕ → Bool → Served
served_by fragments faults closed = record { fragments = fragments; faults = faults; closed = closed }

served_is : (m n k l : ℕ) (b c : Bool) → m ≡ n → k ≡ l → b ≡ c → served_by m k b ≡ served_by n l c
served_is m n k l b c fragments faults closed = cc

counted_alike : (output output' : Output) (served served' : Served) → output ≡ output' → Counts none_served output served
    → Counts none_served output' served' → served ≡ served'
counted_alike output output' served served' same a b =
    served_is _ _ _ _ _ _
    (a.fragments ∙ ap (λ (o : Output). min (0 + o.fragments) most) same ∙ sym b.fragments)
    (a.faults ∙ ap (λ (o : Output). min (0 + o.faults) most) same ∙ sym b.faults)
    (a.closed ∙ ap (λ (o : Output). o.closed) same ∙ sym b.closed)

pub one_output : {S : Type 0} (opens : Opening S) (receives : Receiving S) → Laws → OpensOneWay opens → ReceivesOneWay receives → OneOutput opens receives
one_output opens receives laws one_opens one_receives now turns turns' old new other
    left left' held held' l l' h h' served served' history a b octets none none' =
    let t = a.traffic in
    let u = b.traffic in
    let converses' : Converses opens receives now old t.octets u.unheard u.output other =
    subst (λ (x : List ℕ). Converses opens receives now old x u.unheard u.output other) (sym octets) b.converses in
    let alike =
    converses_alike opens receives now old new other t.octets t.unheard u.unheard t.output u.output laws one_opens one_receives history a.converses converses'
    (none_counted t.output served a.ends.counted none) (none_counted u.output served' b.ends.counted none')
    (λ open_still. (a.ends.ended open_still).1) (λ open_still. (b.ends.ended open_still).1) in
    let first : AreSpelled t.output.frames t.written =
    subst (λ (x : List ℕ). AreSpelled t.output.frames x) (ap (λ (x : List ℕ). t.written ++ x) a.ends.answered ∙ append-nil t.written) a.spelled in
    let second : AreSpelled t.output.frames u.written =
    subst (λ (o : Output). AreSpelled o.frames u.written) (sym alike.outputs)
    (subst (λ (x : List ℕ). AreSpelled u.output.frames x) (ap (λ (x : List ℕ). u.written ++ x) b.ends.answered ∙ append-nil u.written) b.spelled) in (
      one_spelling laws t.output.frames t.written u.written first second,
      counted_alike t.output u.output served served' alike.outputs a.ends.counted b.ends.counted,
      alike.ends,
    )
