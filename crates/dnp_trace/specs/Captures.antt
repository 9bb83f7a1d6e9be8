-- Definition: a capture of what arrived, as programs that dissect packets read it. The file is of pcap's classic form, its
-- packets are of IPv4 (RFC 791) with TCP (RFC 9293) in it, and their checksums are those of RFC 1071.
use Rattle.std.specs.Prelude.{ℕ, zero, suc, ◌+◌, ◌-◌, ◌*◌, ◌/◌, ◌%◌, ◌^◌, Bool, true, false, nat_lt, ◌==◌, if◌then◌else◌, List, [], ◌∷◌, ◌++◌, length, min, take, slice_get, slice_set, Option, Some, None}
use Rattle.dnp_trace.specs.declared.capture.TheConstants.{ACK, FIRST_PORT, HEAD, LONGEST, PORT, PSH_ACK, SYN}
use Rattle.dnp_trace.specs.declared.capture.End.{End}
use Rattle.dnp_trace.specs.declared.capture.Talk.{Talk}
use Rattle.dnp_trace.specs.declared.noted.Peer.{Peer}
use Rattle.dnp_trace.specs.declared.noted.Peer.TheVariants as peer
use Rattle.dnp_trace.specs.declared.noted.What.{What}
use Rattle.dnp_trace.specs.declared.noted.What.TheVariants as what
use Rattle.dnp_trace.specs.declared.noted.Step.{Step}
use Rattle.dnp_trace.specs.declared.noted.Step.TheVariants as step
use Rattle.dnp_trace.specs.Logs.{Sent, Noted, link_number}

-- ---- numbers in octets

-- the octet of a number that counts so many: the network has the high one first
abbrev pub octet : ℕ → ℕ → ℕ
octet n weight = n / weight % 256

-- the low octet first, as pcap's mark says
unfoldable pub le32 : ℕ → List ℕ
le32 n = octet n 1 ∷ octet n 256 ∷ octet n 65536 ∷ octet n 16777216 ∷ []

-- ---- checksums (RFC 1071)

-- the sum of two words in ones' complement: what is carried out at the top is added at the bottom
unfoldable pub added : ℕ → ℕ → ℕ
added a b = if nat_lt (a + b) 65536 then a + b else a + b - 65535

-- the sum of a number and the words of octets, the first octet of each the higher one
unfoldable pub sum_from : ℕ → List ℕ → ℕ
sum_from sum [] = sum
sum_from sum (high ∷ []) = added sum (high * 256)
sum_from sum (high ∷ low ∷ octets) = sum_from (added sum (high * 256 + low)) octets

-- ---- packets

-- the header of IPv4 of a packet of so many octets, with this checksum: version 4 and five words, no fragments, 64 hops, TCP
unfoldable pub ip_with : End → End → ℕ → ℕ → List ℕ
ip_with from to size sum =
    0x45 ∷ 0 ∷ octet size 256 ∷ octet size 1 ∷ 0 ∷ 0 ∷ 0x40 ∷ 0 ∷ 64 ∷ 6 ∷ octet sum 256 ∷ octet sum 1
    ∷ 192 ∷ 0 ∷ 2 ∷ from.host ∷ 192 ∷ 0 ∷ 2 ∷ to.host ∷ []

unfoldable pub ip_header : End → End → ℕ → List ℕ
ip_header from to size = ip_with from to size (65535 - sum_from 0 (ip_with from to size 0))

-- the number of the octet that an end awaits, where the packet says it: all do but the first
abbrev pub awaited : End → ℕ → ℕ
awaited to bits = if bits == SYN then 0 else to.next

-- the header of TCP with these bits and this checksum: five words, the widest window
unfoldable pub tcp_with : End → End → ℕ → ℕ → List ℕ
tcp_with from to bits sum =
    octet from.port 256 ∷ octet from.port 1 ∷ octet to.port 256 ∷ octet to.port 1
    ∷ octet from.next 16777216 ∷ octet from.next 65536 ∷ octet from.next 256 ∷ octet from.next 1
    ∷ octet (awaited to bits) 16777216 ∷ octet (awaited to bits) 65536 ∷ octet (awaited to bits) 256 ∷ octet (awaited to bits) 1
    ∷ 0x50 ∷ bits ∷ 0xFF ∷ 0xFF ∷ octet sum 256 ∷ octet sum 1 ∷ 0 ∷ 0 ∷ []

-- what TCP's checksum counts beside its packet: the addresses, the protocol and the size
unfoldable pub around : End → End → ℕ → List ℕ
around from to size =
    192 ∷ 0 ∷ 2 ∷ from.host ∷ 192 ∷ 0 ∷ 2 ∷ to.host ∷ 0 ∷ 6 ∷ octet size 256 ∷ octet size 1 ∷ []

unfoldable pub tcp_header : End → End → ℕ → List ℕ → List ℕ
tcp_header from to bits payload =
    tcp_with from to bits (65535 - sum_from (sum_from (sum_from 0 (around from to (length payload + 20))) (tcp_with from to bits 0)) payload)

-- the octets of a packet from one end to the other, which carries these octets
abbrev pub packet_octets : End → End → ℕ → List ℕ → List ℕ
packet_octets from to bits payload = ip_header from to (length payload + 40) ++ tcp_header from to bits payload ++ payload

-- the head of a packet in the file, of 16 octets: the seconds, the microseconds, and the packet's size twice, as it is kept
-- and as it was
unfoldable pub packet_head : ℕ → ℕ → List ℕ
packet_head moment size =
    le32 (min (moment / 1000) (2 ^ 32 - 1)) ++ le32 (moment % 1000 * 1000) ++ le32 size ++ le32 size

-- a packet in the file
unfoldable pub packet_record : ℕ → End → End → ℕ → List ℕ → List ℕ
packet_record moment from to bits payload = packet_head moment (length payload + 40) ++ packet_octets from to bits payload

-- ---- conversations

-- the end has sent so many octets more
abbrev pub sent_more : ℕ → End → End
sent_more n end = record end { next = (end.next + n) % 2 ^ 32 }

-- a new conversation, of the link to a centre or to a substation: the last octets of the addresses are the link addresses, the
-- outstation listens at DNP3's port, and a master connects from another one for each of its links
abbrev pub talk_between : ℕ → ℕ → ℕ → Talk
talk_between master outstation port = record {
  begun = false;
  master = record { host = master; port = port; next = 0 };
  outstation = record { host = outstation; port = PORT; next = 0 };
}

abbrev pub new_talk : Peer → Talk
new_talk peer.Centre = talk_between 1 9 FIRST_PORT
new_talk peer.SecondCentre = talk_between 3 9 FIRST_PORT
new_talk (peer.Substation substation) = talk_between 2 (min (substation + 10) 255) (FIRST_PORT + 1 + substation)

-- the conversations of the links to the centres and of those to so many substations
abbrev pub new_talks : ℕ → List Talk
new_talks zero = new_talk peer.Centre ∷ new_talk peer.SecondCentre ∷ []
new_talks (suc n) = new_talks n ++ new_talk (peer.Substation n) ∷ []

-- the conversation once it has begun
unfoldable pub begun : Talk → Talk
begun talk =
    if talk.begun then talk
    else record { begun = true; master = record talk.master { next = 1 }; outstation = record talk.outstation { next = 1 } }

-- the master opens the conversation, if it has not begun: both ends say SYN, and both are acknowledged
unfoldable pub opening : ℕ → Talk → List ℕ
opening moment talk =
    if talk.begun then []
    else packet_record moment talk.master talk.outstation SYN []
    ++ packet_record moment talk.outstation (record talk.master { next = 1 }) (SYN + ACK) []
    ++ packet_record moment (record talk.master { next = 1 }) (record talk.outstation { next = 1 }) ACK []

-- what a packet carries of a unit: as much as there is room for
unfoldable pub carried : List ℕ → List ℕ
carried octets = take LONGEST octets

-- these octets go up, from the outstation to the master, or down
unfoldable pub arrival : ℕ → Talk → Bool → List ℕ → List ℕ
arrival moment talk up payload =
    if up then packet_record moment talk.outstation talk.master PSH_ACK payload
    else packet_record moment talk.master talk.outstation PSH_ACK payload

unfoldable pub after_arrival : Talk → Bool → List ℕ → Talk
after_arrival talk up payload =
    if up then record talk { outstation = sent_more (length payload) talk.outstation }
    else record talk { master = sent_more (length payload) talk.master }

-- ---- the file

-- a unit that did this has come to its end
abbrev pub is_arrival : What → Bool
is_arrival what.Sent = false
is_arrival what.Arrives = true
is_arrival what.Repeated = true
is_arrival what.Lost = false
is_arrival what.Damaged = false
is_arrival what.Dropped = false
is_arrival what.Stands = false

-- the packets of a unit that arrives in this conversation, and the conversation after them
abbrev pub talk_packets : ℕ → Sent → Option Talk → List ℕ
talk_packets moment unit None = []
talk_packets moment unit (Some talk) =
    opening moment talk ++ arrival moment (begun talk) unit.course.up (carried unit.octets)

abbrev pub talk_after : Sent → Option Talk → List Talk → List Talk
talk_after unit None talks = talks
talk_after unit (Some talk) talks =
    slice_set talks (link_number unit.course.peer) (after_arrival (begun talk) unit.course.up (carried unit.octets))

abbrev pub unit_packets : ℕ → Option Sent → List Talk → List ℕ
unit_packets moment None talks = []
unit_packets moment (Some unit) talks = talk_packets moment unit (slice_get talks (link_number unit.course.peer))

abbrev pub unit_after : Option Sent → List Talk → List Talk
unit_after None talks = talks
unit_after (Some unit) talks = talk_after unit (slice_get talks (link_number unit.course.peer)) talks

-- the packets of a step, and the conversations after it: only what arrives is a packet
abbrev pub step_packets : List Sent → List Talk → Step → List ℕ
step_packets units talks (step.Line moment line) = []
step_packets units talks (step.Unit moment fate number) =
    if is_arrival fate then unit_packets moment (slice_get units number) talks else []

abbrev pub step_after : List Sent → List Talk → Step → List Talk
step_after units talks (step.Line moment line) = talks
step_after units talks (step.Unit moment fate number) =
    if is_arrival fate then unit_after (slice_get units number) talks else talks

-- the packets of steps, one after the other
abbrev pub packets_from : List Sent → List Talk → List Step → List ℕ
packets_from units talks [] = []
packets_from units talks (happened ∷ steps) =
    step_packets units talks happened ++ packets_from units (step_after units talks happened) steps

-- the capture of what was noted: the file's head of 24 octets, and the packets of what happened
abbrev pub capture_of : Noted → List ℕ
capture_of log = HEAD ++ packets_from log.units (new_talks log.substations) log.steps
