-- Definition: what a unit says, in one phrase of the standard's words (IEEE Std 1815-2012). Of a segment that is a whole
-- fragment it is what the fragment says: its function, its sequence number and the bits that are set, in a response its
-- indications, and its object headers.
use Rattle.std.specs.Prelude.{◌≡◌, ◌<◌, ℕ, ◌+◌, ◌-◌, ◌/◌, ◌%◌, ◌^◌, Bool, true, false, nat_lt, ◌==◌, ◌&&◌, if◌then◌else◌, List, [], ◌∷◌, ◌++◌, length, take, drop, slice_index, find, codes, min, Option, Some, None, Result, Ok, Err}
use Rattle.std.specs.Fmt.{decimal}
use Rattle.std.specs.List.{flat_map}
use Rattle.dnp_linkframe.specs.declared.frame.Frame.{Frame}
use Rattle.dnp_linkframe.specs.declared.frame.FrameFault.{FrameFault}
use Rattle.dnp_linkframe.specs.Frames.{Spells, IsFirstFault}
use Rattle.dnp_linkstation.specs.declared.function.PrimaryFunction.{PrimaryFunction}
use Rattle.dnp_linkstation.specs.declared.function.PrimaryFunction.TheVariants as primary
use Rattle.dnp_linkstation.specs.declared.function.SecondaryFunction.{SecondaryFunction}
use Rattle.dnp_linkstation.specs.declared.function.SecondaryFunction.TheVariants as secondary
use Rattle.dnp_linkstation.specs.Control.{is_primary, primary_function, code}
use Rattle.dnp_appfragment.specs.declared.fault.AppFault.{AppFault}
use Rattle.dnp_appfragment.specs.declared.function.Function.{Function}
use Rattle.dnp_appfragment.specs.declared.function.Function.TheVariants as function
use Rattle.dnp_appfragment.specs.declared.header.Range.{Range}
use Rattle.dnp_appfragment.specs.declared.header.Range.TheVariants as range
use Rattle.dnp_appfragment.specs.declared.iin.Iin.{Iin}
use Rattle.dnp_appfragment.specs.Control.{ControlBits}
use Rattle.dnp_appfragment.specs.Fragments.{Asked, Answered}
use Rattle.dnp_appfragment.specs.Headers.{Head, count_of}
use Rattle.dnp_appfragment.specs.Meaning.{control_of, request_at, response_at}
use Rattle.dnp_appfragment.specs.Names.{function_name}
use Rattle.dnp_appfragment.specs.Table.{function_of, is_response}
use Rattle.dnp_trace.specs.declared.phrase.TheConstants.{NAMED}

-- the capital hexadecimal digit of a number below 16
abbrev pub digit : ℕ → ℕ
digit n = if nat_lt n 10 then 48 + n else 55 + n

abbrev pub octet_text : ℕ → List ℕ
octet_text octet = digit (octet / 16) ∷ digit (octet % 16) ∷ []

-- ---- object headers

abbrev pub is_all : Range → Bool
is_all range.All = true
is_all (range.Span wide first last) = false
is_all (range.Count wide n) = false
is_all (range.Indexed wide n) = false

-- the group and variation of a header, and how many objects it names
abbrev pub header_phrase : Head → List ℕ
header_phrase h =
    codes ", " ++ decimal h.group ++ codes "." ++ decimal h.variation
    ++ (if is_all h.range then codes " all" else codes " x" ++ decimal (count_of h.range))

-- so many headers aren't named
abbrev pub more_phrase : ℕ → List ℕ
more_phrase n = if n == 0 then [] else codes ", " ++ decimal n ++ codes " more"

-- the first NAMED headers, and the number of the others (up to the greatest number that there is)
abbrev pub headers_phrase : List Head → List ℕ
headers_phrase hs = flat_map header_phrase (take NAMED hs) ++ more_phrase (min (length hs - NAMED) (2 ^ 64 - 1))

-- ---- fragments

abbrev pub word_if : Bool → List ℕ → List ℕ
word_if said word = if said then word else []

-- the sequence number of a fragment, and its bits that are set
abbrev pub control_phrase : ControlBits → List ℕ
control_phrase control =
    codes " seq " ++ decimal control.seq ++ word_if control.fir (codes " fir") ++ word_if control.fin (codes " fin")
    ++ word_if control.con (codes " con") ++ word_if control.uns (codes " uns")

-- the indications of a response, where there are any
abbrev pub iin_phrase : Iin → List ℕ
iin_phrase iin =
    if (iin.one == 0) && (iin.two == 0) then []
    else codes " iin " ++ octet_text iin.one ++ codes " " ++ octet_text iin.two

abbrev pub request_phrase : Result Asked AppFault → List ℕ
request_phrase (Ok asked) = headers_phrase asked.headers
request_phrase (Err fault) = codes ", invalid"

abbrev pub response_phrase : Result Answered AppFault → List ℕ
response_phrase (Ok answered) = iin_phrase answered.iin ++ headers_phrase answered.headers
response_phrase (Err fault) = codes ", invalid"

-- what follows the function and the control octet of a fragment of this function
abbrev pub body_phrase : Function → List ℕ → List ℕ
body_phrase f octets =
    if is_response f then response_phrase (response_at octets) else request_phrase (request_at octets)

-- the octets of a fragment whose second octet is this function's, or none's
abbrev pub coded_phrase : Option Function → List ℕ → List ℕ
coded_phrase (Some f) octets =
    function_name f ++ control_phrase (control_of (slice_index octets 0)) ++ body_phrase f octets
coded_phrase None octets =
    codes "function " ++ decimal (slice_index octets 1) ++ control_phrase (control_of (slice_index octets 0))

abbrev pub fragment_phrase : List ℕ → List ℕ
fragment_phrase octets =
    if nat_lt (length octets) 2 then codes "no fragment" else coded_phrase (function_of (slice_index octets 1)) octets

-- ---- segments

-- a segment of this header by its bits and its number
abbrev pub part_phrase : ℕ → List ℕ
part_phrase header =
    codes "segment " ++ word_if (header / 64 % 2 == 1) (codes "FIR ") ++ word_if (header / 128 % 2 == 1) (codes "FIN ")
    ++ decimal (header % 64)

-- what its fragment says where it is the only one
abbrev pub headed_phrase : ℕ → List ℕ → List ℕ
headed_phrase header rest =
    if (header / 128 % 2 == 1) && (header / 64 % 2 == 1) then fragment_phrase rest else part_phrase header

unfoldable pub segment_phrase : List ℕ → List ℕ
segment_phrase user =
    if length user == 0 then codes "no segment" else headed_phrase (slice_index user 0) (drop 1 user)

-- ---- link frames

-- the functions of replies
abbrev pub replies : List SecondaryFunction
replies = secondary.Ack ∷ secondary.Nack ∷ secondary.LinkStatus ∷ secondary.NotSupported ∷ []

abbrev pub reply_of : ℕ → Option SecondaryFunction
reply_of number = find (λ (f : SecondaryFunction). code f == number) replies

abbrev pub reply_name : SecondaryFunction → List ℕ
reply_name secondary.Ack = codes "ACK"
reply_name secondary.Nack = codes "NACK"
reply_name secondary.LinkStatus = codes "LINK_STATUS"
reply_name secondary.NotSupported = codes "NOT_SUPPORTED"

abbrev pub reply_phrase : Option SecondaryFunction → ℕ → List ℕ
reply_phrase (Some f) number = reply_name f
reply_phrase None number = codes "link reply " ++ decimal number

abbrev pub asked_phrase : PrimaryFunction → ℕ → List ℕ → List ℕ
asked_phrase primary.ResetLinkStates number user = codes "RESET_LINK_STATES"
asked_phrase primary.TestLinkStates number user = codes "TEST_LINK_STATES"
asked_phrase primary.ConfirmedUserData number user = codes "CONFIRMED_USER_DATA " ++ segment_phrase user
asked_phrase primary.UnconfirmedUserData number user = segment_phrase user
asked_phrase primary.RequestLinkStatus number user = codes "REQUEST_LINK_STATUS"
asked_phrase primary.Other number user = codes "link function " ++ decimal number

-- a frame of this CONTROL and these user user
abbrev pub frame_phrase : ℕ → List ℕ → List ℕ
frame_phrase control user =
    if is_primary control then asked_phrase (primary_function control) (control % 16) user
    else reply_phrase (reply_of (control % 16)) (control % 16)

-- ---- units

-- what a unit of octets says; it has none where they were never seen
pub data IsPhrase (unit phrase : List ℕ) : Type 0 where
  IsUnseen : unit ≡ [] → phrase ≡ codes "unseen" → IsPhrase unit phrase
  IsNoFrame : (fault : FrameFault) → 0 < length unit → IsFirstFault unit fault → phrase ≡ codes "no link frame" → IsPhrase unit phrase
  IsFramed : (frame : Frame) → Spells unit frame → phrase ≡ frame_phrase frame.control frame.user.items → IsPhrase unit phrase
