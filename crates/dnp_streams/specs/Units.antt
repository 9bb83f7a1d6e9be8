-- Definition: the units of frames and fragments, written one below the other.
use Rattle.std.specs.Prelude.{◌≡◌, ℕ, ◌+◌, ◌%◌, List, [], ◌∷◌, ◌++◌, length, map}
use Rattle.dnp_linkframe.specs.declared.frame.Frame.{Frame}
use Rattle.dnp_linkframe.specs.Frames.{Spells}
use Rattle.dnp_linkstation.specs.Station.{Ends, sent}
use Rattle.dnp_transport.specs.declared.limits.TheConstants.{SEGMENT_NUMBERS}
use Rattle.dnp_transport.specs.Cuts.{cut_count, cuts}
use Rattle.dnp_streams.specs.OctetLines.{line_of}

-- the frames in which a station sends fragments to its peer: one for each segment, in order, the first of them with
-- this number (IEEE Std 1815-2012, transport function over data link layer)
abbrev pub frames_of : Ends → ℕ → List (List ℕ) → List Frame
frames_of e number [] = []
frames_of e number (fragment ∷ fragments) =
    map (sent e) (cuts fragment number) ++ frames_of e ((number + cut_count (length fragment)) % SEGMENT_NUMBERS) fragments

-- the text has a line for each frame, in order: the octets of the unit that spells it, and a line feed
abbrev pub AreLinesOf : List Frame → List ℕ → Type 0
AreLinesOf [] text = text ≡ []
AreLinesOf (frame ∷ frames) text =
    (unit : List ℕ) × (rest : List ℕ) × Spells unit frame × AreLinesOf frames rest × (text ≡ line_of unit ++ 10 ∷ rest)
