-- Definition: one event and one command on their way, octet by octet: what shows that the moves allow what they are there for
-- (IEEE Std 1815-2012, application layer: a poll of class 1, a direct operate).
use Rattle.std.specs.Prelude.{◌≡◌, ℕ, pos, List, [], ◌∷◌, None}
use Rattle.dnp_objects.specs.declared.command.Command.{Command}
use Rattle.dnp_objects.specs.declared.command.Command.TheVariants.{Block}
use Rattle.dnp_objects.specs.declared.row.Kind.TheVariants.{Binary}
use Rattle.dnp_eventbuf.specs.Buffered.{Buffered}
use Rattle.dnp_world.specs.LawLink.{SentFragment, LawLink}
use Rattle.dnp_world.specs.Moves.{Moves}
use Rattle.dnp_world.specs.Standing.{IsFresh}

-- a binary input of index 5, of class 1, has become 1
abbrev pub one_event : Buffered
one_event = record { id = 1; lane = 0; row = record { kind = Binary; index = 5; flags = 1; value = pos 1; time = None } }

-- READ of class 1, number 0
abbrev pub one_read : List ℕ
one_read = 0xC0 ∷ 0x01 ∷ 60 ∷ 2 ∷ 0x06 ∷ []

-- RESPONSE with FIR, FIN and CON, number 0, that holds the event as 2.1 with its index in an octet before it
abbrev pub one_response : SentFragment
one_response = record {
  octets = 0xE0 ∷ 0x81 ∷ 0 ∷ 0 ∷ 2 ∷ 1 ∷ 0x17 ∷ 1 ∷ 5 ∷ 0x81 ∷ [];
  upto = 1 ∷ [];
  rows = one_event ∷ [];
}

-- DIRECT_OPERATE, number 1: output 7 is to be latched on, once
abbrev pub one_command : Command
one_command = Block 7 3 1 0 0

abbrev pub one_operate : List ℕ
one_operate = 0xC1 ∷ 0x05 ∷ 12 ∷ 1 ∷ 0x17 ∷ 1 ∷ 7 ∷ 3 ∷ 1 ∷ 0 ∷ 0 ∷ 0 ∷ 0 ∷ 0 ∷ 0 ∷ 0 ∷ 0 ∷ 0 ∷ []

-- a run from a fresh link: the event comes, is asked for, taken, confirmed and released, and then the command is asked
-- for and performed
pub record Round : Type 0 where
  pub old : LawLink
  pub new : LawLink
  pub fresh : IsFresh old
  pub moves : Moves old new
  pub took : new.took ≡ one_event ∷ []
  pub released : new.released ≡ one_event ∷ []
  pub performed : new.performed ≡ one_command ∷ []
