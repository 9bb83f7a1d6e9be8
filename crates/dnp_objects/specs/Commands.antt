-- Definition: a command and its status as the octets of an object (IEEE Std 1815-2012, object library: control
-- relay output block, analog output blocks), low octets first. Reading and writing are this one relation, gone
-- through either way.
use Rattle.std.specs.Prelude.{◌≡◌, ◌≢◌, ℕ, ◌%◌, ◌^◌, ◌<◌, FitsSigned, List, [], ◌∷◌, ◌++◌, length, Option, Some, None}
use Rattle.std.specs.Option.{option_and_then, IsSomeAnd}
use Rattle.std.specs.Int.{w16, w32, cast_unsigned}
use Rattle.byteorder.specs.Endian.{little_bytes}
use Rattle.dnp_objects.specs.declared.command.Command.{Command}
use Rattle.dnp_objects.specs.declared.command.Command.TheVariants.{Block, Set16, Set32}
use Rattle.dnp_objects.specs.declared.table.Content.{Content}
use Rattle.dnp_objects.specs.declared.table.Content.TheVariants as content
use Rattle.dnp_objects.specs.declared.fault.ObjectFault.{ObjectFault}
use Rattle.dnp_objects.specs.declared.fault.ObjectFault.TheVariants.{ObjectUnknown, Cut, ValueRange}
use Rattle.dnp_objects.specs.Objects.{content_of, content_size}

-- ---- a command

-- what carries the command
abbrev pub carrier : Command → Content
carrier (Block index code count on off) = content.Block
carrier (Set16 index value) = content.Setpoint 2
carrier (Set32 index value) = content.Setpoint 4

-- the group and the variation of the object that does
abbrev pub object_of : Command → ℕ × ℕ
object_of (Block index code count on off) = (12, 1)
object_of (Set16 index value) = (41, 2)
object_of (Set32 index value) = (41, 1)

abbrev pub index_of : Command → ℕ
index_of (Block index code count on off) = index
index_of (Set16 index value) = index
index_of (Set32 index value) = index

-- the numbers of the command are those of its fields
abbrev pub IsInRange : Command → Type 0
IsInRange (Block index code count on off) = (on < 2 ^ 32) × (off < 2 ^ 32)
IsInRange (Set16 index value) = FitsSigned w16 value
IsInRange (Set32 index value) = FitsSigned w32 value

-- ---- its octets

-- what stands before the status
abbrev pub order_octets : Command → List ℕ
order_octets (Block index code count on off) = code ∷ count ∷ (little_bytes 4 on ++ little_bytes 4 off)
order_octets (Set16 index value) = little_bytes 2 (cast_unsigned w16 value)
order_octets (Set32 index value) = little_bytes 4 (cast_unsigned w32 value)

-- the command with its status, whose bit 7 is 0 since a status is below 128
abbrev pub command_octets : Command → ℕ → List ℕ
command_octets command status = order_octets command ++ status ∷ []

-- ---- reading

-- the octets are those of this command, of this index, and of a status octet; bit 7 of that octet is
-- not looked at
pub record IsCommandOf (content : Content) (index : ℕ) (octets : List ℕ) (command : Command) (status : ℕ) : Type 0 where
  pub carrier_is : carrier command ≡ content
  pub index_is : index_of command ≡ index
  pub in_range : IsInRange command
  pub status_octet : ℕ
  pub status_is : status ≡ status_octet % 128
  pub spelled : octets ≡ command_octets command status_octet

-- the octets of this object are read as this command with this status
abbrev pub ReadsCommand : ℕ → ℕ → ℕ → List ℕ → Command × ℕ → Type 0
ReadsCommand group variation index octets answer =
    IsSomeAnd (content_of group variation) (λ content. IsCommandOf content index octets answer.0 answer.1)

-- ---- refusals

-- how many octets the command has that stands in this object, if one does
abbrev pub size_read : Content → Option ℕ
size_read (content.Row s) = None
size_read (content.WrittenRow s) = None
size_read content.Block = Some (content_size content.Block)
size_read (content.Setpoint w) = Some (content_size (content.Setpoint w))
size_read (content.Other n) = None

abbrev pub command_size : ℕ → ℕ → Option ℕ
command_size group variation = option_and_then size_read (content_of group variation)

-- why octets are not read as a command of this object
abbrev pub IsCommandFault : ℕ → ℕ → List ℕ → ObjectFault → Type 0
IsCommandFault group variation octets ObjectUnknown = command_size group variation ≡ None
IsCommandFault group variation octets Cut = IsSomeAnd (command_size group variation) (λ size. length octets ≢ size)
IsCommandFault group variation octets ValueRange = ⊥
