-- Definition: outputs of a station: what they answer, what they show, and which commands they have performed.
use Rattle.std.specs.Prelude.{ℕ, ◌==◌, List, [], ◌∷◌, ◌++◌, filter}
use Rattle.dnp_objects.specs.declared.command.Command.{Command}
use Rattle.dnp_objects.specs.Status as status

-- outputs, as their callers see them
pub record Panel : Type 0 where
  -- the most commands of one request
  pub most : ℕ
  -- how many binary outputs show a status, from index 0 on
  pub outputs : ℕ
  -- the flags octet that the binary output of an index shows
  pub status : ℕ → ℕ
  -- the status that a command is answered now
  pub check : Command → ℕ
  -- the commands that were performed, in order
  pub performed : List Command

-- the commands that are answered SUCCESS
abbrev pub accepted : (Command → ℕ) → List Command → List Command
accepted check commands = filter (λ command. check command == status.success) commands

-- a request that was carried out: its commands, and the status that each one was answered then
pub record PerformedRequest : Type 0 where
  pub check : Command → ℕ
  pub commands : List Command

-- the commands that were performed after such requests, one after another
abbrev pub performed_after : List Command → List PerformedRequest → List Command
performed_after performed [] = performed
performed_after performed (request ∷ requests) =
    performed_after (performed ++ accepted request.check request.commands) requests
