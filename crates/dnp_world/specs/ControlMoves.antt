-- Definition: what a control that went all the way has moved: its command was performed once, and both books say so (IEEE Std
-- 1815-2012, application layer: SELECT and OPERATE).
use Rattle.std.specs.Prelude.{◌≡◌, ℕ, ◌+◌, [], ◌∷◌, ◌++◌, Option, Some}
use Rattle.std.specs.Option.{option_and_then}
use Rattle.dnp_concentrator.specs.Mapped.{command_below}
use Rattle.dnp_objects.specs.Status.{success}
use Rattle.dnp_objects.specs.declared.command.Command.{Command}
use Rattle.dnp_world.specs.Controls.{found_in, status_of}
use Rattle.dnp_world.specs.Systems.{System}

-- the substation and the command there, with the substation's own index, that a control of the centre's book stands for
abbrev pub ordered_below : System → ℕ → Option (ℕ × Command)
ordered_below s id = option_and_then (λ entry. command_below s.indices entry.command) (found_in s.centre.orders.entries id)

-- The control of this id in the centre's book is for a substation. That has performed its command, once, and no substation any other.
-- Of it both books say SUCCESS: the centre's under this id, and the concentrator's under the id that it gave out next.
pub record ControlMoves (id : ℕ) (old new : System) : Type 0 where
  pub substation : ℕ
  pub command : Command
  pub ordered : ordered_below old id ≡ Some (substation, command)
  pub operated : new.history.operated ≡ old.history.operated ++ (substation, command) ∷ []
  pub above : status_of new.centre.orders.entries id ≡ Some success
  pub below : status_of new.concentrator.controls.entries (old.concentrator.controls.last_id + 1) ≡ Some success
