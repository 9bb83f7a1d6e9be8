-- The commands that requests performed, one after another.
use Rattle.std.proofs.Common.{◌≡◌, List, [], ◌∷◌, ◌++◌, sym, ◌∙◌, append_assoc, append-nil}
use Rattle.std.specs.List.{flat_map}
use Rattle.dnp_objects.specs.declared.command.Command.{Command}
use Rattle.dnp_controls.specs.Panel.{PerformedRequest, accepted, performed_after}

pub performed-are_accepted : (performed : List Command) (requests : List PerformedRequest)
    → performed_after performed requests ≡ performed ++ flat_map (λ request. accepted request.check request.commands) requests
performed-are_accepted performed [] = sym (append-nil performed)
performed-are_accepted performed (request ∷ requests) =
    performed-are_accepted (performed ++ accepted request.check request.commands) requests
    ∙ append_assoc performed (accepted request.check request.commands) (flat_map (λ request. accepted request.check request.commands) requests)
