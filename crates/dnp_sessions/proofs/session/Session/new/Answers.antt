use Rattle.std.proofs.Common.{[], ◌∷◌, ◌++◌, ap, ◌∙◌}
use Rattle.dnp_sessions.proofs.Keeping.{keeps_begun}
use Rattle.dnp_sessions.proofs.session.Session.new.Goals as goal

pub invariant_of-result : goal.invariant_of-result
invariant_of-result g c =
    keeps_begun _ _ _ c.args.station c.args.port (c.and-began.ensures ∙ ap (λ entries. entries ++ (c.args.station, c.args.port) ∷ []) c.new.ensures) c.new-2.ensures
    c.new-3.ensures c.new-4.ensures c.new-5.ensures
