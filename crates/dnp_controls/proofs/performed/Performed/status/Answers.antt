use Rattle.dnp_controls.proofs.performed.Performed.status.Goals as goal

pub returns : goal.returns
returns c = rw (← c.self.view_is) (c.shown.ensures c.self.inside.commands.items c.self.invariant)
