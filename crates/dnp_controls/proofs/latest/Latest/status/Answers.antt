use Rattle.dnp_controls.proofs.latest.Latest.status.Goals as goal

pub returns : goal.returns
returns c = rw (← c.self.view_is) (c.shown.ensures c.self.inside.listing.commands c.self.invariant.latches)
