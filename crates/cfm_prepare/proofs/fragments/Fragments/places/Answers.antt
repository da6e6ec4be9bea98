use Rattle.cfm_prepare.proofs.fragments.Fragments.places.Goals as goal

pub returns : goal.returns
returns c = rw (← c.self.view_is) c.places.ensures
