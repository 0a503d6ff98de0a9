use Rattle.ados_launch.proofs.session.Session.release.Goals as goal

pub returns-clause-part : goal.returns-clause-part
returns-clause-part g c = rw (← c.self.view_is) c.release.ensures.part
