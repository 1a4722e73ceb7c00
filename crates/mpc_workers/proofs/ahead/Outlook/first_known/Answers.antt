use Rattle.mpc_workers.proofs.ahead.Outlook.first_known.Goals as goal

pub invariant_of-self : goal.invariant_of-self
invariant_of-self c = (c.forget_before.ensures c.self.inside.examiner c.self.invariant.0, c.self.invariant.1)
