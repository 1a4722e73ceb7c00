use Rattle.mpc_whole.proofs.whole.pick.Goals as goal

pub returns-clause-least : goal.returns-clause-least
returns-clause-least c = λ seats p k d z a some h r. c.entering.ensures seats p k c.args.leaving d z a some h r
