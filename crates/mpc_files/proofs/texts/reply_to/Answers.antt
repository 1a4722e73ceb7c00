use Rattle.mpc_files.proofs.texts.reply_to.Goals as goal

pub returns-clause-ok : goal.returns-clause-ok
returns-clause-ok c = record { parts = c.in_ok-controller.controller; given = record { spelled = c.in_ok-controller.ensures.ok; of_shape = c.plant.ensures.controller }; replies = c.in_ok-text.ensures }
