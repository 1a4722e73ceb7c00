use Rattle.mpc_scaled.proofs.WholeSystems.{settled, settled_not, settled_err}
use Rattle.mpc_scaled.proofs.systems.settle.Goals as goal

pub returns-in-Ok-true : goal.returns-in-Ok-true
returns-in-Ok-true c first row o w e k a =
    let b = rw c.in-Ok-true.is at a in
    settled first c.args.lists.now c.args.lists.now o k row w (b c.in-Ok-true.field-0-test)

pub returns-in-Ok-false : goal.returns-in-Ok-false
returns-in-Ok-false c first row o w e k a = settled_not first c.args.lists.now c.cut.new.lists o k row c.args.height e c.cut.ensures

pub returns-in-Err : goal.returns-in-Err
returns-in-Err c first row o w e k a = settled_err first c.args.lists.now c.cut-in-Err.new.lists o k row _ c.args.height e c.cut-in-Err.ensures
