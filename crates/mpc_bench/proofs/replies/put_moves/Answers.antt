use Rattle.std.proofs.Common.{◌≡◌, ◌≢◌, ◌+◌, ◌-◌, ◌<◌, ◌∙◌, sym, ap, subst, length, arith, get_or-set_other, get_or-set_same, below_more}
use Rattle.mpc_space.specs.Vector.{dot}
use Rattle.mpc_plant.specs.Trajectory.{point_of}
use Rattle.mpc_rows.specs.ActiveSets.{extended}
use Rattle.mpc_controller.specs.Bounds.{first_move_form}
use Rattle.mpc_bench.proofs.Replied.{is_move}
use Rattle.mpc_bench.proofs.replies.put_moves.Goals as goal
use Rattle.mpc_bench.proofs.replies.put_moves.Goals.{After-loop-i}

pub loop-i-preserved : goal.loop-i-preserved
loop-i-preserved c =
    below_more _ _
    (λ k h. let ne : k ≢ c.loop-i.i = omega (arith, h) in rw get_or-set_other (c.loop-i.invariant k h))
    (let lt : c.loop-i.i < length c.loop-i.moves = omega (arith, c.loop-i.auto.moves, c.loop-i-test.true) in
    let same : (c.loop-i.i + 1) - 1 ≡ c.loop-i.i = omega arith in
    rw get_or-set_same (λ parts law t n. c.parts_of.ensures.value ∙ c.move_at.ensures parts law t n ∙ ap (λ j. dot (first_move_form law j) (extended (point_of c.args.counts.now))) same))

all : (c : After-loop-i) → c.loop-i.i ≡ length c.args.moves.now
all c = let a = c.loop-i.auto.i-end in let k = c.loop-i-test.false in omega arith

pub returns : goal.returns
returns c =
    is_move c.table_theorems.ensures.one_list_each c.table_theorems.ensures.moves_each_input c.args.table.now c.args.counts.now c.args.law c.loop-i.moves c.requires.can_move (c.loop-i.auto.moves ∙ c.requires.room)
    (λ k h. c.loop-i.invariant k (subst (λ n. k < n) (c.loop-i.auto.moves ∙ sym (all c)) h))
