use Rattle.std.proofs.Common.{Option, Some, IfSome, ◌≡◌, ◌+◌, ◌*◌, ◌≤◌, arith, subst, le_trans, mul-le-mul_left}
use Rattle.mpc_whole.specs.Whole.{side_cell}
use Rattle.mpc_scaled.specs.Scaled.{whole_cell}
use Rattle.mpc_whole.proofs.Judges.{both_some}
use Rattle.mpc_whole.proofs.WholeForm.{column_norm}
use Rattle.mpc_whole.proofs.judge.judge.Goals as goal

there : {X : Type 0} {P : Type 0} (r : Option X) (x : X) → r ≡ Some x → IfSome r (λ _. P) → P
there {X} {P} r x e h = subst (λ (o : Option X). IfSome o (λ _. P)) e h

pub returns-in-Some : goal.returns-in-Some
returns-in-Some c =
    let s = c.args.system.now in
    let a = c.args.frame.now.a.now in
    let v = c.args.here.now.numbers.now in
    let own = c.args.here.now.own in
    let norm = c.args.frame.now.norm in
    let room = there c.have_common_room.result _ c.in-Some.is c.have_common_room.ensures in
    let one : own * 1 ≤ own * norm = mul-le-mul_left own c.requires.sizes.coefficients.some in
    record {
      dens = λ x h. c.in_ok-has_den_room.ensures.each x;
      whole = λ x h. c.in_ok-has_den_room.ensures.whole x;
      unknowns = λ j y k h l e. room y (whole_cell s.width v j k) (le_trans (c.requires.own.each (j * s.width + k)) (omega arith));
      sides = λ i y k h l e. room y (side_cell s a v i k) (le_trans (column_norm s a v norm own c.requires.sizes.coefficients k (λ j q. c.requires.own.each (j * s.width + k)) i) (omega arith));
    }

pub returns : goal.returns
returns c =
    both_some c.judge_columns.result c.judge_columns.ensures.unknowns c.judge_columns.ensures.sides (λ _ unknowns sides. record {
      dens = λ x h. c.in_ok-has_den_room.ensures.each x;
      whole = λ x h. c.in_ok-has_den_room.ensures.whole x;
      unknowns = unknowns;
      sides = sides;
    })

pub judge_columns-requires-clause-norm : goal.judge_columns-requires-clause-norm
judge_columns-requires-clause-norm c = c.requires.sizes.coefficients
