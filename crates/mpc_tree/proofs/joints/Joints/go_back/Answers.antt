use Rattle.std.proofs.Common.{◌≡◌, ◌≤◌, length, take, sym, subst, ap, ◌∙◌, arith}
use Rattle.mpc_tree.proofs.JointRuns.{shared_front}
use Rattle.mpc_tree.proofs.joints.Joints.go_back.Goals as goal

pub returns-clause-first : goal.returns-clause-first
returns-clause-first c =
    let last = c.args.self.now.cell.items in
    let shared = c.shared_rows.result in
    let alike : take shared last ≡ take shared c.args.cell.now = subst (λ rows. take shared rows ≡ take shared c.args.cell.now) c.as_slice.ensures.value c.shared_rows.ensures.alike in
    let within : shared ≤ length last = omega (arith, c.shared_rows.ensures.within.0, ap length c.as_slice.ensures.value) in
    let kept = c.truncate.ensures.items in
    kept ∙ shared_front last c.args.cell.now c.min-shared.result shared (omega arith) within alike ∙ sym (ap (λ rows. take (length rows) c.args.cell.now) kept)
