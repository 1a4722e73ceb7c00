use Rattle.std.proofs.Common.{ℕ, sym, subst, subst₂}
use Rattle.mpc_rows.specs.LinearSystem.{LinearSystem}
use Rattle.mpc_whole.specs.Lists.{Listed}
use Rattle.mpc_beginnings.specs.Kept.{IsKept, AreKept}
use Rattle.mpc_beginnings.proofs.kept.kept_copy.Goals as goal

pub kept_run-requires : goal.kept_run-requires
kept_run-requires c =
    let s = c.args.system.now in
    let k = c.args.scales.now in
    let p = c.args.place in
    let l = c.put_copies.new.lists in
    let same = c.in_ok-put_copies.ensures.same in
    let weights = c.in_ok-put_copies.ensures.weights in
    let copied : AreKept s k l p c.args.end = record {
      kept = subst₂ (λ (t : Listed) (w : ℕ → ℕ). IsKept s k t w p c.args.end) (sym same) (λ i j. sym (weights p.product j) i) c.requires.kept;
      short = c.in_ok-put_copies.ensures.small c.requires.short;
    } in
    c.in_ok-last.ensures c.in_ok-own.own (subst (λ (t : LinearSystem). AreKept t k l p c.args.end) (sym c.in_ok-own.ensures) copied)
