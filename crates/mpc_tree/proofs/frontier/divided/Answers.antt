use Rattle.std.proofs.Common.{◌≡◌, ◌∷◌, [], sym, subst}
use Rattle.std.specs.Prelude.{All}
use Rattle.std.proofs.lemmas.Result.{IfOk-weaker}
use Rattle.mpc_tree.specs.Pieces.{IsOpen, IsFiner}
use Rattle.mpc_tree.proofs.Sides.{one_open}
use Rattle.mpc_tree.proofs.PieceLemmas.{finer_same}
use Rattle.mpc_tree.proofs.frontier.divided.Goals as goal

pub returns-in_default-clause-open : goal.returns-in_default-clause-open
returns-in_default-clause-open c = IfOk-weaker c.one-in_default.result (λ v. v.items ≡ c.args.piece ∷ []) (λ v. All (IsOpen c.args.qp.now c.args.laws.now) v.items)
    (λ v e. one_open c.args.qp.now c.args.laws.now v.items c.args.piece e c.requires.open) c.one-in_default.ensures

pub returns-in_default-clause-finer : goal.returns-in_default-clause-finer
returns-in_default-clause-finer c = IfOk-weaker c.one-in_default.result (λ v. v.items ≡ c.args.piece ∷ []) (λ v. IsFiner c.args.qp.now c.args.laws.now (c.args.piece ∷ []) v.items)
    (λ v e. subst (IsFiner c.args.qp.now c.args.laws.now (c.args.piece ∷ [])) (sym e) (finer_same c.args.qp.now c.args.laws.now (c.args.piece ∷ []))) c.one-in_default.ensures
