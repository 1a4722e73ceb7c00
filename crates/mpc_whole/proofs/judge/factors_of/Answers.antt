use Rattle.std.proofs.Common.{◌≡◌, ◌∙◌, ◌*◌, ◌≤◌, length, unsigned_abs, pos, get_or, sym, ap, subst, arith, rules, FitsSigned, le_trans}
use Rattle.std.specs.Int.{w128}
use Rattle.std.proofs.lemmas.Int.{to_z-of_z}
use borrow.Author.Count.{below_more}
use Rattle.mpc_runs.specs.Table.{variable_at}
use Rattle.mpc_scaled.specs.Scaled.{whole_at, scale_at}
use Rattle.mpc_whole.proofs.Nonbasic.{stands}
use Rattle.mpc_whole.proofs.judge.factors_of.Goals as goal
use Rattle.mpc_whole.proofs.judge.factors_of.Goals.{then-variable-entering, else-variable-entering}

pub loop-column-preserved : goal.loop-column-preserved
loop-column-preserved c =
    let k = c.args.scales.now in
    let x = c.args.row.now in
    let at = variable_at c.args.nonbasic.now in
    let here = c.loop-column.column in
    let f : FitsSigned w128 (get_or x here (pos 0)) = search rules in
    let product : c.in_ok-product.product ≡ unsigned_abs (whole_at x here) * scale_at k (at here) = c.in_ok-product.ensures.1 ∙ ap (λ m. m * scale_at k (at here)) (c.unsigned_abs.ensures.value ∙ ap unsigned_abs (to_z-of_z w128 _ f)) in
    let top : c.loop-column.top ≤ c.if-variable-entering.top = elim c.if-variable-entering.branch [ then-variable-entering w ↦ (let a = w.top-is in omega arith) | else-variable-entering w ↦ (let a = w.top-is in let b = w.max-top.ensures in omega arith) ] in
    let size : c.loop-column.size ≤ c.if-variable-entering.size = elim c.if-variable-entering.branch [ then-variable-entering w ↦ (let a = w.size-is in let b = w.max-size.ensures in omega arith) | else-variable-entering w ↦ (let a = w.size-is in omega arith) ] in
    let enters : at here ≡ c.args.entering → c.in_ok-product.product ≤ c.if-variable-entering.size = elim c.if-variable-entering.branch [ then-variable-entering w ↦ λ _. (let a = w.size-is in let b = w.max-size.ensures in omega arith) | else-variable-entering w ↦ λ q. absurd (w.if-variable-entering.false q) ] in
    let other : (at here ≡ c.args.entering → ⊥) → c.in_ok-product.product ≤ c.if-variable-entering.top = elim c.if-variable-entering.branch [ then-variable-entering w ↦ λ q. absurd (q w.if-variable-entering.true) | else-variable-entering w ↦ λ _. (let a = w.top-is in let b = w.max-top.ensures in omega arith) ] in
    record {
      own = le_trans c.loop-column.invariant.own top;
      entering = below_more (λ d. at d ≡ c.args.entering → unsigned_abs (whole_at x d) * scale_at k (at d) ≤ c.if-variable-entering.size) here
          (λ d l q. le_trans (c.loop-column.invariant.entering d l q) size) (λ q. subst (λ m. m ≤ c.if-variable-entering.size) product (enters q));
      others = below_more (λ d. (at d ≡ c.args.entering → ⊥) → unsigned_abs (whole_at x d) * scale_at k (at d) ≤ c.if-variable-entering.top) here
          (λ d l q. le_trans (c.loop-column.invariant.others d l q) top) (λ q. subst (λ m. m ≤ c.if-variable-entering.top) product (other q));
    }

pub returns-clause-row : goal.returns-clause-row
returns-clause-row c = λ height n seats z a.
    let k = c.args.scales.now in
    let x = c.args.row.now in
    let columns = c.args.nonbasic.now in
    let at = stands height (length x) n seats columns z a in
    let all : length x ≤ c.loop-column.column = (let t = c.loop-column-test.false in omega arith) in
    record {
      own = c.loop-column.invariant.own;
      entering = λ y d l e o. let q = at y d l e in
          subst (λ m. unsigned_abs (whole_at x d) * scale_at k m ≤ c.loop-column.size) q.1 (c.loop-column.invariant.entering d (let r = q.0 in omega arith) (q.1 ∙ o));
      others = λ y d l e o. let q = at y d l e in
          subst (λ m. unsigned_abs (whole_at x d) * scale_at k m ≤ c.loop-column.top) q.1 (c.loop-column.invariant.others d (let r = q.0 in omega arith) (λ p. o (sym q.1 ∙ p)));
    }
