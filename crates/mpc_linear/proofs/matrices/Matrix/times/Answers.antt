use Rattle.std.proofs.Common.{◌≡◌, ◌∙◌, ◌*◌, ◌++◌, ◌<◌, ◌≤◌, [], length, sym, ap, subst, arith}
use Rattle.std.proofs.lemmas.Result.{err_from_is_err_and}
use Rattle.mpc_space.specs.Matrix.{height}
use Rattle.mpc_linear.specs.Product.{product_row, DotsFit, RowFits, IsFirstWide}
use Rattle.mpc_linear.proofs.GridLemmas.{height_is, columns_is, rectangular_is}
use Rattle.mpc_linear.proofs.ProductLemmas.{product_rows, product_more, product_length, product_grid}
use Rattle.mpc_space.proofs.Outcomes.{below_next}
use Rattle.mpc_linear.proofs.Outcomes.{IfWide-weaker}
use Rattle.mpc_linear.proofs.matrices.Matrix.times.Goals as goal
use Rattle.mpc_linear.proofs.matrices.Matrix.times.Goals.{After-row, After-loop-i}

pub loop-i-init : goal.loop-i-init
loop-i-init c = record { items = c.in_ok-entries.ensures.items; fits = λ k l. absurd (omega arith) }

pub row-requires : goal.row-requires
row-requires c = subst (λ n. c.loop-i.i < n) (height_is _ _ _ _ c.self.view_is) c.loop-i-test.true

below : (c : After-row) → c.loop-i.i < height c.args.self.now
below c = subst (λ n. c.loop-i.i < n) (height_is _ _ _ _ c.self.view_is) c.loop-i-test.true

pub append_product-requires : goal.append_product-requires
append_product-requires c =
    ap length c.row.ensures ∙ rectangular_is _ _ _ _ c.self.view_is c.self.invariant c.loop-i.i [] (below (goal.at.append_product-requires c).After-row) ∙ c.requires

pub returns-in_err-append_product-clause-wide : goal.returns-in_err-append_product-clause-wide
returns-in_err-append_product-clause-wide c =
    let p = err_from_is_err_and c.from_residual-in_err-append_product.result c.from_residual-in_err-append_product.ensures.1 in
    let d = (goal.at.returns-in_err-append_product-clause-wide c).After-row in
    rw (p.1, p.2) (IfWide-weaker _ _ (λ row. IsFirstWide c.args.self.now c.args.other.now row)
    (λ step h. record {
      index = c.loop-i.i;
      named = h.0;
      below = below d;
      before = c.loop-i.invariant.fits;
      wide = λ f. h.1 (subst (λ row. DotsFit c.args.other.now row) (sym c.row.ensures) f);
    })
    c.in_err-append_product.ensures.wide)

pub loop-i-preserved : goal.loop-i-preserved
loop-i-preserved c =
    let d = (goal.at.loop-i-preserved c).After-row in
    record {
      items = c.in_ok-append_product.ensures.ok ∙ ap (λ xs. xs ++ product_row c.args.other.now c.row.result.now) c.loop-i.invariant.items ∙ product_more c.args.self.now c.args.other.now c.loop-i.i c.row.result.now (below d) c.row.ensures;
      fits = below_next (λ k. RowFits c.args.self.now c.args.other.now k) c.loop-i.i c.loop-i.invariant.fits (subst (λ row. DotsFit c.args.other.now row) c.row.ensures c.in_ok-append_product.ensures.wide);
    }

all : (c : After-loop-i) → c.loop-i.i ≡ c.self.inside.rows
all c =
    let h : c.loop-i.i ≤ c.self.inside.rows = c.loop-i.auto.i-end in
    let k : c.self.inside.rows ≤ c.loop-i.i = c.loop-i-test.false in
    omega arith

stored : (c : After-loop-i) → c.loop-i.entries.items ≡ product_rows c.args.self.now c.args.other.now c.self.inside.rows
stored c = c.loop-i.invariant.items ∙ ap (product_rows c.args.self.now c.args.other.now) (all c)

pub invariant_of-result : goal.invariant_of-result
invariant_of-result c =
    product_length c.args.self.now c.args.other.now c.self.inside.rows (height_is _ _ _ _ c.self.view_is) c.loop-i.entries.items (stored c)
    ∙ ap (λ w. c.self.inside.rows * w) (sym (columns_is _ _ _ _ c.other.view_is))

pub returns-clause-value : goal.returns-clause-value
returns-clause-value c =
    product_grid c.args.self.now c.args.other.now c.self.inside.rows c.other.inside.cols (height_is _ _ _ _ c.self.view_is) (columns_is _ _ _ _ c.other.view_is) c.loop-i.entries.items (stored c)

pub returns-clause-wide : goal.returns-clause-wide
returns-clause-wide c i h = c.loop-i.invariant.fits i (subst (λ n. i < n) (sym (all c ∙ height_is _ _ _ _ c.self.view_is)) h)
