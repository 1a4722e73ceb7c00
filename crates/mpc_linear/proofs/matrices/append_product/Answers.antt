use Rattle.std.proofs.Common.{◌≡◌, ◌∙◌, ◌++◌, ◌<◌, ◌≤◌, sym, ap, subst, arith, refl, length}
use Rattle.mpc_linear.specs.Grid.{grid}
use Rattle.std.proofs.lemmas.List.{append-nil}
use Rattle.mpc_space.specs.Vector.{dot, column, listed}
use Rattle.mpc_linear.specs.Dot.{DotFits}
use Rattle.mpc_linear.proofs.GridLemmas.{columns_is}
use Rattle.mpc_linear.proofs.ProductLemmas.{row_more, stored_column, stored_length}
use Rattle.mpc_space.proofs.Outcomes.{below_next}
use Rattle.mpc_linear.proofs.matrices.append_product.Goals as goal
use Rattle.mpc_linear.proofs.matrices.append_product.Goals.{After-dot_with_column, After-loop-j}

pub loop-j-init : goal.loop-j-init
loop-j-init c = record { items = sym (append-nil c.args.entries.now.items); fits = λ k l. absurd (omega arith) }

pub dot_with_column-requires-clause-size : goal.dot_with_column-requires-clause-size
dot_with_column-requires-clause-size c = stored_length _ _ _ _ c.other.view_is _ _ c.requires c.deref.ensures.value c.other.invariant

read : (c : After-dot_with_column) → column (grid (length c.args.row.now) c.other.inside.cols c.deref.result.now).rows c.loop-j.j ≡ column c.args.other.now.rows c.loop-j.j
read c = stored_column _ _ _ _ c.other.view_is _ _ c.requires c.deref.ensures.value c.loop-j.j

pub returns-in-Err-clause-wide : goal.returns-in-Err-clause-wide
returns-in-Err-clause-wide c =
    let d = (goal.at.returns-in-Err-clause-wide c).After-dot_with_column in
    (refl, λ f. c.in-Err.ensures.wide (subst (λ ys. DotFits c.args.row.now ys) (sym (read d)) (f c.loop-j.j (subst (λ n. c.loop-j.j < n) (columns_is _ _ _ _ c.other.view_is) c.loop-j-test.true))))

pub loop-j-preserved : goal.loop-j-preserved
loop-j-preserved c =
    let d = (goal.at.loop-j-preserved c).After-dot_with_column in
    record {
      items = row_more c.args.other.now c.args.row.now c.args.entries.now.items c.loop-j.entries.items _ c.loop-j.j _ c.loop-j.invariant.items c.in_ok-push-in-Ok.ensures.items (c.in-Ok.ensures.value ∙ ap (dot c.args.row.now) (read d));
      fits = below_next (λ k. DotFits c.args.row.now (column c.args.other.now.rows k)) c.loop-j.j c.loop-j.invariant.fits (subst (λ ys. DotFits c.args.row.now ys) (read d) c.in-Ok.ensures.wide);
    }

all : (c : After-loop-j) → c.loop-j.j ≡ c.args.other.now.columns
all c =
    let h : c.loop-j.j ≤ c.other.inside.cols = c.loop-j.auto.j-end in
    let k : c.other.inside.cols ≤ c.loop-j.j = c.loop-j-test.false in
    let e = columns_is _ _ _ _ c.other.view_is in
    omega arith

pub returns-clause-ok : goal.returns-clause-ok
returns-clause-ok c = c.loop-j.invariant.items ∙ ap (λ n. c.args.entries.now.items ++ listed n (λ k. dot c.args.row.now (column c.args.other.now.rows k))) (all c)

pub returns-clause-wide : goal.returns-clause-wide
returns-clause-wide c j h = c.loop-j.invariant.fits j (subst (λ n. j < n) (sym (all c)) h)
