use Rattle.std.proofs.Common.{◌≡◌, ◌≤◌, List, length, Option, Some, IfSome, sym, ◌∙◌, ap, subst, arith}
use Rattle.mpc_exact.specs.Rational.{ℚ}
use Rattle.mpc_space.specs.Vector.{mat_vec}
use Rattle.mpc_space.specs.Matrix.{height}
use Rattle.mpc_space.proofs.Entries.{length-listed}
use Rattle.mpc_space.proofs.Matrix.{length-mat_vec}
use Rattle.mpc_online.specs.Openings.{IsOpeningOf, IsFirstPoint}
use Rattle.mpc_online.proofs.WholeMoves.{first_is}
use Rattle.mpc_online.specs.declared.prepared.Opening.{Opening}
use Rattle.mpc_rows.specs.declared.programs.Qp.{Qp}
use Rattle.mpc_online.proofs.RunEnds.{length-extended}
use Rattle.mpc_online.proofs.opening.first_point.Goals as goal

-- the forms are the first point's
known_is : (qp : Qp) (o : Option Opening) (known : Opening) → o ≡ Some known → IfSome o (IsOpeningOf qp) → IsOpeningOf qp known
known_is qp o known e h = subst (λ o. IfSome o (IsOpeningOf qp)) e h

pub products-requires-clause-size : goal.products-requires-clause-size
products-requires-clause-size c =
    let e = c.requires.extended in
    let l = length-extended c.args.qp.now e.counts c.args.extended_counts.now e.in_box e.is in
    (known_is c.args.qp.now _ _ c.in-Some.is c.requires.opening).forms.shape.columns_are ∙ c.args.qp.now.is_program.f_shape.columns_are ∙ sym l

pub products-requires-clause-few : goal.products-requires-clause-few
products-requires-clause-few c =
    let e = c.requires.extended in
    let few = c.args.qp.now.is_program.few_parameters in
    omega (arith, few, length-extended c.args.qp.now e.counts c.args.extended_counts.now e.in_box e.is)

pub eliminated_point-requires-clause-extended : goal.eliminated_point-requires-clause-extended
eliminated_point-requires-clause-extended c =
    let e = c.requires.extended in
    c.args.qp.now.is_program.f_shape.columns_are ∙ sym (length-extended c.args.qp.now e.counts c.args.extended_counts.now e.in_box e.is)

-- the same point in other numbers
same_point : (qp : Qp) (c z y : List ℚ) → z ≡ y → IsFirstPoint qp c y → IsFirstPoint qp c z
same_point qp c z y e h = record { solution = h.solution; solves = h.solves; is = e ∙ h.is }

few : (qp : Qp) (c z : List ℚ) → IsFirstPoint qp c z → length z ≤ 6
few qp c z h = let l = ap (λ (t : List ℚ). length t) h.is ∙ length-listed (height qp.h) _ in let f = qp.is_program.few_unknowns in omega (arith, l, f)

rows_are : (qp : Qp) (known : Opening) → IsOpeningOf qp known → length known.rows.items ≡ height qp.h
rows_are qp known h = h.rows.size ∙ h.forms.shape.rows_are

pub products_in_wholes-requires-clause-size : goal.products_in_wholes-requires-clause-size
products_in_wholes-requires-clause-size c =
    let e = c.requires.extended in
    let l = length-extended c.args.qp.now e.counts c.args.extended_counts.now e.in_box e.is in
    (known_is c.args.qp.now _ _ c.in-Some.is c.requires.opening).forms.shape.columns_are ∙ c.args.qp.now.is_program.f_shape.columns_are ∙ sym l

pub products_in_wholes-requires-clause-few : goal.products_in_wholes-requires-clause-few
products_in_wholes-requires-clause-few c =
    let e = c.requires.extended in
    let few = c.args.qp.now.is_program.few_parameters in
    omega (arith, few, length-extended c.args.qp.now e.counts c.args.extended_counts.now e.in_box e.is)

pub products_in_wholes-requires-clause-few_rows : goal.products_in_wholes-requires-clause-few_rows
products_in_wholes-requires-clause-few_rows c =
    let s = (known_is c.args.qp.now _ _ c.in-Some.is c.requires.opening).forms.shape.rows_are in
    let f = c.args.qp.now.is_program.few_unknowns in omega (arith, s, f)

pub lowest-requires : goal.lowest-requires
lowest-requires c =
    let s = rows_are c.args.qp.now _ (known_is c.args.qp.now _ _ c.in-Some.is c.requires.opening) in
    let f = c.args.qp.now.is_program.few_unknowns in omega (arith, s, f)

pub products_in_wholes-requires-clause-rectangular : goal.products_in_wholes-requires-clause-rectangular
products_in_wholes-requires-clause-rectangular c = (known_is c.args.qp.now _ _ c.in-Some.is c.requires.opening).forms.shape.rectangular

pub returns-in-Ok-clause-wide : goal.returns-in-Ok-clause-wide
returns-in-Ok-clause-wide c =
    let known = known_is c.args.qp.now _ _ c.in-Some.is c.requires.opening in
    record { costs = known.costs c.args.extended_counts.now c.requires.extended; elimination = known.forms.fits c.args.extended_counts.now c.requires.extended }

pub point_of-requires : goal.point_of-requires
point_of-requires c =
    let known = known_is c.args.qp.now _ _ c.in-Some.is c.requires.opening in
    let l = ap (λ (t : List ℚ). length t) c.in-Ok.ensures.value ∙ length-mat_vec c.in-Some.known.forms.rows c.args.extended_counts.now ∙ known.forms.shape.rows_are in
    let f = c.args.qp.now.is_program.few_unknowns in omega (arith, l, f)

pub point_of-requires-2 : goal.point_of-requires-2
point_of-requires-2 c = few c.args.qp.now c.args.extended_counts.now _ c.in_ok-point.ensures.point

pub returns-in-Some-products_in_wholes-clause-point : goal.returns-in-Some-products_in_wholes-clause-point
returns-in-Some-products_in_wholes-clause-point c =
    let known = known_is c.args.qp.now _ _ c.in-Some.is c.requires.opening in
    let xs = mat_vec c.in-Some.known.forms.rows c.args.extended_counts.now in
    let size = length-mat_vec c.in-Some.known.forms.rows c.args.extended_counts.now in
    let rows = known.rows.size in
    let whole = c.in-Some.known.rows.ok in
    let count = c.len-count.ensures in
    let l : length xs ≡ c.len-count.result = omega (arith, size, rows, whole, count) in
    same_point c.args.qp.now c.args.extended_counts.now _ xs (first_is c.lowest.result c.len-count.result xs (c.lowest.ensures xs c.in-Some-products_in_wholes.ensures l) l) (known.forms.point c.args.extended_counts.now c.requires.extended)

pub returns-in-Some-products_in_wholes-clause-wide : goal.returns-in-Some-products_in_wholes-clause-wide
returns-in-Some-products_in_wholes-clause-wide c =
    let known = known_is c.args.qp.now _ _ c.in-Some.is c.requires.opening in
    record { costs = known.costs c.args.extended_counts.now c.requires.extended; elimination = known.forms.fits c.args.extended_counts.now c.requires.extended }
