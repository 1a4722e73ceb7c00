use Rattle.std.proofs.Common.{ℕ, ℤ, ◌≡◌, ◌∙◌, ◌<◌, ◌≤◌, ◌^◌, List, length, get_or, sym, ap, subst, subst₂, arith}
use Rattle.std.specs.Vec.{with_items}
use Rattle.std.proofs.lemmas.List.{with_items_is}
use Rattle.mpc_rows.specs.LinearSystem.{height}
use Rattle.mpc_rows.specs.Run.{count}
use Rattle.mpc_runs.specs.declared.variables.Seat.{Seat}
use Rattle.mpc_runs.specs.declared.variables.Seat.TheVariants.{Column}
use Rattle.mpc_runs.specs.Table.{seat_at, variable_at, IsSeated, AreNonbasic}
use Rattle.mpc_scaled.specs.Scaled.{whole_cell}
use Rattle.mpc_whole.specs.Lists.{weights_of}
use Rattle.mpc_whole.specs.Judged.{IsPivotJudged, IsRowWithin, IsPlaced, IsWeighedAt}
use Rattle.mpc_whole.proofs.ColumnSums.{in_column}
use Rattle.mpc_whole.proofs.DividedRows.{rest_some}
use Rattle.mpc_whole.proofs.JudgedRun.{position_kept}
use Rattle.mpc_whole.proofs.JudgedTurns.{leaver_in, enterer_in, enterer_seat}
use Rattle.mpc_whole.proofs.WholeRows.{weaker}
use Rattle.mpc_whole.proofs.judged.keep_position.Goals as goal
use Rattle.mpc_whole.proofs.judged.keep_position.Goals.{After-deref-4, After-max-2}

pub factors_of-requires-clause-leaves : goal.factors_of-requires-clause-leaves
factors_of-requires-clause-leaves c = subst (λ m. c.args.leaving < m) (sym c.requires.numbers.whole.scales.size) (leaver_in c.requires.numbers.whole c.requires.lists c.requires.goes.underway.underway.stands c.requires.goes.leaves)

pub factors_of-requires-clause-columns : goal.factors_of-requires-clause-columns
factors_of-requires-clause-columns c = ap length c.deref.ensures.value ∙ c.requires.lists.columns.each ∙ sym c.requires.row.size

pub factors_of-requires-clause-below : goal.factors_of-requires-clause-below
factors_of-requires-clause-below c =
    let s = c.args.system.now in
    let lists = c.requires.lists in
    rw c.deref.ensures.value (λ k h. subst (λ m. variable_at c.args.lists.now.nonbasic.items k < m) (sym c.requires.numbers.whole.scales.size) (in_column s (count s) c.args.lists.now.seats.items c.args.lists.now.nonbasic.items lists.seated lists.columns k (subst (λ m. k < m) c.requires.row.size h)))

placed : (c : After-deref-4) → IsPlaced c.args.system.now c.args.frame.now.count c.deref-2.result.now c.deref-3.result.now c.args.place.den c.deref-4.result.now
placed c =
    rw (c.deref-2.ensures.value, c.deref-3.ensures.value, c.deref-4.ensures.value) (record {
      seated = subst (λ m. IsSeated (height c.args.system.now) c.args.system.now.width m c.args.lists.now.seats.items) (sym c.requires.numbers.count) c.requires.lists.seated;
      columns = c.requires.lists.columns;
      square = c.requires.lists.square;
      some = c.requires.goes.underway.underway.stands.form.some;
    })

pub judge_pivot-requires-clause-here : goal.judge_pivot-requires-clause-here
judge_pivot-requires-clause-here c = placed (goal.at.judge_pivot-requires-clause-here c).After-deref-4

pub judge_pivot-requires-clause-by : goal.judge_pivot-requires-clause-by
judge_pivot-requires-clause-by c =
    let w = c.requires.numbers.whole in
    rw c.deref-2.ensures.value (record {
      leaves = subst (λ m. c.args.leaving < m) (sym c.requires.numbers.count) (leaver_in w c.requires.lists c.requires.goes.underway.underway.stands c.requires.goes.leaves);
      enters = subst (λ m. c.args.entering < m) (sym c.requires.numbers.count) (enterer_in w c.requires.lists c.requires.goes.underway.underway.stands c.requires.goes.leaves c.requires.goes.enters);
      free = enterer_seat w c.requires.lists c.requires.goes.underway.underway.stands c.requires.goes.leaves c.requires.goes.enters;
      some = rest_some c.args.row.divisor c.args.row.rest c.args.place.den c.requires.row.split c.requires.goes.underway.underway.stands.form.some;
      row_size = c.requires.row.size;
    })

pub kept_product-product-requires-clause-here : goal.kept_product-product-requires-clause-here
kept_product-product-requires-clause-here c = placed (goal.at.kept_product-product-requires-clause-here c).After-deref-4

weights_back : (c : After-max-2) → (with_items c.args.lists.now.weights c.kept_product-product.new.weights).items ≡ c.kept_product-product.new.weights
weights_back c = with_items_is c.args.lists.now.weights c.kept_product-product.new.weights (let q = c.kept_product-product.auto.weights in let o = c.args.lists.now.weights.ok in let v = c.deref_mut.ensures.len in omega arith)

pub returns-clause-kept : goal.returns-clause-kept
returns-clause-kept c =
    let s = c.args.system.now in
    let k = c.args.frame.now.scales.now in
    let a = c.args.frame.now.a.now in
    let b = c.args.frame.now.b.now in
    let r = c.args.lists.now in
    let place = c.args.place in
    let by = c.in_ok-by.by in
    let x = c.args.row.numbers.now in
    let goes = c.requires.goes in
    let product = c.kept_product-product.result in
    let weights = (with_items r.weights c.kept_product-product.new.weights).items in
    let back = weights_back c in
    let judged : IsPivotJudged s (count s) r.seats.items k a b place.den r.numbers.items c.args.leaving c.args.entering c.args.row.rest x by.top by.size =
    subst (λ m. IsPivotJudged s m r.seats.items k a b place.den r.numbers.items c.args.leaving c.args.entering c.args.row.rest x by.top by.size) c.requires.numbers.count
    (subst₂ (λ (t : List Seat) (u : List ℤ). IsPivotJudged s c.args.frame.now.count t k a b place.den u c.args.leaving c.args.entering c.args.row.rest x by.top by.size) c.deref-2.ensures.value c.deref-4.ensures.value c.in_ok-judge_pivot.ensures)
    in
    let within : IsRowWithin (count s) r.seats.items k c.args.leaving c.args.entering x by.top by.size =
    c.in_ok-by.ensures.row (height s) (count s) r.seats.items
    (subst (λ w. IsSeated (height s) w (count s) r.seats.items) (sym c.requires.row.size) c.requires.lists.seated)
    (subst₂ (λ w (t : List ℕ). AreNonbasic w r.seats.items t) (sym c.requires.row.size) (sym c.deref.ensures.value) c.requires.lists.columns)
    in
    let no_less : product < 2 ^ 127 → (j : ℕ) → get_or r.weights.items j 0 ≤ get_or weights j 0 =
    λ known j. subst₂ (λ (t u : List ℕ). get_or t j 0 ≤ get_or u j 0) c.deref_mut.ensures.value (sym back) (c.kept_product-product.ensures.before known j)
    in
    let weighed : product < 2 ^ 127 → (j y m : ℕ) → j < s.width → y < count s → seat_at r.seats.items y ≡ Column m → IsWeighedAt s k c.args.entering by.top by.size y (whole_cell s.width r.numbers.items j m) (get_or weights j 0) =
    λ known j y m h q e. subst (λ f. IsWeighedAt s k f by.top by.size y (whole_cell s.width r.numbers.items j m) (get_or weights j 0)) c.in_ok-by.ensures.enters
    (subst₂ (λ (u : List ℤ) (t : List ℕ). IsWeighedAt s k by.enters by.top by.size y (whole_cell s.width u j m) (get_or t j 0)) c.deref-4.ensures.value (sym back)
    (c.kept_product-product.ensures.here known j y m h (subst (λ n. y < n) (sym c.requires.numbers.count) q) (ap (λ (t : List Seat). seat_at t y) c.deref-2.ensures.value ∙ e)))
    in
    position_kept s (count s) r.seats.items c.requires.lists.seated k place.den r.numbers.items a b c.requires.numbers.whole r.firsts.items r.seconds.items place.greatest place.greatest_den (weights_of r) place.product place.first goes.underway
    c.args.leaving goes.leaves c.args.entering goes.enters c.args.row.divisor c.args.row.rest x c.requires.row by.top by.size judged within c.max.result c.max-2.result (λ j. get_or weights j 0) product
    (weaker place.own c.max.result r.numbers.items c.requires.lists.own (let m = c.max.ensures in omega arith)) (let m = c.max-2.ensures in omega arith) (let m = c.max.ensures in omega arith) (let m = c.max-2.ensures in omega arith)
    c.kept_product-product.ensures.product no_less c.kept_product-product.ensures.den weighed
