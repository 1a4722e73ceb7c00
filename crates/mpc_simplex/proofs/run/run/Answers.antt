use Rattle.std.proofs.Common.{◌≡◌, ◌∙◌, ◌<◌, ℕ, true, false, List, sym, ap, subst, subst₂, length, Some, None, rules}
use Rattle.std.proofs.lemmas.Result.{MatchResult-from_err}
use Rattle.std.proofs.lemmas.List.{with_items_is}
use Rattle.mpc_exact.specs.Rational.{ℚ}
use Rattle.mpc_rows.specs.Least.{least}
use Rattle.mpc_rows.specs.LinearSystem.{LinearSystem, height}
use Rattle.mpc_runs.specs.declared.variables.Seat.{Seat}
use Rattle.mpc_runs.specs.declared.variables.Seat.TheVariants.{Row, Column}
use Rattle.mpc_rows.specs.Run.{goes_on, count, may_leave, may_enter, turn, is_pivot}
use Rattle.mpc_rows.specs.RunWidth.{ValuesFit}
use Rattle.mpc_runs.specs.Table.{seat_at, in_row, cell_at, IsTable, position_of}
use Rattle.mpc_runs.specs.Exchange.{IsExchanged}
use Rattle.mpc_simplex.specs.Answer.{IsValues, IsMultipliers, EndsWithPoint, EndsRefuted}
use Rattle.mpc_runs.proofs.Turn.{Goes, leaver}
use Rattle.mpc_runs.proofs.Steps.{goes_so, turns_so, pivot_seated, pivot_some, pivot_fits, pivot_fits_back, pivot_is, pivot_falls, point_turn, refuted_turn, point_answer, refuted_answer}
use Rattle.mpc_runs.proofs.Loop.{Going, going_opening, wide_exchange, end_fits, going_next, from_lists, exchanged_as, fits_as, fits_as_back}
use Rattle.mpc_simplex.proofs.run.run.Goals as goal
use Rattle.mpc_simplex.proofs.run.run.Goals.{After-deref-in-steps, In_ok-out, In-Some-entering, After-column_of-column, In_ok-exchange}

table_as : {s : LinearSystem} {n : ℕ} {seats t : List Seat} {entries u : List ℚ} → t ≡ seats → u ≡ entries → IsTable s n seats entries → IsTable s n t u
table_as {s = s} {n = n} e f h = subst₂ (IsTable s n) (sym e) (sym f) h

pub steps-init : goal.steps-init
steps-init c = record {
  going = going_opening c.args.system.now (position_of c.args.system.now.width c.args.seats.items c.args.entries.items) c.requires.opens;
  table = c.requires.table;
  row = c.requires.room.row;
  sides = c.requires.room.sides;
  values = c.requires.room.values;
  list = c.requires.room.multipliers;
}

whole : (c : After-deref-in-steps) → count c.args.system.now ≡ c.args.variables
whole c = sym c.steps.invariant.table.seated.count

left : (c : In_ok-out) → c.in_ok-out.out ≡ least (may_leave c.args.system.now (position_of c.args.system.now.width c.steps.seats.items c.steps.entries.items)) c.args.variables
left c = from_lists (λ p. c.in_ok-out.out ≡ least (may_leave c.args.system.now p) c.args.variables) c.args.system.now.width c.deref.ensures.value c.deref-in-steps.ensures.value c.in_ok-out.ensures.least

formed : (c : In_ok-out) → ValuesFit c.args.system.now c.args.variables (position_of c.args.system.now.width c.steps.seats.items c.steps.entries.items)
formed c = from_lists (ValuesFit c.args.system.now c.args.variables) c.args.system.now.width c.deref.ensures.value c.deref-in-steps.ensures.value c.in_ok-out.ensures.wide

-- the leaving variable is basic
basic_so : (s : LinearSystem) (n l : ℕ) (seats : List Seat) (entries : List ℚ) → IsTable s n seats entries → Some l ≡ least (may_leave s (position_of s.width seats entries)) n → in_row (seat_at seats l) ≡ true
unfolding position_of
basic_so s n l seats entries t e = (leaver s (position_of s.width seats entries) n l (sym t.seated.count) e).violated.basic

free_so : (w e : ℕ) (seats : List Seat) (entries : List ℚ) → (position_of w seats entries).is_basic e ≡ false → in_row (seat_at seats e) ≡ false
unfolding position_of
free_so w e seats entries h = h

pub returns-in_default-clause-end : goal.returns-in_default-clause-end
returns-in_default-clause-end c =
    let at = goal.at.returns-in_default-clause-end c in
    let a : c.in_ok-out.out ≡ None = c.in_default.is in
    let q : length c.point.new.values ≡ length c.deref_mut-in_default.result.now = c.point.auto.values in
    let x = with_items_is c.steps.values c.point.new.values (q ∙ c.deref_mut-in_default.ensures.len) in
    subst (EndsWithPoint c.args.system.now) (sym (c.of.ensures ∙ x))
    (point_answer c.args.system.now c.args.variables c.steps.seats.items c.steps.entries.items c.steps.invariant.table c.steps.invariant.going.reached (sym a ∙ left at.In_ok-out) c.point.new.values
    (from_lists (λ p. IsValues c.args.system.now p c.point.new.values) c.args.system.now.width c.deref-in_default.ensures.value c.deref-in_default-2.ensures.value c.in_ok-point.ensures.values))

pub returns-in_default-clause-wide : goal.returns-in_default-clause-wide
returns-in_default-clause-wide c =
    let at = goal.at.returns-in_default-clause-wide c in
    let a : c.in_ok-out.out ≡ None = c.in_default.is in
    let p = position_of c.args.system.now.width c.steps.seats.items c.steps.entries.items in
    end_fits c.args.system.now c.args.variables (whole at.After-deref-in-steps) p c.steps.invariant.going
    (ap is_pivot (point_turn c.args.system.now c.args.variables c.steps.seats.items c.steps.entries.items c.steps.invariant.table c.steps.invariant.going.reached (sym a ∙ left at.In_ok-out))) (formed at.In_ok-out)

pub entering-requires-clause-l_basic : goal.entering-requires-clause-l_basic
entering-requires-clause-l_basic c =
    let at = goal.at.entering-requires-clause-l_basic c in
    let a : c.in_ok-out.out ≡ Some c.in-Some.left = c.in-Some.is in
    subst (λ (t : List Seat). in_row (seat_at t c.in-Some.left) ≡ true) (sym c.deref-in-steps-2.ensures.value)
    (basic_so c.args.system.now c.args.variables c.in-Some.left c.steps.seats.items c.steps.entries.items c.steps.invariant.table (sym a ∙ left at.In_ok-out))

pub multipliers-requires-clause-l_basic : goal.multipliers-requires-clause-l_basic
multipliers-requires-clause-l_basic c =
    let at = goal.at.multipliers-requires-clause-l_basic c in
    let a : c.in_ok-out.out ≡ Some c.in-Some.left = c.in-Some.is in
    subst (λ (t : List Seat). in_row (seat_at t c.in-Some.left) ≡ true) (sym c.deref-in_default-entering.ensures.value)
    (basic_so c.args.system.now c.args.variables c.in-Some.left c.steps.seats.items c.steps.entries.items c.steps.invariant.table (sym a ∙ left at.In_ok-out))

pub returns-in_default-entering-clause-end : goal.returns-in_default-entering-clause-end
returns-in_default-entering-clause-end c =
    let at = goal.at.returns-in_default-entering-clause-end c in
    let a : c.in_ok-out.out ≡ Some c.in-Some.left = c.in-Some.is in
    let b : c.entering.result ≡ None = c.in_default-entering.is in
    let q : length c.multipliers.new.list ≡ length c.deref_mut-in_default-entering.result.now = c.multipliers.auto.list in
    let x = with_items_is c.steps.list c.multipliers.new.list (q ∙ c.deref_mut-in_default-entering.ensures.len) in
    subst (EndsRefuted c.args.system.now) (sym (c.of-in_default-entering.ensures ∙ x))
    (refuted_answer c.args.system.now c.args.variables c.steps.seats.items c.steps.entries.items c.steps.invariant.table c.steps.invariant.going.reached c.in-Some.left (sym a ∙ left at.In_ok-out)
    (sym b ∙ from_lists (λ p. c.entering.result ≡ least (may_enter c.args.system.now p c.in-Some.left) c.args.variables) c.args.system.now.width c.deref-in-steps-2.ensures.value c.deref-in-steps-3.ensures.value c.entering.ensures.least)
    c.multipliers.new.list
    (from_lists (λ p. IsMultipliers c.args.system.now p c.in-Some.left c.multipliers.new.list) c.args.system.now.width c.deref-in_default-entering.ensures.value c.deref-in_default-entering-2.ensures.value c.multipliers.ensures))

pub returns-in_default-entering-clause-wide : goal.returns-in_default-entering-clause-wide
returns-in_default-entering-clause-wide c =
    let at = goal.at.returns-in_default-entering-clause-wide c in
    let a : c.in_ok-out.out ≡ Some c.in-Some.left = c.in-Some.is in
    let b : c.entering.result ≡ None = c.in_default-entering.is in
    let p = position_of c.args.system.now.width c.steps.seats.items c.steps.entries.items in
    end_fits c.args.system.now c.args.variables (whole at.After-deref-in-steps) p c.steps.invariant.going
    (ap is_pivot (refuted_turn c.args.system.now c.args.variables c.steps.seats.items c.steps.entries.items c.steps.invariant.table c.steps.invariant.going.reached c.in-Some.left (sym a ∙ left at.In_ok-out)
    (sym b ∙ from_lists (λ p. c.entering.result ≡ least (may_enter c.args.system.now p c.in-Some.left) c.args.variables) c.args.system.now.width c.deref-in-steps-2.ensures.value c.deref-in-steps-3.ensures.value c.entering.ensures.least))) (formed at.In_ok-out)

entered : (c : In-Some-entering) → Some c.in-Some-entering.entered ≡ least (may_enter c.args.system.now (position_of c.args.system.now.width c.steps.seats.items c.steps.entries.items) c.in-Some.left) c.args.variables
entered c =
    let b : c.entering.result ≡ Some c.in-Some-entering.entered = c.in-Some-entering.is in
    sym b ∙ from_lists (λ p. c.entering.result ≡ least (may_enter c.args.system.now p c.in-Some.left) c.args.variables) c.args.system.now.width c.deref-in-steps-2.ensures.value c.deref-in-steps-3.ensures.value c.entering.ensures.least

gone : (c : In-Some-entering) (o : Some c.in-Some.left ≡ least (may_leave c.args.system.now (position_of c.args.system.now.width c.steps.seats.items c.steps.entries.items)) c.args.variables) →
    Goes c.args.system.now (position_of c.args.system.now.width c.steps.seats.items c.steps.entries.items) c.in-Some.left c.in-Some-entering.entered
gone c o = goes_so c.args.system.now c.args.variables c.steps.seats.items c.steps.entries.items c.steps.invariant.table c.steps.invariant.going.reached c.in-Some.left c.in-Some-entering.entered o (entered c)

turned : (c : In-Some-entering) (o : Some c.in-Some.left ≡ least (may_leave c.args.system.now (position_of c.args.system.now.width c.steps.seats.items c.steps.entries.items)) c.args.variables) →
    turn c.args.system.now (position_of c.args.system.now.width c.steps.seats.items c.steps.entries.items) ≡ goes_on c.in-Some.left c.in-Some-entering.entered
turned c o = turns_so c.args.system.now c.args.variables c.steps.seats.items c.steps.entries.items c.steps.invariant.table c.steps.invariant.going.reached c.in-Some.left c.in-Some-entering.entered o (entered c)

pub row_of-row_left-requires-clause-basic : goal.row_of-row_left-requires-clause-basic
row_of-row_left-requires-clause-basic c =
    let at = goal.at.row_of-row_left-requires-clause-basic c in
    let a : c.in_ok-out.out ≡ Some c.in-Some.left = c.in-Some.is in
    subst (λ (t : List Seat). in_row (seat_at t c.in-Some.left) ≡ true) (sym c.deref-in-steps-4.ensures.value)
    (basic_so c.args.system.now c.args.variables c.in-Some.left c.steps.seats.items c.steps.entries.items c.steps.invariant.table (sym a ∙ left at.In_ok-out))

pub column_of-column-requires-clause-free : goal.column_of-column-requires-clause-free
column_of-column-requires-clause-free c =
    let at = goal.at.column_of-column-requires-clause-free c in
    let a : c.in_ok-out.out ≡ Some c.in-Some.left = c.in-Some.is in
    subst (λ (t : List Seat). in_row (seat_at t c.in-Some-entering.entered) ≡ false) (sym c.deref-in-steps-5.ensures.value)
    (free_so c.args.system.now.width c.in-Some-entering.entered c.steps.seats.items c.steps.entries.items (gone at.In-Some-entering (sym a ∙ left at.In_ok-out)).eligible.free)

-- where the two stand
row_seat : (c : After-column_of-column) → seat_at c.steps.seats.items c.in-Some.left ≡ Row c.row_of-row_left.result
row_seat c = subst (λ (t : List Seat). seat_at t c.in-Some.left ≡ Row c.row_of-row_left.result) c.deref-in-steps-4.ensures.value c.row_of-row_left.ensures

column_seat : (c : After-column_of-column) → seat_at c.steps.seats.items c.in-Some-entering.entered ≡ Column c.column_of-column.result
column_seat c = subst (λ (t : List Seat). seat_at t c.in-Some-entering.entered ≡ Column c.column_of-column.result) c.deref-in-steps-5.ensures.value c.column_of-column.ensures

below : (s : LinearSystem) (n l : ℕ) → count s ≡ n → l < count s → l < n
below s n l e h = subst (λ m. l < m) e h

pub exchange-requires-clause-row : goal.exchange-requires-clause-row
exchange-requires-clause-row c =
    let at = goal.at.exchange-requires-clause-row c in
    let a : c.in_ok-out.out ≡ Some c.in-Some.left = c.in-Some.is in
    let g = gone at.In-Some-entering (sym a ∙ left at.In_ok-out) in
    subst (λ h. c.row_of-row_left.result < h) (sym c.height-height.ensures)
    (c.steps.invariant.table.seated.rows c.in-Some.left c.row_of-row_left.result (below c.args.system.now c.args.variables c.in-Some.left (whole at.After-deref-in-steps) g.leaves.below) (row_seat at.After-column_of-column)).0

pub exchange-requires-clause-column : goal.exchange-requires-clause-column
exchange-requires-clause-column c =
    let at = goal.at.exchange-requires-clause-column c in
    let a : c.in_ok-out.out ≡ Some c.in-Some.left = c.in-Some.is in
    let g = gone at.In-Some-entering (sym a ∙ left at.In_ok-out) in
    subst (λ w. c.column_of-column.result < w) (sym c.unknowns-width.ensures)
    (c.steps.invariant.table.seated.columns c.in-Some-entering.entered c.column_of-column.result (below c.args.system.now c.args.variables c.in-Some-entering.entered (whole at.After-deref-in-steps) g.below) (column_seat at.After-column_of-column)).0

pub exchange-requires-clause-some : goal.exchange-requires-clause-some
exchange-requires-clause-some c =
    let at = goal.at.exchange-requires-clause-some c in
    let a : c.in_ok-out.out ≡ Some c.in-Some.left = c.in-Some.is in
    let e : cell_at c.unknowns-width.result c.deref_mut-in-steps.result.now c.row_of-row_left.result c.column_of-column.result ≡ cell_at c.args.system.now.width c.steps.entries.items c.row_of-row_left.result c.column_of-column.result =
    λ i. cell_at (c.unknowns-width.ensures i) (c.deref_mut-in-steps.ensures.value i) c.row_of-row_left.result c.column_of-column.result
    in
    λ h. pivot_some c.args.system.now c.args.variables c.steps.seats.items c.steps.entries.items c.steps.invariant.table c.steps.invariant.going.reached c.in-Some.left c.in-Some-entering.entered
    (sym a ∙ left at.In_ok-out) (entered at.In-Some-entering) c.row_of-row_left.result c.column_of-column.result (row_seat at.After-column_of-column) (column_seat at.After-column_of-column) (sym e ∙ h)

pub returns-in_err-exchange-clause-wide : goal.returns-in_err-exchange-clause-wide
returns-in_err-exchange-clause-wide c =
    let at = goal.at.returns-in_err-exchange-clause-wide c in
    let a : c.in_ok-out.out ≡ Some c.in-Some.left = c.in-Some.is in
    MatchResult-from_err c.from_residual-in_err-exchange.result _ _ (search rules)
    (λ _. wide_exchange c.args.system.now c.args.variables (whole at.After-deref-in-steps) (position_of c.args.system.now.width c.steps.seats.items c.steps.entries.items) c.steps.invariant.going c.in-Some.left c.in-Some-entering.entered
    (turned at.In-Some-entering (sym a ∙ left at.In_ok-out))
    (λ f g. c.in_err-exchange.ensures.wide
    (fits_as_back c.height-height.ensures c.unknowns-width.ensures c.deref_mut-in-steps.ensures.value c.row_of-row_left.result c.column_of-column.result
    (pivot_fits_back c.args.system.now c.args.variables c.steps.seats.items c.steps.entries.items c.steps.invariant.table c.steps.invariant.going.reached c.in-Some.left c.in-Some-entering.entered
    (sym a ∙ left at.In_ok-out) (entered at.In-Some-entering) c.row_of-row_left.result c.column_of-column.result (row_seat at.After-column_of-column) (column_seat at.After-column_of-column) f g))))

entries_long : (c : In_ok-exchange) → length c.exchange.new.entries ≡ c.steps.entries.len
entries_long c = (let q : length c.exchange.new.entries ≡ length c.deref_mut-in-steps.result.now = c.exchange.auto.entries in q) ∙ c.deref_mut-in-steps.ensures.len

sides_long : (c : In_ok-out) → length c.leaving.new.list ≡ c.steps.sides.len
sides_long c = (let q : length c.leaving.new.list ≡ length c.deref_mut.result.now = c.leaving.auto.list in q) ∙ c.deref_mut.ensures.len

row_long : (c : In_ok-exchange) → length c.exchange.new.row ≡ c.steps.row.len
row_long c = (let q : length c.exchange.new.row ≡ length c.deref_mut-in-steps-2.result.now = c.exchange.auto.row in q) ∙ c.deref_mut-in-steps-2.ensures.len

exchanged : (c : In_ok-exchange) → IsExchanged (height c.args.system.now) c.args.system.now.width c.steps.entries.items c.exchange.new.entries c.row_of-row_left.result c.column_of-column.result
exchanged c = exchanged_as c.height-height.ensures c.unknowns-width.ensures c.deref_mut-in-steps.ensures.value c.exchange.new.entries c.row_of-row_left.result c.column_of-column.result c.in_ok-exchange.ensures.exchanged

pub steps-smaller : goal.steps-smaller
steps-smaller c =
    let at = goal.at.steps-smaller c in
    let a : c.in_ok-out.out ≡ Some c.in-Some.left = c.in-Some.is in
    let x = with_items_is c.steps.entries c.exchange.new.entries (entries_long at.In_ok-exchange) in
    pivot_falls c.args.system.now c.args.variables c.steps.seats.items c.steps.entries.items c.steps.invariant.table c.steps.invariant.going.reached c.in-Some.left c.in-Some-entering.entered
    (sym a ∙ left at.In_ok-out) (entered at.In-Some-entering) c.row_of-row_left.result c.column_of-column.result (row_seat at.After-column_of-column) (column_seat at.After-column_of-column)
    _ (subst (λ (t : List ℚ). IsExchanged (height c.args.system.now) c.args.system.now.width c.steps.entries.items t c.row_of-row_left.result c.column_of-column.result) (sym x) (exchanged at.In_ok-exchange))

pub steps-preserved : goal.steps-preserved
steps-preserved c =
    let at = goal.at.steps-preserved c in
    let s = c.args.system.now in
    let p = position_of c.args.system.now.width c.steps.seats.items c.steps.entries.items in
    let a : c.in_ok-out.out ≡ Some c.in-Some.left = c.in-Some.is in
    let x = with_items_is c.steps.entries c.exchange.new.entries (entries_long at.In_ok-exchange) in
    let f = pivot_fits c.args.system.now c.args.variables c.steps.seats.items c.steps.entries.items c.steps.invariant.table c.steps.invariant.going.reached c.in-Some.left c.in-Some-entering.entered
    (sym a ∙ left at.In_ok-out) (entered at.In-Some-entering) c.row_of-row_left.result c.column_of-column.result (row_seat at.After-column_of-column) (column_seat at.After-column_of-column)
    (fits_as c.height-height.ensures c.unknowns-width.ensures c.deref_mut-in-steps.ensures.value c.row_of-row_left.result c.column_of-column.result c.in_ok-exchange.ensures.wide) in
    record {
      going = subst (Going s)
          (pivot_is c.args.system.now c.args.variables c.steps.seats.items c.steps.entries.items c.steps.invariant.table c.steps.invariant.going.reached c.in-Some.left c.in-Some-entering.entered
          (sym a ∙ left at.In_ok-out) (entered at.In-Some-entering) c.row_of-row_left.result c.column_of-column.result (row_seat at.After-column_of-column) (column_seat at.After-column_of-column)
          _ (subst (λ (t : List ℚ). IsExchanged (height c.args.system.now) c.args.system.now.width c.steps.entries.items t c.row_of-row_left.result c.column_of-column.result) (sym x) (exchanged at.In_ok-exchange)))
          (going_next s c.args.variables (whole at.After-deref-in-steps) p c.steps.invariant.going c.in-Some.left c.in-Some-entering.entered (turned at.In-Some-entering (sym a ∙ left at.In_ok-out)) (formed at.In_ok-out) f.0 f.1);
      table = record {
        seated = pivot_seated c.args.system.now c.args.variables c.steps.seats.items c.steps.entries.items c.steps.invariant.table c.steps.invariant.going.reached c.in-Some.left c.in-Some-entering.entered
            (sym a ∙ left at.In_ok-out) (entered at.In-Some-entering) c.row_of-row_left.result c.column_of-column.result (row_seat at.After-column_of-column) (column_seat at.After-column_of-column);
        shape = record {
          size = ap (λ (t : List ℚ). length t) x ∙ entries_long at.In_ok-exchange ∙ c.steps.entries.ok.0 ∙ c.steps.invariant.table.shape.size;
          fits = c.steps.invariant.table.shape.fits;
        };
      };
      row = ap (λ (t : List ℚ). length t) (with_items_is c.steps.row c.exchange.new.row (row_long at.In_ok-exchange)) ∙ row_long at.In_ok-exchange ∙ c.steps.row.ok.0 ∙ c.steps.invariant.row;
      sides = ap (λ (t : List ℕ). length t) (with_items_is c.steps.sides c.leaving.new.list (sides_long at.In_ok-out)) ∙ sides_long at.In_ok-out ∙ c.steps.sides.ok.0 ∙ c.steps.invariant.sides;
      values = c.steps.invariant.values;
      list = c.steps.invariant.list;
    }

pub leaving-requires-clause-table : goal.leaving-requires-clause-table
leaving-requires-clause-table c = table_as c.deref.ensures.value c.deref-in-steps.ensures.value c.steps.invariant.table

pub point-requires-clause-table : goal.point-requires-clause-table
point-requires-clause-table c = table_as c.deref-in_default.ensures.value c.deref-in_default-2.ensures.value c.steps.invariant.table

pub entering-requires-clause-table : goal.entering-requires-clause-table
entering-requires-clause-table c = table_as c.deref-in-steps-2.ensures.value c.deref-in-steps-3.ensures.value c.steps.invariant.table

pub multipliers-requires-clause-table : goal.multipliers-requires-clause-table
multipliers-requires-clause-table c = table_as c.deref-in_default-entering.ensures.value c.deref-in_default-entering-2.ensures.value c.steps.invariant.table

pub leaving-requires-clause-room : goal.leaving-requires-clause-room
leaving-requires-clause-room c = c.deref_mut.ensures.len ∙ c.steps.sides.ok.0 ∙ c.steps.invariant.sides

pub point-requires-clause-room : goal.point-requires-clause-room
point-requires-clause-room c = c.deref_mut-in_default.ensures.len ∙ c.steps.values.ok.0 ∙ c.steps.invariant.values

pub multipliers-requires-clause-room : goal.multipliers-requires-clause-room
multipliers-requires-clause-room c = c.deref_mut-in_default-entering.ensures.len ∙ c.steps.list.ok.0 ∙ c.steps.invariant.list

pub exchange-requires-clause-room : goal.exchange-requires-clause-room
exchange-requires-clause-room c = c.deref_mut-in-steps-2.ensures.len ∙ c.steps.row.ok.0 ∙ c.steps.invariant.row ∙ sym c.unknowns-width.ensures
