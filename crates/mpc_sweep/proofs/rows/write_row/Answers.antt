use Rattle.std.proofs.Common.{◌≡◌, ℕ, ◌^◌, ◌+◌, ◌*◌, ◌≤◌, List, ℤ, length, pos, ◌*ℤ◌, unsigned_abs, to_z, sym, ◌∙◌, ap, arith, subst}
use Rattle.std.specs.Int.{w64}
use Rattle.std.specs.List.{between}
use Rattle.mpc_scaled.specs.Scaled.{whole_at, IsSmall}
use Rattle.mpc_sweep.specs.Steps.{IsNumber, IsOwn, IsScaled, IsChanged, AreWritten}
use Rattle.mpc_sweep.proofs.OneNumber.{written_as, written_within, small_within, row_size, row_small, read_at, own_number, scaled_number, other_number}
use Rattle.mpc_sweep.proofs.rows.write_row.Goals as goal

long : (v : List ℤ) (start columns : ℕ) → start + columns ≤ length v → columns ≤ length (between start (start + columns) v)
long v start columns h = let e = row_size v start columns h in omega arith

pub write_scaled_row-requires-clause-small : goal.write_scaled_row-requires-clause-small
write_scaled_row-requires-clause-small c = row_small c.args.step.most c.args.table.now (c.args.at_row * c.args.width) (length c.args.out.now) c.requires.inside c.requires.small

pub write_short_row-requires-clause-small : goal.write_short_row-requires-clause-small
write_short_row-requires-clause-small c =
    subst (λ m. IsSmall m (between (c.args.at_row * c.args.width) (c.args.at_row * c.args.width + length c.args.out.now) c.args.table.now)) c.if-step-eq-SHORT.true
    (row_small c.args.step.most c.args.table.now (c.args.at_row * c.args.width) (length c.args.out.now) c.requires.inside c.requires.small)

pub write_short_row-requires-clause-top_small : goal.write_short_row-requires-clause-top_small
write_short_row-requires-clause-top_small c =
    subst (λ m. IsSmall m (between (c.args.step.pivot_place * c.args.width) (c.args.step.pivot_place * c.args.width + length c.args.out.now) c.args.table.now)) c.if-step-eq-SHORT.true
    (row_small c.args.step.most c.args.table.now (c.args.step.pivot_place * c.args.width) (length c.args.out.now) c.requires.pivot_inside c.requires.small)

pub write_changed_row-requires-clause-small : goal.write_changed_row-requires-clause-small
write_changed_row-requires-clause-small c =
    row_small (2 ^ 62) c.args.table.now (c.args.at_row * c.args.width) (length c.args.out.now) c.requires.inside (small_within c.args.step.most (2 ^ 62) c.args.table.now c.requires.most_small c.requires.small)

pub write_pivot_row-requires-clause-small : goal.write_pivot_row-requires-clause-small
write_pivot_row-requires-clause-small c = row_small c.args.step.most c.args.table.now (c.args.step.pivot_place * c.args.width) (length c.args.out.now) c.requires.pivot_inside c.requires.small

pub write_changed_row-requires-clause-top_small : goal.write_changed_row-requires-clause-top_small
write_changed_row-requires-clause-top_small c =
    row_small (2 ^ 62) c.args.table.now (c.args.step.pivot_place * c.args.width) (length c.args.out.now) c.requires.pivot_inside (small_within c.args.step.most (2 ^ 62) c.args.table.now c.requires.most_small c.requires.small)

pub returns-then-at_row-pivot_place : goal.returns-then-at_row-pivot_place
returns-then-at_row-pivot_place c = λ t.
    let v = c.args.table.now in
    let w = c.args.width in
    let p = c.args.step.pivot_place in
    let n = length c.args.out.now in
    written_as c.args.step.most c.args.first n (length (between (p * w) (p * w + n) v)) (IsOwn c.args.step.den c.args.step.by.den (between (p * w) (p * w + n) v) p) (IsNumber w c.args.step.den c.args.step.by.den v p c.args.at_row)
    c.args.out.now c.write_pivot_row.new.out (long v (p * w) n c.requires.pivot_inside)
    (λ j z m e. own_number w c.args.step.den c.args.step.by.den v p n c.requires.column c.args.at_row j z c.if-at_row-pivot_place.true m e)
    (c.write_pivot_row.ensures t)

pub returns-then-row-pivot_place-eq0 : goal.returns-then-row-pivot_place-eq0
returns-then-row-pivot_place-eq0 c = λ t.
    let v = c.args.table.now in
    let w = c.args.width in
    let p = c.args.step.pivot_place in
    let i = c.args.at_row in
    let n = length c.args.out.now in
    let small = small_within c.args.step.most (2 ^ 62) v c.requires.most_small c.requires.small in
    let size : c.unsigned_abs-size.result ≡ unsigned_abs (whole_at (between (p * w) (p * w + n) v) p) =
    c.unsigned_abs-size.ensures.value ∙ ap unsigned_abs (read_at (between (p * w) (p * w + n) v) (row_small (2 ^ 62) v (p * w) n c.requires.pivot_inside small) p) in
    written_as c.args.step.most c.args.first n (length (between (i * w) (i * w + n) v)) (IsScaled c.args.step.by.den c.unsigned_abs-size.result (between (i * w) (i * w + n) v)) (IsNumber w c.args.step.den c.args.step.by.den v p i)
    c.args.out.now c.write_scaled_row.new.out (long v (i * w) n c.requires.inside)
    (λ j z m e. scaled_number w c.args.step.den c.args.step.by.den v p n c.requires.column i c.if-at_row-pivot_place.false j z m
    (sym (read_at (between (i * w) (i * w + n) v) (row_small (2 ^ 62) v (i * w) n c.requires.inside small) p) ∙ ap (to_z w64) c.if-row-pivot_place-eq0.true)
    (e ∙ ap (λ u. whole_at (between (i * w) (i * w + n) v) j *ℤ pos u) size))
    (c.write_scaled_row.ensures t)

pub returns-then-step-eq-SHORT : goal.returns-then-step-eq-SHORT
returns-then-step-eq-SHORT c = λ t.
    let v = c.args.table.now in
    let w = c.args.width in
    let p = c.args.step.pivot_place in
    let i = c.args.at_row in
    let n = length c.args.out.now in
    let row = between (i * w) (i * w + n) v in
    let top = between (p * w) (p * w + n) v in
    subst (λ m. AreWritten m c.args.first n (IsNumber w c.args.step.den c.args.step.by.den v p i) c.args.out.now c.write_short_row.new.out) (sym c.if-step-eq-SHORT.true)
    (written_as (2 ^ 30) c.args.first n (length row) (IsChanged c.args.step.by.den row top p) (IsNumber w c.args.step.den c.args.step.by.den v p i)
    c.args.out.now c.write_short_row.new.out (long v (i * w) n c.requires.inside)
    (λ j z m e. other_number w c.args.step.den c.args.step.by.den v p n c.requires.column i c.if-at_row-pivot_place.false j z m e)
    (c.write_short_row.ensures t))

pub returns : goal.returns
returns c = λ t.
    let v = c.args.table.now in
    let w = c.args.width in
    let p = c.args.step.pivot_place in
    let i = c.args.at_row in
    let n = length c.args.out.now in
    written_within (2 ^ 62) c.args.step.most c.args.first n (IsNumber w c.args.step.den c.args.step.by.den v p i) c.args.out.now c.write_changed_row.new.out (c.requires.bound c.if-step-eq-SHORT.false)
    (written_as (2 ^ 62) c.args.first n (length (between (i * w) (i * w + n) v)) (IsChanged c.args.step.by.den (between (i * w) (i * w + n) v) (between (p * w) (p * w + n) v) p) (IsNumber w c.args.step.den c.args.step.by.den v p i)
    c.args.out.now c.write_changed_row.new.out (long v (i * w) n c.requires.inside)
    (λ j z m e. other_number w c.args.step.den c.args.step.by.den v p n c.requires.column i c.if-at_row-pivot_place.false j z m e)
    (c.write_changed_row.ensures t))
