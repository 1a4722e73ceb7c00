use Rattle.std.proofs.Common.{◌≡◌, ◌<◌, ◌≤◌, ◌∷◌, ◌++◌, [], length, map, subst, ap, ◌∙◌, arith}
use Rattle.mpc_table.specs.Places.{IsPlaced}
use Rattle.mpc_table.specs.SharedSteps.{row_line}
use Rattle.mpc_table.proofs.PlaceLemmas.{kept_old, kept_new}
use Rattle.mpc_table.proofs.SharedLemmas.{exact_row}
use Rattle.mpc_table.proofs.rows.keep_row.Goals as goal

pub returns-then-place-len-clause-kept : goal.returns-then-place-len-clause-kept
returns-then-place-len-clause-kept c =
    let line : c.in_ok-line.line.items ≡ row_line c.args.row.now = c.in_ok-line.ensures ∙ ap (λ a. c.args.row.now.b ∷ a) c.as_slice.ensures in
    let within : c.in_ok-place.place < length c.args.rows.now.items = omega arith in
    kept_old row_line exact_row c.args.rows.now.items c.args.row.now c.in_ok-place.place c.place.new.self
    (subst (λ l. IsPlaced (map row_line c.args.rows.now.items) l c.in_ok-place.place c.place.new.self) line (c.in_ok-place.ensures.placed (map row_line c.args.rows.now.items) c.requires)) within

pub returns-clause-kept : goal.returns-clause-kept
returns-clause-kept c =
    let line : c.in_ok-line.line.items ≡ row_line c.args.row.now = c.in_ok-line.ensures ∙ ap (λ a. c.args.row.now.b ∷ a) c.as_slice.ensures in
    let beyond : length c.args.rows.now.items ≤ c.in_ok-place.place = omega arith in
    let pushed : c.push.new.self.items ≡ c.args.rows.now.items ++ c.args.row.now ∷ [] = c.in_ok-push.ensures.items ∙ ap (λ r. c.args.rows.now.items ++ r ∷ []) c.in_ok-copy.ensures in
    kept_new row_line exact_row c.args.rows.now.items c.args.row.now c.in_ok-place.place c.place.new.self c.push.new.self.items
    (subst (λ l. IsPlaced (map row_line c.args.rows.now.items) l c.in_ok-place.place c.place.new.self) line (c.in_ok-place.ensures.placed (map row_line c.args.rows.now.items) c.requires)) beyond pushed
