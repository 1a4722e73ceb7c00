use Rattle.std.proofs.Common.{◌≡◌, ◌∙◌, ◌+◌, ◌++◌, List, ◌∷◌, [], ap, rules}
use Rattle.mpc_rows.specs.declared.trees.Node.TheVariants.{Split}
use Rattle.mpc_rows.specs.declared.systems.Row.{Row}
use Rattle.mpc_tree.specs.declared.frontier.Piece.TheVariants.{Closed, Open}
use Rattle.mpc_tree.specs.declared.runs.OpenCell.{OpenCell}
use Rattle.mpc_tree.proofs.Sides.{three}
use Rattle.mpc_tree.proofs.frontier.split.Goals as goal

pub returns : goal.returns
returns c =
    let yes : OpenCell = record { cell = c.narrow.new.self; next = c.args.place } in
    let no : OpenCell = record { cell = record { rows = c.push.new.self; run = c.args.broken }; next = c.args.place + 1 } in
    let first : c.push-2.new.self.items ≡ c.in_ok-pieces.pieces.items ++ c.in_ok-closed.field-0 ∷ [] = search rules in
    let second : c.push-3.new.self.items ≡ c.push-2.new.self.items ++ Open yes ∷ [] = search rules in
    let third : c.push-4.new.self.items ≡ c.push-3.new.self.items ++ Open no ∷ [] = search rules in
    let all = three c.in_ok-pieces.pieces.items c.push-2.new.self.items c.push-3.new.self.items c.push-4.new.self.items c.in_ok-closed.field-0 (Open yes) (Open no) (search rules) first second third in
    let pushed : c.push.new.self.items ≡ c.in_ok-rows.rows.items ++ c.in_ok-broken_row.field-0 ∷ [] = search rules in
    record {
      yes = yes;
      no = no;
      are = all ∙ ap (λ p. p ∷ (Open yes ∷ (Open no ∷ []))) (c.in_ok-closed.ensures ∙ ap (λ r. Closed (Split r ∷ [])) c.in_ok-copy.ensures);
      yes_cell = ap (λ (rows : List Row). record { rows = rows; next = c.args.place }) (c.in_ok-narrow.ensures.rows ∙ ap (λ r. c.args.parent.cell.rows.items ++ r ∷ []) c.in_ok-whole_row.ensures);
      yes_run = search rules;
      no_cell = ap (λ (rows : List Row). record { rows = rows; next = c.args.place + 1 }) (pushed ∙ ap (λ l. l ++ c.in_ok-broken_row.field-0 ∷ []) (search rules) ∙ ap (λ r. c.args.parent.cell.rows.items ++ r ∷ []) c.in_ok-broken_row.ensures);
      no_run = search rules;
    }
