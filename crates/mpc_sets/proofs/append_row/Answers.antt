use Rattle.std.proofs.Common.{◌≡◌, ◌+◌, ◌/◌, ◌%◌, ◌++◌, ◌∷◌, [], sym, ap, ◌∙◌, append_assoc, rules}
use Rattle.mpc_sets.proofs.SetTexts.{decimal_of_one, decimal_of_two}
use Rattle.mpc_sets.proofs.append_row.Goals as goal
use Rattle.mpc_sets.proofs.append_row.Goals.{then-row-ge10, else-row-ge10}

pub returns-clause-text : goal.returns-clause-text
returns-clause-text c =
    let last : c.push-2.new.self.items ≡ c.if-row-ge10.out.items ++ (48 + c.args.row % 10) ∷ [] = search rules in
    elim c.if-row-ge10.branch [
      | then-row-ge10 w ↦
          let first : w.push.new.self.items ≡ c.args.out.now.items ++ (48 + c.args.row / 10) ∷ [] = search rules in
          last ∙ ap (λ u. u ++ (48 + c.args.row % 10) ∷ []) (ap (λ v. v.items) w.out-is ∙ first) ∙ append_assoc c.args.out.now.items ((48 + c.args.row / 10) ∷ []) ((48 + c.args.row % 10) ∷ [])
          ∙ ap (λ u. c.args.out.now.items ++ u) (sym (decimal_of_two c.args.row w.if-row-ge10.true c.requires.small))
      | else-row-ge10 w ↦ last ∙ ap (λ u. u ++ (48 + c.args.row % 10) ∷ []) (ap (λ v. v.items) w.out-is) ∙ ap (λ u. c.args.out.now.items ++ u) (sym (decimal_of_one c.args.row w.if-row-ge10.false))
    ]
