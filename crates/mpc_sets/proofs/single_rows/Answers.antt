use Rattle.std.proofs.Common.{◌≡◌, ◌+◌, ◌-◌, ◌++◌, ◌∷◌, [], sym, ap, ◌∙◌, subst, arith, rules}
use Rattle.mpc_sets.proofs.Singles.{HoldsSingles, singles_more}
use Rattle.mpc_sets.proofs.single_rows.Goals as goal

pub loop-row-preserved : goal.loop-row-preserved
loop-row-preserved c =
    let next : c.loop-row.row + 1 - 1 ≡ c.loop-row.row - 1 + 1 = omega arith in
    let here : c.loop-row.row + 1 - 1 ≡ c.loop-row.row = omega arith in
    let pushed : c.push.new.self.items ≡ c.loop-row.level.items ++ c.with.result ∷ [] = search rules in
    let set : c.with.result ≡ c.loop-row.row ∷ [] = search rules in
    let items = pushed ∙ ap (λ s. c.loop-row.level.items ++ s ∷ []) (set ∙ ap (λ i. i ∷ []) (sym here)) in
    subst (HoldsSingles (c.loop-row.row + 1 - 1)) (sym items) (singles_more (c.loop-row.row - 1) (c.loop-row.row + 1 - 1) c.loop-row.level.items next c.loop-row.invariant)

pub returns-clause-members : goal.returns-clause-members
returns-clause-members c =
    let all : c.loop-row.row - 1 ≡ c.args.rows = omega arith in
    let h = subst (λ n. HoldsSingles n c.loop-row.level.items) all c.loop-row.invariant in
    λ s. (h.singles s, h.complete s)
