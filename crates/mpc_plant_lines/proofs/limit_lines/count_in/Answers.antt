use Rattle.std.proofs.Common.{◌≡◌, ◌+◌, ◌*◌, ◌≤◌, ◌<◌, ◌^◌, subst, sym, ◌∙◌, arith}
use Rattle.mpc_plant_lines.proofs.LimitLemmas.{small_count}
use Rattle.mpc_plant_lines.proofs.limit_lines.count_in.Goals as goal

pub returns-else-each-count : goal.returns-else-each-count
returns-else-each-count c = λ count is.
    let small : count < 2 ^ 64 = small_count c.args.name.now c.args.text.now c.args.each c.args.others c.args.most count c.requires.some (omega arith) is in
    let same : count ≡ c.in-Small.count = c.one_number.ensures.count c.args.name.now count c.in-Small.count (omega (arith, small)) (omega (arith, c.in-Small.ensures.number.1)) (sym is.spelled ∙ c.in-Small.ensures.count) in
    let few : c.args.each * c.in-Small.count + c.args.others ≤ c.args.most = subst (λ k. c.args.each * k + c.args.others ≤ c.args.most) same is.allowed in
    omega arith
