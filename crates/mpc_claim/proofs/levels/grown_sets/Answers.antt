use Rattle.std.proofs.Common.{◌≡◌, ◌<◌, ◌++◌, ◌∷◌, [], ◌∙◌, length, arith}
use Rattle.mpc_claim.specs.Entries.{seen, seen_one}
use Rattle.mpc_claim.proofs.Growth.{grown_more, grown_same}
use Rattle.mpc_claim.proofs.Seen.{length-seen, seen_item}
use Rattle.mpc_claim.proofs.levels.grown_sets.Goals as goal
use Rattle.mpc_claim.proofs.levels.grown_sets.Goals.{then-grows+in-Ok, else-grows}

pub loop-candidate-preserved : goal.loop-candidate-preserved
loop-candidate-preserved c =
    let vs = c.args.verdicts.now in
    let es = c.args.level.now in
    let n = c.loop-candidate.candidate-index in
    let e = c.candidate-item.result in
    let many = length-seen vs es in
    let within : n < length (seen vs es) = omega (arith, many) in
    let item = seen_item vs es n e c.candidate-item.is in
    elim c.if-grows.branch [
      | then-grows+in-Ok w ↦
          let items : c.if-grows.sets.items ≡ c.loop-candidate.sets.items ++ e.set ∷ [] = cc (w.in-Ok.ensures.items, w.sets-is) in
          grown_more (seen vs es) n (seen_one vs e) c.loop-candidate.sets.items c.if-grows.sets.items c.grows.result within item c.loop-candidate.invariant c.grows.ensures w.if-grows.true items
      | else-grows w ↦
          let items : c.if-grows.sets.items ≡ c.loop-candidate.sets.items = cc in
          items ∙ grown_same (seen vs es) n (seen_one vs e) c.loop-candidate.sets.items c.grows.result within item c.loop-candidate.invariant c.grows.ensures w.if-grows.false
    ]
