use Rattle.std.proofs.Common.{List, ℕ, ◌≡◌, ◌↔◌, Contains, sym, subst, arith}
use Rattle.mpc_space.specs.Matrix.{height}
use Rattle.mpc_sets.specs.NextLevel.{IsLevel, IsNextOf}
use Rattle.mpc_claim.specs.Entries.{seen}
use Rattle.mpc_claim.specs.Levels.{grown_of}
use Rattle.mpc_claim.proofs.Growth.{grown_is_level}
use Rattle.mpc_claim.proofs.NextCandidates.{next_are_candidates}
use Rattle.mpc_claim.proofs.levels.next_candidates.Goals as goal

pub next_level-requires-clause-in_order : goal.next_level-requires-clause-in_order
next_level-requires-clause-in_order c =
    let e : grown_of (seen c.args.verdicts.now c.args.level.now) ≡ c.deref.result.now = cc (c.in_ok-grown.ensures) in
    (subst IsLevel e (grown_is_level (seen c.args.verdicts.now c.args.level.now) c.requires.level)).in_order

pub next_level-requires-clause-one_size : goal.next_level-requires-clause-one_size
next_level-requires-clause-one_size c =
    let e : grown_of (seen c.args.verdicts.now c.args.level.now) ≡ c.deref.result.now = cc (c.in_ok-grown.ensures) in
    (subst IsLevel e (grown_is_level (seen c.args.verdicts.now c.args.level.now) c.requires.level)).one_size

pub returns : goal.returns
returns c =
    let e : grown_of (seen c.args.verdicts.now c.args.level.now) ≡ c.deref.result.now = cc (c.in_ok-grown.ensures) in
    let rows : c.rows-2.result ≡ height c.args.qp.now.g = c.rows-2.ensures.value in
    let tall : c.rows.result ≡ height c.args.qp.now.h = c.rows.ensures.value in
    let less = c.if-size-rows.false in
    next_are_candidates c.member_theorems.ensures c.level_theorem.ensures c.args.qp.now c.args.size (grown_of (seen c.args.verdicts.now c.args.level.now)) c.in_ok-sets.sets.items c.requires.grown (omega arith) c.in_ok-sets.ensures.in_order
    (subst (λ r. (s : List ℕ) → Contains c.in_ok-sets.sets.items s ↔ IsNextOf (grown_of (seen c.args.verdicts.now c.args.level.now)) r s) rows
    (subst (λ g. (s : List ℕ) → Contains c.in_ok-sets.sets.items s ↔ IsNextOf g c.rows-2.result s) (sym e) c.in_ok-sets.ensures.members))
