use Rattle.std.proofs.Common.{◌≡◌, length, sym, subst, arith, rules}
use Rattle.std.specs.Prelude.{slice_index_or}
use Rattle.mpc_check.specs.Findings.{IsSearched}
use Rattle.mpc_check.specs.LeafConditions.{NodeAtMet, NodeAtFinds, StretchMet, StretchFinds}
use Rattle.mpc_check.specs.Stretches.{AreSearched}
use Rattle.mpc_check.proofs.StretchLemmas.{whole_searched}
use Rattle.mpc_check.proofs.SideLemmas.{each_searched}
use Rattle.mpc_check.proofs.search.AnySearch.search_tree.Goals as goal

pub returns-in-Ok : goal.returns-in-Ok
returns-in-Ok g c =
    let qp = c.args.qp.now in
    let laws = c.args.laws.now in
    let nodes = c.args.tree.now in
    let stretches = c.in_ok-stretches.stretches.items in
    let answers = c.in-Ok.answers.items in
    let as_many : length answers ≡ length stretches = (let a = c.in-Ok.answers.ok in let s = c.in_ok-stretches.stretches.ok in omega (arith, a, s, c.in-Ok.ensures.len)) in
    let searched : AreSearched qp laws nodes stretches answers = each_searched qp laws nodes stretches answers as_many (λ i s a inside.
    let job = (c.in-Ok.ensures.each i a inside).1 in
    let met = job.call.met in
    subst (λ t. IsSearched (StretchMet qp laws nodes t.from t.to) (StretchFinds qp laws nodes t.from t.to) (slice_index_or answers i a)) (sym (job.job_is s)) (search rules)) in
    whole_searched (NodeAtMet qp laws nodes) (NodeAtFinds qp laws nodes) (length nodes) c.first_answer.result
    (subst (λ to. IsSearched (StretchMet qp laws nodes 0 to) (StretchFinds qp laws nodes 0 to) c.first_answer.result) c.len.ensures
    (c.first_answer.ensures qp laws nodes 0 c.len.result stretches c.in_ok-stretches.ensures.whole (subst (AreSearched qp laws nodes stretches) (sym c.as_slice.ensures.value) searched)))
