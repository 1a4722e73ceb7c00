use Rattle.std.proofs.Common.{◌≡◌, length, sym, subst, arith, rules}
use Rattle.std.specs.Prelude.{slice_index_or, IsTrue, All}
use Rattle.mpc_check.specs.declared.stretches.Stretch.{Stretch}
use Rattle.mpc_check.specs.Findings.{EachFrom}
use Rattle.mpc_check.specs.LawConditions.{LawAtMet, LawAtFinds}
use Rattle.mpc_check.proofs.StretchLemmas.{all_met}
use Rattle.mpc_check.proofs.SideLemmas.{stretches_met}
use Rattle.mpc_check.proofs.laws.are_all_seen_met.Goals as goal

pub returns-in-Ok-map_vec : goal.returns-in-Ok-map_vec
returns-in-Ok-map_vec g c = λ yes.
    let qp = c.args.qp.now in
    let laws = c.args.laws.now in
    let stretches = c.in-Ok.stretches.items in
    let answers = c.in-Ok-map_vec.answers.items in
    let as_many : length answers ≡ length stretches = (let a = c.in-Ok-map_vec.answers.ok in let s = c.in-Ok.stretches.ok in omega (arith, a, s, c.in-Ok-map_vec.ensures.len)) in
    let all : All IsTrue answers = subst (All IsTrue) c.as_slice.ensures.value (c.are_all.ensures yes) in
    let met : EachFrom (LawAtMet qp laws) 0 c.len.result = stretches_met (LawAtMet qp laws) (LawAtFinds qp laws) 0 c.len.result stretches answers c.in-Ok.ensures.whole as_many all (λ i s a inside seen.
    let job = (c.in-Ok-map_vec.ensures.each i a inside).1 in
    let call = job.call.met in
    let own : IsTrue (slice_index_or answers i a) → EachFrom (LawAtMet qp laws) job.job.from job.job.to = search rules in
    subst (λ (t : Stretch). EachFrom (LawAtMet qp laws) t.from t.to) (sym (job.job_is s)) (own seen)) in
    all_met (LawAtMet qp laws) (LawAtFinds qp laws) (length laws) (subst (EachFrom (LawAtMet qp laws) 0) c.len.ensures met)
