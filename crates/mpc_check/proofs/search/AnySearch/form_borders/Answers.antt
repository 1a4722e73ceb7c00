use Rattle.std.proofs.Common.{◌≡◌, length, sym, subst, arith, rules}
use Rattle.std.specs.Prelude.{slice_index_or, IfOk}
use Rattle.mpc_check.specs.declared.stretches.Stretch.{Stretch}
use Rattle.mpc_check.specs.Borders.{AreBordersOf}
use Rattle.mpc_check.proofs.BorderLemmas.{of_parts}
use Rattle.mpc_check.proofs.search.AnySearch.form_borders.Goals as goal

pub returns-in-Ok : goal.returns-in-Ok
returns-in-Ok g c =
    let qp = c.args.qp.now in
    let laws = c.args.laws.now in
    let stretches = c.in_ok-stretches.stretches.items in
    let parts = c.in-Ok.parts.items in
    let as_many : length parts ≡ length stretches = (let p = c.in-Ok.parts.ok in let s = c.in_ok-stretches.stretches.ok in omega (arith, p, s, c.in-Ok.ensures.len)) in
    of_parts qp laws c.len-2.result stretches parts c.joined.result c.in_ok-stretches.ensures.whole as_many (λ i s p inside.
    let job = (c.in-Ok.ensures.each i p inside).1 in
    let met = job.call.met in
    subst (λ (t : Stretch). IfOk (slice_index_or parts i p) (λ v. AreBordersOf qp laws t v.items)) (sym (job.job_is s)) (search rules)) c.joined.ensures
