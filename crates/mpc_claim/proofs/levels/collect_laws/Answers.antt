use Rattle.std.proofs.Common.{◌≡◌, ◌∙◌, ◌++◌, length, sym, ap}
use Rattle.std.proofs.lemmas.List.{append-nil}
use Rattle.mpc_claim.specs.Entries.{slot_of, entry_at}
use Rattle.mpc_claim.specs.Levels.{law_in}
use Rattle.mpc_claim.proofs.Taken.{as_many, taken_more, rest_more}
use Rattle.mpc_claim.proofs.levels.collect_laws.Goals as goal
use Rattle.mpc_claim.proofs.levels.collect_laws.Goals.{in-Some+in_ok-push-in-Some, in-None}

pub loop-candidate-preserved : goal.loop-candidate-preserved
loop-candidate-preserved c =
    let first = c.args.verdicts.items in
    let vs = c.loop-candidate.verdicts.items in
    let es = c.args.entries.now in
    let n = c.loop-candidate.candidate-index in
    let e = c.candidate-item.result in
    let laws = c.loop-candidate.laws in
    let rest = c.take_law.ensures.rest in
    let more : c.match-take_law.laws ≡ laws ++ law_in (slot_of vs e.mark) = elim c.match-take_law.branch [
      | in-Some+in_ok-push-in-Some w ↦ w.laws-is ∙ w.in_ok-push-in-Some.ensures.ok ∙ ap (λ u. laws ++ u) (sym w.in-Some.ensures.law)
      | in-None w ↦ w.laws-is ∙ sym (append-nil laws) ∙ ap (λ u. laws ++ u) (sym w.in-None.ensures.law)
    ] in
    record {
      taken = taken_more first vs es n e c.loop-candidate-test.true c.candidate-item.is c.loop-candidate.invariant.rest laws c.match-take_law.laws c.loop-candidate.invariant.taken more;
      rest = λ i p. ap (λ (u : _). law_in (slot_of u (entry_at es i).mark)) rest ∙ rest_more first vs es n e c.loop-candidate-test.true c.candidate-item.is c.loop-candidate.invariant.rest c.requires.once i p;
      as_many = ap length rest ∙ as_many vs e.mark ∙ c.loop-candidate.invariant.as_many;
    }
