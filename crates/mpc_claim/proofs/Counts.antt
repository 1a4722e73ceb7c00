-- There are fewer claims than numbers of 32 bits.
use Rattle.std.proofs.Common.{◌≤◌, List, length, get_or, arith}
use Rattle.std.proofs.lemmas.List.Elements.{Contains-get_or}
use Rattle.mpc_space.specs.Matrix.{height}
use Rattle.mpc_sets.specs.SetTheorems.{AreAtMost}
use Rattle.mpc_rows.specs.declared.programs.Qp.{Qp}
use Rattle.mpc_claim.specs.declared.events.Event.{Event}
use Rattle.mpc_claim.specs.History.{claimed_sets, IsLegal}
use Rattle.mpc_claim.proofs.Histories.{no_set_claimed_twice, claimed_is_candidate}
use Rattle.mpc_claim.proofs.NextCandidates.{candidate_rows, candidate_few}
use Rattle.mpc_claim.proofs.Steps.{rises_to}

pub few_claims : AreAtMost 60 6 56049058 → (qp : Qp) (es : List Event) → IsLegal qp es → length (claimed_sets es) ≤ 56049058
few_claims most_sets qp es h =
    most_sets (claimed_sets es) (no_set_claimed_twice qp es h)
    (λ i d p. let rows = candidate_rows qp (get_or (claimed_sets es) i d) (claimed_is_candidate qp es (get_or (claimed_sets es) i d) h (Contains-get_or (claimed_sets es) i d p)) in record { rises = rises_to 0 (height qp.g) 60 (get_or (claimed_sets es) i d) qp.is_program.few_rows rows.rises })
    (λ i d p. let few = candidate_few qp (get_or (claimed_sets es) i d) (claimed_is_candidate qp es (get_or (claimed_sets es) i d) h (Contains-get_or (claimed_sets es) i d p)) in let most = qp.is_program.few_unknowns in omega arith)
