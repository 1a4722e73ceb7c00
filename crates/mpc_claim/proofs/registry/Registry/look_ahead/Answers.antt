use Rattle.std.proofs.Common.{ℕ, ◌<◌, List, length, subst, sym, arith}
use Rattle.mpc_rows.specs.Candidates.{IsCandidate}
use Rattle.mpc_claim.specs.declared.entries.Entry.{Entry}
use Rattle.mpc_claim.specs.Entries.{entry_at, seen}
use Rattle.mpc_claim.proofs.Lists.{contains_at}
use Rattle.mpc_claim.proofs.Seen.{length-seen, set_seen}
use Rattle.mpc_claim.proofs.registry.Registry.look_ahead.Goals as goal

pub sets_between-requires-clause-candidates : goal.sets_between-requires-clause-candidates
sets_between-requires-clause-candidates c =
    let r = c.self.inside in
    let many = length-seen r.verdicts.items r.entries.items in
    subst (λ (es : List Entry). (i : ℕ) → i < length es → IsCandidate r.program (entry_at es i).set) (sym c.deref.ensures.value)
    (λ i l. subst (IsCandidate r.program) (set_seen r.verdicts.items r.entries.items i)
    (c.self.invariant.0.lineup.candidates _ (contains_at (seen r.verdicts.items r.entries.items) i (omega (arith, l, many)))))
