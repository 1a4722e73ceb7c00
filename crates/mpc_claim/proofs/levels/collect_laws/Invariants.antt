use Rattle.std.proofs.Common.{◌≡◌, ℕ, ◌≤◌, length, take}
use Rattle.mpc_claim.specs.Entries.{entry_at, slot_of, seen}
use Rattle.mpc_claim.specs.Levels.{law_in, laws_of}
use Rattle.mpc_claim.proofs.levels.collect_laws.Given as goal

abbrev pub invariant-loop-candidate : goal.invariant-loop-candidate
invariant-loop-candidate l = record {
  taken : l.laws ≡ laws_of (take l.candidate-index (seen l.fn.verdicts.items l.entries));
  rest : (i : ℕ) → l.candidate-index ≤ i → law_in (slot_of l.verdicts.items (entry_at l.entries i).mark) ≡ law_in (slot_of l.fn.verdicts.items (entry_at l.entries i).mark);
  as_many : length l.verdicts.items ≡ length l.fn.verdicts.items;
}
