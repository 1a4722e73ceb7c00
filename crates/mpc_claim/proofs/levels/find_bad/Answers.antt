use Rattle.std.proofs.Common.{◌≡◌, ◌∙◌, false, sym, ap, subst, inl, inr, arith}
use Rattle.std.proofs.lemmas.Bool.{cases_eq}
use Rattle.mpc_claim.specs.declared.candidates.Candidate.{Candidate}
use Rattle.mpc_claim.specs.declared.entries.Entry.{Entry}
use Rattle.mpc_claim.specs.Board.{at}
use Rattle.mpc_claim.specs.Books.{is_bad}
use Rattle.mpc_claim.specs.Entries.{seen, slot_of}
use Rattle.mpc_claim.proofs.Seen.{seen_here}
use Rattle.mpc_claim.proofs.levels.find_bad.Goals as goal

pub loop-place-preserved : goal.loop-place-preserved
loop-place-preserved c = λ i p q. elim (cases_eq i c.loop-place.place) [
  | inl same ↦
      let here = seen_here c.args.verdicts.now c.args.entries.now c.loop-place.place c.index-entries-place.result (omega arith) c.index-entries-place.is in
      let fine : is_bad (at (seen c.args.verdicts.now c.args.entries.now) c.loop-place.place).slot ≡ false = ap (λ (d : Candidate). is_bad d.slot) here ∙ ap (λ (e : Entry). is_bad (slot_of c.args.verdicts.now e.mark)) c.index-entries-place.is ∙ sym c.has_wide.ensures ∙ c.if-has_wide.false in
      subst (λ j. is_bad (at (seen c.args.verdicts.now c.args.entries.now) j).slot ≡ false) (sym same) fine
  | inr ne ↦ c.loop-place.invariant i p (omega (arith, ne))
]
