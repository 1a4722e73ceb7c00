use Rattle.std.proofs.Common.{◌∷◌, ℤ, pos, get_or, to_z, of_z, rules}
use Rattle.std.specs.Fmt.{signed_decimal}
use Rattle.std.specs.Int.{w128}
use Rattle.std.proofs.lemmas.Int.{to_z-of_z}
use Rattle.mpc_writing.proofs.GrownTexts.{mapped_next}
use Rattle.mpc_writing.proofs.KeptTexts.{kept_then}
use Rattle.mpc_writing.proofs.tree_lines.write_integers.Goals as goal

pub loop-integer-preserved : goal.loop-integer-preserved
loop-integer-preserved c =
    let z : ℤ = get_or c.args.integers.now c.loop-integer.integer-index (pos 0) in
    record {
      text = mapped_next (λ word. 32 ∷ word) signed_decimal c.args.integers.now c.loop-integer.integer-index (to_z w128 (of_z w128 z)) (pos 0) c.args.out.now.items c.loop-integer.out.items c.write_integer.new.out.items c.loop-integer-test.true (to_z-of_z w128 z (search rules)) c.loop-integer.invariant.text c.in_ok-write_integer.ensures.text;
      kept = kept_then _ _ _ c.loop-integer.invariant.kept c.write_integer.ensures.kept;
    }

pub returns-in_err-write_integer-clause-kept : goal.returns-in_err-write_integer-clause-kept
returns-in_err-write_integer-clause-kept c = kept_then _ _ _ c.loop-integer.invariant.kept c.write_integer.ensures.kept
