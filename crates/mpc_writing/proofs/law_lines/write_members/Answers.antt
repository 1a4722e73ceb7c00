use Rattle.std.proofs.Common.{◌≡◌, ◌+◌, ◌-◌, ◌∷◌, ◌++◌, map, take, subst, ◌∙◌, arith}
use Rattle.std.specs.Prelude.{decimal}
use Rattle.mpc_words.specs.Words.{behind_blanks}
use Rattle.mpc_writing.proofs.GrownTexts.{mapped_next}
use Rattle.mpc_writing.proofs.KeptTexts.{kept_behind}
use Rattle.mpc_writing.proofs.law_lines.write_members.Goals as goal

pub loop-k-preserved : goal.loop-k-preserved
loop-k-preserved c =
    let same : (c.loop-k.k - 1) + 1 ≡ (c.loop-k.k + 1) - 1 = omega (arith, c.loop-k.auto.k) in
    subst (λ n. c.write_count.new.out.items ≡ c.args.out.now.items ++ behind_blanks (map decimal (take n c.args.set))) same
    (mapped_next (λ word. 32 ∷ word) decimal c.args.set (c.loop-k.k - 1) c.into.result 0 c.args.out.now.items c.loop-k.out.items c.write_count.new.out.items (omega (arith, c.loop-k.auto.k, c.loop-k-test.true, c.size-k-end.ensures.value)) (c.into.ensures ∙ c.member.ensures.value) c.loop-k.invariant c.in_ok-write_count.ensures.text)

pub returns-in_err-write_count-clause-kept : goal.returns-in_err-write_count-clause-kept
returns-in_err-write_count-clause-kept c = kept_behind _ _ _ _ c.loop-k.invariant c.write_count.ensures.kept
