use Rattle.std.proofs.Common.{◌≡◌, ◌∙◌, ◌+◌, ◌^◌, ◌≤◌, ◌∷◌, ◌++◌, [], sym, ap, arith, length, pos, to_z, of_z, unsigned_abs, subst, take}
use Rattle.std.specs.Int.{w64}
use Rattle.std.proofs.lemmas.List.{get_or_read}
use Rattle.mpc_exact.specs.Rational.{int, frac}
use Rattle.mpc_space.specs.Vector.{coordinate}
use Rattle.mpc_scaled.specs.WholeSystems.{AreBehind}
use Rattle.mpc_scaled.proofs.Small.{read_small}
use Rattle.mpc_scaled.proofs.WholeSystems.{behind_more, kept_more}
use Rattle.std.proofs.lemmas.Result.{err_from_is_err_and}
use Rattle.mpc_scaled.proofs.systems.add_entries.Goals as goal

pub loop-number-preserved : goal.loop-number-preserved
loop-number-preserved c =
    let old = c.args.coefficients.now.items in
    let now = c.loop-number.coefficients.items in
    let j = c.loop-number.number-index in
    let z = to_z w64 (of_z w64 c.in-Some.whole) in
    let row = c.args.row.now in
    let b = c.loop-number.invariant.behind in
    let r : c.push.new.self.items ≡ now ++ z ∷ [] = c.in_ok-push.ensures.items in
    let m = c.max-most.ensures in
    let u : c.unsigned_abs.result ≡ unsigned_abs z = c.unsigned_abs.ensures.value in
    let e : coordinate row j ≡ frac z c.args.scale =
    sym (get_or_read row j c.number-item.result c.loop-number-test.true c.number-item.is (int (pos 0))) ∙ c.in-Some.ensures.value ∙ ap (λ y. frac y c.args.scale) (sym (read_small c.in-Some.whole c.in-Some.ensures.small))
    in
    let t : unsigned_abs z ≤ 2 ^ 62 = subst (λ u. unsigned_abs u ≤ 2 ^ 62) (sym (read_small c.in-Some.whole c.in-Some.ensures.small)) c.in-Some.ensures.small in
    let more : AreBehind old (now ++ z ∷ []) (j + 1) c.args.scale (coordinate row) c.max-most.result =
    behind_more old now j c.args.scale (coordinate row) c.loop-number.most b z c.max-most.result e (omega arith) (omega arith) t
    in
    record {
      kept = ap (λ xs. take (length old) xs) r ∙ kept_more old now z c.loop-number.invariant.kept (let s = b.size in omega arith);
      behind = subst (λ xs. AreBehind old xs (j + 1) c.args.scale (coordinate row) c.max-most.result) (sym r) more;
      bound = (let h = c.loop-number.invariant.bound in omega arith);
    }

pub returns-in_err-push : goal.returns-in_err-push
returns-in_err-push c =
    let p = err_from_is_err_and c.from_residual.result c.from_residual.ensures.1 in
    rw p.1 (record { kept = ap (λ xs. take (length c.args.coefficients.now.items) xs) c.in_err-push.ensures.items ∙ c.loop-number.invariant.kept; behind = tt; bound = tt })

pub returns-in_default : goal.returns-in_default
returns-in_default c = record { kept = c.loop-number.invariant.kept; behind = tt; bound = tt }
