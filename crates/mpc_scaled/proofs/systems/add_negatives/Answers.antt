use Rattle.std.proofs.Common.{◌≡◌, ℕ, ◌+◌, ◌≤◌, ◌^◌, ◌<◌, [], ◌∷◌, ◌++◌, length, take, pos, neg_ℤ, unsigned_abs, to_z, of_z, sym, ◌∙◌, ap, subst, refl, arith, le_refl}
use Rattle.std.specs.Int.{w64}
use Rattle.std.proofs.lemmas.List.{get_or_read}
use Rattle.mpc_exact.specs.Rational.{frac}
use Rattle.mpc_scaled.specs.Scaled.{whole_at, IsSmall}
use Rattle.mpc_scaled.specs.WholeSystems.{AreBehind}
use Rattle.mpc_scaled.proofs.Small.{abs-negated}
use Rattle.mpc_scaled.proofs.Small.{read_small, read_bound}
use Rattle.mpc_scaled.proofs.WholeSystems.{behind_more, kept_more, kept_at, behind_as}
use Rattle.std.proofs.lemmas.Result.{err_from_is_err_and}
use Rattle.mpc_scaled.proofs.systems.add_negatives.Goals as goal

pub loop-place-preserved : goal.loop-place-preserved
loop-place-preserved c =
    let old = c.args.coefficients.now.items in
    let now = c.loop-place.coefficients.items in
    let j = c.loop-place.place in
    let z = to_z w64 (of_z w64 c.negative-opposite.result) in
    let r : c.push.new.self.items ≡ now ++ z ∷ [] = c.in_ok-push.ensures.items in
    let zero : IsSmall (2 ^ 62) old = c.requires.small in
    let size : length now ≡ length old + j = (c.loop-place.invariant.behind 1 (2 ^ 62) zero).size in
    let here : c.args.from + j < length old = (let w = c.requires.within in let t = c.loop-place-test.true in omega arith) in
    let read : whole_at now (c.args.from + j) ≡ whole_at old (c.args.from + j) = kept_at old now (pos 0) (c.args.from + j) c.loop-place.invariant.kept here in
    let stored : c.index.result.now ≡ whole_at now (c.args.from + j) = get_or_read now (c.args.from + j) c.index.result.now (omega arith) c.index.ensures (pos 0) in
    let tiny : unsigned_abs c.index.result.now ≤ 2 ^ 62 = subst (λ u. unsigned_abs u ≤ 2 ^ 62) (sym (stored ∙ read)) (zero.each (c.args.from + j)) in
    let value : z ≡ neg_ℤ (whole_at old (c.args.from + j)) =
    read_small c.negative-opposite.result c.negative-opposite.ensures.small ∙ c.negative-opposite.ensures.value ∙ ap neg_ℤ (read_small c.index.result.now tiny ∙ stored ∙ read)
    in
    let f = λ (k : ℕ). neg_ℤ (whole_at old (c.args.from + k)) in
    let bounded = λ (m : ℕ) (s : IsSmall m old). subst (λ u. u ≤ m) (sym (ap unsigned_abs value ∙ abs-negated (whole_at old (c.args.from + j)))) (s.each (c.args.from + j)) in
    record {
      kept = ap (λ xs. take (length old) xs) r ∙ kept_more old now z c.loop-place.invariant.kept (omega arith);
      behind = λ scale most s. subst (λ xs. AreBehind old xs (j + 1) scale (λ k. frac (f k) scale) most) (sym r)
          (behind_more old now j scale (λ k. frac (f k) scale) most (c.loop-place.invariant.behind scale most s) z most (ap (λ u. frac u scale) (sym value)) (omega arith) (bounded most s) (bounded (2 ^ 62) zero));
    }

pub returns-clause-behind : goal.returns-clause-behind
returns-clause-behind c = λ scale most s.
    let e : c.loop-place.place ≡ c.args.count = omega arith in
    behind_as c.args.coefficients.now.items c.loop-place.coefficients.items c.loop-place.place c.args.count scale _ _ most e (λ j. refl) (c.loop-place.invariant.behind scale most s)

pub returns-in_err-push : goal.returns-in_err-push
returns-in_err-push c =
    let p = err_from_is_err_and c.from_residual.result c.from_residual.ensures.1 in
    rw p.1 (record { kept = ap (λ xs. take (length c.args.coefficients.now.items) xs) c.in_err-push.ensures.items ∙ c.loop-place.invariant.kept; behind = tt })

pub index-requires : goal.index-requires
index-requires c =
    let size = (c.loop-place.invariant.behind 1 (2 ^ 62) c.requires.small).size in
    let w = c.requires.within in
    let t = c.loop-place-test.true in
    let o = c.loop-place.coefficients.ok in
    omega arith

pub negative-opposite-requires : goal.negative-opposite-requires
negative-opposite-requires c =
    let old = c.args.coefficients.now.items in
    let now = c.loop-place.coefficients.items in
    let k = c.args.from + c.loop-place.place in
    let size : length now ≡ length old + c.loop-place.place = (c.loop-place.invariant.behind 1 (2 ^ 62) c.requires.small).size in
    let here : k < length old = (let w = c.requires.within in let t = c.loop-place-test.true in omega arith) in
    let stored : c.index.result.now ≡ whole_at now k = get_or_read now k c.index.result.now (omega arith) c.index.ensures (pos 0) in
    read_bound c.index.result.now (2 ^ 62) (subst (λ u. unsigned_abs u ≤ 2 ^ 62) (sym (stored ∙ kept_at old now (pos 0) k c.loop-place.invariant.kept here)) (c.requires.small.each k)) (le_refl (2 ^ 62))
