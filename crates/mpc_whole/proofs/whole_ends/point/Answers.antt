use Rattle.std.proofs.Common.{rules, ◌≡◌, ◌∙◌, ◌<◌, ◌≤◌, ◌+◌, ◌⊎◌, inl, inr, ℕ, List, set, sym, ap, subst, length, arith, get_or, get_or-set_same, get_or-set_other, pos, FitsSigned}
use Rattle.std.proofs.lemmas.Bool.{cases_eq}
use Rattle.mpc_exact.specs.Pair.{Pair}
use Rattle.std.specs.Int.{w64, w128}
use Rattle.std.proofs.lemmas.Int.{to_z-of_z}
use Rattle.mpc_exact.specs.Rational.{ℚ, frac}
use Rattle.mpc_runs.proofs.Answered.{no_pair, pair_of, pair_in, pair_found}
use Rattle.mpc_scaled.specs.Scaled.{whole_at}
use Rattle.mpc_whole.proofs.whole_ends.point.Goals as goal
use Rattle.mpc_whole.proofs.whole_ends.point.Goals.{After-loop-unknown}

-- a pair set behind those that are as they should be
pair_set : (v : List (ℚ × ℚ)) (j : ℕ) (q : ℚ × ℚ) → j < length v → (f : ℕ → Pair) → ((i : ℕ) → i < j → pair_in v i ≡ f i) → pair_of q ≡ f j → (i : ℕ) → i < j + 1 → pair_in (set v j q) i ≡ f i
pair_set v j q b f h e i l = by (cases_eq i j)
  where
    by : (i ≡ j) ⊎ (i ≡ j → ⊥) → pair_in (set v j q) i ≡ f i
    by (inl p) = ap (λ k. pair_in (set v j q) k) p ∙ ap (λ (z : ℚ × ℚ). pair_of z) (get_or-set_same v j q no_pair b) ∙ e ∙ ap f (sym p)
    by (inr p) = ap (λ (z : ℚ × ℚ). pair_of z) (get_or-set_other v j i q no_pair p) ∙ h i (omega arith)

size : (c : After-loop-unknown) → length c.loop-unknown.values ≡ length c.args.firsts.now
size c = (let q : length c.loop-unknown.values ≡ length c.args.values.now = c.loop-unknown.auto.values in q) ∙ c.requires.room

pub returns : goal.returns
returns c =
    let at = (goal.at.returns c).After-loop-unknown in
    let k : length c.args.firsts.now ≤ c.loop-unknown.unknown = c.loop-unknown-test.false in
    record { size = size at; at = λ i h. pair_found c.loop-unknown.values i _ (subst (λ m. i < m) (sym (size at)) h) (c.loop-unknown.invariant i (omega arith)) }

pub loop-unknown-preserved : goal.loop-unknown-preserved
loop-unknown-preserved c =
    let f : FitsSigned w64 (get_or c.args.firsts.now c.loop-unknown.unknown (pos 0)) = search rules in
    let g : FitsSigned w64 (get_or c.args.seconds.now c.loop-unknown.unknown (pos 0)) = search rules in
    let h : FitsSigned w128 c.widened.result = search rules in
    let k : FitsSigned w128 c.widened-in-loop-unknown.result = search rules in
    let first : c.in_ok-value.value.0 ≡ frac (get_or c.args.firsts.now c.loop-unknown.unknown (pos 0)) c.args.den = c.in_ok-value.ensures.first ∙ ap (λ z. frac z c.args.den) (to_z-of_z w128 _ h ∙ c.widened.ensures ∙ to_z-of_z w64 _ f) in
    let second : c.in_ok-value.value.1 ≡ frac (get_or c.args.seconds.now c.loop-unknown.unknown (pos 0)) c.args.den = c.in_ok-value.ensures.second ∙ ap (λ z. frac z c.args.den) (to_z-of_z w128 _ k ∙ c.widened-in-loop-unknown.ensures ∙ to_z-of_z w64 _ g) in
    let long : c.loop-unknown.unknown < length c.loop-unknown.values = (let q : length c.loop-unknown.values ≡ length c.args.values.now = c.loop-unknown.auto.values in let r = c.requires.room in let t = c.loop-unknown-test.true in omega arith) in
    pair_set c.loop-unknown.values c.loop-unknown.unknown c.in_ok-value.value long (λ i. record { first = frac (whole_at c.args.firsts.now i) c.args.den; second = frac (whole_at c.args.seconds.now i) c.args.den }) c.loop-unknown.invariant (λ i. record { first = first i; second = second i })
