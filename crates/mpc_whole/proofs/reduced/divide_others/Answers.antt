use Rattle.std.proofs.Common.{ℕ, ◌≡◌, ◌∙◌, ◌+◌, ◌<◌, ◌≤◌, ◌*ℤ◌, ◌⊎◌, inl, inr, sym, ap, subst, arith, get_or, length, le_refl, le_trans, pos, rules, unsigned_abs, set, ℤ, List, to_z, of_z, FitsSigned}
use Rattle.std.specs.Int.{w128}
use Rattle.std.proofs.lemmas.Bool.{cases_eq}
use Rattle.std.proofs.lemmas.Int.{to_z-of_z}
use Rattle.mpc_scaled.specs.Scaled.{whole_at}
use Rattle.mpc_runs.proofs.WholeLists.{set_above, set_same, set_other}
use Rattle.mpc_whole.proofs.reduced.divide_others.Goals as goal

-- what is to hold of the numbers from a place on below j, and now also of that at j
set_from : (P : ℕ → ℤ → Type 0) (xs : List ℤ) (j from : ℕ) (z : ℤ) → j < length xs → ((k : ℕ) → k < j → from ≤ k → P k (whole_at xs k)) → P j z → (k : ℕ) → k < j + 1 → from ≤ k → P k (whole_at (set xs j z) k)
set_from P xs j from z b h p k l f = by (cases_eq k j)
  where
    by : (k ≡ j) ⊎ (k ≡ j → ⊥) → P k (whole_at (set xs j z) k)
    by (inl q) = subst (λ m. P m (whole_at (set xs j z) m)) (sym q) (subst (P j) (sym (set_same xs j z b)) p)
    by (inr q) = subst (P k) (sym (set_other xs j z b k q)) (h k (omega arith) f)

pub loop-index-preserved : goal.loop-index-preserved
loop-index-preserved c =
    let z = to_z w128 (of_z w128 c.in_ok-quotient.quotient) in
    let j = c.loop-index.index in
    let b : j < length c.loop-index.list = (let l : length c.loop-index.list ≡ length c.args.list.now = c.loop-index.auto.list in let t = c.loop-index-test.true in let e = c.loop-index.auto.index-end in omega arith) in
    let f : FitsSigned w128 c.in_ok-quotient.quotient = search rules in
    let g : FitsSigned w128 (get_or c.loop-index.list j (pos 0)) = search rules in
    let more : c.loop-index.own ≤ c.max-own.result = (let e = c.max-own.ensures in omega arith) in
    let old = c.loop-index.invariant in
    record {
      done = set_from (λ k u. u *ℤ pos c.args.by.den ≡ whole_at c.args.list.now k) c.loop-index.list j c.args.from z b old.done
          (ap (λ u. u *ℤ pos c.args.by.den) (to_z-of_z w128 _ f) ∙ c.in_ok-quotient.ensures ∙ to_z-of_z w128 _ g ∙ old.above j (le_refl j));
      above = set_above c.loop-index.list j z b c.args.list.now old.above;
      below = λ k l. set_other c.loop-index.list j z b k (let w = old.begun in λ e. omega arith) ∙ old.below k l;
      own = set_from (λ k u. unsigned_abs u ≤ c.max-own.result) c.loop-index.list j c.args.from z b (λ k l h. le_trans (old.own k l h) more) (let e = c.max-own.ensures in let h = c.unsigned_abs.ensures.value in omega arith);
      before = le_trans old.before more;
      begun = (let w = old.begun in omega arith);
    }
