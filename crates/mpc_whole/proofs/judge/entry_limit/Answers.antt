use Rattle.std.proofs.Common.{ℕ, ◌≡◌, ◌∙◌, ◌*◌, ◌-◌, ◌/◌, ◌<◌, ◌≤◌, ◌^◌, arith, ap, subst, unsigned_abs, pos, get_or, FitsSigned, rules}
use Rattle.std.specs.Int.{w64}
use Rattle.std.proofs.lemmas.Int.{to_z-of_z}
use Rattle.mpc_rows.specs.Run.{count}
use Rattle.mpc_scaled.specs.Scaled.{whole_at, scale_at}
use Rattle.mpc_whole.proofs.Judges.{shared_out, shared_side, turned_round}
use Rattle.mpc_whole.proofs.judge.entry_limit.Goals as goal
use Rattle.mpc_whole.proofs.judge.entry_limit.Goals.{After-max}

scaled : (c : After-max) (z : ℕ) → z ≤ ((2 ^ 125) / c.max.result) / scale_at c.args.frame.now.scales.now c.args.variable → (t : ℕ) → t ≤ c.max.result → (z * scale_at c.args.frame.now.scales.now c.args.variable) * t ≤ 2 ^ 125
scaled c z h t l =
    let some : 0 < scale_at c.args.frame.now.scales.now c.args.variable = c.requires.numbers.whole.scales.some c.args.variable (subst (λ m. c.args.variable < m) c.requires.numbers.count c.requires.below) in
    let top : 0 < c.max.result = (let a = c.max.ensures in let b = c.requires.below in omega arith) in
    shared_out (2 ^ 125) c.max.result (scale_at c.args.frame.now.scales.now c.args.variable) z t top some l h

for_all : (c : After-max) (z : ℕ) → (z * scale_at c.args.frame.now.scales.now c.args.variable) * c.args.frame.now.count ≤ 2 ^ 125 → count c.args.system.now * (z * scale_at c.args.frame.now.scales.now c.args.variable) ≤ 2 ^ 125
for_all c z h = subst (λ m. m * (z * scale_at c.args.frame.now.scales.now c.args.variable) ≤ 2 ^ 125) c.requires.numbers.count (turned_round c.args.frame.now.count _ _ h)

pub returns-then-variable-width : goal.returns-then-variable-width
returns-then-variable-width c = λ z h.
    let at = goal.at.returns-then-variable-width c in
    record {
      entering = λ e. scaled at.After-max (unsigned_abs z) h c.args.by.top (let a = c.max.ensures in let q = c.factor_at-factor.ensures.entering e in omega arith);
      other = λ e. scaled at.After-max (unsigned_abs z) h c.args.by.size (let a = c.max.ensures in let q = c.factor_at-factor.ensures.other e in omega arith);
      first = λ side. absurd (let a = c.if-variable-width.true in let e = c.unknowns-width.ensures in omega arith);
      second = for_all at.After-max (unsigned_abs z) (scaled at.After-max (unsigned_abs z) h c.args.frame.now.count (let a = c.max.ensures in omega arith));
    }

pub returns : goal.returns
returns c = λ z h.
    let at = goal.at.returns c in
    let n = c.args.frame.now.count in
    let s : unsigned_abs z ≤ ((2 ^ 125) / c.max.result) / scale_at c.args.frame.now.scales.now c.args.variable = (let a = c.min.ensures in omega arith) in
    let q : unsigned_abs z ≤ ((2 ^ 125) / n) / c.max-2.result = (let a = c.min.ensures in omega arith) in
    let f : FitsSigned w64 (get_or c.args.frame.now.b.now (c.args.variable - c.unknowns-width.result) (pos 0)) = search rules in
    let b : c.unsigned_abs-side.result ≡ unsigned_abs (whole_at c.args.frame.now.b.now (c.args.variable - c.unknowns-width.result)) = c.unsigned_abs-side.ensures.value ∙ ap unsigned_abs (to_z-of_z w64 _ f) in
    let size : unsigned_abs (whole_at c.args.frame.now.b.now (c.args.variable - c.unknowns-width.result)) ≤ c.max-2.result = (let a = c.max-2.ensures in omega arith) in
    record {
      entering = λ e. scaled at.After-max (unsigned_abs z) s c.args.by.top (let a = c.max.ensures in let q = c.factor_at-factor.ensures.entering e in omega arith);
      other = λ e. scaled at.After-max (unsigned_abs z) s c.args.by.size (let a = c.max.ensures in let q = c.factor_at-factor.ensures.other e in omega arith);
      first = λ side. subst (λ w. count c.args.system.now * (unsigned_abs z * unsigned_abs (whole_at c.args.frame.now.b.now (c.args.variable - w))) ≤ 2 ^ 125) c.unknowns-width.ensures
          (subst (λ m. m * (unsigned_abs z * unsigned_abs (whole_at c.args.frame.now.b.now (c.args.variable - c.unknowns-width.result))) ≤ 2 ^ 125) c.requires.numbers.count
          (shared_side (2 ^ 125) n (unsigned_abs (whole_at c.args.frame.now.b.now (c.args.variable - c.unknowns-width.result))) c.max-2.result (unsigned_abs z) (let l = c.requires.below in omega arith) (let a = c.max-2.ensures in omega arith) size q));
      second = for_all at.After-max (unsigned_abs z) (scaled at.After-max (unsigned_abs z) s n (let a = c.max.ensures in omega arith));
    }
