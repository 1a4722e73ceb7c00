use Rattle.std.proofs.Common.{◌≡◌, ◌<◌, ◌≤◌, ◌^◌, length, sym, ◌∙◌, subst₂, arith, to_z, of_z, le_refl}
use Rattle.std.specs.Int.{w64}
use Rattle.mpc_whole.specs.Moved.{IsValueAt}
use Rattle.mpc_runs.proofs.WholeWidths.{read_small, read_bound}
use Rattle.mpc_runs.proofs.WholeLists.{set_bound, small_within, both_set}
use Rattle.mpc_whole.proofs.whole_values.stand.Goals as goal
use Rattle.mpc_whole.proofs.whole_values.stand.Goals.{After-loop-unknown}

pub loop-unknown-init : goal.loop-unknown-init
loop-unknown-init c = record { done = λ k h. absurd (omega arith); first_small = λ k h. absurd (omega arith); second_small = λ k h. absurd (omega arith) }

pub loop-unknown-preserved : goal.loop-unknown-preserved
loop-unknown-preserved c =
    let e = c.unknowns-unknown-end.ensures in
    let t = c.loop-unknown-test.true in
    let in_1 : c.loop-unknown.unknown < length c.loop-unknown.firsts = (let q : length c.loop-unknown.firsts ≡ length c.args.firsts.now = c.loop-unknown.auto.firsts in let r = c.requires.first_room in omega arith) in
    let in_2 : c.loop-unknown.unknown < length c.loop-unknown.seconds = (let q : length c.loop-unknown.seconds ≡ length c.args.seconds.now = c.loop-unknown.auto.seconds in let r = c.requires.second_room in omega arith) in
    let first = c.in_ok-first.ensures.first_small in
    let second = c.in_ok-first.ensures.second_small in
    let value = IsValueAt c.args.system.now c.args.frame.now.count c.args.frame.now.scales.now c.args.frame.now.b.now c.args.nonbasic.now c.args.numbers.now in
    record {
      done = both_set value c.loop-unknown.firsts c.loop-unknown.seconds c.loop-unknown.unknown (to_z w64 (of_z w64 c.in_ok-first.first)) (to_z w64 (of_z w64 c.in_ok-first.second)) in_1 in_2 c.loop-unknown.invariant.done
          (subst₂ (value c.loop-unknown.unknown) (sym (read_small _ first)) (sym (read_small _ second)) c.in_ok-first.ensures.value);
      first_small = set_bound c.loop-unknown.firsts c.loop-unknown.unknown _ in_1 (2 ^ 62) (2 ^ 62) c.loop-unknown.invariant.first_small (le_refl (2 ^ 62)) (read_bound c.in_ok-first.first (2 ^ 62) first (le_refl (2 ^ 62)));
      second_small = set_bound c.loop-unknown.seconds c.loop-unknown.unknown _ in_2 (2 ^ 62) (2 ^ 62) c.loop-unknown.invariant.second_small (le_refl (2 ^ 62)) (read_bound c.in_ok-first.second (2 ^ 62) second (le_refl (2 ^ 62)));
    }

all_of : (c : After-loop-unknown) → c.args.system.now.width ≤ c.loop-unknown.unknown
all_of c = let e = c.unknowns-unknown-end.ensures in let t = c.loop-unknown-test.false in omega arith

pub returns-clause-values : goal.returns-clause-values
returns-clause-values c = λ seats z a. record {
  each = λ p d t f h. record {
    first = λ j l. (c.loop-unknown.invariant.done j (let w = all_of c in omega arith)).first seats z a p d t f h;
    second = λ j l. (c.loop-unknown.invariant.done j (let w = all_of c in omega arith)).second seats z a p d t f h;
  };
}

pub returns-clause-parts : goal.returns-clause-parts
returns-clause-parts c =
    let first : length c.loop-unknown.firsts ≡ c.args.system.now.width = (let q : length c.loop-unknown.firsts ≡ length c.args.firsts.now = c.loop-unknown.auto.firsts in q) ∙ c.requires.first_room in
    let second : length c.loop-unknown.seconds ≡ c.args.system.now.width = (let q : length c.loop-unknown.seconds ≡ length c.args.seconds.now = c.loop-unknown.auto.seconds in q) ∙ c.requires.second_room in
    record {
      first_size = first;
      second_size = second;
      first_small = small_within c.loop-unknown.firsts (2 ^ 62) c.loop-unknown.unknown (let w = all_of c in omega arith) c.loop-unknown.invariant.first_small;
      second_small = small_within c.loop-unknown.seconds (2 ^ 62) c.loop-unknown.unknown (let w = all_of c in omega arith) c.loop-unknown.invariant.second_small;
    }
