use Rattle.std.proofs.Common.{◌↔◌, ℕ, List, length, Contains}
use Rattle.mpc_sets.specs.NextLevel.{IsNextOf, IsSingle, AllOneLarger, ExtendsOneOf, HoldsNext}
use Rattle.mpc_sets.proofs.Singles.{if_ok, empty_given, none_empty, none_given, single_next, next_larger, all_next}
use Rattle.mpc_sets.proofs.next_level.Goals as goal
use Rattle.mpc_sets.proofs.next_level.Goals.{in_default-via-in-Some+else-size-eq0, in_default-via-in_default}

pub joined_level-requires-clause-no_empty : goal.joined_level-requires-clause-no_empty
joined_level-requires-clause-no_empty c = elim c.in_default.branch [
  | in_default-via-in-Some+else-size-eq0 w ↦ none_empty c.args.grown.now w.in-Some.first.now w.size.result c.requires.in_order c.requires.one_size w.in-Some.ensures.value w.size.ensures.value w.if-size-eq0.false
  | in_default-via-in_default w ↦ none_given c.args.grown.now w.in_default.ensures.value
]

pub returns-in-Some-clause-members : goal.returns-in-Some-clause-members
returns-in-Some-clause-members c =
    let given = empty_given c.args.grown.now c.in-Some.first.now c.size.result c.in-Some.ensures.value c.size.ensures.value c.if-size-eq0.true in
    if_ok (λ level. (s : List ℕ) → Contains level.items s ↔ IsSingle c.args.rows s) (λ level. (s : List ℕ) → Contains level.items s ↔ IsNextOf c.args.grown.now c.args.rows s) c.single_rows.result
    (λ level f. single_next c.args.grown.now c.args.rows c.requires.in_order c.requires.one_size given level.items f) c.single_rows.ensures.members

pub returns-in-Some-clause-one_more : goal.returns-in-Some-clause-one_more
returns-in-Some-clause-one_more c =
    if_ok (λ level. (s : List ℕ) → Contains level.items s ↔ IsNextOf c.args.grown.now c.args.rows s) (λ level. AllOneLarger c.args.grown.now level.items) c.single_rows.result
    (λ level f. next_larger c.args.grown.now c.args.rows c.requires.one_size level.items f) (returns-in-Some-clause-members c)

pub returns-in_default-clause-members : goal.returns-in_default-clause-members
returns-in_default-clause-members c =
    if_ok (λ level. HoldsNext (ExtendsOneOf c.args.grown.now (length c.args.grown.now)) c.args.grown.now c.args.rows level.items) (λ level. (s : List ℕ) → Contains level.items s ↔ IsNextOf c.args.grown.now c.args.rows s) c.joined_level.result
    (λ level h. all_next c.args.grown.now c.args.rows level.items h) c.joined_level.ensures

pub returns-in_default-clause-one_more : goal.returns-in_default-clause-one_more
returns-in_default-clause-one_more c =
    if_ok (λ level. (s : List ℕ) → Contains level.items s ↔ IsNextOf c.args.grown.now c.args.rows s) (λ level. AllOneLarger c.args.grown.now level.items) c.joined_level.result
    (λ level f. next_larger c.args.grown.now c.args.rows c.requires.one_size level.items f) (returns-in_default-clause-members c)
