use Rattle.std.proofs.Common.{subst}
use Rattle.mpc_whole.specs.Lists.{Listed}
use Rattle.mpc_beginnings.specs.RunLists.{weight_of}
use Rattle.mpc_beginnings.specs.Kept.{IsKept}
use Rattle.mpc_beginnings.proofs.Listed.{wide_of, short_of}
use Rattle.mpc_beginnings.proofs.kept.put_values.Goals as goal

pub wide_last_values-requires-clause-first_size : goal.wide_last_values-requires-clause-first_size
wide_last_values-requires-clause-first_size c = rw c.deref.ensures.value (subst (λ (t : Listed). IsKept c.args.system.now c.args.last.now.scales.items t (weight_of c.args.last.now.lists c.args.last.now.place.product) c.args.last.now.place c.args.last.now.end) (wide_of c.args.last.now.lists c.if-lists.true) c.requires.kept.kept).lists.first_size

pub wide_last_values-requires-clause-second_size : goal.wide_last_values-requires-clause-second_size
wide_last_values-requires-clause-second_size c = rw c.deref-then-lists.ensures.value (subst (λ (t : Listed). IsKept c.args.system.now c.args.last.now.scales.items t (weight_of c.args.last.now.lists c.args.last.now.place.product) c.args.last.now.place c.args.last.now.end) (wide_of c.args.last.now.lists c.if-lists.true) c.requires.kept.kept).lists.second_size

pub wide_last_values-requires-clause-are : goal.wide_last_values-requires-clause-are
wide_last_values-requires-clause-are c = rw (c.deref.ensures.value, c.deref-then-lists.ensures.value) (subst (λ (t : Listed). IsKept c.args.system.now c.args.last.now.scales.items t (weight_of c.args.last.now.lists c.args.last.now.place.product) c.args.last.now.place c.args.last.now.end) (wide_of c.args.last.now.lists c.if-lists.true) c.requires.kept.kept).ended.values

pub wide_last_values-requires-clause-some : goal.wide_last_values-requires-clause-some
wide_last_values-requires-clause-some c = c.requires.kept.kept.ended.form.some

pub last_values-requires-clause-first_size : goal.last_values-requires-clause-first_size
last_values-requires-clause-first_size c = rw c.deref-2.ensures.value (subst (λ (t : Listed). IsKept c.args.system.now c.args.last.now.scales.items t (weight_of c.args.last.now.lists c.args.last.now.place.product) c.args.last.now.place c.args.last.now.end) (short_of c.args.last.now.lists c.if-lists.false) c.requires.kept.kept).lists.first_size

pub last_values-requires-clause-second_size : goal.last_values-requires-clause-second_size
last_values-requires-clause-second_size c = rw c.deref-3.ensures.value (subst (λ (t : Listed). IsKept c.args.system.now c.args.last.now.scales.items t (weight_of c.args.last.now.lists c.args.last.now.place.product) c.args.last.now.place c.args.last.now.end) (short_of c.args.last.now.lists c.if-lists.false) c.requires.kept.kept).lists.second_size

pub last_values-requires-clause-are : goal.last_values-requires-clause-are
last_values-requires-clause-are c = rw (c.deref-2.ensures.value, c.deref-3.ensures.value) (subst (λ (t : Listed). IsKept c.args.system.now c.args.last.now.scales.items t (weight_of c.args.last.now.lists c.args.last.now.place.product) c.args.last.now.place c.args.last.now.end) (short_of c.args.last.now.lists c.if-lists.false) c.requires.kept.kept).ended.values

pub last_values-requires-clause-some : goal.last_values-requires-clause-some
last_values-requires-clause-some c = c.requires.kept.kept.ended.form.some
