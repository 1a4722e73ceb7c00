use Rattle.std.proofs.Common.{subst}
use Rattle.mpc_whole.specs.declared.whole.Ending.TheVariants.{Refuted}
use Rattle.mpc_whole.specs.Lists.{Listed}
use Rattle.mpc_beginnings.specs.RunLists.{weight_of}
use Rattle.mpc_beginnings.specs.Kept.{IsKept}
use Rattle.mpc_beginnings.proofs.Listed.{wide_of, short_of}
use Rattle.mpc_beginnings.proofs.kept.put_multipliers.Goals as goal

pub wide_last_multipliers-requires-clause-seated : goal.wide_last_multipliers-requires-clause-seated
wide_last_multipliers-requires-clause-seated c = (subst (λ (t : Listed). IsKept c.args.system.now c.args.numbers.now.scales.now t (weight_of c.args.lists.now c.args.place.product) c.args.place (Refuted c.args.side)) (wide_of c.args.lists.now c.if-lists.true) c.requires.kept.kept).lists.seated

pub wide_last_multipliers-requires-clause-columns : goal.wide_last_multipliers-requires-clause-columns
wide_last_multipliers-requires-clause-columns c = (subst (λ (t : Listed). IsKept c.args.system.now c.args.numbers.now.scales.now t (weight_of c.args.lists.now c.args.place.product) c.args.place (Refuted c.args.side)) (wide_of c.args.lists.now c.if-lists.true) c.requires.kept.kept).lists.columns

pub wide_last_multipliers-requires-clause-square : goal.wide_last_multipliers-requires-clause-square
wide_last_multipliers-requires-clause-square c = (subst (λ (t : Listed). IsKept c.args.system.now c.args.numbers.now.scales.now t (weight_of c.args.lists.now c.args.place.product) c.args.place (Refuted c.args.side)) (wide_of c.args.lists.now c.if-lists.true) c.requires.kept.kept).lists.square

pub wide_last_multipliers-requires-clause-form : goal.wide_last_multipliers-requires-clause-form
wide_last_multipliers-requires-clause-form c = (subst (λ (t : Listed). IsKept c.args.system.now c.args.numbers.now.scales.now t (weight_of c.args.lists.now c.args.place.product) c.args.place (Refuted c.args.side)) (wide_of c.args.lists.now c.if-lists.true) c.requires.kept.kept).ended.form

pub last_multipliers-requires-clause-seated : goal.last_multipliers-requires-clause-seated
last_multipliers-requires-clause-seated c = (subst (λ (t : Listed). IsKept c.args.system.now c.args.numbers.now.scales.now t (weight_of c.args.lists.now c.args.place.product) c.args.place (Refuted c.args.side)) (short_of c.args.lists.now c.if-lists.false) c.requires.kept.kept).lists.seated

pub last_multipliers-requires-clause-columns : goal.last_multipliers-requires-clause-columns
last_multipliers-requires-clause-columns c = (subst (λ (t : Listed). IsKept c.args.system.now c.args.numbers.now.scales.now t (weight_of c.args.lists.now c.args.place.product) c.args.place (Refuted c.args.side)) (short_of c.args.lists.now c.if-lists.false) c.requires.kept.kept).lists.columns

pub last_multipliers-requires-clause-square : goal.last_multipliers-requires-clause-square
last_multipliers-requires-clause-square c = (subst (λ (t : Listed). IsKept c.args.system.now c.args.numbers.now.scales.now t (weight_of c.args.lists.now c.args.place.product) c.args.place (Refuted c.args.side)) (short_of c.args.lists.now c.if-lists.false) c.requires.kept.kept).lists.square

pub last_multipliers-requires-clause-form : goal.last_multipliers-requires-clause-form
last_multipliers-requires-clause-form c = (subst (λ (t : Listed). IsKept c.args.system.now c.args.numbers.now.scales.now t (weight_of c.args.lists.now c.args.place.product) c.args.place (Refuted c.args.side)) (short_of c.args.lists.now c.if-lists.false) c.requires.kept.kept).ended.form
