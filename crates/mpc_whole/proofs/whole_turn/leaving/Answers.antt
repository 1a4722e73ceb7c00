use Rattle.std.proofs.Common.{sym, ◌∙◌}
use Rattle.std.proofs.lemmas.Bool.{false≢true}
use Rattle.mpc_whole.proofs.ShortValues.{values_short}
use Rattle.mpc_whole.proofs.whole_turn.leaving.Goals as goal

pub first_out-requires-then-unknowns-eq4-clause-short : goal.first_out-requires-then-unknowns-eq4-clause-short
first_out-requires-then-unknowns-eq4-clause-short c = λ t. values_short c.args.system.now c.args.frame.now.scales.now c.args.frame.now.a.now c.args.frame.now.b.now c.args.firsts.now c.args.seconds.now c.args.frame.now.most c.requires.frame.bounds c.requires.frame.numbers.whole.scales (c.are_small.ensures.first c.if-not-are_small.false) (c.are_small.ensures.second c.if-not-are_small.false)

pub first_out-requires-2-clause-short : goal.first_out-requires-2-clause-short
first_out-requires-2-clause-short c = λ t. values_short c.args.system.now c.args.frame.now.scales.now c.args.frame.now.a.now c.args.frame.now.b.now c.args.firsts.now c.args.seconds.now c.args.frame.now.most c.requires.frame.bounds c.requires.frame.numbers.whole.scales (c.are_small.ensures.first c.if-not-are_small.false) (c.are_small.ensures.second c.if-not-are_small.false)

pub first_out-requires-clause-side : goal.first_out-requires-clause-side
first_out-requires-clause-side c = c.requires.side

pub first_out-requires-clause-numbers : goal.first_out-requires-clause-numbers
first_out-requires-clause-numbers c = c.requires.frame.numbers

pub first_out-requires-clause-seated : goal.first_out-requires-clause-seated
first_out-requires-clause-seated c = c.requires.seated

pub first_out-requires-clause-parts : goal.first_out-requires-clause-parts
first_out-requires-clause-parts c = c.requires.parts

pub first_out-requires-clause-den_small : goal.first_out-requires-clause-den_small
first_out-requires-clause-den_small c = c.requires.den_small

pub first_out-requires-then-unknowns-eq4-clause-side : goal.first_out-requires-then-unknowns-eq4-clause-side
first_out-requires-then-unknowns-eq4-clause-side c = c.requires.side

pub first_out-requires-then-unknowns-eq4-clause-numbers : goal.first_out-requires-then-unknowns-eq4-clause-numbers
first_out-requires-then-unknowns-eq4-clause-numbers c = c.requires.frame.numbers

pub first_out-requires-then-unknowns-eq4-clause-seated : goal.first_out-requires-then-unknowns-eq4-clause-seated
first_out-requires-then-unknowns-eq4-clause-seated c = c.requires.seated

pub first_out-requires-then-unknowns-eq4-clause-parts : goal.first_out-requires-then-unknowns-eq4-clause-parts
first_out-requires-then-unknowns-eq4-clause-parts c = c.requires.parts

pub first_out-requires-then-unknowns-eq4-clause-den_small : goal.first_out-requires-then-unknowns-eq4-clause-den_small
first_out-requires-then-unknowns-eq4-clause-den_small c = c.requires.den_small

pub first_out-requires-2-clause-side : goal.first_out-requires-2-clause-side
first_out-requires-2-clause-side c = c.requires.side

pub first_out-requires-2-clause-numbers : goal.first_out-requires-2-clause-numbers
first_out-requires-2-clause-numbers c = c.requires.frame.numbers

pub first_out-requires-2-clause-seated : goal.first_out-requires-2-clause-seated
first_out-requires-2-clause-seated c = c.requires.seated

pub first_out-requires-2-clause-parts : goal.first_out-requires-2-clause-parts
first_out-requires-2-clause-parts c = c.requires.parts

pub first_out-requires-2-clause-den_small : goal.first_out-requires-2-clause-den_small
first_out-requires-2-clause-den_small c = c.requires.den_small

pub first_out-requires-clause-short : goal.first_out-requires-clause-short
first_out-requires-clause-short c = λ t. absurd (false≢true t)

pub first_out-requires-clause-four : goal.first_out-requires-clause-four
first_out-requires-clause-four c = λ t. absurd (false≢true t)

pub first_out-requires-2-clause-four : goal.first_out-requires-2-clause-four
first_out-requires-2-clause-four c = λ t. absurd (false≢true t)

pub first_out-requires-then-unknowns-eq4-clause-four : goal.first_out-requires-then-unknowns-eq4-clause-four
first_out-requires-then-unknowns-eq4-clause-four c = λ t. sym c.unknowns.ensures ∙ c.if-unknowns-eq4.true
