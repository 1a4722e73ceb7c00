use Rattle.std.proofs.Common.{List, ℤ, codes, arith}
use Rattle.mpc_grammar.specs.Spelling.{AreIntegers}
use Rattle.mpc_grammar.specs.Outcomes.{at_some}
use Rattle.mpc_law_lines.proofs.FormLemmas.{at_none, no_law_integers, law_too_long, law_read}
use Rattle.mpc_law_lines.proofs.law_lines.set_in.Goals as goal

pub returns-in_default : goal.returns-in_default
returns-in_default c =
    let none = at_none ((zs : List ℤ) → ¬ AreIntegers (codes "law") c.args.text.now zs) (AreIntegers (codes "law") c.args.text.now) c.in_ok-numbers.field-0 c.in_default.is c.in_ok-numbers.ensures in
    no_law_integers c.one_integers.ensures c.args.plant.now c.args.text.now (omega (arith, c.row_count-rows.ensures.value, c.row_count-rows.ensures.few)) none

pub returns-then-len-plant : goal.returns-then-len-plant
returns-then-len-plant c =
    let are = at_some ((zs : List ℤ) → ¬ AreIntegers (codes "law") c.args.text.now zs) (AreIntegers (codes "law") c.args.text.now) c.in_ok-numbers.field-0 c.in-Some.numbers c.in-Some.is c.in_ok-numbers.ensures in
    law_too_long c.one_integers.ensures c.args.plant.now c.args.text.now (omega (arith, c.row_count-rows.ensures.value, c.row_count-rows.ensures.few)) c.in-Some.numbers are (omega (arith, c.if-len-plant.true, c.len.ensures))

pub returns : goal.returns
returns c =
    let are = at_some ((zs : List ℤ) → ¬ AreIntegers (codes "law") c.args.text.now zs) (AreIntegers (codes "law") c.args.text.now) c.in_ok-numbers.field-0 c.in-Some.numbers c.in-Some.is c.in_ok-numbers.ensures in
    law_read c.one_integers.ensures c.args.plant.now c.args.text.now (omega (arith, c.row_count-rows.ensures.value, c.row_count-rows.ensures.few)) c.in-Some.numbers c.as_slice.result.now c.row_count-rows.result c.set_of.result are (omega (arith, c.if-len-plant.false, c.len.ensures)) c.row_count-rows.ensures.value c.as_slice.ensures c.set_of.ensures
