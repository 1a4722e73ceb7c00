use Rattle.std.proofs.Common.{List, ℤ, sym, ◌∙◌}
use Rattle.mpc_grammar.specs.Spelling.{AreIntegers}
use Rattle.mpc_grammar.specs.Outcomes.{at_some}
use Rattle.mpc_law_lines.proofs.FormLemmas.{at_none, no_form_integers, wrong_count, numbers_read}
use Rattle.mpc_law_lines.proofs.named_laws.numbers_in.Goals as goal

pub returns-in_default : goal.returns-in_default
returns-in_default c =
    let none = at_none ((zs : List ℤ) → ¬ AreIntegers c.args.name.now c.args.text.now zs) (AreIntegers c.args.name.now c.args.text.now) c.in_ok-integers.field-0 c.in_default.is c.in_ok-integers.ensures in
    no_form_integers c.one_integers.ensures c.args.name.now c.args.text.now c.args.all c.args.used c.args.count c.ranges.all.fits none

pub returns-then-len-count : goal.returns-then-len-count
returns-then-len-count c =
    let are = at_some ((zs : List ℤ) → ¬ AreIntegers c.args.name.now c.args.text.now zs) (AreIntegers c.args.name.now c.args.text.now) c.in_ok-integers.field-0 c.in-Some.integers c.in-Some.is c.in_ok-integers.ensures in
    wrong_count c.one_integers.ensures c.args.name.now c.args.text.now c.args.all c.args.used c.args.count c.ranges.all.fits c.in-Some.integers are (λ e. c.if-len-count.true (c.len.ensures ∙ e))

pub returns : goal.returns
returns c =
    let are = at_some ((zs : List ℤ) → ¬ AreIntegers c.args.name.now c.args.text.now zs) (AreIntegers c.args.name.now c.args.text.now) c.in_ok-integers.field-0 c.in-Some.integers c.in-Some.is c.in_ok-integers.ensures in
    numbers_read c.one_integers.ensures c.args.name.now c.args.text.now c.args.all c.args.used c.args.count c.ranges.all.fits c.in-Some.integers c.as_slice.result.now c.named_by.result are (sym c.len.ensures ∙ c.if-len-count.false) c.as_slice.ensures c.named_by.ensures
