use Rattle.std.proofs.Common.{◌≡◌, ℕ, ◌*◌, ◌<◌, pos, ◌<ℤ◌, true, length, sym, ◌∙◌, ap, refl, subst, arith}
use Rattle.std.proofs.lemmas.List.{length-set}
use Rattle.mpc_block.specs.Words.{words_from, number_at}
use Rattle.mpc_block.specs.Block.{line_size, IsFormLine}
use Rattle.mpc_block.proofs.MoveLemmas.{is_over, forms_inside, form_there, one_more}
use Rattle.mpc_block.proofs.replies.write_all.Goals as goal

pub returns-in_default-clause-written : goal.returns-in_default-clause-written
returns-in_default-clause-written c = λ parts of_set law s width_is size from numbered start_is.
    let inputs = length c.args.moves.now in
    let each : c.line_size.result * inputs ≡ line_size c.args.width * inputs = ap (λ n. n * inputs) c.line_size.ensures in
    absurd (omega (arith, forms_inside c.args.words.now c.args.counts.now parts s of_set law c.args.start inputs c.args.width width_is size from numbered start_is, each, c.in_default.ensures))

pub returns-then-not-are_positive-clause-written : goal.returns-then-not-are_positive-clause-written
returns-then-not-are_positive-clause-written c = λ parts of_set law s width_is size from numbered start_is.
    let words = c.args.words.now in
    let counts = c.args.counts.now in
    let width = c.args.width in
    let inputs = length c.args.moves.now in
    let lines = c.in-Some.lines.now in
    let are : lines ≡ words_from words c.args.start (line_size width * inputs) = subst (λ n. lines ≡ words_from words c.args.start (n * inputs)) c.line_size.ensures c.in-Some.ensures.0 in
    let positive : (input : ℕ) → input < inputs → pos 0 <ℤ number_at width (words_from lines (line_size width * input) (line_size width)) 0 =
    λ input lt. is_over words counts parts s of_set law input numbered (subst (λ n. input < n) size lt) width width_is _ (form_there words counts parts s of_set law c.args.start inputs width width_is size from numbered start_is lines input are lt) in
    let so : c.are_positive.result ≡ true = c.are_positive.ensures positive in
    let not = c.if-not-are_positive.true in
    absurd cc

pub loop-i-preserved : goal.loop-i-preserved
loop-i-preserved c = λ parts of_set law s width_is size from numbered start_is.
    let words = c.args.words.now in
    let counts = c.args.counts.now in
    let width = c.args.width in
    let inputs = length c.args.moves.now in
    let lines = c.in-Some.lines.now in
    let moves = c.loop-i.moves in
    let i = c.loop-i.i in
    let kept : length moves ≡ parts.plant.p = sym (length-set moves i c.move_by.result) ∙ size in
    let whole : inputs ≡ parts.plant.p = sym c.loop-i.auto.moves ∙ kept in
    let are : lines ≡ words_from words c.args.start (line_size width * inputs) = subst (λ n. lines ≡ words_from words c.args.start (n * inputs)) c.line_size.ensures c.in-Some.ensures.0 in
    let there : IsFormLine parts of_set i c.line_of.result.now = subst (IsFormLine parts of_set i) (sym c.line_of.ensures.line) (form_there words counts parts s of_set law c.args.start inputs width width_is whole from numbered start_is lines i are c.loop-i-test.true) in
    one_more of_set counts moves i c.move_by.result (subst (λ n. i < n) (sym c.loop-i.auto.moves) c.loop-i-test.true) (c.loop-i.invariant parts of_set law s width_is kept from numbered start_is)
    (c.move_by.ensures parts of_set law i words s width_is numbered (subst (λ n. i < n) whole c.loop-i-test.true) there)

pub returns-clause-written : goal.returns-clause-written
returns-clause-written c = λ parts of_set law s width_is size from numbered start_is.
    (refl, λ input d lt. c.loop-i.invariant parts of_set law s width_is (c.loop-i.auto.moves ∙ size) from numbered start_is input d (omega (arith, lt, size, c.loop-i-test.false)))
