use Rattle.std.proofs.Common.{◌≡◌, ◌∙◌, ◌++◌, ap, take, map, arith, append_assoc}
use Rattle.std.specs.Prelude.{codes}
use Rattle.std.specs.List.{join_with_byte}
use Rattle.std.proofs.lemmas.Result.{on_ok_weaker}
use Rattle.std.proofs.lemmas.List.{take_all, length-map}
use Rattle.mpc_frac.specs.Text.{text_of}
use Rattle.mpc_states.proofs.MoveTexts.{moves_next}
use Rattle.mpc_states.proofs.lines.add_moves.Goals as goal

pub loop-i-preserved : goal.loop-i-preserved
loop-i-preserved c = moves_next c.args.moves.now c.loop-i.i c.args.text.now.items c.loop-i.text.items c.add_next.new.text.items c.index-moves-i.result c.loop-i-test.true c.index-moves-i.is c.loop-i.invariant c.in_ok-add_next.ensures

pub returns : goal.returns
returns c =
    let texts = map text_of c.args.moves.now in
    let whole : take c.loop-i.i texts ≡ texts = take_all c.loop-i.i texts (omega (arith, length-map c.args.moves.now text_of)) in
    on_ok_weaker c.add_text.result
    (λ e. e ∙ ap (λ t. t ++ codes "\n") (c.loop-i.invariant ∙ ap (λ t. c.args.text.now.items ++ join_with_byte 32 t) whole) ∙ append_assoc c.args.text.now.items (join_with_byte 32 texts) (codes "\n"))
    c.add_text.ensures.ok
