use Rattle.std.proofs.Common.{[], ◌++◌, sym, subst}
use Rattle.std.proofs.Common.{length}
use Rattle.std.specs.Str.Lines.{lines}
use Rattle.std.proofs.lemmas.List.{append-nil}
use Rattle.mpc_states.specs.StateLines.{IsOf, AreStateLines, no_lines}
use Rattle.mpc_states.proofs.LineLemmas.{lines_more}
use Rattle.mpc_states.proofs.lines.lines_with.Goals as goal

pub loop-line-init : goal.loop-line-init
loop-line-init c = record {
  text = λ more h. subst (λ t. AreStateLines (IsOf c.args.program.now c.args.inputs) c.args.program.now (length c.args.program.now.counts) (lines c.args.input.now) (t ++ more)) (sym c.new-text.ensures.items) h;
  prepared = c.requires.prepared;
}

pub loop-line-preserved : goal.loop-line-preserved
loop-line-preserved c = record {
  text = lines_more (IsOf c.args.program.now c.args.inputs) c.args.program.now (length c.args.program.now.counts) (lines c.loop-line.rest.now) c.in-Some.line.now (lines c.in-Some.after.now) c.loop-line.text.items c.add_line.new.text.items (lines c.args.input.now) c.in-Some.ensures.lines
      c.in_ok-add_line.ensures.line c.loop-line.invariant.text;
  prepared = c.in_ok-add_line.ensures.prepared;
}

pub returns : goal.returns
returns c = subst (AreStateLines (IsOf c.args.program.now c.args.inputs) c.args.program.now (length c.args.program.now.counts) (lines c.args.input.now)) (append-nil c.loop-line.text.items)
    (c.loop-line.invariant.text [] (subst (λ ls. AreStateLines (IsOf c.args.program.now c.args.inputs) c.args.program.now (length c.args.program.now.counts) ls []) (sym c.in_default.ensures.lines) no_lines))
