use Rattle.std.proofs.Common.{◌+◌, length, arith}
use Rattle.mpc_block.specs.Block.{line_start, law_place}
use Rattle.mpc_block.proofs.LayoutLemmas.{law_more, starts_mono, kept_twice}
use Rattle.mpc_block.proofs.layouts.write_laws.Goals as goal

pub loop-index-preserved : goal.loop-index-preserved
loop-index-preserved c =
    let parts = c.args.controller.now in
    let width = c.args.width in
    let place = law_place parts (c.loop-index.index + 1) in
    record {
      forms = law_more parts width c.requires.width c.loop-index.words c.write_law.new.words c.loop-index.index c.write_law.ensures.forms c.write_law.ensures.kept c.loop-index.invariant.forms;
      kept = kept_twice c.args.words.now c.loop-index.words c.write_law.new.words (line_start width (length parts.tree)) (line_start width place) (starts_mono width (length parts.tree) place (omega arith)) c.loop-index.invariant.kept c.write_law.ensures.kept;
    }
