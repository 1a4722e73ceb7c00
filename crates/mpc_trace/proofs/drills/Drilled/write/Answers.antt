use Rattle.std.specs.Prelude.{codes}
use Rattle.mpc_trace.specs.Drills.{counted_text}
use Rattle.mpc_trace.proofs.TextLemmas.{five}
use Rattle.mpc_trace.proofs.drills.Drilled.write.Goals as goal

pub returns : goal.returns
returns c =
    let counts = c.args.self.now in
    five c.add_text.result c.args.text.now.items c.add_counted.new.text.items c.add_counted-2.new.text.items c.add_counted-3.new.text.items c.add_counted-4.new.text.items c.add_text.new.text.items
    (counted_text (codes "candidates ") counts.candidates) (counted_text (codes " regions ") counts.regions) (counted_text (codes " leaves ") counts.leaves) (counted_text (codes " depth ") counts.depth) (codes "\n")
    c.in_ok-add_counted.ensures c.in_ok-add_counted-2.ensures c.in_ok-add_counted-3.ensures c.in_ok-add_counted-4.ensures c.add_text.ensures.ok
