use Rattle.std.proofs.Common.{codes, subst, sym}
use Rattle.mpc_grammar.specs.Spelling.{AreIntegers}
use Rattle.mpc_plant_lines.proofs.PlantTexts.{no_sizes, sizes_told, some_integers, no_integers}
use Rattle.mpc_plant_lines.proofs.plant_lines.sizes_in.Goals as goal

pub returns-in-Some : goal.returns-in-Some
returns-in-Some c =
    sizes_told c.args.text.now c.one_integers.ensures c.as_slice.result.now
    (subst (AreIntegers (codes "size") c.args.text.now) (sym c.as_slice.ensures) (some_integers (codes "size") c.args.text.now c.in_ok-numbers.field-0 c.in-Some.numbers c.in-Some.is c.in_ok-numbers.ensures)) c.sizes_of.result c.sizes_of.ensures

pub returns-in-None : goal.returns-in-None
returns-in-None c = no_sizes c.args.text.now (no_integers (codes "size") c.args.text.now c.in_ok-numbers.field-0 c.in-None.is c.in_ok-numbers.ensures)
