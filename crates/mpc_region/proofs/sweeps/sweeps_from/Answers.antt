use Rattle.std.proofs.Common.{◌++◌, ◌∷◌, [], sym, ◌∙◌, ap, subst}
use Rattle.mpc_region.specs.SweptSets.{AreTables}
use Rattle.mpc_region.proofs.SweptTables.{tables_begin}
use Rattle.mpc_region.proofs.sweeps.sweeps_from.Goals as goal

pub returns : goal.returns
returns c =
    subst (λ s. AreTables c.args._qp.now s 1 c.push.new.self.items) (sym c.empty.ensures)
    (tables_begin c.args._qp.now c.args.first c.push.new.self.items (c.in-Ok.ensures.items ∙ ap (λ ts. ts ++ c.args.first ∷ []) c.new-tables.ensures.items) c.requires)
