use Rattle.std.proofs.Common.{◌≡◌, sym, subst}
use Rattle.mpc_controller.specs.Parts.{Parts}
use Rattle.mpc_controller.specs.Bounds.{IsController}
use Rattle.mpc_grammar.specs.FileGrammar.{Spells, parts_with}
use Rattle.mpc_grammar.specs.declared.versions.Version.TheVariants.{Three}
use Rattle.mpc_writing.proofs.writing.write_file.Goals as goal

pub returns : goal.returns
returns c =
    let parts = c.args.controller.now in
    let same : parts_with c.plant.result.now c.laws.result.now c.tree.result.now ≡ parts = λ i. parts_with (c.plant.ensures.value i) (c.laws.ensures.value i) (c.tree.ensures.value i) in
    let is : IsController c.plant.result.now c.laws.result.now c.tree.result.now =
    subst (λ (p : Parts). IsController p.plant p.laws p.tree) (sym same) c.plant.ensures.controller in
    subst (Spells c.write_parts.new.out.items Three) same (c.in_ok-write_parts.ensures.spells is c.new-out.ensures.items)
