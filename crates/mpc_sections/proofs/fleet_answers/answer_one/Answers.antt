use Rattle.mpc_sections.proofs.StepLemmas.{taken_first, some_registry, convex_answered}
use Rattle.mpc_sections.proofs.fleet_answers.answer_one.Goals as goal

pub returns-in-Convex : goal.returns-in-Convex
returns-in-Convex g c =
    convex_answered c.args.begun c.in-Convex.plant c.args.registries.now.items c.remove-registry.new.self.items c.remove-registry.result c.compiled.result c.in-Convex.is
    (taken_first c.args.registries.now.items c.remove-registry.new.self.items c.remove-registry.result c.remove-registry.ensures.value c.remove-registry.ensures.items (some_registry c.args.begun c.in-Convex.plant c.args.registries.now.items c.in-Convex.is c.requires))
    c.compiled.ensures
