-- The laws and the tree of a controller whose plant is read.
use Rattle.std.specs.Prelude.{List}
use Rattle.mpc_plant.specs.declared.plants.Plant.{Plant}
use Rattle.mpc_rows.specs.declared.laws.Law.{Law}
use Rattle.mpc_rows.specs.declared.trees.Node.{Node}
use Rattle.mpc_controller.specs.Parts.{Parts}
use Rattle.mpc_controller.specs.Bounds.{IsController}
use Rattle.mpc_grammar.specs.declared.versions.Version.{Version}
use Rattle.mpc_grammar.specs.Reading.{Grammar, ◌>>=◌}
use Rattle.mpc_grammar.specs.PlantGrammar.{plant}
use Rattle.mpc_grammar.specs.FileGrammar.{parts_with, behind_plant}

-- the same lines, which state the laws and the tree beside this plant; the three are a controller
abbrev pub unsealed : Plant → Grammar Parts → Grammar (List Law × List Node)
unsealed plant whole =
    record {
      Reads = λ here parts behind. whole.Reads here (parts_with plant parts.0 parts.1) behind × IsController plant parts.0 parts.1;
      Fails = whole.Fails;
    }

-- the lines of a version behind the first line
abbrev pub in_version : Version → Grammar Parts
in_version version = plant version >>= behind_plant version
