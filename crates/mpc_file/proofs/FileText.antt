-- A controller has one text in each version.
use Rattle.std.proofs.Common.{◌≡◌, [], length, codes, refl, sym, ap, ◌∙◌}
use Rattle.mpc_plant.specs.declared.plants.Plant.{Plant}
use Rattle.mpc_controller.specs.Parts.{Parts}
use Rattle.mpc_grammar.specs.declared.versions.Version.{Version}
use Rattle.mpc_grammar.specs.declared.versions.Version.TheVariants.{One, Two, Three}
use Rattle.mpc_grammar.specs.Reading.{Cursor, ◌>>=◌}
use Rattle.mpc_grammar.specs.PlantGrammar.{plant}
use Rattle.mpc_grammar.specs.FileGrammar.{IsVersion, parts_with, written, behind_plant, start}
use Rattle.mpc_grammar.specs.TextTheorems.{OneText}
use Rattle.mpc_file.proofs.OneText.{HasOneText, text_plain, text_give, text_with}
use Rattle.mpc_file.proofs.PartText.{text_plant, text_written_laws, text_written_tree, text_word}
use Rattle.mpc_file.proofs.NamedText.{text_named}

text_written : (plant : Plant) → HasOneText (written plant)
text_written plant =
    text_with _ _ (λ (y : Parts). y.laws) (text_written_laws plant)
    (λ laws. text_with _ _ (λ (y : Parts). y.tree) (text_written_tree plant (length laws))
    (λ tree. text_with _ _ (λ y. tt) (text_word (codes "end")) (λ u. text_give (parts_with plant laws tree)) (λ here u y behind h. refl))
    (λ here tree y behind h. ap (λ (p : Parts). p.tree) h.1.1.1.0))
    (λ here laws y behind h. ap (λ (p : Parts). p.laws) h.1.1.1.1.1.1.0)

text_behind_plant : (version : Version) (plant : Plant) → HasOneText (behind_plant version plant)
text_behind_plant One plant = text_written plant
text_behind_plant Two plant = text_written plant
text_behind_plant Three plant = text_named plant

its_plant : (version : Version) (here : Cursor) (plant : Plant) (y : Parts) (behind : Cursor) → (behind_plant version plant).Reads here y behind → y.plant ≡ plant
its_plant One here plant y behind h = ap (λ (p : Parts). p.plant) h.1.1.1.1.1.1.1.1.1.0
its_plant Two here plant y behind h = ap (λ (p : Parts). p.plant) h.1.1.1.1.1.1.1.1.1.0
its_plant Three here plant y behind h = ap (λ (p : Parts). p.plant) h.1.1.1.1.1.1.1.1.1.1.1.1.1.1.1.0

text_in_version : (version : Version) → HasOneText (plant version >>= behind_plant version)
text_in_version version =
    text_with (plant version) (behind_plant version) (λ (y : Parts). y.plant) (text_plant version) (λ p. text_behind_plant version p) (λ here p y behind h. its_plant version here p y behind h)

pub one_text : OneText
one_text bytes others version x h k =
    let behind : h.behind_first.rest ≡ k.behind_first.rest =
    (text_in_version version).same h.behind_first k.behind_first (record { rest = []; number = h.number }) (record { rest = []; number = k.number }) x h.lines k.lines refl in
    (text_plain IsVersion (λ line other v a b. a ∙ sym b)).same (start bytes) (start others) h.behind_first k.behind_first version h.first k.first behind
