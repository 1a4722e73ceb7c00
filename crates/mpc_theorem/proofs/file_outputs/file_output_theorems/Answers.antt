use Rattle.std.proofs.Common.{sym, subst}
use Rattle.mpc_theorem.specs.PlantFile.{IsPlantText}
use Rattle.mpc_theorem.proofs.RightControllers.{controller_rightly}
use Rattle.mpc_theorem.proofs.TheFiles.{the_file, one_file, its_file}
use Rattle.mpc_theorem.proofs.file_outputs.file_output_theorems.Goals as goal
use Rattle.mpc_grammar.specs.declared.versions.Version.TheVariants.{Three}

pub returns-clause-compiled : goal.returns-clause-compiled
returns-clause-compiled c = λ input output plant qp parts short text is spelled.
    let read = subst (IsPlantText input) (sym is.is_sealed.plant_is) text in
    let file = c.controller_file.ensures.file output Three parts short spelled in (
      record { parts = parts; read = read; file = file; rightly = controller_rightly c.right_controller.ensures.right c.right_controller.ensures.replies plant qp parts is },
      the_file c.one_tree.ensures.is_own input output plant qp parts read is file,
    )

pub returns-clause-one_file : goal.returns-clause-one_file
returns-clause-one_file c = one_file c.plant_texts.ensures.one c.one_program.ensures c.one_table.ensures c.table_theorems.ensures.are_laws c.one_tree.ensures.one_own_tree

pub returns-clause-of_its_controller : goal.returns-clause-of_its_controller
returns-clause-of_its_controller c = λ input output plant qp parts f text is.
    let file = its_file c.plant_texts.ensures.one c.one_program.ensures c.one_table.ensures c.table_theorems.ensures.are_laws c.one_tree.ensures.one_own_tree c.one_tree.ensures.is_own input output plant qp parts f text is in
    (file, λ few. c.controller_file.ensures.spelled output Three parts (λ three. few) file)

pub returns-clause-accepted : goal.returns-clause-accepted
returns-clause-accepted c = λ input short h.
    record { version = h.file.spelled.0; parts = h.file.parts; file = c.controller_file.ensures.file input h.file.spelled.0 h.file.parts short h.file.spelled.1; rightly = h.rightly }

pub returns-clause-replied : goal.returns-clause-replied
returns-clause-replied c = λ input output lines short h.
    record { version = h.given.spelled.0; parts = h.parts; file = c.controller_file.ensures.file input h.given.spelled.0 h.parts short h.given.spelled.1; replies = h.replies }

pub returns-clause-converted : goal.returns-clause-converted
returns-clause-converted c = λ input output short little h.
    record {
      version = h.spelled.0;
      parts = h.parts;
      file = c.controller_file.ensures.file input h.spelled.0 h.parts short h.spelled.1;
      converted = c.controller_file.ensures.file output Three h.parts little h.written;
    }
