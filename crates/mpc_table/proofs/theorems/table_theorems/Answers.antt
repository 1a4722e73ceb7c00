use Rattle.mpc_table.proofs.AffineLemmas.{least_form}
use Rattle.mpc_table.proofs.TableLemmas.{law_inputs, law_forms_length}
use Rattle.mpc_table.proofs.theorems.table_theorems.Goals as goal

pub returns : goal.returns
returns c = record { one_list_each = law_forms_length; moves_each_input = law_inputs; least_forms = least_form }
