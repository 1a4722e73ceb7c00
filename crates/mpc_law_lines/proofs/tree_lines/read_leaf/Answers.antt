use Rattle.mpc_law_lines.specs.TreeReading.{names_none, is_other}
use Rattle.mpc_law_lines.proofs.TreeReading.{law_error, no_move_error}
use Rattle.mpc_law_lines.proofs.tree_lines.read_leaf.Goals as goal

pub returns-in_err-certs-in-Law : goal.returns-in_err-certs-in-Law
returns-in_err-certs-in-Law c =
    law_error c.args.plant.now c.args.laws c.args.depth c.args.text.now c.args.number c.args.lines.now c.read_certs.new.lines c.read_certs.new.lines c.from_residual.result c.in_err-certs-in-Law.field-0.0 c.rows_above-cell.result c.program_rows-rows.result c.rows_above-cell.ensures.rows c.program_rows-rows.ensures.rows
    c.in-Law.law c.in-Law.ensures c.in_err-certs-in-Law.ensures c.from_residual.ensures.1

pub returns-in_err-cert-in-Nothing : goal.returns-in_err-cert-in-Nothing
returns-in_err-cert-in-Nothing c =
    no_move_error c.args.plant.now c.args.laws c.args.depth c.args.text.now c.args.number c.args.lines.now c.read_cert.new.lines c.read_cert.new.lines c.from_residual-in_err-cert-in-Nothing.result c.in_err-cert-in-Nothing.field-0.0 c.rows_above-cell.result c.program_rows-rows.result c.rows_above-cell.ensures.rows c.program_rows-rows.ensures.rows
    c.in-Nothing.ensures c.in_err-cert-in-Nothing.ensures c.from_residual-in_err-cert-in-Nothing.ensures.1

pub returns-in-NoLaw : goal.returns-in-NoLaw
returns-in-NoLaw c = names_none c.in-NoLaw.ensures

pub returns-in-NoLeaf : goal.returns-in-NoLeaf
returns-in-NoLeaf c = is_other c.in-NoLeaf.ensures
