use Rattle.std.proofs.Common.{◌∙◌}
use Rattle.mpc_region.proofs.SweptEntries.{entry_made, entry_always}
use Rattle.mpc_region.proofs.rows.table_entry.Goals as goal

pub unreachable-requires : goal.unreachable-requires
unreachable-requires c =
    entry_always c.args.table.now c.requires.table c.args.row c.args.column c.at-number.result c.den-below.result c.at-number.ensures c.den-below.ensures c.fit_theorems.ensures c.new.result c.new.ensures.zero c.new.ensures.wide
    c.in-Err.field-0 c.in-Err.is

pub returns : goal.returns
returns c =
    c.in-Ok.ensures.value ∙ entry_made c.args.table.now c.requires.table c.args.row c.args.column c.at-number.result c.den-below.result c.at-number.ensures c.den-below.ensures
