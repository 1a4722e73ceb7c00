use Rattle.std.proofs.Common.{◌∙◌, Err, length, ap}
use Rattle.mpc_block.specs.Block.{block_size}
use Rattle.mpc_c.proofs.TableEnds.{no_room}
use Rattle.mpc_c.proofs.mpc_table_load.Goals as goal

pub returns-in-Ok-lay_out-clause-loaded : goal.returns-in-Ok-lay_out-clause-loaded
returns-in-Ok-lay_out-clause-loaded c = λ e. record { parts = c.in-Ok.controller; measured = c.in-Ok.ensures.measured; laid_out = c.in-Ok-lay_out.ensures.ok }

pub returns-in-Err-NoRoom-clause-too_small : goal.returns-in-Err-NoRoom-clause-too_small
returns-in-Err-NoRoom-clause-too_small c = λ e. record {
  parts = c.in-Ok.controller;
  measured = c.in-Ok.ensures.measured;
  larger = no_room c.lay_out.result c.in-Err-NoRoom.field-0-0 (block_size c.in-Ok.controller) (length c.args.block.now) c.lay_out.ensures.no_room c.lay_out.ensures.told (c.in-Err-NoRoom.is ∙ ap Err c.in-Err-NoRoom.field-0-is);
}

pub returns-in-Err-NoRoom-clause-kept : goal.returns-in-Err-NoRoom-clause-kept
returns-in-Err-NoRoom-clause-kept c = λ some left.
    c.lay_out.ensures.unwritten
    (no_room c.lay_out.result c.in-Err-NoRoom.field-0-0 (block_size c.in-Ok.controller) (length c.args.block.now) c.lay_out.ensures.no_room c.lay_out.ensures.told (c.in-Err-NoRoom.is ∙ ap Err c.in-Err-NoRoom.field-0-is))
