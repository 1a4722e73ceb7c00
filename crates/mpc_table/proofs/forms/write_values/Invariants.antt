use Rattle.std.proofs.Common.{◌≡◌, ◌++◌, take, map}
use Rattle.std.specs.List.{join_with_byte}
use Rattle.mpc_frac.specs.Text.{text_of}
use Rattle.mpc_table.specs.Forms.{affine_values}
use Rattle.mpc_table.specs.SharedForms.{forms_at}
use Rattle.mpc_table.proofs.forms.write_values.Given as goal

abbrev pub invariant-loop-i : goal.invariant-loop-i
invariant-loop-i l = l.out.items ≡ l.initial.out.items ++ join_with_byte 32 (take l.i (map text_of (affine_values (forms_at l.forms l.places) l.counts)))
