use Rattle.std.proofs.Common.{◌∙◌, arith}
use Rattle.std.specs.Int.{w64}
use Rattle.std.proofs.lemmas.Int.{to_z_pos}
use Rattle.mpc_scaled.proofs.Small.{back64}
use Rattle.mpc_scaled.proofs.numbers.signed.Goals as goal

pub returns : goal.returns
returns c = record { value = back64 _ c.cast_signed.type_inv ∙ c.cast_signed.ensures ∙ to_z_pos w64 c.args.number (let h = c.requires in omega arith) }
