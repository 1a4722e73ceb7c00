use Rattle.std.proofs.Common.{length, sym, ◌∙◌, ap}
use Rattle.mpc_rows.specs.declared.systems.Row.{Row}
use Rattle.mpc_recur.proofs.RowLemmas.{substituted_size}
use Rattle.mpc_recur.proofs.asked.push_turn.Goals as goal

pub push-requires : goal.push-requires
push-requires c = ap (λ (r : Row). length r.a) c.in-Ok.ensures.value ∙ substituted_size (length c.args.forms.now) c.args.forms.now c.in_ok-row.row ∙ sym c.requires.width
