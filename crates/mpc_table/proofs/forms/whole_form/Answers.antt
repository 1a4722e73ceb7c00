use Rattle.std.proofs.Common.{subst}
use Rattle.mpc_table.specs.Forms.{IsFormOf}
use Rattle.mpc_table.proofs.AffineLemmas.{form_values}
use Rattle.mpc_table.proofs.forms.whole_form.Goals as goal

pub returns-in-Ok-clause-value : goal.returns-in-Ok-clause-value
returns-in-Ok-clause-value c =
    subst (λ row. IsFormOf row c.in-Ok.form) c.in_ok-coefficients.ensures
    (form_values c.in_ok-coefficients.coefficients c.in-Ok.form c.in-Ok.ensures.form.positive c.in-Ok.ensures.form.same)
