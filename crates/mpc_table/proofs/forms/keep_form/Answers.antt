use Rattle.std.proofs.Common.{◌≡◌, ◌<◌, ◌≤◌, ◌∷◌, ◌++◌, [], length, map, subst, ap, ◌∙◌, arith}
use Rattle.mpc_table.specs.Places.{IsPlaced}
use Rattle.mpc_table.specs.SharedForms.{form_line}
use Rattle.mpc_table.proofs.PlaceLemmas.{kept_old, kept_new}
use Rattle.mpc_table.proofs.SharedFormLemmas.{exact_form}
use Rattle.mpc_table.proofs.forms.keep_form.Goals as goal

pub returns-then-place-len-clause-place : goal.returns-then-place-len-clause-place
returns-then-place-len-clause-place c =
    let line : c.in_ok-line.line.items ≡ form_line c.args.form = c.in_ok-line.ensures ∙ ap (λ a. c.args.form.den ∷ a) c.as_slice.ensures in
    let within : c.in_ok-place.place < length c.args.forms.now.items = omega arith in
    kept_old form_line exact_form c.args.forms.now.items c.args.form c.in_ok-place.place c.place.new.self
    (subst (λ l. IsPlaced (map form_line c.args.forms.now.items) l c.in_ok-place.place c.place.new.self) line (c.in_ok-place.ensures.placed (map form_line c.args.forms.now.items) c.requires)) within

pub returns-clause-place : goal.returns-clause-place
returns-clause-place c =
    let line : c.in_ok-line.line.items ≡ form_line c.args.form = c.in_ok-line.ensures ∙ ap (λ a. c.args.form.den ∷ a) c.as_slice.ensures in
    let beyond : length c.args.forms.now.items ≤ c.in_ok-place.place = omega arith in
    let pushed : c.push.new.self.items ≡ c.args.forms.now.items ++ c.args.form ∷ [] = c.in_ok-push.ensures.items in
    kept_new form_line exact_form c.args.forms.now.items c.args.form c.in_ok-place.place c.place.new.self c.push.new.self.items
    (subst (λ l. IsPlaced (map form_line c.args.forms.now.items) l c.in_ok-place.place c.place.new.self) line (c.in_ok-place.ensures.placed (map form_line c.args.forms.now.items) c.requires)) beyond pushed
