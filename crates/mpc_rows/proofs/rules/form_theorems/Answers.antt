use Rattle.std.proofs.Common.{length, sym, ◌∙◌, ap}
use Rattle.mpc_rows.specs.LawRows.{member_form, law_form}
use Rattle.mpc_rows.proofs.JointLemmas.{length-later}
use Rattle.mpc_rows.proofs.LawLemmas.{coordinate-later}
use Rattle.mpc_rows.proofs.LawRowLemmas.{form_outside, form_member, form_size}
use Rattle.mpc_rows.proofs.PlaceLemmas.{member_place}
use Rattle.mpc_rows.proofs.rules.form_theorems.Goals as goal

pub returns : goal.returns
returns c = record {
  outside = form_outside;
  member = λ qp law i k place. form_member qp law i place.0 ∙ ap (member_form law) (sym place.1);
  side = λ qp law i j. coordinate-later (law_form qp law i) j;
  sides_size = λ qp law i shape. length-later (law_form qp law i) (length qp.counts) (form_size qp law i shape (λ e. (member_place law.set i e).0));
}
