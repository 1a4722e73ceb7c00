use Rattle.std.proofs.Common.{sym, ◌∙◌}
use Rattle.std.proofs.lemmas.Bool.{false≢true}
use Rattle.mpc_tree.proofs.WholeRows.{not_member}
use Rattle.mpc_tree.proofs.rows.member_place.Goals as goal

pub returns-then-not-has : goal.returns-then-not-has
returns-then-not-has c = not_member c.args.set c.args.row (λ k. false≢true (sym c.if-not-has.true ∙ c.has.ensures.member.1 k))
