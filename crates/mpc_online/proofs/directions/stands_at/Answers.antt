use Rattle.std.proofs.Common.{◌∙◌, length, refl, sym}
use Rattle.std.proofs.lemmas.Bool.{eqb-true}
use Rattle.std.proofs.lemmas.Option.{slice_get_read}
use Rattle.mpc_sets.specs.SetOrder.{pointwise_true}
use Rattle.mpc_online.proofs.directions.stands_at.Goals as goal

pub returns-then-eq : goal.returns-then-eq
returns-then-eq c = λ t. record {
  there = c.in-Some.there.now;
  stands = slice_get_read c.args.directions.now (length c.args.directions.now) c.args.place c.in-Some.there.now refl c.in-Some.ensures.lookup.3.0 c.in-Some.ensures.lookup.1;
  set_is = pointwise_true c.in-Some.there.now.set c.args.set (sym c.eq.ensures ∙ c.if-eq.true);
  row_is = eqb-true c.in-Some.there.now.row c.args.row t;
}
