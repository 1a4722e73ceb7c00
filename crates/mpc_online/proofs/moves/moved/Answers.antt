use Rattle.std.proofs.Common.{◌≡◌, List, length, ◌∙◌, ap, refl, subst}
use Rattle.std.proofs.lemmas.List.{with_items_is}
use Rattle.mpc_exact.specs.Rational.{ℚ}
use Rattle.mpc_space.specs.Vector.{vec_add, vec_scale}
use Rattle.mpc_online.specs.Positions.{along}
use Rattle.mpc_online.specs.Widths.{GrowsFit}
use Rattle.mpc_online.specs.Answers.{position_of}
use Rattle.mpc_online.proofs.Moved.{same_position, grows_as, grown_as, move_fits}
use Rattle.mpc_online.proofs.moves.moved.Goals as goal

pub returns : goal.returns
returns c =
    let r : length c.grow.new.entries ≡ length c.deref_mut.result.now = c.grow.auto.entries in
    let y = with_items_is c.args.it.multipliers c.grow.new.entries (r ∙ c.deref_mut.ensures.len) in
    record {
      value = same_position _ (along (position_of c.args.it) c.args.direction.now.point.items c.args.direction.now.multipliers.items c.args.scale.now)
          c.in_ok-point.ensures.value refl
          (y ∙ grown_as c.deref_mut.result.now c.args.it.multipliers.items c.grow.new.entries c.args.scale.now c.deref.result.now c.deref_mut.ensures.value c.in_ok-grow.ensures.ok ∙ ap (λ (d : List ℚ). vec_add c.args.it.multipliers.items (vec_scale c.args.scale.now d)) c.deref.ensures.value) refl c.in_ok-weight.ensures.value;
      wide = move_fits (position_of c.args.it) c.args.direction.now.point.items c.args.direction.now.multipliers.items c.args.scale.now
          c.in_ok-point.ensures.wide
          (subst (λ (d : List ℚ). GrowsFit c.args.it.multipliers.items c.args.scale.now d) c.deref.ensures.value (grows_as c.deref_mut.result.now c.args.it.multipliers.items c.args.scale.now c.deref.result.now c.deref_mut.ensures.value c.in_ok-grow.ensures.wide)) c.in_ok-weight.ensures.wide;
    }
