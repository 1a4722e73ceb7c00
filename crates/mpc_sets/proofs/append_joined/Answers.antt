use Rattle.std.proofs.Common.{◌≡◌, ◌+◌, ◌++◌, ◌∷◌, [], sym, ap, subst, arith, inl, inr, ◌∙◌, rules}
use Rattle.std.proofs.lemmas.Bool.{both_ways}
use Rattle.mpc_sets.specs.NextLevel.{HoldsNext}
use Rattle.mpc_sets.proofs.Joining.{IsReached}
use Rattle.mpc_sets.proofs.JoinStep.{HasSetAt, HasPartnerAt, last_of, step_started, step_ended, step_left, step_pushed, step_skipped, unlike_from_test, alike_from_test}
use Rattle.mpc_sets.proofs.append_joined.Goals as goal
use Rattle.mpc_sets.proofs.append_joined.Goals.{then-row-rows-via-then-row-rows, then-row-rows-via-else-row-rows+then-ne, then-is_supported+in_ok-map_err, else-is_supported}

pub loop-partner-init : goal.loop-partner-init
loop-partner-init c =
    let start : c.args.place + 1 ≡ c.args.place + 1 + 0 = omega arith in
    subst (λ k. HoldsNext (IsReached c.args.grown.now c.args.place c.without-beginning.result (last_of c.index-grown-place.result c.without-beginning.result) k) c.args.grown.now c.args.rows c.args.level.now.items) start
    (step_started c.args.grown.now c.args.rows c.args.place c.index-grown-place.result c.without-beginning.result c.last.result
    (record { order = c.requires.in_order; one_size = c.requires.one_size; in_range = c.requires.in_range; at = c.index-grown-place.is; last_is = c.last.ensures.value; others = c.without-beginning.ensures.value; rows = c.last.ensures.is_set })
    c.args.level.now.items c.requires.so_far)

pub returns-then-row-rows : goal.returns-then-row-rows
returns-then-row-rows c =
    let set : HasSetAt c.args.grown.now c.args.place c.index-grown-place.result c.without-beginning.result c.last.result = record { order = c.requires.in_order; one_size = c.requires.one_size; in_range = c.requires.in_range; at = c.index-grown-place.is; last_is = c.last.ensures.value; others = c.without-beginning.ensures.value; rows = c.last.ensures.is_set } in
    let partner : HasPartnerAt c.args.grown.now c.args.place c.loop-partner.partner-index c.partner-item.result c.last-row.result = record { within = c.loop-partner-test.true; at = c.partner-item.is; last_is = c.last-row.ensures.value } in
    step_left c.args.grown.now c.args.rows c.args.place c.index-grown-place.result c.without-beginning.result c.last.result set c.loop-partner.partner-index c.partner-item.result c.last-row.result partner c.loop-partner.level.items
    (elim c.then-row-rows.branch [
      | then-row-rows-via-then-row-rows w ↦ inl w.if-row-rows.true
      | then-row-rows-via-else-row-rows+then-ne w ↦ inr (unlike_from_test w.without.result c.without-beginning.result w.ne.result _ w.without.ensures.value w.ne.ensures w.if-ne.true)
    ]) c.loop-partner.invariant

pub loop-partner-preserved : goal.loop-partner-preserved
loop-partner-preserved c =
    let set : HasSetAt c.args.grown.now c.args.place c.index-grown-place.result c.without-beginning.result c.last.result = record { order = c.requires.in_order; one_size = c.requires.one_size; in_range = c.requires.in_range; at = c.index-grown-place.is; last_is = c.last.ensures.value; others = c.without-beginning.ensures.value; rows = c.last.ensures.is_set } in
    let partner : HasPartnerAt c.args.grown.now c.args.place c.loop-partner.partner-index c.partner-item.result c.last-row.result = record { within = c.loop-partner-test.true; at = c.partner-item.is; last_is = c.last-row.ensures.value } in
    let alike = alike_from_test c.without.result c.without-beginning.result c.ne.result _ c.without.ensures.value c.ne.ensures c.if-ne.false in
    let next : c.args.place + 1 + (c.loop-partner.partner-index + 1) ≡ c.args.place + 1 + c.loop-partner.partner-index + 1 = omega arith in
    elim c.if-is_supported.branch [
      | then-is_supported+in_ok-map_err w ↦
          let pushed : w.push.new.self.items ≡ c.loop-partner.level.items ++ c.with-joined.result ∷ [] = search rules in
          subst (HoldsNext (IsReached c.args.grown.now c.args.place c.without-beginning.result (last_of c.index-grown-place.result c.without-beginning.result) (c.args.place + 1 + (c.loop-partner.partner-index + 1))) c.args.grown.now c.args.rows)
          (sym (ap (λ v. v.items) w.level-is ∙ pushed))
          (step_pushed c.args.grown.now c.args.rows c.args.place c.index-grown-place.result c.without-beginning.result c.last.result set c.loop-partner.partner-index c.partner-item.result c.last-row.result partner alike
          c.loop-partner.level.items c.with-joined.result _ c.if-row-rows.false c.with-joined.ensures.value next (c.is_supported.ensures.0 w.if-is_supported.true) c.loop-partner.invariant)
      | else-is_supported w ↦
          subst (HoldsNext (IsReached c.args.grown.now c.args.place c.without-beginning.result (last_of c.index-grown-place.result c.without-beginning.result) (c.args.place + 1 + (c.loop-partner.partner-index + 1))) c.args.grown.now c.args.rows)
          (sym (ap (λ v. v.items) w.level-is))
          (step_skipped c.args.grown.now c.args.rows c.args.place c.index-grown-place.result c.without-beginning.result c.last.result set c.loop-partner.partner-index c.partner-item.result c.last-row.result partner alike
          c.loop-partner.level.items c.with-joined.result _ c.with-joined.ensures.value next (λ all. both_ways c.is_supported.result w.if-is_supported.false (c.is_supported.ensures.1 all)) c.loop-partner.invariant)
    ]

pub returns : goal.returns
returns c =
    let set : HasSetAt c.args.grown.now c.args.place c.index-grown-place.result c.without-beginning.result c.last.result = record { order = c.requires.in_order; one_size = c.requires.one_size; in_range = c.requires.in_range; at = c.index-grown-place.is; last_is = c.last.ensures.value; others = c.without-beginning.ensures.value; rows = c.last.ensures.is_set } in
    step_ended c.args.grown.now c.args.rows c.args.place c.index-grown-place.result c.without-beginning.result c.last.result set c.loop-partner.partner-index c.loop-partner.level.items (omega (arith, c.loop-partner-test.false)) c.loop-partner.invariant
