use Rattle.std.proofs.Common.{◌≡◌, ◌+◌, ◌-◌, ◌<◌, length, get_or, sym, ◌∙◌, ap, subst, arith}
use Rattle.mpc_rows.proofs.PlaceLemmas.{place_found, place_none}
use Rattle.mpc_rows.proofs.law_rows.place_among.Goals as goal

pub returns-then-member-row : goal.returns-then-member-row
returns-then-member-row c =
    let within : c.loop-k.k < length c.args.set = subst (λ n. c.loop-k.k < n) c.size-k-end.ensures.value c.loop-k-test.true in
    let here : c.loop-k.k + 1 - 1 ≡ c.loop-k.k = omega arith in
    let found = place_found c.args.set c.args.row c.loop-k.k within (ap (λ m. get_or c.args.set m 0) (sym here) ∙ sym c.member.ensures.value ∙ c.if-member-row.true) c.loop-k.invariant in
    (found.0, found.1, within)

pub returns : goal.returns
returns c = place_none c.args.set c.args.row (λ j h. c.loop-k.invariant j (omega (arith, c.size-k-end.ensures.value)))
