use Rattle.std.proofs.Common.{◌≤◌, [], ◌∷◌, ℕ, List, ℤ, arith, subst, le_trans}
use Rattle.std.proofs.lemmas.List.Elements.{at_from_Contains}
use Rattle.mpc_rows.specs.LawRows.{whole_row, broken_row}
use Rattle.mpc_rows.specs.LinearSystem.{no_row}
use Rattle.mpc_scaled.specs.Scaled.{scale_at, IsSmall}
use Rattle.mpc_minors.specs.Sizes.{LeaveRoom}
use Rattle.mpc_minors.proofs.Appended.{wide, HasSizes}
use Rattle.mpc_minors.proofs.Broken.{broken_scales, broken_entries, broken_side, broken_whole, broken_sizes}
use Rattle.mpc_minors.proofs.Fits.{both_fit}
use Rattle.mpc_minors.proofs.always_fits.Goals as goal

smaller : (m n : ℕ) (v : List ℤ) → m ≤ n → IsSmall m v → IsSmall n v
smaller m n v h s = record { each = λ k. le_trans (s.each k) h }

up_to : (entry side scale most_entry most_side most_scale : ℕ) (k : List ℕ) (a b : List ℤ) → IsSmall entry a → IsSmall side b → ((x : ℕ) → scale_at k x ≤ scale) → entry ≤ most_entry → side ≤ most_side → scale ≤ most_scale
    → HasSizes most_entry most_side most_scale k a b
up_to entry side scale most_entry most_side most_scale k a b e s c h g i = record { entries = smaller entry most_entry a h e; sides = smaller side most_side b g s; scales = λ x. le_trans (c x) i }

pub returns-clause-all : goal.returns-clause-all
returns-clause-all c h =
    let own = c.numbers-first.result in
    let more = c.numbers-second.result in
    let entry = c.max-entry.result in
    let side = c.max-side.result in
    let scale = c.max-scale.result in
    let room : LeaveRoom c.args.own.now.width c.in-Some-checked_add.variables entry side scale = subst (λ n. LeaveRoom n c.in-Some-checked_add.variables entry side scale) c.unknowns-width.ensures (c.leave_room.ensures h) in
    both_fit c.position_theorems.ensures c.args.own.now c.args.more.now own.scales.now more.scales.now own.a.now more.a.now own.b.now more.b.now
    c.numbers-first.ensures.whole c.numbers-second.ensures.whole c.requires entry side scale (omega arith) (omega arith)
    (up_to own.most_entry own.most_side own.most_scale entry side scale own.scales.now own.a.now own.b.now c.numbers-first.ensures.entries c.numbers-first.ensures.sides c.numbers-first.ensures.scales (omega arith) (omega arith) (omega arith))
    (up_to more.most_entry more.most_side more.most_scale entry side scale more.scales.now more.a.now more.b.now c.numbers-second.ensures.entries c.numbers-second.ensures.sides c.numbers-second.ensures.scales (omega arith) (omega arith) (omega arith))
    c.in-Some-checked_add.variables (omega arith) room

pub returns-clause-broken : goal.returns-clause-broken
returns-clause-broken c h row has =
    let own = c.numbers-first.result in
    let more = c.numbers-second.result in
    let s = c.args.more.now in
    let entry = c.max-entry.result in
    let side = c.max-side.result in
    let scale = c.max-scale.result in
    let room : LeaveRoom c.args.own.now.width c.in-Some-checked_add.variables entry side scale = subst (λ n. LeaveRoom n c.in-Some-checked_add.variables entry side scale) c.unknowns-width.ensures (c.leave_room.ensures h) in
    let at = at_from_Contains s.rows (whole_row row) has in
    let below = at.1 in
    let here = at.2 no_row in
    both_fit c.position_theorems.ensures c.args.own.now (wide s.width (broken_row row ∷ []))
    own.scales.now (broken_scales s more.scales.now more.a.now more.b.now c.numbers-second.ensures.whole row at.0 below here)
    own.a.now (broken_entries s more.scales.now more.a.now more.b.now c.numbers-second.ensures.whole row at.0 below here)
    own.b.now (broken_side s more.scales.now more.a.now more.b.now c.numbers-second.ensures.whole row at.0 below here)
    c.numbers-first.ensures.whole (broken_whole s more.scales.now more.a.now more.b.now c.numbers-second.ensures.whole row at.0 below here) c.requires entry side scale (omega arith) (omega arith)
    (up_to own.most_entry own.most_side own.most_scale entry side scale own.scales.now own.a.now own.b.now c.numbers-first.ensures.entries c.numbers-first.ensures.sides c.numbers-first.ensures.scales (omega arith) (omega arith) (omega arith))
    (broken_sizes s more.scales.now more.a.now more.b.now c.numbers-second.ensures.whole row at.0 below here entry side scale (omega arith)
    (up_to more.most_entry more.most_side more.most_scale entry side scale more.scales.now more.a.now more.b.now c.numbers-second.ensures.entries c.numbers-second.ensures.sides c.numbers-second.ensures.scales (omega arith) (omega arith) (omega arith)))
    c.in-Some-checked_add.variables (omega arith) room
