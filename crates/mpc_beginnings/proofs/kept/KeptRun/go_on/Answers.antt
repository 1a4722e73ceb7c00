use Rattle.std.proofs.Common.{◌≡◌, ℕ, ◌<◌, ◌≤◌, List, length, sym, ◌∙◌, ap, subst, subst₂, arith}
use Rattle.mpc_rows.specs.declared.systems.Row.{Row}
use Rattle.mpc_rows.specs.LinearSystem.{LinearSystem, height}
use Rattle.mpc_scaled.specs.Scaled.{scale_at}
use Rattle.mpc_beginnings.specs.Beginnings.{lengthened}
use Rattle.mpc_whole.specs.Lists.{AreListsOf}
use Rattle.mpc_beginnings.specs.RunLists.{lists_of, weight_of}
use Rattle.mpc_beginnings.specs.Kept.{AreNumbers, AreKept, IsFirstLater, IsUnderwayWithin, IsUnderwayWithRoom}
use Rattle.mpc_beginnings.proofs.Continued.{higher, more_scales, lists_longer, within_longer, room_as, room_longer}
use Rattle.mpc_beginnings.proofs.kept.KeptRun.go_on.Goals as goal

pub set_lists-requires : goal.set_lists-requires
set_lists-requires c =
    let r = c.self.inside in
    let more : List Row = c.requires.longer.0 in
    let e : c.args.longer.now ≡ lengthened r.system more = c.requires.longer.1 ∙ ap (λ (t : LinearSystem). lengthened t more) (sym c.self.view_is) in
    higher r.system more c.args.longer.now e c.height-height.result c.height.result c.height-height.ensures c.height.ensures

pub set_wide_lists-requires : goal.set_wide_lists-requires
set_wide_lists-requires c =
    let r = c.self.inside in
    let more : List Row = c.requires.longer.0 in
    let e : c.args.longer.now ≡ lengthened r.system more = c.requires.longer.1 ∙ ap (λ (t : LinearSystem). lengthened t more) (sym c.self.view_is) in
    higher r.system more c.args.longer.now e c.height-height.result c.height-2.result c.height-height.ensures c.height-2.ensures

pub begins_with-requires : goal.begins_with-requires
begins_with-requires c =
    let more : List Row = c.requires.longer.0 in
    rw c.deref.ensures.value (more_scales c.args.self.now more c.args.longer.now c.requires.longer.1 c.last-last.result.now.scales.items c.args.numbers.now.scales.now c.last-last.ensures.kept.scales c.requires.numbers.whole.scales.size)

pub run_on-requires-clause-lists : goal.run_on-requires-clause-lists
run_on-requires-clause-lists c =
    let r = c.self.inside in
    let d = c.last-last.result.now in
    let kept : AreKept r.system d.scales.items d.lists d.place d.end = subst (λ (t : LinearSystem). AreKept t d.scales.items d.lists d.place d.end) (sym c.self.view_is) c.last-last.ensures in
    let more : List Row = c.requires.longer.0 in
    let e : c.args.longer.now ≡ lengthened r.system more = c.requires.longer.1 ∙ ap (λ (t : LinearSystem). lengthened t more) (sym c.self.view_is) in
    subst (λ (t : LinearSystem). AreListsOf t d.place.own (lists_of c.set_lists.new.lists)) (sym e)
    (lists_longer r.system more d.scales.items (lists_of d.lists) (weight_of d.lists d.place.product) d.place d.end kept.kept c.height-height.result c.height.result c.height-height.ensures (c.height.ensures ∙ ap height e) (lists_of c.set_lists.new.lists) c.in_ok-set_lists.ensures.longer)

pub run_on-requires-clause-start : goal.run_on-requires-clause-start
run_on-requires-clause-start c =
    let r = c.self.inside in
    let d = c.last-last.result.now in
    let kept : AreKept r.system d.scales.items d.lists d.place d.end = subst (λ (t : LinearSystem). AreKept t d.scales.items d.lists d.place d.end) (sym c.self.view_is) c.last-last.ensures in
    let more : List Row = c.requires.longer.0 in
    let e : c.args.longer.now ≡ lengthened r.system more = c.requires.longer.1 ∙ ap (λ (t : LinearSystem). lengthened t more) (sym c.self.view_is) in
    let k = c.args.numbers.now in
    let same : (x : ℕ) → x < length d.scales.items → scale_at k.scales.now x ≡ scale_at d.scales.items x =
    subst (λ (t : List ℕ). (x : ℕ) → x < length t → scale_at k.scales.now x ≡ scale_at t x) c.deref.ensures.value (c.begins_with.ensures c.if-not-begins_with.false)
    in
    let first : IsFirstLater r.system c.first_later.result = subst (λ (t : LinearSystem). IsFirstLater t c.first_later.result) (sym c.self.view_is) c.first_later.ensures in
    subst (λ (t : LinearSystem). IsUnderwayWithin t k (lists_of c.set_lists.new.lists) (record d.place { first = c.first_later.result })) (sym e)
    (within_longer r.system more d.scales.items (lists_of d.lists) (weight_of d.lists d.place.product) d.place d.end kept.kept c.height-height.result c.height.result c.height-height.ensures (c.height.ensures ∙ ap height e) (lists_of c.set_lists.new.lists) c.in_ok-set_lists.ensures.longer
    c.position_theorems.ensures c.first_later.result first k (subst (λ (t : LinearSystem). AreNumbers t k) e c.requires.numbers) same)

pub judge_on-requires-clause-lists : goal.judge_on-requires-clause-lists
judge_on-requires-clause-lists c =
    let r = c.self.inside in
    let d = c.last-last.result.now in
    let kept : AreKept r.system d.scales.items d.lists d.place d.end = subst (λ (t : LinearSystem). AreKept t d.scales.items d.lists d.place d.end) (sym c.self.view_is) c.last-last.ensures in
    let more : List Row = c.requires.longer.0 in
    let e : c.args.longer.now ≡ lengthened r.system more = c.requires.longer.1 ∙ ap (λ (t : LinearSystem). lengthened t more) (sym c.self.view_is) in
    subst (λ (t : LinearSystem). AreListsOf t d.place.own (lists_of c.set_wide_lists.new.lists)) (sym e)
    (lists_longer r.system more d.scales.items (lists_of d.lists) (weight_of d.lists d.place.product) d.place d.end kept.kept c.height-height.result c.height-2.result c.height-height.ensures (c.height-2.ensures ∙ ap height e) (lists_of c.set_wide_lists.new.lists) c.in_ok-set_wide_lists.ensures.longer)

pub judge_on-requires-clause-start : goal.judge_on-requires-clause-start
judge_on-requires-clause-start c =
    let r = c.self.inside in
    let d = c.last-last.result.now in
    let kept : AreKept r.system d.scales.items d.lists d.place d.end = subst (λ (t : LinearSystem). AreKept t d.scales.items d.lists d.place d.end) (sym c.self.view_is) c.last-last.ensures in
    let more : List Row = c.requires.longer.0 in
    let e : c.args.longer.now ≡ lengthened r.system more = c.requires.longer.1 ∙ ap (λ (t : LinearSystem). lengthened t more) (sym c.self.view_is) in
    let k = c.args.numbers.now in
    let same : (x : ℕ) → x < length d.scales.items → scale_at k.scales.now x ≡ scale_at d.scales.items x =
    subst (λ (t : List ℕ). (x : ℕ) → x < length t → scale_at k.scales.now x ≡ scale_at t x) c.deref.ensures.value (c.begins_with.ensures c.if-not-begins_with.false)
    in
    let first : IsFirstLater r.system c.first_later.result = subst (λ (t : LinearSystem). IsFirstLater t c.first_later.result) (sym c.self.view_is) c.first_later.ensures in
    let now = c.set_wide_lists.new.lists in
    let p = record d.place { first = c.first_later.result } in
    let no_less : (j : ℕ) → j < r.system.width → weight_of d.lists p.product j ≤ weight_of now p.product j = λ j h.
    let w : weight_of now p.product j ≡ weight_of d.lists p.product j = c.in_ok-set_wide_lists.ensures.weights j (subst (λ n. j < n) (sym kept.kept.lists.first_size) h) in
    omega arith
    in
    subst₂ (λ (t : LinearSystem) (i : ℕ). IsUnderwayWithRoom t k (lists_of now) (weight_of now p.product) p i) (sym e) (sym c.height-height.ensures)
    (room_as (lengthened r.system more) k (lists_of now) (weight_of d.lists p.product) (weight_of now p.product) p (height r.system) no_less
    (room_longer r.system more d.scales.items (lists_of d.lists) (weight_of d.lists d.place.product) d.place d.end kept.kept c.height-height.result c.height-2.result c.height-height.ensures (c.height-2.ensures ∙ ap height e) (lists_of now) c.in_ok-set_wide_lists.ensures.longer
    c.position_theorems.ensures c.first_later.result first k (subst (λ (t : LinearSystem). AreNumbers t k) e c.requires.numbers) same))

pub run_on-requires-clause-short : goal.run_on-requires-clause-short
run_on-requires-clause-short c = c.in_ok-set_lists.ensures.small c.last-last.ensures.short

pub run_on-requires-clause-numbers : goal.run_on-requires-clause-numbers
run_on-requires-clause-numbers c = c.requires.numbers

pub judge_on-requires-clause-numbers : goal.judge_on-requires-clause-numbers
judge_on-requires-clause-numbers c = c.requires.numbers

pub returns : goal.returns
returns c = c.judge_on.ensures
