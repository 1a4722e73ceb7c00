use Rattle.std.proofs.Common.{◌≡◌, ℕ, ◌+◌, ◌*◌, ℤ, pos, unsigned_abs, get_or, FitsSigned, refl, sym, ◌∙◌, ap, add-one, arith, rules}
use Rattle.std.specs.Int.{w64}
use Rattle.std.proofs.lemmas.Int.{to_z-of_z}
use Rattle.mpc_scaled.specs.Scaled.{whole_cell}
use Rattle.mpc_beginnings.specs.RunLists.{weight_of}
use Rattle.mpc_beginnings.specs.Kept.{row_weight}
use Rattle.mpc_beginnings.proofs.kept.row_weight.Goals as goal

one_more : (weight : ℕ → ℕ) (coefficient : ℕ → ℤ) (n : ℕ) → row_weight weight coefficient (n + 1) ≡ row_weight weight coefficient n + unsigned_abs (coefficient n) * weight n
unfolding row_weight
one_more weight coefficient n = rw add-one refl

pub loop-unknown-preserved : goal.loop-unknown-preserved
loop-unknown-preserved c =
    let n = c.loop-unknown.unknown in
    let s = c.args.system.now in
    let a = c.args.numbers.now.a.now in
    let place : ℕ = c.args.row * c.unknowns-width.result + n in
    let f : FitsSigned w64 (get_or a place (pos 0)) = search rules in
    let size : c.unsigned_abs-size.result ≡ unsigned_abs (whole_cell s.width a c.args.row n) =
    c.unsigned_abs-size.ensures.value ∙ ap unsigned_abs (to_z-of_z w64 _ f) ∙ ap (λ w. unsigned_abs (whole_cell w a c.args.row n)) c.unknowns-width.ensures
    in
    let term : c.in_ok-term.term ≡ unsigned_abs (whole_cell s.width a c.args.row n) * weight_of c.args.lists.now c.args.product n = c.in_ok-term.ensures.1 ∙ (λ i. size i * c.weight_at.ensures i) in
    c.in_ok-sum.ensures.1 ∙ (λ i. c.loop-unknown.invariant i + term i) ∙ sym (one_more (weight_of c.args.lists.now c.args.product) (whole_cell s.width a c.args.row) n)

pub loop-unknown-init : goal.loop-unknown-init
unfolding row_weight
loop-unknown-init c = refl

pub returns : goal.returns
returns c =
    let e : c.loop-unknown.unknown ≡ c.args.system.now.width = (let t = c.loop-unknown-test.false in let b = c.loop-unknown.auto.unknown-end in let w = c.unknowns-width.ensures in omega arith) in
    c.loop-unknown.invariant ∙ ap (row_weight (weight_of c.args.lists.now c.args.product) (whole_cell c.args.system.now.width c.args.numbers.now.a.now c.args.row)) e
