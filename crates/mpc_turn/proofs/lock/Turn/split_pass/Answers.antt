use Rattle.std.proofs.Common.{rules, Bool, cond, ◌-◌, subst, arith, ◌≡◌, ◌∙◌, sym, ap}
use Rattle.mpc_turn.specs.Known.{Known}
use Rattle.mpc_turn.proofs.Lending.{splits}
use Rattle.mpc_turn.proofs.lock.Turn.split_pass.Goals as goal

pub split_seat-seat-requires : goal.split_seat-seat-requires
split_seat-seat-requires c =
    let i = c.first.invariant in
    let m = i.most in
    let l = c.requires.room in
    let e : 33 - c.first.inside.seat.me.0.parts ≡ c.args.first.now.lent = subst (λ (b : Bool). cond b (33 - c.first.inside.seat.me.0.parts) 0 ≡ c.args.first.now.lent) (ap (λ (k : Known). k.first) c.first.view_is ∙ c.requires.first) (ap (λ (k : Known). k.lent) c.first.view_is) in
    (ap (λ (k : Known). k.turn) c.first.view_is ∙ (c.requires.turn ∙ sym c.self.view_is), search rules, splits _ _ i.idle (omega (arith, m, l, e)))
