use Rattle.std.proofs.Common.{◌≡◌, ◌-◌, ◌≤◌, ◌∙◌, length, None, sym, subst, arith}
use Rattle.std.proofs.lemmas.List.{get_or_default}
use Rattle.mpc_claim.specs.declared.moves.Action.TheVariants.{Deliver}
use Rattle.mpc_claim.specs.Hands.{Workplace, hand_at}
use Rattle.mpc_claim.specs.Moves.{IsRightAction}
use Rattle.mpc_claim.proofs.Held.{held_claim, held_delivery, held_abandonment, play_refused}
use Rattle.mpc_claim.proofs.worlds.World.play.Goals as goal

pub invariant_of-self : goal.invariant_of-self
invariant_of-self c =
    let w = c.self.inside in
    let first : 1 ≤ c.args.worker = c.requires.from_one in
    let last : c.args.worker ≤ length w.hands.items = subst (λ (p : Workplace). c.args.worker ≤ length p.hands) (sym c.self.view_is) c.requires.to_last in
    let hand : c.index_mut-hand.result.now ≡ hand_at w.hands.items (c.args.worker - 1) =
    c.index_mut-hand.ensures.value ∙ get_or_default w.hands.items (c.args.worker - 1) c.index_mut-hand.result.now None (omega arith) in
    held_claim c.args.worker c.play_claim.result w.registry c.index_mut-hand.result.now c.play_claim.new.registry c.play_claim.new.hand w.hands.items first last hand c.self.invariant c.play_claim.ensures

pub play_delivery-requires-clause-open_still : goal.play_delivery-requires-clause-open_still
play_delivery-requires-clause-open_still c = λ ticket e.
    let w = c.self.inside in
    let first : 1 ≤ c.args.worker = c.requires.from_one in
    let last : c.args.worker ≤ length w.hands.items = subst (λ (p : Workplace). c.args.worker ≤ length p.hands) (sym c.self.view_is) c.requires.to_last in
    let hand : c.index_mut-hand.result.now ≡ hand_at w.hands.items (c.args.worker - 1) =
    c.index_mut-hand.ensures.value ∙ get_or_default w.hands.items (c.args.worker - 1) c.index_mut-hand.result.now None (omega arith) in
    (c.self.invariant.held (c.args.worker - 1) ticket (sym hand ∙ e)).open_still

pub play_delivery-requires-clause-right : goal.play_delivery-requires-clause-right
play_delivery-requires-clause-right c =
    subst (λ (p : Workplace). IsRightAction p.registry.program (Deliver c.in-Deliver.judged)) (sym c.self.view_is) (subst (IsRightAction c.args.self.now.registry.program) c.in-Deliver.is c.requires.right)

pub invariant_of-self-in-Deliver : goal.invariant_of-self-in-Deliver
invariant_of-self-in-Deliver c =
    let w = c.self.inside in
    let first : 1 ≤ c.args.worker = c.requires.from_one in
    let last : c.args.worker ≤ length w.hands.items = subst (λ (p : Workplace). c.args.worker ≤ length p.hands) (sym c.self.view_is) c.requires.to_last in
    let hand : c.index_mut-hand.result.now ≡ hand_at w.hands.items (c.args.worker - 1) =
    c.index_mut-hand.ensures.value ∙ get_or_default w.hands.items (c.args.worker - 1) c.index_mut-hand.result.now None (omega arith) in
    let right = subst (λ (p : Workplace). IsRightAction p.registry.program (Deliver c.in-Deliver.judged)) (sym c.self.view_is) (subst (IsRightAction c.args.self.now.registry.program) c.in-Deliver.is c.requires.right) in
    held_delivery c.in-Deliver.judged c.play_delivery.result w.registry c.index_mut-hand.result.now c.play_delivery.new.registry c.play_delivery.new.hand w.hands.items (c.args.worker - 1) (omega arith) hand right c.self.invariant c.play_delivery.ensures

pub play_abandonment-requires : goal.play_abandonment-requires
play_abandonment-requires c = λ ticket e.
    let w = c.self.inside in
    let first : 1 ≤ c.args.worker = c.requires.from_one in
    let last : c.args.worker ≤ length w.hands.items = subst (λ (p : Workplace). c.args.worker ≤ length p.hands) (sym c.self.view_is) c.requires.to_last in
    let hand : c.index_mut-hand.result.now ≡ hand_at w.hands.items (c.args.worker - 1) =
    c.index_mut-hand.ensures.value ∙ get_or_default w.hands.items (c.args.worker - 1) c.index_mut-hand.result.now None (omega arith) in
    (c.self.invariant.held (c.args.worker - 1) ticket (sym hand ∙ e)).open_still

pub invariant_of-self-in-Abandon : goal.invariant_of-self-in-Abandon
invariant_of-self-in-Abandon c =
    let w = c.self.inside in
    let first : 1 ≤ c.args.worker = c.requires.from_one in
    let last : c.args.worker ≤ length w.hands.items = subst (λ (p : Workplace). c.args.worker ≤ length p.hands) (sym c.self.view_is) c.requires.to_last in
    let hand : c.index_mut-hand.result.now ≡ hand_at w.hands.items (c.args.worker - 1) =
    c.index_mut-hand.ensures.value ∙ get_or_default w.hands.items (c.args.worker - 1) c.index_mut-hand.result.now None (omega arith) in
    held_abandonment c.play_abandonment.result w.registry c.index_mut-hand.result.now c.play_abandonment.new.registry c.play_abandonment.new.hand w.hands.items (c.args.worker - 1) (omega arith) hand c.self.invariant c.play_abandonment.ensures

pub returns-in-Claim-clause-refused : goal.returns-in-Claim-clause-refused
returns-in-Claim-clause-refused c =
    let w = c.self.inside in
    let first : 1 ≤ c.args.worker = c.requires.from_one in
    let last : c.args.worker ≤ length w.hands.items = subst (λ (p : Workplace). c.args.worker ≤ length p.hands) (sym c.self.view_is) c.requires.to_last in
    let hand : c.index_mut-hand.result.now ≡ hand_at w.hands.items (c.args.worker - 1) =
    c.index_mut-hand.ensures.value ∙ get_or_default w.hands.items (c.args.worker - 1) c.index_mut-hand.result.now None (omega arith) in
    play_refused c.args.worker (c.args.worker - 1) c.play_claim.result w.registry c.index_mut-hand.result.now c.play_claim.new.registry c.play_claim.new.hand w.hands.items c.args.self.now hand c.self.view_is c.play_claim.ensures
