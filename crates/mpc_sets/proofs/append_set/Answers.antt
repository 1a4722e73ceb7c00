use Rattle.std.proofs.Common.{◌≡◌, ◌+◌, ◌-◌, ◌*◌, ◌<◌, ◌≤◌, ◌++◌, ◌∷◌, [], sym, ap, ◌∙◌, subst, arith, rules}
use Rattle.mpc_sets.proofs.SetTexts.{HoldsMembers, members_none, members_first, members_later, members_all}
use Rattle.mpc_sets.proofs.append_set.Goals as goal
use Rattle.mpc_sets.proofs.append_set.Goals.{then-position-gt1, else-position-gt1}

pub loop-position-init : goal.loop-position-init
loop-position-init c =
    let opened : c.push.new.self.items ≡ c.args.out.now.items ++ 123 ∷ [] = search rules in
    record { text = members_none c.args.set c.args.out.now.items c.push.new.self.items opened; room = search rules }

pub loop-position-preserved : goal.loop-position-preserved
loop-position-preserved c =
    let k = c.loop-position.position - 1 in
    let row = c.member.ensures.value in
    record {
      text = elim c.if-position-gt1.branch [
        | then-position-gt1 w ↦
            let comma : w.push-then-position-gt1.new.self.items ≡ c.loop-position.out.items ++ 44 ∷ [] = search rules in
            members_later c.args.set c.args.out.now.items c.loop-position.out.items c.if-position-gt1.out.items c.append_row.new.out.items (c.loop-position.position - 1) (c.loop-position.position + 1 - 1) c.member.result c.loop-position.invariant.text
            (ap (λ v. v.items) w.out-is ∙ comma) c.append_row.ensures.text c.member.ensures.value (omega arith) (omega arith) (omega arith)
        | else-position-gt1 w ↦
            let start : c.loop-position.position - 1 ≡ 0 = omega arith in
            members_first c.args.set c.args.out.now.items c.if-position-gt1.out.items c.append_row.new.out.items (c.loop-position.position + 1 - 1) c.member.result
            (subst (λ u. HoldsMembers c.args.set 0 c.args.out.now.items u) (sym (ap (λ v. v.items) w.out-is)) (subst (λ i. HoldsMembers c.args.set i c.args.out.now.items c.loop-position.out.items) start c.loop-position.invariant.text))
            c.append_row.ensures.text (c.member.ensures.value ∙ ap (λ i. Rattle.std.proofs.Common.get_or c.args.set i 0) start) (omega arith) (omega arith)
      ];
      room = search rules;
    }

pub returns : goal.returns
returns c =
    let closed : c.push-2.new.self.items ≡ c.loop-position.out.items ++ 125 ∷ [] = search rules in
    members_all c.args.set c.args.out.now.items c.loop-position.out.items c.push-2.new.self.items (c.loop-position.position - 1) c.loop-position.invariant.text (omega arith) closed
