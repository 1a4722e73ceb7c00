use Rattle.std.proofs.Common.{◌≡◌, ◌≤◌, length, take, drop, sym, ap, subst, subst₂, arith}
use Rattle.mpc_c.specs.Texts.{IsTextOf, CallAnswers}
use Rattle.mpc_c.proofs.TextEnds.{told}
use Rattle.mpc_c.proofs.texts.tell.Goals as goal

pub returns-then-put : goal.returns-then-put
returns-then-put c = λ command words input named h.
    let text = c.in-Some.text.items in
    let new = c.put.new.room in
    let old = c.args.room.now in
    let is : IsTextOf command input c.in-Some.code text = c.in-Some.ensures command input h in
    let front : take (length text) new ≡ text = subst (λ t. take (length t) new ≡ t) c.as_slice.ensures.value c.if-put.ensures.written.0 in
    let inside : length text ≤ length new = subst (λ t. length t ≤ length new) c.as_slice.ensures.value c.if-put.ensures.written.1 in
    let behind : drop (length text) new ≡ drop (length text) old = subst (λ t. drop (length t) new ≡ drop (length t) old) c.as_slice.ensures.value c.put.ensures.behind in
    let size_is : c.len.result ≡ length text = (let a = c.as_slice.ensures.len in let b = ap length c.as_slice.ensures.value in let d = c.len.ensures in omega arith) in
    subst₂ (λ code size. CallAnswers command input code size old new) (sym c.from.ensures) (sym size_is) (told command input c.one_status.ensures.one words named c.in-Some.code text old new is front inside behind)
