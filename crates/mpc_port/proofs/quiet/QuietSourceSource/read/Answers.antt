use Rattle.std.proofs.Common.{◌∙◌, ◌+◌, ◌-◌, drop, take, length, ap, rules}
use Rattle.mpc_port.proofs.Passing.{drawn_next}
use Rattle.mpc_port.proofs.quiet.QuietSourceSource.read.Goals as goal

pub returns-then-not-is_empty-clause-drawn : goal.returns-then-not-is_empty-clause-drawn
returns-then-not-is_empty-clause-drawn c =
    let next = c.self.inside.next in
    let count = c.min-count.result in
    drawn_next c.self.inside.bytes.items c.args.self.now.device c.copy_from_slice.new.self (drop count c.args.buf.now) (length c.args.buf.now) next count _ _ (search rules) (search rules) (search rules)
    (c.copy_from_slice.ensures.after ∙ ap (λ bytes. take (next + count - next) (drop next bytes)) c.deref.ensures.value) (search rules)
