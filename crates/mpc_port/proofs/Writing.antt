-- What a writing in several pieces put out.
use Rattle.std.proofs.Common.{◌≡◌, ℕ, ◌+◌, ◌-◌, List, ◌++◌, length, take, drop, sym, ap, ◌∙◌, arith, append_assoc, length-drop, take_all}
use Rattle.std.specs.Prelude.{Result, Ok, Err, OnErr}
use Rattle.std.proofs.Math.Seq.{take-add}
use Rattle.mpc_port.specs.Passing.{TookFront}

-- one write more, of what isn't sent yet
pub more_sent : (a b c bytes : List ℕ) (sent count : ℕ) → b ≡ a ++ take sent bytes
    → c ≡ b ++ take count (take (length bytes - sent) (drop sent bytes)) → c ≡ a ++ take (sent + count) bytes
more_sent a b c bytes sent count before now =
    let rest : take (length bytes - sent) (drop sent bytes) ≡ drop sent bytes =
    take_all (length bytes - sent) (drop sent bytes) (omega (arith, length-drop sent bytes)) in
    let joined = take-add sent count bytes ∙ ap (λ l. take sent bytes ++ take count l) (sym rest) in
    now ∙ ap (λ l. l ++ take count (take (length bytes - sent) (drop sent bytes))) before ∙ append_assoc a _ _ ∙ ap (λ l. a ++ l) (sym joined)

-- at a refusal of it
pub part_more : {T E : Type 0} (r : Result T E) (a b c bytes : List ℕ) (sent : ℕ) → b ≡ a ++ take sent bytes → TookFront b c (take (length bytes - sent) (drop sent bytes)) → OnErr r (TookFront a c bytes)
part_more (Ok x) a b c bytes sent before part = tt
part_more (Err e) a b c bytes sent before part = record { sent = sent + part.sent; took = more_sent a b c bytes sent part.sent before part.took }
