use Rattle.std.proofs.Common.{◌≡◌, ℕ, ◌<◌, length, get_or}
use Rattle.mpc_wholes.specs.declared.numbers.Wholes.{Wholes}
use Rattle.mpc_wholes.specs.declared.spans.Span.{Span}
use Rattle.mpc_wholes.specs.Spans.{IsSpanOf}
use Rattle.mpc_wholes.proofs.spans.spans_of.Given as goal

abbrev pub invariant-loop-index : goal.invariant-loop-index
invariant-loop-index l = record {
  size : length l.spans.items ≡ l.index;
  at : (i : ℕ) (w : Wholes) (s : Span) → i < l.index → IsSpanOf (get_or l.rows i w).numerators l.count (get_or l.spans.items i s);
}
