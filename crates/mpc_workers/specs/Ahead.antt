-- Verdicts that were found before the claims of their sets.
use Rattle.std.specs.Prelude.{List, All}
use Rattle.mpc_rows.specs.declared.programs.Qp.{Qp}
use Rattle.mpc_rows.specs.Verdicts.{IsRight}
use Rattle.mpc_workers.specs.declared.ahead.Known.{Known}

-- each is right for its set
abbrev pub AreKnown : Qp → List Known → Type 0
AreKnown qp known = All (λ (k : Known). IsRight qp k.judged.set k.judged.verdict) known
