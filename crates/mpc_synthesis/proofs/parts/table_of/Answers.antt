use Rattle.std.proofs.Common.{◌≡◌, sym, ◌∙◌, subst, All}
use Rattle.mpc_space.specs.Definite.{IsDefinite}
use Rattle.mpc_space.specs.Matrix.{height}
use Rattle.mpc_rows.specs.declared.programs.Qp.{Qp}
use Rattle.mpc_rows.specs.Candidates.{IsTable}
use Rattle.mpc_rows.specs.SetRuns.{LawRowsFit}
use Rattle.mpc_synthesis.proofs.parts.table_of.Goals as goal

pub returns : goal.returns
returns c =
    let is : c.in_ok-program.program ≡ c.args.registry.program = c.in_ok-program.ensures ∙ c.program.ensures.value in
    record {
      program_is = is;
      definite = subst (λ (p : Qp). IsDefinite p.h.rows) (sym is) c.program.ensures.sound.definite;
      is_table = subst (λ p. IsTable p c.in_ok-laws.laws) (sym is) c.in_ok-laws.ensures.table;
      rows_fit = subst (λ p. All (λ law. LawRowsFit p law (height p.g)) c.in_ok-laws.laws) (sym is) c.in_ok-laws.ensures.rows_fit;
    }
