use Rattle.std.proofs.Common.{refl, sym, ◌∙◌, subst, inr}
use Rattle.std.proofs.lemmas.Bool.{false≢true}
use Rattle.mpc_grammar.specs.Reading.{Cursor, one_line, ◌>>=◌}
use Rattle.mpc_grammar.specs.PlantGrammar.{plain_rule, plant}
use Rattle.mpc_grammar.specs.FileGrammar.{IsVersion, behind_plant}
use Rattle.mpc_file.proofs.reading.read_file.Goals as goal

pub returns-then-is_at_end-clause-ok : goal.returns-then-is_at_end-clause-ok
returns-then-is_at_end-clause-ok c =
    let none = c.is_at_end.ensures.0 c.if-is_at_end.true in (
      c.in_ok-version.version,
      record {
        behind_first = c.read_version.new.lines;
        first = subst (λ (here : Cursor). (one_line (plain_rule IsVersion)).Reads here c.in_ok-version.version c.read_version.new.lines) c.of-lines.ensures c.in_ok-version.ensures;
        number = c.read_in_version.new.lines.number;
        lines = subst (λ (end : Cursor). (plant c.in_ok-version.version >>= behind_plant c.in_ok-version.version).Reads c.read_version.new.lines c.in_ok-controller.controller end) (λ i. record { rest = none i; number = c.read_in_version.new.lines.number }) c.in_ok-controller.ensures;
      },
    )

pub returns-else-is_at_end-clause-err : goal.returns-else-is_at_end-clause-err
returns-else-is_at_end-clause-err c =
    inr (
      refl,
      (
        c.in_ok-controller.controller,
        (
          c.read_in_version.new.lines,
          (
            (c.in_ok-version.version, (c.read_version.new.lines, (subst (λ (here : Cursor). (one_line (plain_rule IsVersion)).Reads here c.in_ok-version.version c.read_version.new.lines) c.of-lines.ensures c.in_ok-version.ensures, c.in_ok-controller.ensures))),
            (λ none. false≢true (sym c.if-is_at_end.false ∙ c.is_at_end.ensures.1 none)),
            c.number.ensures,
          ),
        ),
      ),
    )
