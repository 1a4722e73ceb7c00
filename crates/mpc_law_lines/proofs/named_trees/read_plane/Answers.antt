use Rattle.std.proofs.Common.{◌∙◌, codes, length, inr, sym, subst}
use Rattle.std.proofs.lemmas.Bool.{false≢true}
use Rattle.mpc_law_lines.specs.declared.tree_lines.PlaneLine.TheVariants.{Plane, NoPlane, Wide, NoRow}
use Rattle.mpc_law_lines.specs.TreeReading.{ReadsPlane}
use Rattle.mpc_law_lines.proofs.TreeReading.{plane_reads}
use Rattle.mpc_law_lines.proofs.PlaneLists.{not_new, no_other, is_new, one_plane_more}
use Rattle.mpc_law_lines.proofs.named_trees.read_plane.Goals as goal

pub returns-then-not-is_new-clause-read : goal.returns-then-not-is_new-clause-read
returns-then-not-is_new-clause-read c = λ plant rows e are. (
  c.number-number.ensures,
  inr (
    c.in_ok-line.line.now,
    (
      c.take.new.self,
      (
        c.in_ok-line.ensures.taken,
        (
          not_new c.one_integers.ensures c.args.before.now rows are plant.n c.in_ok-line.line.now (λ no. false≢true (sym c.if-not-is_new.true ∙ c.in_ok-is_new.ensures.new.1 no)),
          no_other c.one_integers.ensures c.args.before.now rows are plant.n c.in_ok-line.line.now (λ no. false≢true (sym c.if-not-is_new.true ∙ c.in_ok-is_new.ensures.new.1 no)),
        ),
      ),
    ),
  ),
)

pub returns-in-Plane-clause-read : goal.returns-in-Plane-clause-read
returns-in-Plane-clause-read c = λ plant rows e are.
    let p = plane_reads (codes "plane") plant c.args.counts.now e c.in_ok-line.line.now c.in_ok-row.field-0 (Plane c.in-Plane.row) c.in-Plane.is c.in_ok-row.ensures in (
      c.in_ok-line.line.now,
      (
        c.in_ok-line.ensures.taken,
        (
          is_new c.one_integers.ensures c.args.before.now rows are plant.n c.in_ok-line.line.now (c.in_ok-is_new.ensures.new.0 c.if-not-is_new.false) c.in-Plane.row p.0,
          λ no. no p.1,
        ),
      ),
    )

pub returns-in-Plane-clause-before : goal.returns-in-Plane-clause-before
returns-in-Plane-clause-before c = λ rows are.
    let p : ReadsPlane (codes "plane") (length c.args.counts.now) c.args.counts.now c.in_ok-line.line.now (Plane c.in-Plane.row) =
    subst (ReadsPlane (codes "plane") (length c.args.counts.now) c.args.counts.now c.in_ok-line.line.now) c.in-Plane.is c.in_ok-row.ensures in
    one_plane_more c.one_integers.ensures c.args.before.now rows are (length c.args.counts.now) c.in_ok-line.line.now c.insert.new.self c.in_ok-is_new.ensures.lines c.in-Plane.row p.0

pub returns-in-Wide-clause-read : goal.returns-in-Wide-clause-read
returns-in-Wide-clause-read c = λ plant rows e are.
    let p = plane_reads (codes "plane") plant c.args.counts.now e c.in_ok-line.line.now c.in_ok-row.field-0 Wide c.in-Wide.is c.in_ok-row.ensures in (
      c.number-number.ensures,
      inr (
        c.in_ok-line.line.now,
        (
          c.take.new.self,
          (
            c.in_ok-line.ensures.taken,
            (
              p.0,
              (
                is_new c.one_integers.ensures c.args.before.now rows are plant.n c.in_ok-line.line.now (c.in_ok-is_new.ensures.new.0 c.if-not-is_new.false) p.0 p.1.0,
                p.1.1,
              ),
            ),
          ),
        ),
      ),
    )

pub returns-in-NoPlane-clause-read : goal.returns-in-NoPlane-clause-read
returns-in-NoPlane-clause-read c = λ plant rows e are.
    let p = plane_reads (codes "plane") plant c.args.counts.now e c.in_ok-line.line.now c.in_ok-row.field-0 NoPlane c.in-NoPlane.is c.in_ok-row.ensures in
    (c.number-number.ensures, inr (c.in_ok-line.line.now, (c.take.new.self, (c.in_ok-line.ensures.taken, p))))

pub returns-in-NoRow-clause-read : goal.returns-in-NoRow-clause-read
returns-in-NoRow-clause-read c = λ plant rows e are.
    let p = plane_reads (codes "plane") plant c.args.counts.now e c.in_ok-line.line.now c.in_ok-row.field-0 NoRow c.in-NoRow.is c.in_ok-row.ensures in
    (c.number-number.ensures, inr (c.in_ok-line.line.now, (c.take.new.self, (c.in_ok-line.ensures.taken, ((λ row is. p row is.stated.row_is), (λ no. p no.0 no.1.0))))))
