use Rattle.std.proofs.Common.{◌≡◌, sym, ◌∙◌, ap, subst, IfOk}
use Rattle.mpc_rows.specs.declared.laws.Law.{Law}
use Rattle.mpc_rows.specs.declared.verdicts.Verdict.TheVariants.{Region}
use Rattle.mpc_space.specs.Matrix.{height}
use Rattle.mpc_rows.specs.Candidates.{CanGrow}
use Rattle.mpc_rows.specs.Laws.{IsLaw}
use Rattle.mpc_rows.specs.SetRuns.{LawRowsFit}
use Rattle.mpc_rows.specs.Verdicts.{IsRight, ReachFits}
use Rattle.mpc_region.specs.Sweeps.{swept_law}
use Rattle.mpc_region.proofs.BoxRuns.{region_answer, region_fits}
use Rattle.mpc_region.proofs.RightVerdicts.{right_region, right_hollow, right_refuted}
use Rattle.mpc_region.proofs.SweptLaws.{swept_set}
use Rattle.mpc_region.proofs.verdicts.by_table.Goals as goal

pub meets_box-requires-clause-width : goal.meets_box-requires-clause-width
meets_box-requires-clause-width c = c.in_ok-fill_rows.ensures.rows.width

pub by_rows-requires-clause-law : goal.by_rows-requires-clause-law
by_rows-requires-clause-law c = subst (IsLaw c.args.qp.now) (sym c.in_ok-law_of_table-in-None.ensures) c.requires.law

pub by_rows-requires-clause-rows_fit : goal.by_rows-requires-clause-rows_fit
by_rows-requires-clause-rows_fit c = subst (λ law. LawRowsFit c.args.qp.now law (height c.args.qp.now.g)) (sym c.in_ok-law_of_table-in-None.ensures) c.fill_rows.ensures.fit

pub by_rows-requires-clause-grows : goal.by_rows-requires-clause-grows
by_rows-requires-clause-grows c =
    let e : c.in_ok-law_of_table-in-None.field-0.set ≡ c.args.set = ap (λ (law : Law). law.set) c.in_ok-law_of_table-in-None.ensures ∙ swept_set c.args.qp.now c.args.set in
    subst (CanGrow c.args.qp.now) (sym e) c.requires.grows

pub by_rows-requires-clause-reach_fits : goal.by_rows-requires-clause-reach_fits
by_rows-requires-clause-reach_fits c =
    let e : c.in_ok-law_of_table-in-None.field-0.set ≡ c.args.set = ap (λ (law : Law). law.set) c.in_ok-law_of_table-in-None.ensures ∙ swept_set c.args.qp.now c.args.set in
    subst (ReachFits c.args.qp.now) (sym e) c.requires.reach_fits

pub returns-then-refute-clause-right : goal.returns-then-refute-clause-right
returns-then-refute-clause-right c =
    right_refuted c.args.qp.now c.args.set (swept_law c.args.qp.now c.args.set) (swept_set c.args.qp.now c.args.set) c.requires.law c.requires.grows c.requires.reach_fits
    (c.refute.ensures.empty c.if-refute.true) (c.refute.ensures.rows_fit c.if-refute.true) (c.refute.ensures.region_fits c.if-refute.true)

pub returns-in_ok-law_of_table-in-Some-true-clause-right : goal.returns-in_ok-law_of_table-in-Some-true-clause-right
returns-in_ok-law_of_table-in-Some-true-clause-right c =
    subst (λ law. IsRight c.args.qp.now c.args.set (Region law)) (sym c.in_ok-law_of_table-in-Some-true.ensures)
    (right_region c.region_theorems.ensures c.law_theorems.ensures c.args.qp.now c.args.set (swept_law c.args.qp.now c.args.set) (swept_set c.args.qp.now c.args.set) c.requires.law c.requires.grows c.requires.reach_fits
    c.in_ok-fill_rows.ensures.rows.list c.in_ok-fill_rows.ensures.rows.of_law c.fill_rows.ensures.fit
    c.in_ok-meets_box.field-0 c.in-Some-true.field-0 c.in-Some-true.is
    (region_answer c.args.qp.now c.in_ok-fill_rows.ensures.rows.list c.fill_rows.new.lines.rows c.in_ok-fill_rows.ensures.rows.rows c.in_ok-meets_box.field-0 c.in_ok-meets_box.ensures.answer)
    (region_fits c.args.qp.now c.in_ok-fill_rows.ensures.rows.list c.fill_rows.new.lines.rows c.in_ok-fill_rows.ensures.rows.rows c.in_ok-meets_box.field-0 c.in_ok-meets_box.ensures.fits) c.in-Some-true.field-0-test)

pub returns-in_ok-note-in-Some-false-clause-right : goal.returns-in_ok-note-in-Some-false-clause-right
returns-in_ok-note-in-Some-false-clause-right c =
    right_hollow c.region_theorems.ensures c.law_theorems.ensures c.args.qp.now c.args.set (swept_law c.args.qp.now c.args.set) (swept_set c.args.qp.now c.args.set) c.requires.law c.requires.grows c.requires.reach_fits
    c.in_ok-fill_rows.ensures.rows.list c.in_ok-fill_rows.ensures.rows.of_law c.fill_rows.ensures.fit
    c.in_ok-meets_box.field-0 c.in-Some-false.field-0 c.in-Some-false.is
    (region_answer c.args.qp.now c.in_ok-fill_rows.ensures.rows.list c.fill_rows.new.lines.rows c.in_ok-fill_rows.ensures.rows.rows c.in_ok-meets_box.field-0 c.in_ok-meets_box.ensures.answer)
    (region_fits c.args.qp.now c.in_ok-fill_rows.ensures.rows.list c.fill_rows.new.lines.rows c.in_ok-fill_rows.ensures.rows.rows c.in_ok-meets_box.field-0 c.in_ok-meets_box.ensures.fits) c.in-Some-false.field-0-test

pub returns-in_ok-law_of_table-in-None-clause-right : goal.returns-in_ok-law_of_table-in-None-clause-right
returns-in_ok-law_of_table-in-None-clause-right c =
    let e : c.in_ok-law_of_table-in-None.field-0.set ≡ c.args.set = ap (λ (law : Law). law.set) c.in_ok-law_of_table-in-None.ensures ∙ swept_set c.args.qp.now c.args.set in
    subst (λ s. IfOk c.by_rows.result (IsRight c.args.qp.now s)) e c.by_rows.ensures
