use Rattle.std.proofs.Common.{◌≡◌, ◌<◌, [], List, length, take, sym, ◌∙◌, ap, subst, arith}
use Rattle.mpc_exact.specs.Rational.{ℚ}
use Rattle.mpc_rows.specs.declared.systems.Row.{Row}
use Rattle.mpc_controller.specs.declared.ways.Turn.{Turn}
use Rattle.mpc_recur.specs.Forms.{substituted, SubstitutedFits}
use Rattle.mpc_recur.proofs.FormLemmas.{wide_weaker}
use Rattle.mpc_recur.proofs.RowLemmas.{substituted_size}
use Rattle.mpc_recur.proofs.SplitRows.{changed_more, all_more, all_here}
use Rattle.mpc_recur.proofs.TargetLemmas.{rows_taken, fits_taken}
use Rattle.mpc_recur.proofs.met.Met.follow.Goals as goal

pub loop-k-init : goal.loop-k-init
loop-k-init c =
    let forms = c.args.self.now.forms.items in
    let alike = ap (λ (turns : List Turn). take c.shared-begin.result turns) (sym c.deref.ensures.value) ∙ c.shared-begin.ensures.shared in
    record {
      forms = λ _. forms;
      width = c.in_ok-truncate.ensures.width ∙ c.requires.met.width;
      rows = c.in_ok-truncate.ensures.rows ∙ rows_taken c.args.tree.now c.args.self.now.turns.items c.args.way.now c.shared-begin.result alike (substituted (length forms) forms) c.args.self.now.rows.rows c.requires.met.rows;
      fits = fits_taken c.args.tree.now c.args.self.now.turns.items c.args.way.now c.shared-begin.result alike (SubstitutedFits (length forms) forms) c.requires.met.fits;
    }

pub push-requires : goal.push-requires
push-requires c =
    let forms : c.deref-in-loop-k.result.now ≡ c.args.self.now.forms.items = c.deref-in-loop-k.ensures.value ∙ c.loop-k.invariant.forms in
    ap (λ (r : Row). length r.a) c.in-Ok.ensures.value ∙ substituted_size (length c.deref-in-loop-k.result.now) c.deref-in-loop-k.result.now c.in_ok-row.row ∙ ap length forms ∙ sym c.loop-k.invariant.width

pub loop-k-preserved : goal.loop-k-preserved
loop-k-preserved c =
    let given = c.args.self.now.forms.items in
    let n = length given in
    let forms : c.deref-in-loop-k.result.now ≡ given = c.deref-in-loop-k.ensures.value ∙ c.loop-k.invariant.forms in
    let inside : c.loop-k.k < length c.args.way.now = omega (arith, c.loop-k-test.true, c.loop-k.auto.k-end) in
    record {
      forms = c.loop-k.invariant.forms;
      width = c.in_ok-push-in-Ok.ensures.width ∙ c.loop-k.invariant.width;
      rows = changed_more c.args.tree.now c.args.way.now c.loop-k.k _ c.in_ok-row.row inside c.in_ok-row.ensures.row (substituted n given) [] c.loop-k.self.rows.rows c.push.new.self.rows c.in-Ok.met
          c.loop-k.invariant.rows c.in_ok-push-in-Ok.ensures.rows (c.in-Ok.ensures.value ∙ ap (λ (f : List (List ℚ)). substituted (length f) f c.in_ok-row.row) forms);
      fits = all_more c.args.tree.now c.args.way.now c.loop-k.k _ c.in_ok-row.row inside c.in_ok-row.ensures.row (SubstitutedFits n given) c.loop-k.invariant.fits
          (subst (λ (f : List (List ℚ)). SubstitutedFits (length f) f c.in_ok-row.row) forms c.in-Ok.ensures.wide);
    }

pub returns-in-Err-clause-wide : goal.returns-in-Err-clause-wide
returns-in-Err-clause-wide c =
    let given = c.args.self.now.forms.items in
    let forms : c.deref-in-loop-k.result.now ≡ given = c.deref-in-loop-k.ensures.value ∙ c.loop-k.invariant.forms in
    let inside : c.loop-k.k < length c.args.way.now = omega (arith, c.loop-k-test.true, c.loop-k.auto.k-end) in
    wide_weaker c.in-Err.error _ _
    (λ not_here all. not_here (subst (λ (f : List (List ℚ)). SubstitutedFits (length f) f c.in_ok-row.row) (sym forms)
    (all_here c.args.tree.now c.args.way.now c.loop-k.k _ c.in_ok-row.row inside c.in_ok-row.ensures.row (SubstitutedFits (length given) given) all))) c.in-Err.ensures.wide
