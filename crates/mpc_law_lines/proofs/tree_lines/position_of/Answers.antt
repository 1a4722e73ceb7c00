use Rattle.std.proofs.Common.{◌∙◌, ap, sym, pos, of_z}
use Rattle.std.specs.Int.{w128}
use Rattle.mpc_grammar.specs.Fractions.{whole_denom}
use Rattle.mpc_law_lines.proofs.CertReading.{position_is, too_low, too_high}
use Rattle.mpc_law_lines.proofs.tree_lines.position_of.Goals.{then-position-from-via-then-position-from, then-position-from-via-else-position-from+then-from-position}
use Rattle.mpc_law_lines.proofs.tree_lines.position_of.Goals as goal

pub returns-then-den-ne1 : goal.returns-then-den-ne1
returns-then-den-ne1 c = λ k h l e. c.if-den-ne1.true (ap (of_z w128) c.den.ensures.value ∙ ap (λ y. y.denom) e ∙ whole_denom (pos k))

pub returns-then-position-from : goal.returns-then-position-from
returns-then-position-from c = λ k h l e.
    elim c.then-position-from.branch [
      | then-position-from-via-then-position-from w ↦
          too_low c.args.fraction.now c.num-position.result c.num-position.ensures.value c.num-position.ensures.fits.0 c.args.last c.args.rows c.from.result (pos c.args.rows) c.from.ensures (λ i. pos c.args.rows) c.ranges.last.fits c.ranges.rows.fits k e h w.if-position-from.true
      | then-position-from-via-else-position-from+then-from-position w ↦
          too_high c.args.fraction.now c.num-position.result c.num-position.ensures.value c.num-position.ensures.fits.0 c.args.last c.args.rows (pos c.args.last) w.from-else-position-from.result (λ i. pos c.args.last) w.from-else-position-from.ensures c.ranges.last.fits c.ranges.rows.fits k e l w.if-from-position.true
    ]

pub returns : goal.returns
returns c =
    position_is c.args.fraction.now c.num-position.result c.num-position.ensures.value c.num-position.ensures.fits.0 c.args.last c.args.rows c.from.result c.from-else-position-from.result c.from.ensures c.from-else-position-from.ensures c.ranges.last.fits c.ranges.rows.fits
    (ap (of_z w128) (sym c.den.ensures.value) ∙ c.if-den-ne1.false) c.if-position-from.false c.if-from-position.false
