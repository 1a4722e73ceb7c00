-- What the code makes of a turn: sizes on the way, and that it is what the turn leads to.
use Rattle.std.proofs.Common.{◌≡◌, ℕ, ◌<◌, List, length, sym, ◌∙◌, ap, subst, Option}
use Rattle.mpc_exact.specs.Rational.{ℚ}
use Rattle.mpc_space.specs.Vector.{vec_scale}
use Rattle.mpc_space.specs.Matrix.{height}
use Rattle.mpc_space.proofs.Entries.{length-add, length-scale}
use Rattle.mpc_rows.specs.declared.programs.Qp.{Qp}
use Rattle.mpc_online.specs.StateRows.{IsFirstViolated}
use Rattle.mpc_online.specs.Positions.{Position, Step, goes_to, along, without_place, joined, continued}
use Rattle.mpc_online.specs.Turns.{IsDrop}
use Rattle.mpc_online.specs.Widths.{MoveFits, TestsFit, TurnFits}
use Rattle.mpc_online.specs.OnlineRun.{LeadsTo}
use Rattle.mpc_online.specs.Standing.{IsPosition}
use Rattle.mpc_online.specs.declared.turns.Turn.TheVariants.{Drops, Joins}

module _ (qp : Qp) (b : List ℚ) (p : Position) (d e : List ℚ) (s : ℚ) (q : Position) (q_is : q ≡ along p d e s) (at : IsPosition qp p) (d_size : length d ≡ height qp.h) (e_size : length e ≡ length p.set) where
  pub size : length q.point ≡ height qp.h
  size = ap (λ (z : Position). length z.point) q_is ∙ length-add p.point (vec_scale s d) (at.size ∙ sym d_size ∙ sym (length-scale s d)) ∙ at.size

  pub set_is : q.set ≡ p.set
  set_is = ap (λ (z : Position). z.set) q_is

  pub row_is : q.row ≡ p.row
  row_is = ap (λ (z : Position). z.row) q_is

  pub one_each : length q.multipliers ≡ length q.set
  one_each =
      ap (λ (z : Position). length z.multipliers) q_is ∙ length-add p.multipliers (vec_scale s e) (at.one_each ∙ sym e_size ∙ sym (length-scale s e)) ∙ at.one_each
      ∙ sym (ap (λ (z : Position). length z.set) q_is)

  pub drop_member : (k : ℕ) → IsDrop qp b p d e k s → k < length q.set
  drop_member k drop = subst (λ (u : List ℕ). k < length u) (sym set_is) (subst (λ n. k < n) e_size drop.shortest.below)

  pub drop_leads : (k : ℕ) (r : Position) → r ≡ without_place q k → LeadsTo qp b p d e (Drops k s) (goes_to r)
  drop_leads k r h = ap goes_to (h ∙ ap (λ z. without_place z k) q_is)

  pub join_leads : (o : Option ℕ) → IsFirstViolated qp b q.point o → (r : Position) → r ≡ joined q → (next : Step) → next ≡ continued r o → LeadsTo qp b p d e (Joins s) next
  join_leads o first r h next leads = (o, subst (λ (z : Position). IsFirstViolated qp b z.point o) q_is first, leads ∙ ap (λ z. continued z o) (h ∙ ap joined q_is))

  pub join_fits : MoveFits p d e s → TestsFit qp b q.point → TurnFits qp b p d e (Joins s)
  join_fits m t = (m, subst (λ (z : Position). TestsFit qp b z.point) q_is t)

  pub wide_tests : ¬ TestsFit qp b q.point → ¬ TurnFits qp b p d e (Joins s)
  wide_tests h f = h (subst (λ (z : Position). TestsFit qp b z.point) (sym q_is) f.1)
