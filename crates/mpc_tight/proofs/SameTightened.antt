-- A program is tightened to one program.
use Rattle.std.proofs.Common.{◌≡◌, ℕ, zero, suc, ◌<◌, List, sym, ◌∙◌, arith}
use Rattle.std.proofs.Props.{props}
use mathlib.Core.HLevel.{is_prop→PathP}
use Rattle.mpc_exact.specs.Rational.{ℚ}
use Rattle.mpc_space.specs.Matrix.{RationalMatrix, height, entry}
use Rattle.mpc_space.proofs.Matrix.{same_matrix}
use Rattle.mpc_plant.specs.declared.plants.Plant.{Plant}
use Rattle.mpc_rows.specs.declared.programs.Qp.{Qp}
use Rattle.mpc_rows.specs.Program.{IsProgram}
use Rattle.mpc_condense.specs.Condensed.{IsCondensed}
use Rattle.mpc_condense.specs.Causes.{row_count}
use Rattle.mpc_tight.specs.Tightened.{RowsTightened, IsTightened}
use Rattle.mpc_tight.specs.TightTheorems.{OneTightened}
use Rattle.mpc_tight.proofs.RowPlaces.{row_exists}

is_program-prop : (h f y g w : RationalMatrix) (counts : List ℕ) → IsProp (IsProgram h f y g w counts)
is_program-prop h f y g w counts = hlevel props

module _ (plant : Plant) (noise : List ℚ) (old one other : RationalMatrix) (rows_are : height old ≡ row_count plant) (a : RowsTightened plant noise old one (row_count plant)) (b : RowsTightened plant noise old other (row_count plant)) where
  same_entry : (i j : ℕ) → i < row_count plant → entry one i j ≡ entry other i j
  same_entry i zero l = let h = row_exists plant i l in a.rows i h.step h.row l h.is_row ∙ sym (b.rows i h.step h.row l h.is_row)
  same_entry i (suc j) l = a.others i (suc j) (omega arith) ∙ sym (b.others i (suc j) (omega arith))

  pub same_rights : one ≡ other
  same_rights =
      same_matrix one other a.shape.rectangular b.shape.rectangular (a.shape.rows_are ∙ sym b.shape.rows_are) (a.shape.columns_are ∙ sym b.shape.columns_are)
      (λ i j l m. same_entry i j (omega (arith, l, a.shape.rows_are, rows_are)))

module _ (plant : Plant) (noise : List ℚ) (qp one other : Qp) (condensed : IsCondensed qp plant) (a : IsTightened plant noise qp one) (b : IsTightened plant noise qp other) where
  same_h : one.h ≡ other.h
  same_h = a.same_h ∙ sym b.same_h

  same_f : one.f ≡ other.f
  same_f = a.same_f ∙ sym b.same_f

  same_y : one.y ≡ other.y
  same_y = a.same_y ∙ sym b.same_y

  same_g : one.g ≡ other.g
  same_g = a.same_g ∙ sym b.same_g

  same_w : one.w ≡ other.w
  same_w = same_rights plant noise qp.w one.w other.w (qp.is_program.w_shape.rows_are ∙ condensed.rows_are) a.rows b.rows

  same_counts : one.counts ≡ other.counts
  same_counts = a.same_counts ∙ sym b.same_counts

  pub same_program : one ≡ other
  same_program = λ i. record {
    h = same_h i;
    f = same_f i;
    y = same_y i;
    g = same_g i;
    w = same_w i;
    counts = same_counts i;
    is_program = is_prop→PathP (λ j. IsProgram (same_h j) (same_f j) (same_y j) (same_g j) (same_w j) (same_counts j))
        (λ j. is_program-prop (same_h j) (same_f j) (same_y j) (same_g j) (same_w j) (same_counts j)) one.is_program other.is_program i;
  }

pub one_tightened : OneTightened
one_tightened plant noise qp one other condensed a b = same_program plant noise qp one other condensed a b
