-- Programs with the same parts are one.
use Rattle.std.proofs.Common.{◌≡◌, ℕ, List}
use mathlib.Core.HLevel.{is_prop→PathP}
use Rattle.std.proofs.Props.{props}
use Rattle.mpc_space.specs.Matrix.{RationalMatrix}
use Rattle.mpc_rows.specs.Program.{IsProgram}
use Rattle.mpc_rows.specs.declared.programs.Qp.{Qp}

is_program-prop : (h f y g w : RationalMatrix) (counts : List ℕ) → IsProp (IsProgram h f y g w counts)
is_program-prop h f y g w counts = hlevel props

pub same_program : (p q : Qp) → p.h ≡ q.h → p.f ≡ q.f → p.y ≡ q.y → p.g ≡ q.g → p.w ≡ q.w → p.counts ≡ q.counts → p ≡ q
same_program p q h f y g w counts = λ i. record {
  h = h i;
  f = f i;
  y = y i;
  g = g i;
  w = w i;
  counts = counts i;
  is_program = is_prop→PathP (λ j. IsProgram (h j) (f j) (y j) (g j) (w j) (counts j))
      (λ j. is_program-prop (h j) (f j) (y j) (g j) (w j) (counts j)) p.is_program q.is_program i;
}
