-- Positions that move: their parts, and which numbers fit.
use Rattle.std.proofs.Common.{◌≡◌, List, subst}
use Rattle.mpc_exact.specs.Rational.{ℚ}
use Rattle.mpc_frac.specs.Fits.{FitsSum}
use Rattle.mpc_space.specs.Vector.{vec_add, vec_scale}
use Rattle.mpc_online.specs.Positions.{Position}
use Rattle.mpc_online.specs.Widths.{GrowsFit, MoveFits}

pub same_position : (p q : Position) → p.point ≡ q.point → p.set ≡ q.set → p.multipliers ≡ q.multipliers → p.row ≡ q.row → p.weight ≡ q.weight → p ≡ q
same_position p q a b c d e = λ t. record { point = a t; set = b t; multipliers = c t; row = d t; weight = e t }

pub grows_as : (xs ys : List ℚ) (s : ℚ) (d : List ℚ) → xs ≡ ys → GrowsFit xs s d → GrowsFit ys s d
grows_as xs ys s d e h = subst (λ zs. GrowsFit zs s d) e h

pub grown_as : (xs ys zs : List ℚ) (s : ℚ) (d : List ℚ) → xs ≡ ys → zs ≡ vec_add xs (vec_scale s d) → zs ≡ vec_add ys (vec_scale s d)
grown_as xs ys zs s d e h = subst (λ us. zs ≡ vec_add us (vec_scale s d)) e h

pub move_fits : (p : Position) (d e : List ℚ) (s : ℚ) → GrowsFit p.point s d → GrowsFit p.multipliers s e → FitsSum p.weight s → MoveFits p d e s
move_fits p d e s a b c = record { point = a; multipliers = b; weight = c }
