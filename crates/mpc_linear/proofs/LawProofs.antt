-- The laws of stored matrices, of sums of products, and of 0 in them.
use Rattle.std.proofs.Common.{pos, refl, sym, ◌∙◌}
use Rattle.std.proofs.lemmas.List.{get_or_default}
use Rattle.mpc_exact.specs.Rational.{int}
use Rattle.mpc_linear.specs.GridTheorems.{GridTheorems}
use Rattle.mpc_linear.specs.SumTheorems.{SumTheorems}
use Rattle.mpc_linear.specs.ZeroTheorems.{ZeroTheorems}
use Rattle.mpc_linear.proofs.GridLemmas.{height-grid, columns-grid, grid-rectangular, grid-set, grid-zeros, place-below}
use Rattle.mpc_linear.proofs.DotLemmas.{goes_none, goes_more, goes_wide, goes_value, goes_fits}
use Rattle.mpc_linear.proofs.ZeroFits.{fits_zero, fits_add_zero, from_zero, taken_from_zero, nothing_added, nothing_taken}

pub grid_theorems : GridTheorems
grid_theorems = record {
  rows = height-grid;
  columns = columns-grid;
  rectangular = grid-rectangular;
  place = place-below;
  entry_set = λ n w xs i j v h k. grid-set n w xs i j v h k;
  zeros = grid-zeros;
}

pub sum_theorems : SumTheorems
sum_theorems = record {
  none = goes_none;
  more = λ start xs ys k sum x y next at so e t.
      goes_more start xs ys k sum x y at.within_left at.within_right
      (at.left ∙ get_or_default xs k (int (pos 0)) x at.within_left) (at.right ∙ get_or_default ys k (int (pos 0)) y at.within_right) so next e t;
  wide = λ start xs ys k sum x y at so t.
      goes_wide start xs ys k sum x y at.within_left at.within_right
      (at.left ∙ get_or_default xs k (int (pos 0)) x at.within_left) (at.right ∙ get_or_default ys k (int (pos 0)) y at.within_right) so t;
  value = λ start xs ys k sum end so. goes_value start xs ys k sum end so;
  fits = λ start xs ys k sum end so. goes_fits start xs ys k sum end so;
}

pub zero_theorems : ZeroTheorems
zero_theorems = record {
  zero_fits = fits_zero;
  zero_added_fits = fits_add_zero;
  to_zero_fits = λ x y h. from_zero (int (pos 0)) x y refl h;
  no_product_fits = λ s x y h e. nothing_added s x y h (sym e);
  from_zero_fits = λ x y h. taken_from_zero (int (pos 0)) x y refl h;
  no_product_taken_fits = λ s x y h e. nothing_taken s x y h (sym e);
}
