use Rattle.mpc_rows.proofs.LawLemmas.{law_unique, same_coefficients}
use Rattle.mpc_rows.proofs.LawPoints.{law_row_size}
use Rattle.mpc_rows.proofs.PlaceLemmas.{member_bounds}
use Rattle.mpc_rows.proofs.RegionLemmas.{law_row_unique, law_rows_unique}
use Rattle.mpc_rows.proofs.rules.law_theorems.Goals as goal

pub returns : goal.returns
returns c = record {
  same_coefficients = same_coefficients;
  law_unique = law_unique;
  law_row_unique = law_row_unique c.primitive_theorems.ensures.one;
  law_rows_unique = law_rows_unique c.primitive_theorems.ensures.one;
  law_row_size = law_row_size;
  member_bounds = member_bounds;
}
