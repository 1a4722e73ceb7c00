use Rattle.mpc_space.proofs.Matrix.{coordinate-mat_vec, mat_vec-add, mat_vec-scale, cell-transpose, dot-transpose, dot-vec_mat, entry-mat_mul, mat_vec-mat_mul, same_matrix, mat_vec-identity}
use Rattle.mpc_space.proofs.matrix_theorems.Goals as goal

pub returns-clause-entries : goal.returns-clause-entries
returns-clause-entries c = coordinate-mat_vec

pub returns-clause-sums : goal.returns-clause-sums
returns-clause-sums c = mat_vec-add

pub returns-clause-multiples : goal.returns-clause-multiples
returns-clause-multiples c = mat_vec-scale

pub returns-clause-transposed : goal.returns-clause-transposed
returns-clause-transposed c = cell-transpose

pub returns-clause-across : goal.returns-clause-across
returns-clause-across c = dot-transpose

pub returns-clause-from_the_left : goal.returns-clause-from_the_left
returns-clause-from_the_left c = dot-vec_mat

pub returns-clause-product_entries : goal.returns-clause-product_entries
returns-clause-product_entries c = entry-mat_mul

pub returns-clause-product : goal.returns-clause-product
returns-clause-product c = mat_vec-mat_mul

pub returns-clause-same_entries : goal.returns-clause-same_entries
returns-clause-same_entries c = same_matrix

pub returns-clause-identity_keeps : goal.returns-clause-identity_keeps
returns-clause-identity_keeps c = mat_vec-identity
