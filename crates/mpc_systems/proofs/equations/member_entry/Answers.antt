use Rattle.std.proofs.Common.{◌≡◌, ◌+◌, ◌-◌, List, [], arith, get_or, ap, sym, ◌∙◌}
use Rattle.std.proofs.lemmas.List.{get_or-map}
use Rattle.mpc_exact.specs.Rational.{ℚ}
use Rattle.mpc_space.specs.Vector.{coordinate}
use Rattle.mpc_space.specs.Matrix.{height}
use Rattle.mpc_rows.specs.ActiveSets.{row_of}
use Rattle.mpc_systems.proofs.equations.member_entry.Goals as goal

pub get-requires-clause-row : goal.get-requires-clause-row
get-requires-clause-row c =
    let place : c.args.index + 1 - 1 ≡ c.args.index = omega arith in
    let e : c.member.result ≡ get_or c.args.set c.args.index 0 = c.member.ensures.value ∙ ap (λ k. get_or c.args.set k 0) place in
    let w = c.law_theorems.ensures.member_bounds (height c.args.matrix.now) c.args.set c.args.index c.requires.set_of_rows.rises c.requires.member in
    omega (arith, e, w.0, w.1)

pub returns : goal.returns
returns c =
    let place : c.args.index + 1 - 1 ≡ c.args.index = omega arith in
    let e : get_or c.args.set c.args.index 0 ≡ c.member.result = sym (c.member.ensures.value ∙ ap (λ k. get_or c.args.set k 0) place) in
    c.get.ensures
    ∙ ap (λ (row : List ℚ). coordinate row c.args.column) (sym (get_or-map (row_of c.args.matrix.now.rows) c.args.set c.args.index 0 [] c.requires.member ∙ ap (row_of c.args.matrix.now.rows) e))
