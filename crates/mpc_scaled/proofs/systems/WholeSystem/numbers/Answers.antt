use Rattle.std.proofs.Common.{List, ℕ, ℤ, sym, subst}
use Rattle.mpc_rows.specs.LinearSystem.{LinearSystem}
use Rattle.mpc_scaled.specs.Scaled.{IsWholeSystem}
use Rattle.mpc_scaled.specs.WholeSystems.{system_of}
use Rattle.mpc_scaled.proofs.WholeSystems.{are_numbers}
use Rattle.mpc_scaled.proofs.systems.WholeSystem.numbers.Goals as goal

pub returns-clause-whole : goal.returns-clause-whole
returns-clause-whole c =
    let l = c.self.inside.lists in
    let k = c.as_slice.result.now in
    let a = c.as_slice-2.result.now in
    let b = c.as_slice-3.result.now in
    subst (λ (s : LinearSystem). IsWholeSystem s k a b) c.self.view_is
    (subst (λ (u : List ℕ). IsWholeSystem (system_of l) u a b) (sym c.as_slice.ensures.value)
    (subst (λ (u : List ℤ). IsWholeSystem (system_of l) l.scales.items u b) (sym c.as_slice-2.ensures.value)
    (subst (λ (u : List ℤ). IsWholeSystem (system_of l) l.scales.items l.a.items u) (sym c.as_slice-3.ensures.value) (are_numbers l c.self.invariant))))
