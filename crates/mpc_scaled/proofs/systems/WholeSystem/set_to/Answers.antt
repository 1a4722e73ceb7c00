use Rattle.std.proofs.Common.{ap, length, List, ℤ, Result, OnErr, Ok, Err}
use Rattle.mpc_scaled.proofs.WholeSystems.{no_rows}
use Rattle.mpc_scaled.proofs.systems.WholeSystem.set_to.Goals as goal

on_err : {A E : Type 0} (r : Result A E) {P : Type 0} → P → OnErr r P
on_err (Ok x) p = tt
on_err (Err e) p = p

pub returns-then-is_err-clause-err_rows : goal.returns-then-is_err-clause-err_rows
returns-then-is_err-clause-err_rows c = on_err c.refill-filled.result (no_rows _ _ (ap (λ (xs : List ℤ). length xs) c.clear.ensures.sides))
