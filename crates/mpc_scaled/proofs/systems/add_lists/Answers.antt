use Rattle.std.proofs.Common.{refl, le_refl}
use Rattle.std.proofs.lemmas.Result.{err_from_is_err_and}
use Rattle.mpc_scaled.proofs.WholeSystems.{kept_whole, kept_as, kept_behind}
use Rattle.mpc_scaled.proofs.systems.add_lists.Goals as goal

pub returns-in_err-extend_from_slice : goal.returns-in_err-extend_from_slice
returns-in_err-extend_from_slice c =
    let p = err_from_is_err_and c.from_residual.result c.from_residual.ensures.1 in
    rw p.1 (record { kept = record { width = refl; entries = kept_as _ _ c.in_err-extend_from_slice.ensures.items; sides = kept_whole _; scales = kept_whole _; strict = kept_whole _; most_entry = le_refl _; most_side = le_refl _; most_scale = le_refl _ }; added = tt })

pub returns-in_err-extend_from_slice-2 : goal.returns-in_err-extend_from_slice-2
returns-in_err-extend_from_slice-2 c =
    let p = err_from_is_err_and c.from_residual-in_err-extend_from_slice-2.result c.from_residual-in_err-extend_from_slice-2.ensures.1 in
    rw p.1 (record { kept = record { width = refl; entries = kept_behind _ _ _ c.in_ok-extend_from_slice.ensures.items; sides = kept_as _ _ c.in_err-extend_from_slice-2.ensures.items; scales = kept_whole _; strict = kept_whole _; most_entry = le_refl _; most_side = le_refl _; most_scale = le_refl _ }; added = tt })

pub returns-in_err-extend_from_slice-3 : goal.returns-in_err-extend_from_slice-3
returns-in_err-extend_from_slice-3 c =
    let p = err_from_is_err_and c.from_residual-in_err-extend_from_slice-3.result c.from_residual-in_err-extend_from_slice-3.ensures.1 in
    rw p.1 (record { kept = record { width = refl; entries = kept_behind _ _ _ c.in_ok-extend_from_slice.ensures.items; sides = kept_behind _ _ _ c.in_ok-extend_from_slice-2.ensures.items; scales = kept_as _ _ c.in_err-extend_from_slice-3.ensures.items; strict = kept_whole _; most_entry = le_refl _; most_side = le_refl _; most_scale = le_refl _ }; added = tt })

pub returns-in_err-extend_from_slice-4 : goal.returns-in_err-extend_from_slice-4
returns-in_err-extend_from_slice-4 c =
    let p = err_from_is_err_and c.from_residual-in_err-extend_from_slice-4.result c.from_residual-in_err-extend_from_slice-4.ensures.1 in
    rw p.1 (record { kept = record { width = refl; entries = kept_behind _ _ _ c.in_ok-extend_from_slice.ensures.items; sides = kept_behind _ _ _ c.in_ok-extend_from_slice-2.ensures.items; scales = kept_behind _ _ _ c.in_ok-extend_from_slice-3.ensures.items; strict = kept_as _ _ c.in_err-extend_from_slice-4.ensures.items; most_entry = le_refl _; most_side = le_refl _; most_scale = le_refl _ }; added = tt })
