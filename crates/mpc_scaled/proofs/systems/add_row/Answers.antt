use Rattle.std.proofs.Common.{◌≡◌, ◌∙◌, ◌≤◌, ◌^◌, refl, sym, ap, subst, arith, length, to_z, of_z, unsigned_abs, le_refl}
use Rattle.std.specs.Int.{w64}
use Rattle.mpc_exact.specs.Rational.{frac}
use Rattle.mpc_space.specs.Vector.{coordinate}
use Rattle.mpc_scaled.specs.WholeSystems.{AreBehind}
use Rattle.mpc_scaled.proofs.Small.{read_small}
use Rattle.std.proofs.lemmas.Result.{err_from_is_err_and}
use Rattle.mpc_scaled.proofs.WholeSystems.{kept_whole, behind_as}
use Rattle.mpc_scaled.proofs.systems.add_row.Goals as goal

pub returns-in_default-clause-kept : goal.returns-in_default-clause-kept
returns-in_default-clause-kept c = record { width = refl; entries = kept_whole _; sides = kept_whole _; scales = kept_whole _; strict = kept_whole _; most_entry = le_refl _; most_side = le_refl _; most_scale = le_refl _ }

pub returns-in_default-scaled-clause-kept : goal.returns-in_default-scaled-clause-kept
returns-in_default-scaled-clause-kept c = record { width = refl; entries = kept_whole _; sides = kept_whole _; scales = kept_whole _; strict = kept_whole _; most_entry = le_refl _; most_side = le_refl _; most_scale = le_refl _ }

pub returns-in_err-most : goal.returns-in_err-most
returns-in_err-most c =
    let p = err_from_is_err_and c.from_residual.result c.from_residual.ensures.1 in
    rw p.1 (record { kept = record { width = refl; entries = c.add_entries.ensures.kept; sides = kept_whole _; scales = kept_whole _; strict = kept_whole _; most_entry = le_refl _; most_side = le_refl _; most_scale = le_refl _ }; added = tt })

pub returns-in_default-2-clause-kept : goal.returns-in_default-2-clause-kept
returns-in_default-2-clause-kept c = record { width = refl; entries = c.add_entries.ensures.kept; sides = kept_whole _; scales = kept_whole _; strict = kept_whole _; most_entry = le_refl _; most_side = le_refl _; most_scale = le_refl _ }

pub returns-in_err-add_ends : goal.returns-in_err-add_ends
returns-in_err-add_ends c =
    let p = err_from_is_err_and c.from_residual-in_err-add_ends.result c.from_residual-in_err-add_ends.ensures.1 in
    rw p.1 (record { kept = record { width = refl; entries = c.add_entries.ensures.kept; sides = c.add_ends.ensures.sides_kept; scales = c.add_ends.ensures.scales_kept; strict = c.add_ends.ensures.strict_kept; most_entry = le_refl _; most_side = le_refl _; most_scale = le_refl _ }; added = tt })

pub returns-clause-added : goal.returns-clause-added
returns-clause-added c _ =
    let l = c.args.lists.now in
    let row = c.args.row.now in
    let k = c.in-Some.scale in
    let z = to_z w64 (of_z w64 c.in-Some-scaled.side) in
    let read : z ≡ c.in-Some-scaled.side = read_small c.in-Some-scaled.side c.in-Some-scaled.ensures.small in
    let entries = c.as_slice-entries.result.now in
    let size : length entries ≡ l.width = ap (λ xs. length xs) c.as_slice-entries.ensures ∙ c.requires.width in
    let behind : AreBehind l.a.items c.add_entries.new.coefficients.items (length entries) k (coordinate entries) c.in-Some-2.most = rw c.in-Some-2.is at c.in_ok-most.ensures.behind in
    let u : c.unsigned_abs.result ≡ unsigned_abs z = c.unsigned_abs.ensures.value in
    let m = c.max-lists.ensures in
    let n = c.max-lists-2.ensures in
    record {
      side = z;
      scale = k;
      some = c.in-Some.ensures.some;
      small = c.in-Some.ensures.small;
      value = c.in-Some-scaled.ensures.value ∙ ap (λ y. frac y k) (sym read);
      side_small = subst (λ y. unsigned_abs y ≤ 2 ^ 62) (sym read) c.in-Some-scaled.ensures.small;
      entries = behind_as l.a.items c.add_entries.new.coefficients.items (length entries) l.width k (coordinate entries) (coordinate row.a) c.in-Some-2.most size (λ j. ap (λ xs. coordinate xs j) (sym c.as_slice-entries.ensures)) behind;
      sides = c.in_ok-add_ends.ensures.sides;
      scales = c.in_ok-add_ends.ensures.scales;
      strict = c.in_ok-add_ends.ensures.strict;
      side_bound = omega arith;
      scale_bound = omega arith;
    }
