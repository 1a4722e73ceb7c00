use Rattle.std.proofs.Common.{◌≡◌, ◌∙◌, ◌∷◌, ◌++◌, ◌^◌, ◌≤◌, [], rules, sym, subst, ap, arith, ℕ, ℤ, List, length, get_or, pos, to_z, of_z, FitsSigned, unsigned_abs, lit<, refl, le_refl}
use Rattle.std.specs.Int.{w64, w128}
use Rattle.std.proofs.lemmas.Int.{to_z-of_z}
use Rattle.mpc_exact.specs.Rational.{int, frac}
use Rattle.mpc_space.specs.Vector.{coordinate}
use Rattle.mpc_scaled.specs.WholeSystems.{AreBehind, negated_where}
use Rattle.mpc_scaled.proofs.Small.{read_small}
use Rattle.mpc_scaled.proofs.WholeSystems.{kept_whole, behind_as, row_where, whole_coordinate, whole_side, whole_strict}
use Rattle.std.proofs.lemmas.Result.{err_from_is_err_and}
use Rattle.mpc_scaled.proofs.systems.add_whole.Goals as goal

pub returns-clause-added : goal.returns-clause-added
returns-clause-added c _ =
    let l = c.args.lists.now in
    let r = c.args.row.now in
    let t = c.args.broken in
    let row = row_where t r in
    let z = to_z w64 (of_z w64 c.in-Some.side) in
    let fits : FitsSigned w128 r.b = search rules in
    let value : row.b ≡ frac z 1 =
    whole_side t r ∙ sym (ap int (read_small c.in-Some.side c.in-Some.ensures.small ∙ c.in-Some.ensures.value ∙ ap (negated_where t) (to_z-of_z w128 r.b fits)))
    in
    let entries = c.as_slice-entries.result.now in
    let f = λ (j : ℕ). int (negated_where t (get_or entries j (pos 0))) in
    let same : (j : ℕ) → coordinate row.a j ≡ f j = λ j. whole_coordinate t r j ∙ ap (λ (xs : List ℤ). int (negated_where t (get_or xs j (pos 0)))) (sym c.as_slice-entries.ensures) in
    let size : length entries ≡ l.width = ap (λ (xs : List ℤ). length xs) c.as_slice-entries.ensures ∙ c.requires.width in
    let behind : AreBehind l.a.items c.add_numbers.new.coefficients.items (length entries) 1 f c.in-Some-2.most = rw c.in-Some-2.is at c.in_ok-most.ensures.behind in
    let u : c.unsigned_abs.result ≡ unsigned_abs z = c.unsigned_abs.ensures.value in
    let m = c.max-lists.ensures in
    record {
      side = z;
      scale = 1;
      some = lit< tt;
      small = (omega arith);
      value = value;
      side_small = subst (λ u. unsigned_abs u ≤ 2 ^ 62) (sym (read_small c.in-Some.side c.in-Some.ensures.small)) c.in-Some.ensures.small;
      entries = behind_as l.a.items c.add_numbers.new.coefficients.items (length entries) l.width 1 f (coordinate row.a) c.in-Some-2.most size same behind;
      sides = c.in_ok-add_ends.ensures.sides;
      scales = c.in_ok-add_ends.ensures.scales;
      strict = c.in_ok-add_ends.ensures.strict ∙ ap (λ b. l.strict.items ++ b ∷ []) (sym (whole_strict t r));
      side_bound = (omega arith);
      scale_bound = c.requires.lists.some_scale;
    }

pub returns-in_default-clause-kept : goal.returns-in_default-clause-kept
returns-in_default-clause-kept c = record { width = refl; entries = kept_whole _; sides = kept_whole _; scales = kept_whole _; strict = kept_whole _; most_entry = le_refl _; most_side = le_refl _; most_scale = le_refl _ }

pub returns-in_err-most : goal.returns-in_err-most
returns-in_err-most c =
    let p = err_from_is_err_and c.from_residual.result c.from_residual.ensures.1 in
    rw p.1 (record { kept = record { width = refl; entries = c.add_numbers.ensures.kept; sides = kept_whole _; scales = kept_whole _; strict = kept_whole _; most_entry = le_refl _; most_side = le_refl _; most_scale = le_refl _ }; added = tt })

pub returns-in_default-2-clause-kept : goal.returns-in_default-2-clause-kept
returns-in_default-2-clause-kept c = record { width = refl; entries = c.add_numbers.ensures.kept; sides = kept_whole _; scales = kept_whole _; strict = kept_whole _; most_entry = le_refl _; most_side = le_refl _; most_scale = le_refl _ }

pub returns-in_err-add_ends : goal.returns-in_err-add_ends
returns-in_err-add_ends c =
    let p = err_from_is_err_and c.from_residual-in_err-add_ends.result c.from_residual-in_err-add_ends.ensures.1 in
    rw p.1 (record { kept = record { width = refl; entries = c.add_numbers.ensures.kept; sides = c.add_ends.ensures.sides_kept; scales = c.add_ends.ensures.scales_kept; strict = c.add_ends.ensures.strict_kept; most_entry = le_refl _; most_side = le_refl _; most_scale = le_refl _ }; added = tt })
