-- The numbers of rows of a region's system, written one behind the other.
use Rattle.std.proofs.Common.{◌≡◌, ℕ, suc, ◌+◌, ◌-◌, ◌*◌, ◌<◌, ◌≤◌, ◌++◌, List, length, get_or, take, ℤ, pos, sym, ◌∙◌, ap, subst, subst₂, arith, ⊎_elim, mul-le-mul_right}
use Rattle.std.proofs.lemmas.Bool.{cases_eq}
use Rattle.std.proofs.lemmas.List.{get_or_append_left, get_or-append_right, get_or-take, length-take-le}
use Rattle.mpc_exact.specs.Rational.{ℚ, int, ◌*ℚ◌, ◌≤ℚ◌}
use Rattle.mpc_space.proofs.Total.{total-same}
use Rattle.mpc_rows.specs.declared.programs.Qp.{Qp}
use Rattle.mpc_minors.specs.Lines.{line_number, MeetsLine, HaveNoPoint}
use Rattle.mpc_scaled.specs.Scaled.{whole_at, whole_cell}
use Rattle.mpc_sweep.specs.declared.numbers.Swept.{Swept}
use Rattle.mpc_region.specs.Refuters.{region_number, region_rows, IsLine, AreLines, MeetsAt, ShowsNone}
use borrow.Rule.Slice.PartMut.{put_mid, post_of}

module _ (qp : Qp) (table : Swept) where
  -- one row more
  module _ (rows : List ℕ) (k size : ℕ) (lines line : List ℤ) (long : length line ≡ length qp.counts + 1) (inside : k * (length qp.counts + 1) ≤ length lines) (are : AreLines qp table rows k lines) (is : IsLine qp table (get_or rows k 0) (length qp.counts + 1) line) where
    abbrev columns : ℕ
    columns = length qp.counts + 1

    abbrev start : ℕ
    start = k * columns

    abbrev new : List ℤ
    new = put_mid start size lines line

    front_size : length (take start lines) ≡ start
    front_size = length-take-le start lines inside

    before : (n : ℕ) → n < start → whole_at new n ≡ whole_at lines n
    before n h = get_or_append_left (take start lines) (line ++ post_of start size lines) (pos 0) n (let e = front_size in omega arith) ∙ get_or-take start lines n (pos 0) h

    there : (j : ℕ) → j < columns → whole_cell columns new k j ≡ whole_at line j
    there j h =
        let e : start + j - start ≡ j = omega arith in
        get_or-append_right (take start lines) (line ++ post_of start size lines) start (start + j) (pos 0) front_size (omega arith)
        ∙ get_or_append_left line (post_of start size lines) (pos 0) (start + j - start) (omega arith) ∙ ap (whole_at line) e

    earlier : (i j : ℕ) → i < k → j < columns → i * columns + j < start
    earlier i j h l = let m : suc i * columns ≤ k * columns = mul-le-mul_right columns h in omega arith

    pub lines_more : AreLines qp table rows (k + 1) new
    lines_more = record {
      each = λ i j h l. ⊎_elim
          (λ p. subst (λ y. whole_cell columns new y j ≡ region_number qp table (get_or rows y 0) j) (sym p) (there j l ∙ is.each j l))
          (λ p. let b : i < k = omega arith in before (i * columns + j) (earlier i j b l) ∙ are.each i j b l)
          (cases_eq i k);
    }

  -- where no values meet the rows that are written, none meet all rows
  module _ (rows : List ℕ) (lines : List ℤ) (count : length rows ≡ length qp.counts + 1) (within : (k : ℕ) → k < length rows → get_or rows k 0 < region_rows qp) (are : AreLines qp table rows (length rows) lines) where
    line_met : (x : ℕ → ℚ) (i : ℕ) → i < length qp.counts + 1 → MeetsAt qp table x (get_or rows i 0) → MeetsLine (length qp.counts) lines x i
    line_met x i h met =
        let w = length qp.counts in
        let row = get_or rows i 0 in
        subst₂ (λ u v. u ≤ℚ v)
        (total-same w (λ j. int (region_number qp table row j) *ℚ x j) (λ j. int (line_number w lines i j) *ℚ x j) (λ j l. ap (λ z. int z *ℚ x j) (sym (are.each i j (omega arith) (omega arith)))))
        (ap int (sym (are.each i w (omega arith) (omega arith)))) met

    pub none_meet : HaveNoPoint (length qp.counts) lines → ShowsNone qp table
    none_meet h = record { none = λ x met. h.none x (λ i l. line_met x i l (met (get_or rows i 0) (within i (omega arith)))) }
