-- How many words the numbers of rows have.
use Rattle.std.proofs.Common.{◌≡◌, ◌≢◌, ℕ, zero, suc, ◌+◌, ◌*◌, ◌^◌, ◌<◌, ◌≤◌, max, ℤ, unsigned_abs, Bool, true, false, List, [], ◌∷◌, length, map, get_or, set, take, Some, below_more, refl, sym, ◌∙◌, ap, subst, arith}
use Rattle.std.specs.Prelude.{All, slice_get, slice_index_or, ◌&&◌, nat_lt, if◌then◌else◌}
use Rattle.std.specs.List.{list_all}
use Rattle.std.proofs.lemmas.Bool.Decides.{nat_tests}
use Rattle.std.proofs.lemmas.List.{get_or-set_same, get_or-set_other, get_or-take, length-map, length-take-le}
use Rattle.std.proofs.lemmas.Option.{slice_get-get_or}
use Rattle.std.proofs.Math.Nat.{mul-le-mul_left}
use Rattle.mpc_exact.specs.Rational.{ℚ}
use Rattle.mpc_exact.specs.Denominator.{common_denom}
use Rattle.mpc_linear.specs.Whole.{scaled}
use Rattle.mpc_plant.specs.declared.plants.Plant.{Plant}
use Rattle.mpc_plant.specs.declared.lists.Coordinate.{Coordinate}
use Rattle.mpc_rows.specs.declared.laws.Law.{Law as LawOfSet}
use Rattle.mpc_rows.specs.declared.trees.Node.{Node}
use Rattle.mpc_rows.specs.declared.trees.Node.TheVariants.{Split, Law, NoMove}
use Rattle.mpc_controller.specs.Parts.{Parts, limits_of, IsLawFor, IsNodeFor, IsSplitRow}
use Rattle.mpc_controller.specs.Bounds.{reach, FormFits, LawFits, IsController, first_move_form}
use Rattle.mpc_table.specs.Forms.{AreUpTo}
use Rattle.mpc_table.specs.TableTheorems.{MovesEachInput}
use Rattle.mpc_block.specs.declared.lines.Width.{Width}
use Rattle.mpc_block.specs.declared.lines.Width.TheVariants.{Short, Wide}
use Rattle.mpc_block.specs.Sums.{greatest}
use Rattle.mpc_block.specs.Block.{spans_of, row_fits_word, whole, form_fits_word, law_fits_word, width_of}
use Rattle.mpc_block.specs.Layouts.{IsRowFor, CanHaveLine, CanHaveForm}
use Rattle.mpc_block.proofs.SumLemmas.{reach_mono}
use Rattle.mpc_block.proofs.BlockLemmas.{all_at, both, tested_at, up_to_spans}

-- ---- lists, element by element
pub mapped_at : {X : Type 0} (f : X → ℕ) (xs : List X) (i : ℕ) (x : X) → slice_get xs i ≡ Some x → get_or (map f xs) i 0 ≡ f x
mapped_at f [] i x at = absurd cc
mapped_at f (y ∷ xs) zero x at = let same : Some y ≡ Some x = at in let e : y ≡ x = cc in ap f e
mapped_at f (y ∷ xs) (suc i) x at = mapped_at f xs i x at

pub same_list : (xs ys : List ℕ) (n : ℕ) → n ≤ length xs → length ys ≡ n → ((k : ℕ) → k < n → get_or xs k 0 ≡ get_or ys k 0) → take n xs ≡ ys
same_list xs [] zero h e each = refl
same_list xs (y ∷ ys) zero h e each = absurd (omega arith)
same_list xs [] (suc n) h e each = absurd (omega arith)
same_list [] (y ∷ ys) (suc n) h e each = absurd (omega arith)
same_list (x ∷ xs) (y ∷ ys) (suc n) h e each = λ i. each 0 (omega arith) i ∷ same_list xs ys n (omega arith) (omega arith) (λ k lt. each (suc k) (omega arith)) i

pub span_more : (grid : List Coordinate) (spans : List ℕ) (i top : ℕ) (axis : Coordinate) → length spans ≡ 4 → i < 4 → slice_get grid i ≡ Some axis → top ≡ max axis.count 1 → ((k : ℕ) → k < i → get_or spans k 0 ≡ get_or (map (λ axis. max axis.count 1) grid) k 0)
    → (k : ℕ) → k < i + 1 → get_or (set spans i top) k 0 ≡ get_or (map (λ axis. max axis.count 1) grid) k 0
span_more grid spans i top axis size lt at is before =
    below_more _ _ (λ k less. let apart : k ≢ i = omega arith in get_or-set_other spans i k top 0 apart ∙ before k less)
    (get_or-set_same spans i top 0 (omega arith) ∙ is ∙ sym (mapped_at (λ (axis : Coordinate). max axis.count 1) grid i axis at))

-- ---- all nodes
pub not_all : {X : Type 0} (test : X → Bool) (xs : List X) (i : ℕ) (x : X) → slice_get xs i ≡ Some x → test x ≡ false → list_all test xs ≡ false
not_all test [] i x at h = absurd cc
not_all test (y ∷ xs) zero x at h = let same : Some y ≡ Some x = at in let e : test y ≡ false = cc in ap (λ b. b && list_all test xs) e
not_all test (y ∷ xs) (suc i) x at h = none (test y) (not_all test xs i x at h)
  where
    none : (a : Bool) → list_all test xs ≡ false → (a && list_all test xs) ≡ false
    none true e = e
    none false e = refl

pub all_more : {X : Type 0} (test : X → Bool) (xs : List X) (k : ℕ) (x : X) → slice_get xs k ≡ Some x → list_all test (take k xs) ≡ true → test x ≡ true → list_all test (take (k + 1) xs) ≡ true
all_more test [] k x at before here = absurd cc
all_more test (y ∷ xs) zero x at before here = let same : Some y ≡ Some x = at in let e : test y ≡ true = cc in ap (λ b. b && true) e
all_more test (y ∷ xs) (suc k) x at before here =
    let e : suc k + 1 ≡ suc (k + 1) = omega arith in
    subst (λ n. list_all test (take n (y ∷ xs)) ≡ true) (sym e) (next (test y) before (λ rest. all_more test xs k x at rest here))
  where
    next : (a : Bool) → (a && list_all test (take k xs)) ≡ true → (list_all test (take k xs) ≡ true → list_all test (take (k + 1) xs) ≡ true) → (a && list_all test (take (k + 1) xs)) ≡ true
    next true e more = more e
    next false e more = absurd cc

-- ---- the rows of a tree at its width
entries_small : (most : ℕ) (ks : List ℤ) (grid : List Coordinate) → length ks ≡ length grid → reach ks (map (λ axis. max axis.count 1) grid) < most → All (λ z. unsigned_abs z < most) ks
entries_small most [] grid size h i d lt = absurd (omega arith)
entries_small most (k ∷ ks) [] size h i d lt = absurd (omega arith)
entries_small most (k ∷ ks) (axis ∷ grid) size h zero d lt =
    let some : 1 ≤ max axis.count 1 = omega arith in
    let less : unsigned_abs k * 1 ≤ unsigned_abs k * max axis.count 1 = mul-le-mul_left (unsigned_abs k) some in
    omega arith
entries_small most (k ∷ ks) (axis ∷ grid) size h (suc i) d lt = entries_small most ks grid (omega arith) (omega arith) i d (omega arith)

pub can_have_line : (parts : Parts) → IsController parts.plant parts.laws parts.tree → (width : Width) → width ≡ width_of parts → (place : ℕ) (node : Node) → slice_get parts.tree place ≡ Some node → CanHaveLine width node
can_have_line parts ok width is place (Law law certs) at = tt
can_have_line parts ok width is place (NoMove cert) at = tt
can_have_line parts ok width is place (Split row) at = subst (λ w. IsRowFor w row) (sym is) (by _ refl)
  where
    shape : IsSplitRow parts.plant.n row
    shape = all_at (IsNodeFor parts.plant.n (length parts.laws)) parts.tree place (Split row) at ok.shapes.nodes_fit

    few : length row.a ≤ 4
    few = omega (arith, shape.size, parts.plant.is_plant.states.to_high)

    by : (short : Bool) → (list_all (row_fits_word (spans_of parts.plant)) parts.tree && list_all (law_fits_word parts.plant) parts.laws) ≡ short → IsRowFor (if short then Short else Wide) row
    by false e = few
    by true e =
        let tested : nat_lt (unsigned_abs row.b + reach row.a (spans_of parts.plant)) (2 ^ 63) ≡ true = tested_at (row_fits_word (spans_of parts.plant)) parts.tree place (Split row) at (both _ _ e).0 in
        let small : unsigned_abs row.b + reach row.a (spans_of parts.plant) < 2 ^ 63 = grind (arith, nat_tests) in
        (few, omega arith, entries_small (2 ^ 63) row.a parts.plant.grid (shape.size ∙ sym parts.plant.is_plant.grid_size) (omega arith))

-- ---- the first moves of laws at the width
all_mapped : {X Y : Type 0} (f : X → Y) (P : Y → Type 0) (xs : List X) → All (λ x. P (f x)) xs → All P (map f xs)
all_mapped f P [] h i d lt = absurd (omega arith)
all_mapped f P (x ∷ xs) h zero d lt = h 0 x (omega arith)
all_mapped f P (x ∷ xs) h (suc i) d lt = all_mapped f P xs (λ j e l. h (suc j) e (omega arith)) i d (omega arith)

lead_small : (most : ℕ) (ks : List ℤ) (grid : List Coordinate) → length ks ≡ length grid + 1 → reach ks (1 ∷ map (λ axis. max axis.count 1) grid) < most → All (λ z. unsigned_abs z < most) ks
lead_small most [] grid size h i d lt = absurd (omega arith)
lead_small most (k ∷ ks) grid size h zero d lt = omega arith
lead_small most (k ∷ ks) grid size h (suc i) d lt = entries_small most ks grid (omega arith) (omega arith) i d (omega arith)

pub row_there : (rows : List (List ℚ)) (count i : ℕ) → count ≤ length rows → i < count → slice_get (take count rows) i ≡ Some (slice_index_or rows i [])
row_there rows count i h lt =
    let inside : i < length (take count rows) = omega (arith, length-take-le count rows h) in
    slice_get-get_or (take count rows) i [] inside ∙ ap Some (get_or-take count rows i [] lt)

-- a form and its values keep within their words, at counts up to the grid's
pub record KeepsForm (width : Width) (plant : Plant) (form : List ℚ) : Type 0 where
  pub size : length form ≡ plant.n + 1
  pub can_have : CanHaveForm width form
  pub values_small : (ts : List ℕ) → AreUpTo ts (limits_of plant) → reach (whole form).k (1 ∷ ts) < greatest width

module _ (inputs : MovesEachInput) (parts : Parts) (ok : IsController parts.plant parts.laws parts.tree) (width : Width) (is : width ≡ width_of parts) (j : ℕ) (law : LawOfSet) (at : slice_get parts.laws j ≡ Some law) (input : ℕ) (below : input < parts.plant.p) where
  abbrev form : List ℚ
  form = first_move_form law input

  shape : IsLawFor parts.plant law
  shape = all_at (IsLawFor parts.plant) parts.laws j law at ok.shapes.laws_fit

  fits : FormFits (limits_of parts.plant) form
  fits = all_at (LawFits parts.plant) parts.laws j law at ok.bounds.laws_fit input below

  rows : parts.plant.p ≤ length law.moves.rows
  rows = inputs parts.plant law shape

  size : length form ≡ parts.plant.n + 1
  size = shape.moves_shape.rectangular input [] (omega (arith, rows, below)) ∙ shape.moves_shape.columns_are

  keeps : (short : Bool) → (list_all (row_fits_word (spans_of parts.plant)) parts.tree && list_all (law_fits_word parts.plant) parts.laws) ≡ short → KeepsForm (if short then Short else Wide) parts.plant form
  keeps false e = record {
    size = size;
    can_have = record { fits = fits.whole; den_small = fits.whole.denom; numbers_small = all_mapped (scaled (common_denom form)) (λ z. unsigned_abs z < 2 ^ 127) form fits.whole.numers };
    values_small = λ ts up. let less : reach (whole form).k (1 ∷ ts) ≤ reach (whole form).k (1 ∷ limits_of parts.plant) = reach_mono (whole form).k (1 ∷ ts) (1 ∷ limits_of parts.plant) (omega arith, up) in let bound : reach (whole form).k (1 ∷ limits_of parts.plant) < 2 ^ 127 = fits.reach_fits in omega arith;
  }
  keeps true e =
      let tested : law_fits_word parts.plant law ≡ true = tested_at (law_fits_word parts.plant) parts.laws j law at (both _ _ e).1 in
      let here : form_fits_word (spans_of parts.plant) form ≡ true = tested_at (form_fits_word (spans_of parts.plant)) (take parts.plant.p law.moves.rows) input form (row_there law.moves.rows parts.plant.p input rows below) tested in
      let den : nat_lt (common_denom form) (2 ^ 63) ≡ true = (both _ _ here).0 in
      let far : nat_lt (reach (whole form).k (1 ∷ spans_of parts.plant)) (2 ^ 63) ≡ true = (both _ _ here).1 in
      let small : common_denom form < 2 ^ 63 = grind (arith, nat_tests) in
      let near : reach (whole form).k (1 ∷ spans_of parts.plant) < 2 ^ 63 = grind (arith, nat_tests) in
      record {
        size = size;
        can_have = record {
          fits = fits.whole;
          den_small = small;
          numbers_small = lead_small (2 ^ 63) (whole form).k parts.plant.grid (length-map form (scaled (common_denom form)) ∙ size ∙ ap (λ n. n + 1) (sym parts.plant.is_plant.grid_size)) near;
        };
        values_small = λ ts up. let less : reach (whole form).k (1 ∷ ts) ≤ reach (whole form).k (1 ∷ spans_of parts.plant) = reach_mono (whole form).k (1 ∷ ts) (1 ∷ spans_of parts.plant) (omega arith, up_to_spans ts parts.plant.grid up) in omega arith;
      }

  pub keeps_form : KeepsForm width parts.plant form
  keeps_form = subst (λ w. KeepsForm w parts.plant form) (sym is) (keeps _ refl)
