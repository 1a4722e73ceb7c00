-- What the numbers of a plant's line state, and that they state nothing else.
use Rattle.std.proofs.Common.{◌≡◌, ◌≢◌, ℕ, ◌+◌, ◌*◌, ◌<◌, ◌^◌, List, [], ◌∷◌, length, ℤ, pos, unsigned_abs, codes, Option, Some, None, MatchOption, Result, Ok, Err, IsErrAnd, ◌⊎◌, inl, inr, refl, sym, ◌∙◌, ap, subst, arith}
use Rattle.std.proofs.lemmas.List.Elements.{All-nil, All-cons}
use Rattle.mpc_exact.specs.Rational.{ℚ}
use Rattle.mpc_space.specs.Vector.{IsSymmetric}
use Rattle.mpc_space.specs.Matrix.{RationalMatrix}
use Rattle.mpc_linear.specs.Grid.{grid}
use Rattle.mpc_linear.specs.GridTheorems.{GridTheorems}
use Rattle.mpc_grammar.specs.Lines.{fractions_line, integers_line}
use Rattle.mpc_grammar.specs.Spelling.{AreFractions, AreIntegers}
use Rattle.mpc_grammar.specs.LineTheorems.{OneFractions, OneIntegers}
use Rattle.mpc_grammar.specs.PlantGrammar.{AreSizes, IsMatrix, IsWeightLine, IsGoal, MayHave, offset_lines, offsets, weight, weights, AreNumbers}
use Rattle.mpc_plant_lines.specs.PlantNumbers.{AreSizeNumbers}
use Rattle.mpc_grammar.specs.Reading.{Cursor, Outcome}
use Rattle.mpc_grammar.specs.declared.errors.FileError.{FileError}
use Rattle.mpc_grammar.specs.declared.versions.Version.{Version}
use Rattle.mpc_grammar.specs.declared.versions.Version.TheVariants.{One, Two, Three}
use Rattle.mpc_grammar.specs.declared.plant_parts.Sizes.{Sizes}
use Rattle.mpc_grammar.specs.declared.plant_parts.Offsets.{Offsets}
use Rattle.mpc_grammar.specs.declared.plant_parts.Weights.{Weights}
use Rattle.mpc_grammar.specs.Outcomes.{error_from}
use Rattle.mpc_grammar.specs.Fractions.{entries_fit}
use Rattle.mpc_plant_lines.proofs.PlantLineLemmas.{joined, joined-grid, grid-fits, grid-shape, entries_many, grid-joined}

-- ---- a line states its numbers alone
same_fractions : OneFractions → (name text : List ℕ) (xs ys : List ℚ) → AreFractions name text xs → AreFractions name text ys → xs ≡ ys
same_fractions one name text xs ys a b = one name xs ys a.fits b.fits (sym a.spelled ∙ b.spelled)

same_integers : OneIntegers → (name text : List ℕ) (xs ys : List ℤ) → AreIntegers name text xs → AreIntegers name text ys → xs ≡ ys
same_integers one name text xs ys a b = one name xs ys a.small b.small (sym a.spelled ∙ b.spelled)

-- ---- the sizes
module _ (text : List ℕ) where
  sizes_numbers : (s : Sizes) → AreSizes text s → AreIntegers (codes "size") text (pos s.states ∷ pos s.inputs ∷ pos s.steps ∷ [])
  sizes_numbers s h =
      let Small : ℤ → Type 0 = λ z. unsigned_abs z < 2 ^ 127 in
      let a : s.states < 2 ^ 127 = omega (arith, h.states.to_high) in
      let b : s.inputs < 2 ^ 127 = omega (arith, h.inputs.to_high) in
      let c : s.steps < 2 ^ 127 = omega (arith, h.steps.to_high) in
      record {
        spelled = h.spelled;
        small = All-cons Small (pos s.states) (pos s.inputs ∷ pos s.steps ∷ []) a (All-cons Small (pos s.inputs) (pos s.steps ∷ []) b (All-cons Small (pos s.steps) [] c (All-nil Small)));
      }

  pub no_sizes : ((zs : List ℤ) → ¬ AreIntegers (codes "size") text zs) → (s : Sizes) → ¬ AreSizes text s
  no_sizes none s h = none (pos s.states ∷ pos s.inputs ∷ pos s.steps ∷ []) (sizes_numbers s h)

  module _ (one : OneIntegers) (zs : List ℤ) (numbers : AreIntegers (codes "size") text zs) where
    sizes_are : (s : Sizes) → AreSizeNumbers zs s → AreSizes text s
    sizes_are s h = record {
      spelled = numbers.spelled ∙ ap (λ ys. integers_line (codes "size") ys) h.numbers;
      states = h.states;
      inputs = h.inputs;
      steps = h.steps;
      moves_few = h.moves_few;
    }

    size_numbers : (s : Sizes) → AreSizes text s → AreSizeNumbers zs s
    size_numbers s h = record {
      numbers = same_integers one (codes "size") text zs (pos s.states ∷ pos s.inputs ∷ pos s.steps ∷ []) numbers (sizes_numbers s h);
      states = h.states;
      inputs = h.inputs;
      steps = h.steps;
      moves_few = h.moves_few;
    }

    pub sizes_told : (r : Option Sizes) → MatchOption r ((s : Sizes) → ¬ AreSizeNumbers zs s) (λ s. AreSizeNumbers zs s) → MatchOption r ((s : Sizes) → ¬ AreSizes text s) (λ s. AreSizes text s)
    sizes_told None none = λ s h. none s (size_numbers s h)
    sizes_told (Some s) h = sizes_are s h

-- ---- a matrix
module _ (name text : List ℕ) (rows columns : ℕ) where
  matrix_numbers : (m : RationalMatrix) → IsMatrix name rows columns text m → AreFractions name text (joined m.rows)
  matrix_numbers m h = record { spelled = h.spelled; fits = entries_fit m.rows h.fits }

  pub no_matrix : ((xs : List ℚ) → ¬ AreFractions name text xs) → (m : RationalMatrix) → ¬ IsMatrix name rows columns text m
  no_matrix none m h = none (joined m.rows) (matrix_numbers m h)

  pub matrix_is : GridTheorems → (xs : List ℚ) (m : RationalMatrix) → AreFractions name text xs → length xs ≡ rows * columns → m ≡ grid rows columns xs → IsMatrix name rows columns text m
  matrix_is grids xs m h size e = subst (IsMatrix name rows columns text) (sym e) (record {
    spelled = h.spelled ∙ ap (λ ys. fractions_line name ys) (sym (joined-grid rows columns xs size));
    shape = grid-shape grids rows columns xs size;
    fits = grid-fits rows columns xs h.fits;
  })

  pub wrong_size : OneFractions → (xs : List ℚ) → AreFractions name text xs → length xs ≢ rows * columns → (m : RationalMatrix) → ¬ IsMatrix name rows columns text m
  wrong_size one xs h ne m is = ne (ap length (same_fractions one name text xs (joined m.rows) h (matrix_numbers m is)) ∙ entries_many m rows columns is.shape)

  pub one_matrix : OneFractions → (m other : RationalMatrix) → IsMatrix name rows columns text m → IsMatrix name rows columns text other → m ≡ other
  one_matrix one m other h k =
      sym (grid-joined m rows columns h.shape) ∙ ap (grid rows columns) (same_fractions one name text (joined m.rows) (joined other.rows) (matrix_numbers m h) (matrix_numbers other k)) ∙ grid-joined other rows columns k.shape

module _ (name text : List ℕ) (size : ℕ) where
  pub no_weight : ((m : RationalMatrix) → ¬ IsMatrix name size size text m) → (m : RationalMatrix) → ¬ IsWeightLine name size text m
  no_weight none m h = none m h.matrix_is

  pub not_symmetric : OneFractions → (m : RationalMatrix) → IsMatrix name size size text m → ¬ IsSymmetric m.rows → (other : RationalMatrix) → ¬ IsWeightLine name size text other
  not_symmetric one m h differs other k =
      differs (subst (λ (w : RationalMatrix). IsSymmetric w.rows) (one_matrix name text size size one other m k.matrix_is h) k.symmetric)

  pub weight_line : (m : RationalMatrix) → IsMatrix name size size text m → IsSymmetric m.rows → IsWeightLine name size text m
  weight_line m h s = record { matrix_is = h; symmetric = s }

-- ---- the drift and the targets
module _ (one : OneFractions) (name text : List ℕ) (count : ℕ) where
  numbers_found : (numbers : List ℚ) → AreNumbers name count text numbers → AreFractions name text numbers
  numbers_found numbers is = record { spelled = is.spelled; fits = is.fits }

  pub other_size : (xs : List ℚ) → AreFractions name text xs → length xs ≢ count → (numbers : List ℚ) → ¬ AreNumbers name count text numbers
  other_size xs h ne numbers is = ne (ap length (same_fractions one name text xs numbers h (numbers_found numbers is)) ∙ is.size)

pub not_allowed : OneFractions → (version : Version) (s : Sizes) (drift : List ℚ) (text : List ℕ) (goal : List ℚ) → AreNumbers (codes "goal") (s.states + s.inputs) text goal → ¬ MayHave version drift goal → (other : List ℚ) → ¬ IsGoal version s drift text other
not_allowed one version s drift text goal h refused other k =
    let found : (xs : List ℚ) → AreNumbers (codes "goal") (s.states + s.inputs) text xs → AreFractions (codes "goal") text xs = numbers_found one (codes "goal") text (s.states + s.inputs) in
    refused (subst (MayHave version drift) (same_fractions one (codes "goal") text other goal (found other k.numbers_are) (found goal h)) k.allowed)

-- ---- what was found
pub some_fractions : (name text : List ℕ) (r : Option (List ℚ)) (xs : List ℚ) → r ≡ Some xs → MatchOption r ((ys : List ℚ) → ¬ AreFractions name text ys) (λ ys. AreFractions name text ys) → AreFractions name text xs
some_fractions name text r xs e h = subst (λ o. MatchOption o ((ys : List ℚ) → ¬ AreFractions name text ys) (λ ys. AreFractions name text ys)) e h

pub no_fractions : (name text : List ℕ) (r : Option (List ℚ)) → ((xs : List ℚ) → r ≢ Some xs) → MatchOption r ((ys : List ℚ) → ¬ AreFractions name text ys) (λ ys. AreFractions name text ys) → (ys : List ℚ) → ¬ AreFractions name text ys
no_fractions name text None ne h = h
no_fractions name text (Some xs) ne h = absurd (ne xs refl)

pub no_integers : (name text : List ℕ) (r : Option (List ℤ)) → r ≡ None → MatchOption r ((zs : List ℤ) → ¬ AreIntegers name text zs) (λ zs. AreIntegers name text zs) → (zs : List ℤ) → ¬ AreIntegers name text zs
no_integers name text r e h = subst (λ o. MatchOption o ((zs : List ℤ) → ¬ AreIntegers name text zs) (λ zs. AreIntegers name text zs)) e h

pub some_integers : (name text : List ℕ) (r : Option (List ℤ)) (zs : List ℤ) → r ≡ Some zs → MatchOption r ((ys : List ℤ) → ¬ AreIntegers name text ys) (λ ys. AreIntegers name text ys) → AreIntegers name text zs
some_integers name text r zs e h = subst (λ o. MatchOption o ((ys : List ℤ) → ¬ AreIntegers name text ys) (λ ys. AreIntegers name text ys)) e h

-- ---- the versions that tell of offsets
pub told_offsets : (s : Sizes) (here behind : Cursor) (version : Version) (r : Result Offsets FileError) → (version ≡ Two) ⊎ (version ≡ Three) → Outcome (offset_lines version s) here behind r → Outcome (offsets version s) here behind r
told_offsets s here behind One r (inl e) h = cc
told_offsets s here behind One r (inr e) h = cc
told_offsets s here behind Two r e h = h
told_offsets s here behind Three r e h = h

-- ---- the third weight fails behind the others
pub last_fails : (s : Sizes) (here first second behind : Cursor) (q r : RationalMatrix) (answer : Result Weights FileError) (error : FileError) → (weight (codes "Q") s.states).Reads here q first → (weight (codes "R") s.inputs).Reads first r second
    → Outcome (weight (codes "P") s.states) second behind (Err error) → IsErrAnd answer (λ e. e ≡ error) → Outcome (weights s) here behind answer
last_fails s here first second behind q r (Ok w) error reads then failed e = absurd e
last_fails s here first second behind q r (Err told) error reads then failed e =
    subst (λ x. Outcome (weights s) here behind (Err x)) (sym e)
    (error_from (weight (codes "P") s.states) (weights s) second behind here behind error (λ kind number f. inr (q, (first, (reads, inr (r, (second, (then, inl f))))))) failed)
