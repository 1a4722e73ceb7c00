-- Planes are read, each with a line of its own.
use Rattle.std.proofs.Common.{◌≡◌, ◌↔◌, ◌⊎◌, ℕ, ◌^◌, ◌<◌, ◌≤◌, List, [], ◌∷◌, ◌++◌, length, get_or, All, ℤ, nat_lt, codes, Result, Ok, Err, IsErrAnd, inl, inr, refl, sym, ap, ◌∙◌, subst, arith}
use Rattle.std.specs.Prelude.{Contains}
use Rattle.std.proofs.lemmas.List.Elements.{All-nil, All-contains, All-push, All-weaker, Contains-get_or, Contains-append_left, Contains-push}
use Rattle.mpc_linear.specs.declared.integers.RowInt.{RowInt}
use Rattle.mpc_linear.specs.Whole.{AreSmall}
use Rattle.mpc_plant.specs.declared.plants.Plant.{Plant}
use Rattle.mpc_grammar.specs.Reading.{Cursor, one_line, ReadsItems, Outcome}
use Rattle.mpc_grammar.specs.declared.errors.FileError.{FileError}
use Rattle.mpc_law_lines.specs.TreeReading.{plane_rows}
use Rattle.mpc_grammar.specs.Outcomes.{item_error, asks_for_more}
use Rattle.mpc_grammar.specs.Lines.{count_line}
use Rattle.mpc_grammar.specs.TreeGrammar.{IsPlane, IsRowOf, IsPlaneLine, IsNoPlane, plane_rule}
use Rattle.mpc_law_lines.specs.PlaneReading.{plane_text, AreLinesOf}
use Rattle.mpc_grammar.specs.PlantGrammar.{StatesNew}
use Rattle.mpc_grammar.specs.LineTheorems.{OneIntegers}

-- a row's entries and its bound
same_ends : (a c : List ℤ) (b d : ℤ) → a ++ b ∷ [] ≡ c ++ d ∷ [] → (a ≡ c) × (b ≡ d)
same_ends [] [] b d e = let f : b ≡ d = cc in (refl, f)
same_ends [] (z ∷ []) b d e = absurd (let f : length (b ∷ []) ≡ length (z ∷ d ∷ []) = ap length e in omega arith)
same_ends [] (z ∷ y ∷ c) b d e = absurd (let f : length (b ∷ []) ≡ length (z ∷ y ∷ (c ++ d ∷ [])) = ap length e in omega arith)
same_ends (x ∷ []) [] b d e = absurd (let f : length (x ∷ b ∷ []) ≡ length (d ∷ []) = ap length e in omega arith)
same_ends (x ∷ y ∷ a) [] b d e = absurd (let f : length (x ∷ y ∷ (a ++ b ∷ [])) ≡ length (d ∷ []) = ap length e in omega arith)
same_ends (x ∷ a) (z ∷ c) b d e =
    let first : x ≡ z = cc in
    let rest : a ++ b ∷ [] ≡ c ++ d ∷ [] = cc in
    let r = same_ends a c b d rest in
    ((λ i. first i ∷ r.0 i), r.1)

same_row : (x y : RowInt) → x.a ++ x.b ∷ [] ≡ y.a ++ y.b ∷ [] → x ≡ y
same_row x y e = let r = same_ends x.a y.a x.b y.b e in λ i. record { a = r.0 i; b = r.1 i }

module _ (one : OneIntegers) (lines : List (List ℕ)) (rows : List RowInt) (are : AreLinesOf lines rows) (n : ℕ) (text : List ℕ) where
  -- a plane whose line stands before
  found : Contains lines text → (x : RowInt) → IsRowOf (codes "plane") n text x → Contains rows x
  found h x is =
      let r = All-contains (λ t. (row : RowInt) × (Contains rows row × (t ≡ plane_text row))) lines text are.each_row h in
      let p = All-contains (λ row. IsPlane row × AreSmall (row.a ++ row.b ∷ [])) rows r.0 are.each_plane r.1.0 in
      let same : x ≡ r.0 = same_row x r.0 (one (codes "plane") (x.a ++ x.b ∷ []) (r.0.a ++ r.0.b ∷ []) is.small p.1 (sym is.spelled ∙ r.1.1)) in
      subst (Contains rows) (sym same) r.1.0

  pub not_new : ¬ (¬ Contains lines text) → (x : RowInt) → ¬ StatesNew rows (IsPlaneLine (codes "plane") n) text x
  not_new h x is = h (λ c. is.new_one (found c x is.stated.row_is))

  pub no_other : ¬ (¬ Contains lines text) → ¬ IsNoPlane (codes "plane") n text
  no_other h (row, (is, none)) = h (λ c. none (All-contains (λ r. IsPlane r × AreSmall (r.a ++ r.b ∷ [])) rows row are.each_plane (found c row is)).0)

  -- a plane whose line doesn't
  pub is_new : ¬ Contains lines text → (x : RowInt) → IsPlaneLine (codes "plane") n text x → StatesNew rows (IsPlaneLine (codes "plane") n) text x
  is_new h x is =
      record {
        stated = is;
        new_one = λ c. h (subst (Contains lines) (sym is.row_is.spelled) (All-contains (λ row. Contains lines (plane_text row)) rows x are.each_line c));
      }

  All-by : {X : Type 0} (P : X → Type 0) (xs : List X) → ((x : X) → Contains xs x → P x) → All P xs
  All-by P xs f = λ k d h. f (get_or xs k d) (Contains-get_or xs k d h)

  -- one plane more
  pub one_plane_more : (more : List (List ℕ)) → ((t : List ℕ) → Contains more t ↔ (Contains lines t ⊎ (t ≡ text))) → (x : RowInt) → IsPlaneLine (codes "plane") n text x → AreLinesOf more (rows ++ x ∷ [])
  one_plane_more more has x is =
      record {
        each_line = All-push (λ row. Contains more (plane_text row)) rows x (All-weaker (λ row. Contains lines (plane_text row)) (λ row. Contains more (plane_text row)) (λ row c. (has (plane_text row)).1 (inl c)) rows are.each_line)
            ((has (plane_text x)).1 (inr (sym is.row_is.spelled)));
        each_plane = All-push (λ row. IsPlane row × AreSmall (row.a ++ row.b ∷ [])) rows x are.each_plane (is.plane, is.row_is.small);
        each_row = All-by (λ t. (row : RowInt) × (Contains (rows ++ x ∷ []) row × (t ≡ plane_text row))) more (λ t c. row_of t ((has t).0 c));
      }
    where
      row_of : (t : List ℕ) → Contains lines t ⊎ (t ≡ text) → (row : RowInt) × (Contains (rows ++ x ∷ []) row × (t ≡ plane_text row))
      row_of t (inl c) =
          let r = All-contains (λ t. (row : RowInt) × (Contains rows row × (t ≡ plane_text row))) lines t are.each_row c in
          (r.0, (Contains-append_left rows (x ∷ []) r.0 r.1.0, r.1.1))
      row_of t (inr e) = (x, (Contains-push rows x, e ∙ is.row_is.spelled))

pub no_lines : (lines : List (List ℕ)) (rows : List RowInt) → lines ≡ [] → rows ≡ [] → AreLinesOf lines rows
no_lines lines rows e f = subst (λ ls. AreLinesOf ls rows) (sym e) (subst (AreLinesOf []) (sym f) (record { each_line = All-nil (λ row. Contains [] (plane_text row)); each_plane = All-nil (λ row. IsPlane row × AreSmall (row.a ++ row.b ∷ [])); each_row = All-nil (λ t. (row : RowInt) × (Contains [] row × (t ≡ plane_text row))) }))

-- ---- the lines of planes
pub too_long : ((name : List ℕ) (m n : ℕ) → m < 10 ^ 64 → n < 10 ^ 64 → count_line name m ≡ count_line name n → m ≡ n) → (text : List ℕ) (n count : ℕ) → text ≡ count_line (codes "planes") n → n < 2 ^ 64 → 10 ^ 18 ≤ n → text ≡ count_line (codes "planes") count → ¬ (count < 10 ^ 18)
too_long one text n count e h long f short =
    let n_short : n < 10 ^ 64 = omega arith in
    let count_short : count < 10 ^ 64 = omega arith in
    let same : n ≡ count = one (codes "planes") n count n_short count_short (sym e ∙ f) in
    omega (arith, same)

module _ (plant : Plant) (count : ℕ) where
  pub rows_error : (here between behind end : Cursor) (rows : List RowInt) (answer : Result (List RowInt) FileError) (error : FileError) → ReadsItems RowInt (λ before. one_line (plane_rule plant before)) (λ before. nat_lt (length before) count) here rows between
      → length rows < count → Outcome (one_line (plane_rule plant rows)) between behind (Err error) → IsErrAnd answer (λ e. e ≡ error) → Outcome (plane_rows plant count) here end answer
  rows_error here between behind end rows (Ok read) error reads more h e = absurd e
  rows_error here between behind end rows (Err told) error reads more h e =
      subst (λ x. Outcome (plane_rows plant count) here end (Err x)) (sym e)
      (item_error (λ (before : List RowInt). one_line (plane_rule plant before)) (λ (before : List RowInt). nat_lt (length before) count) here between behind end rows error reads (asks_for_more rows count more) h)
