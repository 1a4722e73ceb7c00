-- A matrix that is written row by row.
use Rattle.std.proofs.Common.{◌≡◌, ℕ, zero, suc, ◌+◌, ◌<◌, ◌≤◌, List, [], ◌∷◌, ◌++◌, length, get_or, set, replicate, All, take, drop, pos, refl, sym, ◌∙◌, ap, add-one, arith}
use Rattle.std.proofs.lemmas.List.{set-set, set-get_or, get_or-set_same, append-nil, drop_all, take_all, length-replicate}
use Rattle.std.proofs.lemmas.Grind.{take-set_at}
use Rattle.std.proofs.lemmas.List.Elements.{All-set, All-replicate}
use Rattle.mpc_exact.specs.Rational.{ℚ, int}
use Rattle.mpc_space.specs.Matrix.{RationalMatrix}
use Rattle.mpc_linear.specs.Entries.{with_entry}

-- the first j entries of a row put in front of the others of an old one
abbrev pub mixed : ℕ → List ℚ → List ℚ → List ℚ
mixed j row old = take j row ++ drop j old

mixed-suc : (row old : List ℚ) (j : ℕ) (d : ℚ) → j < length row → length row ≡ length old → set (mixed j row old) j (get_or row j d) ≡ mixed (suc j) row old
mixed-suc [] old j d h same = absurd (omega arith)
mixed-suc (x ∷ row) [] j d h same = absurd (omega arith)
mixed-suc (x ∷ row) (y ∷ old) zero d h same = refl
mixed-suc (x ∷ row) (y ∷ old) (suc j) d h same = ap (λ l. x ∷ l) (mixed-suc row old j d (omega arith) (omega arith))

-- nothing of the row is written
pub row_start : (rows : List (List ℚ)) (i : ℕ) (row : List ℚ) → rows ≡ set rows i (mixed 0 row (get_or rows i []))
row_start rows i row = sym (set-get_or rows i [])

-- one entry more is written
pub row_step : (rows : List (List ℚ)) (i j : ℕ) (row : List ℚ) (m next : RationalMatrix) (v : ℚ) → i < length rows → j < length row → length row ≡ length (get_or rows i []) → m.rows ≡ set rows i (mixed j row (get_or rows i []))
    → v ≡ get_or row j (int (pos 0)) → next ≡ with_entry m i j v → next.rows ≡ set rows i (mixed (j + 1) row (get_or rows i []))
row_step rows i j row m next v h k same so at e =
    let old = get_or rows i [] in
    let here : get_or m.rows i [] ≡ mixed j row old = ap (λ l. get_or l i []) so ∙ get_or-set_same rows i (mixed j row old) [] h in
    let filled : set (get_or m.rows i []) j v ≡ mixed (suc j) row old = (λ x. set (here x) j (at x)) ∙ mixed-suc row old j (int (pos 0)) k same in
    ap (λ w. w.rows) e ∙ (λ x. set (so x) i (filled x)) ∙ set-set rows i (mixed j row old) (mixed (suc j) row old) ∙ ap (λ n. set rows i (mixed n row old)) (sym (add-one j))

-- all of it is
pub row_end : (rows : List (List ℚ)) (i j : ℕ) (row : List ℚ) (m : RationalMatrix) → length row ≤ j → length (get_or rows i []) ≤ j → m.rows ≡ set rows i (mixed j row (get_or rows i [])) → m.rows ≡ set rows i row
row_end rows i j row m h k so =
    so ∙ ap (λ l. set rows i l) ((λ x. take_all j row h x ++ drop_all j (get_or rows i []) k x) ∙ append-nil row)

-- ---- all rows
pub rectangular-set : (rows : List (List ℚ)) (columns i : ℕ) (row : List ℚ) → All (λ r. length r ≡ columns) rows → length row ≡ columns → All (λ r. length r ≡ columns) (set rows i row)
rectangular-set rows columns i row h e = All-set (λ r. length r ≡ columns) rows i row e h

pub zeros_rectangular : (n columns : ℕ) → All (λ r. length r ≡ columns) (replicate n (replicate columns (int (pos 0))))
zeros_rectangular n columns = All-replicate (λ r. length r ≡ columns) n (replicate columns (int (pos 0))) (length-replicate columns (int (pos 0)))

-- one row more
pub take-written : (rows : List (List ℚ)) (i : ℕ) (row : List ℚ) → i < length rows → take (i + 1) (set rows i row) ≡ take i rows ++ row ∷ []
take-written rows i row h = take-set_at rows i (i + 1) row refl h
