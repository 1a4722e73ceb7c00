-- What the functions know that read planes, and splits that name them.
use Rattle.std.specs.Prelude.{◌≡◌, ℕ, List, [], ◌∷◌, ◌++◌, All, Contains, codes}
use Rattle.mpc_linear.specs.declared.integers.RowInt.{RowInt}
use Rattle.mpc_law_lines.specs.declared.named_trees.SplitLine.{SplitLine}
use Rattle.mpc_law_lines.specs.declared.named_trees.SplitLine.TheVariants.{Plane, NoPlane, NoSplit}
use Rattle.mpc_linear.specs.Whole.{AreSmall}
use Rattle.mpc_grammar.specs.Lines.{integers_line}
use Rattle.mpc_grammar.specs.PlantGrammar.{IsNumber}
use Rattle.mpc_grammar.specs.TreeGrammar.{IsPlane, IsNext, NamesNone}

-- the line is no split's
pub record IsNoSplit (all used : ℕ) (text : List ℕ) : Type 0 where
  pub no_plane : (k : ℕ) → ¬ IsNumber (codes "split") (IsNext all used) text k
  pub no_number : ¬ NamesNone (codes "split") (IsNext all used) text

-- which plane a line names
abbrev pub ReadsNamedSplit : ℕ → ℕ → List ℕ → SplitLine → Type 0
ReadsNamedSplit all used text (Plane k) = IsNumber (codes "split") (IsNext all used) text k
ReadsNamedSplit all used text NoPlane = NamesNone (codes "split") (IsNext all used) text
ReadsNamedSplit all used text NoSplit = IsNoSplit all used text

-- the line of a plane
abbrev pub plane_text : RowInt → List ℕ
plane_text row = integers_line (codes "plane") (row.a ++ row.b ∷ [])

-- the lines are those of these planes
pub record AreLinesOf (lines : List (List ℕ)) (rows : List RowInt) : Type 0 where
  pub each_line : All (λ row. Contains lines (plane_text row)) rows
  pub each_plane : All (λ row. IsPlane row × AreSmall (row.a ++ row.b ∷ [])) rows
  pub each_row : All (λ text. (row : RowInt) × (Contains rows row × (text ≡ plane_text row))) lines
