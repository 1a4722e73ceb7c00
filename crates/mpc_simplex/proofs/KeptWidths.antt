-- The rows of a longer system have one coefficient for each unknown.
use Rattle.std.proofs.Common.{◌≡◌, ℕ, ◌<◌, List, [], ◌∷◌, map, length, ◌∙◌, subst}
use Rattle.std.proofs.lemmas.List.{length-map}
use Rattle.std.proofs.lemmas.List.Elements.{All-get_or, All-append, All-push}
use Rattle.mpc_exact.specs.Rational.{int}
use Rattle.mpc_space.proofs.Entries.{length-scale}
use Rattle.mpc_linear.specs.declared.integers.RowInt.{RowInt}
use Rattle.mpc_rows.specs.declared.systems.Row.{Row}
use Rattle.mpc_rows.specs.LinearSystem.{LinearSystem, HasWidth, height, row_at, no_row}
use Rattle.mpc_rows.specs.SetRuns.{turned}
use Rattle.mpc_rows.specs.LawRows.{broken_row}
use Rattle.mpc_beginnings.specs.Beginnings.{lengthened}

abbrev pub AreWide : LinearSystem → Type 0
AreWide s = HasWidth s.width s.rows

module _ (s : LinearSystem) (w : AreWide s) where
  pub same_widths : (t : LinearSystem) → s ≡ t → AreWide t
  same_widths t e = subst AreWide e w

  pub one_width : (r : Row) → length r.a ≡ s.width → AreWide (lengthened s (r ∷ []))
  one_width r h = record { each = All-push (λ (q : Row). length q.a ≡ s.width) s.rows r w.each h }

  pub turned_width : (i : ℕ) → i < height s → AreWide (lengthened s (turned (row_at s i) ∷ []))
  turned_width i h = one_width (turned (row_at s i)) (length-scale _ (row_at s i).a ∙ All-get_or (λ (q : Row). length q.a ≡ s.width) s.rows i no_row h w.each)

  pub broken_width : (row : RowInt) → length row.a ≡ s.width → AreWide (lengthened s (broken_row row ∷ []))
  broken_width row h = one_width (broken_row row) (length-scale _ (map int row.a) ∙ length-map row.a int ∙ h)

  pub more_widths : (rows : List Row) → HasWidth s.width rows → AreWide (lengthened s rows)
  more_widths rows h = record { each = All-append (λ (q : Row). length q.a ≡ s.width) s.rows rows w.each h.each }
