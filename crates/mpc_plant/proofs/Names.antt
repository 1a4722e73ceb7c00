-- A text among texts behind references.
use Rattle.std.proofs.Common.{◌≡◌, ℕ, ◌<◌, List, [], map, get_or, Contains, Bor, sym, ◌∙◌, subst, ap, nat_eq, Bool, refl}
use Rattle.std.specs.Bool.{Decides}
use Rattle.std.specs.List.{list_any}
use Rattle.std.proofs.lemmas.List.{length-map, get_or-map}
use Rattle.std.proofs.lemmas.List.Folds.{Any-from_list_any, list_any_at}
use Rattle.std.proofs.lemmas.Bool.Decides.{Decides-eqb}
use Rattle.std.proofs.lemmas.Slice.Eq.{slice_eq-Decides}
use lib.Pointwise.{pointwise}

abbrev pub texts : List (Bor (List ℕ)) → List (List ℕ)
texts names = map (λ n. n.now) names

no_text : Bor (List ℕ)
no_text = record { ref_ptr = (0, 0); now = [] }

-- the test of `contains` at one name
abbrev pub names_equal : List ℕ → Bor (List ℕ) → Bool
names_equal name known = pointwise nat_eq known.now name

equal-Decides : (name : List ℕ) (known : Bor (List ℕ)) → Decides (names_equal name known) (known.now ≡ name)
equal-Decides name known = slice_eq-Decides Decides-eqb known.now name (names_equal name known) refl

pub listed-Decides : (names : List (Bor (List ℕ))) (name : List ℕ) → Decides (list_any (names_equal name) names) (Contains (texts names) name)
listed-Decides names name = (
  λ e.
      let found = Any-from_list_any (names_equal name) names e in
      let at : (get_or names found.0 found.1).now ≡ name = ap (λ n. n.now) found.3 ∙ (equal-Decides name found.1).0 found.4 in
      (found.0, subst (λ n. found.0 < n) (sym (length-map names (λ n. n.now))) found.2, get_or-map (λ n. n.now) names found.0 found.1 name found.2 ∙ at),
  λ found.
      let within = subst (λ n. found.0 < n) (length-map names (λ n. n.now)) found.1 in
      list_any_at (names_equal name) names found.0 no_text within ((equal-Decides name (get_or names found.0 no_text)).1 (sym (get_or-map (λ n. n.now) names found.0 no_text name within) ∙ found.2)),
)
