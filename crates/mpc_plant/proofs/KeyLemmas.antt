-- The first key of an object that is none of the given ones, against what stands at each key.
use Rattle.std.proofs.Common.{◌≡◌, ℕ, List, ◌∷◌, get_or, Contains, Bool, true, false, Some, string_bytes, refl, sym, ◌∙◌, subst, ap}
use Rattle.std.specs.Bool.{Decides}
use Rattle.std.specs.List.{list_any}
use Rattle.std.specs.Str.{bytes_eq}
use Rattle.std.proofs.lemmas.List.Folds.{Any-from_list_any, list_any_at}
use Rattle.std.proofs.lemmas.Slice.Eq.{bytes_eq-Decides}
use Rattle.serde_json.specs.View.{members_view}
use Rattle.serde_json.proofs.Views.{Entry}
use Rattle.mpc_plant.specs.Keys.{first_other}

pub listed-Decides : (keys : List (List ℕ)) (key : List ℕ) → Decides (list_any (bytes_eq key) keys) (Contains keys key)
listed-Decides keys key = (
  λ e.
      let found = Any-from_list_any (bytes_eq key) keys e in
      (found.0, found.2, subst (λ x. get_or keys found.0 x ≡ x) (sym ((bytes_eq-Decides key found.1).0 found.4)) found.3),
  λ found. list_any_at (bytes_eq key) keys found.0 key found.1 ((bytes_eq-Decides key _).1 (sym found.2)),
)

listed_false : (keys : List (List ℕ)) (key : List ℕ) (b : Bool) → list_any (bytes_eq key) keys ≡ b → ¬ Contains keys key → b ≡ false
listed_false keys key true e h = absurd (h ((listed-Decides keys key).0 e))
listed_false keys key false e h = refl

pub first_other_passes : (keys : List (List ℕ)) (e : Entry) (es : List Entry) → Contains keys (string_bytes e.0) → first_other keys (members_view (e ∷ es)) ≡ first_other keys (members_view es)
first_other_passes keys e es h = rw ((listed-Decides keys (string_bytes e.0)).1 h)

pub first_other_finds : (keys : List (List ℕ)) (e : Entry) (es : List Entry) → ¬ Contains keys (string_bytes e.0) → first_other keys (members_view (e ∷ es)) ≡ Some (string_bytes e.0)
first_other_finds keys e es h = rw (listed_false keys (string_bytes e.0) _ refl h)

-- one turn of a loop over the members that are left
pub other_turn : (keys : List (List ℕ)) (all left rest : List Entry) (e : Entry) (text : List ℕ) → first_other keys (members_view all) ≡ first_other keys (members_view left) → left ≡ e ∷ rest
    → text ≡ string_bytes e.0 → Contains keys text → first_other keys (members_view all) ≡ first_other keys (members_view rest)
other_turn keys all left rest e text so_far s is h = so_far ∙ ap (λ es. first_other keys (members_view es)) s ∙ first_other_passes keys e rest (subst (λ x. Contains keys x) is h)

pub other_found : (keys : List (List ℕ)) (all left rest : List Entry) (e : Entry) (text : List ℕ) → first_other keys (members_view all) ≡ first_other keys (members_view left) → left ≡ e ∷ rest
    → text ≡ string_bytes e.0 → ¬ Contains keys text → Some (string_bytes e.0) ≡ first_other keys (members_view all)
other_found keys all left rest e text so_far s is h = sym (so_far ∙ ap (λ es. first_other keys (members_view es)) s ∙ first_other_finds keys e rest (subst (λ x. ¬ Contains keys x) is h))
