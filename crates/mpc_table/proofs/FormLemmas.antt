-- Lists of affine forms: the moves that they give, and their text.
use Rattle.std.proofs.Common.{◌≡◌, ℕ, zero, suc, ◌+◌, ◌<◌, List, [], ◌∷◌, ◌++◌, length, get_or, take, map, refl, sym, ◌∙◌, ap, subst, arith, append_assoc}
use Rattle.std.specs.List.{join_with_byte}
use Rattle.std.proofs.lemmas.List.{take_more, append-nil, length-map, get_or-map}
use Rattle.mpc_exact.specs.Rational.{ℚ}
use Rattle.mpc_space.specs.Vector.{dot, mat_vec}
use Rattle.mpc_linear.specs.declared.integers.IntAffine.{IntAffine}
use Rattle.mpc_plant.specs.Trajectory.{point_of}
use Rattle.mpc_rows.specs.ActiveSets.{extended}
use Rattle.mpc_frac.specs.Text.{text_of}
use Rattle.mpc_table.specs.Forms.{affine_value, affine_values, IsFormOf, AreFormsOf}

pub forms_more : (rows : List (List ℚ)) (forms : List IntAffine) (row : List ℚ) (form : IntAffine) → AreFormsOf rows forms → IsFormOf row form → AreFormsOf (rows ++ row ∷ []) (forms ++ form ∷ [])
forms_more [] [] row form h k = (k, tt)
forms_more [] (f ∷ fs) row form h k = absurd h
forms_more (r ∷ rs) [] row form h k = absurd h
forms_more (r ∷ rs) (f ∷ fs) row form h k = (h.0, forms_more rs fs row form h.1 k)

pub forms_next : (rows : List (List ℚ)) (i : ℕ) (forms new : List IntAffine) (row : List ℚ) (form : IntAffine) → i < length rows → row ≡ get_or rows i [] → new ≡ forms ++ form ∷ [] → AreFormsOf (take i rows) forms → IsFormOf row form → AreFormsOf (take (i + 1) rows) new
forms_next rows i forms new row form l is e h k =
    subst (λ rs. AreFormsOf rs new) (sym (take_more rows i [] l)) (subst (λ fs. AreFormsOf (take i rows ++ get_or rows i [] ∷ []) fs) (sym e) (subst (λ r. AreFormsOf (take i rows ++ r ∷ []) (forms ++ form ∷ [])) is (forms_more (take i rows) forms row form h k)))

pub forms_values : (rows : List (List ℚ)) (forms : List IntAffine) (ts : List ℕ) → AreFormsOf rows forms → affine_values forms ts ≡ mat_vec rows (extended (point_of ts))
forms_values [] [] ts h = refl
forms_values [] (f ∷ fs) ts h = absurd h
forms_values (r ∷ rs) [] ts h = absurd h
forms_values (r ∷ rs) (f ∷ fs) ts h = λ i. h.0.value ts i ∷ forms_values rs fs ts h.1 i

pub take-mat_vec : (n : ℕ) (rows : List (List ℚ)) (x : List ℚ) → take n (mat_vec rows x) ≡ mat_vec (take n rows) x
take-mat_vec zero rows x = refl
take-mat_vec (suc n) [] x = refl
take-mat_vec (suc n) (row ∷ rows) x = ap (λ r. dot row x ∷ r) (take-mat_vec n rows x)

-- ---- texts with a space between two
join_more : (c : ℕ) (x : List ℕ) (xs : List (List ℕ)) (y : List ℕ) → join_with_byte c ((x ∷ xs) ++ y ∷ []) ≡ join_with_byte c (x ∷ xs) ++ (c ∷ y)
join_more c x [] y = refl
join_more c x (z ∷ zs) y = ap (λ r. x ++ (c ∷ r)) (join_more c z zs y) ∙ sym (append_assoc x (c ∷ join_with_byte c (z ∷ zs)) (c ∷ y))

pub join_first : (c : ℕ) (xs : List (List ℕ)) (d : List ℕ) → 0 < length xs → join_with_byte c (take 1 xs) ≡ get_or xs 0 d
join_first c [] d h = absurd (omega arith)
join_first c (x ∷ xs) d h = refl

pub join_next : (c : ℕ) (xs : List (List ℕ)) (i : ℕ) (d : List ℕ) → 0 < i → i < length xs → join_with_byte c (take (i + 1) xs) ≡ join_with_byte c (take i xs) ++ (c ∷ get_or xs i d)
join_next c xs i d some l = ap (join_with_byte c) (take_more xs i d l) ∙ by i xs some l
  where
    by : (i : ℕ) (xs : List (List ℕ)) → 0 < i → i < length xs → join_with_byte c (take i xs ++ get_or xs i d ∷ []) ≡ join_with_byte c (take i xs) ++ (c ∷ get_or xs i d)
    by zero xs some l = absurd (omega arith)
    by (suc i) [] some l = absurd (omega arith)
    by (suc i) (x ∷ xs) some l = join_more c x (take i xs) (get_or xs i d)

pub first_text : (xs : List (List ℕ)) (d old text after v : List ℕ) → 0 < length xs → text ≡ old ++ join_with_byte 32 (take 0 xs) → after ≡ text ++ v → v ≡ get_or xs 0 d → after ≡ old ++ join_with_byte 32 (take 1 xs)
first_text xs d old text after v some e f g = f ∙ (λ i. e i ++ g i) ∙ (λ i. append-nil old i ++ sym (join_first 32 xs d some) i)

pub next_text : (xs : List (List ℕ)) (i : ℕ) (d old text middle after v : List ℕ) → 0 < i → i < length xs → text ≡ old ++ join_with_byte 32 (take i xs) → middle ≡ text ++ 32 ∷ [] → after ≡ middle ++ v → v ≡ get_or xs i d
    → after ≡ old ++ join_with_byte 32 (take (i + 1) xs)
next_text xs i d old text middle after v some l e m f g =
    f ∙ ap (λ t. t ++ v) m ∙ append_assoc text (32 ∷ []) v ∙ (λ z. e z ++ (32 ∷ g z)) ∙ append_assoc old (join_with_byte 32 (take i xs)) (32 ∷ get_or xs i d)
    ∙ ap (λ t. old ++ t) (sym (join_next 32 xs i d some l))

-- the text of the value of form i
pub text_at : (forms : List IntAffine) (ts : List ℕ) (i : ℕ) (form : IntAffine) (d : List ℕ) → i < length forms → form ≡ get_or forms i form → text_of (affine_value form ts) ≡ get_or (map text_of (affine_values forms ts)) i d
text_at forms ts i form d l e =
    ap (λ f. text_of (affine_value f ts)) e
    ∙ sym (get_or-map text_of (affine_values forms ts) i (affine_value form ts) d (omega (arith, length-map forms (λ f. affine_value f ts))) ∙ ap text_of (get_or-map (λ f. affine_value f ts) forms i form (affine_value form ts) l))

pub texts_length : (forms : List IntAffine) (ts : List ℕ) → length (map text_of (affine_values forms ts)) ≡ length forms
texts_length forms ts = length-map (affine_values forms ts) text_of ∙ length-map forms (λ f. affine_value f ts)
