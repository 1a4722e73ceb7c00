-- The laws that lines state have the shapes of a controller's laws and keep its bounds.
use Rattle.std.proofs.Common.{codes, ◌≡◌, ℕ, ◌+◌, ◌-◌, ◌*◌, cond, take, ◌<◌, ◌≤◌, List, [], ◌∷◌, ◌++◌, length, map, get_or, ◌⊎◌, inl, inr, refl, sym, ◌∙◌, ap, subst, arith, nat_lt}
use Rattle.std.specs.Prelude.{All}
use Rattle.std.proofs.lemmas.List.{length-append, length-map, length-take, get_or-take, get_or-map, get_or_append_left}
use Rattle.std.proofs.Math.Seq.{get_or-append_seam}
use Rattle.std.proofs.Math.Nat.{eq-or-lt_of_le, le-mul_of_pos_right}
use Rattle.std.proofs.lemmas.List.Elements.{All-cons, All-nil, All-get_or, All-map}
use Rattle.mpc_exact.specs.Rational.{ℚ}
use Rattle.mpc_linear.specs.Shape.{HasShape}
use Rattle.mpc_plant.specs.declared.plants.Plant.{Plant}
use Rattle.mpc_rows.specs.declared.laws.Law.{Law}
use Rattle.mpc_controller.specs.Parts.{limits_of, IsLawFor}
use Rattle.mpc_controller.specs.Bounds.{FormFits, LawFits}
use Rattle.mpc_grammar.specs.Reading.{Cursor, one_line, ReadsItems, no_item, one_more}
use Rattle.mpc_grammar.specs.PlantGrammar.{plain_rule, AreNumbers, StatesNew}
use Rattle.mpc_grammar.specs.LawGrammar.{unknowns, move_rule, moves, mults, matrix_of, written_law, written_laws, forms, NameForms, used_behind, form_named, named_mults, NamedLaw, used_by, named_law, named_laws, law_named}
use Rattle.mpc_file.proofs.Stability.{form_stable, all_stable}
use Rattle.mpc_grammar.specs.Outcomes.{all_items, just_so_many}

-- ---- forms
abbrev HasSize : ℕ → List ℚ → Type 0
HasSize n form = length form ≡ n + 1

pub move_sizes : (plant : Plant) (here : Cursor) (zs : List (List ℚ)) (behind : Cursor) → (moves plant).Reads here zs behind → All (HasSize plant.n) zs
move_sizes plant here zs behind h =
    all_items (List ℚ) (λ before. one_line (move_rule plant (length before))) (λ before. nat_lt (length before) (unknowns plant)) (HasSize plant.n) (λ before b x c more reads. reads.1.1.0.size) here zs behind h.0

pub mult_sizes : (plant : Plant) (members : ℕ) (here : Cursor) (ls : List (List ℚ)) (behind : Cursor) → (mults plant members).Reads here ls behind → All (HasSize plant.n) ls
mult_sizes plant members here ls behind h =
    all_items (List ℚ) (λ before. one_line (plain_rule (AreNumbers (Rattle.std.specs.Prelude.codes "mult") (plant.n + 1)))) (λ before. nat_lt (length before) members) (HasSize plant.n) (λ before b x c more reads. reads.1.1.0.size) here ls behind h.0

shape_of : (plant : Plant) (rows : List (List ℚ)) (count : ℕ) → length rows ≡ count → All (HasSize plant.n) rows → HasShape (matrix_of plant rows) count (plant.n + 1)
shape_of plant rows count size each = record { rows_are = size; columns_are = refl; rectangular = each }

-- ---- a law whose forms are written out
pub written_shape : (plant : Plant) (here : Cursor) (law : Law) (behind : Cursor) → (written_law plant).Reads here law behind → IsLawFor plant law
written_shape plant here law behind (set, (b, (s, (zs, (c, (m, (ls, (d, (l, e))))))))) =
    subst (IsLawFor plant) (sym e.0) (record {
      set_of_rows = s.1.1.0.set_of_rows;
      few = s.1.1.0.few;
      moves_shape = shape_of plant zs (plant.p * plant.horizon) (just_so_many (List ℚ) (λ before. one_line (move_rule plant (length before))) (unknowns plant) b zs c m) (move_sizes plant b zs c m);
      mults_shape = shape_of plant ls (length set) (just_so_many (List ℚ) _ (length set) c ls d l) (mult_sizes plant (length set) c ls d l);
    })

-- ---- its first moves
-- the forms of the first inputs fit, as far as they are read
FirstFit : Plant → List (List ℚ) → Type 0
FirstFit plant zs = (i : ℕ) → i < length zs → i < plant.p → FormFits (limits_of plant) (get_or zs i [])

first_none : (plant : Plant) → FirstFit plant []
unfolding FirstFit
first_none plant i within first = absurd (omega (arith, within))

first_more : (plant : Plant) (zs : List (List ℚ)) (z : List ℚ) → FirstFit plant zs → ¬ ((length zs < plant.p) × (¬ FormFits (limits_of plant) z)) → FirstFit plant (zs ++ z ∷ [])
unfolding FirstFit
first_more plant zs z before good i within first =
    by (eq-or-lt_of_le (omega (arith, length-append zs (z ∷ []), within)))
  where
    by : (i ≡ length zs) ⊎ (i < length zs) → FormFits (limits_of plant) (get_or (zs ++ z ∷ []) i [])
    by (inl e) = subst (λ k. FormFits (limits_of plant) (get_or (zs ++ z ∷ []) k [])) (sym e) (subst (FormFits (limits_of plant)) (sym (get_or-append_seam zs z [] [])) (form_stable (limits_of plant) z (λ no. good (omega (arith, e, first), no))))
    by (inr lt) = subst (FormFits (limits_of plant)) (sym (get_or_append_left zs (z ∷ []) [] i lt)) (before i lt first)

moves_fit : (plant : Plant) (here : Cursor) (zs : List (List ℚ)) (behind : Cursor) → ReadsItems (List ℚ) (λ before. one_line (move_rule plant (length before))) (λ before. nat_lt (length before) (unknowns plant)) here zs behind → FirstFit plant zs
moves_fit plant here [] behind no_item = first_none plant
moves_fit plant here _ behind (one_more items between x _ before more reads) = first_more plant items x (moves_fit plant here items between before) reads.1.1.1

-- a plant has at least as many unknowns as inputs
inputs_few : (plant : Plant) → plant.p ≤ plant.p * plant.horizon
inputs_few plant = le-mul_of_pos_right plant.p (omega (arith, plant.is_plant.steps.from_low))

pub written_bounds : (plant : Plant) (here : Cursor) (law : Law) (behind : Cursor) → (written_law plant).Reads here law behind → LawFits plant law
unfolding FirstFit
written_bounds plant here law behind (set, (b, (s, (zs, (c, (m, (ls, (d, (l, e))))))))) =
    let size : length zs ≡ unknowns plant = just_so_many (List ℚ) (λ before. one_line (move_rule plant (length before))) (unknowns plant) b zs c m in
    subst (LawFits plant) (sym e.0) (λ i first. moves_fit plant b zs c m.0 i (omega (arith, size, inputs_few plant, first)) first)

-- ---- all laws whose forms are written out
pub record GoodLaws (plant : Plant) (laws : List Law) : Type 0 where
  pub few : length laws ≤ 4598479
  pub shapes : All (IsLawFor plant) laws
  pub bounds : All (LawFits plant) laws

pub written_good : (plant : Plant) (here : Cursor) (laws : List Law) (behind : Cursor) → (written_laws plant).Reads here laws behind → GoodLaws plant laws
written_good plant here laws behind (count, (b, (s, h))) =
    record {
      few = omega (arith, just_so_many Law (λ before. written_law plant) count b laws behind h, s.1.1.0.allowed);
      shapes = all_items Law (λ before. written_law plant) (λ before. nat_lt (length before) count) (IsLawFor plant) (λ before b x c more reads. written_shape plant b x c reads) b laws behind h.0;
      bounds = all_items Law (λ before. written_law plant) (λ before. nat_lt (length before) count) (LawFits plant) (λ before b x c more reads. written_bounds plant b x c reads) b laws behind h.0;
    }

-- ---- laws whose forms are named
form_sizes : (plant : Plant) (here : Cursor) (fs : List (List ℚ)) (behind : Cursor) → (forms plant).Reads here fs behind → All (HasSize plant.n) fs
form_sizes plant here fs behind (count, (b, (s, h))) =
    all_items (List ℚ) (λ before. one_line (plain_rule (StatesNew before (AreNumbers (codes "form") (plant.n + 1))))) (λ before. nat_lt (length before) count) (HasSize plant.n) (λ before b x c more reads. reads.1.1.0.stated.size) b fs behind h.0

-- a name's form has the size of all
named_size : (n : ℕ) (fs : List (List ℚ)) (ks : List ℕ) (used : ℕ) → All (HasSize n) fs → NameForms (length fs) used ks → All (HasSize n) (map (form_named fs) ks)
named_size n fs [] used each names = All-nil (HasSize n)
named_size n fs (k ∷ ks) used each names =
    All-cons (HasSize n) (form_named fs k) (map (form_named fs) ks) (All-get_or (HasSize n) fs (k - 1) [] (omega (arith, names.0, names.1)) each) (named_size n fs ks (cond (nat_lt used k) k used) each names.3)

module _ (plant : Plant) (fs : List (List ℚ)) (each : All (HasSize plant.n) fs) where
  mults_size : (used : ℕ) (set : List ℕ) (here : Cursor) (ls : List ℕ) (behind : Cursor) → (named_mults fs used set).Reads here ls behind → (length ls ≡ length set) × All (HasSize plant.n) (map (form_named fs) ls)
  mults_size used [] here ls behind h = subst (λ (ks : List ℕ). (length ks ≡ 0) × All (HasSize plant.n) (map (form_named fs) ks)) (sym h.0) (refl, All-nil (HasSize plant.n))
  mults_size used (i ∷ set) here ls behind h = (h.1.1.0.size, named_size plant.n fs ls used each h.1.1.0.name_forms)

  pub named_shape : (used : ℕ) (here : Cursor) (law : NamedLaw) (behind : Cursor) → (named_law plant fs used).Reads here law behind → IsLawFor plant (law_named plant fs law)
  named_shape used here law behind (set, (b, (s, (zs, (c, (m, (ls, (d, (l, e))))))))) =
      let mult = mults_size (used_behind used zs) set c ls d l in
      subst (λ w. IsLawFor plant (law_named plant fs w)) (sym e.0) (record {
        set_of_rows = s.1.1.0.set_of_rows;
        few = s.1.1.0.few;
        moves_shape = shape_of plant (map (form_named fs) zs) (plant.p * plant.horizon) (length-map zs (form_named fs) ∙ m.1.1.0.size) (named_size plant.n fs zs used each m.1.1.0.name_forms);
        mults_shape = shape_of plant (map (form_named fs) ls) (length set) (length-map ls (form_named fs) ∙ mult.0) mult.1;
      })

  pub named_bounds : (used : ℕ) (here : Cursor) (law : NamedLaw) (behind : Cursor) → (named_law plant fs used).Reads here law behind → LawFits plant (law_named plant fs law)
  named_bounds used here law behind (set, (b, (s, (zs, (c, (m, (ls, (d, (l, e))))))))) =
      let stable : All (λ k. FormFits (limits_of plant) (form_named fs k)) (take plant.p zs) = all_stable (λ k. FormFits (limits_of plant) (form_named fs k)) 0 (λ k. form_stable (limits_of plant) (form_named fs k)) (take plant.p zs) m.1.1.1 in
      let size : length zs ≡ unknowns plant = m.1.1.0.size in
      subst (λ w. LawFits plant (law_named plant fs w)) (sym e.0) (λ i first.
      let within : i < length zs = omega (arith, size, inputs_few plant, first) in
      let taken : i < length (take plant.p zs) = omega (arith, length-take plant.p zs, within, first) in
      let one : FormFits (limits_of plant) (form_named fs (get_or (take plant.p zs) i 0)) = All-get_or (λ k. FormFits (limits_of plant) (form_named fs k)) (take plant.p zs) i 0 taken stable in
      subst (FormFits (limits_of plant)) (ap (form_named fs) (get_or-take plant.p zs i 0 first) ∙ sym (get_or-map (form_named fs) zs i 0 [] within)) one)

pub named_good : (plant : Plant) (here between : Cursor) (fs : List (List ℚ)) (laws : List NamedLaw) (behind : Cursor) → (forms plant).Reads here fs between → (named_laws plant fs).Reads between laws behind → GoodLaws plant (map (law_named plant fs) laws)
named_good plant here between fs laws behind f (count, (b, (s, h))) =
    let sizes = form_sizes plant here fs between f in
    record {
      few = omega (arith, length-map laws (law_named plant fs), just_so_many NamedLaw (λ before. named_law plant fs (used_by before)) count b laws behind h, s.1.1.0.allowed);
      shapes = All-map (IsLawFor plant) (law_named plant fs) laws (all_items NamedLaw (λ before. named_law plant fs (used_by before)) (λ before. nat_lt (length before) count) (λ w. IsLawFor plant (law_named plant fs w)) (λ before b x c more reads. named_shape plant fs sizes (used_by before) b x c reads) b laws behind h.0);
      bounds = All-map (LawFits plant) (law_named plant fs) laws (all_items NamedLaw (λ before. named_law plant fs (used_by before)) (λ before. nat_lt (length before) count) (λ w. LawFits plant (law_named plant fs w)) (λ before b x c more reads. named_bounds plant fs sizes (used_by before) b x c reads) b laws behind h.0);
    }
