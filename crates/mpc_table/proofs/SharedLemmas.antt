-- Steps whose rows are kept once, and are named by their places.
use Rattle.std.proofs.Common.{◌≡◌, ℕ, ◌+◌, ◌<◌, ◌≤◌, pos, List, [], ◌∷◌, ◌++◌, length, get_or, take, take_all, Some, refl, sym, ◌∙◌, ap, subst, arith}
use Rattle.std.specs.Prelude.{All, slice_get}
use Rattle.std.proofs.lemmas.List.{map-append, length-map, length-append, get_or-map, get_or_append_left, get_or_default}
use Rattle.std.proofs.lemmas.List.Elements.{All-append, All-cons, All-nil, All-weaker}
use Rattle.mpc_linear.specs.declared.integers.RowInt.{RowInt}
use Rattle.mpc_rows.specs.declared.trees.Node.{Node}
use Rattle.mpc_table.specs.declared.places.Places.{Places}
use Rattle.mpc_table.specs.declared.steps.Step.{Step}
use Rattle.mpc_table.specs.declared.steps.Step.TheVariants.{Branch, Apply, Stop}
use Rattle.mpc_table.specs.Places.{ArePlaces}
use Rattle.mpc_table.specs.Steps.{branch, step_of, steps_of, IsLastAt}
use Rattle.mpc_table.specs.SharedSteps.{row_line, row_at, action_at, actions_at, NamesRow, IsStepFor, AreStepsTo, AreStepsOf}
use Rattle.mpc_table.proofs.ElementLemmas.{same_map}
use Rattle.mpc_table.proofs.WalkLemmas.{read_at, last_read}
use Rattle.mpc_table.proofs.TableLemmas.{steps_next}

pub exact_row : (x y : RowInt) → row_line x ≡ row_line y → x ≡ y
exact_row x y e =
    let bound : x.b ≡ y.b = cc in
    let others : x.a ≡ y.a = cc in
    λ i. record { a = others i; b = bound i }

-- ---- more rows behind those that are named
row_kept : (rows behind : List RowInt) (place : ℕ) → place < length rows → row_at (rows ++ behind) place ≡ row_at rows place
row_kept rows behind place within = get_or_append_left rows behind (record { a = []; b = pos 0 }) place within

action_kept : (rows behind : List RowInt) (step : Step) → NamesRow (length rows) step → action_at (rows ++ behind) step ≡ action_at rows step
action_kept rows behind (Branch place) h = ap branch (row_kept rows behind place h)
action_kept rows behind (Apply law) h = refl
action_kept rows behind Stop h = refl

actions_kept : (rows behind : List RowInt) (steps : List Step) → All (NamesRow (length rows)) steps → actions_at (rows ++ behind) steps ≡ actions_at rows steps
actions_kept rows behind steps named = same_map (NamesRow (length rows)) (action_at (rows ++ behind)) (action_at rows) (action_kept rows behind) steps named

names_more : (few many : ℕ) → few ≤ many → (step : Step) → NamesRow few step → NamesRow many step
names_more few many le (Branch place) h = omega arith
names_more few many le (Apply law) h = tt
names_more few many le Stop h = tt

-- ---- the step of one more node
pub shared_next : (nodes : List Node) (k : ℕ) (node : Node) (old_rows rows : List RowInt) (before places : Places) (old new : List Step) (step : Step) → slice_get nodes k ≡ Some node → new ≡ old ++ step ∷ []
    → AreStepsTo nodes k old_rows before old → IsStepFor node old_rows rows places step → AreStepsTo nodes (k + 1) rows places new
shared_next nodes k node old_rows rows before places old new step at pushed so_far is =
    let size : length rows ≡ length old_rows + length is.behind = ap length is.grown ∙ length-append old_rows is.behind in
    let wider : length old_rows ≤ length rows = omega arith in
    let same : actions_at rows old ≡ take k (steps_of nodes) = ap (λ rs. actions_at rs old) is.grown ∙ actions_kept old_rows is.behind old so_far.named ∙ so_far.actions_are in
    let more : actions_at rows new ≡ actions_at rows old ++ action_at rows step ∷ [] = ap (actions_at rows) pushed ∙ map-append (action_at rows) old (step ∷ []) in
    let still : All (NamesRow (length rows)) old = All-weaker (NamesRow (length old_rows)) (NamesRow (length rows)) (names_more (length old_rows) (length rows) wider) old so_far.named in
    record {
      actions_are = steps_next nodes k node (actions_at rows old) (actions_at rows new) (action_at rows step) at same more is.action_is;
      named = subst (All (NamesRow (length rows))) (sym pushed) (All-append (NamesRow (length rows)) old (step ∷ []) still (All-cons (NamesRow (length rows)) step [] is.named (All-nil (NamesRow (length rows)))));
      places_are = is.places_are;
    }

pub shared_none : (nodes : List Node) (places : Places) → ArePlaces places [] → AreStepsTo nodes 0 [] places []
shared_none nodes places are = record { actions_are = refl; named = All-nil (NamesRow 0); places_are = are }

pub shared_all : (nodes : List Node) (k : ℕ) (rows : List RowInt) (places : Places) (steps : List Step) → AreStepsTo nodes k rows places steps → length nodes ≤ k → AreStepsOf nodes rows steps
shared_all nodes k rows places steps h last = record {
  actions_are = h.actions_are ∙ take_all k (steps_of nodes) (omega (arith, length-map nodes step_of));
  named = h.named;
  different = h.places_are.different;
}

not_branch : (rows : List RowInt) (found : Step) → ((index : ℕ) → found ≡ Branch index → ⊥) → (row : RowInt) → action_at rows found ≡ branch row → ⊥
not_branch rows (Branch index) other row is = other index refl
not_branch rows (Apply law) other row is = cc
not_branch rows Stop other row is = cc

-- ---- what the code reads
module _ (rows : List RowInt) (steps : List Step) (place : ℕ) (d : Step) (inside : place < length steps) where
  pub action_got : action_at rows (get_or steps place d) ≡ get_or (actions_at rows steps) place (action_at rows (get_or steps place d))
  action_got = sym (get_or-map (action_at rows) steps place d (action_at rows (get_or steps place d)) inside)

  pub within_actions : place < length (actions_at rows steps)
  within_actions = subst (λ n. place < n) (sym (length-map steps (action_at rows))) inside

  pub row_named : (index : ℕ) → All (NamesRow (length rows)) steps → get_or steps place d ≡ Branch index → index < length rows
  row_named index named is = subst (NamesRow (length rows)) is (named place d inside)

  pub branch_read : (index : ℕ) (row : RowInt) → All (NamesRow (length rows)) steps → get_or steps place d ≡ Branch index → row ≡ get_or rows index row → slice_get (actions_at rows steps) place ≡ Some (branch row)
  branch_read index row named is got =
      let within : index < length rows = row_named index named is in
      read_at (actions_at rows steps) place (action_at rows (get_or steps place d)) (branch row) within_actions action_got (ap (action_at rows) is ∙ ap branch (get_or_default rows index (record { a = []; b = pos 0 }) row within ∙ sym got))

  pub shared_last : ((index : ℕ) → get_or steps place d ≡ Branch index → ⊥) → IsLastAt (actions_at rows steps) place
  shared_last other = last_read (actions_at rows steps) place (action_at rows (get_or steps place d)) within_actions action_got (not_branch rows (get_or steps place d) other)

pub action_read : (rows : List RowInt) (steps : List Step) (place : ℕ) (found : Step) → place < length steps → found ≡ get_or steps place found → action_at rows found ≡ get_or (actions_at rows steps) place (action_at rows found)
action_read rows steps place found inside read = ap (action_at rows) read ∙ sym (get_or-map (action_at rows) steps place found (action_at rows found) inside)
