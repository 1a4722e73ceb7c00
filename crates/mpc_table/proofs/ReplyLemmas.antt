-- Replies of a table.
use Rattle.std.proofs.Common.{◌≡◌, ℕ, ◌+◌, ◌<◌, ◌≤◌, Bool, true, false, cond, ltb, List, [], ◌∷◌, length, get_or, Some, None, refl, sym, ◌∙◌, ap, subst, arith}
use Rattle.std.specs.Prelude.{All, slice_get}
use Rattle.std.proofs.lemmas.Bool.Decides.{nat_tests}
use Rattle.mpc_exact.specs.Rational.{ℚ}
use Rattle.mpc_linear.specs.declared.integers.RowInt.{RowInt}
use Rattle.mpc_rows.specs.declared.trees.Node.{Node}
use Rattle.mpc_rows.specs.declared.trees.Node.TheVariants.{Split, Law, NoMove}
use Rattle.mpc_controller.specs.Parts.{Parts, limits_of}
use Rattle.mpc_controller.specs.Replies.{outside_from, first_outside}
use Rattle.mpc_table.specs.Steps.{Action, branch, apply, stop, step_of, IsSafeBranch, AreSafe, IsLast, IsLastAt, WalksTo}
use Rattle.mpc_table.specs.Forms.{AreUpTo}
use Rattle.mpc_table.specs.Lookup.{Lookup, NamesLaw, IsTableOf}
use Rattle.mpc_table.specs.TableReplies.{IsMoveReply, IsInfeasibleReply, CanMove}
use Rattle.mpc_table.proofs.AffineLemmas.{reach_mono, up_to_length}
use Rattle.mpc_table.proofs.WalkLemmas.{read_at, step_node}

-- ---- counts of which none is above its limit
pub none_outside : (i : ℕ) (limits counts : List ℕ) → length counts ≡ length limits → outside_from i limits counts ≡ None → AreUpTo counts limits
none_outside i [] [] e h = tt
none_outside i [] (c ∷ cs) e h = absurd (omega arith)
none_outside i (l ∷ ls) [] e h = absurd (omega arith)
none_outside i (l ∷ ls) (c ∷ cs) e h = by (ltb l c) refl h (λ k. none_outside (i + 1) ls cs (omega arith) k)
  where
    by : (b : Bool) → ltb l c ≡ b → cond b (Some i) (outside_from (i + 1) ls cs) ≡ None → (outside_from (i + 1) ls cs ≡ None → AreUpTo cs ls) → AreUpTo (c ∷ cs) (l ∷ ls)
    by true t k later = absurd cc
    by false t k later = (at_most t, later k)
      where
        at_most : ltb l c ≡ false → c ≤ l
        at_most t = grind (arith, nat_tests)

pub safe_up_to : (counts limits : List ℕ) (steps : List Action) (sides : List ℕ) → AreUpTo counts limits → AreSafe limits steps sides → AreSafe counts steps sides
safe_up_to counts limits steps sides up h = record {
  one_each = h.one_each;
  branches = λ place row at. safe_branch place row (h.branches place row at);
}
  where
    safe_branch : (place : ℕ) (row : RowInt) → IsSafeBranch limits steps sides place row → IsSafeBranch counts steps sides place row
    safe_branch place row s = record {
      size = (let same = up_to_length counts limits up in omega (arith, s.size, same));
      fits = (let less = reach_mono row.a counts limits up in omega (arith, s.fits, less));
      after = s.after;
      before_end = s.before_end;
    }

-- ---- the leaf that the walk comes to
pub last_not_branch : (steps : List Action) (place : ℕ) (found : Action) (row : RowInt) → place < length steps → IsLastAt steps place → found ≡ get_or steps place found → found ≡ branch row → ⊥
last_not_branch steps place found row inside last read is =
    let at : slice_get steps place ≡ Some (branch row) = read_at steps place found (branch row) inside read is in
    let other : slice_get steps place ≡ Some last.step = last.step_at in
    let same : last.step ≡ branch row = cc in
    let no : IsLast (branch row) = subst IsLast same last.is_last in
    no

law_node : (node : Node) (law : ℕ) → step_of node ≡ apply law → (certs : List (List (ℕ × ℚ))) × (node ≡ Law law certs)
law_node (Split row) law e = absurd cc
law_node (Law l certs) law e = let same : l ≡ law = cc in (certs, ap (λ n. Law n certs) same)
law_node (NoMove cert) law e = absurd cc

no_law_node : (node : Node) → step_of node ≡ stop → (cert : List (ℕ × ℚ)) × (node ≡ NoMove cert)
no_law_node (Split row) e = absurd cc
no_law_node (Law l certs) e = absurd cc
no_law_node (NoMove cert) e = (cert, refl)

module _ (t : Lookup) (counts : List ℕ) (place : ℕ) (walk : WalksTo t.steps t.sides counts place) (none : first_outside t.limits counts ≡ None) (found : Action) (read : found ≡ get_or t.steps place found) where
  node_at : (parts : Parts) → IsTableOf parts t → (done : Action) → found ≡ done → (node : Node) × (slice_get parts.tree place ≡ Some node) × (step_of node ≡ done)
  node_at parts h done is = step_node parts.tree place done (subst (λ steps. slice_get steps place ≡ Some done) h.steps_are (read_at t.steps place found done walk.inside read is))

  inside_limits : (parts : Parts) → IsTableOf parts t → first_outside (limits_of parts.plant) counts ≡ None
  inside_limits parts h = subst (λ limits. first_outside limits counts ≡ None) h.limits_are none

  pub move_reply : (law : ℕ) → found ≡ apply law → (parts : Parts) → IsTableOf parts t → IsMoveReply parts counts (place + 1) law
  move_reply law is parts h =
      let n = node_at parts h (apply law) is in
      let leaf = law_node n.0 law n.2 in
      record {
        inside = inside_limits parts h;
        place = place;
        node_is = refl;
        certs = leaf.0;
        ends = record { reached = walk.walks parts.tree h.steps_are h.sides_are; node_at = n.1 ∙ ap Some leaf.1; is_leaf = tt };
      }

  pub infeasible_reply : found ≡ stop → (parts : Parts) → IsTableOf parts t → IsInfeasibleReply parts counts (place + 1)
  infeasible_reply is parts h =
      let n = node_at parts h stop is in
      let leaf = no_law_node n.0 n.2 in
      record {
        inside = inside_limits parts h;
        place = place;
        node_is = refl;
        cert = leaf.0;
        ends = record { reached = walk.walks parts.tree h.steps_are h.sides_are; node_at = n.1 ∙ ap Some leaf.1; is_leaf = tt };
      }

  pub can_move : (law : ℕ) → found ≡ apply law → All (NamesLaw (length t.laws)) t.steps → length counts ≡ length t.limits → CanMove t counts law
  can_move law is numbers size =
      let named : NamesLaw (length t.laws) (apply law) = subst (NamesLaw (length t.laws)) (sym read ∙ is) (numbers place found walk.inside) in
      record { from_first = named.0; to_last = named.1; inside = none_outside 1 t.limits counts size none }

-- a value that was read twice
pub reread : {X : Type 0} (xs : List X) (i : ℕ) (r s : X) → s ≡ r → r ≡ get_or xs i r → s ≡ get_or xs i s
reread xs i r s e h = subst (λ v. v ≡ get_or xs i v) (sym e) h
