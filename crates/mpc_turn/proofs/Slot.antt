-- The slot that a seat has taken, and the first pass.
use Rattle.std.proofs.Common.{◌≡◌, ℕ, List, [], ◌∷◌, get_or, refl, sym, ap, ◌∙◌, subst, arith}
use Rattle.std.proofs.lemmas.List.Elements.{All-nil}
use Rattle.atomic_table.specs.Table.{rest}
use Rattle.mpc_claim.specs.Board.{Board}
use Rattle.mpc_claim.specs.History.{IsLegal}
use Rattle.mpc_turn.specs.Views.{Call, first_view}
use Rattle.mpc_turn.specs.Lock.{Sat}
use Rattle.mpc_turn.specs.Known.{Holds, IsPass}
use Rattle.mpc_turn.proofs.Sums.{append-nil}

pub carries : (c : List (ℕ × Board)) (P : Board → Type 0) → Holds c P → (x : Board) × (c ≡ (0, x) ∷ rest c)
carries c P h = (h.0, h.1 ∙ ap (λ (l : List (ℕ × Board)). (0, h.0) ∷ l) (sym (ap rest h.1)))

lent_is : (c : List (ℕ × Board)) (x y : Board) (l : List (ℕ × Board)) → c ≡ (0, x) ∷ [] → c ≡ (0, y) ∷ l → x ≡ y
lent_is c x y l p q = ap (λ (d : List (ℕ × Board)). (get_or d 0 (0, x)).1) (sym p ∙ q)

pub lent : (c : List (ℕ × Board)) (y : Board) (P : Board → Type 0) → Holds c P → c ≡ (0, y) ∷ rest c → P y
lent c y P h e = subst P (lent_is c h.0 y (rest c) h.1 e) h.2

pub leaves : (c : List (ℕ × Board)) (y z : Board) (P : Board → Type 0) (Q : Board → Board → Type 0) → Holds c P → c ≡ (0, y) ∷ rest c → Q y z → Holds c (λ r. Holds ((0, z) ∷ rest c) (Q r))
leaves c y z P Q h e q = (h.0, h.1, (z, ap (λ (l : List (ℕ × Board)). (0, z) ∷ l) (ap rest h.1), subst (λ (x : Board). Q x z) (sym (lent_is c h.0 y (rest c) h.1 e)) q))

pub first_is_pass : (r : Board) (m : Sat) → IsLegal r.program r.history → m ≡ (first_view r, []) → IsPass 0 m
first_is_pass r m legal is = subst (IsPass 0) (sym is) record {
  idle = (refl, refl);
  empty = refl;
  alone = refl;
  living = omega arith;
  most = omega arith;
  lent = λ no. absurd (cc);
  one = refl;
  legal = legal;
  own = All-nil (λ (c : Call). c.1.worker ≡ 0);
  begins = ([], sym (append-nil r.history));
  stands = tt;
}
