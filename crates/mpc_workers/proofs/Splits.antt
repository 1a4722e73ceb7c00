-- Turns that are opened, and passes that are split off.
use Rattle.std.proofs.Common.{◌≡◌, ℕ, ◌+◌, ◌<◌, ◌≤◌, List, [], ◌∷◌, ◌++◌, length, get_or, set, take, sym, ap, ◌∙◌, subst, arith}
use Rattle.std.proofs.lemmas.List.{take_all, take_more}
use Rattle.mpc_rows.specs.declared.programs.Qp.{Qp}
use Rattle.mpc_turn.specs.Known.{TurnId}
use Rattle.mpc_workers.specs.declared.seats.Opened.{Opened}
use Rattle.mpc_workers.specs.declared.seats.Post.{Post}
use Rattle.mpc_workers.specs.Posts.{AtEach, IsOpening, IsPost, OpensOne}
use Rattle.mpc_workers.proofs.Programs.{AtEachPlace, places_set, each_push}

-- an item more for a program more
each_more : (P : TurnId → Qp → Post → Type 0) (turns new_turns : List TurnId) (programs : List Qp) (posts new_posts : List Post) (k : ℕ) (t : TurnId) (q : Qp) (p : Post) → new_turns ≡ turns ++ t ∷ [] → new_posts ≡ posts ++ p ∷ []
    → k < length programs → q ≡ get_or programs k q → P t q p → AtEach P turns (take k programs) posts → AtEach P new_turns (take (k + 1) programs) new_posts
each_more P turns new_turns programs posts new_posts k t q p turns_are posts_are l program_is here a =
    subst (λ (ts : List TurnId). AtEach P ts (take (k + 1) programs) new_posts) (sym turns_are)
    (subst (λ (ps : List Post). AtEach P (turns ++ t ∷ []) (take (k + 1) programs) ps) (sym posts_are)
    (subst (λ (qs : List Qp). AtEach P (turns ++ t ∷ []) qs (posts ++ p ∷ [])) (sym (take_more programs k q l ∙ ap (λ (x : Qp). take k programs ++ x ∷ []) (sym program_is)))
    (each_push P turns (take k programs) posts t q p a here)))

-- one turn more is opened
pub opened_more : (programs : List Qp) (old new : Opened) (q : Qp) (k : ℕ) → k < length programs → q ≡ get_or programs k q → OpensOne q old new
    → AtEach (IsOpening 0) old.turns.items (take k programs) old.firsts.items → AtEach (IsOpening 0) new.turns.items (take (k + 1) programs) new.firsts.items
opened_more programs old new q k l program_is o = each_more (IsOpening 0) old.turns.items new.turns.items programs old.firsts.items new.firsts.items k o.turn q o.first o.turns o.firsts l program_is o.opening_is

pub opened_all : (programs : List Qp) (o : Opened) (k : ℕ) → length programs ≤ k → AtEach (IsOpening 0) o.turns.items (take k programs) o.firsts.items → AtEach (IsOpening 0) o.turns.items programs o.firsts.items
opened_all programs o k l a = subst (λ (qs : List Qp). AtEach (IsOpening 0) o.turns.items qs o.firsts.items) (take_all k programs l) a

-- ---- a pass is split off
-- the passes before this place were split once more than the others
abbrev pub IsSplit : ℕ → ℕ → ℕ → TurnId → Qp → Post → Type 0
IsSplit before k j t q p = (j < k → IsOpening (before + 1) t q p) × (k ≤ j → IsOpening before t q p)

module _ (turns : List TurnId) (programs : List Qp) (firsts : List Post) (before k : ℕ) (t : TurnId) (q : Qp) (l : k < length turns) (turn_is : t ≡ get_or turns k t) (program_is : q ≡ get_or programs k q) (a : AtEachPlace (IsSplit before k) turns programs firsts) where
  within : k < length programs
  within = let m = a.turns_are in omega (arith, l, m)

  pub still_opening : (f : Post) → IsOpening before t q (get_or firsts k f)
  still_opening f =
      subst (λ (v : TurnId). IsOpening before v q (get_or firsts k f)) (sym turn_is)
      (subst (λ (v : Qp). IsOpening before (get_or turns k t) v (get_or firsts k f)) (sym program_is) ((a.each k t q f within).1 (omega arith)))

  pub split_more : (new : List Post) (x : Post) → new ≡ set firsts k x → IsOpening (before + 1) t q x → AtEachPlace (IsSplit before (k + 1)) turns programs new
  split_more new x is here =
      places_set (IsSplit before k) (IsSplit before (k + 1)) turns programs firsts new k t q x is within turn_is program_is a
      (λ j u r s apart h. (λ less. h.0 (omega (arith, less, apart)), λ not_less. h.1 (omega (arith, not_less))))
      (λ _. here, λ not_less. absurd (omega (arith, not_less)))

  pub given_more : (posts new : List Post) (post : Post) → IsPost (before + 1) t q post → new ≡ posts ++ post ∷ [] → AtEach (IsPost (before + 1)) (take k turns) (take k programs) posts → AtEach (IsPost (before + 1)) (take (k + 1) turns) (take (k + 1) programs) new
  given_more posts new post here is b =
      each_more (IsPost (before + 1)) (take k turns) (take (k + 1) turns) programs posts new k t q post (take_more turns k t l ∙ ap (λ (x : TurnId). take k turns ++ x ∷ []) (sym turn_is)) is within program_is here b

-- all are
pub split_all : (turns : List TurnId) (programs : List Qp) (firsts : List Post) (before k : ℕ) → length turns ≤ k → AtEachPlace (IsSplit before k) turns programs firsts → AtEach (IsOpening (before + 1)) turns programs firsts
split_all turns programs firsts before k all a = record { turns_are = a.turns_are; posts_are = a.posts_are; each = λ j t q p l. (a.each j t q p l).0 (let m = a.turns_are in omega (arith, l, m, all)) }

pub given_all : (turns : List TurnId) (programs : List Qp) (posts : List Post) (number k : ℕ) → length turns ≤ k → length turns ≡ length programs → AtEach (IsPost number) (take k turns) (take k programs) posts → AtEach (IsPost number) turns programs posts
given_all turns programs posts number k all same a =
    subst (λ (ts : List TurnId). AtEach (IsPost number) ts programs posts) (take_all k turns all)
    (subst (λ (qs : List Qp). AtEach (IsPost number) (take k turns) qs posts) (take_all k programs (omega (arith, all, same))) a)
