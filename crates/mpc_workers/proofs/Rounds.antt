-- From a worker's last program on and round.
use Rattle.std.proofs.Common.{◌≡◌, ◌≢◌, ℕ, ◌+◌, ◌<◌, List, length, get_or, set, Option, None, Some, IfSome, refl, sym, ap, ◌∙◌, subst, arith}
use Rattle.std.proofs.lemmas.Bool.Decides.{nat_tests}
use Rattle.std.proofs.lemmas.List.{get_or-set_other, get_or-set_same}
use mathlib.Core.Logic.{dite}
use native.Mathlib.Decide.{dec_lt}
use Rattle.mpc_rows.specs.declared.programs.Qp.{Qp}
use Rattle.mpc_turn.specs.Known.{TurnId}
use Rattle.mpc_workers.specs.declared.seats.Post.{Post}
use Rattle.mpc_workers.specs.declared.working.Worker.{Worker}
use Rattle.mpc_workers.specs.Posts.{after, HasNothing, FindNothing, AtEach, CallsOnlyAt, IsAtProgram, IsPost}
use Rattle.mpc_workers.proofs.Programs.{at_set, each_set, same_item}

-- two numbers of steps lead to two places
after_apart : (from i j count : ℕ) → from < count → i < j → j < count → after from i count ≢ after from j count
after_apart from i j count a b c e = grind (arith, nat_tests)

-- one program more has nothing to claim
pub nothing_more : (programs : List Qp) (posts new : List Post) (from steps k : ℕ) (q : Qp) (x : Post) → new ≡ set posts k x → k ≡ after from steps (length programs) → from < length programs → steps < length programs → length posts ≡ length programs → k < length programs
    → FindNothing programs posts from steps → HasNothing (get_or programs k q) x.pass.seen → FindNothing programs new from (steps + 1)
nothing_more programs posts new from steps k q x is place start within count here before nothing i r p l =
    subst (λ (ps : List Post). HasNothing (get_or programs (after from i (length programs)) r) (get_or ps (after from i (length programs)) p).pass.seen) (sym is)
    (dite (dec_lt i steps)
    (λ m.
    let apart : after from i (length programs) ≢ k = λ e. after_apart from i steps (length programs) start m within (e ∙ place) in
    subst (λ (v : Post). HasNothing (get_or programs (after from i (length programs)) r) v.pass.seen) (sym (get_or-set_other posts k (after from i (length programs)) x p apart)) (before i r p m))
    (λ m.
    let same : steps ≡ i = omega (arith, m, l) in
    let there : k ≡ after from i (length programs) = place ∙ ap (λ (n : ℕ). after from n (length programs)) same in
    subst (λ (j : ℕ). HasNothing (get_or programs j r) (get_or (set posts k x) j p).pass.seen) there
    (subst (λ (v : Post). HasNothing (get_or programs k r) v.pass.seen) (sym (get_or-set_same posts k x p (omega (arith, here, count))))
    (subst (λ (v : Qp). HasNothing v x.pass.seen) (same_item programs k q r here) nothing))))

-- a call at a later program leaves those before without anything to claim
pub nothing_before : (programs : List Qp) (posts new : List Post) (from steps k : ℕ) (x : Post) → new ≡ set posts k x → k ≡ after from steps (length programs) → from < length programs → steps < length programs → FindNothing programs posts from steps → FindNothing programs new from steps
nothing_before programs posts new from steps k x is place start within before i r p l =
    let apart : after from i (length programs) ≢ k = λ e. after_apart from i steps (length programs) start l within (e ∙ place) in
    subst (λ (ps : List Post). HasNothing (get_or programs (after from i (length programs)) r) (get_or ps (after from i (length programs)) p).pass.seen) (sym is)
    (subst (λ (v : Post). HasNothing (get_or programs (after from i (length programs)) r) v.pass.seen) (sym (get_or-set_other posts k (after from i (length programs)) x p apart)) (before i r p l))

-- ---- the post of a program is changed
pub one_changed : (number : ℕ) (turns : List TurnId) (programs : List Qp) (posts : List Post) (k : ℕ) (t : TurnId) (q : Qp) (p : Post) → k < length programs → AtEach (IsPost number) turns programs posts
    → (new : Post) → IsPost number (get_or turns k t) (get_or programs k q) new → AtEach (IsPost number) turns programs (set posts k new)
one_changed number turns programs posts k t q p l a new i =
    let m = a.turns_are in
    each_set (IsPost number) (IsPost number) turns programs posts _ k (get_or turns k t) (get_or programs k q) new refl l (same_item turns k t (get_or turns k t) (omega (arith, l, m))) (same_item programs k q (get_or programs k q) l) a (λ u r s h. h) i

-- no program had a call so far
abbrev pub HaveNoCalls : List Post → List Post → Type 0
HaveNoCalls old new = (j : ℕ) (p : Post) → (get_or new j p).pass.calls ≡ (get_or old j p).pass.calls

pub no_calls_more : (old posts new : List Post) (k : ℕ) (d x : Post) → new ≡ set posts k x → k < length posts → x.pass.calls ≡ (get_or posts k d).pass.calls → HaveNoCalls old posts → HaveNoCalls old new
no_calls_more old posts new k d x is within same before j p =
    ap (λ (ps : List Post). (get_or ps j p).pass.calls) is
    ∙ at_set (λ (i : ℕ) (y : Post). y.pass.calls ≡ (get_or old i p).pass.calls) posts k j x p within (same ∙ (ap (λ (y : Post). y.pass.calls) (same_item posts k d p within) ∙ before k p)) (λ _. before j p)

pub calls_only : (old posts new : List Post) (k : ℕ) (x : Post) → new ≡ set posts k x → HaveNoCalls old posts → CallsOnlyAt k old new
calls_only old posts new k x is before j p apart = ap (λ (ps : List Post). (get_or ps j p).pass.calls) is ∙ (ap (λ (y : Post). y.pass.calls) (get_or-set_other posts k j x p apart) ∙ before j p)

-- ---- the examiner of a program, and of that at a place
pub examiner_here : (o : Option Qp) (programs : List Qp) (p k : ℕ) (qp : Qp) → IfSome o (λ (q : Qp). q ≡ get_or programs p q) → k < length programs → qp ≡ get_or programs k qp → p ≡ k → IfSome o (λ (q : Qp). q ≡ qp)
examiner_here None programs p k qp h l is e = tt
examiner_here (Some q) programs p k qp h l is e = h ∙ (ap (λ (i : ℕ). get_or programs i q) e ∙ (same_item programs k q qp l ∙ sym is))

examiner_there : (o : Option Qp) (programs : List Qp) (p k : ℕ) (qp : Qp) → IfSome o (λ (q : Qp). q ≡ qp) → k < length programs → qp ≡ get_or programs k qp → p ≡ k → IfSome o (λ (q : Qp). q ≡ get_or programs p q)
examiner_there None programs p k qp h l is e = tt
examiner_there (Some q) programs p k qp h l is e = h ∙ (is ∙ (same_item programs k qp q l ∙ ap (λ (i : ℕ). get_or programs i q) (sym e)))

pub at_place : (programs : List Qp) (worker : Worker) (k : ℕ) (qp : Qp) → k < length programs → qp ≡ get_or programs k qp → worker.program ≡ k → IfSome worker.examiner (λ (q : Qp). q ≡ qp) → IsAtProgram programs worker
at_place programs worker k qp l is e here = record {
  within = λ _. omega (arith, l, e);
  examiner = examiner_there worker.examiner programs worker.program k qp here l is e;
}
