-- Passes that are taken back one after the other.
use Rattle.std.proofs.Common.{◌≡◌, ◌⊎◌, ℕ, ◌+◌, ◌-◌, ◌<◌, ◌≤◌, List, [], ◌∷◌, ◌++◌, length, get_or, set, Bool, true, false, true≢false, All, refl, sym, ap, ◌∙◌, subst, inl, inr, arith, append_assoc}
use Rattle.std.specs.Prelude.{◌||◌}
use Rattle.std.proofs.Math.Seq.{get_or-append_seam}
use Rattle.std.proofs.lemmas.List.{length-append, get_or_append_left}
use Rattle.std.proofs.lemmas.List.Elements.{All-push, All-nil}
use mathlib.Core.Logic.{dite}
use native.Mathlib.Decide.{dec_lt}
use Rattle.mpc_rows.specs.declared.programs.Qp.{Qp}
use Rattle.mpc_turn.specs.Views.{Call, Starts, longer}
use Rattle.mpc_turn.specs.Known.{Known, TurnId, Facts}
use Rattle.mpc_workers.specs.declared.seats.Post.{Post}
use Rattle.mpc_workers.specs.declared.seats.Seat.{Seat}
use Rattle.mpc_workers.specs.Calls.{GivesNoneUp}
use Rattle.mpc_workers.specs.Posts.{IsOpening, IsPost}
use Rattle.mpc_workers.specs.Seats.{IsWorker, IsSeat, AreNumbered}
use Rattle.mpc_workers.specs.Joined.{IsEnded, AreCountedDown, Joins, SeesEnd, IsJoining}
use Rattle.mpc_workers.proofs.Holding.{rising}
use Rattle.mpc_workers.proofs.Programs.{AtEachPlace, places_set}

neither : (a b : Bool) → (a || b) ≡ false → (a ≡ false) × (b ≡ false)
neither true b e = absurd (cc)
neither false b e = (refl, e)

either : (a b : Bool) → (a || b) ≡ true → (a ≡ true) ⊎ (b ≡ true)
either true b e = inl refl
either false b e = inr e

pub or_then : (a b r : Bool) → a ≡ true → r ≡ a → r ≡ (a || b)
or_then a b r e f = (f ∙ e) ∙ sym (ap (λ (x : Bool). x || b) e)

pub or_else : (a b r : Bool) → a ≡ false → r ≡ b → r ≡ (a || b)
or_else a b r e f = f ∙ sym (ap (λ (x : Bool). x || b) e)

-- the pass of a seat is taken back
abbrev pub taken_back : Known → Known → Known
taken_back k other = record k { lent = k.lent - 1; seen = longer k.seen other.seen; ended = k.ended ++ other.calls ∷ other.ended }

workers_of : (most worker : ℕ) (calls : List Call) → IsWorker most worker → All (λ (c : Call). c.1.worker ≡ worker) calls → All (λ (c : Call). IsWorker most c.1.worker) calls
workers_of most worker calls w own = λ k d p. subst (IsWorker most) (sym (own k d p)) w

-- one ended pass more, of the next worker down
counted_push : (most : ℕ) (ended : List (List Call)) (calls : List Call) → AreCountedDown most ended → All (λ (c : Call). c.1.worker + length ended ≡ most) calls → AreCountedDown most (ended ++ calls ∷ [])
counted_push most ended calls a b i d l =
    let long = length-append ended (calls ∷ []) in
    dite (dec_lt i (length ended))
    (λ m. subst (All (λ (c : Call). c.1.worker + i ≡ most)) (sym (get_or_append_left ended (calls ∷ []) d i m)) (a i d m))
    (λ n. let e : i ≡ length ended = omega (arith, long, n, l) in
    subst (λ (j : ℕ). All (λ (c : Call). c.1.worker + j ≡ most) (get_or (ended ++ calls ∷ []) j d)) (sym e)
    (subst (All (λ (c : Call). c.1.worker + length ended ≡ most)) (sym (get_or-append_seam ended calls [] d)) b))

module _ (turn : TurnId) (qp : Qp) (most worker : ℕ) (first new post : Post) (w : IsWorker most worker) (i : IsPost worker turn qp post) (j : IsJoining most worker turn qp first) (is : new.pass ≡ taken_back first.pass post.pass) where
  ended_is : new.pass.ended ≡ first.pass.ended ++ post.pass.calls ∷ []
  ended_is = ap (λ (x : Known). x.ended) is ∙ ap (λ (l : List (List Call)). first.pass.ended ++ post.pass.calls ∷ l) i.pass.alone

  joins_step : Facts post.pass → Joins turn qp most (worker - 1) new.pass
  joins_step facts = let old = j.joins in record {
    turn_is = ap (λ (x : Known). x.turn) is ∙ old.turn_is;
    first_is = ap (λ (x : Known). x.first) is ∙ old.first_is;
    lent_is = let l = ap (λ (x : Known). x.lent) is in let m = old.lent_is in omega (arith, l, m);
    program = ap (λ (x : Known). x.program) is ∙ old.program;
    calls_none = ap (λ (x : Known). x.calls) is ∙ old.calls_none;
    before_none = ap (λ (x : Known). x.before) is ∙ old.before_none;
    ended_all = subst (All (IsEnded most)) (sym ended_is) (All-push (IsEnded most) first.pass.ended post.pass.calls old.ended_all (record {
      empty = i.pass.empty;
      workers = workers_of most worker post.pass.calls w i.pass.own;
      turns = i.pass.turns;
      rise = rising post.pass.seen (length post.pass.before) post.pass.calls facts.stands;
    }));
    counted = let l = ap length ended_is in let m = length-append first.pass.ended (post.pass.calls ∷ []) in let n = old.counted in let o = w.0 in omega (arith, l, m, n, o);
    in_order = subst (AreCountedDown most) (sym ended_is) (counted_push most first.pass.ended post.pass.calls old.in_order (λ n d l. let own = i.pass.own n d l in let m = old.counted in omega (arith, own, m)));
  }

  kept_step : first.gave_up ≡ false → post.gave_up ≡ false → All GivesNoneUp new.pass.ended
  kept_step old fine = subst (All GivesNoneUp) (sym ended_is) (All-push GivesNoneUp first.pass.ended post.pass.calls (j.kept old) (i.kept fine))

  seen_step : Starts new.pass.seen first.pass.seen → Starts new.pass.seen post.pass.seen → (first.saw_end ≡ true) ⊎ (post.saw_end ≡ true) → SeesEnd qp new.pass
  seen_step longer_one longer_other (inl e) = let s = j.seen e in record {
    past = s.past;
    begins = (s.begins.0 ++ longer_one.0, longer_one.1 ∙ (ap (λ l. l ++ longer_one.0) s.begins.1 ∙ append_assoc s.past s.begins.0 longer_one.0));
    end = s.end;
  }
  seen_step longer_one longer_other (inr e) = record { past = post.pass.seen; begins = longer_other; end = i.ended e }

  pub one_back : Facts post.pass → Starts new.pass.seen first.pass.seen → Starts new.pass.seen post.pass.seen → new.gave_up ≡ (first.gave_up || post.gave_up) → new.saw_end ≡ (first.saw_end || post.saw_end) → IsJoining most (worker - 1) turn qp new
  one_back facts longer_one longer_other gave saw = record {
    joins = joins_step facts;
    kept = λ e. let both = neither first.gave_up post.gave_up (sym gave ∙ e) in kept_step both.0 both.1;
    seen = λ e. seen_step longer_one longer_other (either first.saw_end post.saw_end (sym saw ∙ e));
  }

-- none is back yet
pub none_back : (turn : TurnId) (qp : Qp) (most : ℕ) (post : Post) → IsOpening most turn qp post → IsJoining most most turn qp post
none_back turn qp most post is = subst (IsJoining most most turn qp) (sym is) (record {
  joins = record {
    turn_is = refl;
    first_is = refl;
    lent_is = refl;
    program = refl;
    calls_none = refl;
    before_none = refl;
    ended_all = All-nil (IsEnded most);
    counted = omega arith;
    in_order = λ i d l. absurd (omega (arith, l));
  };
  kept = λ _. All-nil GivesNoneUp;
  seen = λ no. absurd (true≢false (sym no));
})

-- ---- seats with numbers
pub numbered_front : (seats : List Seat) (s : Seat) → AreNumbered (seats ++ s ∷ []) → AreNumbered seats
numbered_front seats s a i d l =
    let long = length-append seats (s ∷ []) in
    subst (λ (x : Seat). x.worker ≡ i + 1) (get_or_append_left seats (s ∷ []) d i l) (a i d (omega (arith, long, l)))

pub numbered_last : (seats : List Seat) (s : Seat) → AreNumbered (seats ++ s ∷ []) → s.worker ≡ length seats + 1
numbered_last seats s a =
    let long = length-append seats (s ∷ []) in
    subst (λ (x : Seat). x.worker ≡ length seats + 1) (get_or-append_seam seats s [] s) (a (length seats) s (omega (arith, long)))

pub numbered_more : (seats : List Seat) (s : Seat) → AreNumbered seats → s.worker ≡ length seats + 1 → AreNumbered (seats ++ s ∷ [])
numbered_more seats s a next i d l =
    let long = length-append seats (s ∷ []) in
    dite (dec_lt i (length seats))
    (λ m. subst (λ (x : Seat). x.worker ≡ i + 1) (sym (get_or_append_left seats (s ∷ []) d i m)) (a i d m))
    (λ n. let e : i ≡ length seats = omega (arith, long, n, l) in
    subst (λ (j : ℕ). (get_or (seats ++ s ∷ []) j d).worker ≡ j + 1) (sym e)
    (subst (λ (x : Seat). x.worker ≡ length seats + 1) (sym (get_or-append_seam seats s [] d)) next))

-- ---- the last of a list and those before it
module _ {X : Type 0} (P : X → Type 0) (xs : List X) (x : X) (a : All P (xs ++ x ∷ [])) where
  pub all_front : All P xs
  all_front = λ k d p. let l = length-append xs (x ∷ []) in subst P (get_or_append_left xs (x ∷ []) d k p) (a k d (omega (arith, l)))

  pub all_last : P x
  all_last = let l = length-append xs (x ∷ []) in subst P (get_or-append_seam xs x [] x) (a (length xs) x (omega (arith, l)))

-- ---- the posts of a seat, one after the other
-- so many are still to be taken back
abbrev pub IsPartly : ℕ → ℕ → ℕ → ℕ → TurnId → Qp → Post → Type 0
IsPartly most worker left j t q p = (j < left → IsJoining most worker t q p) × (left ≤ j → IsJoining most (worker - 1) t q p)

module _ (turns : List TurnId) (programs : List Qp) (most : ℕ) (seat : Seat) (e : IsSeat turns programs most seat) (k : ℕ) (t : TurnId) (q : Qp) (p : Post) (l : k < length programs) (turn_is : t ≡ get_or turns k t) (program_is : q ≡ get_or programs k q) (post_is : get_or seat.posts.items k p ≡ p) where
  pub its_post : IsPost seat.worker t q p
  its_post =
      subst (λ (v : TurnId). IsPost seat.worker v q p) (sym turn_is)
      (subst (λ (v : Qp). IsPost seat.worker (get_or turns k t) v p) (sym program_is)
      (subst (IsPost seat.worker (get_or turns k t) (get_or programs k q)) post_is (e.posts.each k t q p l)))

  module _ (firsts : List Post) (left rest : ℕ) (f : Post) (more : left ≡ rest + 1) (place : k ≡ rest) (a : AtEachPlace (IsPartly most seat.worker left) turns programs firsts) where
    pub its_first : IsJoining most seat.worker t q (get_or firsts k f)
    its_first =
        subst (λ (v : TurnId). IsJoining most seat.worker v q (get_or firsts k f)) (sym turn_is)
        (subst (λ (v : Qp). IsJoining most seat.worker (get_or turns k t) v (get_or firsts k f)) (sym program_is) ((a.each k t q f l).0 (omega (arith, more, place))))

    pub one_joined : (new : List Post) (x : Post) → new ≡ set firsts k x → IsJoining most (seat.worker - 1) t q x → AtEachPlace (IsPartly most seat.worker rest) turns programs new
    one_joined new x is here =
        places_set (IsPartly most seat.worker left) (IsPartly most seat.worker rest) turns programs firsts new k t q x is l turn_is program_is a
        (λ j u r s apart h. (λ less. h.0 (omega (arith, less, more)), λ not_less. h.1 (omega (arith, not_less, more, apart, place))))
        (λ less. absurd (omega (arith, less, place)), λ not_less. here)
