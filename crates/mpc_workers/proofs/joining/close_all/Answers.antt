use Rattle.std.proofs.Common.{◌≡◌, ◌+◌, ◌<◌, ℕ, List, [], ◌∷◌, ◌++◌, length, vec_len, get_or, take, ap, subst, arith}
use Rattle.mpc_rows.specs.declared.programs.Qp.{Qp}
use Rattle.mpc_claim.specs.Board.{Board}
use Rattle.mpc_turn.specs.Known.{TurnId}
use Rattle.mpc_workers.specs.declared.seats.Post.{Post}
use Rattle.mpc_workers.specs.Seats.{IsDone}
use Rattle.mpc_workers.specs.Posts.{AtEach}
use Rattle.mpc_workers.specs.Joined.{IsJoining}
use Rattle.mpc_workers.proofs.Programs.{popped, each_front, each_last, one_longer, done_more, all_zip}
use Rattle.mpc_workers.proofs.joining.close_all.Goals as goal

-- the lists of turns and first passes without their last items
split : (workers n old : ℕ) (turns fewer : List TurnId) (programs : List Qp) (firsts rest : List Post) (t : TurnId) (q : Qp) (p : Post) → turns ≡ fewer ++ t ∷ [] → firsts ≡ rest ++ p ∷ [] → n ≡ length fewer → old ≡ n + 1
    → n < length programs → q ≡ get_or programs n q → AtEach (IsJoining workers 0) turns (take old programs) firsts → AtEach (IsJoining workers 0) (fewer ++ t ∷ []) (take n programs ++ q ∷ []) (rest ++ p ∷ [])
split workers n old turns fewer programs firsts rest t q p turns_is firsts_is count more l program_is a =
    popped (IsJoining workers 0) turns fewer programs firsts rest t q p n turns_is firsts_is count l program_is (subst (λ (i : ℕ). AtEach (IsJoining workers 0) turns (take i programs) firsts) more a)

pub close_into-requires : goal.close_into-requires
close_into-requires c =
    let long = one_longer c.loop-turn.turns.items c.pop.new.self.items c.in-Some.turn c.in-Some.ensures.items in
    let old_ok = c.loop-turn.turns.ok in
    let new_ok = c.pop.new.self.ok in
    let len = c.len-place.ensures in
    let counted = c.loop-turn.invariant.count in
    let count : c.len-place.result ≡ length c.pop.new.self.items = omega (arith, len, new_ok) in
    let more : vec_len c.loop-turn.turns ≡ c.len-place.result + 1 = omega (arith, long, old_ok, count) in
    let l : c.len-place.result < length c.args.programs.now = omega (arith, more, counted) in
    each_last (IsJoining c.args.workers 0) c.pop.new.self.items (take c.len-place.result c.args.programs.now) c.pop-in-Some.new.self.items c.in-Some.turn c.index-programs-place.result c.in-Some-pop.first
    (split c.args.workers c.len-place.result (vec_len c.loop-turn.turns) c.loop-turn.turns.items c.pop.new.self.items c.args.programs.now c.loop-turn.firsts.items c.pop-in-Some.new.self.items c.in-Some.turn c.index-programs-place.result c.in-Some-pop.first
    c.in-Some.ensures.items c.in-Some-pop.ensures.items count more l c.index-programs-place.is c.loop-turn.invariant.firsts)

pub loop-turn-smaller : goal.loop-turn-smaller
loop-turn-smaller c = let cases = c.in-Some.ensures.cases in omega (arith, cases)

pub loop-turn-preserved : goal.loop-turn-preserved
loop-turn-preserved c =
    let long = one_longer c.loop-turn.turns.items c.pop.new.self.items c.in-Some.turn c.in-Some.ensures.items in
    let old_ok = c.loop-turn.turns.ok in
    let new_ok = c.pop.new.self.ok in
    let len = c.len-place.ensures in
    let counted = c.loop-turn.invariant.count in
    let added = ap length c.in_ok-close_into.ensures.1 in
    let registries_ok = c.loop-turn.registries.ok in
    let new_registries_ok = c.close_into.new.registries.ok in
    let count : c.len-place.result ≡ length c.pop.new.self.items = omega (arith, len, new_ok) in
    let more : vec_len c.loop-turn.turns ≡ c.len-place.result + 1 = omega (arith, long, old_ok, count) in
    let l : c.len-place.result < length c.args.programs.now = omega (arith, more, counted) in
    let place : vec_len c.loop-turn.turns ≡ vec_len c.pop.new.self + 1 = omega (arith, more, len) in
    let parts = split c.args.workers c.len-place.result (vec_len c.loop-turn.turns) c.loop-turn.turns.items c.pop.new.self.items c.args.programs.now c.loop-turn.firsts.items c.pop-in-Some.new.self.items c.in-Some.turn c.index-programs-place.result c.in-Some-pop.first
    c.in-Some.ensures.items c.in-Some-pop.ensures.items count more l c.index-programs-place.is c.loop-turn.invariant.firsts in
    record {
      firsts = subst (λ (i : ℕ). AtEach (IsJoining c.args.workers 0) c.pop.new.self.items (take i c.args.programs.now) c.pop-in-Some.new.self.items) len
          (each_front (IsJoining c.args.workers 0) c.pop.new.self.items (take c.len-place.result c.args.programs.now) c.pop-in-Some.new.self.items c.in-Some.turn c.index-programs-place.result c.in-Some-pop.first parts);
      count = omega (arith, place, counted, added, registries_ok, new_registries_ok);
      done = λ k q r m.
          done_more (λ (p : Qp) (b : Board). IsDone p c.args.workers b) c.args.programs.now c.loop-turn.registries.items c.close_into.new.registries.items c.in_ok-close_into.ensures.0 c.index-programs-place.result (vec_len c.pop.new.self) c.in_ok-close_into.ensures.1
          (omega (arith, l, len)) (subst (λ (i : ℕ). c.index-programs-place.result ≡ get_or c.args.programs.now i c.index-programs-place.result) len c.index-programs-place.is) c.in_ok-close_into.ensures.2
          (λ i s b n. subst (λ (h : ℕ). IsDone (get_or c.args.programs.now (h + i) s) c.args.workers (get_or c.loop-turn.registries.items i b)) place (c.loop-turn.invariant.done i s b (omega (arith, n, registries_ok)))) k q r (omega (arith, m, new_registries_ok));
    }

pub returns : goal.returns
returns c =
    let none = c.in_default.ensures.cases.0 in
    let counted = c.loop-turn.invariant.count in
    let registries_ok = c.loop-turn.registries.ok in
    all_zip (λ (p : Qp) (b : Board). IsDone p c.args.workers b) c.args.programs.now c.loop-turn.registries.items (omega (arith, none, counted, registries_ok))
    (λ k q r l.
    let place : vec_len c.loop-turn.turns + k ≡ k = omega (arith, none) in
    subst (λ (h : ℕ). IsDone (get_or c.args.programs.now h q) c.args.workers (get_or c.loop-turn.registries.items k r)) place (c.loop-turn.invariant.done k q r (omega (arith, l, none, counted))))
