use Rattle.std.proofs.Common.{◌≡◌, ◌-◌, ℕ, vec_len, All, sym, subst, arith}
use Rattle.mpc_workers.specs.Posts.{AtEach, IsOpening}
use Rattle.mpc_workers.specs.Joined.{IsJoining}
use Rattle.mpc_workers.specs.Seats.{AreNumbered, IsSeat}
use Rattle.mpc_workers.proofs.Programs.{each_weaker, one_longer}
use Rattle.mpc_workers.proofs.Joins.{none_back, all_front, all_last, numbered_front, numbered_last}
use Rattle.mpc_workers.proofs.joining.join_all.Goals as goal

pub loop-seat-init : goal.loop-seat-init
loop-seat-init c = record {
  firsts = each_weaker (IsOpening c.args.workers) (IsJoining c.args.workers (vec_len c.args.seats)) c.args.turns.now c.args.programs.now c.args.firsts.now
      (λ t q p e. subst (λ (n : ℕ). IsJoining c.args.workers n t q p) (sym c.requires.count) (none_back t q c.args.workers p e)) c.requires.firsts;
  each = c.requires.seats;
  numbered = c.requires.numbered;
}

pub join_seat-requires-clause-seat : goal.join_seat-requires-clause-seat
join_seat-requires-clause-seat c =
    all_last (IsSeat c.args.turns.now c.args.programs.now c.args.workers) c.pop.new.self.items c.in-Some.seat (subst (All (IsSeat c.args.turns.now c.args.programs.now c.args.workers)) c.in-Some.ensures.items c.loop-seat.invariant.each)

pub join_seat-requires-clause-firsts : goal.join_seat-requires-clause-firsts
join_seat-requires-clause-firsts c =
    let long = one_longer c.loop-seat.seats.items c.pop.new.self.items c.in-Some.seat c.in-Some.ensures.items in
    let number = numbered_last c.pop.new.self.items c.in-Some.seat (subst AreNumbered c.in-Some.ensures.items c.loop-seat.invariant.numbered) in
    let counted = c.loop-seat.seats.ok in
    let same : vec_len c.loop-seat.seats ≡ c.in-Some.seat.worker = omega (arith, long, number, counted) in
    subst (λ (n : ℕ). AtEach (IsJoining c.args.workers n) c.args.turns.now c.args.programs.now c.loop-seat.firsts) same c.loop-seat.invariant.firsts

pub loop-seat-preserved : goal.loop-seat-preserved
loop-seat-preserved c =
    let number = numbered_last c.pop.new.self.items c.in-Some.seat (subst AreNumbered c.in-Some.ensures.items c.loop-seat.invariant.numbered) in
    let left = c.pop.new.self.ok in
    let same : c.in-Some.seat.worker - 1 ≡ vec_len c.pop.new.self = omega (arith, number, left) in
    record {
      firsts = subst (λ (n : ℕ). AtEach (IsJoining c.args.workers n) c.args.turns.now c.args.programs.now c.join_seat.new.firsts) same c.join_seat.ensures;
      each = all_front (IsSeat c.args.turns.now c.args.programs.now c.args.workers) c.pop.new.self.items c.in-Some.seat (subst (All (IsSeat c.args.turns.now c.args.programs.now c.args.workers)) c.in-Some.ensures.items c.loop-seat.invariant.each);
      numbered = numbered_front c.pop.new.self.items c.in-Some.seat (subst AreNumbered c.in-Some.ensures.items c.loop-seat.invariant.numbered);
    }
