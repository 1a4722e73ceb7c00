use Rattle.std.proofs.Common.{◌+◌, refl, arith}
use Rattle.mpc_workers.proofs.Splits.{still_opening, split_more, split_all, given_more, given_all}
use Rattle.mpc_workers.proofs.seats.seat_of.Goals as goal

pub split_post-post-requires-clause-first : goal.split_post-post-requires-clause-first
split_post-post-requires-clause-first c =
    still_opening c.args.turns.now c.args.programs.now c.loop-place.firsts c.args.before c.loop-place.place c.index-turns-place.result c.index-programs-place.result c.loop-place-test.true c.index-turns-place.is c.index-programs-place.is c.loop-place.invariant.firsts c.index-firsts-place.result

pub loop-place-preserved : goal.loop-place-preserved
loop-place-preserved c = record {
  firsts = split_more c.args.turns.now c.args.programs.now c.loop-place.firsts c.args.before c.loop-place.place c.index-turns-place.result c.index-programs-place.result c.loop-place-test.true c.index-turns-place.is c.index-programs-place.is c.loop-place.invariant.firsts _ c.split_post-post.new.first refl c.split_post-post.ensures.first;
  room = omega (arith, c.push_reserved.ensures.capacity, c.loop-place.invariant.room);
  count = omega (arith, c.push_reserved.ensures.len, c.loop-place.invariant.count);
  posts = given_more c.args.turns.now c.args.programs.now c.loop-place.firsts c.args.before c.loop-place.place c.index-turns-place.result c.index-programs-place.result c.loop-place-test.true c.index-turns-place.is c.index-programs-place.is c.loop-place.invariant.firsts c.loop-place.posts.items c.push_reserved.new.self.items c.split_post-post.result c.split_post-post.ensures.post c.push_reserved.ensures.items c.loop-place.invariant.posts;
}

pub returns-clause-firsts : goal.returns-clause-firsts
returns-clause-firsts c = split_all c.args.turns.now c.args.programs.now c.loop-place.firsts c.args.before c.loop-place.place c.loop-place-test.false c.loop-place.invariant.firsts

pub returns-clause-seat : goal.returns-clause-seat
returns-clause-seat c = record {
  worker = (let b = c.requires.room in omega (arith, b), let b = c.requires.room in omega (arith, b));
  posts = given_all c.args.turns.now c.args.programs.now c.loop-place.posts.items (c.args.before + 1) c.loop-place.place c.loop-place-test.false c.loop-place.invariant.firsts.turns_are c.loop-place.invariant.posts;
}
