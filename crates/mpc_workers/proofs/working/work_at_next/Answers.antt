use Rattle.std.proofs.Common.{◌<◌, ◌∙◌, ℕ, Ok, length, set, refl, sym, ap, subst, arith}
use Rattle.mpc_workers.specs.Posts.{after, CallsOnlyAt, IsAtProgram}
use Rattle.mpc_workers.proofs.Rounds.{one_changed, nothing_more, nothing_before, no_calls_more, calls_only}
use Rattle.mpc_workers.proofs.working.work_at_next.Goals as goal

pub work_at-requires-clause-worker : goal.work_at-requires-clause-worker
work_at-requires-clause-worker g c = subst (IsAtProgram c.args.pool.now.programs.now) (sym c.loop-steps.invariant.worker) c.requires.worker

pub work_at-requires-clause-post : goal.work_at-requires-clause-post
work_at-requires-clause-post g c =
    let count = c.loop-steps.invariant.posts.posts_are in
    let within : c.place_after-place.result < length c.args.pool.now.programs.now = omega (arith, count, c.place_after-place.ensures.within) in
    c.loop-steps.invariant.posts.each c.place_after-place.result c.index-pool-place.result c.index-pool-place-in-loop-steps.result c.index-posts-place.result within

pub returns-then-took-clause-posts : goal.returns-then-took-clause-posts
returns-then-took-clause-posts g c =
    let count = c.loop-steps.invariant.posts.posts_are in
    let within : c.place_after-place.result < length c.args.pool.now.programs.now = omega (arith, count, c.place_after-place.ensures.within) in
    one_changed c.args.number c.args.pool.now.turns.now c.args.pool.now.programs.now c.loop-steps.posts c.place_after-place.result c.index-pool-place.result c.index-pool-place-in-loop-steps.result c.index-posts-place.result within c.loop-steps.invariant.posts c.work_at.new.post c.in-Ok.ensures.post

pub returns-then-took-clause-first : goal.returns-then-took-clause-first
returns-then-took-clause-first g c = λ _.
    let count = c.loop-steps.invariant.posts.posts_are in
    let steps : c.loop-steps.steps < length c.args.pool.now.programs.now = omega (arith, count, c.loop-steps-test.true) in
    let place = c.place_after-place.ensures.place ∙ ap (after c.args.worker.now.program c.loop-steps.steps) count in
    record {
      steps = c.loop-steps.steps;
      within = steps;
      place_is = c.in-Ok.ensures.turned (ap Ok c.if-took.true) ∙ place;
      nothing = nothing_before c.args.pool.now.programs.now c.loop-steps.posts _ c.args.worker.now.program c.loop-steps.steps c.place_after-place.result c.work_at.new.post refl place (c.requires.worker.within (omega (arith, steps))) steps c.loop-steps.invariant.nothing;
    }

pub returns-then-took-clause-only : goal.returns-then-took-clause-only
returns-then-took-clause-only g c = λ _.
    subst (λ (n : ℕ). CallsOnlyAt n c.args.posts.now (set c.loop-steps.posts c.place_after-place.result c.work_at.new.post)) (sym (c.in-Ok.ensures.turned (ap Ok c.if-took.true)))
    (calls_only c.args.posts.now c.loop-steps.posts _ c.place_after-place.result c.work_at.new.post refl c.loop-steps.invariant.no_calls)

pub returns-in-Err-clause-posts : goal.returns-in-Err-clause-posts
returns-in-Err-clause-posts g c =
    let count = c.loop-steps.invariant.posts.posts_are in
    let within : c.place_after-place.result < length c.args.pool.now.programs.now = omega (arith, count, c.place_after-place.ensures.within) in
    one_changed c.args.number c.args.pool.now.turns.now c.args.pool.now.programs.now c.loop-steps.posts c.place_after-place.result c.index-pool-place.result c.index-pool-place-in-loop-steps.result c.index-posts-place.result within c.loop-steps.invariant.posts c.work_at.new.post c.in-Err.ensures.post

pub loop-steps-preserved : goal.loop-steps-preserved
loop-steps-preserved g c =
    let count = c.loop-steps.invariant.posts.posts_are in
    let steps : c.loop-steps.steps < length c.args.pool.now.programs.now = omega (arith, count, c.loop-steps-test.true) in
    let within : c.place_after-place.result < length c.args.pool.now.programs.now = omega (arith, count, c.place_after-place.ensures.within) in
    let place = c.place_after-place.ensures.place ∙ ap (after c.args.worker.now.program c.loop-steps.steps) count in
    let found = ap Ok c.if-took.false in
    record {
      worker = c.in-Ok.ensures.same found ∙ c.loop-steps.invariant.worker;
      posts = one_changed c.args.number c.args.pool.now.turns.now c.args.pool.now.programs.now c.loop-steps.posts c.place_after-place.result c.index-pool-place.result c.index-pool-place-in-loop-steps.result c.index-posts-place.result within c.loop-steps.invariant.posts c.work_at.new.post c.in-Ok.ensures.post;
      nothing = nothing_more c.args.pool.now.programs.now c.loop-steps.posts _ c.args.worker.now.program c.loop-steps.steps c.place_after-place.result c.index-pool-place-in-loop-steps.result c.work_at.new.post refl place (c.requires.worker.within (omega (arith, steps))) steps count within c.loop-steps.invariant.nothing (c.in-Ok.ensures.nothing found);
      no_calls = no_calls_more c.args.posts.now c.loop-steps.posts _ c.place_after-place.result c.index-posts-place.result c.work_at.new.post refl (omega (arith, count, within)) (c.in-Ok.ensures.no_calls found) c.loop-steps.invariant.no_calls;
    }

pub returns-clause-worker : goal.returns-clause-worker
returns-clause-worker g c = subst (IsAtProgram c.args.pool.now.programs.now) (sym c.loop-steps.invariant.worker) c.requires.worker
