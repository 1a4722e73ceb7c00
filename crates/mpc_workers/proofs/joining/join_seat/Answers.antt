use Rattle.std.proofs.Common.{◌≡◌, ◌+◌, ◌<◌, ◌≤◌, ◌∙◌, ◌++◌, ◌∷◌, [], List, length, vec_len, get_or, sym, ap, refl, arith, ℕ}
use Rattle.mpc_workers.specs.declared.seats.Post.{Post}
use Rattle.mpc_workers.proofs.Programs.{front_item, last_item, one_longer}
use Rattle.mpc_workers.proofs.Joins.{its_post, its_first, one_joined}
use Rattle.mpc_workers.proofs.joining.join_seat.Goals as goal

-- what is taken out of the posts that are left is the seat's post at that place
taken_out : (own old rest : List Post) (post : Post) (left k most : ℕ) → old ≡ rest ++ post ∷ [] → left ≡ length old → k ≡ length rest → left ≤ most → ((j : ℕ) (p : Post) → j < left → get_or old j p ≡ get_or own j p)
    → (left ≡ k + 1) × (k < most) × (get_or own k post ≡ post)
taken_out own old rest post left k most items left_is place within same =
    let long = one_longer old rest post items in
    let more : left ≡ k + 1 = omega (arith, long, left_is, place) in
    (more, omega (arith, more, within), sym (same k post (omega (arith, more))) ∙ (ap (λ (i : ℕ). get_or old i post) place ∙ last_item old rest post post items))

pub join_post-requires-clause-post : goal.join_post-requires-clause-post
join_post-requires-clause-post c =
    let post = c.in-Some.post in
    let k = c.len-place.result in
    let taken = taken_out c.args.seat.posts.items c.loop-post.posts.items c.pop.new.self.items post (vec_len c.loop-post.posts) k (length c.args.programs.now) c.in-Some.ensures.items (omega (arith, c.loop-post.posts.ok)) (omega (arith, c.len-place.ensures, c.pop.new.self.ok)) c.loop-post.invariant.within c.loop-post.invariant.same in
    its_post c.args.turns.now c.args.programs.now c.args.workers c.args.seat c.requires.seat k c.index-turns-place.result c.index-programs-place.result post taken.1 c.index-turns-place.is c.index-programs-place.is taken.2

pub join_post-requires-clause-first : goal.join_post-requires-clause-first
join_post-requires-clause-first c =
    let post = c.in-Some.post in
    let k = c.len-place.result in
    let taken = taken_out c.args.seat.posts.items c.loop-post.posts.items c.pop.new.self.items post (vec_len c.loop-post.posts) k (length c.args.programs.now) c.in-Some.ensures.items (omega (arith, c.loop-post.posts.ok)) (omega (arith, c.len-place.ensures, c.pop.new.self.ok)) c.loop-post.invariant.within c.loop-post.invariant.same in
    its_first c.args.turns.now c.args.programs.now c.args.workers c.args.seat c.requires.seat k c.index-turns-place.result c.index-programs-place.result post taken.1 c.index-turns-place.is c.index-programs-place.is taken.2 c.loop-post.firsts (vec_len c.loop-post.posts) (vec_len c.pop.new.self) c.index-firsts-place.result (omega (arith, taken.0, c.len-place.ensures)) c.len-place.ensures c.loop-post.invariant.firsts

pub loop-post-preserved : goal.loop-post-preserved
loop-post-preserved c =
    let post = c.in-Some.post in
    let k = c.len-place.result in
    let left : vec_len c.pop.new.self ≡ k = sym c.len-place.ensures in
    let taken = taken_out c.args.seat.posts.items c.loop-post.posts.items c.pop.new.self.items post (vec_len c.loop-post.posts) k (length c.args.programs.now) c.in-Some.ensures.items (omega (arith, c.loop-post.posts.ok)) (omega (arith, c.len-place.ensures, c.pop.new.self.ok)) c.loop-post.invariant.within c.loop-post.invariant.same in
    record {
      within = omega (arith, left, taken.1);
      same = λ j p m. front_item c.loop-post.posts.items c.pop.new.self.items post p j c.in-Some.ensures.items (omega (arith, m, c.pop.new.self.ok)) ∙ c.loop-post.invariant.same j p (omega (arith, m, left, taken.0));
      firsts = one_joined c.args.turns.now c.args.programs.now c.args.workers c.args.seat c.requires.seat k c.index-turns-place.result c.index-programs-place.result post taken.1 c.index-turns-place.is c.index-programs-place.is taken.2 c.loop-post.firsts (vec_len c.loop-post.posts) (vec_len c.pop.new.self) c.index-firsts-place.result (omega (arith, taken.0, left)) c.len-place.ensures c.loop-post.invariant.firsts
          _ c.join_post.new.first refl c.join_post.ensures;
    }
