use Rattle.std.proofs.Common.{ℕ, ◌≡◌, ◌+◌, ◌*◌, ◌^◌, ◌<◌, ◌≤◌, ◌⊎◌, inl, inr, List, ℤ, pos, length, unsigned_abs, sym, subst, arith, le_trans, mul-le-mul_right}
use Rattle.std.proofs.lemmas.Bool.{cases_lt, false≢true}
use Rattle.std.proofs.lemmas.List.{get_or_past}
use Rattle.mpc_scaled.specs.Scaled.{whole_cell}
use Rattle.mpc_whole.proofs.Judges.{within_share}
use Rattle.mpc_whole.proofs.WholeForm.{column_norm}
use Rattle.mpc_whole.proofs.judge.is_column_within.Goals as goal

pub returns-then-top-limit-2-clause-sides : goal.returns-then-top-limit-2-clause-sides
returns-then-top-limit-2-clause-sides c = λ i h.
    let s = c.args.system.now in
    let top = c.args.top in
    let some : 0 < c.args.norm = (let q = c.requires.norm.some in omega arith) in
    let share : top * c.args.norm ≤ c.args.limit = within_share c.args.limit c.args.norm top some c.if-top-limit-2.true in
    le_trans (column_norm s c.args.entries.now c.args.numbers.now c.args.norm top c.requires.norm c.args.column c.requires.top i) (omega arith)

-- what is past the end of a column is 0
column_small : (w : ℕ) (v : List ℤ) (c m : ℕ) → length v ≡ w * w → ((j : ℕ) → j < w → unsigned_abs (whole_cell w v j c) ≤ m) → (j : ℕ) → unsigned_abs (whole_cell w v j c) ≤ m
column_small w v c m square h j = by (cases_lt j w)
  where
    by : (j < w) ⊎ (w ≤ j) → unsigned_abs (whole_cell w v j c) ≤ m
    by (inl l) = h j l
    by (inr l) = let r : w * w ≤ j * w = mul-le-mul_right w l in subst (λ u. unsigned_abs u ≤ m) (sym (get_or_past v (j * w + c) (pos 0) (omega arith))) (omega arith)

pub are_sides_within-requires-clause-short : goal.are_sides_within-requires-clause-short
are_sides_within-requires-clause-short c = λ t. absurd (false≢true t)

pub are_sides_within-requires-clause-room : goal.are_sides_within-requires-clause-room
are_sides_within-requires-clause-room c = λ _. c.requires.room

pub are_sides_within-requires-2-clause-short : goal.are_sides_within-requires-2-clause-short
are_sides_within-requires-2-clause-short c = λ _. column_small c.args.system.now.width c.args.numbers.now c.args.column (2 ^ 62) c.requires.square
    (λ j h. let s = c.requires.top j h in omega arith)

pub are_sides_within-requires-2-clause-room : goal.are_sides_within-requires-2-clause-room
are_sides_within-requires-2-clause-room c = λ _. c.requires.room
