-- What one worker or several leave of a program.
use Rattle.std.proofs.Common.{ℕ, ◌≤◌, List, [], ◌∷◌, All, lit<, lit≤, sym, subst, arith}
use Rattle.std.proofs.lemmas.List.Elements.{All-nil, All-cons}
use Rattle.mpc_rows.specs.declared.programs.Qp.{Qp}
use Rattle.mpc_claim.specs.declared.events.Event.{Event}
use Rattle.mpc_claim.specs.Board.{Board}
use Rattle.mpc_workers.specs.Alone.{AreTurns, IsDoneAlone}
use Rattle.mpc_workers.specs.Seats.{IsWorker, IsDone}
use Rattle.mpc_synthesis.specs.Crews.{HasEnded}

abbrev IsFirst : Event → Type 0
IsFirst e = IsWorker 1 e.worker

by_first : (history : List Event) → AreTurns history → All IsFirst history
by_first [] t = All-nil IsFirst
by_first (x ∷ []) t = absurd t
by_first (x ∷ y ∷ rest) t =
    All-cons IsFirst x (y ∷ rest) (subst IsFirst (sym t.0.claim_is) (lit< tt, lit≤ tt))
    (All-cons IsFirst y rest (subst IsFirst (sym t.0.done_is) (lit< tt, lit≤ tt)) (by_first rest t.1))

pub ended_alone : (qp : Qp) (board : Board) → IsDoneAlone qp board → HasEnded 1 qp board
ended_alone qp board d = record {
  program = d.program;
  legal = d.legal;
  ended = d.ended;
  by_workers = by_first board.history d.turns;
  one_each = d.one_each;
  turns = λ _. d.turns;
}

pub ended_together : (workers : ℕ) (qp : Qp) (board : Board) → 2 ≤ workers → IsDone qp workers board → HasEnded workers qp board
ended_together workers qp board two d = record {
  program = d.program;
  legal = d.legal;
  ended = d.ended;
  by_workers = d.workers;
  one_each = d.one_each;
  turns = λ one. absurd (omega (arith, two, one));
}
