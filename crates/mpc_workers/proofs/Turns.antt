-- Turns of one worker.
use Rattle.std.proofs.Common.{◌≡◌, ℕ, zero, suc, ◌+◌, ◌-◌, ◌<◌, ◌≤◌, ◌⊎◌, List, [], ◌∷◌, ◌++◌, true, false, length, get_or, Contains, refl, sym, ap, ◌∙◌, subst, inl, inr, arith}
use Rattle.std.proofs.lemmas.List.{append_assoc, append-nil, length-append}
use Rattle.mpc_space.specs.Definite.{IsDefinite}
use Rattle.mpc_space.specs.Matrix.{height}
use Rattle.mpc_sets.specs.RowSet.{IsSetOfRows}
use Rattle.mpc_rows.specs.declared.programs.Qp.{Qp}
use Rattle.mpc_rows.specs.Verdicts.{IsRight}
use Rattle.mpc_claim.specs.declared.events.Event.{Event}
use Rattle.mpc_claim.specs.declared.events.EventKind.TheVariants.{Claim, Done}
use Rattle.mpc_claim.specs.declared.events.Phase.TheVariants.{Finished, Stopped}
use Rattle.mpc_claim.specs.declared.tickets.Ticket.{Ticket}
use Rattle.mpc_claim.specs.Board.{Board, event, tag_of}
use Rattle.mpc_claim.specs.History.{claimed_sets, ended_sets, has_drop, IsLegal, IsFinished, EndsWide}
use Rattle.mpc_claim.specs.Answers.{GivesJob, FindsIdle}
use Rattle.mpc_claim.specs.HistoryTheorems.{AppendTheorems, CandidateTheorems, ClaimTheorems, LegalTheorems}
use Rattle.mpc_workers.specs.Alone.{IsTurn, AreTurns, Delivers, IsDoneAlone}
use Rattle.mpc_workers.proofs.Holding.{turns_hold_one}

turns_push : (h : List Event) (c d : Event) → AreTurns h → IsTurn c d → AreTurns (h ++ c ∷ d ∷ [])
turns_push [] c d h t = (t, tt)
turns_push (x ∷ []) c d h t = absurd h
turns_push (x ∷ y ∷ rest) c d h t = (h.0, turns_push rest c d h.1 t)

turns_ended : (h : List Event) (s : List ℕ) → AreTurns h → Contains (claimed_sets h) s → Contains (ended_sets h) s
turns_ended [] s t c = c
turns_ended (x ∷ []) s t c = absurd t
turns_ended (x ∷ y ∷ rest) s t c =
    go x y t.0.claim_is t.0.done_is (λ k. turns_ended rest s t.1 k) c
  where
    plain : (set : List ℕ) → (Contains (claimed_sets rest) s → Contains (ended_sets rest) s) → Contains (set ∷ claimed_sets rest) s → Contains (set ∷ ended_sets rest) s
    plain set r (i, p, e) = one set i r p e
      where
        one : (set : List ℕ) (i : ℕ) → (Contains (claimed_sets rest) s → Contains (ended_sets rest) s) → i < length (set ∷ claimed_sets rest) → get_or (set ∷ claimed_sets rest) i s ≡ s → Contains (set ∷ ended_sets rest) s
        one set zero r p e = (0, omega arith, e)
        one set (suc i) r p e = let (j, q, f) = r (i, omega arith, e) in (suc j, omega arith, f)

    go : (x y : Event) → x ≡ event 1 t.0.set Claim → y ≡ event 1 t.0.set (Done t.0.tag) → (Contains (claimed_sets rest) s → Contains (ended_sets rest) s) → Contains (claimed_sets (x ∷ y ∷ rest)) s → Contains (ended_sets (x ∷ y ∷ rest)) s
    go x y e f r c =
        subst (λ (v : Event). Contains (ended_sets (v ∷ y ∷ rest)) s) (sym e) (subst (λ (v : Event). Contains (ended_sets (event 1 t.0.set Claim ∷ v ∷ rest)) s) (sym f)
        (plain t.0.set r (subst (λ (v : Event). Contains (claimed_sets (event 1 t.0.set Claim ∷ v ∷ rest)) s) f (subst (λ (v : Event). Contains (claimed_sets (v ∷ y ∷ rest)) s) e c))))

turns_no_drop : (h : List Event) → AreTurns h → has_drop h ≡ false
turns_no_drop [] t = refl
turns_no_drop (x ∷ []) t = absurd t
turns_no_drop (x ∷ y ∷ rest) t =
    ap (λ (v : Event). has_drop (v ∷ y ∷ rest)) t.0.claim_is ∙ ap (λ (v : Event). has_drop (event 1 t.0.set Claim ∷ v ∷ rest)) t.0.done_is ∙ turns_no_drop rest t.1

-- between turns nobody waits for another
pub never_idle : ClaimTheorems → (board : Board) → AreTurns board.history → FindsIdle board → ⊥
never_idle claims board t i =
    i.idle.open_still.open_still (turns_ended board.history i.idle.set t (claims.claims board.history i.idle.worker i.idle.set i.idle.open_still.claimed))

-- what holds between turns
pub record IsBetweenTurns (qp : Qp) (board : Board) : Type 0 where
  pub program : board.program ≡ qp
  pub legal : IsLegal qp board.history
  pub turns : AreTurns board.history

module _ (legal : LegalTheorems) (claims : ClaimTheorems) (appended : AppendTheorems) (candidates : CandidateTheorems) (qp : Qp) (old middle new : Board) (ticket : Ticket) (b : IsBetweenTurns qp old) (j : GivesJob old 1 ticket middle) where
  pub middle_program : middle.program ≡ qp
  middle_program = j.program ∙ b.program

  pub job_rows : IsSetOfRows (height middle.program.g) ticket.set
  job_rows = subst (λ (q : Qp). IsSetOfRows (height q.g) ticket.set) (sym j.program) (candidates.rows old.program ticket.set j.may_claim.candidate)

  pub job_few : length ticket.set ≤ height middle.program.h
  job_few = subst (λ (q : Qp). length ticket.set ≤ height q.h) (sym j.program) (candidates.few old.program ticket.set j.may_claim.candidate)

  pub job_definite : IsDefinite middle.program.h.rows
  job_definite = j.sound.definite

  middle_legal : IsLegal qp middle.history
  middle_legal = subst (λ (q : Qp). IsLegal q middle.history) middle_program j.sound.legal

  more_claimed : length (claimed_sets middle.history) ≡ length (claimed_sets old.history) + 1
  more_claimed =
      let l = length-append (claimed_sets old.history) (ticket.set ∷ []) in
      ap (λ h. length (claimed_sets h)) j.history ∙ ap length (appended.claimed old.history (event 1 ticket.set Claim ∷ [])) ∙ l

  pub turn_counts : Delivers middle ticket new → 56049059 - length (claimed_sets new.history) < 56049059 - length (claimed_sets old.history)
  turn_counts d =
      let same : length (claimed_sets new.history) ≡ length (claimed_sets middle.history) =
      ap (λ (v : Board). length (claimed_sets v.history)) d.new_is ∙ ap length (appended.claimed middle.history (event ticket.worker ticket.set (Done (tag_of d.verdict)) ∷ []) ∙ append-nil (claimed_sets middle.history)) in
      let few = claims.few qp middle.history middle_legal in
      let more = more_claimed in
      omega (arith, same, few, more)

  pub turn_taken : Delivers middle ticket new → IsBetweenTurns qp new
  turn_taken d = record {
    program = ap (λ (v : Board). v.program) d.new_is ∙ middle_program;
    legal = subst (λ (v : Board). IsLegal qp v.history) (sym d.new_is)
        (legal.more qp middle.history (event ticket.worker ticket.set (Done (tag_of d.verdict))) middle_legal
        (j.opens.may_end, record { verdict = d.verdict; right = subst (λ (q : Qp). IsRight q ticket.set d.verdict) middle_program d.right; tagged = refl }));
    turns = subst (λ (v : Board). AreTurns v.history) (sym d.new_is)
        (subst (λ h. AreTurns (h ++ event ticket.worker ticket.set (Done (tag_of d.verdict)) ∷ [])) (sym j.history)
        (subst AreTurns (sym (append_assoc old.history (event 1 ticket.set Claim ∷ []) (event ticket.worker ticket.set (Done (tag_of d.verdict)) ∷ [])))
        (turns_push old.history (event 1 ticket.set Claim) (event ticket.worker ticket.set (Done (tag_of d.verdict))) b.turns
        (record { set = ticket.set; tag = tag_of d.verdict; claim_is = refl; done_is = ap (λ w. event w ticket.set (Done (tag_of d.verdict))) j.worker_is }))));
  }

-- ---- the end
pub ends_finished : (qp : Qp) (old new : Board) → IsBetweenTurns qp old → new ≡ record old { phase = Finished } → IsFinished old.program old.history → IsDoneAlone qp new
ends_finished qp old new b e f = subst (IsDoneAlone qp) (sym e) (record {
  program = b.program;
  legal = b.legal;
  ended = inl (refl, subst (λ (q : Qp). IsFinished q old.history) b.program f);
  turns = b.turns;
  one_each = turns_hold_one old.history b.turns;
  none_open = λ s c. turns_ended old.history s b.turns c;
  no_drop = turns_no_drop old.history b.turns;
})

pub ends_stopped : (qp : Qp) (old new : Board) → IsBetweenTurns qp old → new ≡ record old { phase = Stopped } → (has_drop old.history ≡ true) ⊎ EndsWide old.program old.history → IsDoneAlone qp new
ends_stopped qp old new b e f = subst (IsDoneAlone qp) (sym e) (record {
  program = b.program;
  legal = b.legal;
  ended = inr (refl, wide f);
  turns = b.turns;
  one_each = turns_hold_one old.history b.turns;
  none_open = λ s c. turns_ended old.history s b.turns c;
  no_drop = turns_no_drop old.history b.turns;
})
  where
    wide : (has_drop old.history ≡ true) ⊎ EndsWide old.program old.history → EndsWide qp old.history
    wide (inl d) = let none = turns_no_drop old.history b.turns in absurd (cc)
    wide (inr w) = subst (λ (q : Qp). EndsWide q old.history) b.program w
