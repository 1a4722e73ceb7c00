-- The history that a registry is written as.
use Rattle.std.proofs.Common.{◌≡◌, ℕ, ◌<◌, List, [], ◌∷◌, ◌++◌, ◌+◌, length, get_or, take, append_assoc, sym, ◌∙◌, ap}
use Rattle.std.proofs.lemmas.List.{append-nil, take_more}
use Rattle.mpc_plant.specs.declared.plants.Plant.{Plant}
use Rattle.mpc_claim.specs.declared.events.Event.{Event}
use Rattle.mpc_claim.specs.Board.{Board}
use Rattle.mpc_claim.specs.HistoryTheorems.{LegalTheorems, ClaimTheorems, AppendTheorems, LegalBeginnings}
use Rattle.mpc_synthesis.specs.Programs.{IsDecidedBy}
use Rattle.mpc_trace.specs.Histories.{event_text, history_text, IsTraceOf}
use Rattle.mpc_trace.proofs.HistoryLemmas.{each_claimed, each_delivered}

module _ (legal : LegalTheorems) (claims : ClaimTheorems) (appended : AppendTheorems) (beginnings : LegalBeginnings) where
  pub traced : (board : Board) (history : List Event) (text : List ℕ) → history ≡ board.history → text ≡ history_text history → (workers : ℕ) (plant : Plant) → IsDecidedBy workers plant board → IsTraceOf workers plant text
  traced board history text is written workers plant by = record {
    qp = by.qp;
    condensed = by.verdicts.has_program.condensed;
    history = board.history;
    legal = by.done.legal;
    finished = by.finished;
    claimed = each_claimed legal claims appended beginnings by.qp board.history by.done.legal by.finished;
    delivered = each_delivered legal claims appended beginnings by.qp board.history by.done.legal by.finished;
    by_workers = by.done.by_workers;
    one_each = by.done.one_each;
    turns = by.done.turns;
    written = written ∙ ap history_text is;
  }

-- ---- the text of a history, event by event
history_text-push : (es : List Event) (e : Event) → history_text (es ++ e ∷ []) ≡ history_text es ++ event_text e
history_text-push [] e = append-nil (event_text e)
history_text-push (d ∷ es) e = ap (λ t. event_text d ++ t) (history_text-push es e) ∙ sym (append_assoc (event_text d) (history_text es) (event_text e))

pub history_more : (es : List Event) (i : ℕ) (e : Event) (old new : List ℕ) → i < length es → e ≡ get_or es i e → old ≡ history_text (take i es) → new ≡ old ++ event_text e → new ≡ history_text (take (i + 1) es)
history_more es i e old new below is before after =
    after ∙ ap (λ t. t ++ event_text e) before ∙ sym (history_text-push (take i es) e) ∙ ap (λ d. history_text (take i es ++ d ∷ [])) is ∙ ap history_text (sym (take_more es i e below))
