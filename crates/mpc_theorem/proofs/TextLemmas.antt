-- Texts of registries' histories, and those of workers who claim and deliver.
use Rattle.std.proofs.Common.{ℕ, List, subst}
use Rattle.mpc_plant.specs.declared.plants.Plant.{Plant}
use Rattle.mpc_space.specs.Definite.{IsDefinite}
use Rattle.mpc_definite.specs.PivotTheorems.{DefiniteByPivots}
use Rattle.mpc_rows.specs.LawTheorems.{OneLaw}
use Rattle.mpc_rows.specs.Candidates.{IsCandidate}
use Rattle.mpc_condense.specs.BestReplies.{OneProgram}
use Rattle.mpc_claim.specs.declared.events.Tag.{Tag}
use Rattle.mpc_claim.specs.History.{IsRightTag}
use Rattle.mpc_claim.specs.HistoryTheorems.{LegalTheorems, ClaimTheorems, AppendTheorems, LegalBeginnings}
use Rattle.mpc_synthesis.specs.Programs.{HasVerdicts}
use Rattle.mpc_trace.specs.Histories.{ClaimsEachOnce, IsTraceOf}
use Rattle.mpc_theorem.specs.Traces.{IsTagOf, IsTraceText, TraceIsText, TextIsTrace}
use Rattle.mpc_theorem.proofs.HistoryLemmas.{is_history, delivered_ended}
use Rattle.mpc_theorem.proofs.TraceLemmas.{is_legal, is_finished, by_workers, hold_one}
use Rattle.mpc_theorem.proofs.TagLemmas.{right_tag}
use Rattle.mpc_theorem.proofs.TurnLemmas.{turns}

module _ (legal : LegalTheorems) (claims : ClaimTheorems) (appended : AppendTheorems) where
  pub trace_text : LegalBeginnings → TraceIsText
  trace_text beginnings workers plant text t = record {
    qp = t.qp;
    condensed = t.condensed;
    history = t.history;
    is_history = is_history legal claims appended beginnings t.qp t.history t.legal t.finished t.one_each.one workers t.by_workers;
    written = t.written;
  }

  module _ (one_law : OneLaw) (one_program : OneProgram) (definite : DefiniteByPivots) (once : ClaimsEachOnce) where
    traced : (workers : ℕ) (plant : Plant) (text : List ℕ) (t : IsTraceText workers plant text) → HasVerdicts plant t.qp → IsTraceOf workers plant text
    traced workers plant text t v =
        let convex : IsDefinite t.qp.h.rows = definite t.qp.h.rows v.has_program.condensed.h_symmetric v.pivots.positive in
        let tags : (s : List ℕ) (tag : Tag) → IsCandidate t.qp s → IsTagOf t.qp s tag → IsRightTag t.qp s tag = λ s tag is says. right_tag one_law t.qp convex s (v.decided s is) tag says in
        let legally = is_legal t.qp workers t.history t.is_history legal claims appended tags in
        let wholly = is_finished t.qp workers t.history t.is_history legal claims appended tags in
        record {
          qp = t.qp;
          condensed = t.condensed;
          history = t.history;
          legal = legally;
          finished = wholly;
          claimed = once.claimed t.qp t.history legally wholly;
          delivered = once.delivered t.qp t.history legally wholly;
          by_workers = by_workers t.qp workers t.history t.is_history;
          one_each = record { one = λ past more cut w r s a b. hold_one t.qp workers t.history t.is_history past more cut w r s (a.claimed, λ d. a.open_still (delivered_ended past d.0 r d.1.0 d.1.1)) (b.claimed, λ d. b.open_still (delivered_ended past d.0 s d.1.0 d.1.1)) };
          turns = λ one. turns t.qp workers t.history t.is_history one;
          written = t.written;
        }

    pub text_trace : TextIsTrace
    text_trace workers plant text v t = traced workers plant text t (subst (HasVerdicts plant) (one_program plant v.0 t.qp v.1.has_program.condensed t.condensed) v.1)
