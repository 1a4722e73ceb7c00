use Rattle.std.proofs.Common.{◌≡◌, ◌∙◌, All, subst, sym, ap}
use Rattle.mpc_space.specs.Matrix.{height}
use Rattle.mpc_rows.specs.Candidates.{IsTable}
use Rattle.mpc_rows.specs.SetRuns.{LawRowsFit}
use Rattle.mpc_claim.specs.declared.events.Phase.TheVariants.{Finished}
use Rattle.mpc_claim.specs.Board.{Board}
use Rattle.mpc_claim.specs.Entries.{seen}
use Rattle.mpc_claim.specs.Levels.{laws_of}
use Rattle.mpc_claim.specs.Books.{HasPhase}
use Rattle.mpc_claim.proofs.Table.{names_sets, is_table, rows_fit}
use Rattle.mpc_claim.proofs.Taken.{stand_once}
use Rattle.mpc_claim.proofs.registry.Registry.into_laws.Goals as goal

pub collect_laws-requires-clause-within : goal.collect_laws-requires-clause-within
collect_laws-requires-clause-within c = rw c.deref.ensures.value c.self.invariant.1.within

pub collect_laws-requires-clause-once : goal.collect_laws-requires-clause-once
collect_laws-requires-clause-once c =
    let r = c.self.inside in
    let k = c.self.invariant.0 in
    let finished : r.phase ≡ Finished = ap (λ (b : Board). b.phase) c.self.view_is ∙ c.requires in
    rw c.deref.ensures.value
    (stand_once (seen r.verdicts.items r.entries.items) (names_sets r.program (seen r.verdicts.items r.entries.items) r.settled r.claims r.pending r.history.items k.slots (subst (HasPhase r.program (seen r.verdicts.items r.entries.items) r.history.items) finished k.phase_fits)) k.lineup.in_order)

pub returns-clause-table : goal.returns-clause-table
returns-clause-table c =
    let r = c.self.inside in
    let k = c.self.invariant.0 in
    let finished : r.phase ≡ Finished = ap (λ (b : Board). b.phase) c.self.view_is ∙ c.requires in
    subst (λ (b : Board). IsTable b.program c.in_ok-laws.laws) c.self.view_is
    (subst (IsTable r.program) (sym (c.in_ok-laws.ensures ∙ ap (λ u. laws_of (seen r.verdicts.items u)) c.deref.ensures.value))
    (is_table c.law_theorems.ensures.law_unique r.program (seen r.verdicts.items r.entries.items) r.settled r.claims r.pending r.size r.history.items k.definite k.lineup k.slots (subst (HasPhase r.program (seen r.verdicts.items r.entries.items) r.history.items) finished k.phase_fits)))

pub returns-clause-rows_fit : goal.returns-clause-rows_fit
returns-clause-rows_fit c =
    let r = c.self.inside in
    let k = c.self.invariant.0 in
    let finished : r.phase ≡ Finished = ap (λ (b : Board). b.phase) c.self.view_is ∙ c.requires in
    subst (λ (b : Board). All (λ law. LawRowsFit b.program law (height b.program.g)) c.in_ok-laws.laws) c.self.view_is
    (subst (All (λ law. LawRowsFit r.program law (height r.program.g))) (sym (c.in_ok-laws.ensures ∙ ap (λ u. laws_of (seen r.verdicts.items u)) c.deref.ensures.value))
    (rows_fit r.program (seen r.verdicts.items r.entries.items) r.settled r.claims r.pending r.history.items k.slots (subst (HasPhase r.program (seen r.verdicts.items r.entries.items) r.history.items) finished k.phase_fits)))
