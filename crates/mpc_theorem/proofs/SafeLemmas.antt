-- What is found of a controller's file and its closed loop, in the words of what is due.
use Rattle.std.proofs.Common.{ℕ, ◌-◌, ◌^◌, ◌<◌, List, length}
use Rattle.mpc_exact.specs.Rational.{ℚ}
use Rattle.mpc_plant.specs.Reply.{move}
use Rattle.mpc_rows.specs.declared.trees.Node.TheVariants.{Law}
use Rattle.mpc_controller.specs.Parts.{Parts}
use Rattle.mpc_controller.specs.Bounds.{IsController}
use Rattle.mpc_controller.specs.Replies.{RepliesAt, by_law, first_move}
use Rattle.mpc_grammar.specs.FileGrammar.{IsSpelled}
use Rattle.mpc_grammar.specs.TextTheorems.{StatedCanBe}
use Rattle.mpc_check.specs.Acceptance.{Accepts, AcceptedIsRight}
use Rattle.mpc_recur.specs.declared.answers.Next.{Next}
use Rattle.mpc_recur.specs.Successors.{IsSafe, LeadsToTarget, LeadsAway}
use Rattle.mpc_recur.specs.Findings.{reached, too_wide}
use Rattle.mpc_recur.specs.Targets.{IsFound}
use Rattle.mpc_recur.specs.SafetyTheorems.{RuledOutWhereSafe, FoundLeadsAway, LeadsAwayNotSafe}
use Rattle.mpc_files.specs.declared.answers.Safety.TheVariants.{Safe, Refused, Unsafe}
use Rattle.mpc_files.specs.SafetyOutcomes.{SafetyOutcome, bad_file, finds, steps, safe, IsSafetyOutcome, OneSafetyOutcome}
use Rattle.mpc_theorem.specs.SafeFiles.{LeavesFrom, IsUnsafeFile, IsSafetyDue, DueIsFound, OneSafetyDue, AnswerIsDue, SafeIsForever}

pub safe_forever : SafeIsForever
safe_forever bytes a = record { parts = a.parts; spelled = a.spelled; forever = a.is.forever }

module _ (right : AcceptedIsRight) where
  leaves_from : (parts : Parts) (one : Next) (t : List ℚ) → IsController parts.plant parts.laws parts.tree → Accepts parts → LeadsToTarget parts one t → LeavesFrom parts one t
  leaves_from parts one t is accepts l =
      let u : List ℚ = first_move parts.plant.p l.law t in
      let replied : RepliesAt parts t (move u) = by_law (one.leaf - 1) l.number l.certs l.law l.ends l.named in
      let best = right parts t (move u) is accepts l.in_box replied in
      record {
        begins = record { in_box = l.in_box; sequence = best.0; is_sequence = best.1.sequence; admissible = best.1.admissible };
        leaf = Law l.number l.certs;
        ends = l.ends;
        u = u;
        replies = replied;
        arrives = l.arrives;
      }

  unsafe_file : (bytes : List ℕ) (parts : Parts) (one : Next) (pairs : List (ℚ × ℚ)) → IsSpelled bytes parts → IsController parts.plant parts.laws parts.tree → Accepts parts → LeadsAway parts one pairs → ¬ IsSafe parts → IsFound parts (reached one pairs)
      → IsUnsafeFile bytes one pairs
  unsafe_file bytes parts one pairs spelled is accepts leads not_safe first = record {
    parts = parts;
    spelled = spelled;
    accepts = accepts;
    leaves = record { reach = leads.reach; some = leads.some; leaves = λ d above below. leaves_from parts one _ is accepts (leads.away d above below) };
    not_safe = not_safe;
    first = first;
  }

  pub answer_due : AnswerIsDue
  answer_due bytes Safe a = record { parts = a.parts; spelled = a.spelled; accepts = a.is.accepts; goes_on = a.is.safe.safe; fits = a.is.safe.fits }
  answer_due bytes (Refused spot) a = record { parts = a.parts; spelled = a.spelled; found = a.is }
  answer_due bytes (Unsafe one pairs) a = unsafe_file bytes a.parts one pairs a.spelled a.of_shape a.is.accepts a.is.leads.leads a.is.leads.not_safe a.is.leads.first

  module _ (stated : StatedCanBe) (ruled_out : RuledOutWhereSafe) (leads : FoundLeadsAway) (not_safe : LeadsAwayNotSafe) where
    of_shape : (bytes : List ℕ) (parts : Parts) → length bytes < 2 ^ 64 → IsSpelled bytes parts → IsController parts.plant parts.laws parts.tree
    of_shape bytes parts short spelled = (stated bytes spelled.0 parts short spelled.1).controller

    due : (bytes : List ℕ) (outcome : SafetyOutcome) → length bytes < 2 ^ 64 → IsSafetyOutcome bytes outcome → IsSafetyDue bytes outcome
    due bytes (bad_file kind number) short h = h
    due bytes (finds finding) short h = h
    due bytes (steps (reached one pairs)) short h =
        let is = of_shape bytes h.parts short h.spelled in
        let away = leads h.parts one pairs is h.found in
        unsafe_file bytes h.parts one pairs h.spelled is h.accepts away (not_safe h.parts one pairs is away) h.found
    due bytes (steps (too_wide one)) short h = h
    due bytes safe short h =
        let whole = (ruled_out h.parts (of_shape bytes h.parts short h.spelled)).0 h.ruled_out in
        record { parts = h.parts; spelled = h.spelled; accepts = h.accepts; goes_on = whole.0; fits = whole.1 }

    found : (bytes : List ℕ) (outcome : SafetyOutcome) → length bytes < 2 ^ 64 → IsSafetyDue bytes outcome → IsSafetyOutcome bytes outcome
    found bytes (bad_file kind number) short h = h
    found bytes (finds finding) short h = h
    found bytes (steps (reached one pairs)) short h = record { parts = h.parts; spelled = h.spelled; accepts = h.accepts; found = h.first }
    found bytes (steps (too_wide one)) short h = h
    found bytes safe short h =
        record { parts = h.parts; spelled = h.spelled; accepts = h.accepts; ruled_out = (ruled_out h.parts (of_shape bytes h.parts short h.spelled)).1 (h.goes_on, h.fits) }

    pub due_found : DueIsFound
    due_found bytes outcome short = (found bytes outcome short, due bytes outcome short)

    pub one_due : OneSafetyOutcome → OneSafetyDue
    one_due one bytes a b short x y = one bytes a b short (found bytes a short x) (found bytes b short y)
