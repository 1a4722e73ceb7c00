-- Sections on their way to their answers.
use Rattle.std.proofs.Common.{◌≡◌, ◌≢◌, ℕ, zero, suc, ◌+◌, ◌<◌, ◌≤◌, ◌⊎◌, inl, inr, Bool, false, eqb, List, [], ◌∷◌, ◌++◌, length, get_or, All, refl, sym, ◌∙◌, ap, subst, arith}
use Rattle.std.specs.Prelude.{Contains, Result, Ok, Err, IfOk}
use Rattle.mpc_frac.specs.declared.NoMemory.{NoMemory}
use Rattle.mpc_sections.specs.declared.answers.Answer.{Answer}
use Rattle.std.specs.List.{AllZip, remove}
use Rattle.std.proofs.lemmas.List.{append_assoc, append-nil, length-append}
use Rattle.std.proofs.lemmas.List.Elements.{Contains-get_or, All-weaker, All-nil, All-cons}
use Rattle.mpc_plant.specs.declared.plants.Plant.{Plant}
use Rattle.mpc_plant.specs.declared.faults.PlantKind.{PlantKind}
use Rattle.mpc_plant.specs.declared.faults.PlantError.{PlantError}
use Rattle.mpc_plant.specs.declared.faults.PlantError.TheVariants.{Bad, NoMemory as NoPlantMemory}
use Rattle.mpc_plant.specs.WholePlant.{ReadsAsPlant, IsFirstFault}
use Rattle.mpc_rows.specs.declared.programs.Qp.{Qp}
use Rattle.mpc_rows.specs.declared.verdicts.Verdict.{Verdict}
use Rattle.mpc_rows.specs.declared.verdicts.Verdict.TheVariants.{Dependent, Unreachable, Hollow, Region, Wide}
use Rattle.mpc_claim.specs.declared.events.Event.{Event}
use Rattle.mpc_claim.specs.declared.events.EventKind.TheVariants.{Done}
use Rattle.mpc_claim.specs.declared.events.Tag.{Tag}
use Rattle.mpc_claim.specs.declared.events.Tag.TheVariants.{Wide as WideTag}
use Rattle.mpc_claim.specs.declared.events.Phase.TheVariants.{Finished, Stopped}
use Rattle.mpc_claim.specs.Board.{Board, event, tag_of, is_wide}
use Rattle.mpc_claim.specs.History.{IsLegal, IsFinished, EndsWide}
use Rattle.mpc_claim.specs.HistoryTheorems.{LegalTheorems}
use Rattle.mpc_workers.specs.Seats.{IsWorker, IsDone}
use Rattle.mpc_synthesis.specs.Programs.{IsDecided, IsDecidedBy}
use Rattle.mpc_status.specs.declared.status.Status.{Status}
use Rattle.mpc_status.specs.StatusText.{line_of}
use Rattle.mpc_space.specs.Definite.{IsDefinite}
use Rattle.mpc_sections.specs.declared.beginnings.Begun.{Begun}
use Rattle.mpc_sections.specs.declared.beginnings.Begun.TheVariants.{Refused, Convex}
use Rattle.mpc_sections.specs.Sections.{sections_of}
use Rattle.mpc_sections.specs.Alone.{IsAlone, IsPlantAnswer, no_plant, of_plant, heading, AreAnswered, none, one_more}
use Rattle.mpc_condense.specs.Convex.{IsConvexProgram}
use Rattle.mpc_sections.specs.Steps.{IsExamined, AreBegun, no_more, refused, convex, BeginsAs, IsFaultOf, HasRegistry, IsAnswered}

-- ---- the registry of a plant's program at its end
not_wide_by : (v : Verdict) (tag : Tag) → tag_of v ≡ tag → tag ≢ WideTag → is_wide v ≡ false
not_wide_by Dependent tag e n = refl
not_wide_by Unreachable tag e n = refl
not_wide_by Hollow tag e n = refl
not_wide_by (Region law) tag e n = refl
not_wide_by (Wide place) tag e n = absurd (n (sym e))

decided_of : LegalTheorems → (qp : Qp) (history : List Event) → IsLegal qp history → IsFinished qp history → IsDecided qp
decided_of laws qp history legal finished s candidate =
    let settled = finished.settled s candidate in
    let d = settled.done.delivery in
    let done = event settled.done.worker s (Done settled.tag) in
    let right = laws.right_tags qp history settled.done.worker s settled.tag legal (subst (Contains history) d.2 (Contains-get_or history d.0 done d.1)) in
    (right.verdict, right.right, not_wide_by right.verdict settled.tag right.tagged settled.not_wide)

stopped_not_finished : (board : Board) → board.phase ≡ Stopped → board.phase ≡ Finished → ⊥
stopped_not_finished board e f = cc

finished_by : (workers : ℕ) (qp : Qp) (board : Board) → IsDone qp workers board → board.phase ≡ Finished → IsFinished qp board.history
finished_by workers qp board done phase = by done.ended
  where
    by : ((board.phase ≡ Finished) × IsFinished qp board.history) ⊎ ((board.phase ≡ Stopped) × EndsWide qp board.history) → IsFinished qp board.history
    by (inl h) = h.1
    by (inr h) = absurd (stopped_not_finished board h.0 phase)

-- A pool of so many workers is one of more, of whom some have nothing to do. Of a single worker more is known than that no other has a set, and
-- the fleet's worker needn't deliver right after its claim.
pub decided_by : LegalTheorems → (plant : Plant) (board : Board) → IsExamined plant board → board.phase ≡ Finished → (workers : ℕ) × IsDecidedBy workers plant board
decided_by laws plant board x phase =
    let finished = finished_by x.workers x.qp board x.done phase in (
      x.workers + 2,
      record {
        qp = x.qp;
        verdicts = record { has_program = x.convex.has_program; pivots = x.convex.pivots; decided = decided_of laws x.qp board.history x.done.legal finished };
        done = record {
          program = x.done.program;
          legal = x.done.legal;
          ended = x.done.ended;
          by_workers = All-weaker (λ (e : Event). IsWorker x.workers e.worker) (λ (e : Event). IsWorker (x.workers + 2) e.worker) (λ e w. (w.0, let m = w.1 in omega (arith, m))) board.history x.done.workers;
          one_each = x.done.one_each;
          turns = λ one. absurd (omega (arith, one));
        };
        phase = phase;
        finished = finished;
      },
    )

-- ---- one section more has begun
module _ {X : Type 0} (Holds : Plant → X → Type 0) where
  pub refused_more : (section : List ℕ) (status : Status) (sections : List (List ℕ)) (begun : List Begun) (xs : List X) → IsAlone section status (line_of status) → AreBegun X Holds sections begun xs → AreBegun X Holds (sections ++ section ∷ []) (begun ++ Refused status ∷ []) xs
  refused_more section status _ _ _ a no_more = refused section status [] [] [] a no_more
  refused_more section status _ _ _ a (refused s t sections begun xs h more) = refused s t (sections ++ section ∷ []) (begun ++ Refused status ∷ []) xs h (refused_more section status sections begun xs a more)
  refused_more section status _ _ _ a (convex s plant x sections begun xs r h more) = convex s plant x (sections ++ section ∷ []) (begun ++ Refused status ∷ []) xs r h (refused_more section status sections begun xs a more)

  pub convex_more : (section : List ℕ) (plant : Plant) (x : X) (sections : List (List ℕ)) (begun : List Begun) (xs : List X) → ReadsAsPlant section plant → Holds plant x → AreBegun X Holds sections begun xs → AreBegun X Holds (sections ++ section ∷ []) (begun ++ Convex plant ∷ []) (xs ++ x ∷ [])
  convex_more section plant x _ _ _ r h no_more = convex section plant x [] [] [] r h no_more
  convex_more section plant x _ _ _ r h (refused s t sections begun xs a more) = refused s t (sections ++ section ∷ []) (begun ++ Convex plant ∷ []) (xs ++ x ∷ []) a (convex_more section plant x sections begun xs r h more)
  convex_more section plant x _ _ _ r h (convex s p y sections begun xs q k more) = convex s p y (sections ++ section ∷ []) (begun ++ Convex plant ∷ []) (xs ++ x ∷ []) q k (convex_more section plant x sections begun xs r h more)

  pub no_more_than : (sections : List (List ℕ)) (begun : List Begun) (xs : List X) → AreBegun X Holds sections begun xs → length xs ≤ length sections
  no_more_than _ _ _ no_more = omega arith
  no_more_than _ _ _ (refused s t sections begun xs a more) = let m = no_more_than sections begun xs more in omega (arith, m)
  no_more_than _ _ _ (convex s p y sections begun xs q k more) = let m = no_more_than sections begun xs more in omega (arith, m)

  pub as_many : (sections : List (List ℕ)) (begun : List Begun) (xs : List X) → AreBegun X Holds sections begun xs → length begun ≡ length sections
  as_many _ _ _ no_more = refl
  as_many _ _ _ (refused s t sections begun xs a more) = ap (λ (n : ℕ). suc n) (as_many sections begun xs more)
  as_many _ _ _ (convex s p y sections begun xs q k more) = ap (λ (n : ℕ). suc n) (as_many sections begun xs more)

pub begun_more : (section : List ℕ) (b : Begun) (before after : List Qp) (sections : List (List ℕ)) (begun : List Begun) → BeginsAs section b before after → AreBegun Qp IsConvexProgram sections begun before → AreBegun Qp IsConvexProgram (sections ++ section ∷ []) (begun ++ b ∷ []) after
begun_more section (Refused status) before after sections begun h a = subst (AreBegun Qp IsConvexProgram (sections ++ section ∷ []) (begun ++ Refused status ∷ [])) (sym h.1) (refused_more IsConvexProgram section status sections begun before h.0 a)
begun_more section (Convex plant) before after sections begun h a = subst (AreBegun Qp IsConvexProgram (sections ++ section ∷ []) (begun ++ Convex plant ∷ [])) (sym h.3) (convex_more IsConvexProgram section plant h.0 sections begun before h.1 h.2 a)

-- ---- the programs of all are examined
pub definite_all : (sections : List (List ℕ)) (begun : List Begun) (programs : List Qp) → AreBegun Qp IsConvexProgram sections begun programs → All (λ (qp : Qp). IsDefinite qp.h.rows) programs
definite_all _ _ _ no_more = All-nil (λ (qp : Qp). IsDefinite qp.h.rows)
definite_all _ _ _ (refused s t sections begun xs a more) = definite_all sections begun xs more
definite_all _ _ _ (convex s p y sections begun xs q k more) = All-cons (λ (qp : Qp). IsDefinite qp.h.rows) y xs k.definite (definite_all sections begun xs more)

pub examined_all : (workers : ℕ) (sections : List (List ℕ)) (begun : List Begun) (programs : List Qp) (registries : List Board) → AreBegun Qp IsConvexProgram sections begun programs → AllZip (λ (qp : Qp) (r : Board). IsDone qp workers r) programs registries
    → AreBegun Board IsExamined sections begun registries
examined_all workers _ _ _ [] no_more z = no_more
examined_all workers _ _ _ (r ∷ rs) no_more z = absurd z
examined_all workers _ _ _ rs (refused s t sections begun xs a more) z = refused s t sections begun rs a (examined_all workers sections begun xs rs more z)
examined_all workers _ _ _ [] (convex s p y sections begun xs q k more) z = absurd z
examined_all workers _ _ _ (r ∷ rs) (convex s p y sections begun xs q k more) z =
    convex s p r sections begun rs q (record { qp = y; convex = k; workers = workers; done = z.0 }) (examined_all workers sections begun xs rs more z.1)

-- ---- one answer more
pub answered_more : (number : ℕ) (sections : List (List ℕ)) (text section : List ℕ) (status : Status) (own : List ℕ) → AreAnswered number sections text → IsAlone section status own
    → AreAnswered number (sections ++ section ∷ []) (text ++ (heading (number + length sections) status ++ own))
answered_more number _ _ section status own (none n) a =
    subst (λ (k : ℕ). AreAnswered number (section ∷ []) (heading k status ++ own)) (zero_more number)
    (subst (AreAnswered number (section ∷ [])) (append-nil (heading number status ++ own)) (one_more number section status own [] [] a (none (number + 1))))
  where
    zero_more : (n : ℕ) → n ≡ n + 0
    zero_more n = omega arith
answered_more number _ _ section status own (one_more n s t u sections texts h more) a =
    let rest = answered_more (number + 1) sections texts section status own more a in
    let place : (number + 1) + length sections ≡ number + suc (length sections) = omega arith in
    subst (AreAnswered number (s ∷ (sections ++ section ∷ []))) (sym (append_assoc (heading number t ++ u) texts (heading (number + suc (length sections)) status ++ own)))
    (one_more number s t u (sections ++ section ∷ []) (texts ++ (heading (number + suc (length sections)) status ++ own)) h (subst (λ (k : ℕ). AreAnswered (number + 1) (sections ++ section ∷ []) (texts ++ (heading k status ++ own))) place rest))

-- ---- the loop that begins the sections
pub record HasBegun (input rest : List ℕ) (begun : List Begun) (programs : List Qp) : Type 0 where
  pub passed : List (List ℕ)
  pub joined : sections_of input ≡ passed ++ sections_of rest
  pub begins : AreBegun Qp IsConvexProgram passed begun programs

pub begun_none : (input : List ℕ) (begun : List Begun) (programs : List Qp) → begun ≡ [] → programs ≡ [] → HasBegun input input begun programs
begun_none input begun programs e f = subst (λ (bs : List Begun). HasBegun input input bs programs) (sym e) (subst (HasBegun input input []) (sym f) (record { passed = []; joined = refl; begins = no_more }))

pub begun_next : (input rest section after : List ℕ) (begun new : List Begun) (b : Begun) (programs more : List Qp) → HasBegun input rest begun programs → sections_of rest ≡ section ∷ sections_of after → BeginsAs section b programs more → new ≡ begun ++ b ∷ [] → HasBegun input after new more
begun_next input rest section after begun new b programs more h cut begins is = record {
  passed = h.passed ++ section ∷ [];
  joined = h.joined ∙ ap (λ (t : List (List ℕ)). h.passed ++ t) cut ∙ sym (append_assoc h.passed (section ∷ []) (sections_of after));
  begins = subst (λ (bs : List Begun). AreBegun Qp IsConvexProgram (h.passed ++ section ∷ []) bs more) (sym is) (begun_more section b programs more h.passed begun begins h.begins);
}

pub begun_last : (input rest section : List ℕ) (begun new : List Begun) (b : Begun) (programs more : List Qp) → HasBegun input rest begun programs → sections_of rest ≡ section ∷ [] → BeginsAs section b programs more → new ≡ begun ++ b ∷ [] → AreBegun Qp IsConvexProgram (sections_of input) new more
begun_last input rest section begun new b programs more h cut begins is =
    subst (λ (ss : List (List ℕ)). AreBegun Qp IsConvexProgram ss new more) (sym (h.joined ∙ ap (λ (t : List (List ℕ)). h.passed ++ t) cut))
    (subst (λ (bs : List Begun). AreBegun Qp IsConvexProgram (h.passed ++ section ∷ []) bs more) (sym is) (begun_more section b programs more h.passed begun begins h.begins))

-- ---- the first of them is answered
pub taken_first : {X : Type 0} (xs rest : List X) (x : X) → x ≡ get_or xs 0 x → rest ≡ remove xs 0 → 0 < length xs → xs ≡ x ∷ rest
taken_first [] rest x e is l = absurd (omega (arith, l))
taken_first (y ∷ ys) rest x e is l = λ i. (sym e i) ∷ (sym is i)

pub registry_of : (sections : List (List ℕ)) (begun : List Begun) (xs : List Board) → AreBegun Board IsExamined sections begun xs → (b : Begun) (bs : List Begun) → begun ≡ b ∷ bs → HasRegistry b xs
registry_of _ _ _ no_more b bs e = absurd (cc)
registry_of _ _ _ (refused s t sections begun xs a more) b bs e = let same : Refused t ≡ b = cc in subst (λ (v : Begun). HasRegistry v xs) same tt
registry_of _ _ _ (convex s p x sections begun xs q k more) b bs e = let same : Convex p ≡ b = cc in subst (λ (v : Begun). HasRegistry v (x ∷ xs)) same (x, (xs, refl, k))

pub record IsNext (sections : List (List ℕ)) (bs : List Begun) (status : Status) (text : List ℕ) (after : List Board) : Type 0 where
  pub section : List ℕ
  pub later : List (List ℕ)
  pub joined : sections ≡ section ∷ later
  pub alone : IsAlone section status text
  pub more : AreBegun Board IsExamined later bs after

pub next_of : (sections : List (List ℕ)) (begun : List Begun) (xs : List Board) → AreBegun Board IsExamined sections begun xs → (b : Begun) (bs : List Begun) → begun ≡ b ∷ bs → (status : Status) (text : List ℕ) (after : List Board) → IsAnswered b xs status text after
    → IsNext sections bs status text after
next_of _ _ _ no_more b bs e status text after h = absurd (cc)
next_of _ _ _ (refused s t sections begun xs a more) b bs e status text after h =
    let same : b ≡ Refused t = cc in
    let rest : begun ≡ bs = cc in
    let g = subst (λ (v : Begun). IsAnswered v xs status text after) same h in
    record {
      section = s;
      later = sections;
      joined = refl;
      alone = subst (λ (u : Status). IsAlone s u text) (sym g.0) (subst (IsAlone s t) (sym g.1) a);
      more = subst (λ (l : List Begun). AreBegun Board IsExamined sections l after) rest (subst (AreBegun Board IsExamined sections begun) (sym g.2) more);
    }
next_of _ _ _ (convex s p x sections begun xs q k more) b bs e status text after h =
    let same : b ≡ Convex p = cc in
    let rest : begun ≡ bs = cc in
    let g = subst (λ (v : Begun). IsAnswered v (x ∷ xs) status text after) same h in
    let taken = g.1.1 in
    let left : xs ≡ after = cc in
    record {
      section = s;
      later = sections;
      joined = refl;
      alone = of_plant p status text q g.0;
      more = subst (λ (l : List Begun). AreBegun Board IsExamined sections l after) rest (subst (AreBegun Board IsExamined sections begun) left more);
    }

-- ---- the loop that answers them
pub record IsAnswering (sections : List (List ℕ)) (number : ℕ) (text : List ℕ) (begun : List Begun) (registries : List Board) : Type 0 where
  pub passed : List (List ℕ)
  pub left : List (List ℕ)
  pub joined : sections ≡ passed ++ left
  pub counted : number ≡ length passed + 1
  pub written : AreAnswered 1 passed text
  pub begins : AreBegun Board IsExamined left begun registries

pub answering_none : (sections : List (List ℕ)) (text : List ℕ) (begun : List Begun) (registries : List Board) → text ≡ [] → AreBegun Board IsExamined sections begun registries → IsAnswering sections 1 text begun registries
answering_none sections text begun registries e a = subst (λ (t : List ℕ). IsAnswering sections 1 t begun registries) (sym e) (record { passed = []; left = sections; joined = refl; counted = refl; written = none 1; begins = a })

pub not_empty : (n : ℕ) (r : Bool) → r ≡ eqb n 0 → r ≡ false → 0 < n
not_empty zero r e f = absurd (cc)
not_empty (suc n) r e f = omega arith

pub answering_next : (sections : List (List ℕ)) (number : ℕ) (text new : List ℕ) (begun rest : List Begun) (registries after : List Board) (b : Begun) (status : Status) (own : List ℕ) → IsAnswering sections number text begun registries → begun ≡ b ∷ rest
    → IsAnswered b registries status own after → new ≡ text ++ (heading number status ++ own) → IsAnswering sections (number + 1) new rest after
answering_next sections number text new begun rest registries after b status own h first answer is =
    let n = next_of h.left begun registries h.begins b rest first status own after answer in
    let place : 1 + length h.passed ≡ number = (let k = h.counted in omega (arith, k)) in
    let long = length-append h.passed (n.section ∷ []) in
    record {
      passed = h.passed ++ n.section ∷ [];
      left = n.later;
      joined = h.joined ∙ ap (λ (t : List (List ℕ)). h.passed ++ t) n.joined ∙ sym (append_assoc h.passed (n.section ∷ []) n.later);
      counted = let k = h.counted in omega (arith, k, long);
      written = subst (AreAnswered 1 (h.passed ++ n.section ∷ [])) (sym is)
          (subst (λ (k : ℕ). AreAnswered 1 (h.passed ++ n.section ∷ []) (text ++ (heading k status ++ own))) place (answered_more 1 h.passed text n.section status own h.written n.alone));
      begins = n.more;
    }

-- ---- an answer with the line of its status
pub refused_as : (plant : Plant) (status : Status) (r : Result Answer NoMemory) → IfOk r (λ (a : Answer). a.status ≡ status) → IfOk r (λ (a : Answer). a.text.items ≡ line_of status) → IsPlantAnswer plant status (line_of status)
    → IfOk r (λ (a : Answer). IsPlantAnswer plant a.status a.text.items)
refused_as plant status (Ok a) e f h = subst (λ (s : Status). IsPlantAnswer plant s a.text.items) (sym e) (subst (IsPlantAnswer plant status) (sym f) h)
refused_as plant status (Err x) e f h = tt

-- ---- a section that is no plant's file
pub fault_begins : (section : List ℕ) (programs : List Qp) (error : PlantError) (r : Result Begun NoMemory) → ((kind : PlantKind) (path : List ℕ) → error ≡ Bad kind path → IsFirstFault section kind path) → IfOk r (IsFaultOf error)
    → IfOk r (λ (b : Begun). BeginsAs section b programs programs)
fault_begins section programs (Bad kind path) (Ok b) f e = subst (λ (v : Begun). BeginsAs section v programs programs) (sym e) (no_plant kind path (f kind path refl), refl)
fault_begins section programs (Bad kind path) (Err x) f e = tt
fault_begins section programs NoPlantMemory (Ok b) f e = absurd e
fault_begins section programs NoPlantMemory (Err x) f e = tt

-- ---- the registry of a plant is taken and answered with
pub some_registry : (b : Begun) (plant : Plant) (registries : List Board) → b ≡ Convex plant → HasRegistry b registries → 0 < length registries
some_registry b plant registries is h =
    let g = subst (λ (v : Begun). HasRegistry v registries) is h in
    let long : length registries ≡ length (g.0 ∷ g.1.0) = ap length g.1.1 in
    omega (arith, long)

pub convex_answered : (b : Begun) (plant : Plant) (before after : List Board) (r : Board) (answer : Result Answer NoMemory) → b ≡ Convex plant → before ≡ r ∷ after → IfOk answer (λ (a : Answer). IsPlantAnswer plant a.status a.text.items)
    → IfOk answer (λ (a : Answer). IsAnswered b before a.status a.text.items after)
convex_answered b plant before after r (Ok a) is taken h = subst (λ (v : Begun). IsAnswered v before a.status a.text.items after) (sym is) (h, (r, taken))
convex_answered b plant before after r (Err x) is taken h = tt
