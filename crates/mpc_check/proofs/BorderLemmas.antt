-- Rows of laws that are formed.
use Rattle.std.proofs.Common.{◌≡◌, ℕ, zero, suc, ◌+◌, ◌<◌, List, [], ◌∷◌, ◌++◌, length, length-append, get_or, Some, Result, Ok, Err, All, refl, sym, ◌∙◌, ap, subst, arith}
use Rattle.std.specs.Prelude.{slice_get, slice_index_or, IfOk}
use Rattle.std.specs.Global.{Vec}
use Rattle.std.proofs.lemmas.List.{append_assoc, append-nil}
use Rattle.std.proofs.lemmas.Option.{slice_get-get_or}
use Rattle.mpc_frac.specs.declared.NoMemory.{NoMemory}
use Rattle.mpc_rows.specs.declared.programs.Qp.{Qp}
use Rattle.mpc_rows.specs.declared.laws.Law.{Law}
use Rattle.mpc_check.specs.Borders.{IsFormed, IsFormedOfSize, AreFormed, AreBorders, AreBordersFrom, AreBordersOf, AreJoined}
use Rattle.mpc_check.specs.Stretches.{AreNeighbours}
use Rattle.mpc_check.specs.declared.borders.Formed.{Formed}
use Rattle.mpc_check.specs.declared.borders.Formed.TheVariants.{Row, Wide}
use Rattle.mpc_check.specs.declared.stretches.Stretch.{Stretch}

-- ---- their sizes
of_size : (qp : Qp) (law : Law) (i : ℕ) (formed : Formed) → IsFormed qp law i formed → IsFormedOfSize (length qp.counts) formed
of_size qp law i (Row row) h = h.of_size
of_size qp law i Wide h = tt

pub all_of_size : (qp : Qp) (law : Law) (rows : List Formed) → AreFormed qp law rows → All (IsFormedOfSize (length qp.counts)) rows
all_of_size qp law rows h i d within = of_size qp law i (get_or rows i d) (h i (get_or rows i d) (slice_get-get_or rows i d within))

-- ---- those that stand at a law's place
pub rows_there : (qp : Qp) (laws : List Law) (borders : List (Vec Formed)) (rows : List Formed) (place : ℕ) (law : Law) → AreBorders qp laws borders → slice_get laws place ≡ Some law
    → (v : Vec Formed) × (slice_get borders place ≡ Some v) × (rows ≡ v.items) → AreFormed qp law rows
rows_there qp laws borders rows place law formed is there = subst (AreFormed qp law) (sym there.2) (formed place law there.0 is there.1)

-- ---- those of a stretch of laws
module _ (qp : Qp) (laws : List Law) where
  pub no_borders : (from : ℕ) → AreBordersFrom qp laws from []
  no_borders from k law rows is there = absurd (cc)

  one_border : (from : ℕ) (law : Law) (rows : Vec Formed) → slice_get laws from ≡ Some law → AreFormed qp law rows.items → AreBordersFrom qp laws from (rows ∷ [])
  one_border from law rows is formed zero other more at there =
      let none : from + 0 ≡ from = omega arith in
      let here : slice_get laws (from + 0) ≡ slice_get laws from = ap (slice_get laws) none in
      let same_law : law ≡ other = cc in
      let same_rows : rows ≡ more = cc in
      subst (λ (r : Vec Formed). AreFormed qp other r.items) same_rows (subst (λ l. AreFormed qp l rows.items) same_law formed)
  one_border from law rows is formed (suc k) other more at there = absurd (cc)

  -- one list behind another
  both_borders : (from : ℕ) (first second : List (Vec Formed)) → AreBordersFrom qp laws from first → AreBordersFrom qp laws (from + length first) second → AreBordersFrom qp laws from (first ++ second)
  both_borders from [] second f s k law more at there = (let none : from + 0 ≡ from = omega arith in subst (λ p. AreBordersFrom qp laws p second) none s k law more at there)
  both_borders from (rows ∷ first) second f s zero law more at there = f zero law more at there
  both_borders from (rows ∷ first) second f s (suc k) law more at there =
      let next : (j : ℕ) → from + suc j ≡ from + 1 + j = λ j. omega arith in
      let behind : from + suc (length first) ≡ from + 1 + length first = next (length first) in
      both_borders (from + 1) first second (λ j l r a b. f (suc j) l r (subst (λ p. slice_get laws p ≡ Some l) (sym (next j)) a) b) (subst (λ p. AreBordersFrom qp laws p second) behind s) k law more
      (subst (λ p. slice_get laws p ≡ Some law) (next k) at) there

  pub one_more_border : (from place : ℕ) (borders more : List (Vec Formed)) (law : Law) (rows : Vec Formed) → AreBordersFrom qp laws from borders → from + length borders ≡ place → slice_get laws place ≡ Some law → AreFormed qp law rows.items
      → more ≡ borders ++ rows ∷ [] → AreBordersFrom qp laws from more
  one_more_border from place borders more law rows before so_many is formed pushed =
      subst (AreBordersFrom qp laws from) (sym pushed) (both_borders from borders (rows ∷ []) before (subst (λ p. AreBordersFrom qp laws p (rows ∷ [])) (sym so_many) (one_border place law rows is formed)))

  -- ---- of all laws
  pub of_all : (borders : List (Vec Formed)) → AreBordersFrom qp laws 0 borders → AreBorders qp laws borders
  of_all borders formed place law rows is there = (let same : place ≡ 0 + place = omega arith in formed place law rows (subst (λ p. slice_get laws p ≡ Some law) same is) there)

  pub of_whole : (n : ℕ) (result : Result (Vec (Vec Formed)) NoMemory) → IfOk result (λ v. AreBordersOf qp laws (record { from = 0; to = n }) v.items) → IfOk result (λ v. AreBorders qp laws v.items)
  of_whole n (Ok v) h = of_all v.items h.formed
  of_whole n (Err e) h = tt

  pub stretches_joined : (from to : ℕ) (stretches : List Stretch) (parts : List (Result (Vec (Vec Formed)) NoMemory)) (borders : List (Vec Formed)) → AreNeighbours from to stretches → length parts ≡ length stretches
      → ((i : ℕ) (s : Stretch) (part : Result (Vec (Vec Formed)) NoMemory) → i < length stretches → IfOk (slice_index_or parts i part) (λ v. AreBordersOf qp laws (slice_index_or stretches i s) v.items))
      → AreJoined parts borders → AreBordersFrom qp laws from borders
  stretches_joined from to [] [] borders cut same each j = subst (AreBordersFrom qp laws from) (sym j) (no_borders from)
  stretches_joined from to [] (part ∷ parts) borders cut same each j = absurd (omega (arith, same))
  stretches_joined from to (s ∷ stretches) [] borders cut same each j = absurd (omega (arith, same))
  stretches_joined from to (s ∷ stretches) (Err e ∷ parts) borders cut same each j = absurd j
  stretches_joined from to (s ∷ stretches) (Ok part ∷ parts) borders cut same each j =
      let here : AreBordersOf qp laws s part.items = each 0 s (Ok part) (omega arith) in
      let behind : AreBordersFrom qp laws s.to j.0 = stretches_joined s.to to stretches parts j.0 cut.2 (omega (arith, same)) (λ i t q inside. each (suc i) t q (omega (arith, inside))) j.2 in
      let next : s.to ≡ from + length part.items = omega (arith, cut.0, here.one_each) in
      subst (AreBordersFrom qp laws from) (sym j.1)
      (both_borders from part.items j.0 (subst (λ f. AreBordersFrom qp laws f part.items) cut.0 here.formed) (subst (λ p. AreBordersFrom qp laws p j.0) next behind))

  pub of_parts : (n : ℕ) (stretches : List Stretch) (parts : List (Result (Vec (Vec Formed)) NoMemory)) (result : Result (Vec (Vec Formed)) NoMemory) → AreNeighbours 0 n stretches → length parts ≡ length stretches
      → ((i : ℕ) (s : Stretch) (part : Result (Vec (Vec Formed)) NoMemory) → i < length stretches → IfOk (slice_index_or parts i part) (λ v. AreBordersOf qp laws (slice_index_or stretches i s) v.items))
      → IfOk result (λ v. AreJoined parts v.items) → IfOk result (λ v. AreBorders qp laws v.items)
  of_parts n stretches parts (Ok v) cut same each j = of_all v.items (stretches_joined 0 n stretches parts v.items cut same each j)
  of_parts n stretches parts (Err e) cut same each j = tt

pub one_longer : (from place : ℕ) (borders more : List (Vec Formed)) (rows : Vec Formed) → from + length borders ≡ place → more ≡ borders ++ rows ∷ [] → from + length more ≡ place + 1
one_longer from place borders more rows so_many pushed =
    let longer : length more ≡ length borders + 1 = ap length pushed ∙ length-append borders (rows ∷ []) in
    omega (arith, so_many, longer)

-- ---- one part behind the other
pub one_more_part : (parts iterator left : List (Result (Vec (Vec Formed)) NoMemory)) (borders more : List (Vec Formed)) (part : Result (Vec (Vec Formed)) NoMemory) (new : Vec (Vec Formed)) → iterator ≡ part ∷ left → part ≡ Ok new
    → more ≡ borders ++ new.items → ((rest : List (Vec Formed)) → AreJoined iterator rest → AreJoined parts (borders ++ rest)) → (rest : List (Vec Formed)) → AreJoined left rest → AreJoined parts (more ++ rest)
one_more_part parts iterator left borders more part new step is pushed before rest h =
    let there : AreJoined iterator (new.items ++ rest) = subst (λ ps. AreJoined ps (new.items ++ rest)) (sym (step ∙ (λ i. is i ∷ left))) (rest, refl, h) in
    subst (λ m. AreJoined parts (m ++ rest)) (sym pushed) (subst (AreJoined parts) (sym (append_assoc borders new.items rest)) (before (new.items ++ rest) there))

pub all_joined : (parts iterator : List (Result (Vec (Vec Formed)) NoMemory)) (borders : List (Vec Formed)) → length iterator ≡ 0 → ((rest : List (Vec Formed)) → AreJoined iterator rest → AreJoined parts (borders ++ rest)) → AreJoined parts borders
all_joined parts [] borders none before = subst (AreJoined parts) (append-nil borders) (before [] refl)
all_joined parts (part ∷ iterator) borders none before = absurd (omega (arith, none))
