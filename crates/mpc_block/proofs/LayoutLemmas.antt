-- The lines of a layout, one after another.
use Rattle.std.proofs.Common.{◌≡◌, ℕ, ◌+◌, ◌-◌, ◌*◌, ◌<◌, ◌≤◌, ◌⊎◌, inl, inr, List, length, take, drop, Some, sym, ◌∙◌, ap, subst, arith, lit<}
use Rattle.std.specs.Prelude.{slice_get, slice_index, slice_range}
use Rattle.std.proofs.lemmas.Bool.{cases_lt}
use Rattle.std.proofs.lemmas.List.{drop-take, get_or-take, take-take}
use Rattle.std.proofs.lemmas.Option.{slice_get_within}
use Rattle.std.proofs.Math.Nat.{mul-le-mul_right, mul-le-mul_left}
use Rattle.mpc_plant.specs.declared.plants.Plant.{Plant}
use Rattle.mpc_rows.specs.declared.laws.Law.{Law as LawOfSet}
use Rattle.mpc_rows.specs.declared.trees.Node.{Node}
use Rattle.mpc_controller.specs.Parts.{Parts, limits_of}
use Rattle.mpc_controller.specs.Bounds.{IsController, first_move_form}
use Rattle.mpc_table.specs.Steps.{AreNoSides}
use Rattle.mpc_block.specs.declared.lines.Width.{Width}
use Rattle.mpc_block.specs.Words.{words_from}
use Rattle.mpc_block.specs.Heights.{AreHeightsFrom}
use Rattle.mpc_block.specs.Block.{width_of, words_each, line_size, line_start, line_at, law_place, input_line, word_after, block_size, whole, form_in, HasLine, IsNodeLine, IsFormLine, IsBlockOf}
use Rattle.mpc_block.specs.Layouts.{IsHeadLine, AreNodesTo, AreInputsTo, AreFormsTo, KeepsBefore}

-- ---- words that are kept
pub words_kept : (old new : List ℕ) (end start size : ℕ) → KeepsBefore end old new → start + size ≤ end → words_from new start size ≡ words_from old start size
words_kept old new end start size kept h =
    let taken : start + size - start ≡ size = omega arith in
    let part : (words : List ℕ) → words_from words start size ≡ drop start (take (start + size) (take end words)) = λ words. ap (λ n. take n (drop start words)) taken ∙ sym (drop-take start size words) ∙ ap (drop start) (sym (take-take (start + size) end words h)) in
    part new ∙ ap (λ words. drop start (take (start + size) words)) kept ∙ sym (part old)

pub kept_twice : (old mid new : List ℕ) (a b : ℕ) → a ≤ b → KeepsBefore a old mid → KeepsBefore b mid new → KeepsBefore a old new
kept_twice old mid new a b h first second = sym (take-take a b new h) ∙ ap (take a) second ∙ take-take a b mid h ∙ first

-- ---- one node more
pub line_ends : (width : Width) (place k : ℕ) → place < k → line_start width place + line_size width ≤ line_start width k
line_ends width place k lt =
    let next : place + 1 ≤ k = omega arith in
    let less : line_size width * (place + 1) ≤ line_size width * k = mul-le-mul_left (line_size width) next in
    let one : line_size width * (place + 1) ≡ line_size width * place + line_size width = omega arith in
    omega arith

pub node_more : (parts : Parts) (sides old new : List ℕ) (k start word : ℕ) (width : Width) (node : Node) → slice_get parts.tree k ≡ Some node → width ≡ width_of parts → start ≡ line_start width k → word ≡ word_after parts (slice_index sides k) node
    → IsNodeLine width word node (words_from new start (line_size width)) → KeepsBefore start old new → AreNodesTo parts sides k old → AreNodesTo parts sides (k + 1) new
node_more parts sides old new k start word width node at width_is start_is word_is written kept before place other lt at_place = by (cases_lt place k)
  where
    here : HasLine new parts (slice_index sides k) k node
    here = subst (λ w. IsNodeLine w (word_after parts (slice_index sides k) node) node (words_from new (line_start w k) (line_size w))) width_is
        (subst (λ s. IsNodeLine width (word_after parts (slice_index sides k) node) node (words_from new s (line_size width))) start_is (subst (λ w. IsNodeLine width w node (words_from new start (line_size width))) word_is written))

    ends : place < k → line_start (width_of parts) place + line_size (width_of parts) ≤ start
    ends less = subst (λ s. line_start (width_of parts) place + line_size (width_of parts) ≤ s) (sym (start_is ∙ ap (λ w. line_start w k) width_is)) (line_ends (width_of parts) place k less)

    by : (place < k) ⊎ (k ≤ place) → HasLine new parts (slice_index sides place) place other
    by (inl less) = subst (IsNodeLine (width_of parts) (word_after parts (slice_index sides place) other) other) (sym (words_kept old new start (line_start (width_of parts) place) (line_size (width_of parts)) kept (ends less))) (before place other less at_place)
    by (inr ge) =
        let same : k ≡ place = omega arith in
        let found : slice_get parts.tree place ≡ Some node = subst (λ p. slice_get parts.tree p ≡ Some node) same at in
        let also : slice_get parts.tree place ≡ Some other = at_place in
        let node_is : node ≡ other = cc in
        subst (λ n. HasLine new parts (slice_index sides place) place n) node_is (subst (λ p. HasLine new parts (slice_index sides p) p node) same here)

pub nodes_kept : (parts : Parts) (sides old new : List ℕ) → KeepsBefore (line_start (width_of parts) (length parts.tree)) old new → AreNodesTo parts sides (length parts.tree) old → AreNodesTo parts sides (length parts.tree) new
nodes_kept parts sides old new kept nodes place node lt at =
    subst (IsNodeLine (width_of parts) (word_after parts (slice_index sides place) node) node)
    (sym (words_kept old new (line_start (width_of parts) (length parts.tree)) (line_start (width_of parts) place) (line_size (width_of parts)) kept (line_ends (width_of parts) place (length parts.tree) lt))) (nodes place node lt at)

pub starts_mono : (width : Width) (place k : ℕ) → place ≤ k → line_start width place ≤ line_start width k
starts_mono width place k le = let less : line_size width * place ≤ line_size width * k = mul-le-mul_left (line_size width) le in omega arith

-- ---- where the lines of laws stand
before_law : (j k input inputs : ℕ) → j < k → input < inputs → j * inputs + input + 1 ≤ k * inputs
before_law j k input inputs lt below =
    let next : j + 1 ≤ k = omega arith in
    let more : (j + 1) * inputs ≤ k * inputs = mul-le-mul_right inputs next in
    omega arith

law_at : (parts : Parts) (j : ℕ) → law_place parts (j + 1) ≡ length parts.tree + j * parts.plant.p
law_at parts j = let e : j + 1 - 1 ≡ j = omega arith in ap (λ n. length parts.tree + n * parts.plant.p) e

pub line_inside : (parts : Parts) (width : Width) (j input : ℕ) → width ≡ width_of parts → j < length parts.laws → input < parts.plant.p → line_start width (law_place parts (j + 1) + input) + line_size width ≤ block_size parts
line_inside parts width j input is lt below =
    let inside : law_place parts (j + 1) + input < length parts.tree + length parts.laws * parts.plant.p = omega (arith, before_law j (length parts.laws) input parts.plant.p lt below, law_at parts j) in
    subst (λ w. line_start width (law_place parts (j + 1) + input) + line_size width ≤ line_start w (length parts.tree + length parts.laws * parts.plant.p)) is (line_ends width _ _ inside)

-- ---- one form more
module _ (parts : Parts) (width : Width) (is : width ≡ width_of parts) (old new : List ℕ) where
  kept_line : (end place : ℕ) → place < end → KeepsBefore (line_start width end) old new → line_at new (width_of parts) place ≡ line_at old (width_of parts) place
  kept_line end place lt kept =
      subst (λ w. line_at new w place ≡ line_at old w place) is (words_kept old new (line_start width end) (line_start width place) (line_size width) kept (line_ends width place end lt))

  pub input_more : (law : LawOfSet) (place i : ℕ) → form_in width parts.plant.n (line_at new width (place + i)) ≡ whole (first_move_form law i) → KeepsBefore (line_start width (place + i)) old new → AreInputsTo parts law place i old → AreInputsTo parts law place (i + 1) new
  input_more law place i written kept before input lt = by (cases_lt input i)
    where
      here : IsFormLine parts law i (line_at new (width_of parts) (place + i))
      here = subst (λ w. form_in w parts.plant.n (line_at new w (place + i)) ≡ whole (first_move_form law i)) is written

      by : (input < i) ⊎ (i ≤ input) → IsFormLine parts law input (line_at new (width_of parts) (place + input))
      by (inl less) = subst (IsFormLine parts law input) (sym (kept_line (place + i) (place + input) (omega arith) kept)) (before input less)
      by (inr ge) = let same : i ≡ input = omega arith in subst (λ q. IsFormLine parts law q (line_at new (width_of parts) (place + q))) same here

  -- ---- one law more
  pub law_more : (k : ℕ) → ((law : LawOfSet) → slice_get parts.laws k ≡ Some law → AreInputsTo parts law (law_place parts (k + 1)) parts.plant.p new) → KeepsBefore (line_start width (law_place parts (k + 1))) old new → AreFormsTo parts k old → AreFormsTo parts (k + 1) new
  law_more k forms kept before j law input lt at below = by (cases_lt j k)
    where
      by : (j < k) ⊎ (k ≤ j) → IsFormLine parts law input (input_line new parts (j + 1) input)
      by (inl less) =
          let earlier : law_place parts (j + 1) + input < law_place parts (k + 1) = omega (arith, before_law j k input parts.plant.p less below, law_at parts j, law_at parts k) in
          subst (IsFormLine parts law input) (sym (kept_line (law_place parts (k + 1)) (law_place parts (j + 1) + input) earlier kept)) (before j law input less at below)
      by (inr ge) =
          let same : k ≡ j = omega arith in
          subst (λ q. IsFormLine parts law input (input_line new parts (q + 1) input)) same (forms law (subst (λ q. slice_get parts.laws q ≡ Some law) (sym same) at) input below)

-- ---- the head that was written
pub head_of : (parts : Parts) (plant : Plant) (size nodes laws height each top : ℕ) (line first : List ℕ) → plant ≡ parts.plant → size ≡ block_size parts → nodes ≡ length parts.tree → laws ≡ length parts.laws → height ≡ top → each ≡ words_each (width_of parts) → first ≡ line
    → IsHeadLine plant size nodes laws height each line → IsHeadLine parts.plant (block_size parts) (length parts.tree) (length parts.laws) top (words_each (width_of parts)) first
head_of parts plant size nodes laws height each top line first plant_is size_is nodes_are laws_are height_is each_is first_is head =
    let at : (i : ℕ) → slice_index first i ≡ slice_index line i = λ i. ap (λ l. slice_index l i) first_is in
    record {
      version = at 0 ∙ head.version;
      size_is = at 1 ∙ head.size_is ∙ size_is;
      coordinates = at 2 ∙ head.coordinates ∙ ap (λ (p : Plant). p.n) plant_is;
      inputs = at 3 ∙ head.inputs ∙ ap (λ (p : Plant). p.p) plant_is;
      limits = (λ i. slice_range (first_is i) 4 (4 + ap (λ (p : Plant). p.n) (sym plant_is) i)) ∙ head.limits ∙ ap limits_of plant_is;
      nodes_are = at 8 ∙ head.nodes_are ∙ nodes_are;
      laws_are = at 9 ∙ head.laws_are ∙ laws_are;
      height_is = at 10 ∙ head.height_is ∙ height_is;
      each_is = at 11 ∙ head.each_is ∙ each_is;
    }

-- ---- all lines together
pub record IsLaidOut (parts : Parts) (sides heights words : List ℕ) : Type 0 where
  pub head : IsHeadLine parts.plant (block_size parts) (length parts.tree) (length parts.laws) (slice_index heights 0) (words_each (width_of parts)) (words_from words 0 12)
  pub nodes : AreNodesTo parts sides (length parts.tree) words
  pub are_sides : AreNoSides parts.tree sides
  pub are_heights : AreHeightsFrom parts.tree sides 0 heights
  pub forms : AreFormsTo parts (length parts.laws) words

module _ (parts : Parts) (ok : IsController parts.plant parts.laws parts.tree) (sides heights words : List ℕ) (long : block_size parts ≤ length words) (laid : IsLaidOut parts sides heights words) where
  in_head : (i : ℕ) → i < 12 → slice_index words i ≡ slice_index (words_from words 0 12) i
  in_head i lt = sym (get_or-take 12 words i 0 lt)

  limits_in_head : slice_range words 4 (4 + parts.plant.n) ≡ limits_of parts.plant
  limits_in_head =
      let n = parts.plant.n in
      let few : n ≤ 4 = parts.plant.is_plant.states.to_high in
      let short : 4 + n - 4 ≤ 8 = omega arith in
      sym (ap (take (4 + n - 4)) (drop-take 4 8 words) ∙ take-take (4 + n - 4) 8 (drop 4 words) short) ∙ laid.head.limits

  named : (law : ℕ) (of_set : LawOfSet) (input : ℕ) → slice_get parts.laws (law - 1) ≡ Some of_set → input < parts.plant.p → IsFormLine parts of_set input (input_line words parts law input)
  named law of_set input at lt =
      let e : law - 1 + 1 - 1 ≡ law - 1 = omega arith in
      subst (λ n. IsFormLine parts of_set input (line_at words (width_of parts) (length parts.tree + n * parts.plant.p + input))) e
      (laid.forms (law - 1) of_set input (slice_get_within parts.laws (law - 1) of_set at) at lt)

  pub block_of : IsBlockOf words parts
  block_of = record {
    controller = ok;
    long = long;
    version = in_head 0 (lit< tt) ∙ laid.head.version;
    size = in_head 1 (lit< tt) ∙ laid.head.size_is;
    coordinates = in_head 2 (lit< tt) ∙ laid.head.coordinates;
    inputs = in_head 3 (lit< tt) ∙ laid.head.inputs;
    limits = limits_in_head;
    nodes = in_head 8 (lit< tt) ∙ laid.head.nodes_are;
    laws = in_head 9 (lit< tt) ∙ laid.head.laws_are;
    sides = sides;
    are_sides = laid.are_sides;
    heights = heights;
    are_heights = laid.are_heights;
    height = in_head 10 (lit< tt) ∙ laid.head.height_is;
    width = in_head 11 (lit< tt) ∙ laid.head.each_is;
    tree = λ place node at. laid.nodes place node (slice_get_within parts.tree place node at) at;
    forms = named;
  }
