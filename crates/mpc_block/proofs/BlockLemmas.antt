-- The nodes of a block, and the walk from one to the next.
use Rattle.std.proofs.Common.{◌≡◌, ℕ, zero, suc, ◌+◌, ◌*◌, ◌^◌, ◌<◌, ◌≤◌, max, ℤ, pos, ◌+ℤ◌, ◌*ℤ◌, ◌≤ℤ◌, unsigned_abs, Bool, true, false, List, [], ◌∷◌, length, map, take, Some, refl, sym, ◌∙◌, ap, subst, arith}
use Rattle.std.specs.Prelude.{All, IsTrue, ◌↔◌, slice_get, slice_index, ◌&&◌, nat_lt, if◌then◌else◌}
use Rattle.std.specs.List.{list_all}
use Rattle.std.proofs.lemmas.Bool.Decides.{nat_tests}
use Rattle.std.proofs.lemmas.List.{length-map}
use Rattle.std.proofs.lemmas.Option.{slice_get_within, get_or_from_slice_get}
use Rattle.mpc_linear.specs.declared.integers.RowInt.{RowInt}
use Rattle.mpc_plant.specs.declared.lists.Coordinate.{Coordinate}
use Rattle.mpc_rows.specs.declared.trees.Node.{Node}
use Rattle.mpc_rows.specs.declared.trees.Node.TheVariants.{Split, Law, NoMove}
use Rattle.mpc_controller.specs.Preorder.{IsTree}
use Rattle.mpc_controller.specs.Parts.{Parts, limits_of, IsNodeFor, IsSplitRow}
use Rattle.mpc_controller.specs.Bounds.{reach, NodeFits, SplitFits}
use Rattle.mpc_controller.specs.Walk.{root, yes_side, no_side}
use Rattle.mpc_table.specs.Forms.{weighed, AreUpTo}
use Rattle.mpc_block.specs.declared.lines.Width.{Width}
use Rattle.mpc_block.specs.declared.lines.Width.TheVariants.{Short, Wide}
use Rattle.mpc_block.specs.Words.{words_from, number_at, entries}
use Rattle.mpc_block.specs.Sums.{greatest, KeepsWithin}
use Rattle.mpc_block.specs.Block.{spans_of, row_fits_word, law_fits_word, width_of, line_size, line_start, line_at, IsSplitLine}
use Rattle.mpc_block.specs.Walks.{Serves, StandsAt, GoesTo, HasCome}
use Rattle.mpc_block.proofs.SumLemmas.{reach_mono, up_to_length, satisfied, at_most, first_of_taken}

pub node_at : (nodes : List Node) (place : ℕ) → place < length nodes → (node : Node) × (slice_get nodes place ≡ Some node)
node_at [] place h = absurd (omega arith)
node_at (node ∷ nodes) zero h = (node, refl)
node_at (node ∷ nodes) (suc place) h = node_at nodes place (omega arith)

pub all_at : {X : Type 0} (P : X → Type 0) (xs : List X) (i : ℕ) (x : X) → slice_get xs i ≡ Some x → All P xs → P x
all_at P xs i x at h = subst P (get_or_from_slice_get xs i x x at) (h i x (slice_get_within xs i x at))

pub both : (a b : Bool) → (a && b) ≡ true → (a ≡ true) × (b ≡ true)
both true b h = (refl, h)
both false b h = absurd cc

pub tested_at : {X : Type 0} (test : X → Bool) (xs : List X) (i : ℕ) (x : X) → slice_get xs i ≡ Some x → list_all test xs ≡ true → test x ≡ true
tested_at test [] i x at h = absurd cc
tested_at test (y ∷ xs) zero x at h = let here : test y ≡ true = (both (test y) (list_all test xs) h).0 in let same : Some y ≡ Some x = at in cc
tested_at test (y ∷ xs) (suc i) x at h = tested_at test xs i x at (both (test y) (list_all test xs) h).1

-- ---- counts behind the last one are left out
pub reach_taken : (ks : List ℤ) (n : ℕ) (ts : List ℕ) → length ts ≤ n → reach (take n ks) ts ≡ reach ks ts
reach_taken [] zero ts h = refl
reach_taken [] (suc n) ts h = refl
reach_taken (k ∷ ks) zero [] h = refl
reach_taken (k ∷ ks) zero (t ∷ ts) h = absurd (omega arith)
reach_taken (k ∷ ks) (suc n) [] h = refl
reach_taken (k ∷ ks) (suc n) (t ∷ ts) h = ap (λ r. unsigned_abs k * t + r) (reach_taken ks n ts (omega arith))

pub weighed_taken : (ks : List ℤ) (n : ℕ) (ts : List ℕ) → length ts ≤ n → weighed (take n ks) ts ≡ weighed ks ts
weighed_taken [] zero ts h = refl
weighed_taken [] (suc n) ts h = refl
weighed_taken (k ∷ ks) zero [] h = refl
weighed_taken (k ∷ ks) zero (t ∷ ts) h = absurd (omega arith)
weighed_taken (k ∷ ks) (suc n) [] h = refl
weighed_taken (k ∷ ks) (suc n) (t ∷ ts) h = ap (λ w. k *ℤ pos t +ℤ w) (weighed_taken ks n ts (omega arith))

pub up_to_spans : (ts : List ℕ) (grid : List Coordinate) → AreUpTo ts (map (λ axis. axis.count) grid) → AreUpTo ts (map (λ axis. max axis.count 1) grid)
up_to_spans [] [] h = tt
up_to_spans [] (axis ∷ grid) h = absurd h
up_to_spans (t ∷ ts) [] h = absurd h
up_to_spans (t ∷ ts) (axis ∷ grid) h = (less, up_to_spans ts grid h.1)
  where
    less : t ≤ max axis.count 1
    less = let below : t ≤ axis.count = h.0 in omega arith

pub record SplitThere (words : List ℕ) (parts : Parts) (sides : List ℕ) (place : ℕ) : Type 0 where
  pub row : RowInt
  pub at : slice_get parts.tree place ≡ Some (Split row)
  pub line : IsSplitLine (width_of parts) (line_start (width_of parts) (slice_index sides place)) row (line_at words (width_of parts) place)

pub some_node : (nodes : List Node) → IsTree nodes → 0 < length nodes
some_node [] h = absurd (omega arith)
some_node (node ∷ nodes) h = omega arith

module _ (words counts : List ℕ) (parts : Parts) (s : Serves words counts parts) where
  pub count_each : length counts ≡ parts.plant.n
  count_each = up_to_length counts (limits_of parts.plant) s.up_to ∙ length-map parts.plant.grid (λ (axis : Coordinate). axis.count) ∙ parts.plant.is_plant.grid_size

  pub at_root : HasCome words counts parts s.block 0 12
  at_root = record {
    place = 0;
    stands = record { inside = some_node parts.tree s.block.controller.shapes.complete; start_is = omega arith };
    height = omega arith;
    reached = root;
  }

  module _ (place : ℕ) (inside : place < length parts.tree) where
    abbrev width : Width
    width = width_of parts

    abbrev line : List ℕ
    line = line_at words width place

    split_there : ¬ slice_index line 0 ≡ 0 → SplitThere words parts s.block.sides place
    split_there leads = by found.0 found.1
      where
        found : (node : Node) × (slice_get parts.tree place ≡ Some node)
        found = node_at parts.tree place inside

        by : (node : Node) → slice_get parts.tree place ≡ Some node → SplitThere words parts s.block.sides place
        by (Split row) at = record { row = row; at = at; line = s.block.tree place (Split row) at }
        by (Law law certs) at = absurd (leads (s.block.tree place (Law law certs) at).zero_is)
        by (NoMove cert) at = absurd (leads (s.block.tree place (NoMove cert) at).zero_is)

    module _ (leads : ¬ slice_index line 0 ≡ 0) where
      abbrev there : SplitThere words parts s.block.sides place
      there = split_there leads

      abbrev row : RowInt
      row = there.row

      shape : IsSplitRow parts.plant.n row
      shape = all_at (IsNodeFor parts.plant.n (length parts.laws)) parts.tree place (Split row) there.at s.block.controller.shapes.nodes_fit

      fits : SplitFits (limits_of parts.plant) row
      fits = all_at (NodeFits (limits_of parts.plant)) parts.tree place (Split row) there.at s.block.controller.bounds.nodes_fit

      parts_are : number_at width line 1 ∷ take (length row.a) (entries width line) ≡ row.b ∷ row.a
      parts_are = sym (first_of_taken (number_at width line 1) (entries width line) (length row.a)) ∙ there.line.row_is

      bound_is : number_at width line 1 ≡ row.b
      bound_is = let e : number_at width line 1 ∷ take (length row.a) (entries width line) ≡ row.b ∷ row.a = parts_are in cc

      slopes_are : take (length row.a) (entries width line) ≡ row.a
      slopes_are = let e : number_at width line 1 ∷ take (length row.a) (entries width line) ≡ row.b ∷ row.a = parts_are in cc

      one_each : length counts ≤ length row.a
      one_each = omega (arith, count_each, shape.size)

      sum_is : weighed (entries width line) counts ≡ weighed row.a counts
      sum_is = sym (weighed_taken (entries width line) (length row.a) counts one_each) ∙ ap (λ k. weighed k counts) slopes_are

      reach_is : reach (entries width line) counts ≡ reach row.a counts
      reach_is = sym (reach_taken (entries width line) (length row.a) counts one_each) ∙ ap (λ k. reach k counts) slopes_are

      row_keeps : (short : Bool) → (list_all (row_fits_word (spans_of parts.plant)) parts.tree && list_all (law_fits_word parts.plant) parts.laws) ≡ short → unsigned_abs row.b + reach row.a counts < greatest (if short then Short else Wide)
      row_keeps true e =
          let tested : nat_lt (unsigned_abs row.b + reach row.a (spans_of parts.plant)) (2 ^ 63) ≡ true = tested_at (row_fits_word (spans_of parts.plant)) parts.tree place (Split row) there.at (both _ _ e).0 in
          let small : unsigned_abs row.b + reach row.a (spans_of parts.plant) < 2 ^ 63 = grind (arith, nat_tests) in
          let less : reach row.a counts ≤ reach row.a (spans_of parts.plant) = reach_mono row.a counts (spans_of parts.plant) (up_to_spans counts parts.plant.grid s.up_to) in
          omega arith
      row_keeps false e =
          let less : reach row.a counts ≤ reach row.a (limits_of parts.plant) = reach_mono row.a counts (limits_of parts.plant) s.up_to in
          let small : unsigned_abs row.b + reach row.a (limits_of parts.plant) < 2 ^ 127 = fits.reach_fits in
          omega arith

      keeps : KeepsWithin width line counts
      keeps = subst (λ b. unsigned_abs b + reach (entries width line) counts < greatest width) (sym bound_is)
          (subst (λ r. unsigned_abs row.b + r < greatest width) (sym reach_is) (row_keeps _ refl))

      module _ (holds : Bool) (says : KeepsWithin width line counts → IsTrue holds ↔ (weighed (entries width line) counts ≤ℤ number_at width line 1)) where
        yes : holds ≡ true → weighed row.a counts ≤ℤ row.b
        yes h = subst (λ w. w ≤ℤ row.b) sum_is (subst (λ b. weighed (entries width line) counts ≤ℤ b) bound_is ((says keeps).0 h))

        no : holds ≡ false → ¬ weighed row.a counts ≤ℤ row.b
        no h below =
            let so : holds ≡ true = (says keeps).1 (subst (λ w. w ≤ℤ number_at width line 1) (sym sum_is) (subst (λ b. weighed row.a counts ≤ℤ b) (sym bound_is) below)) in
            let not : holds ≡ false = h in
            cc

        pub goes_yes : holds ≡ true → (start : ℕ) → start ≡ line_start width (place + 1) → GoesTo words counts parts s.block place start
        goes_yes h start is = record {
          next = place + 1;
          stands = record { inside = (let side = s.block.are_sides.each place row there.at in let after = side.after in let end = side.before_end in omega arith); start_is = is };
          lower = (let e = s.block.are_heights.each place (omega arith) (Split row) there.at in grind (arith, e));
          reaches = λ reached. yes_side place row reached there.at (satisfied row counts (yes h));
        }

        pub goes_no : holds ≡ false → (start : ℕ) → start ≡ slice_index line 0 → GoesTo words counts parts s.block place start
        goes_no h start is = record {
          next = slice_index s.block.sides place;
          stands = record { inside = (s.block.are_sides.each place row there.at).before_end; start_is = is ∙ there.line.side_is };
          lower = (let e = s.block.are_heights.each place (omega arith) (Split row) there.at in grind (arith, e));
          reaches = λ reached. no_side place (slice_index s.block.sides place) row reached there.at (λ satisfies. no h (at_most row counts satisfies)) (s.block.are_sides.each place row there.at);
        }

-- ---- the walk at a line that was read
module _ (words counts : List ℕ) (parts : Parts) (s : Serves words counts parts) (place start size : ℕ) (width : Width) (node : List ℕ) (width_is : width ≡ width_of parts) (stands : StandsAt parts place start) (size_is : size ≡ line_size width)
    (node_is : node ≡ words_from words start size) (leads : ¬ slice_index node 0 ≡ 0) (holds : Bool) (says : KeepsWithin width node counts → IsTrue holds ↔ (weighed (entries width node) counts ≤ℤ number_at width node 1)) where
  size_here : size ≡ line_size (width_of parts)
  size_here = size_is ∙ ap line_size width_is

  line_is : node ≡ line_at words (width_of parts) place
  line_is = node_is ∙ (λ i. words_from words (stands.start_is i) (size_here i))

  leads_here : ¬ slice_index (line_at words (width_of parts) place) 0 ≡ 0
  leads_here e = leads (ap (λ l. slice_index l 0) line_is ∙ e)

  says_here : KeepsWithin (width_of parts) (line_at words (width_of parts) place) counts → IsTrue holds ↔ (weighed (entries (width_of parts) (line_at words (width_of parts) place)) counts ≤ℤ number_at (width_of parts) (line_at words (width_of parts) place) 1)
  says_here = subst (λ l. KeepsWithin (width_of parts) l counts → IsTrue holds ↔ (weighed (entries (width_of parts) l) counts ≤ℤ number_at (width_of parts) l 1)) line_is
      (subst (λ w. KeepsWithin w node counts → IsTrue holds ↔ (weighed (entries w node) counts ≤ℤ number_at w node 1)) width_is says)

  after : (a b : ℕ) → 12 + a * b + a ≡ 12 + a * (b + 1)
  after a b = omega arith

  pub turns_yes : holds ≡ true → GoesTo words counts parts s.block place (start + size)
  turns_yes h = goes_yes words counts parts s place stands.inside leads_here holds says_here h (start + size) ((λ i. stands.start_is i + size_here i) ∙ after (line_size (width_of parts)) place)

  pub turns_no : holds ≡ false → GoesTo words counts parts s.block place (slice_index node 0)
  turns_no h = goes_no words counts parts s place stands.inside leads_here holds says_here h (slice_index node 0) (ap (λ l. slice_index l 0) line_is)
