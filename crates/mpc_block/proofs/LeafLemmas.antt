-- The leaf to which a walk comes.
use Rattle.std.proofs.Common.{◌≡◌, ℕ, ◌+◌, ◌-◌, ◌*◌, ◌/◌, ◌<◌, ◌≤◌, List, length, refl, ◌∙◌, ap, arith}
use Rattle.std.specs.Prelude.{slice_index}
use Rattle.std.proofs.Math.Nat.{mul-le-mul_left}
use Rattle.mpc_controller.specs.Parts.{Parts}
use Rattle.mpc_block.specs.declared.lines.Width.{Width}
use Rattle.mpc_block.specs.declared.lines.Width.TheVariants.{Short, Wide}
use Rattle.mpc_block.specs.Words.{words_from}
use Rattle.mpc_block.specs.Block.{width_of, words_each, line_size, line_start, line_at, IsBlockOf}
use Rattle.mpc_block.specs.Walks.{EndsIn, FindsLeaf}

place_of : (width : Width) (place : ℕ) → (12 + line_size width * place - 12) / line_size width ≡ place
place_of Short place = omega arith
place_of Wide place = omega arith

pub line_ends : (words : List ℕ) (parts : Parts) → IsBlockOf words parts → (place : ℕ) → place < length parts.tree → line_start (width_of parts) place + line_size (width_of parts) ≤ length words
line_ends words parts block place inside =
    let more : place + 1 ≤ length parts.tree = omega arith in
    let less : line_size (width_of parts) * (place + 1) ≤ line_size (width_of parts) * length parts.tree = mul-le-mul_left (line_size (width_of parts)) more in
    let one : line_size (width_of parts) * (place + 1) ≡ line_size (width_of parts) * place + line_size (width_of parts) = omega arith in
    omega (arith, block.long)

module _ (words counts : List ℕ) (parts : Parts) (block : IsBlockOf words parts) (width : Width) (start size : ℕ) (width_is : width ≡ width_of parts) (size_is : size ≡ line_size width) (ends : EndsIn words counts parts start) where
  size_here : size ≡ line_size (width_of parts)
  size_here = size_is ∙ ap line_size width_is

  pub ends_inside : start + size ≤ length words
  ends_inside = omega (arith, line_ends words parts block ends.place ends.stands.inside, ends.stands.start_is, size_here)

  module _ (node : List ℕ) (node_is : node ≡ words_from words start size) where
    line_is : node ≡ line_at words (width_of parts) ends.place
    line_is = node_is ∙ (λ i. words_from words (ends.stands.start_is i) (size_here i))

    pub finds_leaf : FindsLeaf words counts parts ((start - 12) / size + 1) (slice_index node 1) (slice_index node 2)
    finds_leaf = record {
      place = ends.place;
      node_is = (λ i. (ends.stands.start_is i - 12) / size_here i + 1) ∙ ap (λ p. p + 1) (place_of (width_of parts) ends.place);
      inside = ends.stands.inside;
      zero_is = ends.zero_is;
      reached = ends.reached;
      law_is = ap (λ l. slice_index l 1) line_is;
      start_is = ap (λ l. slice_index l 2) line_is;
    }

pub short_by_word : (width : Width) → words_each width ≡ 1 → Short ≡ width
short_by_word Short e = refl
short_by_word Wide e = absurd (omega arith)

pub wide_by_word : (width : Width) → ¬ words_each width ≡ 1 → Wide ≡ width
wide_by_word Short e = absurd (e refl)
wide_by_word Wide e = refl

pub node_count : (width : Width) (n : ℕ) → n ≤ line_start width n
node_count Short n = omega arith
node_count Wide n = omega arith

pub height_inside : (words : List ℕ) (parts : Parts) → IsBlockOf words parts → 0 < length parts.tree → slice_index words 10 ≤ length words
height_inside words parts block some = omega (arith, block.height, block.are_heights.low 0 (omega arith) some, block.long, node_count (width_of parts) (length parts.tree))
