-- The moves by the forms of a block.
use Rattle.std.proofs.Common.{◌≡◌, ◌≢◌, ℕ, zero, suc, ◌+◌, ◌-◌, ◌*◌, ◌^◌, ◌<◌, ◌≤◌, ℤ, pos, ◌+ℤ◌, ◌*ℤ◌, ◌<ℤ◌, unsigned_abs, List, ◌∷◌, length, get_or, set, take, drop, ◌⊎◌, inl, inr, sym, ◌∙◌, ap, subst, arith}
use Rattle.std.specs.Int.{int_wrap}
use Rattle.std.proofs.lemmas.Bool.{cases_lt}
use Rattle.std.proofs.lemmas.Int.{ints, int_wrap_fits, fits_signed_from_abs}
use Rattle.std.proofs.lemmas.List.{get_or-set_same, get_or-set_other, drop-take, drop-drop, take-take}
use Rattle.std.proofs.lemmas.Option.{slice_get_within}
use Rattle.std.proofs.Math.Nat.{mul-le-mul_left, mul-le-mul_right}
use mir.Syntax.{Width as Bits}
use mir.Val.{hbits}
use Rattle.mpc_exact.specs.Rational.{ℚ, quotient}
use Rattle.mpc_exact.specs.Denominator.{common_denom}
use Rattle.mpc_exact.proofs.Denominator.{common_denom-positive}
use Rattle.mpc_linear.specs.declared.integers.IntAffine.{IntAffine}
use Rattle.mpc_rows.specs.declared.laws.Law.{Law}
use Rattle.mpc_controller.specs.Parts.{Parts}
use Rattle.mpc_controller.specs.Bounds.{first_move_form}
use Rattle.mpc_controller.specs.Replies.{IsLawNumbered}
use Rattle.mpc_table.specs.Forms.{weighed}
use Rattle.mpc_table.specs.TableTheorems.{MovesEachInput, LeastForms}
use Rattle.mpc_block.specs.declared.replies.Move.{Move}
use Rattle.mpc_block.specs.declared.lines.Width.{Width}
use Rattle.mpc_block.specs.Words.{words_from, number_at, entries}
use Rattle.mpc_block.specs.Sums.{greatest}
use Rattle.mpc_block.specs.Block.{width_of, line_size, line_start, line_at, law_place, law_start, whole, form_in, IsFormLine}
use Rattle.mpc_block.specs.Walks.{Serves}
use Rattle.mpc_block.specs.BlockReplies.{num_of, den_of, IsMoveOf, BeginWith}
use Rattle.mpc_block.proofs.SumLemmas.{first_of_taken}
use Rattle.mpc_block.proofs.WrapLemmas.{abs_weighed}
use Rattle.mpc_block.proofs.BlockLemmas.{count_each, weighed_taken}
use Rattle.mpc_block.proofs.WidthLemmas.{KeepsForm, keeps_form}
use Rattle.mpc_block.proofs.LayoutLemmas.{starts_mono}

one_times : (k w : ℤ) → k *ℤ pos 1 +ℤ w ≡ k +ℤ w
one_times k w = omega (arith, ints)

some_den : (n : ℕ) → 0 < n → pos 0 <ℤ pos n
some_den n h = omega (arith, ints)

module _ (words counts : List ℕ) (parts : Parts) (s : Serves words counts parts) (of_set : Law) (law input : ℕ) (numbered : IsLawNumbered parts.laws law of_set) (below : input < parts.plant.p) (width : Width) (is : width ≡ width_of parts) (line : List ℕ)
    (there : IsFormLine parts of_set input line) where
  abbrev n : ℕ
  n = parts.plant.n

  abbrev form : List ℚ
  form = first_move_form of_set input

  abbrev first : ℤ
  first = number_at width line 1

  abbrev others : List ℤ
  others = entries width line

  here : form_in width n line ≡ whole form
  here = subst (λ w. form_in w n line ≡ whole form) (sym is) there

  keeps : MovesEachInput → KeepsForm width parts.plant form
  keeps inputs = keeps_form inputs parts s.block.controller width is (law - 1) of_set numbered input below

  pub den_is : number_at width line 0 ≡ pos (common_denom form)
  den_is = ap (λ (f : IntAffine). f.den) here

  pub is_over : pos 0 <ℤ number_at width line 0
  is_over = subst (λ z. pos 0 <ℤ z) (sym den_is) (some_den (common_denom form) (common_denom-positive form))

  k_is : first ∷ take n others ≡ (whole form).k
  k_is = sym (first_of_taken first others n) ∙ ap (λ (f : IntAffine). f.k) here

  all_counts : length counts ≤ n
  all_counts = omega (arith, count_each words counts parts s)

  total_is : first +ℤ weighed others counts ≡ weighed (whole form).k (1 ∷ counts)
  total_is = ap (λ w. first +ℤ w) (sym (weighed_taken others n counts all_counts)) ∙ sym (one_times first (weighed (take n others) counts)) ∙ ap (λ k. weighed k (1 ∷ counts)) k_is

  small : MovesEachInput → unsigned_abs (weighed (whole form).k (1 ∷ counts)) < greatest width
  small inputs = omega (arith, abs_weighed (whole form).k (1 ∷ counts), (keeps inputs).values_small counts s.up_to)

  -- a sum that may wrap on the way
  pub exact : MovesEachInput → (bits : Bits) → greatest width ≡ 2 ^ hbits bits → (start sum : ℤ) → start ≡ first → sum ≡ int_wrap bits (start +ℤ weighed others counts) → sum ≡ weighed (whole form).k (1 ∷ counts)
  exact inputs bits room start sum start_is sum_is =
      sum_is ∙ ap (λ z. int_wrap bits (z +ℤ weighed others counts)) start_is ∙ ap (int_wrap bits) total_is ∙ int_wrap_fits bits _ (fits_signed_from_abs bits _ (subst (λ m. unsigned_abs (weighed (whole form).k (1 ∷ counts)) < m) room (small inputs)))

  pub is_move : LeastForms → (step : Move) → num_of step ≡ weighed (whole form).k (1 ∷ counts) → den_of step ≡ number_at width line 0 → IsMoveOf of_set counts input step
  is_move values step num den = record {
    positive = subst (λ z. pos 0 <ℤ z) (sym den) is_over;
    value = (λ i. quotient (num i) ((den ∙ den_is) i)) ∙ (values form).value counts;
  }

-- ---- where the form of an input stands
pub inner_part : (words : List ℕ) (start size a b : ℕ) → a + b ≤ size → words_from (words_from words start size) a b ≡ words_from words (start + a) b
inner_part words start size a b h =
    let rest : start + size - start ≡ a + (size - a) = omega arith in
    let taken : a + b - a ≡ b = omega arith in
    let also : start + a + b - (start + a) ≡ b = omega arith in
    let short : b ≤ size - a = omega arith in
    (λ i. take (taken i) (drop a (take (rest i) (drop start words)))) ∙ ap (take b) (drop-take a (size - a) (drop start words)) ∙ take-take b (size - a) (drop a (drop start words)) short
    ∙ (λ i. take (sym also i) (drop-drop a start words i))

pub one_line : (each i n : ℕ) → i < n → each * i + each ≤ each * n
one_line each i n lt =
    let next : i + 1 ≤ n = omega arith in
    let less : each * (i + 1) ≤ each * n = mul-le-mul_left each next in
    omega arith

law_ends : (law laws inputs : ℕ) → 1 ≤ law → law ≤ laws → (law - 1) * inputs + inputs ≤ laws * inputs
law_ends zero laws inputs h k = absurd (omega arith)
law_ends (suc law) laws inputs h k =
    let more : suc law * inputs ≤ laws * inputs = mul-le-mul_right inputs k in
    let one : suc law * inputs ≡ law * inputs + inputs = omega arith in
    let less : suc law - 1 ≡ law = omega arith in
    subst (λ n. n * inputs + inputs ≤ laws * inputs) (sym less) (omega arith)

module _ (words counts : List ℕ) (parts : Parts) (s : Serves words counts parts) (of_set : Law) (law start inputs : ℕ) (width : Width) (is : width ≡ width_of parts) (size : inputs ≡ parts.plant.p) (from : 1 ≤ law) (numbered : IsLawNumbered parts.laws law of_set)
    (start_is : start ≡ law_start parts law) where
  abbrev each : ℕ
  each = line_size width

  start_here : start ≡ line_start width (law_place parts law)
  start_here = start_is ∙ ap (λ w. line_start w (law_place parts law)) (sym is)

  apart : (a k n : ℕ) → 12 + a * k + a * n ≡ 12 + a * (k + n)
  apart a k n = omega arith

  pub forms_inside : start + each * inputs ≤ length words
  forms_inside =
      let before : law - 1 < length parts.laws = slice_get_within parts.laws (law - 1) of_set numbered in
      let ends : (law - 1) * parts.plant.p + parts.plant.p ≤ length parts.laws * parts.plant.p = law_ends law (length parts.laws) parts.plant.p from (omega arith) in
      let mono : line_start width (law_place parts law + inputs) ≤ line_start width (length parts.tree + length parts.laws * parts.plant.p) = starts_mono width _ _ (omega (arith, ends, size)) in
      let whole_block : line_start width (length parts.tree + length parts.laws * parts.plant.p) ≤ length words = subst (λ w. line_start w (length parts.tree + length parts.laws * parts.plant.p) ≤ length words) (sym is) s.block.long in
      omega (arith, start_here, apart each (law_place parts law) inputs)

  pub form_there : (lines : List ℕ) (input : ℕ) → lines ≡ words_from words start (each * inputs) → input < inputs → IsFormLine parts of_set input (words_from lines (each * input) each)
  form_there lines input lines_are lt =
      let before : input < parts.plant.p = omega (arith, lt, size) in
      let room : each * input + each ≤ each * inputs = one_line each input inputs lt in
      let place : start + each * input ≡ line_start width (law_place parts law + input) = omega (arith, start_here, apart each (law_place parts law) input) in
      let line_is : words_from lines (each * input) each ≡ line_at words (width_of parts) (law_place parts law + input) = ap (λ l. words_from l (each * input) each) lines_are ∙ inner_part words start (each * inputs) (each * input) each room ∙ ap (λ w. words_from words w each) place ∙ ap (λ w. line_at words w (law_place parts law + input)) is in
      subst (IsFormLine parts of_set input) (sym line_is) (s.block.forms law of_set input numbered before)

-- ---- one move more
pub one_more : (of_set : Law) (counts : List ℕ) (moves : List Move) (i : ℕ) (step : Move) → i < length moves → BeginWith of_set counts i moves → IsMoveOf of_set counts i step → BeginWith of_set counts (i + 1) (set moves i step)
one_more of_set counts moves i step lt before here input d below = by (cases_lt input i)
  where
    by : (input < i) ⊎ (i ≤ input) → IsMoveOf of_set counts input (get_or (set moves i step) input d)
    by (inl less) = let other : input ≢ i = omega arith in subst (IsMoveOf of_set counts input) (sym (get_or-set_other moves i input step d other)) (before input d less)
    by (inr ge) = let same : input ≡ i = omega arith in subst (λ q. IsMoveOf of_set counts q (get_or (set moves i step) q d)) (sym same) (subst (IsMoveOf of_set counts i) (sym (get_or-set_same moves i step d lt)) here)
