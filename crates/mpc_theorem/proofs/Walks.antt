-- The lines between two places of a text that a grammar reads.
use Rattle.std.proofs.Common.{◌≡◌, ℕ, ◌+◌, ◌<◌, ◌≤◌, ⊎_elim, Bool, nat_lt, List, [], ◌∷◌, ◌++◌, map, fold, length, get_or, take, refl, sym, ap, subst, ◌∙◌, arith, append_assoc, append-nil, length-append, ltb-true, ltb-false}
use Rattle.std.specs.Prelude.{All, Contains}
use Rattle.std.proofs.lemmas.Bool.{cases_lt}
use Rattle.std.proofs.lemmas.List.{map-append, length-map, get_or-map}
use Rattle.std.proofs.lemmas.List.Concat.{flat_map-append, flat_map_single}
use Rattle.std.proofs.lemmas.List.Sums.{fold-append}
use Rattle.std.proofs.lemmas.List.Elements.{All-nil, All-push, All-contains, Contains-get_or}
use Rattle.std.proofs.Math.Seq.{get_or-append_seam}
use Rattle.std.proofs.Math.ListN.{get_or-append}
use Rattle.std.specs.List.{flat_map}
use Rattle.mpc_grammar.specs.Reading.{Cursor, LineRule, Grammar, one_line, ReadsItems, no_item, one_more, many}
use Rattle.mpc_grammar.specs.PlantGrammar.{plain_rule, so_many}
use Rattle.mpc_writing.specs.Writing.{ended, text_of_lines}
use Rattle.mpc_theorem.specs.ControllerFile.{with_line}
use Rattle.mpc_theorem.proofs.Numbered.{line_at, AreDifferent}

-- from one place to another stand these lines
pub record HasLines (here : Cursor) (lines : List (List ℕ)) (behind : Cursor) : Type 0 where
  pub text_is : here.rest ≡ text_of_lines lines ++ behind.rest

pub lines_none : (here behind : Cursor) → behind ≡ here → HasLines here [] behind
lines_none here behind e = record { text_is = ap (λ (c : Cursor). c.rest) (sym e) }

pub lines_one : {X : Type 0} (rule : LineRule X) (text : X → List ℕ) → ((line : List ℕ) (x : X) → rule.States line x → line ≡ text x) → (here : Cursor) (x : X) (behind : Cursor) → (one_line rule).Reads here x behind → HasLines here (text x ∷ []) behind
lines_one rule text spelled here x behind (line, (taken, good)) =
    record { text_is = taken.cut.joined ∙ ap (λ l. l ++ 10 ∷ behind.rest) (spelled line x good.0) ∙ sym (ap (λ t. t ++ behind.rest) (append-nil (ended (text x))) ∙ append_assoc (text x) (10 ∷ []) behind.rest) }

pub lines_plain : {X : Type 0} (states : List ℕ → X → Type 0) (text : X → List ℕ) → ((line : List ℕ) (x : X) → states line x → line ≡ text x) → (here : Cursor) (x : X) (behind : Cursor) → (one_line (plain_rule states)).Reads here x behind → HasLines here (text x ∷ []) behind
lines_plain states text spelled = lines_one (plain_rule states) text spelled

pub lines_then : (here : Cursor) (some : List (List ℕ)) (between : Cursor) (more : List (List ℕ)) (behind : Cursor) → HasLines here some between → HasLines between more behind → HasLines here (some ++ more) behind
lines_then here some between more behind h k =
    record { text_is = h.text_is ∙ ap (λ t. text_of_lines some ++ t) k.text_is ∙ sym (append_assoc (text_of_lines some) (text_of_lines more) behind.rest) ∙ ap (λ t. t ++ behind.rest) (sym (flat_map-append ended some more)) }

pub lines_are : (here behind : Cursor) (some others : List (List ℕ)) → some ≡ others → HasLines here some behind → HasLines here others behind
lines_are here behind some others e h = subst (λ ls. HasLines here ls behind) e h

-- ---- items one behind another
module _ {X : Type 0} (item : List X → Grammar X) (asks_more : List X → Bool) where
  pub lines_items : (lines : X → List (List ℕ)) → ((before : List X) (b : Cursor) (x : X) (c : Cursor) → (item before).Reads b x c → HasLines b (lines x) c)
      → (here : Cursor) (items : List X) (behind : Cursor) → ReadsItems X item asks_more here items behind → HasLines here (flat_map lines items) behind
  lines_items lines each here [] behind no_item = lines_none here here refl
  lines_items lines each here _ behind (one_more before between x _ reads more one) =
      lines_are here behind (flat_map lines before ++ lines x) (flat_map lines (before ++ x ∷ []))
      (ap (λ l. flat_map lines before ++ l) (sym (append-nil (lines x))) ∙ sym (flat_map-append lines before (x ∷ [])))
      (lines_then here (flat_map lines before) between (lines x) behind (lines_items lines each here before between reads) (each before between x behind one))

  -- what the items name, one by one, is so far the first of all lines
  pub lines_named : (all : List (List ℕ)) (used : List X → ℕ) (lines : X → List (List ℕ)) → used [] ≡ 0
      → ((before : List X) (b : Cursor) (x : X) (c : Cursor) → used before ≤ length all → (item before).Reads b x c → (fold with_line (take (used before) all) (lines x) ≡ take (used (before ++ x ∷ [])) all) × (used (before ++ x ∷ []) ≤ length all))
      → (here : Cursor) (items : List X) (behind : Cursor) → ReadsItems X item asks_more here items behind → (fold with_line [] (flat_map lines items) ≡ take (used items) all) × (used items ≤ length all)
  lines_named all used lines none each here [] behind no_item = (ap (λ n. take n all) (sym none), omega (arith, none))
  lines_named all used lines none each here _ behind (one_more before between x _ reads more one) =
      let first = lines_named all used lines none each here before between reads in
      let next = each before between x behind first.1 one in (
        ap (fold with_line []) (flat_map-append lines before (x ∷ []) ∙ ap (λ l. flat_map lines before ++ l) (append-nil (lines x)))
            ∙ fold-append with_line [] (flat_map lines before) (lines x) ∙ ap (λ l. fold with_line l (lines x)) first.0 ∙ next.0,
        next.1,
      )

  -- the lines of items of which none is like one before it
  module _ (line : X → List ℕ) (Good : X → Type 0) (one : (x y : X) → Good x → Good y → line x ≡ line y → x ≡ y) where
    push_different : (items : List X) (x : X) → All Good items → Good x → ¬ Contains items x → AreDifferent (map line items) → AreDifferent (map line (items ++ x ∷ []))
    push_different items x good fine new differ i j low within e =
        let ls = map line items in
        let joined : map line (items ++ x ∷ []) ≡ ls ++ line x ∷ [] = map-append line items (x ∷ []) in
        let size : length ls ≡ length items = length-map items line in
        let long : length (map line (items ++ x ∷ [])) ≡ length items + 1 = length-map (items ++ x ∷ []) line ∙ length-append items (x ∷ []) in
        let front : (n : ℕ) → n < length items → line_at (map line (items ++ x ∷ [])) n ≡ line (get_or items n x) =
        λ n h. ap (λ l. line_at l n) joined ∙ get_or-append ls (line x ∷ []) [] n (omega (arith, size, h)) ∙ get_or-map line items n x [] h in
        ⊎_elim
        (λ a. differ i j low (omega (arith, size, a)) (sym (ap (λ l. line_at l i) joined ∙ get_or-append ls (line x ∷ []) [] i (omega (arith, size, a, low))) ∙ e ∙ (ap (λ l. line_at l j) joined ∙ get_or-append ls (line x ∷ []) [] j (omega (arith, size, a)))))
        (λ a. let at : j ≡ length ls = omega (arith, size, a, long, within) in
        let last : line_at (map line (items ++ x ∷ [])) j ≡ line x = ap (λ l. line_at l j) joined ∙ ap (λ n. line_at (ls ++ line x ∷ []) n) at ∙ get_or-append_seam ls (line x) [] [] in
        let there : i < length items = omega (arith, low, at, size) in
        let found : Contains items (get_or items i x) = Contains-get_or items i x there in
        let same : get_or items i x ≡ x = one (get_or items i x) x (All-contains Good items (get_or items i x) good found) fine (sym (front i there) ∙ e ∙ last) in
        new (subst (Contains items) same found))
        (cases_lt j (length items))

    pub different_items : ((before : List X) (b : Cursor) (x : X) (c : Cursor) → (item before).Reads b x c → Good x × (¬ Contains before x)) → (here : Cursor) (items : List X) (behind : Cursor) → ReadsItems X item asks_more here items behind → All Good items × AreDifferent (map line items)
    different_items each here [] behind no_item = (All-nil Good, λ i j low within e. absurd (omega (arith, within)))
    different_items each here _ behind (one_more before between x _ reads more one) =
        let first = different_items each here before between reads in
        let this = each before between x behind one in
        (All-push Good before x first.0 this.0, push_different before x first.0 this.0 this.1 first.1)

-- ---- so many items
few_items : {X : Type 0} (item : List X → Grammar X) (count : ℕ) (here : Cursor) (items : List X) (behind : Cursor) → ReadsItems X item (λ items. nat_lt (length items) count) here items behind → length items ≤ count
few_items item count here items behind no_item = omega arith
few_items item count here items behind (one_more before between x end reads more one) = omega (arith, length-append before (x ∷ []), ltb-true (length before) count more)

pub so_many_items : {X : Type 0} (item : List X → Grammar X) (count : ℕ) (here : Cursor) (items : List X) (behind : Cursor) → (many item (λ items. nat_lt (length items) count)).Reads here items behind → length items ≡ count
so_many_items item count here items behind h =
    let low : length items ≤ count = few_items item count here items behind h.0 in
    omega (arith, low, ltb-false (length items) count h.1)

-- each on a line of its own
pub lines_so_many : {X : Type 0} (count : ℕ) (rule : LineRule X) (text : X → List ℕ) → ((line : List ℕ) (x : X) → rule.States line x → line ≡ text x) → (here : Cursor) (items : List X) (behind : Cursor) → (so_many count rule).Reads here items behind → HasLines here (map text items) behind
lines_so_many {X} count rule text spelled here items behind h =
    lines_are here behind (flat_map (λ x. text x ∷ []) items) (map text items) (flat_map_single text items)
    (lines_items (λ items. one_line rule) (λ (items : List X). nat_lt (length items) count) (λ x. text x ∷ []) (λ before b x c. lines_one rule text spelled b x c) here items behind h.0)
