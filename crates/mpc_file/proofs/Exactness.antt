-- What is read from a place is one value and one place behind it, what is read doesn't fail, and what fails does so in one way. This holds of
-- the ways in which grammars are joined where it holds of their parts.
use Rattle.std.proofs.Common.{◌≡◌, ℕ, ◌<◌, ◌≤◌, inl, inr, ⊎_elim, Bool, true≢false, IsTrue, List, [], ◌∷◌, ◌++◌, length, refl, sym, ap, subst, ◌∙◌, arith, length-append}
use Rattle.std.proofs.lemmas.Bool.{cases_lt}
use Rattle.mpc_words.specs.Words.{IsWithout, IsCutAt}
use Rattle.mpc_grammar.specs.declared.errors.FileKind.{FileKind}
use Rattle.mpc_grammar.specs.declared.errors.FileKind.TheVariants.{BadLine, Truncated, TailAfterEnd, BadNode, OverBound}
use Rattle.mpc_grammar.specs.Reading.{Cursor, TakesLine, LineRule, IsGood, IsRefused, Grammar, FailsLine, one_line, give, ◌>>=◌, that_which, ReadsItems, no_item, one_more, FailsItem, many}

pub record IsExactAt {X : Type 0} (g : Grammar X) (here : Cursor) : Type 0 where
  pub one_value : (x y : X) (behind other : Cursor) → g.Reads here x behind → g.Reads here y other → x ≡ y
  pub one_place : (x y : X) (behind other : Cursor) → g.Reads here x behind → g.Reads here y other → behind ≡ other
  pub no_failure : (x : X) (behind : Cursor) (kind : FileKind) (number : ℕ) → g.Reads here x behind → ¬ g.Fails here kind number
  pub one_kind : (kind other : FileKind) (number place : ℕ) → g.Fails here kind number → g.Fails here other place → kind ≡ other
  pub one_number : (kind other : FileKind) (number place : ℕ) → g.Fails here kind number → g.Fails here other place → number ≡ place

-- ---- one line
-- a text is cut at its first line feed in one way
pub record CutTheorems : Type 0 where
  pub one_before : (byte : ℕ) (text before front behind back : List ℕ) → IsCutAt byte text before behind → IsCutAt byte text front back → before ≡ front
  pub one_behind : (byte : ℕ) (text before front behind back : List ℕ) → IsCutAt byte text before behind → IsCutAt byte text front back → behind ≡ back
  pub no_cut : (byte : ℕ) (text before behind : List ℕ) → IsWithout byte text → ¬ IsCutAt byte text before behind

-- a line states one thing only, and then no bad node
pub record IsExactRule {X : Type 0} (rule : LineRule X) : Type 0 where
  pub one : (line : List ℕ) (x y : X) → rule.States line x → rule.States line y → x ≡ y
  pub no_bad_node : (line : List ℕ) (x : X) → rule.States line x → ¬ rule.IsNoNode line

module _ (cuts : CutTheorems) where
  one_taken : (here : Cursor) (line other : List ℕ) (behind beyond : Cursor) → TakesLine here line behind → TakesLine here other beyond → line ≡ other
  one_taken here line other behind beyond a b = cuts.one_before 10 here.rest line other behind.rest beyond.rest a.cut b.cut

  one_behind_line : (here : Cursor) (line other : List ℕ) (behind beyond : Cursor) → TakesLine here line behind → TakesLine here other beyond → behind ≡ beyond
  one_behind_line here line other behind beyond a b =
      let e : behind.rest ≡ beyond.rest = cuts.one_behind 10 here.rest line other behind.rest beyond.rest a.cut b.cut in
      let f : behind.number ≡ beyond.number = a.next ∙ sym b.next in
      λ i. record { rest = e i; number = f i }

module _ {X : Type 0} (rule : LineRule X) (exact : IsExactRule rule) where
  not_refused : (line : List ℕ) (x : X) (kind : FileKind) → IsGood rule line x → ¬ IsRefused rule line kind
  not_refused line x BadLine good (none, no_node) = none x good.0
  not_refused line x BadNode good h = exact.no_bad_node line x good.0 h
  not_refused line x OverBound good (y, (states, over)) = good.1 (subst rule.IsOver (exact.one line y x states good.0) over)
  not_refused line x Truncated good h = h
  not_refused line x TailAfterEnd good h = h

  one_refusal : (line : List ℕ) (kind other : FileKind) → IsRefused rule line kind → IsRefused rule line other → kind ≡ other
  one_refusal line BadLine BadLine h k = refl
  one_refusal line BadLine BadNode h k = absurd (h.1 k)
  one_refusal line BadLine OverBound h k = absurd (h.0 k.0 k.1.0)
  one_refusal line BadLine Truncated h k = absurd k
  one_refusal line BadLine TailAfterEnd h k = absurd k
  one_refusal line BadNode BadLine h k = absurd (k.1 h)
  one_refusal line BadNode BadNode h k = refl
  one_refusal line BadNode OverBound h k = absurd (exact.no_bad_node line k.0 k.1.0 h)
  one_refusal line BadNode Truncated h k = absurd k
  one_refusal line BadNode TailAfterEnd h k = absurd k
  one_refusal line OverBound BadLine h k = absurd (k.0 h.0 h.1.0)
  one_refusal line OverBound BadNode h k = absurd (exact.no_bad_node line h.0 h.1.0 k)
  one_refusal line OverBound OverBound h k = refl
  one_refusal line OverBound Truncated h k = absurd k
  one_refusal line OverBound TailAfterEnd h k = absurd k
  one_refusal line Truncated other h k = absurd h
  one_refusal line TailAfterEnd other h k = absurd h

module _ (cuts : CutTheorems) {X : Type 0} (rule : LineRule X) (exact : IsExactRule rule) (here : Cursor) where
  value_of_line : (x y : X) (behind other : Cursor) → (one_line rule).Reads here x behind → (one_line rule).Reads here y other → x ≡ y
  value_of_line x y behind other (line, (taken, good)) (again, (taken_too, good_too)) =
      let e : line ≡ again = one_taken cuts here line again behind other taken taken_too in
      exact.one again x y (subst (λ l. rule.States l x) e good.0) good_too.0

  place_of_line : (x y : X) (behind other : Cursor) → (one_line rule).Reads here x behind → (one_line rule).Reads here y other → behind ≡ other
  place_of_line x y behind other (line, (taken, good)) (again, (taken_too, good_too)) = one_behind_line cuts here line again behind other taken taken_too

  line_fails_not : (x : X) (behind : Cursor) (kind : FileKind) (number : ℕ) → (one_line rule).Reads here x behind → ¬ FailsLine rule here kind number
  line_fails_not x behind kind number (line, (taken, good)) (e, inl (f, without)) = cuts.no_cut 10 here.rest line behind.rest without taken.cut
  line_fails_not x behind kind number (line, (taken, good)) (e, inr (again, (other, (taken_too, refused)))) =
      let f : again ≡ line = one_taken cuts here again line other behind taken_too taken in
      not_refused rule exact line x kind good (subst (λ l. IsRefused rule l kind) f refused)

  kind_of_line : (kind other : FileKind) (number place : ℕ) → FailsLine rule here kind number → FailsLine rule here other place → kind ≡ other
  kind_of_line kind other number place (e, inl (f, without)) (e_too, inl (g, without_too)) = f ∙ sym g
  kind_of_line kind other number place (e, inl (f, without)) (e_too, inr (line, (behind, (taken, refused)))) = absurd (cuts.no_cut 10 here.rest line behind.rest without taken.cut)
  kind_of_line kind other number place (e, inr (line, (behind, (taken, refused)))) (e_too, inl (g, without)) = absurd (cuts.no_cut 10 here.rest line behind.rest without taken.cut)
  kind_of_line kind other number place (e, inr (line, (behind, (taken, refused)))) (e_too, inr (again, (beyond, (taken_too, refused_too)))) =
      let f : again ≡ line = one_taken cuts here again line beyond behind taken_too taken in
      one_refusal rule exact line kind other refused (subst (λ l. IsRefused rule l other) f refused_too)

  pub exact_line : IsExactAt (one_line rule) here
  exact_line = record {
    one_value = value_of_line;
    one_place = place_of_line;
    no_failure = line_fails_not;
    one_kind = kind_of_line;
    one_number = λ kind other number place h k. h.0 ∙ sym k.0;
  }

-- ---- no line
pub exact_give : {X : Type 0} (value : X) (here : Cursor) → IsExactAt (give value) here
exact_give value here = record {
  one_value = λ x y behind other h k. h.0 ∙ sym k.0;
  one_place = λ x y behind other h k. h.1 ∙ sym k.1;
  no_failure = λ x behind kind number h k. k;
  one_kind = λ kind other number place h k. absurd h;
  one_number = λ kind other number place h k. absurd h;
}

pub exact_that : {X : Type 0} (IsIt : X → Type 0) (here : Cursor) → ((x y : X) → IsIt x → IsIt y → x ≡ y) → IsExactAt (that_which IsIt) here
exact_that IsIt here one = record {
  one_value = λ x y behind other h k. one x y h.0 k.0;
  one_place = λ x y behind other h k. h.1 ∙ sym k.1;
  no_failure = λ x behind kind number h k. k;
  one_kind = λ kind other number place h k. absurd h;
  one_number = λ kind other number place h k. absurd h;
}

-- ---- one part behind another
module _ {X Y : Type 0} (first : Grammar X) (second : X → Grammar Y) (here : Cursor) (front : IsExactAt first here)
    (back : (x : X) (between : Cursor) → first.Reads here x between → IsExactAt (second x) between) where
  moved : (P : X → Cursor → Type 0) (x z : X) (between beyond : Cursor) → first.Reads here x between → first.Reads here z beyond → P z beyond → P x between
  moved P x z between beyond h k p =
      subst (λ v. P v between) (front.one_value z x beyond between k h) (subst (P z) (front.one_place z x beyond between k h) p)

  both_value : (x y : Y) (behind other : Cursor) → (first >>= second).Reads here x behind → (first >>= second).Reads here y other → x ≡ y
  both_value x y behind other (a, (at, (h, k))) (b, (place, (l, m))) =
      (back a at h).one_value x y behind other k (moved (λ v c. (second v).Reads c y other) a b at place h l m)

  both_place : (x y : Y) (behind other : Cursor) → (first >>= second).Reads here x behind → (first >>= second).Reads here y other → behind ≡ other
  both_place x y behind other (a, (at, (h, k))) (b, (place, (l, m))) =
      (back a at h).one_place x y behind other k (moved (λ v c. (second v).Reads c y other) a b at place h l m)

  both_fail_not : (x : Y) (behind : Cursor) (kind : FileKind) (number : ℕ) → (first >>= second).Reads here x behind → ¬ (first >>= second).Fails here kind number
  both_fail_not x behind kind number (a, (at, (h, k))) (inl fails) = front.no_failure a at kind number h fails
  both_fail_not x behind kind number (a, (at, (h, k))) (inr (b, (place, (l, fails)))) =
      (back a at h).no_failure x behind kind number k (moved (λ v c. (second v).Fails c kind number) a b at place h l fails)

  both_kind : (kind other : FileKind) (number place : ℕ) → (first >>= second).Fails here kind number → (first >>= second).Fails here other place → kind ≡ other
  both_kind kind other number place (inl h) (inl k) = front.one_kind kind other number place h k
  both_kind kind other number place (inl h) (inr (b, (at, (l, k)))) = absurd (front.no_failure b at kind number l h)
  both_kind kind other number place (inr (a, (at, (l, h)))) (inl k) = absurd (front.no_failure a at other place l k)
  both_kind kind other number place (inr (a, (at, (l, h)))) (inr (b, (to, (m, k)))) =
      (back a at l).one_kind kind other number place h (moved (λ v c. (second v).Fails c other place) a b at to l m k)

  both_number : (kind other : FileKind) (number place : ℕ) → (first >>= second).Fails here kind number → (first >>= second).Fails here other place → number ≡ place
  both_number kind other number place (inl h) (inl k) = front.one_number kind other number place h k
  both_number kind other number place (inl h) (inr (b, (at, (l, k)))) = absurd (front.no_failure b at kind number l h)
  both_number kind other number place (inr (a, (at, (l, h)))) (inl k) = absurd (front.no_failure a at other place l k)
  both_number kind other number place (inr (a, (at, (l, h)))) (inr (b, (to, (m, k)))) =
      (back a at l).one_number kind other number place h (moved (λ v c. (second v).Fails c other place) a b at to l m k)

  pub exact_both : IsExactAt (first >>= second) here
  exact_both = record { one_value = both_value; one_place = both_place; no_failure = both_fail_not; one_kind = both_kind; one_number = both_number }

-- ---- items one behind another
-- behind so many items one more is read
record IsStage {X : Type 0} (item : List X → Grammar X) (asks_more : List X → Bool) (here : Cursor) (n : ℕ) : Type 0 where
  front : List X
  place : Cursor
  reads : ReadsItems X item asks_more here front place
  size : length front ≡ n
  more : IsTrue (asks_more front)
  x : X
  after : Cursor
  one : (item front).Reads place x after

module _ {X : Type 0} (item : List X → Grammar X) (asks_more : List X → Bool) (here : Cursor) where
  stage : (items : List X) (end : Cursor) → ReadsItems X item asks_more here items end → (n : ℕ) → n < length items → IsStage item asks_more here n
  stage items end no_item n lt = absurd (omega arith)
  stage items end (one_more before between x behind reads more one) n lt = ⊎_elim
      (λ l. stage before between reads n l)
      (λ l. record {
        front = before;
        place = between;
        reads = reads;
        size = omega (arith, length-append before (x ∷ []));
        more = more;
        x = x;
        after = behind;
        one = one;
      })
      (cases_lt n (length before))

module _ {X : Type 0} (item : List X → Grammar X) (asks_more : List X → Bool) (here : Cursor)
    (each : (items : List X) (between : Cursor) → ReadsItems X item asks_more here items between → IsTrue (asks_more items) → IsExactAt (item items) between) where
  same_items : (items others : List X) (end stop : Cursor) → ReadsItems X item asks_more here items end → ReadsItems X item asks_more here others stop → length items ≡ length others → (items ≡ others) × (end ≡ stop)
  same_items items others end stop no_item no_item e = (refl, refl)
  same_items items others end stop no_item (one_more before between x behind reads more one) e = absurd (omega (arith, length-append before (x ∷ [])))
  same_items items others end stop (one_more before between x behind reads more one) no_item e = absurd (omega (arith, length-append before (x ∷ [])))
  same_items items others end stop (one_more before between x behind reads more one) (one_more ahead at y beyond takes asks other) e =
      let same : (before ≡ ahead) × (between ≡ at) = same_items before ahead between at reads takes (omega (arith, length-append before (x ∷ []), length-append ahead (y ∷ []))) in
      let too : (item before).Reads between y beyond = subst (λ c. (item before).Reads c y beyond) (sym same.1) (subst (λ xs. (item xs).Reads at y beyond) (sym same.0) other) in
      let value : x ≡ y = (each before between reads more).one_value x y behind beyond one too in
      ((λ i. same.0 i ++ value i ∷ []), (each before between reads more).one_place x y behind beyond one too)

  not_longer : (items others : List X) (end stop : Cursor) → (many item asks_more).Reads here items end → ReadsItems X item asks_more here others stop → length others ≤ length items
  not_longer items others end stop (reads, none) takes = ⊎_elim
      (λ l. let s : IsStage item asks_more here (length items) = stage item asks_more here others stop takes (length items) l in
      let same : (s.front ≡ items) × (s.place ≡ end) = same_items s.front items s.place end s.reads reads s.size in
      absurd (true≢false (sym s.more ∙ ap asks_more same.0 ∙ none)))
      (λ l. l)
      (cases_lt (length items) (length others))

  same_all : (items others : List X) (end stop : Cursor) → (many item asks_more).Reads here items end → (many item asks_more).Reads here others stop → (items ≡ others) × (end ≡ stop)
  same_all items others end stop h k =
      let le : length others ≤ length items = not_longer items others end stop h k.0 in
      let ge : length items ≤ length others = not_longer others items stop end k h.0 in
      same_items items others end stop h.0 k.0 (omega arith)

  -- fewer items are read, behind which one fails
  no_shorter : (items others : List X) (end stop : Cursor) (kind : FileKind) (number : ℕ) → ReadsItems X item asks_more here items end → ReadsItems X item asks_more here others stop → (item others).Fails stop kind number → length others < length items → ⊥
  no_shorter items others end stop kind number reads takes fails lt =
      let s : IsStage item asks_more here (length others) = stage item asks_more here items end reads (length others) lt in
      let same : (s.front ≡ others) × (s.place ≡ stop) = same_items s.front others s.place stop s.reads takes s.size in
      let too : (item s.front).Fails s.place kind number = subst (λ c. (item s.front).Fails c kind number) (sym same.1) (subst (λ xs. (item xs).Fails stop kind number) (sym same.0) fails) in
      (each s.front s.place s.reads s.more).no_failure s.x s.after kind number s.one too

  all_fail_not : (items : List X) (end : Cursor) (kind : FileKind) (number : ℕ) → (many item asks_more).Reads here items end → ¬ FailsItem item asks_more here kind number
  all_fail_not items end kind number h (others, (stop, (takes, asks, fails))) = ⊎_elim
      (λ l. no_shorter items others end stop kind number h.0 takes fails l)
      (λ l. let le : length others ≤ length items = not_longer items others end stop h takes in
      let same : (others ≡ items) × (stop ≡ end) = same_items others items stop end takes h.0 (omega arith) in
      true≢false (sym asks ∙ ap asks_more same.0 ∙ h.1))
      (cases_lt (length others) (length items))

  same_failure : (kind other : FileKind) (number place : ℕ) → FailsItem item asks_more here kind number → FailsItem item asks_more here other place → (kind ≡ other) × (number ≡ place)
  same_failure kind other number place (items, (end, (reads, more, fails))) (others, (stop, (takes, asks, fails_too))) = ⊎_elim
      (λ l. absurd (no_shorter items others end stop other place reads takes fails_too l))
      (λ l. ⊎_elim
      (λ m. absurd (no_shorter others items stop end kind number takes reads fails m))
      (λ m. let same : (others ≡ items) × (stop ≡ end) = same_items others items stop end takes reads (omega arith) in
      let too : (item items).Fails end other place = subst (λ c. (item items).Fails c other place) same.1 (subst (λ xs. (item xs).Fails stop other place) same.0 fails_too) in
      ((each items end reads more).one_kind kind other number place fails too, (each items end reads more).one_number kind other number place fails too))
      (cases_lt (length items) (length others)))
      (cases_lt (length others) (length items))

  pub exact_many : IsExactAt (many item asks_more) here
  exact_many = record {
    one_value = λ x y behind other h k. (same_all x y behind other h k).0;
    one_place = λ x y behind other h k. (same_all x y behind other h k).1;
    no_failure = all_fail_not;
    one_kind = λ kind other number place h k. (same_failure kind other number place h k).0;
    one_number = λ kind other number place h k. (same_failure kind other number place h k).1;
  }
