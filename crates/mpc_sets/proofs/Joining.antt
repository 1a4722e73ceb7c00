-- Why joining sets with a common beginning gives the next level.
use Rattle.std.proofs.Common.{◌≡◌, ℕ, ◌+◌, ◌<◌, ◌≤◌, ◌⊎◌, List, [], ◌∷◌, ◌++◌, length, get_or, Contains, refl, sym, ap, ◌∙◌, subst, inl, inr, arith, length-append}
use Rattle.std.proofs.lemmas.Bool.{cases_lt, cases_eq, cases_order}
use Rattle.std.proofs.lemmas.List.{get_or_default}
use Rattle.std.proofs.lemmas.List.Elements.{Contains-get_or, Contains-append_left, Contains-push, Contains-push_cases}
use Rattle.std.proofs.lemmas.List.Quantifiers.{all_pairs_push}
use Rattle.std.specs.Ordering.{nat_cmp}
use Rattle.std.specs.Cmp.Lexicographic.{slice_cmp}
use Rattle.std.specs.declared.cmp.Ordering.TheVariants.{Less}
use Rattle.mpc_sets.specs.RowSet.{Among, IsSetOfRows, without_row, LacksOne}
use Rattle.mpc_sets.specs.SetOrder.{set_cmp, IsBefore, IsInOrder}
use Rattle.mpc_sets.specs.NextLevel.{IsOfOneSize, IsNextOf, ExtendsOneOf, HoldsNext}
use Rattle.mpc_sets.proofs.RowSets.{Contains-from_among, Among-from_contains, Among_within, Among_last, Among_front, Among_last_cases, below_last, rises_last, without_row-append, without_row-other, without_row-last, length-without_row, lacked_row, Among-without_row_cases, RisesWithin-without_row}
use Rattle.mpc_sets.proofs.SetOrders.{set_cmp-one_size, slice_cmp-last, last_less, slice_cmp-append, between}

-- ---- subsets with one member fewer are the set without one of its rows
pub lacks_row : (rows : ℕ) (s : List ℕ) (i : ℕ) → IsSetOfRows rows s → Among i s → IsSetOfRows rows (without_row i s) × LacksOne (without_row i s) s
lacks_row rows s i h a = (
  record { rises = RisesWithin-without_row i 0 rows s h.rises },
  record {
    subset = λ k c. Contains-from_among k s (Among-without_row_cases i k s (Among-from_contains k (without_row i s) c)).1;
    one_fewer = length-without_row i 0 rows s h.rises a;
  },
)

pub row_lacked : (rows : ℕ) (s t : List ℕ) → IsSetOfRows rows s → IsSetOfRows rows t → LacksOne t s → (i : ℕ) × Among i s × (t ≡ without_row i s)
row_lacked rows s t h k l = lacked_row 0 0 rows rows s t k.rises h.rises (λ i a. Among-from_contains i s (l.subset i (Contains-from_among i t a))) l.one_fewer

-- what each next set has: without any of its rows it is given
pub next_without : (grown : List (List ℕ)) (rows : ℕ) (s : List ℕ) (i : ℕ) → IsNextOf grown rows s → Among i s → Contains grown (without_row i s)
next_without grown rows s i n a = let l = lacks_row rows s i n.is_set a in n.subsets (without_row i s) l.0 l.1

pub next_from_without : (grown : List (List ℕ)) (rows : ℕ) (s : List ℕ) → IsSetOfRows rows s → 0 < length s → ((i : ℕ) → Among i s → Contains grown (without_row i s)) → IsNextOf grown rows s
next_from_without grown rows s h some f = record {
  is_set = h;
  has_member = some;
  subsets = λ t k l. let r = row_lacked rows s t h k l in subst (Contains grown) (sym r.2) (f r.0 r.1);
}

pub same_ends : (f g : List ℕ) (w r : ℕ) → f ++ w ∷ [] ≡ g ++ r ∷ [] → (f ≡ g) × (w ≡ r)
same_ends [] [] w r e = (refl, ap (λ s. get_or s 0 0) e)
same_ends [] (j ∷ g) w r e = absurd (omega (arith, ap length e, length-append g (r ∷ [])))
same_ends (i ∷ f) [] w r e = absurd (omega (arith, ap length e, length-append f (w ∷ [])))
same_ends (i ∷ f) (j ∷ g) w r e = let rest = same_ends f g w r (tail_same e) in (λ k. head_same e k ∷ rest.0 k, rest.1)
  where
    head_same : i ∷ (f ++ w ∷ []) ≡ j ∷ (g ++ r ∷ []) → i ≡ j
    head_same e = cc

    tail_same : i ∷ (f ++ w ∷ []) ≡ j ∷ (g ++ r ∷ []) → f ++ w ∷ [] ≡ g ++ r ∷ []
    tail_same e = cc

longer : (s t : List ℕ) (x y : ℕ) → length s ≡ length t → length (s ++ x ∷ []) ≡ length (t ++ y ∷ [])
longer s t x y e = length-append s (x ∷ []) ∙ ap (λ n. n + 1) e ∙ sym (length-append t (y ∷ []))

-- a joined set among those up to the place k of its later part
pub record JoinsOneOf (grown : List (List ℕ)) (place : ℕ) (f : List ℕ) (x k : ℕ) (s : List ℕ) : Type 0 where
  pub at : ℕ
  pub is_after : place < at
  pub is_before : at < k
  pub row : ℕ
  pub is : s ≡ (f ++ x ∷ []) ++ row ∷ []
  pub partner : get_or grown at [] ≡ f ++ row ∷ []

pub data IsReached (grown : List (List ℕ)) (place : ℕ) (f : List ℕ) (x k : ℕ) (s : List ℕ) : Type 0 where
  by_earlier : ExtendsOneOf grown place s → IsReached grown place f x k s
  by_joining : JoinsOneOf grown place f x k s → IsReached grown place f x k s

module _ (grown : List (List ℕ)) (rows place : ℕ) (f : List ℕ) (x : ℕ) (order : IsInOrder grown) (one_size : IsOfOneSize grown)
    (in_range : place < length grown) (set_is : get_or grown place [] ≡ f ++ x ∷ []) (set_rows : IsSetOfRows 60 (f ++ x ∷ [])) where
  given : (i : ℕ) → i < length grown → Contains grown (get_or grown i [])
  given i p = Contains-get_or grown i [] p

  given_as : (i : ℕ) (s : List ℕ) → i < length grown → get_or grown i [] ≡ s → Contains grown s
  given_as i s p e = subst (Contains grown) e (given i p)

  sets_before : (i j : ℕ) (s t : List ℕ) → i < j → j < length grown → get_or grown i [] ≡ s → get_or grown j [] ≡ t → slice_cmp nat_cmp s t ≡ Less
  sets_before i j s t p q d e =
      let long : length s ≡ length t = one_size s t (given_as i s (omega arith) d) (given_as j t q e) in
      sym (set_cmp-one_size s t long) ∙ (λ k. set_cmp (sym d k) (sym e k)) ∙ order i j [] p q

  -- the later part of a joined set ends in a greater row
  pub row_after : (k row : ℕ) → place < k → k < length grown → get_or grown k [] ≡ f ++ row ∷ [] → x < row
  row_after k row p q e = last_less f x row (sets_before place k (f ++ x ∷ []) (f ++ row ∷ []) p q set_is e)

  without_joint : (row : ℕ) → x < row → without_row x ((f ++ x ∷ []) ++ row ∷ []) ≡ f ++ row ∷ []
  without_joint row p =
      without_row-append x (f ++ x ∷ []) (row ∷ [])
      ∙ (λ k. without_row-last 0 60 f x set_rows.rises k ++ without_row-other x row (λ e. omega arith) k)

  joined_rises : (row : ℕ) → x < row → row ≤ rows → IsSetOfRows rows ((f ++ x ∷ []) ++ row ∷ [])
  joined_rises row p q = record { rises = rises_last 0 60 rows (f ++ x ∷ []) row set_rows.rises below (omega arith) q }
    where
      below : (i : ℕ) → Among i (f ++ x ∷ []) → i < row
      below i a = elim (Among_last_cases i f x a) [ inl b ↦ omega (arith, below_last 0 60 i f x set_rows.rises b) | inr e ↦ omega arith ]

  pub joined_is_next : (k row : ℕ) → place < k → k < length grown → get_or grown k [] ≡ f ++ row ∷ [] → row ≤ rows
      → ((i : ℕ) → Contains f i → Contains grown (without_row i ((f ++ x ∷ []) ++ row ∷ []))) → IsNextOf grown rows ((f ++ x ∷ []) ++ row ∷ [])
  joined_is_next k row p q e small supported =
      let after = row_after k row p q e in
      next_from_without grown rows ((f ++ x ∷ []) ++ row ∷ []) (joined_rises row after small) (omega (arith, length-append (f ++ x ∷ []) (row ∷ []))) (fewer after)
    where
      fewer : x < row → (i : ℕ) → Among i ((f ++ x ∷ []) ++ row ∷ []) → Contains grown (without_row i ((f ++ x ∷ []) ++ row ∷ []))
      fewer after i a =
          elim (Among_last_cases i (f ++ x ∷ []) row a) [
            | inl b ↦ elim (Among_last_cases i f x b) [
              | inl c ↦ supported i (Contains-from_among i f c)
              | inr g ↦ subst (λ j. Contains grown (without_row j ((f ++ x ∷ []) ++ row ∷ []))) (sym g) (subst (Contains grown) (sym (without_joint row after)) (given_as k (f ++ row ∷ []) q e))
            ]
            | inr g ↦ subst (λ j. Contains grown (without_row j ((f ++ x ∷ []) ++ row ∷ []))) (sym g)
                (subst (Contains grown) (sym (without_row-last 0 rows (f ++ x ∷ []) row (joined_rises row after small).rises)) (given_as place (f ++ x ∷ []) in_range set_is))
          ]

  -- what a next set that begins with this one has
  next_row : (row : ℕ) → IsNextOf grown rows ((f ++ x ∷ []) ++ row ∷ []) → (x < row) × (row ≤ rows)
  next_row row n = (
    below_last 0 rows x (f ++ x ∷ []) row n.is_set.rises (Among_last f x),
    (Among_within 0 rows row ((f ++ x ∷ []) ++ row ∷ []) n.is_set.rises (Among_last (f ++ x ∷ []) row)).1,
  )

  pub next_is_supported : (row : ℕ) → IsNextOf grown rows ((f ++ x ∷ []) ++ row ∷ []) → (i : ℕ) → Contains f i → Contains grown (without_row i ((f ++ x ∷ []) ++ row ∷ []))
  next_is_supported row n i c = next_without grown rows ((f ++ x ∷ []) ++ row ∷ []) i n (Among_front i (f ++ x ∷ []) (row ∷ []) (Among_front i f (x ∷ []) (Among-from_contains i f c)))

  next_partner : (row : ℕ) → IsNextOf grown rows ((f ++ x ∷ []) ++ row ∷ []) → Contains grown (f ++ row ∷ [])
  next_partner row n = subst (Contains grown) (without_joint row (next_row row n).0) (next_without grown rows ((f ++ x ∷ []) ++ row ∷ []) x n (Among_front x (f ++ x ∷ []) (row ∷ []) (Among_last f x)))

  -- the later part stands behind the place
  partner_after : (q row : ℕ) → q < length grown → get_or grown q [] ≡ f ++ row ∷ [] → x < row → place < q
  partner_after q row p e after =
      elim (cases_order place q) [
        | inl same ↦ absurd (omega (arith, (same_ends f f x row (sym set_is ∙ ap (λ i. get_or grown i []) same ∙ e)).1))
        | inr (inl less) ↦ less
        | inr (inr more) ↦ absurd (omega (arith, last_less f row x (sets_before q place (f ++ row ∷ []) (f ++ x ∷ []) more in_range e set_is)))
      ]

  set_next : (k row : ℕ) (s : List ℕ) → s ≡ (f ++ x ∷ []) ++ row ∷ [] → IsNextOf grown rows s → IsNextOf grown rows ((f ++ x ∷ []) ++ row ∷ [])
  set_next k row s e n = subst (IsNextOf grown rows) e n

  -- what was reached stands before what is joined at the place k
  reached_before : (k row : ℕ) (s : List ℕ) → place < k → k < length grown → get_or grown k [] ≡ f ++ row ∷ [] → IsReached grown place f x k s → IsBefore s ((f ++ x ∷ []) ++ row ∷ [])
  reached_before k row s p q e (by_earlier r) =
      let long : length (get_or grown r.at []) ≡ length (f ++ x ∷ []) = one_size _ _ (given r.at (omega (arith, r.is_before))) (given_as place (f ++ x ∷ []) in_range set_is) in
      let less = slice_cmp-append (get_or grown r.at []) (f ++ x ∷ []) (r.row ∷ []) (row ∷ []) long (sets_before r.at place (get_or grown r.at []) (f ++ x ∷ []) r.is_before in_range refl set_is) in
      subst (λ u. IsBefore u ((f ++ x ∷ []) ++ row ∷ [])) (sym r.is) (set_cmp-one_size (get_or grown r.at [] ++ r.row ∷ []) ((f ++ x ∷ []) ++ row ∷ []) (longer _ _ r.row row long) ∙ less)
  reached_before k row s p q e (by_joining r) =
      let less = last_less f r.row row (sets_before r.at k (f ++ r.row ∷ []) (f ++ row ∷ []) r.is_before q r.partner e) in
      subst (λ u. IsBefore u ((f ++ x ∷ []) ++ row ∷ [])) (sym r.is) (set_cmp-one_size ((f ++ x ∷ []) ++ r.row ∷ []) ((f ++ x ∷ []) ++ row ∷ []) (longer (f ++ x ∷ []) (f ++ x ∷ []) r.row row refl) ∙ slice_cmp-last (f ++ x ∷ []) r.row row less)

  reached_more : (k j : ℕ) (s : List ℕ) → k ≤ j → IsReached grown place f x k s → IsReached grown place f x j s
  reached_more k j s p (by_earlier r) = by_earlier r
  reached_more k j s p (by_joining r) = by_joining (record { at = r.at; is_after = r.is_after; is_before = omega (arith, r.is_before); row = r.row; is = r.is; partner = r.partner })

  -- what one more place reaches
  reached_cases : (k row : ℕ) (s : List ℕ) → get_or grown k [] ≡ f ++ row ∷ [] → IsReached grown place f x (k + 1) s → IsReached grown place f x k s ⊎ (s ≡ (f ++ x ∷ []) ++ row ∷ [])
  reached_cases k row s e (by_earlier r) = inl (by_earlier r)
  reached_cases k row s e (by_joining r) =
      elim (cases_eq r.at k) [
        | inl g ↦ inr (r.is ∙ ap (λ i. (f ++ x ∷ []) ++ i ∷ []) (same_ends f f r.row row (sym r.partner ∙ ap (λ i. get_or grown i []) g ∙ e)).1)
        | inr g ↦ inl (by_joining (record { at = r.at; is_after = r.is_after; is_before = omega (arith, r.is_before); row = r.row; is = r.is; partner = r.partner }))
      ]

  pub join_pushed : (k row : ℕ) (level : List (List ℕ)) (joined : List ℕ) → place < k → k < length grown → get_or grown k [] ≡ f ++ row ∷ [] → row ≤ rows → joined ≡ (f ++ x ∷ []) ++ row ∷ []
      → ((i : ℕ) → Contains f i → Contains grown (without_row i joined)) → HoldsNext (IsReached grown place f x k) grown rows level → HoldsNext (IsReached grown place f x (k + 1)) grown rows (level ++ joined ∷ [])
  join_pushed k row level joined p q e small is supported h = record {
    in_order = all_pairs_push IsBefore level joined h.in_order (λ m d l. subst (IsBefore (get_or level m d)) (sym is) (reached_before k row (get_or level m d) p q e (h.are_next (get_or level m d) (Contains-get_or level m d l)).1));
    are_next = λ s c. elim (Contains-push_cases level joined s c) [
      | inl a ↦ let n = h.are_next s a in (n.0, reached_more k (k + 1) s (omega arith) n.1)
      | inr g ↦ subst (λ u. IsNextOf grown rows u × IsReached grown place f x (k + 1) u) g (joined_next, by_joining joins)
    ];
    complete = λ s n r. elim (reached_cases k row s e r) [
      | inl old ↦ Contains-append_left level (joined ∷ []) s (h.complete s n old)
      | inr new ↦ subst (Contains (level ++ joined ∷ [])) (is ∙ sym new) (Contains-push level joined)
    ];
  }
    where
      joined_next : IsNextOf grown rows joined
      joined_next = subst (IsNextOf grown rows) (sym is) (joined_is_next k row p q e small (λ i c. subst (λ u. Contains grown (without_row i u)) is (supported i c)))

      joins : JoinsOneOf grown place f x (k + 1) joined
      joins = record { at = k; is_after = p; is_before = omega arith; row = row; is = is; partner = e }

  pub join_skipped : (k row : ℕ) (level : List (List ℕ)) (joined : List ℕ) → get_or grown k [] ≡ f ++ row ∷ [] → joined ≡ (f ++ x ∷ []) ++ row ∷ []
      → (((i : ℕ) → Contains f i → Contains grown (without_row i joined)) → ⊥) → HoldsNext (IsReached grown place f x k) grown rows level → HoldsNext (IsReached grown place f x (k + 1)) grown rows level
  join_skipped k row level joined e is unsupported h = record {
    in_order = h.in_order;
    are_next = λ s c. let n = h.are_next s c in (n.0, reached_more k (k + 1) s (omega arith) n.1);
    complete = λ s n r. elim (reached_cases k row s e r) [
      | inl old ↦ h.complete s n old
      | inr new ↦ absurd (unsupported (λ i c. subst (λ u. Contains grown (without_row i u)) (sym is) (next_is_supported row (set_next k row s new n) i c)))
    ];
  }

  pub join_started : (level : List (List ℕ)) → HoldsNext (ExtendsOneOf grown place) grown rows level → HoldsNext (IsReached grown place f x (place + 1)) grown rows level
  join_started level h = record {
    in_order = h.in_order;
    are_next = λ s c. let n = h.are_next s c in (n.0, by_earlier n.1);
    complete = λ s n r. elim r [ by_earlier e ↦ h.complete s n e | by_joining j ↦ absurd (omega (arith, j.is_after, j.is_before)) ];
  }

  -- no later set can be joined
  pub join_finished : (k : ℕ) (level : List (List ℕ)) → ((q row : ℕ) → k ≤ q → q < length grown → get_or grown q [] ≡ f ++ row ∷ [] → x < row → row ≤ rows → ⊥)
      → HoldsNext (IsReached grown place f x k) grown rows level → HoldsNext (ExtendsOneOf grown (place + 1)) grown rows level
  join_finished k level none h = record {
    in_order = h.in_order;
    are_next = λ s c. let n = h.are_next s c in (n.0, extended s n.1);
    complete = λ s n r. h.complete s n (reached s n r);
  }
    where
      extended : (s : List ℕ) → IsReached grown place f x k s → ExtendsOneOf grown (place + 1) s
      extended s (by_earlier r) = record { at = r.at; is_before = omega (arith, r.is_before); row = r.row; is = r.is }
      extended s (by_joining r) = record { at = place; is_before = omega arith; row = r.row; is = r.is ∙ ap (λ u. u ++ r.row ∷ []) (sym set_is) }

      by_partner : (s : List ℕ) (row : ℕ) → IsNextOf grown rows s → s ≡ (f ++ x ∷ []) ++ row ∷ [] → Contains grown (f ++ row ∷ []) → IsReached grown place f x k s
      by_partner s row n e (q, p, g) =
          let next = next_row row (set_next k row s e n) in
          let partner : get_or grown q [] ≡ f ++ row ∷ [] = get_or_default grown q [] (f ++ row ∷ []) p ∙ g in
          let after = partner_after q row p partner next.0 in
          elim (cases_lt q k) [
            | inl l ↦ by_joining (record { at = q; is_after = after; is_before = l; row = row; is = e; partner = partner })
            | inr l ↦ absurd (none q row l p partner next.0 next.1)
          ]

      reached : (s : List ℕ) → IsNextOf grown rows s → ExtendsOneOf grown (place + 1) s → IsReached grown place f x k s
      reached s n r =
          elim (cases_eq r.at place) [
            | inl g ↦ let e : s ≡ (f ++ x ∷ []) ++ r.row ∷ [] = r.is ∙ ap (λ u. u ++ r.row ∷ []) (ap (λ i. get_or grown i []) g ∙ set_is) in
                by_partner s r.row n e (next_partner r.row (set_next k r.row s e n))
            | inr g ↦ by_earlier (record { at = r.at; is_before = omega (arith, r.is_before); row = r.row; is = r.is })
          ]

  pub join_ended : (k : ℕ) (level : List (List ℕ)) → length grown ≤ k → HoldsNext (IsReached grown place f x k) grown rows level → HoldsNext (ExtendsOneOf grown (place + 1)) grown rows level
  join_ended k level p h = join_finished k level (λ q row l m _ _ _. omega arith) h

  pub join_left : (k row : ℕ) (g : List ℕ) (level : List (List ℕ)) → place < k → k < length grown → get_or grown k [] ≡ g ++ row ∷ [] → (rows < row) ⊎ (g ≡ f → ⊥)
      → HoldsNext (IsReached grown place f x k) grown rows level → HoldsNext (ExtendsOneOf grown (place + 1)) grown rows level
  join_left k row g level p q e apart h = join_finished k level none h
    where
      up_to : (m last : ℕ) → k ≤ m → m < length grown → get_or grown m [] ≡ f ++ last ∷ [] → (slice_cmp nat_cmp (get_or grown k []) (f ++ last ∷ []) ≡ Less) ⊎ (get_or grown k [] ≡ f ++ last ∷ [])
      up_to m last l r d = elim (cases_eq k m) [
        | inl same ↦ inr (ap (λ i. get_or grown i []) same ∙ d)
        | inr other ↦ inl (sets_before k m (get_or grown k []) (f ++ last ∷ []) (omega arith) r refl d)
      ]

      none : (m last : ℕ) → k ≤ m → m < length grown → get_or grown m [] ≡ f ++ last ∷ [] → x < last → last ≤ rows → ⊥
      none m last l r d after small =
          let long : length (get_or grown k []) ≡ length (f ++ x ∷ []) = one_size _ _ (given k q) (given_as place (f ++ x ∷ []) in_range set_is) in
          let (w, is, above, below) = between f x last (get_or grown k []) (sets_before place k (f ++ x ∷ []) (get_or grown k []) p q set_is refl) (up_to m last l r d) (omega (arith, length-append f (x ∷ []))) in
          let ends = same_ends f g w row (sym is ∙ e) in
          elim apart [ inl big ↦ omega (arith, ends.1) | inr other ↦ other (sym ends.0) ]
