-- Pieces of a tree that are divided, built and put together.
use Rattle.std.proofs.Common.{◌≡◌, ℕ, zero, suc, ◌+◌, ◌<◌, Vec, Global, Result, Ok, Err, IfOk, IfErr, List, [], ◌∷◌, ◌++◌, length, refl, sym, ◌∙◌, ap, subst, subst₂, arith, ◌⊎◌, inl, inr, Some, slice_get}
use Rattle.std.specs.Prelude.{All, slice_set}
use Rattle.std.specs.List.{AllZip}
use Rattle.std.proofs.lemmas.List.{append-nil, append_assoc, length-append}
use Rattle.std.proofs.lemmas.List.Elements.{All-cons, All-head, All-tail, All-weaker}
use Rattle.std.proofs.lemmas.Option.{slice_get_within}
use Rattle.mpc_frac.specs.declared.NoMemory.{NoMemory as NoRoom}
use Rattle.mpc_linear.specs.declared.integers.RowInt.{RowInt}
use Rattle.mpc_rows.specs.declared.programs.Qp.{Qp}
use Rattle.mpc_rows.specs.declared.laws.Law.{Law}
use Rattle.mpc_rows.specs.declared.places.Place.{Place}
use Rattle.mpc_rows.specs.declared.trees.Node.{Node}
use Rattle.mpc_rows.specs.declared.trees.Node.TheVariants.{Split}
use Rattle.mpc_tree.specs.declared.errors.TreeError.{TreeError}
use Rattle.mpc_tree.specs.declared.errors.TreeError.TheVariants.{Wide, NoMemory}
use Rattle.mpc_tree.specs.declared.frontier.Piece.{Piece}
use Rattle.mpc_tree.specs.declared.frontier.Piece.TheVariants.{Closed, Open, Refused}
use Rattle.mpc_tree.specs.declared.runs.OpenCell.{OpenCell}
use Rattle.mpc_tree.specs.declared.threads.Drawn.{Drawn}
use Rattle.mpc_tree.specs.Causes.{IfWide}
use Rattle.mpc_tree.specs.Growth.{IsBuilt, IsLeafAt, cell_of}
use Rattle.mpc_tree.specs.NodeRuns.{DividesAndFits, EndsAndFits, IsFittingTree}
use Rattle.mpc_tree.specs.Pieces.{EndsRefused, IsOpen, IsOfPiece, IsWideIn, AreFilled, IsWideAmong, IsFiner, Becomes, IsDrawn, with_drawn}
use Rattle.mpc_tree.specs.Trees.{yes_side, no_side, leaf, split}
use Rattle.mpc_tree.specs.WideRuns.{IsFirstWide, IsWideAt, here, in_yes, in_no}
use Rattle.mpc_tree.proofs.Joining.{first_behind}
use Rattle.mpc_tree.proofs.TreeLemmas.{weakened}

module _ (qp : Qp) (laws : List Law) where
  -- ---- other pieces behind some
  filled_behind : (done a b : List Piece) → ((nodes : List Node) → AreFilled qp laws a nodes → AreFilled qp laws b nodes) → (nodes : List Node) → AreFilled qp laws (done ++ a) nodes → AreFilled qp laws (done ++ b) nodes
  filled_behind [] a b h nodes f = h nodes f
  filled_behind (p ∷ ps) a b h nodes f = (f.0, f.1, f.2, f.3, filled_behind ps a b h f.1 f.4)

  wide_behind : (done a b : List Piece) → ((number : ℕ) (place : Place) → IsWideAmong qp laws a number place → IsWideAmong qp laws b number place) → (number : ℕ) (place : Place) → IsWideAmong qp laws (done ++ a) number place → IsWideAmong qp laws (done ++ b) number place
  wide_behind [] a b h number place w = h number place w
  wide_behind (p ∷ ps) a b h number place (inl w) = inl w
  wide_behind (p ∷ ps) a b h number place (inr w) = inr (w.0, w.1, wide_behind ps a b h (number + length w.0) place w.2)

  -- ---- pieces in two parts
  filled_parts : (a b : List Piece) (nodes : List Node) → AreFilled qp laws (a ++ b) nodes → (m : List Node) × (n : List Node) × (nodes ≡ m ++ n) × AreFilled qp laws a m × AreFilled qp laws b n
  filled_parts [] b nodes f = ([], nodes, refl, refl, f)
  filled_parts (p ∷ ps) b nodes f =
      let r = filled_parts ps b f.1 f.4 in
      (f.0 ++ r.0, r.1, f.2 ∙ ap (λ l. f.0 ++ l) r.2 ∙ sym (append_assoc f.0 r.0 r.1), (f.0, r.0, refl, f.3, r.3), r.4)

  wide_parts : (a b : List Piece) (number : ℕ) (place : Place) → IsWideAmong qp laws (a ++ b) number place → IsWideAmong qp laws a number place ⊎ ((m : List Node) × AreFilled qp laws a m × IsWideAmong qp laws b (number + length m) place)
  wide_parts [] b number place w = inr ([], refl, subst (λ n. IsWideAmong qp laws b n place) (omega arith) w)
  wide_parts (p ∷ ps) b number place (inl w) = inl (inl w)
  wide_parts (p ∷ ps) b number place (inr w) = by (wide_parts ps b (number + length w.0) place w.2)
    where
      by : IsWideAmong qp laws ps (number + length w.0) place ⊎ ((m : List Node) × AreFilled qp laws ps m × IsWideAmong qp laws b (number + length w.0 + length m) place) → IsWideAmong qp laws (p ∷ ps) number place ⊎ ((m : List Node) × AreFilled qp laws (p ∷ ps) m × IsWideAmong qp laws b (number + length m) place)
      by (inl v) = inl (inr (w.0, w.1, v))
      by (inr v) = inr (w.0 ++ v.0, (w.0, v.0, refl, w.1, v.1), subst (λ n. IsWideAmong qp laws b n place) (omega (arith, length-append w.0 v.0)) v.2)

  -- ---- finer pieces
  pub finer_same : (pieces : List Piece) → IsFiner qp laws pieces pieces
  finer_same pieces = record { filled = λ nodes f. f; wide = λ number place w. w }

  pub finer_then : (a b c : List Piece) → IsFiner qp laws a b → IsFiner qp laws b c → IsFiner qp laws a c
  finer_then a b c g h = record { filled = λ nodes f. g.filled nodes (h.filled nodes f); wide = λ number place w. g.wide number place (h.wide number place w) }

  -- ---- pieces as far as a refused cell
  none_filled : (front : List Piece) (own : Place) (nodes : List Node) → ¬ AreFilled qp laws (front ++ Refused own ∷ []) nodes
  none_filled [] own nodes f = f.3
  none_filled (p ∷ ps) own nodes f = none_filled ps own f.1 f.4

  wide_before : (a b : List Piece) (number : ℕ) (place : Place) → IsWideAmong qp laws a number place → IsWideAmong qp laws (a ++ b) number place
  wide_before [] b number place w = absurd w
  wide_before (p ∷ ps) b number place (inl w) = inl w
  wide_before (p ∷ ps) b number place (inr w) = inr (w.0, w.1, wide_before ps b (number + length w.0) place w.2)

  pub finer_refused : (whole done rest : List Piece) → EndsRefused done → IsFiner qp laws whole (done ++ rest) → IsFiner qp laws whole done
  finer_refused whole done rest ends g = finer_then whole (done ++ rest) done g (record {
    filled = λ nodes f. absurd (none_filled ends.0 ends.1 nodes (subst (λ d. AreFilled qp laws d nodes) ends.2 f));
    wide = wide_before done rest;
  })

  alone : (x : Piece) (nodes : List Node) → AreFilled qp laws (x ∷ []) nodes → IsOfPiece qp laws x nodes
  alone x nodes f = subst (IsOfPiece qp laws x) (sym (f.2 ∙ ap (λ l. f.0 ++ l) f.4 ∙ append-nil f.0)) f.3

  alone_wide : (x : Piece) (number : ℕ) (place : Place) → IsWideAmong qp laws (x ∷ []) number place → IsWideIn qp laws x number place
  alone_wide x number place (inl w) = w
  alone_wide x number place (inr w) = absurd w.2

  finer_front : (x : Piece) (new rest : List Piece) → IsFiner qp laws (x ∷ []) new → IsFiner qp laws (x ∷ rest) (new ++ rest)
  finer_front x new rest h = record {
    filled = λ nodes f. let s = filled_parts new rest nodes f in (s.0, s.1, s.2, alone x s.0 (h.filled s.0 s.3), s.4);
    wide = λ number place w. by number place (wide_parts new rest number place w);
  }
    where
      by : (number : ℕ) (place : Place) → IsWideAmong qp laws new number place ⊎ ((m : List Node) × AreFilled qp laws new m × IsWideAmong qp laws rest (number + length m) place) → IsWideAmong qp laws (x ∷ rest) number place
      by number place (inl v) = inl (alone_wide x number place (h.wide number place v))
      by number place (inr v) = inr (v.0, alone x v.0 (h.filled v.0 v.1), v.2)

  -- ---- pieces in two parts that are both finer
  filled_both : (a b : List Piece) (m n : List Node) → AreFilled qp laws a m → AreFilled qp laws b n → AreFilled qp laws (a ++ b) (m ++ n)
  filled_both [] b m n f g = subst (λ l. AreFilled qp laws b (l ++ n)) (sym f) g
  filled_both (p ∷ ps) b m n f g = (f.0, f.1 ++ n, ap (λ l. l ++ n) f.2 ∙ append_assoc f.0 f.1 n, f.3, filled_both ps b f.1 n f.4 g)

  wide_after : (a b : List Piece) (m : List Node) (number : ℕ) (place : Place) → AreFilled qp laws a m → IsWideAmong qp laws b (number + length m) place → IsWideAmong qp laws (a ++ b) number place
  wide_after [] b m number place f w = (let none : length m ≡ 0 = ap length f in subst (λ n. IsWideAmong qp laws b n place) (omega (arith, none)) w)
  wide_after (p ∷ ps) b m number place f w =
      let both : length m ≡ length f.0 + length f.1 = ap length f.2 ∙ length-append f.0 f.1 in
      inr (f.0, f.3, wide_after ps b f.1 (number + length f.0) place f.4 (subst (λ n. IsWideAmong qp laws b n place) (omega (arith, both)) w))

  pub finer_both : (a b c d : List Piece) → IsFiner qp laws a b → IsFiner qp laws c d → IsFiner qp laws (a ++ c) (b ++ d)
  finer_both a b c d g h = record {
    filled = λ nodes f. let s = filled_parts b d nodes f in subst (AreFilled qp laws (a ++ c)) (sym s.2) (filled_both a c s.0 s.1 (g.filled s.0 s.3) (h.filled s.1 s.4));
    wide = λ number place w. by number place (wide_parts b d number place w);
  }
    where
      by : (number : ℕ) (place : Place) → IsWideAmong qp laws b number place ⊎ ((m : List Node) × AreFilled qp laws b m × IsWideAmong qp laws d (number + length m) place) → IsWideAmong qp laws (a ++ c) number place
      by number place (inl v) = wide_before a c number place (g.wide number place v)
      by number place (inr v) = wide_after a c v.0 number place (g.filled v.0 v.1) (h.wide (number + length v.0) place v.2)

  -- a piece between others
  pub finer_between : (whole done new rest : List Piece) (x : Piece) → IsFiner qp laws whole (done ++ x ∷ rest) → IsFiner qp laws (x ∷ []) new → IsFiner qp laws whole ((done ++ new) ++ rest)
  finer_between whole done new rest x g h =
      let front = finer_front x new rest h in
      subst (IsFiner qp laws whole) (sym (append_assoc done new rest)) (finer_then whole (done ++ x ∷ rest) (done ++ (new ++ rest)) g (record {
        filled = filled_behind done (new ++ rest) (x ∷ rest) front.filled;
        wide = wide_behind done (new ++ rest) (x ∷ rest) front.wide;
      }))

  -- ---- a cell that is divided
  module _ (parent : OpenCell) where
    whole : (nodes : List Node) → IsBuilt qp laws (cell_of parent) nodes → AreFilled qp laws (Open parent ∷ []) nodes
    whole nodes b = (nodes, [], sym (append-nil nodes), b, refl)

    pub of_whole : (nodes : List Node) → AreFilled qp laws (Open parent ∷ []) nodes → IsBuilt qp laws (cell_of parent) nodes
    of_whole nodes f = alone (Open parent) nodes f

    pub wide_whole : (pieces : List Piece) → IsFiner qp laws (Open parent ∷ []) pieces → (tree : Result (List Node) TreeError) → IfErr tree (λ e. IfWide e (IsWideAmong qp laws pieces 1)) → IfErr tree (λ e. IfWide e (IsFirstWide qp laws (cell_of parent) 1))
    wide_whole pieces g (Ok nodes) w = tt
    wide_whole pieces g (Err (Wide place)) w = alone_wide (Open parent) 1 place (g.wide 1 place w)
    wide_whole pieces g (Err NoMemory) w = tt

    module _ (place : ℕ) (row : RowInt) (d : DividesAndFits qp laws (cell_of parent) place row) (yes no : OpenCell) (yes_is : cell_of yes ≡ yes_side (cell_of parent) place row) (no_is : cell_of no ≡ no_side (cell_of parent) place row) where
      yes_built : (nodes : List Node) → IsBuilt qp laws (cell_of yes) nodes → IsBuilt qp laws (yes_side (cell_of parent) place row) nodes
      yes_built nodes b = subst (λ c. IsBuilt qp laws c nodes) yes_is b

      both : (nodes left right : List Node) → nodes ≡ Split row ∷ (left ++ right) → IsBuilt qp laws (cell_of yes) left → IsBuilt qp laws (cell_of no) right → IsBuilt qp laws (cell_of parent) nodes
      both nodes left right e b c = subst (IsBuilt qp laws (cell_of parent)) (sym e) (split (cell_of parent) place row left right d (yes_built left b) (subst (λ c. IsBuilt qp laws c right) no_is c))

      fits : (left : List Node) → IsBuilt qp laws (cell_of yes) left → IsFittingTree qp laws (yes_side (cell_of parent) place row) left
      fits left b = weakened (DividesAndFits qp laws) (DividesAndFits qp laws) (IsLeafAt qp laws) (EndsAndFits qp laws) (λ c p r h. h) (λ c n h. h.ends) (yes_side (cell_of parent) place row) left (yes_built left b)

      split_filled : (nodes : List Node) → AreFilled qp laws (Closed (Split row ∷ []) ∷ Open yes ∷ Open no ∷ []) nodes → AreFilled qp laws (Open parent ∷ []) nodes
      split_filled nodes f =
          let right = alone (Open no) f.4.1 f.4.4 in
          whole nodes (both nodes f.4.0 f.4.1 (f.2 ∙ ap (λ l. l ++ f.1) f.3 ∙ ap (λ l. Split row ∷ l) f.4.2) f.4.3 right)

      split_wide : (number : ℕ) (at : Place) → IsWideAmong qp laws (Closed (Split row ∷ []) ∷ Open yes ∷ Open no ∷ []) number at → IsWideAmong qp laws (Open parent ∷ []) number at
      split_wide number at (inl w) = absurd w
      split_wide number at (inr w) = by w.2
        where
          first : length w.0 ≡ 1
          first = ap length w.1

          by : IsWideAmong qp laws (Open yes ∷ Open no ∷ []) (number + length w.0) at → IsWideAmong qp laws (Open parent ∷ []) number at
          by (inl v) = inl (in_yes (cell_of parent) number place row at d (subst (λ k. IsFirstWide qp laws (yes_side (cell_of parent) place row) (number + k) at) first (subst (λ c. IsFirstWide qp laws c (number + length w.0) at) yes_is v)))
          by (inr v) = inl (in_no (cell_of parent) number place row v.0 at d (fits v.0 v.1)
              (subst (λ k. IsFirstWide qp laws (no_side (cell_of parent) place row) (number + k + length v.0) at) first
              (subst (λ c. IsFirstWide qp laws c (number + length w.0 + length v.0) at) no_is (alone_wide (Open no) (number + length w.0 + length v.0) at v.2))))

      pub finer_split : IsFiner qp laws (Open parent ∷ []) (Closed (Split row ∷ []) ∷ Open yes ∷ Open no ∷ [])
      finer_split = record { filled = split_filled; wide = split_wide }

  -- ---- cells that have become other pieces
  pub tree_becomes : (o : OpenCell) (tree : List Node) → IsBuilt qp laws (cell_of o) tree → Becomes qp laws (Open o) (Closed tree)
  tree_becomes o tree b = record {
    nodes = λ nodes e. subst (IsBuilt qp laws (cell_of o)) (sym e) b;
    wide = λ number place w. absurd w;
    left = λ own e. absurd (cc);
  }

  pub leaf_becomes : (o : OpenCell) (node : Node) → IsLeafAt qp laws (cell_of o) node → Becomes qp laws (Open o) (Closed (node ∷ []))
  leaf_becomes o node l = tree_becomes o (node ∷ []) (leaf (cell_of o) node l)

  pub refusal_becomes : (o : OpenCell) (own : Place) → IsFirstWide qp laws (cell_of o) 1 own → Becomes qp laws (Open o) (Refused own)
  refusal_becomes o own w = record {
    nodes = λ nodes f. absurd f;
    wide = λ number place v.
        let same : 1 + v.0 ≡ number = omega (arith, v.1) in
        subst₂ (IsFirstWide qp laws (cell_of o)) same (sym v.2) (first_behind qp laws v.0 (cell_of o) 1 own w);
    left = λ own e. absurd (cc);
  }

  pub node_refused : (o : OpenCell) (own : Place) → IsWideAt qp laws (cell_of o) 1 own → Becomes qp laws (Open o) (Refused own)
  node_refused o own w = refusal_becomes o own (here (cell_of o) 1 own w)

  becomes_same : (x : Piece) → Becomes qp laws x x
  becomes_same x = record { nodes = λ nodes o. o; wide = λ number place w. w; left = λ own e. e }

  abbrev pub AllBecome : List Piece → List Piece → Type 0
  AllBecome before now = AllZip (Becomes qp laws) before now

  pub become_same : (pieces : List Piece) → AllBecome pieces pieces
  become_same [] = tt
  become_same (p ∷ ps) = (becomes_same p, become_same ps)

  become_filled : (before now : List Piece) → AllBecome before now → (nodes : List Node) → AreFilled qp laws now nodes → AreFilled qp laws before nodes
  become_filled [] [] h nodes f = f
  become_filled [] (y ∷ ys) h nodes f = absurd h
  become_filled (x ∷ xs) [] h nodes f = absurd h
  become_filled (x ∷ xs) (y ∷ ys) h nodes f = (f.0, f.1, f.2, h.0.nodes f.0 f.3, become_filled xs ys h.1 f.1 f.4)

  become_wide : (before now : List Piece) → AllBecome before now → (number : ℕ) (place : Place) → IsWideAmong qp laws now number place → IsWideAmong qp laws before number place
  become_wide [] [] h number place w = absurd w
  become_wide [] (y ∷ ys) h number place w = absurd h
  become_wide (x ∷ xs) [] h number place w = absurd h
  become_wide (x ∷ xs) (y ∷ ys) h number place (inl w) = inl (h.0.wide number place w)
  become_wide (x ∷ xs) (y ∷ ys) h number place (inr w) = inr (w.0, h.0.nodes w.0 w.1, become_wide xs ys h.1 (number + length w.0) place w.2)

  pub become_finer : (before now : List Piece) → AllBecome before now → IsFiner qp laws before now
  become_finer before now h = record { filled = become_filled before now h; wide = become_wide before now h }

  -- a piece alone
  pub finer_one : (x y : Piece) → Becomes qp laws x y → IsFiner qp laws (x ∷ []) (y ∷ [])
  finer_one x y b = become_finer (x ∷ []) (y ∷ []) (b, tt)

  still_open : (x y : Piece) → Becomes qp laws x y → IsOpen qp laws x → IsOpen qp laws y
  still_open x (Closed nodes) b h = tt
  still_open x (Open o) b h = subst (IsOpen qp laws) (b.left o refl) h
  still_open x (Refused place) b h = tt

  pub become_open : (before now : List Piece) → AllBecome before now → All (IsOpen qp laws) before → All (IsOpen qp laws) now
  become_open [] [] h o = o
  become_open [] (y ∷ ys) h o = absurd h
  become_open (x ∷ xs) [] h o = absurd h
  become_open (x ∷ xs) (y ∷ ys) h o =
      All-cons (IsOpen qp laws) y ys (still_open x y h.0 (All-head (IsOpen qp laws) x xs o)) (become_open xs ys h.1 (All-tail (IsOpen qp laws) x xs o))

  laid_at : (before now : List Piece) (i : ℕ) (x y : Piece) → slice_get before i ≡ Some x → Becomes qp laws x y → AllBecome before now → AllBecome before (slice_set now i y)
  laid_at [] now i x y is b h = absurd (cc)
  laid_at (p ∷ ps) [] i x y is b h = absurd h
  laid_at (p ∷ ps) (q ∷ qs) zero x y is b h = (subst (λ z. Becomes qp laws z y) (cc) b, h.1)
  laid_at (p ∷ ps) (q ∷ qs) (suc i) x y is b h = (h.0, laid_at ps qs i x y is b h.1)

  pub all_laid : (before now : List Piece) (drawn : List Drawn) → All (IsDrawn qp laws before) drawn → AllBecome before now → AllBecome before (with_drawn now drawn)
  all_laid before now [] a h = h
  all_laid before now (d ∷ ds) a h =
      let own = All-head (IsDrawn qp laws before) d ds a in
      all_laid before (slice_set now d.piece d.built) ds (All-tail (IsDrawn qp laws before) d ds a) (laid_at before now d.piece own.piece d.built own.is own.becomes h)

  become_length : (before now : List Piece) → AllBecome before now → length before ≡ length now
  become_length [] [] h = refl
  become_length [] (y ∷ ys) h = absurd h
  become_length (x ∷ xs) [] h = absurd h
  become_length (x ∷ xs) (y ∷ ys) h = ap suc (become_length xs ys h.1)

  -- what one thread has drawn
  abbrev pub IsHand : List Piece → Result (Vec Drawn Global) NoRoom → Type 0
  IsHand pieces hand = IfOk hand (λ drawn. All (IsDrawn qp laws pieces) drawn.items)

  pub hand_within : (before now : List Piece) → AllBecome before now → (drawn : List Drawn) → All (IsDrawn qp laws before) drawn → All (λ d. d.piece < length now) drawn
  hand_within before now h drawn a = All-weaker (IsDrawn qp laws before) (λ (d : Drawn). d.piece < length now)
      (λ d own. subst (λ n. d.piece < n) (become_length before now h) (slice_get_within before d.piece own.piece own.is)) drawn a
