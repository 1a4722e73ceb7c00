-- Histories that grow piece by piece.
use Rattle.std.proofs.Common.{◌≡◌, ℕ, ◌+◌, ◌-◌, ◌<◌, List, [], ◌∷◌, ◌++◌, length, take, drop, Option, None, Some, refl, sym, ap, ⊎_elim, subst, ◌∙◌, arith, append-nil, append_assoc, length-append, length-drop, length-take, take-append-drop, take_all}
use Rattle.std.specs.Prelude.{IfSome, min}
use Rattle.std.specs.List.{concat}
use Rattle.std.specs.Io.KnownBytes.{Consumes, Keeps, IsAtEnd}
use Rattle.std.proofs.KnownBytes.{Consumes-nil, Consumes-trans, Consumes-kept}
use Rattle.std.proofs.lemmas.List.{nil_from_length}
use Rattle.std.proofs.lemmas.List.Elements.{Contains-push_cases, Contains-append_cases}
use Rattle.std.proofs.lemmas.List.Folds.{concat-append}
use Rattle.std.proofs.Math.Seq.{take-add}
use lib.Seq.{drop-drop, take-append-le}
use Rattle.mpc_port.specs.Passing.{Passed, PassedToEnd, IsDrawn}

pub concat_one_more : (pieces : List (List ℕ)) (piece : List ℕ) → concat (pieces ++ piece ∷ []) ≡ concat pieces ++ piece
concat_one_more pieces piece = concat-append pieces (piece ∷ []) ∙ ap (λ l. concat pieces ++ l) (append-nil piece)

-- ---- the bytes that passed
pub none_passed : (a : List (List ℕ)) → Passed a a []
none_passed a = record { pieces = []; came = sym (append-nil a); whole = refl }

-- one piece more
passed_more : (a b c : List (List ℕ)) (bytes piece : List ℕ) → Passed a b bytes → c ≡ b ++ piece ∷ [] → Passed a c (bytes ++ piece)
passed_more a b c bytes piece h more = record {
  pieces = h.pieces ++ piece ∷ [];
  came = more ∙ ap (λ l. l ++ piece ∷ []) h.came ∙ append_assoc a h.pieces (piece ∷ []);
  whole = concat_one_more h.pieces piece ∙ ap (λ l. l ++ piece) h.whole;
}

-- the bytes in a buffer whose front stays
pub passed_into : (a b c : List (List ℕ)) (old new : List ℕ) (filled count : ℕ) → take filled new ≡ take filled old → Passed a b (take filled old) → c ≡ b ++ take count (drop filled new) ∷ []
    → Passed a c (take (filled + count) new)
passed_into a b c old new filled count front before more =
    let joined : take (filled + count) new ≡ take filled old ++ take count (drop filled new) =
    take-add filled count new ∙ ap (λ l. l ++ take count (drop filled new)) front in
    rw joined (passed_more a b c _ _ before more)

-- nothing more
pub passed_kept : (a b c : List (List ℕ)) (bytes : List ℕ) → Passed a b bytes → c ≡ b → Passed a c bytes
passed_kept a b c bytes h same = record { pieces = h.pieces; came = same ∙ h.came; whole = h.whole }

-- and the end
pub passed_end : (a b c : List (List ℕ)) (bytes piece : List ℕ) → Passed a b bytes → c ≡ b ++ piece ∷ [] → piece ≡ [] → PassedToEnd a c bytes
passed_end a b c bytes piece h more none = record { before_end = b; passed = h; ended = more ∙ ap (λ p. b ++ p ∷ []) none }

pub passed_of_end : (a c : List (List ℕ)) (bytes : List ℕ) → PassedToEnd a c bytes → Passed a c bytes
passed_of_end a c bytes h = subst (Passed a c) (append-nil bytes) (passed_more a h.before_end c bytes [] h.passed h.ended)

-- ---- what was left
-- at the end all that was left came
came_whole : (a b : Option (List ℕ)) (bytes : List ℕ) → Consumes a b bytes → IsAtEnd b → IfSome a (λ all. all ≡ bytes)
came_whole None b bytes came ended = tt
came_whole (Some x) None bytes came ended = absurd came
came_whole (Some x) (Some y) bytes came ended = came ∙ ap (λ l. bytes ++ l) ended ∙ append-nil bytes

came_more : (a b c : Option (List ℕ)) (bytes more : List ℕ) → Consumes a b bytes → Consumes b c more → IfSome a (λ all. all ≡ bytes) → IfSome a (λ all. all ≡ bytes ++ more)
came_more None b c bytes more came next whole = tt
came_more (Some x) None c bytes more came next whole = absurd came
came_more (Some x) (Some y) None bytes more came next whole = absurd next
came_more (Some x) (Some y) (Some z) bytes more came next whole =
    let none : length more ≡ 0 = omega (arith, ap length came ∙ length-append bytes y, ap length whole, ap length next ∙ length-append more z) in
    whole ∙ sym (append-nil bytes) ∙ ap (λ l. bytes ++ l) (sym (nil_from_length more none))

came_last : (a b : Option (List ℕ)) (bytes more : List ℕ) → Consumes a b bytes → IfSome b (λ all. all ≡ more) → IfSome a (λ all. all ≡ bytes ++ more)
came_last None b bytes more came whole = tt
came_last (Some x) None bytes more came whole = absurd came
came_last (Some x) (Some y) bytes more came whole = came ∙ ap (λ l. bytes ++ l) whole

pub drawn_kept : (left left_after : Option (List ℕ)) (given given_after : List (List ℕ)) → Keeps left left_after → given_after ≡ given → IsDrawn left left_after given given_after
drawn_kept left left_after given given_after kept same = record {
  pieces = [];
  came = same ∙ sym (append-nil given);
  front = Consumes-kept left left left_after [] (Consumes-nil left) kept;
  all = λ h. absurd (let few = h.1 in omega (arith, few));
}

pub drawn_piece : (left left_after : Option (List ℕ)) (given given_after : List (List ℕ)) (piece : List ℕ) → Consumes left left_after piece → (piece ≡ [] → IsAtEnd left_after) → given_after ≡ given ++ piece ∷ []
    → IsDrawn left left_after given given_after
drawn_piece left left_after given given_after piece came ended more = record {
  pieces = piece ∷ [];
  came = more;
  front = subst (Consumes left left_after) (sym (append-nil piece)) came;
  all = λ h. subst (λ bytes. IfSome left (λ all. all ≡ bytes)) (sym (append-nil piece)) (came_whole left left_after piece came (ended (⊎_elim (λ none. absurd (let few = none.1 in omega (arith, few))) (λ same. same) (Contains-push_cases [] piece [] h))));
}

pub drawn_more : (a b c : Option (List ℕ)) (f g h : List (List ℕ)) → IsDrawn a b f g → IsDrawn b c g h → IsDrawn a c f h
drawn_more a b c f g h one two = record {
  pieces = one.pieces ++ two.pieces;
  came = two.came ∙ ap (λ l. l ++ two.pieces) one.came ∙ append_assoc f one.pieces two.pieces;
  front = subst (Consumes a c) (sym (concat-append one.pieces two.pieces)) (Consumes-trans a b c _ _ one.front two.front);
  all = λ has. subst (λ bytes. IfSome a (λ all. all ≡ bytes)) (sym (concat-append one.pieces two.pieces))
      (⊎_elim (λ first. came_more a b c _ _ one.front two.front (one.all first)) (λ last. came_last a b _ _ one.front (two.all last)) (Contains-append_cases one.pieces two.pieces [] has));
}

-- of bytes in memory the next k, which were copied into a buffer with room
pub drawn_next : (bytes left copied rest : List ℕ) (room next k : ℕ) (given given_after : List (List ℕ)) → left ≡ drop next bytes → k ≡ min room (length bytes - next) → 0 < room
    → copied ≡ take (next + k - next) (drop next bytes) → given_after ≡ given ++ take k (copied ++ rest) ∷ [] → IsDrawn (Some left) (Some (drop (next + k) bytes)) given given_after
drawn_next bytes left copied rest room next k given given_after is count some copy more =
    let just : next + k - next ≡ k = omega arith in
    let front : copied ≡ take k left = copy ∙ ap (λ n. take n (drop next bytes)) just ∙ ap (take k) (sym is) in
    let long : length copied ≡ k = omega (arith, ap length front, length-take k left, ap length is, length-drop next bytes, count) in
    let same : take k (copied ++ rest) ≡ take k left =
    take-append-le k copied rest (omega (arith, long)) ∙ take_all k copied (omega (arith, long)) ∙ front in
    let behind : drop k left ≡ drop (next + k) bytes = ap (drop k) is ∙ drop-drop k next bytes in
    drawn_piece (Some left) (Some (drop (next + k) bytes)) given given_after (take k (copied ++ rest))
    (sym (take-append-drop k left) ∙ ap (λ l. l ++ drop k left) (sym same) ∙ ap (λ l. take k (copied ++ rest) ++ l) behind)
    (λ none. nil_from_length _ (omega (arith, ap length none, ap length same, length-take k left, ap length is, length-drop next bytes, length-drop (next + k) bytes, count, some))) more
