-- What is read determines the bytes that it is read from. This holds of the ways in which grammars are joined where it holds of their parts and
-- what both parts state determines what the first does.
use Rattle.std.proofs.Common.{◌≡◌, ℕ, ◌≤◌, Bool, nat_lt, List, [], ◌∷◌, ◌++◌, length, refl, sym, ap, subst, ◌∙◌, arith, length-append, ltb-false}
use Rattle.mpc_grammar.specs.Reading.{Cursor, LineRule, Grammar, one_line, give, ◌>>=◌, that_which, ReadsItems, no_item, one_more, many}
use Rattle.mpc_grammar.specs.PlantGrammar.{plain_rule, so_many}
use Rattle.mpc_file.proofs.LineNumbers.{same_front, same_back}
use Rattle.mpc_file.proofs.LawExact.{so_few}

-- before the same bytes the same is read from the same bytes only
pub record HasOneText {X : Type 0} (g : Grammar X) : Type 0 where
  pub same : (here there behind beyond : Cursor) (x : X) → g.Reads here x behind → g.Reads there x beyond → behind.rest ≡ beyond.rest → here.rest ≡ there.rest

-- ---- one line
pub text_line : {X : Type 0} (rule : LineRule X) → ((line other : List ℕ) (x : X) → rule.States line x → rule.States other x → line ≡ other) → HasOneText (one_line rule)
text_line rule one = record {
  same = λ here there behind beyond x (line, (taken, good)) (other, (takes, fine)) e.
      let same : line ≡ other = one line other x good.0 fine.0 in
      taken.cut.joined ∙ (λ i. same i ++ 10 ∷ e i) ∙ sym takes.cut.joined;
}

pub text_plain : {X : Type 0} (states : List ℕ → X → Type 0) → ((line other : List ℕ) (x : X) → states line x → states other x → line ≡ other) → HasOneText (one_line (plain_rule states))
text_plain states one = text_line (plain_rule states) one

-- ---- no line
pub text_give : {X : Type 0} (value : X) → HasOneText (give value)
text_give value = record { same = λ here there behind beyond x h k e. sym (ap (λ (c : Cursor). c.rest) h.1) ∙ e ∙ ap (λ (c : Cursor). c.rest) k.1 }

pub text_that : {X : Type 0} (IsIt : X → Type 0) → HasOneText (that_which IsIt)
text_that IsIt = record { same = λ here there behind beyond x h k e. sym (ap (λ (c : Cursor). c.rest) h.1) ∙ e ∙ ap (λ (c : Cursor). c.rest) k.1 }

-- ---- one part behind another
-- what both state determines what the first does
abbrev pub Settles : {X Y : Type 0} → Grammar X → (X → Grammar Y) → Type 0
Settles {X} {Y} first second =
    (here there between at behind beyond : Cursor) (x z : X) (y : Y) → first.Reads here x between → (second x).Reads between y behind → first.Reads there z at → (second z).Reads at y beyond → x ≡ z

pub text_both : {X Y : Type 0} (first : Grammar X) (second : X → Grammar Y) → HasOneText first → ((x : X) (here between : Cursor) → first.Reads here x between → HasOneText (second x)) → Settles first second → HasOneText (first >>= second)
text_both first second front back settles = record {
  same = λ here there behind beyond y (x, (between, (h, k))) (z, (at, (l, m))) e.
      let one : x ≡ z = settles here there between at behind beyond x z y h k l m in
      let back_too : (second x).Reads at y beyond = subst (λ v. (second v).Reads at y beyond) (sym one) m in
      let front_too : first.Reads there x at = subst (λ v. first.Reads there v at) (sym one) l in
      front.same here there between at x h front_too ((back x here between h).same between at behind beyond y k back_too e);
}

-- the first part is a part of the whole
pub settled_by : {X Y : Type 0} (first : Grammar X) (second : X → Grammar Y) (part : Y → X) → ((here : Cursor) (x : X) (y : Y) (behind : Cursor) → (second x).Reads here y behind → part y ≡ x) → Settles first second
settled_by first second part is here there between at behind beyond x z y h k l m = sym (is between x y behind k) ∙ is at z y beyond m

pub text_with : {X Y : Type 0} (first : Grammar X) (second : X → Grammar Y) (part : Y → X) → HasOneText first → ((x : X) → HasOneText (second x)) → ((here : Cursor) (x : X) (y : Y) (behind : Cursor) → (second x).Reads here y behind → part y ≡ x) → HasOneText (first >>= second)
text_with first second part front back is = text_both first second front (λ x here between h. back x) (settled_by first second part is)

-- ---- items one behind another
module _ {X : Type 0} (item : List X → Grammar X) (asks_more : List X → Bool) (each : (items : List X) → HasOneText (item items)) where
  text_items : (here there : Cursor) (items others : List X) (end stop : Cursor) → ReadsItems X item asks_more here items end → ReadsItems X item asks_more there others stop → items ≡ others → end.rest ≡ stop.rest → here.rest ≡ there.rest
  text_items here there items others end stop no_item no_item e f = f
  text_items here there items others end stop no_item (one_more before between x behind reads more one) e f = absurd (omega (arith, length-append before (x ∷ []), ap length e))
  text_items here there items others end stop (one_more before between x behind reads more one) no_item e f = absurd (omega (arith, length-append before (x ∷ []), ap length e))
  text_items here there items others end stop (one_more before between x behind reads more one) (one_more ahead at y beyond takes asks other) e f =
      let size : length before ≡ length ahead = omega (arith, length-append before (x ∷ []), length-append ahead (y ∷ []), ap length e) in
      let fronts : before ≡ ahead = same_front before (x ∷ []) ahead (y ∷ []) size e in
      let lasts : ◌≡◌ {A = List X} (x ∷ []) (y ∷ []) = same_back before (x ∷ []) ahead (y ∷ []) size e in
      let value : x ≡ y = cc in
      let too : (item before).Reads at x beyond = subst (λ v. (item before).Reads at v beyond) (sym value) (subst (λ xs. (item xs).Reads at y beyond) (sym fronts) other) in
      text_items here there before ahead between at reads takes fronts ((each before).same between at behind beyond x one too f)

  pub text_many : HasOneText (many item asks_more)
  text_many = record { same = λ here there behind beyond items h k e. text_items here there items items behind beyond h.0 k.0 refl e }

pub text_so_many : {X : Type 0} (count : ℕ) (rule : LineRule X) → ((line other : List ℕ) (x : X) → rule.States line x → rule.States other x → line ≡ other) → HasOneText (so_many count rule)
text_so_many {X} count rule one = text_many (λ items. one_line rule) (λ (items : List X). nat_lt (length items) count) (λ items. text_line rule one)

-- so many items are read as are asked for
pub so_many_read : {X : Type 0} (item : List X → Grammar X) (count : ℕ) (here : Cursor) (items : List X) (behind : Cursor) → (many item (λ items. nat_lt (length items) count)).Reads here items behind → length items ≡ count
so_many_read item count here items behind h =
    let low : length items ≤ count = so_few item count here items behind h.0 in
    omega (arith, ltb-false (length items) count h.1)
