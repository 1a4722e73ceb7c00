-- Where further rows have room with what is kept of positions, all fits there; and what is kept of positions whose numbers are within one limit.
use Rattle.std.proofs.Common.{◌≡◌, ℕ, zero, suc, ◌+◌, ◌-◌, ◌*◌, ◌^◌, ◌<◌, ◌≤◌, List, length, ℤ, ◌+ℤ◌, ◌*ℤ◌, unsigned_abs, sym, ap, subst, arith, le_trans, mul-le-mul_right, mul-le-mul_left, length-append}
use Rattle.std.proofs.lemmas.Nat.{mul-le}
use Rattle.std.proofs.lemmas.Int.{unsigned_abs-mul}
use Rattle.mpc_rows.specs.declared.systems.Row.{Row as LinearRow}
use Rattle.mpc_rows.specs.LinearSystem.{LinearSystem, height}
use Rattle.mpc_rows.specs.Run.{goes_on, entering, count, turn, position, steps}
use Rattle.mpc_rows.specs.RunWidth.{PositionFits}
use Rattle.mpc_runs.specs.declared.variables.Seat.{Seat}
use Rattle.mpc_runs.specs.declared.variables.Seat.TheVariants.{Column}
use Rattle.mpc_runs.specs.Table.{seat_at}
use Rattle.mpc_runs.specs.WholeNumbers.{whole_total}
use Rattle.mpc_whole.specs.declared.judged.WidePlace.{WidePlace}
use Rattle.mpc_scaled.specs.declared.systems.WholeNumbers.{WholeNumbers}
use Rattle.mpc_whole.specs.Norms.{Over}
use Rattle.mpc_whole.specs.SharedSizes.{IsSmallForm, AreSmallBefore}
use Rattle.mpc_whole.specs.PositionTheorems.{PositionTheorems}
use Rattle.mpc_whole.specs.Judged.{HasRoomAt, IsLeavingRow, IsSideJudged, IsRowFitting, most_variables, IsWeighedAt, IsMildForm, AreMildBefore, IsMildlyUnderway}
use Rattle.mpc_whole.specs.Whole.{side_cell}
use Rattle.mpc_scaled.specs.Scaled.{whole_at, whole_cell, scale_at, IsSmall}
use Rattle.mpc_runs.proofs.Read.{right_side, is_right_side}
use Rattle.mpc_runs.proofs.Turn.{Goes, turn-at}
use Rattle.mpc_runs.proofs.WholeSums.{abs-sum}
use Rattle.mpc_beginnings.specs.Beginnings.{lengthened}
use Rattle.mpc_beginnings.specs.Kept.{AreNumbers, IsNormProduct, row_weight, IsLightRow, HasRoomBefore}
use Rattle.mpc_beginnings.proofs.SharedRun.{steps_longer}
use Rattle.mpc_beginnings.proofs.SharedFits.{there_at, fitting_at}

-- a number is no greater with a factor of at least 1
pub times_some : (n m : ℕ) → 1 ≤ n → m ≤ n * m
times_some n m h = let e : 1 * m ≤ n * m = mul-le-mul_right m h in omega arith

-- ---- greater weights serve as well
pub weighed_as : (s : LinearSystem) (k : List ℕ) (e top size y : ℕ) (z : ℤ) (weight more : ℕ) → weight ≤ more → IsWeighedAt s k e top size y z weight → IsWeighedAt s k e top size y z more
weighed_as s k e top size y z weight more h w = record {
  entering = λ o. le_trans (w.entering o) h;
  other = λ o. le_trans (w.other o) h;
  first = λ side x o. le_trans (w.first side x o) h;
  second = le_trans w.second h;
}

module _ (s : LinearSystem) (k : List ℕ) (most most_den : ℕ) (weight more : ℕ → ℕ) (no_less : (j : ℕ) → j < s.width → weight j ≤ more j) (product : ℕ) where
  pub mild_as : (q : ℕ) → AreMildBefore s k q most most_den weight product → AreMildBefore s k q most most_den more product
  mild_as q z = record {
    each = λ i h. (let f = z.each i h in record {
      form = f.form;
      divisor = f.divisor;
      left = f.left;
      split = f.split;
      enters = f.enters;
      top = f.top;
      size = f.size;
      row = f.row;
      weighed = λ j y c b l o. weighed_as s k f.enters f.top f.size y (whole_cell s.width f.form.numbers j c) (weight j) (more j) (no_less j b) (f.weighed j y c b l o);
      dens = f.dens;
    });
  }

  pub mildly_as : (n : ℕ) (seats : List Seat) (den : ℕ) (v c_1 c_2 : List ℤ) (first : ℕ) → IsMildlyUnderway s n seats k den v c_1 c_2 most most_den weight product first → IsMildlyUnderway s n seats k den v c_1 c_2 most most_den more product first
  mildly_as n seats den v c_1 c_2 first u = record { underway = u.underway; before = λ known. mild_as u.underway.stands.at (u.before known) }

  -- and so does a product of which no more is known
  pub mildly_given_up : (n : ℕ) (seats : List Seat) (den : ℕ) (v c_1 c_2 : List ℤ) (first start : ℕ) → (start < 2 ^ 127 → start ≡ product) → IsMildlyUnderway s n seats k den v c_1 c_2 most most_den weight product first → IsMildlyUnderway s n seats k den v c_1 c_2 most most_den more start first
  mildly_given_up n seats den v c_1 c_2 first start same u = record {
    underway = u.underway;
    before = λ known. subst (λ z. AreMildBefore s k u.underway.stands.at most most_den more z) (sym (same known)) (mild_as u.underway.stands.at (u.before (subst (λ z. z < 2 ^ 127) (same known) known)));
  }

-- ---- what a row forms is at most what it weighs
step_weighs : (t a v w u r : ℕ) → t ≤ u + a * v → u * w ≤ r → (m : ℕ) → v * w ≤ m → t * w ≤ r + a * m
step_weighs t a v w u r h k m l =
    let e : t * w ≤ (u + a * v) * w = mul-le-mul_right w h in
    let f : a * (v * w) ≤ a * m = mul-le-mul_left a l in
    omega arith

pub row_weighs : (weight : ℕ → ℕ) (a v : ℕ → ℤ) (f n : ℕ) → ((j : ℕ) → j < n → unsigned_abs (v j) * f ≤ weight j) → unsigned_abs (whole_total n (λ j. a j *ℤ v j)) * f ≤ row_weight weight a n
unfolding whole_total row_weight
row_weighs weight a v f zero h = omega arith
row_weighs weight a v f (suc n) h =
    let sum : unsigned_abs (whole_total n (λ j. a j *ℤ v j) +ℤ (a n *ℤ v n)) ≤ unsigned_abs (whole_total n (λ j. a j *ℤ v j)) + unsigned_abs (a n *ℤ v n) = abs-sum (whole_total n (λ j. a j *ℤ v j)) (a n *ℤ v n) in
    let product : unsigned_abs (a n *ℤ v n) ≡ unsigned_abs (a n) * unsigned_abs (v n) = unsigned_abs-mul (a n) (v n) in
    step_weighs (unsigned_abs (whole_total n (λ j. a j *ℤ v j) +ℤ (a n *ℤ v n))) (unsigned_abs (a n)) (unsigned_abs (v n)) f (unsigned_abs (whole_total n (λ j. a j *ℤ v j))) (row_weight weight a n)
    (omega arith) (row_weighs weight a v f n (λ j l. h j (omega arith))) (weight n) (h n (omega arith))

-- a row weighs no more where no unknown does
more_weighs : (a u v r w : ℕ) → u ≤ v → r ≤ w → r + a * u ≤ w + a * v
more_weighs a u v r w h k = let e : a * u ≤ a * v = mul-le-mul_left a h in omega arith

pub weighs_less : (weight more : ℕ → ℕ) (a : ℕ → ℤ) (n : ℕ) → ((j : ℕ) → j < n → weight j ≤ more j) → row_weight weight a n ≤ row_weight more a n
unfolding row_weight
weighs_less weight more a zero h = omega arith
weighs_less weight more a (suc n) h =
    more_weighs (unsigned_abs (a n)) (weight n) (more n) (row_weight weight a n) (row_weight more a n) (h n (omega arith)) (weighs_less weight more a n (λ j l. h j (omega arith)))

-- nor more than what as many unknowns with the greatest number and the greatest weight do
one_more : (r u w n most top : ℕ) → r ≤ (n * most) * top → u ≤ most → w ≤ top → r + u * w ≤ (suc n * most) * top
one_more r u w n most top h k l = let e : u * w ≤ most * top = mul-le u w most top k l in omega arith

pub weighs_at_most : (weight : ℕ → ℕ) (a : ℕ → ℤ) (most top n : ℕ) → ((j : ℕ) → unsigned_abs (a j) ≤ most) → ((j : ℕ) → j < n → weight j ≤ top) → row_weight weight a n ≤ (n * most) * top
unfolding row_weight
weighs_at_most weight a most top zero small h = omega arith
weighs_at_most weight a most top (suc n) small h =
    one_more (row_weight weight a n) (unsigned_abs (a n)) (weight n) n most top (weighs_at_most weight a most top n small (λ j l. h j (omega arith))) (small n) (h n (omega arith))

-- ---- with room for the further rows
-- the size z of a number, with these factors
apart : (z f g most : ℕ) → (z * f) * g ≤ most → z * (f * g) ≤ most
apart z f g most h = omega arith

together : (z f g most : ℕ) → z * (f * g) ≤ most → (z * f) * g ≤ most
together z f g most h = omega arith

times_apart : (m z f most : ℕ) → m * (z * f) ≤ most → z * (m * f) ≤ most
times_apart m z f most h = omega arith

few_times : (n m z f most : ℕ) → n ≤ m → z * (m * f) ≤ most → n * (z * f) ≤ most
few_times n m z f most h k = let o : n * (z * f) ≤ m * (z * f) = mul-le-mul_right (z * f) h in omega arith

with_scale : (d f size product most : ℕ) → d * size ≤ product → product * f ≤ most → (d * f) * size ≤ most
with_scale d f size product most h k = let o : (d * size) * f ≤ product * f = mul-le-mul_right f h in omega arith

module _ (t : LinearSystem) (m : WholeNumbers) (g : AreNumbers t m) (weight : ℕ → ℕ) (p : WidePlace) (q : ℕ) (z : IsMildForm t m.scales.now (position t q) p.greatest p.greatest_den weight p.product) (i : ℕ) (light : IsLightRow t m weight p i) where
  module _ (y c : ℕ) (y_in : y < count t) (at : seat_at z.form.seats y ≡ Column c) where
    unfoldable number : ℤ
    number = side_cell t m.a.now z.form.numbers i c

    -- by what each unknown forms
    weighs : (f : ℕ) → ((j : ℕ) → j < t.width → unsigned_abs (whole_cell t.width z.form.numbers j c) * f ≤ weight j) → unsigned_abs number * f ≤ 2 ^ 125
    unfolding number
    weighs f h = le_trans (row_weighs weight (whole_cell t.width m.a.now i) (λ j. whole_cell t.width z.form.numbers j c) f t.width h) light.terms

    weighed : (j : ℕ) → j < t.width → IsWeighedAt t m.scales.now z.enters z.top z.size y (whole_cell t.width z.form.numbers j c) (weight j)
    weighed j l = z.weighed j y c l y_in at

    room_at : HasRoomAt t m.scales.now m.b.now z.enters z.top z.size y number
    unfolding number
    room_at = record {
      entering = λ o. together (unsigned_abs number) (scale_at m.scales.now y) z.top (2 ^ 125) (weighs (scale_at m.scales.now y * z.top) (λ j l. apart (unsigned_abs (whole_cell t.width z.form.numbers j c)) (scale_at m.scales.now y) z.top (weight j) ((weighed j l).entering o)));
      other = λ o. together (unsigned_abs number) (scale_at m.scales.now y) z.size (2 ^ 125) (weighs (scale_at m.scales.now y * z.size) (λ j l. apart (unsigned_abs (whole_cell t.width z.form.numbers j c)) (scale_at m.scales.now y) z.size (weight j) ((weighed j l).other o)));
      first = λ side.
          few_times (count t) most_variables (unsigned_abs number) (unsigned_abs (whole_at m.b.now (y - t.width))) (2 ^ 125) light.few
          (weighs (most_variables * unsigned_abs (whole_at m.b.now (y - t.width)))
          (λ j l. times_apart most_variables (unsigned_abs (whole_cell t.width z.form.numbers j c)) (unsigned_abs (whole_at m.b.now (y - t.width))) (weight j)
          ((weighed j l).first side (whole_at m.b.now (y - t.width)) (right_side t m.scales.now m.a.now m.b.now g.whole y y_in side))));
      second =
          few_times (count t) most_variables (unsigned_abs number) (scale_at m.scales.now y) (2 ^ 125) light.few
          (weighs (most_variables * scale_at m.scales.now y) (λ j l. times_apart most_variables (unsigned_abs (whole_cell t.width z.form.numbers j c)) (scale_at m.scales.now y) (weight j) (weighed j l).second));
    }

  side_judged : IsSideJudged t z.form.seats m.scales.now m.a.now m.b.now z.form.den z.form.numbers z.enters z.top z.size i
  unfolding number
  side_judged = record {
    dens = with_scale z.form.den (scale_at m.scales.now (t.width + i)) z.size p.product (2 ^ 125) z.dens light.pivots;
    whole = le_trans (mul-le-mul_right (scale_at m.scales.now (t.width + i)) z.form.den_small) light.den;
    cells = λ y c l at. room_at y c l at;
  }

  pub light_fits : PositionTheorems → q ≤ steps t → i < height t → IsRowFitting t (position t q) (t.width + i)
  light_fits theorems order below =
      theorems.judged_row t m.scales.now m.a.now m.b.now g.whole q order z.form.seats z.form.den z.form.numbers z.form.form z.enters z.top z.size z.divisor z.left z.split z.row i below side_judged

-- all fits at a position of the longer run, where it fits at the shorter one's and the further rows have room
module _ (theorems : PositionTheorems) (s : LinearSystem) (more : List LinearRow) (m : WholeNumbers) (g : AreNumbers (lengthened s more) m) (weight : ℕ → ℕ) (p : WidePlace) (r : HasRoomBefore (lengthened s more) m weight p (height s))
    (q : ℕ) (order : q < steps s) (fits : PositionFits s (position s q)) (z : IsMildForm (lengthened s more) m.scales.now (position (lengthened s more) q) p.greatest p.greatest_den weight p.product) where
  further_fits : (i : ℕ) → i < length more → IsRowFitting (lengthened s more) (position (lengthened s more) q) (count s + i)
  further_fits i h =
      let place : s.width + (height s + i) ≡ count s + i = omega arith in
      let below : height s + i < height (lengthened s more) = omega (arith, length-append s.rows more) in
      let within : q ≤ steps (lengthened s more) = (let o : steps s ≤ steps (lengthened s more) = steps_longer s more in omega arith) in
      subst (λ x. IsRowFitting (lengthened s more) (position (lengthened s more) q) x) place
      (light_fits (lengthened s more) m g weight p q z (height s + i) (r.rows (height s + i) (omega arith) below) theorems within below)

  pub mild_fits : PositionFits (lengthened s more) (position (lengthened s more) q)
  mild_fits = there_at s more q order fits (λ i h. fitting_at s more q order i h (further_fits i h))

-- ---- within one limit
three : (u f v w most : ℕ) → u ≤ v → f ≤ w → (g : ℕ) → (v * w) * g ≤ most → (u * f) * g ≤ most
three u f v w most h k g r = le_trans (mul-le-mul_right g (mul-le u f v w h k)) r

many : (n u f v w most : ℕ) → u ≤ v → f ≤ w → n * (v * w) ≤ most → n * (u * f) ≤ most
many n u f v w most h k r = le_trans (mul-le-mul_left n (mul-le u f v w h k)) r

module _ (theorems : PositionTheorems) (s : LinearSystem) (m : WholeNumbers) (g : AreNumbers s m) (p : WidePlace) (product : ℕ) (r : IsNormProduct s.width m p product) where
  -- a number of a side's row, by one of those of the unknowns
  row_norm : (v : List ℤ) → IsSmall p.greatest v → (i c : ℕ) → unsigned_abs (side_cell s m.a.now v i c) ≤ r.norm * r.most
  row_norm v small i c =
      let e : s.width * (m.most_entry * r.most) ≤ r.norm * r.most = (let h : (s.width * m.most_entry) * r.most ≤ r.norm * r.most = mul-le-mul_right r.most r.rows in omega arith) in
      le_trans (theorems.side_size s m.a.now v m.most_entry r.most g.entries (record { each = λ j. le_trans (small.each j) r.number }) i c) e

  module _ (q : ℕ) (order : q < steps s) (z : IsSmallForm s m.scales.now (position s q) p.greatest p.greatest_den) where
    row_over : (l : ℕ) → l < count s → s.width ≤ l → (y : ℕ) → y < count s → Over (z.den * scale_at m.scales.now l) r.top ((position s q).coefficient l y)
    row_over l below side y h =
        let back : s.width + (l - s.width) ≡ l = omega arith in
        subst (λ x. Over (z.den * scale_at m.scales.now x) r.top ((position s q).coefficient x y)) back
        (theorems.side_over s m.scales.now m.a.now m.b.now g.whole q (omega arith) z.seats z.den z.numbers z.form (l - s.width) r.top y (omega arith)
        (λ c b e. le_trans (mul-le (unsigned_abs (side_cell s m.a.now z.numbers (l - s.width) c)) (scale_at m.scales.now y) (r.norm * r.most) m.most_scale (row_norm z.numbers z.small (l - s.width) c) (g.scales y)) r.row) h)

    -- who enters there, if anybody does
    enters : ℕ
    enters = entering (turn s (position s q))

    leaving_row : (l e : ℕ) → turn s (position s q) ≡ goes_on l e → IsLeavingRow s (position s q) m.scales.now z.den enters r.top r.top l e
    unfolding enters
    leaving_row l e t =
        let o : Goes s (position s q) l e = turn-at s (position s q) (goes_on l e) t in
        record {
          entering = sym (ap entering t);
          pivot = row_over l o.leaves.below o.leaves.violated.side e o.below;
          others = λ y below apart. row_over l o.leaves.below o.leaves.violated.side y below;
          own = le_trans (g.scales l) r.own;
        }

    number_small : (j c : ℕ) → unsigned_abs (whole_cell s.width z.numbers j c) ≤ r.most
    number_small j c = le_trans (z.small.each (j * s.width + c)) r.number

    weighed_by : (j y c : ℕ) → y < count s → IsWeighedAt s m.scales.now enters r.top r.top y (whole_cell s.width z.numbers j c) product
    weighed_by j y c y_in = record {
      entering = λ o. three (unsigned_abs (whole_cell s.width z.numbers j c)) (scale_at m.scales.now y) r.most m.most_scale product (number_small j c) (g.scales y) r.top r.pivots;
      other = λ o. three (unsigned_abs (whole_cell s.width z.numbers j c)) (scale_at m.scales.now y) r.most m.most_scale product (number_small j c) (g.scales y) r.top r.pivots;
      first = λ side x o.
          many most_variables (unsigned_abs (whole_cell s.width z.numbers j c)) (unsigned_abs x) r.most m.most_side product (number_small j c)
          (subst (λ u. unsigned_abs u ≤ m.most_side) (is_right_side s m.scales.now m.a.now m.b.now g.whole y y_in side x o) (g.sides.each (y - s.width))) r.firsts;
      second = many most_variables (unsigned_abs (whole_cell s.width z.numbers j c)) (scale_at m.scales.now y) r.most m.most_scale product (number_small j c) (g.scales y) r.seconds;
    }

    den_within : z.den * r.top ≤ product
    den_within =
        let scaled : 1 * z.den ≤ m.most_scale * r.most = mul-le 1 z.den m.most_scale r.most g.some_scale (le_trans z.den_small r.den) in
        le_trans (mul-le-mul_right r.top (let h : z.den ≤ r.most * m.most_scale = omega arith in h)) r.pivots

    mild_form : IsMildForm s m.scales.now (position s q) p.greatest p.greatest_den (λ j. product) product
    mild_form = record {
      form = z;
      divisor = 1;
      left = z.den;
      split = omega arith;
      enters = enters;
      top = r.top;
      size = r.top;
      row = leaving_row;
      weighed = λ j y c b l o. weighed_by j y c l;
      dens = den_within;
    }

  pub mild_by_norms : AreSmallBefore s m.scales.now (steps s) p.greatest p.greatest_den → AreMildBefore s m.scales.now (steps s) p.greatest p.greatest_den (λ j. product) product
  mild_by_norms z = record { each = λ q l. mild_form q l (z.each q l) }
