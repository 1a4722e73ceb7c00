-- What the lines of a plant state are the parts of a plant.
use Rattle.std.proofs.Common.{◌≡◌, ◌≢◌, ℕ, ◌+◌, ◌*◌, ◌^◌, ◌<◌, ◌≤◌, Bool, true, false, cond, nat_le, nat_lt, List, length, codes, pos, Option, Some, None, MatchOption, Err, inl, inr, refl, sym, ap, ◌∙◌, subst, arith, lit<, lit≤}
use Rattle.std.specs.Prelude.{All}
use Rattle.std.proofs.lemmas.List.{length-replicate, length-take-le, length-drop}
use Rattle.mpc_exact.specs.Rational.{int}
use Rattle.mpc_space.specs.Matrix.{RationalMatrix}
use Rattle.mpc_linear.specs.Shape.{HasShape}
use Rattle.mpc_plant.specs.Limits.{IsWeight, FitsRow, IsCoordinate, IsPlant, row_limit}
use Rattle.mpc_plant.specs.declared.lists.PlantRow.{PlantRow}
use Rattle.mpc_plant.specs.declared.lists.Coordinate.{Coordinate}
use Rattle.mpc_grammar.specs.declared.versions.Version.{Version}
use Rattle.mpc_grammar.specs.declared.versions.Version.TheVariants.{One, Two, Three}
use Rattle.mpc_grammar.specs.declared.plant_parts.Sizes.{Sizes}
use Rattle.mpc_grammar.specs.declared.plant_parts.Dynamics.{Dynamics}
use Rattle.mpc_grammar.specs.declared.plant_parts.Weights.{Weights}
use Rattle.mpc_grammar.specs.declared.plant_parts.Offsets.{Offsets}
use Rattle.mpc_grammar.specs.declared.plant_parts.Limits.{Limits}
use Rattle.mpc_grammar.specs.Lines.{count_line}
use Rattle.mpc_grammar.specs.Versions.{number_of, greatest_rows}
use Rattle.mpc_grammar.specs.Reading.{Cursor, one_line, Outcome}
use Rattle.mpc_grammar.specs.declared.errors.FileError.{FileError}
use Rattle.mpc_grammar.specs.declared.errors.FileError.TheVariants.{Bad, NoMemory}
use Rattle.mpc_plant.specs.declared.plants.Plant.{Plant}
use Rattle.mpc_grammar.specs.PlantGrammar.{plain_rule, IsWeightLine, so_many, IsRow, IsAxis, dynamics, weights, offset_lines, offsets, limits, IsPlantWith, plant, AreSizes}
use Rattle.mpc_grammar.specs.FileGrammar.{IsVersion}
use Rattle.mpc_grammar.specs.Outcomes.{all_items, just_so_many}

-- ---- the version
short_version : (version : Version) → number_of version < 10 ^ 64
short_version One = lit< tt
short_version Two = lit< tt
short_version Three = lit< tt

abbrev pub OneCount : Type 0
OneCount = (name : List ℕ) (m n : ℕ) → m < 10 ^ 64 → n < 10 ^ 64 → count_line name m ≡ count_line name n → m ≡ n

pub version_found : OneCount → (text : List ℕ) (n : ℕ) → text ≡ count_line (codes "mpc") n → n < 10 ^ 64 → (found : Option Version) → MatchOption found ((version : Version) → n ≢ number_of version) (λ version. n ≡ number_of version)
    → MatchOption found ((version : Version) → ¬ IsVersion text version) (λ version. IsVersion text version)
version_found one text n spelled short None h = λ version is. h version (one (codes "mpc") n (number_of version) short (short_version version) (sym spelled ∙ is))
version_found one text n spelled short (Some version) h = spelled ∙ ap (count_line (codes "mpc")) h

-- ---- the number of rows
at_most_limit : (few : Bool) → 40 ≤ cond few 60 40
at_most_limit true = lit≤ tt
at_most_limit false = lit≤ tt

few_rows : (version : Version) (unknowns : ℕ) → greatest_rows version unknowns ≤ row_limit unknowns
few_rows One unknowns = at_most_limit (nat_le unknowns 4)
few_rows Two unknowns = at_most_limit (nat_le unknowns 4)
few_rows Three unknowns = omega arith

-- ---- the matrices
pub dynamics_shape : (s : Sizes) (here behind : Cursor) (d : Dynamics) → (dynamics s).Reads here d behind → HasShape d.a s.states s.states × HasShape d.b s.states s.inputs
dynamics_shape s here behind d (a, (between, (first, (b, (beyond, (second, (e, at))))))) =
    (subst (λ (x : Dynamics). HasShape x.a s.states s.states) (sym e) first.1.1.0.shape, subst (λ (x : Dynamics). HasShape x.b s.states s.inputs) (sym e) second.1.1.0.shape)

weight_of : (name : List ℕ) (size : ℕ) (text : List ℕ) (m : RationalMatrix) → IsWeightLine name size text m → IsWeight m size
weight_of name size text m h = record { shape = h.matrix_is.shape; symmetric = h.symmetric }

pub weights_shape : (s : Sizes) (here behind : Cursor) (w : Weights) → (weights s).Reads here w behind → IsWeight w.q s.states × IsWeight w.r s.inputs × IsWeight w.last s.states
weights_shape s here behind w (q, (between, (first, (r, (beyond, (second, (last, (end, (third, (e, at)))))))))) =
    (subst (λ (x : Weights). IsWeight x.q s.states) (sym e) (weight_of _ _ _ _ first.1.1.0), subst (λ (x : Weights). IsWeight x.r s.inputs) (sym e) (weight_of _ _ _ _ second.1.1.0), subst (λ (x : Weights). IsWeight x.last s.states) (sym e) (weight_of _ _ _ _ third.1.1.0))

-- ---- the drift and the targets
pub record HaveSizes (s : Sizes) (o : Offsets) : Type 0 where
  pub drift : length o.drift ≡ s.states
  pub xgoal : length o.xgoal ≡ s.states
  pub ugoal : length o.ugoal ≡ s.inputs

lines_shape : (version : Version) (s : Sizes) (here behind : Cursor) (o : Offsets) → (offset_lines version s).Reads here o behind → HaveSizes s o
lines_shape version s here behind o (drift, (between, (first, (goal, (beyond, (second, (e, at))))))) =
    let size : length goal ≡ s.states + s.inputs = second.1.1.0.numbers_are.size in
    subst (HaveSizes s) (sym e) (record { drift = first.1.1.0.size; xgoal = length-take-le s.states goal (omega arith); ugoal = length-drop s.states goal ∙ omega arith })

pub offsets_shape : (version : Version) (s : Sizes) (here behind : Cursor) (o : Offsets) → (offsets version s).Reads here o behind → HaveSizes s o
offsets_shape One s here behind o (e, at) =
    subst (HaveSizes s) (sym e) (record { drift = length-replicate s.states (int (pos 0)); xgoal = length-replicate s.states (int (pos 0)); ugoal = length-replicate s.inputs (int (pos 0)) })
offsets_shape Two s here behind o reads = lines_shape Two s here behind o reads
offsets_shape Three s here behind o reads = lines_shape Three s here behind o reads

-- ---- the rows and the grid
module _ (version : Version) (s : Sizes) where
  pub record AreLimits (l : Limits) : Type 0 where
    pub rows_few : s.steps * length l.rows + length l.terminal ≤ row_limit (s.inputs * s.steps)
    pub rows_fit : All (FitsRow s.states s.inputs) l.rows
    pub terminal_fits : All (FitsRow s.states 0) l.terminal
    pub grid_size : length l.axes ≡ s.states
    pub grid_ok : All IsCoordinate l.axes

  rows_all : (count : ℕ) (here behind : Cursor) (rows : List PlantRow) → (so_many count (plain_rule (IsRow (codes "row") s.states s.inputs))).Reads here rows behind → All (FitsRow s.states s.inputs) rows
  rows_all count here behind rows reads =
      all_items PlantRow (λ before. one_line (plain_rule (IsRow (codes "row") s.states s.inputs))) (λ (before : List PlantRow). nat_lt (length before) count) (FitsRow s.states s.inputs) (λ before b x c more line. line.1.1.0.sizes) here rows behind reads.0

  last_all : (count : ℕ) (here behind : Cursor) (rows : List PlantRow) → (so_many count (plain_rule (IsRow (codes "last") s.states 0))).Reads here rows behind → All (FitsRow s.states 0) rows
  last_all count here behind rows reads =
      all_items PlantRow (λ before. one_line (plain_rule (IsRow (codes "last") s.states 0))) (λ (before : List PlantRow). nat_lt (length before) count) (FitsRow s.states 0) (λ before b x c more line. line.1.1.0.sizes) here rows behind reads.0

  grid_all : (here behind : Cursor) (axes : List Coordinate) → (so_many s.states (plain_rule IsAxis)).Reads here axes behind → All IsCoordinate axes
  grid_all here behind axes reads =
      all_items Coordinate (λ before. one_line (plain_rule IsAxis)) (λ (before : List Coordinate). nat_lt (length before) s.states) IsCoordinate (λ before b x c more line. line.1.1.0.allowed) here axes behind reads.0

  pub limits_shape : (here behind : Cursor) (l : Limits) → (limits version s).Reads here l behind → AreLimits l
  limits_shape here behind l (rows, (c1, ((k, (c2, (k_line, rows_read))), (terminal, (c3, ((m, (c4, (m_line, terminal_read))), (axes, (c5, (grid_read, (e, at)))))))))) =
      let so_many_rows : length rows ≡ k = just_so_many PlantRow (λ before. one_line (plain_rule (IsRow (codes "row") s.states s.inputs))) k c2 rows c1 rows_read in
      let so_many_last : length terminal ≡ m = just_so_many PlantRow (λ before. one_line (plain_rule (IsRow (codes "last") s.states 0))) m c4 terminal c3 terminal_read in
      let in_version : 1 * m + s.steps * length rows ≤ greatest_rows version (s.inputs * s.steps) = m_line.1.1.0.allowed in
      subst AreLimits (sym e) (record {
        rows_few = omega (arith, few_rows version (s.inputs * s.steps));
        rows_fit = rows_all k c2 c1 rows rows_read;
        terminal_fits = last_all m c4 c3 terminal terminal_read;
        grid_size = just_so_many Coordinate (λ before. one_line (plain_rule IsAxis)) s.states c3 axes c5 grid_read;
        grid_ok = grid_all c3 c5 axes grid_read;
      })

-- ---- the whole
module _ (version : Version) (s : Sizes) (d : Dynamics) (w : Weights) (o : Offsets) (l : Limits) (c0 c1 c2 c3 c4 c5 : Cursor) where
  pub plant_is : (one_line (plain_rule AreSizes)).Reads c0 s c1 → (dynamics s).Reads c1 d c2 → (weights s).Reads c2 w c3 → (offsets version s).Reads c3 o c4 → (limits version s).Reads c4 l c5
      → IsPlant s.states s.inputs s.steps d.a d.b w.q w.r w.last o.drift o.xgoal o.ugoal l.rows l.terminal l.axes
  plant_is sizes_read dynamics_read weights_read offsets_read limits_read =
      let size = sizes_read.1.1.0 in
      let matrices = dynamics_shape s c1 c2 d dynamics_read in
      let costs = weights_shape s c2 c3 w weights_read in
      let goals = offsets_shape version s c3 c4 o offsets_read in
      let rows = limits_shape version s c4 c5 l limits_read in
      record {
        states = size.states;
        inputs = size.inputs;
        steps = size.steps;
        moves_few = size.moves_few;
        a_shape = matrices.0;
        b_shape = matrices.1;
        q_weight = costs.0;
        r_weight = costs.1;
        last_weight = costs.2;
        drift_size = goals.drift;
        xgoal_size = goals.xgoal;
        ugoal_size = goals.ugoal;
        rows_few = rows.rows_few;
        rows_fit = rows.rows_fit;
        terminal_fits = rows.terminal_fits;
        grid_size = rows.grid_size;
        grid_ok = rows.grid_ok;
      }

-- ---- where a part fails
module _ (version : Version) (s : Sizes) (here c1 c2 : Cursor) (d : Dynamics) (first : (one_line (plain_rule AreSizes)).Reads here s c1) (second : (dynamics s).Reads c1 d c2) where
  pub weights_fail : (behind end : Cursor) (error : FileError) → Outcome (weights s) c2 behind (Err error) → Outcome (plant version) here end (Err error)
  weights_fail behind end (Bad kind number) h = inr (s, (c1, (first, inr (d, (c2, (second, inl h))))))
  weights_fail behind end NoMemory h = tt

  module _ (c3 : Cursor) (w : Weights) (third : (weights s).Reads c2 w c3) where
    pub offsets_fail : (behind end : Cursor) (error : FileError) → Outcome (offsets version s) c3 behind (Err error) → Outcome (plant version) here end (Err error)
    offsets_fail behind end (Bad kind number) h = inr (s, (c1, (first, inr (d, (c2, (second, inr (w, (c3, (third, inl h)))))))))
    offsets_fail behind end NoMemory h = tt

    pub limits_fail : (c4 behind end : Cursor) (o : Offsets) (error : FileError) → (offsets version s).Reads c3 o c4 → Outcome (limits version s) c4 behind (Err error) → Outcome (plant version) here end (Err error)
    limits_fail c4 behind end o (Bad kind number) fourth h = inr (s, (c1, (first, inr (d, (c2, (second, inr (w, (c3, (third, inr (o, (c4, (fourth, inl h))))))))))))
    limits_fail c4 behind end o NoMemory fourth h = tt

    pub plant_reads : (c4 c5 : Cursor) (o : Offsets) (l : Limits) (x : Plant) → (offsets version s).Reads c3 o c4 → (limits version s).Reads c4 l c5 → IsPlantWith s d w o l x → (plant version).Reads here x c5
    plant_reads c4 c5 o l x fourth fifth is = (s, (c1, (first, (d, (c2, (second, (w, (c3, (third, (o, (c4, (fourth, (l, (c5, (fifth, (is, refl))))))))))))))))
