-- What a text states, its version can state: the numbers of its lines fit.
use Rattle.std.proofs.Common.{◌≡◌, ℕ, zero, suc, ◌+◌, ◌-◌, ◌*◌, ◌^◌, ◌<◌, ◌≤◌, cond, nat_lt, pos, List, [], ◌∷◌, ◌++◌, length, map, refl, sym, ap, subst, subst₂, take-append-drop, arith}
use Rattle.std.specs.Prelude.{is_some, slice_get, slice_index_or, All, codes}
use Rattle.std.proofs.lemmas.List.Elements.{All-nil, All-cons, All-head, All-tail, All-append, All-take, All-drop, All-map, All-get_or}
use Rattle.mpc_exact.specs.Rational.{ℚ, int}
use Rattle.mpc_space.specs.Vector.{zeros}
use Rattle.mpc_space.specs.Matrix.{RationalMatrix}
use Rattle.mpc_frac.specs.Fits.{FitsFrac}
use Rattle.mpc_linear.specs.declared.integers.RowInt.{RowInt}
use Rattle.mpc_plant.specs.declared.plants.Plant.{Plant}
use Rattle.mpc_plant.specs.declared.lists.PlantRow.{PlantRow}
use Rattle.mpc_plant.specs.declared.lists.Coordinate.{Coordinate}
use Rattle.mpc_rows.specs.declared.laws.Law.{Law}
use Rattle.mpc_rows.specs.declared.trees.Node.{Node}
use Rattle.mpc_controller.specs.Parts.{Parts, row_count}
use Rattle.mpc_controller.specs.Certificates.{cell_rows}
use Rattle.mpc_controller.specs.PreorderTheorems.{SplitSpells, LeafSpells}
use Rattle.mpc_grammar.specs.declared.versions.Version.{Version}
use Rattle.mpc_grammar.specs.declared.versions.Version.TheVariants.{One, Two, Three}
use Rattle.mpc_grammar.specs.declared.plant_parts.Sizes.{Sizes}
use Rattle.mpc_grammar.specs.declared.plant_parts.Dynamics.{Dynamics}
use Rattle.mpc_grammar.specs.declared.plant_parts.Weights.{Weights}
use Rattle.mpc_grammar.specs.declared.plant_parts.Offsets.{Offsets}
use Rattle.mpc_grammar.specs.declared.plant_parts.Limits.{Limits}
use Rattle.mpc_grammar.specs.Versions.{greatest_rows}
use Rattle.mpc_grammar.specs.Reading.{Cursor, LineRule, one_line, ReadsItems, no_item, one_more}
use Rattle.mpc_grammar.specs.PlantGrammar.{AllFit, AreZero, MayHave, plain_rule, dynamics, weights, offsets, offset_lines, IsRow, IsAxis, limits, plant, AreNumbers, StatesNew}
use Rattle.mpc_grammar.specs.LawGrammar.{unknowns, move_rule, written_law, written_laws, forms, NameForms, form_named, NamedLaw, used_by, used_behind, named_mults, named_law, named_laws, law_named}
use Rattle.mpc_grammar.specs.TreeGrammar.{IsCertLine, certs, NodeLine, NodeOver, node_behind, node_at, owed, IsWord, written_split, written_tree, planes_used, named_split, plane_named, named_tree, node_of}
use Rattle.mpc_grammar.specs.TreeGrammar.NodeLine.{split_at, leaf_of, no_move}
use Rattle.mpc_grammar.specs.FileGrammar.{IsVersion, written, named, behind_plant, start}
use Rattle.mpc_grammar.specs.WrittenFits.{IsPairFit, RowFits, AxisFits, CertFits}
use Rattle.mpc_grammar.specs.Statable.{CanStatePlant, LawNumbersFit, NodeNumbersFit}
use Rattle.mpc_grammar.specs.TextTheorems.{StatedCanBe}
use Rattle.mpc_grammar.specs.Outcomes.{all_items, just_so_many}
use Rattle.mpc_grammar.specs.Fractions.{natural_fits}
use Rattle.mpc_file.proofs.Runs.{reach, run_line, items_shorter, items_few}
use Rattle.mpc_file.proofs.LawExact.{row_count_few}
use Rattle.mpc_file.proofs.TreeExact.{depth_few, run_node, node_takes}
use Rattle.mpc_file.proofs.FileRuns.{run_plant, run_written_laws, run_forms, run_named_laws, run_planes}
use Rattle.mpc_file.proofs.FileShapes.{stated_is}

-- ---- the plant
zeros_fit : (n : ℕ) → AllFit (zeros n)
zeros_fit zero = All-nil FitsFrac
zeros_fit (suc n) = All-cons FitsFrac (int (pos 0)) (zeros n) (natural_fits 0 (omega arith)) (zeros_fit n)

zeros_zero : (n : ℕ) → AreZero (zeros n)
zeros_zero zero = All-nil (λ x. x ≡ int (pos 0))
zeros_zero (suc n) = All-cons (λ x. x ≡ int (pos 0)) (int (pos 0)) (zeros n) refl (zeros_zero n)

record DynamicsFit (d : Dynamics) : Type 0 where
  a : All AllFit d.a.rows
  b : All AllFit d.b.rows

dynamics_fit : (s : Sizes) (here behind : Cursor) (d : Dynamics) → (dynamics s).Reads here d behind → DynamicsFit d
dynamics_fit s here behind d (a, (between, (first, (b, (beyond, (second, (e, at))))))) = subst DynamicsFit (sym e) (record { a = first.1.1.0.fits; b = second.1.1.0.fits })

record WeightsFit (w : Weights) : Type 0 where
  q : All AllFit w.q.rows
  r : All AllFit w.r.rows
  last : All AllFit w.last.rows

weights_fit : (s : Sizes) (here behind : Cursor) (w : Weights) → (weights s).Reads here w behind → WeightsFit w
weights_fit s here behind w (q, (between, (first, (r, (beyond, (second, (last, (end, (third, (e, at)))))))))) =
    subst WeightsFit (sym e) (record { q = first.1.1.0.matrix_is.fits; r = second.1.1.0.matrix_is.fits; last = third.1.1.0.matrix_is.fits })

record OffsetsFit (version : Version) (o : Offsets) : Type 0 where
  drift : AllFit o.drift
  xgoal : AllFit o.xgoal
  ugoal : AllFit o.ugoal
  allowed : MayHave version o.drift (o.xgoal ++ o.ugoal)

lines_fit : (version : Version) (s : Sizes) (here behind : Cursor) (o : Offsets) → (offset_lines version s).Reads here o behind → OffsetsFit version o
lines_fit version s here behind o (drift, (between, (first, (goal, (beyond, (second, (e, at))))))) =
    subst (OffsetsFit version) (sym e) (record {
      drift = first.1.1.0.fits;
      xgoal = All-take FitsFrac s.states goal second.1.1.0.numbers_are.fits;
      ugoal = All-drop FitsFrac s.states goal second.1.1.0.numbers_are.fits;
      allowed = subst (MayHave version drift) (sym (take-append-drop s.states goal)) second.1.1.0.allowed;
    })

offsets_fit : (version : Version) (s : Sizes) (here behind : Cursor) (o : Offsets) → (offsets version s).Reads here o behind → OffsetsFit version o
offsets_fit One s here behind o (e, at) =
    subst (OffsetsFit One) (sym e) (record {
      drift = zeros_fit s.states;
      xgoal = zeros_fit s.states;
      ugoal = zeros_fit s.inputs;
      allowed = (zeros_zero s.states, All-append (λ x. x ≡ int (pos 0)) (zeros s.states) (zeros s.inputs) (zeros_zero s.states) (zeros_zero s.inputs));
    })
offsets_fit Two s here behind o reads = lines_fit Two s here behind o reads
offsets_fit Three s here behind o reads = lines_fit Three s here behind o reads

record LimitsFit (version : Version) (s : Sizes) (l : Limits) : Type 0 where
  rows : All RowFits l.rows
  terminal : All RowFits l.terminal
  axes : All AxisFits l.axes
  few : s.steps * length l.rows + length l.terminal ≤ greatest_rows version (s.inputs * s.steps)

limits_fit : (version : Version) (s : Sizes) (here behind : Cursor) (l : Limits) → (limits version s).Reads here l behind → LimitsFit version s l
limits_fit version s here behind l (rows, (c1, ((k, (c2, (k_line, rows_read))), (terminal, (c3, ((m, (c4, (m_line, terminal_read))), (axes, (c5, (grid_read, (e, at)))))))))) =
    let so_many_last : length terminal ≡ m = just_so_many PlantRow (λ before. one_line (plain_rule (IsRow (codes "last") s.states 0))) m c4 terminal c3 terminal_read in
    let in_version : 1 * m + s.steps * length rows ≤ greatest_rows version (s.inputs * s.steps) = m_line.1.1.0.allowed in
    subst (LimitsFit version s) (sym e) (record {
      rows = all_items PlantRow (λ before. one_line (plain_rule (IsRow (codes "row") s.states s.inputs))) (λ (before : List PlantRow). nat_lt (length before) k) RowFits (λ before b x c more line. line.1.1.0.fits) c2 rows c1 rows_read.0;
      terminal = all_items PlantRow (λ before. one_line (plain_rule (IsRow (codes "last") s.states 0))) (λ (before : List PlantRow). nat_lt (length before) m) RowFits (λ before b x c more line. line.1.1.0.fits) c4 terminal c3 terminal_read.0;
      axes = all_items Coordinate (λ before. one_line (plain_rule IsAxis)) (λ (before : List Coordinate). nat_lt (length before) s.states) AxisFits (λ before b x c more line. line.1.1.0.fits) c3 axes c5 grid_read.0;
      few = omega arith;
    })

stated_plant : (version : Version) (here : Cursor) (v : Plant) (behind : Cursor) → (plant version).Reads here v behind → CanStatePlant version v
stated_plant version here v behind (s, (c1, (first, (d, (c2, (second, (w, (c3, (third, (o, (c4, (fourth, (l, (c5, (fifth, (is, at)))))))))))))))) =
    let matrices = dynamics_fit s c1 c2 d second in
    let costs = weights_fit s c2 c3 w third in
    let offset = offsets_fit version s c3 c4 o fourth in
    let limit = limits_fit version s c4 c5 l fifth in
    let few : (steps inputs : ℕ) (rows terminal : List PlantRow) → steps ≡ s.steps → inputs ≡ s.inputs → rows ≡ l.rows → terminal ≡ l.terminal → steps * length rows + length terminal ≤ greatest_rows version (inputs * steps) =
    λ steps inputs rows terminal a b c e. subst (λ n. n * length rows + length terminal ≤ greatest_rows version (inputs * n)) (sym a) (subst (λ n. s.steps * length rows + length terminal ≤ greatest_rows version (n * s.steps)) (sym b)
    (subst (λ rs. s.steps * length rs + length terminal ≤ greatest_rows version (s.inputs * s.steps)) (sym c) (subst (λ rs. s.steps * length l.rows + length rs ≤ greatest_rows version (s.inputs * s.steps)) (sym e) limit.few))) in
    record {
      fits = record {
        matrices = record {
          a = subst (λ (m : RationalMatrix). All AllFit m.rows) (sym is.a) matrices.a;
          b = subst (λ (m : RationalMatrix). All AllFit m.rows) (sym is.b) matrices.b;
          q = subst (λ (m : RationalMatrix). All AllFit m.rows) (sym is.q) costs.q;
          r = subst (λ (m : RationalMatrix). All AllFit m.rows) (sym is.r) costs.r;
          last = subst (λ (m : RationalMatrix). All AllFit m.rows) (sym is.last) costs.last;
        };
        drift = subst AllFit (sym is.drift) offset.drift;
        goal = record { xgoal = subst AllFit (sym is.xgoal) offset.xgoal; ugoal = subst AllFit (sym is.ugoal) offset.ugoal };
        rows = subst (All RowFits) (sym is.rows) limit.rows;
        terminal = subst (All RowFits) (sym is.terminal) limit.terminal;
        grid = subst (All AxisFits) (sym is.grid) limit.axes;
      };
      rows_few = few v.horizon v.p v.rows v.terminal is.horizon is.p is.rows is.terminal;
      offsets = subst₂ (MayHave version) (sym is.drift) (sym (λ i. is.xgoal i ++ is.ugoal i)) offset.allowed;
    }

-- ---- laws that are written out
written_law_fits : (v : Plant) (here : Cursor) (law : Law) (behind : Cursor) → (written_law v).Reads here law behind → LawNumbersFit law
written_law_fits v here law behind (set, (b, (s, (zs, (c, (m, (ls, (d, (l, e))))))))) =
    subst LawNumbersFit (sym e.0) (record {
      moves = all_items (List ℚ) (λ before. one_line (move_rule v (length before))) (λ before. nat_lt (length before) (unknowns v)) AllFit (λ before b x c more reads. reads.1.1.0.fits) b zs c m.0;
      mults = all_items (List ℚ) (λ before. one_line (plain_rule (AreNumbers (codes "mult") (v.n + 1)))) (λ before. nat_lt (length before) (length set)) AllFit (λ before b x c more reads. reads.1.1.0.fits) c ls d l.0;
    })

written_laws_fit : (v : Plant) (here : Cursor) (laws : List Law) (behind : Cursor) → (written_laws v).Reads here laws behind → All LawNumbersFit laws
written_laws_fit v here laws behind (count, (b, (s, h))) =
    all_items Law (λ before. written_law v) (λ before. nat_lt (length before) count) LawNumbersFit (λ before b x c more reads. written_law_fits v b x c reads) b laws behind h.0

-- ---- laws whose forms are named
named_fit : (fs : List (List ℚ)) (ks : List ℕ) (used : ℕ) → All AllFit fs → NameForms (length fs) used ks → All AllFit (map (form_named fs) ks)
named_fit fs [] used each names = All-nil AllFit
named_fit fs (k ∷ ks) used each names =
    All-cons AllFit (form_named fs k) (map (form_named fs) ks) (All-get_or AllFit fs (k - 1) [] (omega (arith, names.0, names.1)) each) (named_fit fs ks (cond (nat_lt used k) k used) each names.3)

module _ (v : Plant) (fs : List (List ℚ)) (each : All AllFit fs) where
  named_mults_fit : (used : ℕ) (set : List ℕ) (here : Cursor) (ls : List ℕ) (behind : Cursor) → (named_mults fs used set).Reads here ls behind → All AllFit (map (form_named fs) ls)
  named_mults_fit used [] here ls behind h = subst (λ (ks : List ℕ). All AllFit (map (form_named fs) ks)) (sym h.0) (All-nil AllFit)
  named_mults_fit used (i ∷ set) here ls behind h = named_fit fs ls used each h.1.1.0.name_forms

  named_law_fits : (used : ℕ) (here : Cursor) (law : NamedLaw) (behind : Cursor) → (named_law v fs used).Reads here law behind → LawNumbersFit (law_named v fs law)
  named_law_fits used here law behind (set, (b, (s, (zs, (c, (m, (ls, (d, (l, e))))))))) =
      subst (λ w. LawNumbersFit (law_named v fs w)) (sym e.0) (record { moves = named_fit fs zs used each m.1.1.0.name_forms; mults = named_mults_fit (used_behind used zs) set c ls d l })

named_laws_fit : (v : Plant) (here between : Cursor) (fs : List (List ℚ)) (laws : List NamedLaw) (behind : Cursor) → (forms v).Reads here fs between → (named_laws v fs).Reads between laws behind → All LawNumbersFit (map (law_named v fs) laws)
named_laws_fit v here between fs laws behind (most, (a, (f, g))) (count, (b, (s, h))) =
    let each : All AllFit fs = all_items (List ℚ) (λ before. one_line (plain_rule (StatesNew before (AreNumbers (codes "form") (v.n + 1))))) (λ before. nat_lt (length before) most) AllFit (λ before b x c more reads. reads.1.1.0.stated.fits) a fs between g.0 in
    All-map LawNumbersFit (law_named v fs) laws (all_items NamedLaw (λ before. named_law v fs (used_by before)) (λ before. nat_lt (length before) count) (λ w. LawNumbersFit (law_named v fs w)) (λ before b x c more reads. named_law_fits v fs each (used_by before) b x c reads) b laws behind h.0)

-- ---- certificates
pairs_fit : (rows : ℕ) (cert : List (ℕ × ℚ)) → rows < 10 ^ 64 → All (λ (entry : ℕ × ℚ). entry.0 ≤ rows) cert → AllFit (map (λ entry. entry.1) cert) → CertFits cert
pairs_fit rows [] few h k = All-nil IsPairFit
pairs_fit rows ((n, x) ∷ cert) few h k =
    let low : n ≤ rows = All-head (λ (entry : ℕ × ℚ). entry.0 ≤ rows) (n, x) cert h in
    All-cons IsPairFit (n, x) cert (omega arith, All-head FitsFrac x (map (λ entry. entry.1) cert) k)
    (pairs_fit rows cert few (All-tail (λ (entry : ℕ × ℚ). entry.0 ≤ rows) (n, x) cert h) (All-tail FitsFrac x (map (λ entry. entry.1) cert) k))

cert_fits : (rows : ℕ) → rows < 10 ^ 64 → (text : List ℕ) (cert : List (ℕ × ℚ)) → IsCertLine rows text cert → CertFits cert
cert_fits rows few text cert is = pairs_fit rows cert few is.cert_is.within is.fits

certs_fit : (rows count : ℕ) → rows < 10 ^ 64 → (here : Cursor) (cs : List (List (ℕ × ℚ))) (behind : Cursor) → (certs rows count).Reads here cs behind → All CertFits cs
certs_fit rows count few here cs behind h =
    all_items (List (ℕ × ℚ)) (λ before. one_line (plain_rule (IsCertLine rows))) (λ before. nat_lt (length before) count) CertFits (λ before b x c more reads. cert_fits rows few reads.0 x reads.1.1.0) here cs behind h.0

-- ---- nodes
module _ {Row : Type 0} (row_of : Row → RowInt) (v : Plant) where
  behind_fits : (depth : ℕ) → depth ≤ 2 ^ 65 → (line : NodeLine Row) (here : Cursor) (x : NodeOver Row) (behind : Cursor) → (node_behind v depth line).Reads here x behind → NodeNumbersFit (node_of row_of x)
  behind_fits depth low (split_at row) here x behind h = subst (λ y. NodeNumbersFit (node_of row_of y)) (sym h.0) tt
  behind_fits depth low (leaf_of j) here x behind (cs, (c, (cert, e))) =
      let states : v.n ≤ 4 = v.is_plant.states.to_high in
      subst (λ y. NodeNumbersFit (node_of row_of y)) (sym e.0) (certs_fit (cell_rows v.n depth + 1) (row_count v) (omega arith) here cs c cert)
  behind_fits depth low no_move here x behind (cert, (c, (one, e))) =
      let states : v.n ≤ 4 = v.is_plant.states.to_high in
      let rows : row_count v ≤ 60 = row_count_few v in
      subst (λ y. NodeNumbersFit (node_of row_of y)) (sym e.0) (cert_fits (cell_rows v.n depth + row_count v) (omega arith) one.0 cert one.1.1.0)

  -- each node lies as many lines behind the first as there are nodes before it, and no node is deeper than that
  nodes_fit : (laws : ℕ) (rule : List (NodeOver Row) → LineRule Row) (here : Cursor) (read : List (NodeOver Row)) (behind : Cursor) → reach here ≤ 2 ^ 65
      → ReadsItems (NodeOver Row) (λ before. node_at v laws (rule before) (slice_index_or (owed before) 0 0)) (λ before. is_some (slice_get (owed before) 0)) here read behind → All NodeNumbersFit (map (node_of row_of) read)
  nodes_fit laws rule here read behind near h = All-map NodeNumbersFit (node_of row_of) read (each here read behind near h)
    where
      each : (here : Cursor) (read : List (NodeOver Row)) (behind : Cursor) → reach here ≤ 2 ^ 65
          → ReadsItems (NodeOver Row) (λ before. node_at v laws (rule before) (slice_index_or (owed before) 0 0)) (λ before. is_some (slice_get (owed before) 0)) here read behind → All (λ x. NodeNumbersFit (node_of row_of x)) read
      each here [] behind near no_item = All-nil (λ x. NodeNumbersFit (node_of row_of x))
      each here _ behind near (one_more before at x _ reads more one) =
          let item = λ (before : List (NodeOver Row)). node_at v laws (rule before) (slice_index_or (owed before) 0 0) in
          let asks = λ (before : List (NodeOver Row)). is_some (slice_get (owed before) 0) in
          let lines : here.number + length before ≤ at.number = items_few item asks (λ items from x to k. node_takes v laws (rule items) (slice_index_or (owed items) 0 0) from x to k) here before at reads in
          let short : reach at ≤ reach here = items_shorter item asks (λ items. run_node v laws (rule items) (slice_index_or (owed items) 0 0)) here before at reads in
          let low : slice_index_or (owed before) 0 0 ≤ length before = depth_few before in
          All-append (λ y. NodeNumbersFit (node_of row_of y)) before (x ∷ []) (each here before at near reads)
          (All-cons (λ y. NodeNumbersFit (node_of row_of y)) x [] (behind_fits (slice_index_or (owed before) 0 0) (omega arith) one.0 one.1.0 x behind one.1.1.1) (All-nil (λ y. NodeNumbersFit (node_of row_of y))))

written_tree_fits : (v : Plant) (laws : ℕ) (here : Cursor) (tree : List Node) (behind : Cursor) → reach here ≤ 2 ^ 65 → (written_tree v laws).Reads here tree behind → All NodeNumbersFit tree
written_tree_fits v laws here tree behind near (u, (d, (t, (ns, (e, (n, is)))))) =
    let short : reach d ≤ reach here = (run_line (plain_rule (IsWord (codes "tree")))).shorter here u d t in
    subst (All NodeNumbersFit) (sym is.0) (nodes_fit (λ row. row) v laws (λ before. written_split v) d ns e (omega arith) n.0)

named_tree_fits : (v : Plant) (laws : ℕ) (ps : List RowInt) (here : Cursor) (ns : List (NodeOver ℕ)) (behind : Cursor) → reach here ≤ 2 ^ 65 → (named_tree v laws ps).Reads here ns behind → All NodeNumbersFit (map (node_of (plane_named ps)) ns)
named_tree_fits v laws ps here ns behind near (u, (d, (t, (read, (e, (n, is)))))) =
    let short : reach d ≤ reach here = (run_line (plain_rule (IsWord (codes "tree")))).shorter here u d t in
    subst (All NodeNumbersFit) (sym (ap (map (node_of (plane_named ps))) is.0))
    (nodes_fit (plane_named ps) v laws (λ before. named_split (length ps) (planes_used before)) d read e (omega arith) n.0)

-- ---- the whole
record BehindFits (x : Parts) : Type 0 where
  laws : All LawNumbersFit x.laws
  tree : All NodeNumbersFit x.tree

written_fits : (v : Plant) (here : Cursor) (x : Parts) (behind : Cursor) → reach here ≤ 2 ^ 65 → (written v).Reads here x behind → BehindFits x
written_fits v here x behind near (laws, (b, (l, (tree, (c, (t, (u, (f, (w, g))))))))) =
    let short : reach b ≤ reach here = (run_written_laws v).shorter here laws b l in
    subst BehindFits (sym g.0) (record { laws = written_laws_fit v here laws b l; tree = written_tree_fits v (length laws) b tree c (omega arith) t })

named_fits : (v : Plant) (here : Cursor) (x : Parts) (behind : Cursor) → reach here ≤ 2 ^ 65 → (named v).Reads here x behind → BehindFits x
named_fits v here x behind near (fs, (b, (f, (laws, (c, (l, (ps, (d, (p, (ns, (e, (t, (u, (j, (w, g))))))))))))))) =
    let first : reach b ≤ reach here = (run_forms v).shorter here fs b f in
    let second : reach c ≤ reach b = (run_named_laws v fs).shorter b laws c l in
    let third : reach d ≤ reach c = (run_planes v (length fs) (used_by laws)).shorter c ps d p in
    subst BehindFits (sym g.0) (record { laws = named_laws_fit v here b fs laws c f l; tree = named_tree_fits v (length laws) ps d ns e (omega arith) t })

behind_fit : (version : Version) (v : Plant) (here : Cursor) (x : Parts) (behind : Cursor) → reach here ≤ 2 ^ 65 → (behind_plant version v).Reads here x behind → BehindFits x
behind_fit One v here x behind near h = written_fits v here x behind near h
behind_fit Two v here x behind near h = written_fits v here x behind near h
behind_fit Three v here x behind near h = named_fits v here x behind near h

-- the plant is the one whose lines were read
same_plant : (version : Version) (v : Plant) (here : Cursor) (x : Parts) (behind : Cursor) → (behind_plant version v).Reads here x behind → x.plant ≡ v
same_plant One v here x behind (laws, (b, (l, (tree, (c, (t, (u, (f, (w, g))))))))) = ap (λ (p : Parts). p.plant) g.0
same_plant Two v here x behind (laws, (b, (l, (tree, (c, (t, (u, (f, (w, g))))))))) = ap (λ (p : Parts). p.plant) g.0
same_plant Three v here x behind (fs, (b, (f, (laws, (c, (l, (ps, (d, (p, (ns, (e, (t, (u, (j, (w, g))))))))))))))) = ap (λ (q : Parts). q.plant) g.0

pub stated_can_be : SplitSpells → LeafSpells → StatedCanBe
stated_can_be spells_split spells_leaf bytes version x small s =
    let short : reach s.behind_first ≤ reach (start bytes) = (run_line (plain_rule IsVersion)).shorter (start bytes) version s.behind_first s.first in
    let v : Plant = s.lines.0 in
    let between : Cursor = s.lines.1.0 in
    let plant_read = s.lines.1.1.0 in
    let behind_read = s.lines.1.1.1 in
    let shorter : reach between ≤ reach s.behind_first = (run_plant version).shorter s.behind_first v between plant_read in
    let fits = behind_fit version v between x (record { rest = []; number = s.number }) (omega arith) behind_read in
    record {
      controller = stated_is spells_split spells_leaf version s.behind_first x (record { rest = []; number = s.number }) s.lines;
      plant = subst (CanStatePlant version) (sym (same_plant version v between x (record { rest = []; number = s.number }) behind_read)) (stated_plant version s.behind_first v between plant_read);
      laws = fits.laws;
      tree = fits.tree;
    }
