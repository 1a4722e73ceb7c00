use Rattle.std.proofs.Common.{◌≡◌, ◌<◌, ◌++◌, ◌∷◌, [], List, sym, subst, length, refl, get_or, slice_get, Some, arith, rules}
use Rattle.std.proofs.lemmas.List.Elements.{All-push}
use Rattle.std.proofs.lemmas.Option.{slice_get_read}
use Rattle.std.specs.Prelude.{All}
use Rattle.mpc_rows.specs.declared.laws.Law.{Law}
use Rattle.mpc_rows.specs.declared.programs.Qp.{Qp}
use Rattle.mpc_rows.specs.declared.places.Place.{Place}
use Rattle.mpc_tree.specs.declared.errors.Stop.{Stop}
use Rattle.mpc_tree.specs.declared.errors.Stop.TheVariants.{Refused as Refuse}
use Rattle.mpc_tree.specs.declared.errors.TreeError.{TreeError}
use Rattle.mpc_tree.specs.declared.errors.TreeError.TheVariants.{Wide}
use Rattle.mpc_tree.specs.declared.frontier.Piece.{Piece}
use Rattle.mpc_tree.specs.declared.frontier.Piece.TheVariants.{Closed, Open, Refused}
use Rattle.mpc_tree.specs.declared.runs.OpenCell.{OpenCell}
use Rattle.mpc_tree.specs.declared.threads.Drawn.{Drawn}
use Rattle.mpc_tree.specs.Causes.{IfRefused, IfWide}
use Rattle.mpc_tree.specs.Growth.{cell_of}
use Rattle.mpc_tree.specs.Pieces.{Becomes, IsDrawn}
use Rattle.mpc_tree.specs.WideRuns.{IsFirstWide}
use Rattle.mpc_tree.proofs.PieceLemmas.{refusal_becomes, tree_becomes}
use Rattle.mpc_tree.proofs.threads.drawn_cells.Goals as goal
use Rattle.mpc_tree.proofs.threads.drawn_cells.Goals.{else-loop-draw-test, then-loop-draw-test+then-pieces-piece, then-loop-draw-test+else-pieces-piece+in-Open+in-Err-Refused-Wide+in_ok-push-in-Err-Refused-Wide, then-loop-draw-test+else-pieces-piece+in-Open+in-Err-GivenUp}

-- one more that was drawn
drawn_more : (qp : Qp) (laws : List Law) (pieces : List Piece) (drawn more : List Drawn) (d : Drawn) (root : OpenCell) (piece : Piece) → d.piece < length pieces → piece ≡ get_or pieces d.piece piece → piece ≡ Open root → Becomes qp laws (Open root) d.built → All (IsDrawn qp laws pieces) drawn → more ≡ drawn ++ d ∷ [] → All (IsDrawn qp laws pieces) more
drawn_more qp laws pieces drawn more d root piece within read opened becomes all pushed =
    let is : slice_get pieces d.piece ≡ Some (Open root) = subst (λ p. slice_get pieces d.piece ≡ Some p) opened (slice_get_read pieces (length pieces) d.piece piece refl within read) in
    let own : IsDrawn qp laws pieces d = record { piece = Open root; is = is; becomes = becomes } in
    subst (All (IsDrawn qp laws pieces)) (sym pushed) (All-push (IsDrawn qp laws pieces) drawn d all own)

-- the place that is named, where a cell is refused
named : (P : Place → Type 0) (stop : Stop) (e : TreeError) (place : Place) → stop ≡ Refuse e → e ≡ Wide place → IfRefused stop P → P place
named P stop e place s w h = subst (λ x. IfWide x P) w (subst (λ x. IfRefused x P) s h)

pub loop-draw-init : goal.loop-draw-init
loop-draw-init c =
    let none : All (IsDrawn c.args.qp.now c.args.laws.now c.args.pieces.now) c.new-drawn.result.items = search rules in
    record { drawn = none; kept = c.requires.kept }

pub loop-draw-preserved : goal.loop-draw-preserved
loop-draw-preserved c =
    let d : Drawn = record { piece = c.loop-draw.place; built = Closed c.in-Ok.tree } in
    let becomes = tree_becomes c.args.qp.now c.args.laws.now c.in-Open.root c.in-Ok.tree c.in-Ok.ensures.built in
    let pushed : c.push-in-loop-draw.new.self.items ≡ c.loop-draw.drawn.items ++ d ∷ [] = search rules in
    record {
      drawn = drawn_more c.args.qp.now c.args.laws.now c.args.pieces.now c.loop-draw.drawn.items c.push-in-loop-draw.new.self.items d c.in-Open.root c.index-pieces-piece.result (omega arith) c.index-pieces-piece.is c.in-Open.is becomes c.loop-draw.invariant.drawn pushed;
      kept = c.in-Ok.ensures.kept;
    }

pub returns : goal.returns
returns c =
    let qp = c.args.qp.now in
    let laws = c.args.laws.now in
    let pieces = c.args.pieces.now in
    elim c.loop-draw-test.branch [
      | else-loop-draw-test w ↦ subst (λ v. All (IsDrawn qp laws pieces) v.items) (sym w.drawn-is) c.loop-draw.invariant.drawn
      | then-loop-draw-test+then-pieces-piece w ↦ subst (λ v. All (IsDrawn qp laws pieces) v.items) (sym w.drawn-is) c.loop-draw.invariant.drawn
      | then-loop-draw-test+else-pieces-piece+in-Open+in-Err-Refused-Wide+in_ok-push-in-Err-Refused-Wide w ↦
          let d : Drawn = record { piece = c.loop-draw.place; built = Refused w.in-Err-Refused-Wide.place } in
          let wide : w.in-Err-Refused-Wide.field-0-0 ≡ Wide w.in-Err-Refused-Wide.place = rw w.in-Err-Refused-Wide.field-0-is at w.in-Err-Refused-Wide.field-0-0-is in
          let refused = named (IsFirstWide qp laws (cell_of w.in-Open.root) 1) w.in-Err-Refused-Wide.field-0 _ w.in-Err-Refused-Wide.place w.in-Err-Refused-Wide.field-0-is wide w.in-Err-Refused-Wide.ensures.wide in
          let becomes = refusal_becomes qp laws w.in-Open.root w.in-Err-Refused-Wide.place refused in
          let pushed : w.push.new.self.items ≡ c.loop-draw.drawn.items ++ d ∷ [] = search rules in
          subst (λ v. All (IsDrawn qp laws pieces) v.items) (sym w.drawn-is) (drawn_more qp laws pieces c.loop-draw.drawn.items w.push.new.self.items d w.in-Open.root w.index-pieces-piece.result (omega arith) w.index-pieces-piece.is w.in-Open.is becomes c.loop-draw.invariant.drawn pushed)
      | then-loop-draw-test+else-pieces-piece+in-Open+in-Err-GivenUp w ↦ subst (λ v. All (IsDrawn qp laws pieces) v.items) (sym w.drawn-is) c.loop-draw.invariant.drawn
    ]
