use Rattle.std.proofs.Math.Seq.{take-length}
use Rattle.std.proofs.Common.{◌≡◌, ◌≤◌, length, arith, ◌+◌, ◌∷◌, ◌++◌, [], take, sym, ap, subst, ◌∙◌}
use Rattle.std.proofs.lemmas.List.{take_more, take_all}
use Rattle.std.proofs.lemmas.Option.{slice_get_within, get_or_from_slice_get}
use Rattle.mpc_writing.specs.PlaneNames.{AreNodesNumbered}
use Rattle.mpc_writing.specs.Names.{AreNames}
use Rattle.mpc_writing.proofs.PlaneLemmas.{nodes_none, nodes_more, good_at}
use Rattle.mpc_writing.proofs.KeptTexts.{kept_then}
use Rattle.mpc_writing.proofs.tree_lines.write_nodes.Goals as goal

pub loop-k-init : goal.loop-k-init
loop-k-init c = record {
  numbered = λ plant good are. nodes_none plant c.args.out.now.items (AreNames c.args.names.now) are;
  kept = take-length c.args.out.now.items;
  names_kept = take-length c.args.names.now.text.items;
}

pub loop-k-preserved : goal.loop-k-preserved
loop-k-preserved c = record {
  numbered = λ plant good none.
      let nodes = c.args.tree.now in
      let node = c.at.result.now in
      let k = c.loop-k.k in
      let inside = slice_get_within nodes k node c.at.ensures in
      let read = sym (get_or_from_slice_get nodes k node node c.at.ensures) in
      let before = c.loop-k.invariant.numbered plant good none in
      let same : take k nodes ++ node ∷ [] ≡ take (k + 1) nodes = ap (λ l. take k nodes ++ l ∷ []) read ∙ sym (take_more nodes k node inside) in
      subst (λ ns. AreNodesNumbered plant ns c.args.out.now.items c.write_node.new.out.items (AreNames c.write_node.new.names)) same
      (nodes_more plant (take k nodes) node c.args.out.now.items c.loop-k.out.items c.write_node.new.out.items (AreNames c.loop-k.names) (AreNames c.write_node.new.names)
      before (c.in_ok-write_node.ensures.numbered plant before.planes (good_at plant nodes k node good inside read) before.planes_are));
  kept = kept_then _ _ _ c.loop-k.invariant.kept c.write_node.ensures.kept;
  names_kept = kept_then _ _ _ c.loop-k.invariant.names_kept c.write_node.ensures.names_kept;
}

pub returns-clause-numbered : goal.returns-clause-numbered
returns-clause-numbered c = λ plant good none.
    let done : length c.args.tree.now ≤ c.loop-k.k = omega (arith, c.len-k-end.ensures, c.loop-k-test.false) in
    subst (λ ns. AreNodesNumbered plant ns c.args.out.now.items c.loop-k.out.items (AreNames c.loop-k.names)) (take_all c.loop-k.k c.args.tree.now done) (c.loop-k.invariant.numbered plant good none)

pub returns-in_err-write_node-clause-kept : goal.returns-in_err-write_node-clause-kept
returns-in_err-write_node-clause-kept c = kept_then _ _ _ c.loop-k.invariant.kept c.write_node.ensures.kept

pub returns-in_err-write_node-clause-names_kept : goal.returns-in_err-write_node-clause-names_kept
returns-in_err-write_node-clause-names_kept c = kept_then _ _ _ c.loop-k.invariant.names_kept c.write_node.ensures.names_kept
