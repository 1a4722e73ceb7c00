use Rattle.std.proofs.Common.{◌∙◌, ◌++◌, ◌∷◌, [], ap, length, map, sym}
use Rattle.std.proofs.lemmas.List.{length-map}
use Rattle.mpc_exact.specs.Rational.{int}
use Rattle.mpc_space.proofs.Entries.{length-scale}
use Rattle.mpc_rows.specs.SetRuns.{box_rows}
use Rattle.mpc_systems.specs.Systems.{hold_system}
use Rattle.mpc_systems.proofs.SystemRows.{last_part}
use Rattle.mpc_systems.proofs.systems.hold_system.Goals as goal

pub push-requires : goal.push-requires
push-requires c = ap (λ r. length r.a) c.in_ok-broken_row.ensures ∙ length-scale _ (map int c.args.row.now.a) ∙ length-map c.args.row.now.a int ∙ c.requires.plain.size ∙ sym c.in_ok-system.ensures.width

pub returns : goal.returns
unfolding hold_system
returns c = last_part (length c.args.qp.now.counts) c.in_ok-system.system.rows (box_rows (length c.args.qp.now.counts) c.args.qp.now.counts) c.args.cell.now _ c.push.new.self c.in_ok-system.ensures.rows (c.in_ok-push.ensures.ok ∙ ap (λ r. c.in_ok-system.system.rows ++ r ∷ []) c.in_ok-broken_row.ensures) (c.in_ok-push.ensures.width ∙ c.in_ok-system.ensures.width)
