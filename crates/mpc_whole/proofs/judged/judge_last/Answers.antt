use Rattle.std.proofs.Common.{ℤ, List, sym, subst, subst₂}
use Rattle.std.proofs.lemmas.Option.{IfSome_then}
use Rattle.mpc_rows.specs.LinearSystem.{height}
use Rattle.mpc_runs.specs.declared.variables.Seat.{Seat}
use Rattle.mpc_runs.specs.Table.{IsSeated}
use Rattle.mpc_whole.specs.Judged.{IsJudged}
use Rattle.mpc_whole.proofs.judged.judge_last.Goals as goal

pub judge_end-requires-clause-here : goal.judge_end-requires-clause-here
judge_end-requires-clause-here c =
    rw (c.deref.ensures.value, c.deref-2.ensures.value, c.deref-3.ensures.value) (record {
      seated = subst (λ m. IsSeated (height c.args.system.now) c.args.system.now.width m c.args.lists.now.seats.items) (sym c.requires.numbers.count) c.requires.lists.seated;
      columns = c.requires.lists.columns;
      square = c.requires.lists.square;
      some = c.requires.some;
    })

pub judge_end-requires-clause-own : goal.judge_end-requires-clause-own
judge_end-requires-clause-own c = rw c.deref-3.ensures.value c.requires.lists.own

pub returns : goal.returns
returns c =
    let k = c.args.frame.now.scales.now in
    let a = c.args.frame.now.a.now in
    let b = c.args.frame.now.b.now in
    let den = c.args.place.den in
    IfSome_then c.judge_end.result c.judge_end.ensures
    (λ _ judged. subst (λ m. IsJudged c.args.system.now m c.args.lists.now.seats.items k a b den c.args.lists.now.numbers.items 0 0 0) c.requires.numbers.count
    (subst₂ (λ (t : List Seat) (u : List ℤ). IsJudged c.args.system.now c.args.frame.now.count t k a b den u 0 0 0) c.deref.ensures.value c.deref-3.ensures.value judged))
