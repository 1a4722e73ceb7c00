use Rattle.std.proofs.Common.{◌≡◌, ◌++◌, List, ℤ, length, take, drop, refl, sym, ◌∙◌, ap, subst}
use Rattle.std.proofs.lemmas.List.{take_at}
use Rattle.mpc_sweep.specs.declared.numbers.Swept.{Swept}
use Rattle.mpc_sweep.specs.Steps.{AreSweptRows}
use Rattle.mpc_sweep.proofs.SweptOnce.{IsOnce, swept_once}
use Rattle.mpc_sweep.proofs.rows.sweep_rows.Goals as goal

pub returns : goal.returns
returns c = λ done t ps rows columns before h at behind above.
    let s = c.args.from.now in
    let p = c.args.pivot_place in
    let new = c.write_swept_rows.new.numbers in
    let long : length new ≡ c.resize.new.self.len = c.write_swept_rows.auto.numbers ∙ c.as_mut_slice.ensures.len in
    let items : take c.resize.new.self.len (new ++ drop (length new) c.resize.new.self.items) ≡ new = take_at new (drop (length new) c.resize.new.self.items) c.resize.new.self.len long in
    let out : Swept = record { rows = s.rows; columns = s.columns; first = c.args.first; den = c.in-Some.scale.den; most = c.in-Some.scale.most; numbers = _ } in
    let once : IsOnce s out p c.args.first = record {
      rows = refl;
      columns = refl;
      first_told = refl;
      size = ap (λ (xs : List ℤ). length xs) items ∙ long ∙ c.in_ok-resize.ensures.len;
      swept = subst (AreSweptRows s p c.args.first c.in-Some.scale.den c.in-Some.scale.most) (sym items) c.in-Some.ensures;
      within = c.requires.first;
    }
    in
    swept_once c.over_theorems.ensures s out p c.args.first c.requires.table c.requires.row c.requires.column c.requires.pivot once t ps rows columns before h at behind above
