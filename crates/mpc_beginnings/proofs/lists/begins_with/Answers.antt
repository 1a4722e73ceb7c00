use Rattle.std.proofs.Common.{◌≡◌, ◌∙◌, length, get_or, take, sym, ap}
use Rattle.std.proofs.lemmas.Bool.Decides.{Decides-eqb}
use Rattle.std.proofs.lemmas.List.{get_or-take}
use Rattle.std.proofs.lemmas.Slice.Eq.{slice_eq-Decides}
use Rattle.mpc_beginnings.proofs.lists.begins_with.Goals as goal

pub returns : goal.returns
returns c t x h =
    let same : take (length c.args.first.now) c.args.scales.now ≡ c.args.first.now = (slice_eq-Decides Decides-eqb _ _ c.eq.result c.eq.ensures).0 t in
    sym (get_or-take (length c.args.first.now) c.args.scales.now x 0 h) ∙ ap (λ xs. get_or xs x 0) same
