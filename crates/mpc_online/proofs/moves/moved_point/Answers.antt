use Rattle.std.proofs.Common.{◌≡◌, Option, IfSome, length, sym, ◌∙◌, subst}
use Rattle.mpc_space.specs.Vector.{vec_add, vec_scale}
use Rattle.mpc_space.proofs.Entries.{length-add, length-scale}
use Rattle.mpc_wholes.specs.declared.numbers.Wholes.{Wholes}
use Rattle.mpc_wholes.specs.Wholes.{IsOver}
use Rattle.mpc_online.specs.Wholes.{entries_of}
use Rattle.mpc_online.proofs.WholeMoves.{first_is}
use Rattle.mpc_online.proofs.WholePoints.{whole_few, whole_size, whole_over}
use Rattle.mpc_online.proofs.moves.moved_point.Goals as goal

pub moved_in_wholes-requires : goal.moved_in_wholes-requires
moved_in_wholes-requires c = whole_few c.args.point c.in-Whole.numbers c.in-Whole.count c.in-Whole.is c.requires.few

pub returns-in-Some-moved_in_wholes-clause-value : goal.returns-in-Some-moved_in_wholes-clause-value
returns-in-Some-moved_in_wholes-clause-value c =
    let xs = entries_of c.args.point in
    let ds = c.args.direction.now.point.items in
    let s = c.args.scale.now in
    let l : length xs ≡ c.in-Whole.count = whole_size c.args.point c.in-Whole.numbers c.in-Whole.count c.in-Whole.is in
    let step : IsOver ds c.in-Some.step = subst (λ (o : Option Wholes). IfSome o (IsOver c.args.direction.now.point.items)) c.in-Some.is c.requires.whole in
    first_is c.in-Some-moved_in_wholes.next c.in-Whole.count (vec_add xs (vec_scale s ds))
    (c.in-Some-moved_in_wholes.ensures.value xs ds (whole_over c.args.point c.in-Whole.numbers c.in-Whole.count c.in-Whole.is c.requires.few) step l (c.requires.direction ∙ l))
    (length-add xs (vec_scale s ds) (sym c.requires.direction ∙ sym (length-scale s ds)) ∙ l)

pub returns-in-Some-moved_in_wholes-clause-wide : goal.returns-in-Some-moved_in_wholes-clause-wide
returns-in-Some-moved_in_wholes-clause-wide c =
    let l : length (entries_of c.args.point) ≡ c.in-Whole.count = whole_size c.args.point c.in-Whole.numbers c.in-Whole.count c.in-Whole.is in
    c.in-Some-moved_in_wholes.ensures.fits (entries_of c.args.point) c.args.direction.now.point.items
    (whole_over c.args.point c.in-Whole.numbers c.in-Whole.count c.in-Whole.is c.requires.few)
    (subst (λ (o : Option Wholes). IfSome o (IsOver c.args.direction.now.point.items)) c.in-Some.is c.requires.whole) l (c.requires.direction ∙ l)
