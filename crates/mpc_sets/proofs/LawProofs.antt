-- The laws of sets of rows.
use Rattle.mpc_sets.specs.SetTheorems.{MemberTheorems, OrderTheorems, CountTheorems, GivenWithoutOne}
use Rattle.mpc_sets.proofs.RowSets.{Contains-from_among, Among-from_contains, Among_at, Among_within, rises_last, with_row-last, length-without_row}
use Rattle.mpc_sets.proofs.SetOrders.{IsBefore-irrefl, IsBefore-trans, IsBefore-cases, shorter_before, before_size}
use Rattle.mpc_sets.proofs.Counting.{length-sets-of_forty, length-sets-of_four, length-sets-of_sixty}
use Rattle.mpc_sets.proofs.Joining.{next_without, lacks_row}

pub member_theorems : MemberTheorems
member_theorems = record {
  contained = Contains-from_among;
  among = Among-from_contains;
  in_place = Among_at;
  within = Among_within;
  one_more = rises_last;
  greatest_last = λ s row h. with_row-last s row h;
  one_fewer = λ low high row s r a. length-without_row row low high s r a;
  lacks_one = λ rows row s h a. lacks_row rows s row h a;
}

pub order_theorems : OrderTheorems
order_theorems = record { irreflexive = IsBefore-irrefl; transitive = IsBefore-trans; total = IsBefore-cases; fewer_first = shorter_before; first_not_larger = before_size }

pub count_theorems : CountTheorems
count_theorems = record { six_of_forty = length-sets-of_forty; four_of_sixty = length-sets-of_four; six_of_sixty = length-sets-of_sixty }

pub given_without_one : GivenWithoutOne
given_without_one grown rows row s n a = next_without grown rows s row n a
