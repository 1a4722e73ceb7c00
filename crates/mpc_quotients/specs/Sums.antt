-- How sums are formed, and what may be said of them then.
use Rattle.std.specs.Prelude.{Bool, true, false}
use Rattle.mpc_quotients.specs.declared.whole_numbers.Sums.{Sums}
use Rattle.mpc_quotients.specs.declared.whole_numbers.Sums.TheVariants.{Wide, Short, Four}

-- whether they are formed in 64 bits
abbrev pub are_short : Sums → Bool
are_short Wide = false
are_short Short = true
are_short Four = true

-- whether they are those of four products
abbrev pub are_of_four : Sums → Bool
are_of_four Wide = false
are_of_four Short = false
are_of_four Four = true
