-- How a late place is written.
use Rattle.std.specs.Prelude.{ℕ, List, ◌++◌, codes, decimal}
use Rattle.mpc_status.specs.declared.late.LatePlace.{LatePlace}
use Rattle.mpc_status.specs.declared.late.LatePlace.TheVariants.{Next, Tight}
use Rattle.mpc_recur.specs.NextText.{next_text}

abbrev pub late_text : LatePlace → List ℕ
late_text (Next one) = codes "next " ++ next_text one
late_text (Tight row) = codes "tight " ++ decimal row
