-- How a target is written, with the number of the leaf before it.
use Rattle.std.specs.Prelude.{ℕ, List, ◌++◌, codes, decimal}
use Rattle.mpc_recur.specs.declared.answers.Target.{Target}
use Rattle.mpc_recur.specs.declared.answers.Target.TheVariants.{Low, High, NoMove}
use Rattle.mpc_recur.specs.declared.answers.Next.{Next}

abbrev pub target_text : Target → List ℕ
target_text (Low i) = codes "low " ++ decimal i
target_text (High i) = codes "high " ++ decimal i
target_text (NoMove number) = codes "none " ++ decimal number

-- as `4 high 1`
abbrev pub next_text : Next → List ℕ
next_text one = decimal one.leaf ++ codes " " ++ target_text one.target
