-- What one turn of a run on whole numbers finds.
use Rattle.std.specs.Prelude.{⊤}
use Rattle.mpc_whole.specs.declared.whole.Ending.{Ending}
use Rattle.mpc_whole.specs.declared.whole.Place.{Place}
use Rattle.mpc_whole.specs.declared.whole.Found.{Found}
use Rattle.mpc_whole.specs.declared.whole.Found.TheVariants.{Ended, Next}
use Rattle.mpc_whole.specs.declared.judged.WidePlace.{WidePlace}
use Rattle.mpc_whole.specs.declared.judged.JudgedTurn.{JudgedTurn}
use Rattle.mpc_whole.specs.declared.judged.JudgedTurn.TheVariants.{Ends, Moves}

abbrev pub IfEnded : Found → (Ending → Type 0) → Type 0
IfEnded (Ended e) P = P e
IfEnded (Next p) P = ⊤

abbrev pub IfNext : Found → (Place → Type 0) → Type 0
IfNext (Ended e) P = ⊤
IfNext (Next p) P = P p

abbrev pub IfJudgedEnd : JudgedTurn → (Ending → Type 0) → Type 0
IfJudgedEnd (Ends e) P = P e
IfJudgedEnd (Moves p) P = ⊤

abbrev pub IfJudgedNext : JudgedTurn → (WidePlace → Type 0) → Type 0
IfJudgedNext (Ends e) P = ⊤
IfJudgedNext (Moves p) P = P p
