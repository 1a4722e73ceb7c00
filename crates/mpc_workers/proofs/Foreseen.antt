-- Lists of verdicts that were found before the claims of their sets.
use Rattle.std.proofs.Common.{◌≡◌, List, [], ◌∷◌, ◌++◌, drop, sym, subst}
use Rattle.std.proofs.lemmas.List.Elements.{All-drop, All-head, All-push}
use Rattle.mpc_rows.specs.declared.programs.Qp.{Qp}
use Rattle.mpc_rows.specs.Verdicts.{IsRight}
use Rattle.mpc_workers.specs.declared.ahead.Known.{Known}
use Rattle.mpc_workers.specs.Ahead.{AreKnown}

abbrev pub Stay : List Known → List Known → Type 0
Stay old new = (qp : Qp) → AreKnown qp old → AreKnown qp new

-- without the first one
pub stay_popped : (old known rest : List Known) → Stay old known → rest ≡ drop 1 known → Stay old rest
stay_popped old known rest stay is qp a = subst (AreKnown qp) (sym is) (All-drop (λ (k : Known). IsRight qp k.judged.set k.judged.verdict) 1 known (stay qp a))

-- the first one
pub first_right : (qp : Qp) (known rest : List Known) (first : Known) → known ≡ first ∷ rest → AreKnown qp known → IsRight qp first.judged.set first.judged.verdict
first_right qp known rest first is a = All-head (λ (k : Known). IsRight qp k.judged.set k.judged.verdict) first rest (subst (AreKnown qp) is a)

-- and one more behind
pub known_more : (qp : Qp) (known new : List Known) (last : Known) → new ≡ known ++ last ∷ [] → AreKnown qp known → IsRight qp last.judged.set last.judged.verdict → AreKnown qp new
known_more qp known new last is a right = subst (AreKnown qp) (sym is) (All-push (λ (k : Known). IsRight qp k.judged.set k.judged.verdict) known last a right)
