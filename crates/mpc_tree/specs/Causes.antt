-- Why a tree, or a part of it, isn't built.
use Rattle.std.specs.Prelude.{⊤}
use Rattle.mpc_rows.specs.declared.places.Place.{Place}
use Rattle.mpc_tree.specs.declared.errors.TreeError.{TreeError}
use Rattle.mpc_tree.specs.declared.errors.TreeError.TheVariants.{Wide, NoMemory}
use Rattle.mpc_tree.specs.declared.errors.Stop.{Stop}
use Rattle.mpc_tree.specs.declared.errors.Stop.TheVariants.{Refused, GivenUp}

-- what holds of the place that is named as too wide
abbrev pub IfWide : TreeError → (Place → Type 0) → Type 0
IfWide (Wide place) P = P place
IfWide NoMemory P = ⊤

-- the same of a part that is refused
abbrev pub IfRefused : Stop → (Place → Type 0) → Type 0
IfRefused (Refused e) P = IfWide e P
IfRefused GivenUp P = ⊤

-- what holds where a part is given up
abbrev pub IfGivenUp : Stop → Type 0 → Type 0
IfGivenUp (Refused e) P = ⊤
IfGivenUp GivenUp P = P
