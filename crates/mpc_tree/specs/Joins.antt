-- The place of a run in the numbers of a whole tree.
use Rattle.std.specs.Prelude.{◌≡◌, ℕ, ◌+◌}
use Rattle.mpc_rows.specs.declared.places.Place.{Place}
use Rattle.mpc_rows.specs.declared.places.Place.TheVariants.{Meet, Holds, Joint}
use Rattle.mpc_tree.specs.declared.errors.TreeError.{TreeError}
use Rattle.mpc_tree.specs.declared.errors.TreeError.TheVariants.{Wide}

-- the place of a run at a node, where so many nodes stand before those that were counted
abbrev pub place_behind : ℕ → Place → Place
place_behind before (Meet node law) = Meet (node + before) law
place_behind before (Holds node law row) = Holds (node + before) law row
place_behind before (Joint node) = Joint (node + before)
place_behind before place = place

-- the refusal is of a run that is too wide, at this place where so many nodes stand before those that were counted
abbrev pub IsWideBehind : ℕ → TreeError → Place → Type 0
IsWideBehind before e place = (own : Place) × (e ≡ Wide own) × (place ≡ place_behind before own)
