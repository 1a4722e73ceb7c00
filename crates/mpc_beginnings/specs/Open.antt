-- A workspace that is open for a system: runs with further rows behind that one's need no copy of it.
use Rattle.std.specs.Prelude.{◌≡◌, IfSome}
use Rattle.mpc_rows.specs.LinearSystem.{LinearSystem}
use Rattle.mpc_beginnings.specs.declared.kept.Workspace.{Workspace}

-- the system that the workspace has, if it has one, is this one
abbrev pub IsOpenFor : LinearSystem → Workspace → Type 0
IsOpenFor s w = IfSome w.system (λ t. t ≡ s)
