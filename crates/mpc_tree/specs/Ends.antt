-- What the run of a system ends with.
use Rattle.std.specs.Prelude.{◌≡◌, IfSome}
use Rattle.mpc_rows.specs.LinearSystem.{LinearSystem}
use Rattle.mpc_simplex.specs.Answer.{HasPoint}
use Rattle.mpc_tree.specs.declared.certs.End.{End}
use Rattle.mpc_tree.specs.declared.certs.End.TheVariants.{Point, Refuted}
use Rattle.mpc_tree.specs.LeafCerts.{IsCertOf}

-- a point, with the run where it is kept, or a certificate that there is none
abbrev pub IsEndOf : LinearSystem → End → Type 0
IsEndOf s (Point run) = HasPoint s × IfSome run (λ kept. kept ≡ s)
IsEndOf s (Refuted cert) = (¬ HasPoint s) × IsCertOf s cert
