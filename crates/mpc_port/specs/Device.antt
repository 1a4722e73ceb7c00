-- A source or a sink in memory whose calls fail by plan.
use Rattle.std.specs.Prelude.{ℕ, List, Contains}
use Rattle.mpc_port.specs.Faults.{next_count}

-- the bytes that are left or were taken, the most bytes that go through one call, the numbers of the calls that fail,
-- the number of the last call, and the count of faults
pub record Device : Type 0 where
  pub bytes : List ℕ
  pub piece : ℕ
  pub fails : List ℕ
  pub calls : ℕ
  pub faults : ℕ

-- a device before its first call, which has the number 1
abbrev pub new_device : List ℕ → ℕ → List ℕ → Device
new_device bytes piece fails = record { bytes = bytes; piece = piece; fails = fails; calls = 0; faults = 0 }

-- the next call is one of those that fail
abbrev pub NextFails : Device → Type 0
NextFails device = Contains device.fails (next_count device.calls)

-- a call failed: it took its number and raised the count of faults
abbrev pub after_failure : Device → Device
after_failure device = record device { calls = next_count device.calls; faults = next_count device.faults }

-- a call didn't fail: it took its number and left these bytes
abbrev pub after_call : Device → List ℕ → Device
after_call device bytes = record device { bytes = bytes; calls = next_count device.calls }
