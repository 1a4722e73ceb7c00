use Rattle.std.proofs.Common.{◌≡◌, ◌^◌, ◌<◌, take}
use Rattle.std.specs.Str.Parse.{digits_value}
use Rattle.mpc_words.proofs.naturals.small_value.Given as goal

abbrev pub invariant-loop-place : goal.invariant-loop-place
invariant-loop-place l = record { value : l.value ≡ digits_value 10 (take l.place l.digits); small : l.value < 2 ^ 127 }
