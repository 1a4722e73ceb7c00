use Rattle.std.proofs.Common.{◌≡◌, ◌+◌, ◌≤◌, ◌^◌, true, take}
use Rattle.std.specs.List.{list_all}
use Rattle.std.specs.Char.{is_ascii_digit}
use Rattle.mpc_plant.specs.Decimals.{decimal_value}
use Rattle.mpc_plant.proofs.numerals.digits_value.Given as goal

abbrev pub invariant-loop-byte : goal.invariant-loop-byte
invariant-loop-byte l = record {
  digits : list_all is_ascii_digit (take l.byte-index l.text) ≡ true;
  value : l.value ≡ decimal_value (take l.byte-index l.text);
  small : l.value + 1 ≤ 10 ^ l.byte-index;
}
