use Rattle.std.proofs.Common.{◌≡◌, ◌++◌, take, map, length}
use Rattle.mpc_frac.specs.Text.{text_of as fraction_text}
use Rattle.mpc_words.specs.Words.{behind_blanks}
use Rattle.mpc_grammar.specs.PlantGrammar.{AllFit}
use Rattle.mpc_writing.proofs.words.write_fractions.Given as goal

abbrev pub invariant-loop-fraction : goal.invariant-loop-fraction
invariant-loop-fraction l = record {
  text : l.out.items ≡ l.initial.out.items ++ behind_blanks (map fraction_text (take l.fraction-index l.fractions));
  fits : AllFit (take l.fraction-index l.fractions);
  kept : take (length l.fn.out.items) l.out.items ≡ l.fn.out.items;
}
