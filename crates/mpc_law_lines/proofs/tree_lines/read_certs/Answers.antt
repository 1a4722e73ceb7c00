use Rattle.std.proofs.Common.{ℕ, ◌<◌, List, length, ap, sym, subst, nat_lt}
use Rattle.mpc_exact.specs.Rational.{ℚ}
use Rattle.mpc_grammar.specs.Reading.{one_line, ReadsItems, no_item}
use Rattle.mpc_grammar.specs.PlantGrammar.{plain_rule}
use Rattle.mpc_grammar.specs.TreeGrammar.{IsCertLine}
use Rattle.mpc_grammar.specs.Outcomes.{more_read, asks_for_more}
use Rattle.mpc_law_lines.proofs.TreeReading.{one_longer}
use Rattle.mpc_law_lines.proofs.tree_lines.read_certs.Goals as goal

pub loop-i-init : goal.loop-i-init
loop-i-init c =
    record {
      so_many = ap length c.in_ok-read.ensures.empty;
      reads = subst (λ items. ReadsItems (List (ℕ × ℚ)) (λ before. one_line (plain_rule (IsCertLine c.args.rows))) (λ before. nat_lt (length before) c.args.count) c.args.lines.now items c.args.lines.now) (sym c.in_ok-read.ensures.empty) no_item;
    }

pub loop-i-preserved : goal.loop-i-preserved
loop-i-preserved c =
    record {
      so_many = one_longer c.loop-i.read c.push.new.self c.in_ok-cert.cert c.loop-i._i c.in_ok-push.ensures.ok c.loop-i.invariant.so_many;
      reads = more_read (λ before. one_line (plain_rule (IsCertLine c.args.rows))) (λ (before : List (List (ℕ × ℚ))). nat_lt (length before) c.args.count) c.args.lines.now c.loop-i.lines c.read_cert.new.lines c.loop-i.read c.push.new.self c.in_ok-cert.cert
          c.loop-i.invariant.reads (asks_for_more c.loop-i.read c.args.count (subst (λ n. n < c.args.count) (sym c.loop-i.invariant.so_many) c.loop-i-test.true)) c.in_ok-cert.ensures c.in_ok-push.ensures.ok;
    }
