use Rattle.mpc_bench.specs.Digests.{number_digit, number_at}
use Rattle.mpc_bench.proofs.DigestLemmas.{no_pass, pass_more}
use Rattle.mpc_bench.proofs.fractions.mpc_frac_repeat_reads.Goals as goal

pub rounds-init : goal.rounds-init
rounds-init c = no_pass _

pub rounds-preserved : goal.rounds-preserved
rounds-preserved c =
    pass_more (λ place. number_digit (number_at c.args.parts.now place)) c.rounds.counter c.rounds.digest c.read_pass-digest.result c.read_pass-digest.ensures c.rounds.invariant
