use Rattle.std.proofs.Common.{◌≡◌, ◌∷◌, refl}
use Rattle.std.proofs.lemmas.Bool.{false≢true}
use Rattle.mpc_law_lines.proofs.CertReading.{no_pair, pair_more, pair_rises, all_pairs, cert_over, refused_position, refused_zero, refused_one, behind_two, two_first, fewer_behind, is_empty, not_empty}
use Rattle.mpc_law_lines.proofs.tree_lines.cert_of.Goals.{In_ok-push}
use Rattle.mpc_law_lines.proofs.tree_lines.cert_of.Goals as goal

pub loop-left-init : goal.loop-left-init
loop-left-init c = no_pair c.args.rows c.args.parts.now c.in_ok-cert.cert c.in_ok-cert.ensures.empty

pub returns-in_default-position_of-clause-is_cert : goal.returns-in_default-position_of-clause-is_cert
returns-in_default-position_of-clause-is_cert c =
    refused_position c.args.rows c.args.parts.now c.loop-left.left.now c.loop-left.cert c.loop-left.last c.loop-left.invariant
    c.position-item.result c.multiplier-item.result (behind_two c.loop-left.left.now) (two_first c.loop-left.left.now c.position-item.result c.multiplier-item.result c.in-len2-up.len_at_least c.position-item.is c.multiplier-item.is)
    c.in_default-position_of.ensures

pub returns-then-is_zero-clause-is_cert : goal.returns-then-is_zero-clause-is_cert
returns-then-is_zero-clause-is_cert c =
    refused_zero c.args.rows c.args.parts.now c.loop-left.left.now c.loop-left.cert c.loop-left.last c.loop-left.invariant
    c.position-item.result c.multiplier-item.result (behind_two c.loop-left.left.now) (two_first c.loop-left.left.now c.position-item.result c.multiplier-item.result c.in-len2-up.len_at_least c.position-item.is c.multiplier-item.is)
    (c.if-is_zero.ensures.value.0 refl)

pub push-requires : goal.push-requires
push-requires c =
    record {
      rises = pair_rises c.args.rows c.args.parts.now c.loop-left.left.now c.loop-left.cert c.loop-left.last c.loop-left.invariant c.in-Some.place c.multiplier-item.result c.in-Some.ensures.1 (λ e. false≢true (c.if-is_zero.ensures.value.1 e));
    }

at : (c : In_ok-push) → c.loop-left.left.now ≡ c.position-item.result ∷ c.multiplier-item.result ∷ behind_two c.loop-left.left.now
at c = two_first c.loop-left.left.now c.position-item.result c.multiplier-item.result c.in-len2-up.len_at_least c.position-item.is c.multiplier-item.is

pub loop-left-smaller : goal.loop-left-smaller
loop-left-smaller c = fewer_behind c.loop-left.left.now c.position-item.result c.multiplier-item.result (at c)

pub loop-left-preserved : goal.loop-left-preserved
loop-left-preserved c =
    pair_more c.args.rows c.args.parts.now c.loop-left.left.now c.loop-left.cert c.push.new.self c.loop-left.last c.loop-left.invariant c.position-item.result c.multiplier-item.result (behind_two c.loop-left.left.now) c.in-Some.place (at c)
    c.in-Some.ensures.0 c.in-Some.ensures.1 c.in-Some.ensures.2 (λ e. false≢true (c.if-is_zero.ensures.value.1 e)) c.in_ok-push.ensures.ok

pub returns-then-is_empty-clause-is_cert : goal.returns-then-is_empty-clause-is_cert
returns-then-is_empty-clause-is_cert c = cert_over c.args.rows c.args.parts.now c.loop-left.left.now c.loop-left.cert c.loop-left.last c.loop-left.invariant

pub returns-then-is_empty-clause-parts : goal.returns-then-is_empty-clause-parts
returns-then-is_empty-clause-parts c = all_pairs c.args.rows c.args.parts.now c.loop-left.left.now c.loop-left.cert c.loop-left.last c.loop-left.invariant (is_empty c.loop-left.left.now c.if-is_empty.ensures)

pub returns-else-is_empty-clause-is_cert : goal.returns-else-is_empty-clause-is_cert
returns-else-is_empty-clause-is_cert c =
    refused_one c.args.rows c.args.parts.now c.loop-left.left.now c.loop-left.cert c.loop-left.last c.loop-left.invariant c.in_default.len_below (not_empty c.loop-left.left.now c.if-is_empty.ensures)
