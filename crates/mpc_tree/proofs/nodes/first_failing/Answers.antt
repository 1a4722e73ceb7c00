use Rattle.mpc_tree.proofs.LeftOut.{certs_joined}
use Rattle.mpc_tree.proofs.nodes.first_failing.Goals as goal

pub returns-in_ok-append-in-Holds-clause-held : goal.returns-in_ok-append-in-Holds-clause-held
returns-in_ok-append-in-Holds-clause-held c =
    let further = rw c.in-Holds.is at c.in_ok-place.ensures.held in
    record {
      none = further.none;
      certs_are = certs_joined c.args.qp.now c.args.cell.now.rows.items c.args.rows.now c.args.met.held c.in_ok-certs-in-Holds.certs c.in-Holds.further c.append.new.self c.requires.left_out.within c.in_ok-certs-in-Holds.ensures further.certs_are c.in_ok-append-in-Holds.ensures.ok;
      fits = further.fits;
    }
