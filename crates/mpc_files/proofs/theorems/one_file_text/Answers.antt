use Rattle.mpc_files.proofs.TextLemmas.{one_reply_text, one_conversion, three_is_kept}
use Rattle.mpc_files.proofs.theorems.one_file_text.Goals as goal

pub returns : goal.returns
returns c =
    let one = c.one_reading.ensures.one_controller in
    record { replies = one_reply_text one c.one_text-2.ensures; conversion = one_conversion one c.one_text.ensures; kept = three_is_kept one c.one_text.ensures }
