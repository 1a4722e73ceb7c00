-- For given bytes there is one text of replies and one text in version 3.
use Rattle.std.proofs.Common.{◌≡◌, subst}
use Rattle.mpc_grammar.specs.declared.versions.Version.TheVariants.{Three}
use Rattle.mpc_grammar.specs.FileGrammar.{Spells}
use Rattle.mpc_grammar.specs.TextTheorems.{OneController, OneText as OneFileText}
use Rattle.mpc_table.specs.ReplyLines.{AreRepliesOf, OneText}
use Rattle.mpc_files.specs.FileTheorems.{OneReplyText, OneConversion, ThreeIsKept}
use Rattle.mpc_files.proofs.OutcomeLemmas.{same_parts}

pub one_reply_text : OneController → OneText → OneReplyText
one_reply_text one text_law bytes lines text other short x y =
    let same : x.parts ≡ y.parts = same_parts one bytes x.parts y.parts short x.given.spelled y.given.spelled in
    text_law y.parts lines text other y.given.of_shape.shapes.complete (subst (λ p. AreRepliesOf p lines text) same x.replies) y.replies

pub one_conversion : OneController → OneFileText → OneConversion
one_conversion one text_law bytes text other short x y =
    let same : x.parts ≡ y.parts = same_parts one bytes x.parts y.parts short x.spelled y.spelled in
    text_law text other Three y.parts (subst (Spells text Three) same x.written) y.written

pub three_is_kept : OneController → OneFileText → ThreeIsKept
three_is_kept one text_law bytes text parts short s x =
    let same : x.parts ≡ parts = same_parts one bytes x.parts parts short x.spelled (Three, s) in
    text_law text bytes Three parts (subst (Spells text Three) same x.written) s
