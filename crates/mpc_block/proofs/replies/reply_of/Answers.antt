use Rattle.std.proofs.Common.{◌∙◌, subst}
use Rattle.std.specs.Prelude.{IsSomeAnd}
use Rattle.mpc_block.specs.Walks.{FindsLeaf}
use Rattle.mpc_block.proofs.ReplyLemmas.{serves, no_move_reply, moves_reply, named_law, law_begins}
use Rattle.mpc_block.proofs.replies.reply_of.Goals as goal

pub returns-in-Some-find_leaf-clause-reply : goal.returns-in-Some-find_leaf-clause-reply
returns-in-Some-find_leaf-clause-reply c = λ parts suits width_is.
    let none = c.in_default.ensures in
    let leaf = c.in-Some-find_leaf.leaf in
    no_move_reply c.args.words.now c.args.counts.now _ parts suits none leaf.node leaf.law leaf.start (c.in-Some-find_leaf.ensures parts (serves _ _ _ parts suits none) width_is) c.if-leaf-eq0.true

pub returns-in-Some-2-clause-reply : goal.returns-in-Some-2-clause-reply
returns-in-Some-2-clause-reply c = λ parts suits width_is.
    let none = c.in_default.ensures in
    let leaf = c.in-Some-find_leaf.leaf in
    let s = serves _ _ _ parts suits none in
    let finds = c.in-Some-find_leaf.ensures parts s width_is in
    let leads = law_begins c.args.words.now c.args.counts.now _ parts suits none leaf.node leaf.law leaf.start finds c.if-leaf-eq0.false in
    moves_reply c.args.words.now c.args.counts.now _ parts suits none leaf.node leaf.law leaf.start finds c.if-leaf-eq0.false c.write_moves.new.moves (c.write_moves.auto.moves ∙ suits.room_each) c.table_theorems.ensures.moves_each_input
    (λ of_set numbered. (c.if-write_moves.ensures.written parts of_set leaf.law s width_is suits.room_each leads.0 numbered leads.1).1)

pub returns-in_default-find_leaf-clause-reply : goal.returns-in_default-find_leaf-clause-reply
returns-in_default-find_leaf-clause-reply c = λ parts suits width_is.
    let none = c.in_default.ensures in
    let leaf = c.in-Some-find_leaf.leaf in
    let s = serves _ _ _ parts suits none in
    let finds = c.in-Some-find_leaf.ensures parts s width_is in
    let leads = law_begins c.args.words.now c.args.counts.now _ parts suits none leaf.node leaf.law leaf.start finds c.if-leaf-eq0.false in
    let named = named_law c.args.words.now c.args.counts.now _ parts suits none leaf.node leaf.law leaf.start finds c.if-leaf-eq0.false in
    let no = (c.if-write_moves.ensures.written parts named.0 leaf.law s width_is suits.room_each leads.0 named.1 leads.1).0 in
    cc

pub returns-in_default-find_leaf-2-clause-reply : goal.returns-in_default-find_leaf-2-clause-reply
returns-in_default-find_leaf-2-clause-reply c = λ parts suits width_is.
    subst (λ found. IsSomeAnd found (λ f. FindsLeaf c.args.words.now c.args.counts.now parts f.node f.law f.start)) c.in_default-find_leaf.is (c.find_leaf.ensures parts (serves _ _ _ parts suits c.in_default.ensures) width_is)
