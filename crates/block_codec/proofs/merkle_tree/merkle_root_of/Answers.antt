use Rattle.std.proofs.Common.{sym, arith}
use Rattle.block_codec.proofs.MerkleLaws.{one-id}
use Rattle.block_codec.proofs.merkle_tree.merkle_root_of.Goals as goal

pub returns-in-len1-clause-exact : goal.returns-in-len1-clause-exact
returns-in-len1-clause-exact c = sym (one-id c.args.ids.now _ (omega (arith, c.in-len1.len_at_least, c.in-len1.len_below))).0

pub returns-in-len1-clause-meaning : goal.returns-in-len1-clause-meaning
returns-in-len1-clause-meaning c = (one-id c.args.ids.now _ (omega (arith, c.in-len1.len_at_least, c.in-len1.len_below))).1
