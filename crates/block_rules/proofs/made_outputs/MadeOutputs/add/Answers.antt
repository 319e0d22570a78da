use Rattle.block_rules.proofs.Naming.{added_knows}
use Rattle.block_rules.proofs.made_outputs.MadeOutputs.add.Goals as goal

pub returns-clause-known : goal.returns-clause-known
returns-clause-known c =
    let s = c.in_ok-put_all.ensures in
    added_knows c.args.self.now c.put_all.new.self c.args.place c.args.tx.now.outputs c.requires.place c.requires.known s.added s.origins s.named
    s.known s.newest
