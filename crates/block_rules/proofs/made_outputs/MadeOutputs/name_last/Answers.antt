use Rattle.std.proofs.Common.{sym, ap, ◌∙◌}
use Rattle.block_rules.proofs.Naming.{named_all}
use Rattle.block_rules.specs.Keys.{key_of_id}
use Rattle.block_rules.proofs.made_outputs.MadeOutputs.name_last.Goals as goal

pub returns-clause-known : goal.returns-clause-known
returns-clause-known c =
    let m = c.args.self.now in
    let size = c.len-self.ensures ∙ m.outputs.ok.0 in
    record {
      front = named_all m.origins m.outputs.items m.named.items c.push.new.self.items m.newest c.insert.new.self m.known c.len-self.result
          c.len.result c.len-place.result c.in_ok-before.before c.key_of_txid-key.result
          (c.len-place.ensures ∙ m.named.ok.0) (c.key_of_txid-key.ensures ∙ ap key_of_id c.txid.ensures) size (c.len.ensures ∙ sym c.len-self.ensures)
          c.requires.front c.requires.last c.in_ok-before.ensures.old c.in_ok-before.ensures.updates c.in_ok-push.ensures.items;
      all = size;
    }
