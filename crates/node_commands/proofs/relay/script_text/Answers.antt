use Rattle.std.proofs.Common.{Ok, sym, subst}
use Rattle.node_commands.specs.Relaying.{IsScriptText}
use Rattle.node_commands.proofs.RelayLemmas.{script-none, script-read}
use Rattle.node_commands.proofs.relay.script_text.Goals as goal

pub returns-then-named-clause-text : goal.returns-then-named-clause-text
returns-then-named-clause-text g c = script-read c.args.named c.args.limit _ c.read_text.result c.if-named.true c.read_text.ensures.text

pub returns-else-named-clause-text : goal.returns-else-named-clause-text
returns-else-named-clause-text g c =
    let left = g.P.Source.left c.args.source.now in
    subst (λ text. IsScriptText c.args.named c.args.limit left (Ok text)) (sym c.new.ensures.items)
    (script-none c.args.named c.args.limit left c.if-named.false)
