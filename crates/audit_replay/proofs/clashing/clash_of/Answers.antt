use Rattle.std.proofs.Common.{sym, ap, ◌∙◌, subst}
use Rattle.std.specs.Prelude.{option_copied}
use Rattle.block_rules.specs.Money.{BlockSpends}
use Rattle.node_rules.specs.Judged.{MessageJudged, handed_as}
use Rattle.node_rules.specs.Reading.{handed_in}
use Rattle.std.proofs.Common.{Err}
use Rattle.node_rules.proofs.Counted.{external_few}
use Rattle.bridge_prover.specs.Full.{history_of, watched_by}
use Rattle.bridge_prover.specs.Shown.{AreKnown}
use Rattle.bridge_prover.proofs.Historied.{known_so}
use Rattle.audit_replay.proofs.Forged.{forged_by, not_shaped, message_passes, shaped_so, few_shown, stands_here, knowledge_here}
use Rattle.audit_replay.proofs.Forged.{clash_there, clash_shown, clash_which}
use Rattle.audit_replay.proofs.clashing.clash_of.Goals as goal

pub unreachable-requires : goal.unreachable-requires
unreachable-requires g c =
    let H = g.D.Digester.digest_of in
    let s = c.args.bridge.now in
    let b = c.args.block.now in
    let handed = handed_in (option_copied c.args.message) in
    let forged = forged_by H s b handed c.requires.forged in
    not_shaped H s b handed forged c.net.result c.limits.result c.chain-chain.result c.in-Err-Refused.field-0 c.in-Err-Refused.field-0-0 c.net.ensures
    c.limits.ensures c.chain-chain.ensures.is c.in-Err-Refused.ensures c.in-Err-Refused.field-0-is

pub unreachable-requires-in-Err-Refused-message_rules : goal.unreachable-requires-in-Err-Refused-message_rules
unreachable-requires-in-Err-Refused-message_rules g c =
    let H = g.D.Digester.digest_of in
    let s = c.args.bridge.now in
    let b = c.args.block.now in
    let handed = handed_in (option_copied c.args.message) in
    let forged = forged_by H s b handed c.requires.forged in
    let shaped = shaped_so s b c.net.result c.limits.result c.chain-chain.result c.in-Ok.spends c.net.ensures c.limits.ensures
    c.chain-chain.ensures.is c.in-Ok.ensures in
    message_passes H s b handed forged c.in-Ok.spends.external c.in-Err-Refused-message_rules.field-0-0
    (ap (λ (x : BlockSpends). x.external) shaped.spends)
    (subst (λ f. MessageJudged c.in-Ok.spends.external (option_copied c.args.message) (Err f)) c.in-Err-Refused-message_rules.field-0-is
    c.in-Err-Refused-message_rules.ensures)

pub find-requires-clause-few : goal.find-requires-clause-few
find-requires-clause-few g c =
    let H = g.D.Digester.digest_of in
    let s = c.args.bridge.now in
    let b = c.args.block.now in
    let handed = handed_in (option_copied c.args.message) in
    let forged = forged_by H s b handed c.requires.forged in
    let shaped = shaped_so s b c.net.result c.limits.result c.chain-chain.result c.in-Ok.spends c.net.ensures c.limits.ensures
    c.chain-chain.ensures.is c.in-Ok.ensures in
    few_shown c.in-Ok.spends.external handed c.in-Ok-Some.message (c.in-Ok-Some.ensures.is ∙ ap handed_as c.in-Ok-Some.field-0-is)
    c.in-Ok-Some.ensures.passes
    (external_few s.rules.net s.rules.limits s.chain b c.in-Ok.spends c.bytes-bytes.ensures.fits shaped)

pub unreachable-requires-in-None : goal.unreachable-requires-in-None
unreachable-requires-in-None g c =
    let H = g.D.Digester.digest_of in
    let s = c.args.bridge.now in
    let b = c.args.block.now in
    let handed = handed_in (option_copied c.args.message) in
    let forged = forged_by H s b handed c.requires.forged in
    let shaped = shaped_so s b c.net.result c.limits.result c.chain-chain.result c.in-Ok.spends c.net.ensures c.limits.ensures
    c.chain-chain.ensures.is c.in-Ok.ensures in
    let are = subst (AreKnown H (watched_by s) (history_of s)) (sym c.deref.ensures.value)
    (known_so H s c.in_ok-known.known.items c.requires.is.is c.in_ok-known.ensures.own c.in_ok-known.ensures.ascends) in
    clash_there H s b handed forged c.in-Ok-Some.message (c.in-Ok-Some.ensures.is ∙ ap handed_as c.in-Ok-Some.field-0-is) c.deref.result.now are
    c.in-Ok.spends.external c.in_ok-clash.field-0 (ap (λ (x : BlockSpends). x.external) shaped.spends)
    (c.in_ok-clash.ensures.answer (history_of s) (stands_here H s c.requires.is _ _ c.forest.ensures.entries c.outputs.ensures)
    (knowledge_here H s c.requires.is _ _ c.forest.ensures.entries c.outputs.ensures c.deref.result.now are)) c.in-None.is

pub returns-clause-shows : goal.returns-clause-shows
returns-clause-shows g c =
    let H = g.D.Digester.digest_of in
    let s = c.args.bridge.now in
    let b = c.args.block.now in
    let handed = handed_in (option_copied c.args.message) in
    let forged = forged_by H s b handed c.requires.forged in
    let shaped = shaped_so s b c.net.result c.limits.result c.chain-chain.result c.in-Ok.spends c.net.ensures c.limits.ensures
    c.chain-chain.ensures.is c.in-Ok.ensures in
    let are = subst (AreKnown H (watched_by s) (history_of s)) (sym c.deref.ensures.value)
    (known_so H s c.in_ok-known.known.items c.requires.is.is c.in_ok-known.ensures.own c.in_ok-known.ensures.ascends) in
    clash_shown H s b handed forged c.in-Ok-Some.message (c.in-Ok-Some.ensures.is ∙ ap handed_as c.in-Ok-Some.field-0-is) c.deref.result.now are
    c.in-Ok.spends.external c.in_ok-clash.field-0 c.in-Some.clash (ap (λ (x : BlockSpends). x.external) shaped.spends)
    (c.in_ok-clash.ensures.answer (history_of s) (stands_here H s c.requires.is _ _ c.forest.ensures.entries c.outputs.ensures)
    (knowledge_here H s c.requires.is _ _ c.forest.ensures.entries c.outputs.ensures c.deref.result.now are)) c.in-Some.is

pub returns-clause-which : goal.returns-clause-which
returns-clause-which g c =
    let H = g.D.Digester.digest_of in
    let s = c.args.bridge.now in
    let b = c.args.block.now in
    let handed = handed_in (option_copied c.args.message) in
    let forged = forged_by H s b handed c.requires.forged in
    let shaped = shaped_so s b c.net.result c.limits.result c.chain-chain.result c.in-Ok.spends c.net.ensures c.limits.ensures
    c.chain-chain.ensures.is c.in-Ok.ensures in
    let are = subst (AreKnown H (watched_by s) (history_of s)) (sym c.deref.ensures.value)
    (known_so H s c.in_ok-known.known.items c.requires.is.is c.in_ok-known.ensures.own c.in_ok-known.ensures.ascends) in
    clash_which H s b handed forged c.in-Ok-Some.message (c.in-Ok-Some.ensures.is ∙ ap handed_as c.in-Ok-Some.field-0-is) c.deref.result.now are
    c.in-Ok.spends.external c.in_ok-clash.field-0 c.in-Some.clash (ap (λ (x : BlockSpends). x.external) shaped.spends)
    (c.in_ok-clash.ensures.exact (history_of s) (stands_here H s c.requires.is _ _ c.forest.ensures.entries c.outputs.ensures)) c.in-Some.is
