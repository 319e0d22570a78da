use Rattle.std.specs.Prelude.{option_copied}
use Rattle.std.proofs.Common.{is_some, refl, ap, ◌∙◌}
use Rattle.uo_base.proofs.PortLemmas.{told_text, Tells-told_text}
use Rattle.command_words.proofs.WordLaws.{in_range}
use Rattle.node_commands.specs.Auditing.{auditing}
use Rattle.node_commands.specs.Commands.{bad_words, refusing}
use Rattle.node_commands.specs.Prover.{proving}
use Rattle.node_commands.specs.Rechecking.{rechecking}
use Rattle.node_commands.specs.Relaying.{relaying}
use Rattle.node_commands.specs.UpgradingFeed.{upgrading_feed}
use Rattle.node_commands.proofs.RanLemmas.{copied_some, ran-alone, ran-refusing, ran-words, ran-afresh, ran-on, ran-named, ran-beside, watch-afresh, read-afresh}
use Rattle.node_commands.proofs.running.run_command.Goals as goal

pub returns-in-Err-clause-ran : goal.returns-in-Err-clause-ran
returns-in-Err-clause-ran g c =
    let prior = g.P.Source.left c.args.prior.now in
    let watch = g.W.Source.left c.args.watch.now in
    ran-words _ _ _ _ _ _ _ _ _ _ _ _ _ _ _ c.in-Err.ensures.exact
    (ran-refusing (refusing c.in-Err.fault) _ prior watch (told_text prior) (told_text watch) (Tells-told_text prior) (Tells-told_text watch)
    (bad_words c.in-Err.fault) refl _ _ _ _
    c.say.result c.say.ensures.status c.say.ensures.whole c.say.ensures.part refl)

pub returns-in-Some-clause-ran : goal.returns-in-Some-clause-ran
returns-in-Some-clause-ran g c =
    let exact = rw c.in-Ok-Follow.field-0-is at c.in-Ok-Follow.ensures.exact in
    ran-on _ _ _ _ _ _ _ _ _ _ _ _ _ _ _ exact (ap (λ x. is_some (option_copied x)) c.in-Some.is) (c.follow_on.ensures.ran _)

pub returns-in-None-clause-ran : goal.returns-in-None-clause-ran
returns-in-None-clause-ran g c =
    let exact = rw c.in-Ok-Follow.field-0-is at c.in-Ok-Follow.ensures.exact in
    ran-afresh _ _ _ _ _ _ _ _ _ _ _ _ _ _ _ _ _ exact (ap (λ x. is_some (option_copied x)) c.in-None.is) c.unwrap_or-net.ensures
    (c.is_some-named.ensures ∙ copied_some _) (c.follow_afresh.ensures.ran _)

pub returns-in-None-clause-watch : goal.returns-in-None-clause-watch
returns-in-None-clause-watch g c =
    let exact = rw c.in-Ok-Follow.field-0-is at c.in-Ok-Follow.ensures.exact in
    watch-afresh g.D.Digester.digest_of c.args.limits _ _ exact (ap (λ x. is_some (option_copied x)) c.in-None.is) _
    (c.is_some-named.ensures ∙ copied_some _) _ c.follow_afresh.ensures.stays

pub returns-in-None-clause-read : goal.returns-in-None-clause-read
returns-in-None-clause-read g c =
    λ failed.
    let exact = rw c.in-Ok-Follow.field-0-is at c.in-Ok-Follow.ensures.exact in
    read-afresh g.D.Digester.digest_of c.args.limits _ _ exact (ap (λ x. is_some (option_copied x)) c.in-None.is) _
    (c.is_some-named.ensures ∙ copied_some _) _ _ _ _ _ _ (c.follow_afresh.ensures.read failed)

pub returns-in-Ok-Prove-clause-ran : goal.returns-in-Ok-Prove-clause-ran
returns-in-Ok-Prove-clause-ran g c =
    let exact = rw c.in-Ok-Prove.field-0-is at c.in-Ok-Prove.ensures.exact in
    ran-named _ _ _ _ _ _ _ _ _ _ _ _ _ _ _ exact (proving g.D.Digester.digest_of c.args.limits c.in-Ok-Prove.net) _ _ refl
    (c.is_some.ensures ∙ copied_some _) (c.prove.ensures.ran _)

pub returns-in-Ok-Audit-clause-ran : goal.returns-in-Ok-Audit-clause-ran
returns-in-Ok-Audit-clause-ran g c =
    let exact = rw c.in-Ok-Audit.field-0-is at c.in-Ok-Audit.ensures.exact in
    ran-named _ _ _ _ _ _ _ _ _ _ _ _ _ _ _ exact (auditing g.D.Digester.digest_of c.args.limits c.in-Ok-Audit.net) _ _ refl
    (c.is_some-in-Ok-Audit.ensures ∙ copied_some _) (ran-alone refl (c.audit.ensures.ran _ _))

pub make_feed-requires : goal.make_feed-requires
make_feed-requires g c =
    let meaning = rw c.in-Ok-Gen.field-0-is at c.in-Ok-Gen.ensures.meaning in
    (in_range _ _ meaning).1

pub returns-in-Ok-Gen-clause-ran : goal.returns-in-Ok-Gen-clause-ran
returns-in-Ok-Gen-clause-ran g c =
    let exact = rw c.in-Ok-Gen.field-0-is at c.in-Ok-Gen.ensures.exact in
    ran-words _ _ _ _ _ _ _ _ _ _ _ _ _ _ _ exact (c.make_feed.ensures.ran _ _ _ _)

pub returns-in-Ok-UpgradeFeed-clause-ran : goal.returns-in-Ok-UpgradeFeed-clause-ran
returns-in-Ok-UpgradeFeed-clause-ran g c =
    let exact = rw c.in-Ok-UpgradeFeed.field-0-is at c.in-Ok-UpgradeFeed.ensures.exact in
    ran-named _ _ _ _ _ _ _ _ _ _ _ _ _ _ _ exact (upgrading_feed g.D.Digester.digest_of c.args.limits c.in-Ok-UpgradeFeed.net) _ _ refl
    (c.is_some-in-Ok-UpgradeFeed.ensures ∙ copied_some _) (c.upgrade_feed.ensures.ran _)

pub returns-in-Ok-UpgradeState-clause-ran : goal.returns-in-Ok-UpgradeState-clause-ran
returns-in-Ok-UpgradeState-clause-ran g c =
    let exact = rw c.in-Ok-UpgradeState.field-0-is at c.in-Ok-UpgradeState.ensures.exact in
    ran-words _ _ _ _ _ _ _ _ _ _ _ _ _ _ _ exact (c.upgrade_state.ensures.ran _ _)

pub returns-in-Ok-Order-clause-ran : goal.returns-in-Ok-Order-clause-ran
returns-in-Ok-Order-clause-ran g c =
    let exact = rw c.in-Ok-Order.field-0-is at c.in-Ok-Order.ensures.exact in
    ran-words _ _ _ _ _ _ _ _ _ _ _ _ _ _ _ exact (c.order.ensures.ran _ _)

pub returns-in-Ok-Ticket-clause-ran : goal.returns-in-Ok-Ticket-clause-ran
returns-in-Ok-Ticket-clause-ran g c =
    let exact = rw c.in-Ok-Ticket.field-0-is at c.in-Ok-Ticket.ensures.exact in
    ran-words _ _ _ _ _ _ _ _ _ _ _ _ _ _ _ exact (c.make_ticket.ensures.ran _ _)

pub returns-in-Ok-Check-clause-ran : goal.returns-in-Ok-Check-clause-ran
returns-in-Ok-Check-clause-ran g c =
    let exact = rw c.in-Ok-Check.field-0-is at c.in-Ok-Check.ensures.exact in
    ran-words _ _ _ _ _ _ _ _ _ _ _ _ _ _ _ exact (ran-alone refl (c.check.ensures.ran _ _))

pub returns-in-Ok-Recheck-clause-ran : goal.returns-in-Ok-Recheck-clause-ran
returns-in-Ok-Recheck-clause-ran g c =
    let exact = rw c.in-Ok-Recheck.field-0-is at c.in-Ok-Recheck.ensures.exact in
    ran-named _ _ _ _ _ _ _ _ _ _ _ _ _ _ _ exact (rechecking g.D.Digester.digest_of c.args.limits c.in-Ok-Recheck.net) _ _ refl
    (c.is_some-in-Ok-Recheck.ensures ∙ copied_some _) (ran-alone refl (c.recheck.ensures.ran _))

pub returns-in-Ok-Relay-clause-ran : goal.returns-in-Ok-Relay-clause-ran
returns-in-Ok-Relay-clause-ran g c =
    let exact = rw c.in-Ok-Relay.field-0-is at c.in-Ok-Relay.ensures.exact in
    ran-beside _ _ _ _ _ _ _ _ _ _ _ _ _ _ _ exact (relaying g.D.Digester.digest_of c.args.limits c.in-Ok-Relay.followers c.in-Ok-Relay.net) _ _ _ _
    refl
    (c.is_some-in-Ok-Relay.ensures ∙ copied_some _) (c.is_some-in-Ok-Relay-2.ensures ∙ copied_some _) (ran-alone refl (c.relay.ensures.ran _))
