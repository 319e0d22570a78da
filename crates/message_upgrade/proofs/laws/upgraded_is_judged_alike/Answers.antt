use Rattle.std.proofs.Common.{sym}
use Rattle.node_rules.specs.Reading.{message_in}
use Rattle.message_upgrade.proofs.Alike.{same_verdict, same_forged, same_full_step, same_view_step}
use Rattle.message_upgrade.proofs.Upgrading.{same_named, upgraded_alike}
use Rattle.message_upgrade.proofs.laws.upgraded_is_judged_alike.Goals as goal

pub returns-clause-places : goal.returns-clause-places
returns-clause-places c = same_named

pub returns-clause-by_view : goal.returns-clause-by_view
returns-clause-by_view c = λ H rules chain v b message few bytes. sym
    (same_verdict H rules chain v b (message_in message) _ (upgraded_alike v.n message few bytes))

pub returns-clause-forged : goal.returns-clause-forged
returns-clause-forged c = λ H scripts rules chain us b message few bytes. sym
    (same_forged H us scripts rules chain b (message_in message) _ (upgraded_alike _ message few bytes))

pub returns-clause-machines : goal.returns-clause-machines
returns-clause-machines c = λ H scripts rules s b message few bytes.
    let alike = upgraded_alike _ message few bytes in (
      sym (same_full_step H scripts rules s b (message_in message) _ alike),
      sym (same_view_step H scripts rules s b (message_in message) _ alike),
    )
