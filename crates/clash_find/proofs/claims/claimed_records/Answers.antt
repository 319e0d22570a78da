use Rattle.std.proofs.Common.{◌∙◌}
use Rattle.clash_find.proofs.Claiming.{record_more, records_all}
use Rattle.clash_find.proofs.claims.claimed_records.Goals as goal

pub loop-i-preserved : goal.loop-i-preserved
loop-i-preserved c =
    record_more c.args.external.now c.args.message.now c.loop-i.i _ c.rest.result c.in_ok-to_record.field-0 _ _ c.loop-i-test.true c.rest.ensures
    (c.in_ok-to_record.ensures ∙ c.with_outpoint-leaf.ensures.leaf) c.loop-i.invariant c.in_ok-push.ensures.items

pub returns : goal.returns
returns c = records_all c.args.external.now c.args.message.now c.loop-i.i _ c.requires c.loop-i-test.false c.loop-i.invariant
