use Rattle.uo_base.proofs.Walks.{gathered-on, gathered-none, gathered-all}
use Rattle.uo_digest.specs.Reading.{digest_in_front}
use Rattle.state_text.proofs.reading.gather_hashes.Goals as goal

pub returns-in_default : goal.returns-in_default
returns-in_default c = gathered-none digest_in_front _ _ _ _ _ c.loop-test.true c.in_default.ensures c.loop.invariant.gathered

pub loop-preserved : goal.loop-preserved
loop-preserved c = record {
  gathered = rw c.in_ok-push.ensures.items
      (gathered-on digest_in_front _ _ _ _ _ _ _ c.loop-test.true c.in-Some.ensures c.loop.invariant.gathered);
}

pub returns : goal.returns
returns c = gathered-all digest_in_front _ _ _ _ _ c.loop-test.false c.loop.invariant.gathered
