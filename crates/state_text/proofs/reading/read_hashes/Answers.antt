use Rattle.uo_digest.specs.Reading.{digest_in_front}
use Rattle.state_text.proofs.Gathering.{counted-none, counted-some}
use Rattle.state_text.proofs.reading.read_hashes.Goals as goal

pub returns-in_default : goal.returns-in_default
returns-in_default c = counted-none digest_in_front _ c.in_default.ensures.exact

pub returns : goal.returns
returns c = rw (counted-some digest_in_front _ _ _ c.in-Some.ensures.exact) c.gather_hashes.ensures
