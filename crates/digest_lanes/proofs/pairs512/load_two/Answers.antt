use Rattle.digest_lanes.proofs.LaneLemmas.{below_two}
use Rattle.digest_lanes.proofs.pairs512.load_two.Goals as goal

pub returns : goal.returns
returns c = record {
  word = below_two _ c.load-first.ensures.word c.load-second.ensures.word;
  long = below_two _ c.load-first.ensures.long c.load-second.ensures.long;
}
