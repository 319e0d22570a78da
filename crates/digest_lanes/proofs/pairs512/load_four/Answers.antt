use Rattle.digest_lanes.proofs.LaneLemmas.{below_four}
use Rattle.digest_lanes.proofs.pairs512.load_four.Goals as goal

pub returns : goal.returns
returns c = record {
  word = below_four _ c.load-first.ensures.word c.load-second.ensures.word c.load-third.ensures.word c.load-fourth.ensures.word;
  long = below_four _ c.load-first.ensures.long c.load-second.ensures.long c.load-third.ensures.long c.load-fourth.ensures.long;
}
