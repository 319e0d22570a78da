use Rattle.std.proofs.Common.{[], slice_index_or}
use Rattle.digest_lanes.proofs.Pair512Lemmas.{four_words}
use Rattle.digest_lanes.proofs.pairs512.half_of_two.Goals as goal

pub returns : goal.returns
returns c = record {
  words = λ j h.
      rw (
        c.load_two-first.ensures.word j h,
        c.load_two-second.ensures.word j h,
        c.load_two-third.ensures.word j h,
        c.load_two-fourth.ensures.word j h,
      ) (four_words (slice_index_or c.args.texts.now j []));
  long = c.load_two-first.ensures.long;
}
