use Rattle.digest_lanes.proofs.Pair512Lemmas.{four_words}
use Rattle.digest_lanes.proofs.pairs512.half_of_one.Goals as goal

pub returns-clause-words : goal.returns-clause-words
returns-clause-words c =
    rw (c.load-first.ensures.word, c.load-second.ensures.word, c.load-third.ensures.word, c.load-fourth.ensures.word)
    (four_words c.args.text.now)
