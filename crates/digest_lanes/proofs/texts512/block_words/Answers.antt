use Rattle.std.proofs.Common.{◌∷◌, [], slice_index_or}
use Rattle.digest_lanes.proofs.Pair512Lemmas.{first_words_sixteen}
use Rattle.digest_lanes.proofs.texts512.block_words.Goals as goal

pub returns : goal.returns
returns c j h =
    rw (
      c.load_four-w0.ensures j h,
      c.load_four-w1.ensures j h,
      c.load_four-w2.ensures j h,
      c.load_four-w3.ensures j h,
      c.load_four-w4.ensures j h,
      c.load_four-w5.ensures j h,
      c.load_four-w6.ensures j h,
      c.load_four-w7.ensures j h,
      c.load_four-w8.ensures j h,
      c.load_four-w9.ensures j h,
      c.load_four-w10.ensures j h,
      c.load_four-w11.ensures j h,
      c.load_four-w12.ensures j h,
      c.load_four-w13.ensures j h,
      c.load_four-w14.ensures j h,
      c.load_four-w15.ensures j h,
    ) (first_words_sixteen (slice_index_or (c.args.a.now ∷ c.args.b.now ∷ c.args.c.now ∷ c.args.d.now ∷ []) j []))
