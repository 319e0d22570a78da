use Rattle.std.proofs.Common.{◌∷◌, [], slice_index_or}
use Rattle.digest_lanes.proofs.Pair256Lemmas.{first_words_sixteen}
use Rattle.digest_lanes.proofs.texts256.block_words.Goals as goal

pub returns : goal.returns
returns c j h =
    rw (
      c.load_eight-w0.ensures j h,
      c.load_eight-w1.ensures j h,
      c.load_eight-w2.ensures j h,
      c.load_eight-w3.ensures j h,
      c.load_eight-w4.ensures j h,
      c.load_eight-w5.ensures j h,
      c.load_eight-w6.ensures j h,
      c.load_eight-w7.ensures j h,
      c.load_eight-w8.ensures j h,
      c.load_eight-w9.ensures j h,
      c.load_eight-w10.ensures j h,
      c.load_eight-w11.ensures j h,
      c.load_eight-w12.ensures j h,
      c.load_eight-w13.ensures j h,
      c.load_eight-w14.ensures j h,
      c.load_eight-w15.ensures j h,
    ) (first_words_sixteen (slice_index_or (c.args.a.now ∷ c.args.b.now ∷ c.args.c.now ∷ c.args.d.now ∷ c.args.e.now ∷ c.args.f.now ∷ c.args.g.now
    ∷ c.args.h.now ∷ []) j []))
