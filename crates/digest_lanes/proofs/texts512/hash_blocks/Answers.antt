use Rattle.std.proofs.Common.{◌≡◌, ℕ, List, ◌*◌, ◌∷◌, [], slice_index_or, take, drop, refl, ap, ◌∙◌, sym}
use Rattle.sha2.specs.Sha512.{compress, hash_after}
use Rattle.sha2.proofs.Absorbing512.{hash_after_next}
use Rattle.digest_lanes.specs.Lanes.{lane}
use Rattle.digest_lanes.proofs.LaneLemmas.{below_four}
use Rattle.digest_lanes.proofs.texts512.hash_blocks.Goals as goal

pub each-init : goal.each-init
unfolding hash_after
each-init c = λ j h. refl

pub each-preserved : goal.each-preserved
each-preserved c = λ j h.
    let k = c.each.k in
    let text : ℕ → List ℕ = λ i. slice_index_or (c.args.a.now ∷ c.args.b.now ∷ c.args.c.now ∷ c.args.d.now ∷ []) i [] in
    let part : ℕ → List ℕ = λ i. slice_index_or
    (c.block.result.now ∷ c.block-in-each.result.now ∷ c.block-in-each-2.result.now ∷ c.block-in-each-3.result.now ∷ []) i [] in
    let same = below_four (λ i. part i ≡ take 128 (drop (k * 128) (text i)))
    c.block.ensures.bytes c.block-in-each.ensures.bytes c.block-in-each-2.ensures.bytes c.block-in-each-3.ensures.bytes j h in
    c.compress-next.ensures j h (part j) (c.block_words-words.ensures j h)
    ∙ ap (λ s. compress s (part j)) (c.each.invariant j h)
    ∙ ap (compress (hash_after (lane j c.args.start) (text j) k)) same
    ∙ sym (hash_after_next (lane j c.args.start) (text j) k)
