use Rattle.std.proofs.Common.{◌≡◌, ℕ, List, ◌*◌, ◌∷◌, [], slice_index_or, take, drop, ap, ◌∙◌, sym}
use Rattle.sha2.specs.Sha256.{compress, hash_after, initial_hash_256}
use Rattle.sha2.proofs.Absorbing256.{hash_after_next}
use Rattle.digest_lanes.proofs.EightLemmas.{below_eight}
use Rattle.digest_lanes.proofs.texts256.hash_blocks.Goals as goal

pub each-init : goal.each-init
unfolding hash_after
each-init c = c.initial_state-state.ensures

pub each-preserved : goal.each-preserved
each-preserved c = λ j h.
    let k = c.each.k in
    let text : ℕ → List ℕ = λ i. slice_index_or
    (c.args.a.now ∷ c.args.b.now ∷ c.args.c.now ∷ c.args.d.now ∷ c.args.e.now ∷ c.args.f.now ∷ c.args.g.now ∷ c.args.h.now ∷ []) i [] in
    let part : ℕ → List ℕ = λ i. slice_index_or
    (c.block.result.now ∷ c.block-in-each.result.now ∷ c.block-in-each-2.result.now ∷ c.block-in-each-3.result.now ∷ c.block-in-each-4.result.now
    ∷ c.block-in-each-5.result.now ∷ c.block-in-each-6.result.now ∷ c.block-in-each-7.result.now ∷ []) i [] in
    let same = below_eight (λ i. part i ≡ take 64 (drop (k * 64) (text i)))
    c.block.ensures.bytes c.block-in-each.ensures.bytes c.block-in-each-2.ensures.bytes c.block-in-each-3.ensures.bytes
    c.block-in-each-4.ensures.bytes c.block-in-each-5.ensures.bytes c.block-in-each-6.ensures.bytes c.block-in-each-7.ensures.bytes j h in
    c.compress-next.ensures j h (part j) (c.block_words-words.ensures j h)
    ∙ ap (λ s. compress s (part j)) (c.each.invariant j h)
    ∙ ap (compress (hash_after initial_hash_256 (text j) k)) same
    ∙ sym (hash_after_next initial_hash_256 (text j) k)
