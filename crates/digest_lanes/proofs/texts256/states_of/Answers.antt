use Rattle.std.proofs.Common.{◌≡◌, ℕ, List, ◌∷◌, [], length, slice_index, slice_index_or, ap, ◌∙◌, arith}
use Rattle.sha2.specs.Sha256.{hash_after, initial_hash_256, padded_message}
use Rattle.digest_lanes.specs.Texts.{text_at}
use Rattle.digest_lanes.proofs.EightLemmas.{below_eight}
use Rattle.digest_lanes.proofs.ListLemmas.{text_there}
use Rattle.digest_lanes.proofs.texts256.states_of.Goals as goal

pub hash_blocks-requires-clause-a : goal.hash_blocks-requires-clause-a
hash_blocks-requires-clause-a c =
    rw (text_there c.args.texts.now (slice_index c.args.group.now 0)) at (ap length c.new-first.ensures) ∙ c.requires.blocks 0 (omega arith)

pub hash_blocks-requires-clause-b : goal.hash_blocks-requires-clause-b
hash_blocks-requires-clause-b c =
    rw (text_there c.args.texts.now (slice_index c.args.group.now 1)) at (ap length c.new-second.ensures) ∙ c.requires.blocks 1 (omega arith)

pub hash_blocks-requires-clause-c : goal.hash_blocks-requires-clause-c
hash_blocks-requires-clause-c c =
    rw (text_there c.args.texts.now (slice_index c.args.group.now 2)) at (ap length c.new-third.ensures) ∙ c.requires.blocks 2 (omega arith)

pub hash_blocks-requires-clause-d : goal.hash_blocks-requires-clause-d
hash_blocks-requires-clause-d c =
    rw (text_there c.args.texts.now (slice_index c.args.group.now 3)) at (ap length c.new-fourth.ensures) ∙ c.requires.blocks 3 (omega arith)

pub hash_blocks-requires-clause-e : goal.hash_blocks-requires-clause-e
hash_blocks-requires-clause-e c =
    rw (text_there c.args.texts.now (slice_index c.args.group.now 4)) at (ap length c.new-fifth.ensures) ∙ c.requires.blocks 4 (omega arith)

pub hash_blocks-requires-clause-f : goal.hash_blocks-requires-clause-f
hash_blocks-requires-clause-f c =
    rw (text_there c.args.texts.now (slice_index c.args.group.now 5)) at (ap length c.new-sixth.ensures) ∙ c.requires.blocks 5 (omega arith)

pub hash_blocks-requires-clause-g : goal.hash_blocks-requires-clause-g
hash_blocks-requires-clause-g c =
    rw (text_there c.args.texts.now (slice_index c.args.group.now 6)) at (ap length c.new-seventh.ensures) ∙ c.requires.blocks 6 (omega arith)

pub hash_blocks-requires-clause-h : goal.hash_blocks-requires-clause-h
hash_blocks-requires-clause-h c =
    rw (text_there c.args.texts.now (slice_index c.args.group.now 7)) at (ap length c.new-eighth.ensures) ∙ c.requires.blocks 7 (omega arith)

pub returns : goal.returns
returns c j h =
    let texts = c.args.texts.now in
    let group = c.args.group.now in
    let text : ℕ → List ℕ = λ i. slice_index_or
    (c.new-first.result ∷ c.new-second.result ∷ c.new-third.result ∷ c.new-fourth.result ∷ c.new-fifth.result ∷ c.new-sixth.result
    ∷ c.new-seventh.result ∷ c.new-eighth.result ∷ []) i [] in
    let same = below_eight (λ i. text i ≡ padded_message (text_at texts (slice_index group i)))
    (rw (text_there texts (slice_index group 0)) at c.new-first.ensures)
    (rw (text_there texts (slice_index group 1)) at c.new-second.ensures)
    (rw (text_there texts (slice_index group 2)) at c.new-third.ensures)
    (rw (text_there texts (slice_index group 3)) at c.new-fourth.ensures)
    (rw (text_there texts (slice_index group 4)) at c.new-fifth.ensures)
    (rw (text_there texts (slice_index group 5)) at c.new-sixth.ensures)
    (rw (text_there texts (slice_index group 6)) at c.new-seventh.ensures)
    (rw (text_there texts (slice_index group 7)) at c.new-eighth.ensures) j h in
    c.hash_blocks.ensures j h ∙ ap (λ p. hash_after initial_hash_256 p c.args.blocks) same
