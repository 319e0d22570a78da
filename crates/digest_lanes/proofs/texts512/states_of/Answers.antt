use Rattle.std.proofs.Common.{◌≡◌, ℕ, List, ◌∷◌, [], length, slice_index, slice_index_or, ap, ◌∙◌, arith}
use Rattle.sha2.specs.Sha512.{hash_after}
use Rattle.digest_lanes.specs.Midstate.{padded_behind}
use Rattle.digest_lanes.specs.Texts.{text_at}
use Rattle.digest_lanes.proofs.LaneLemmas.{below_four}
use Rattle.digest_lanes.proofs.ListLemmas.{text_there}
use Rattle.digest_lanes.proofs.texts512.states_of.Goals as goal

pub hash_blocks-requires-clause-a : goal.hash_blocks-requires-clause-a
hash_blocks-requires-clause-a c = rw (text_there c.args.texts.now (slice_index c.args.group.now 0)) at (ap length c.new-first.ensures)
    ∙ c.requires.blocks 0 (omega arith)

pub hash_blocks-requires-clause-b : goal.hash_blocks-requires-clause-b
hash_blocks-requires-clause-b c = rw (text_there c.args.texts.now (slice_index c.args.group.now 1)) at (ap length c.new-second.ensures)
    ∙ c.requires.blocks 1 (omega arith)

pub hash_blocks-requires-clause-c : goal.hash_blocks-requires-clause-c
hash_blocks-requires-clause-c c = rw (text_there c.args.texts.now (slice_index c.args.group.now 2)) at (ap length c.new-third.ensures)
    ∙ c.requires.blocks 2 (omega arith)

pub hash_blocks-requires-clause-d : goal.hash_blocks-requires-clause-d
hash_blocks-requires-clause-d c = rw (text_there c.args.texts.now (slice_index c.args.group.now 3)) at (ap length c.new-fourth.ensures)
    ∙ c.requires.blocks 3 (omega arith)

pub returns : goal.returns
returns c j h =
    let start = c.args.start.now in
    let texts = c.args.texts.now in
    let group = c.args.group.now in
    let text : ℕ → List ℕ = λ i. slice_index_or (c.new-first.result ∷ c.new-second.result ∷ c.new-third.result ∷ c.new-fourth.result ∷ []) i [] in
    let whole : ℕ → List ℕ = λ i. padded_behind start.taken (text_at texts (slice_index group i)) in
    let same = below_four (λ i. text i ≡ whole i)
    (rw (text_there texts (slice_index group 0)) at c.new-first.ensures) (rw (text_there texts (slice_index group 1)) at c.new-second.ensures)
    (rw (text_there texts (slice_index group 2)) at c.new-third.ensures) (rw (text_there texts (slice_index group 3)) at c.new-fourth.ensures) j h in
    c.hash_blocks.ensures j h ∙ ap (λ s. hash_after s (text j) c.args.blocks) (c.spread.ensures j h)
    ∙ ap (λ p. hash_after start.state p c.args.blocks) same
