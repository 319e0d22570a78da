use Rattle.std.proofs.Common.{length, ap, ◌∙◌}
use Rattle.std.proofs.lemmas.Result.{IfOk-weaker}
use Rattle.clash_find.proofs.OfProof.{count_answer, count_exact, found_so, found_answer, found_exact, other_so}
use Rattle.clash_find.proofs.search.find_in.Goals as goal

pub returns-then-hashes-needed-clause-answer : goal.returns-then-hashes-needed-clause-answer
returns-then-hashes-needed-clause-answer g c =
    let H = g.D.Digester.digest_of in
    count_answer H g.met.D.Digester.has_32_bytes c.args.outputs.now c.args.targets.now.targets c.args.leaves.now c.args.hashes.now
    c.args.forest.now.entries
    (other_so H g.met.D.Digester.has_32_bytes c.args.outputs.now c.args.targets.now.targets c.args.leaves.now c.args.hashes.now
    c.args.forest.now.entries c.args.targets.now.leaves c.needed.result.now c.requires.entries c.needed.ensures c.if-hashes-needed.true)

pub returns-then-hashes-needed-clause-exact : goal.returns-then-hashes-needed-clause-exact
returns-then-hashes-needed-clause-exact g c = λ us s.
    let H = g.D.Digester.digest_of in
    count_exact H g.met.D.Digester.has_32_bytes c.args.outputs.now c.args.targets.now.targets c.args.leaves.now c.args.hashes.now
    c.args.forest.now.entries
    (other_so H g.met.D.Digester.has_32_bytes c.args.outputs.now c.args.targets.now.targets c.args.leaves.now c.args.hashes.now
    c.args.forest.now.entries c.args.targets.now.leaves c.needed.result.now c.requires.entries c.needed.ensures c.if-hashes-needed.true)
    us s

pub returns-clause-answer : goal.returns-clause-answer
returns-clause-answer g c =
    let H = g.D.Digester.digest_of in
    IfOk-weaker c.search.result _ _
    (λ clash searched.
    found_answer H g.met.D.Digester.has_32_bytes c.args.outputs.now c.args.targets.now.targets c.args.leaves.now c.args.hashes.now
    c.args.forest.now.entries clash
    (found_so H g.met.D.Digester.has_32_bytes c.args.outputs.now c.args.targets.now.targets c.args.leaves.now c.args.hashes.now
    c.args.forest.now.entries c.args.targets.now.leaves clash c.requires.entries c.leaves-count.ensures.targets.shape c.requires.leaves
    (c.if-hashes-needed.false ∙ ap length c.needed.ensures) searched))
    c.search.ensures

pub returns-clause-exact : goal.returns-clause-exact
returns-clause-exact g c =
    let H = g.D.Digester.digest_of in
    IfOk-weaker c.search.result _ _
    (λ clash searched.
    found_exact H g.met.D.Digester.has_32_bytes c.args.outputs.now c.args.targets.now.targets c.args.leaves.now c.args.hashes.now
    c.args.forest.now.entries clash
    (found_so H g.met.D.Digester.has_32_bytes c.args.outputs.now c.args.targets.now.targets c.args.leaves.now c.args.hashes.now
    c.args.forest.now.entries c.args.targets.now.leaves clash c.requires.entries c.leaves-count.ensures.targets.shape c.requires.leaves
    (c.if-hashes-needed.false ∙ ap length c.needed.ensures) searched))
    c.search.ensures
