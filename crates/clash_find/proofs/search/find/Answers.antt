use Rattle.std.proofs.Common.{◌∙◌}
use Rattle.std.proofs.lemmas.Result.{IfOk-weaker}
use Rattle.cache_model.specs.Cache.{look}
use Rattle.clash_find.proofs.Refusing.{hashes_long}
use Rattle.clash_find.proofs.OfMessage.{none_accepted, none_exact, found_so, found_answer, found_exact, leaves_long, shape_refused, count_refused}
use Rattle.clash_find.proofs.search.find.Goals as goal

pub returns-in-Err-Refused-clause-answer : goal.returns-in-Err-Refused-clause-answer
returns-in-Err-Refused-clause-answer g c = λ us s view.
    none_accepted g.D.Digester.digest_of g.met.D.Digester.has_32_bytes c.args.outputs.now c.args.spends.now.external c.args.message.now
    c.requires.count (look c.args.known.now) c.args.forest.now.entries
    (shape_refused g.D.Digester.digest_of g.met.D.Digester.has_32_bytes c.args.outputs.now c.args.spends.now.external c.args.message.now
    c.requires.count (look c.args.known.now) c.args.forest.now.entries c.leaves.result c.in-Err-Refused.field-0 c.in-Err-Refused.field-0-0
    c.leaves.ensures.is c.in-Err-Refused.ensures c.in-Err-Refused.field-0-is)
    us s

pub returns-in-Err-Refused-clause-exact : goal.returns-in-Err-Refused-clause-exact
returns-in-Err-Refused-clause-exact g c = λ us s.
    none_exact g.D.Digester.digest_of g.met.D.Digester.has_32_bytes c.args.outputs.now c.args.spends.now.external c.args.message.now c.requires.count
    (look c.args.known.now) c.args.forest.now.entries
    (shape_refused g.D.Digester.digest_of g.met.D.Digester.has_32_bytes c.args.outputs.now c.args.spends.now.external c.args.message.now
    c.requires.count (look c.args.known.now) c.args.forest.now.entries c.leaves.result c.in-Err-Refused.field-0 c.in-Err-Refused.field-0-0
    c.leaves.ensures.is c.in-Err-Refused.ensures c.in-Err-Refused.field-0-is)
    us s

pub returns-in-Err-Refused-full_hashes-clause-answer : goal.returns-in-Err-Refused-full_hashes-clause-answer
returns-in-Err-Refused-full_hashes-clause-answer g c = λ us s view.
    none_accepted g.D.Digester.digest_of g.met.D.Digester.has_32_bytes c.args.outputs.now c.args.spends.now.external c.args.message.now
    c.requires.count (look c.args.known.now) c.args.forest.now.entries
    (count_refused g.D.Digester.digest_of g.met.D.Digester.has_32_bytes c.args.outputs.now c.args.spends.now.external c.args.message.now
    c.requires.count (look c.args.known.now) c.args.forest.now.entries c.leaves.result c.in-Ok.targets c.in-Err-Refused-full_hashes.field-0
    c.in-Err-Refused-full_hashes.field-0-0 c.leaves.ensures.is c.in-Ok.ensures c.in-Err-Refused-full_hashes.ensures
    c.in-Err-Refused-full_hashes.field-0-is)
    us s

pub returns-in-Err-Refused-full_hashes-clause-exact : goal.returns-in-Err-Refused-full_hashes-clause-exact
returns-in-Err-Refused-full_hashes-clause-exact g c = λ us s.
    none_exact g.D.Digester.digest_of g.met.D.Digester.has_32_bytes c.args.outputs.now c.args.spends.now.external c.args.message.now c.requires.count
    (look c.args.known.now) c.args.forest.now.entries
    (count_refused g.D.Digester.digest_of g.met.D.Digester.has_32_bytes c.args.outputs.now c.args.spends.now.external c.args.message.now
    c.requires.count (look c.args.known.now) c.args.forest.now.entries c.leaves.result c.in-Ok.targets c.in-Err-Refused-full_hashes.field-0
    c.in-Err-Refused-full_hashes.field-0-0 c.leaves.ensures.is c.in-Ok.ensures c.in-Err-Refused-full_hashes.ensures
    c.in-Err-Refused-full_hashes.field-0-is)
    us s

pub search-requires-clause-leaves : goal.search-requires-clause-leaves
search-requires-clause-leaves g c =
    leaves_long g.D.Digester.digest_of g.met.D.Digester.has_32_bytes c.args.outputs.now c.args.spends.now.external c.args.message.now c.requires.count
    (look c.args.known.now) c.leaves.result c.in-Ok.targets c.external.result.now c.deref.result.now c.external.ensures c.in-Ok.ensures
    (c.deref.ensures.value ∙ c.in_ok-leaves.ensures)

pub search-requires-clause-hashes : goal.search-requires-clause-hashes
search-requires-clause-hashes g c =
    hashes_long g.D.Digester.digest_of c.args.message.now c.in-Ok.targets (look c.args.known.now) c.in-Ok-full_hashes.hashes.items
    c.deref-2.result.now c.deref-2.ensures.value c.in-Ok-full_hashes.ensures

pub returns-clause-answer : goal.returns-clause-answer
returns-clause-answer g c =
    let H = g.D.Digester.digest_of in
    IfOk-weaker c.search.result _ _
    (λ clash searched us s view.
    found_answer H g.met.D.Digester.has_32_bytes c.args.outputs.now c.args.spends.now.external c.args.message.now c.requires.count
    (look c.args.known.now) c.args.forest.now.entries c.in-Ok.targets c.in-Ok-full_hashes.hashes.items clash
    (found_so H g.met.D.Digester.has_32_bytes c.args.outputs.now c.args.spends.now.external c.args.message.now c.requires.count
    (look c.args.known.now) c.args.forest.now.entries c.leaves.result c.in-Ok.targets c.in-Ok-full_hashes.hashes.items c.deref-2.result.now
    c.deref.result.now c.external.result.now clash
    c.leaves.ensures.is c.external.ensures c.in-Ok.ensures c.leaves-count.ensures.targets.shape c.in-Ok-full_hashes.ensures
    (c.deref.ensures.value ∙ c.in_ok-leaves.ensures) c.deref-2.ensures.value searched)
    us s view)
    c.search.ensures

pub returns-clause-exact : goal.returns-clause-exact
returns-clause-exact g c =
    let H = g.D.Digester.digest_of in
    IfOk-weaker c.search.result _ _
    (λ clash searched us s.
    found_exact H g.met.D.Digester.has_32_bytes c.args.outputs.now c.args.spends.now.external c.args.message.now c.requires.count
    (look c.args.known.now) c.args.forest.now.entries c.in-Ok.targets c.in-Ok-full_hashes.hashes.items clash
    (found_so H g.met.D.Digester.has_32_bytes c.args.outputs.now c.args.spends.now.external c.args.message.now c.requires.count
    (look c.args.known.now) c.args.forest.now.entries c.leaves.result c.in-Ok.targets c.in-Ok-full_hashes.hashes.items c.deref-2.result.now
    c.deref.result.now c.external.result.now clash
    c.leaves.ensures.is c.external.ensures c.in-Ok.ensures c.leaves-count.ensures.targets.shape c.in-Ok-full_hashes.ensures
    (c.deref.ensures.value ∙ c.in_ok-leaves.ensures) c.deref-2.ensures.value searched)
    us s)
    c.search.ensures
