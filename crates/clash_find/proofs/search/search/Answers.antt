use Rattle.std.proofs.Common.{◌≡◌, length, sym, subst}
use Rattle.std.specs.Prelude.{IfOk}
use Rattle.forest_model.specs.Cover.{need}
use Rattle.proof_shape.specs.Targeted.{Targeted}
use Rattle.clash_find.specs.Searched.{IsSearched}
use Rattle.clash_find.proofs.search.search.Goals as goal

pub search_over-requires-clause-entries : goal.search_over-requires-clause-entries
search_over-requires-clause-entries g c =
    subst (λ (t : Targeted). t.leaves ≡ length c.args.forest.now.entries) (sym c.survey.ensures) c.requires.entries

pub search_over-requires-clause-leaves : goal.search_over-requires-clause-leaves
search_over-requires-clause-leaves g c =
    subst (λ (t : Targeted). length c.args.leaves.now ≡ length t.targets) (sym c.survey.ensures) c.requires.leaves

pub search_over-requires-clause-hashes : goal.search_over-requires-clause-hashes
search_over-requires-clause-hashes g c =
    subst (λ (t : Targeted). length c.args.hashes.now ≡ length (need t.leaves t.targets)) (sym c.survey.ensures) c.requires.hashes

pub returns : goal.returns
returns g c =
    subst (λ (t : Targeted). IfOk c.search_over.result (λ clash. IsSearched g.D.Digester.digest_of c.args.forest.now.entries c.args.outputs.now
    t.targets c.args.leaves.now c.args.hashes.now clash)) c.survey.ensures
    c.search_over.ensures
