use Rattle.std.proofs.Common.{length, refl, sym, ap, ◌∙◌, arith}
use Rattle.std.proofs.lemmas.Bool.{false≢true}
use Rattle.std.proofs.lemmas.List.{length-map}
use Rattle.bridge_prover.proofs.Showing.{at}
use Rattle.bridge_prover.proofs.Righted.{none_shown, hash_wrong, all_right}
use Rattle.bridge_prover.proofs.shown.right_entries.Goals as goal

pub returns-in_default : goal.returns-in_default
returns-in_default g c = λ us scripts h full.
    none_shown g.D.Digester.digest_of _ _ us scripts h c.args.external.now c.args.message.now c.args.targets.now c.requires.count
    c.requires.named c.places.result.now c.places.ensures _ c.in_default.is c.in_ok-numbers.ensures

pub do_hashes_stand-requires : goal.do_hashes_stand-requires
do_hashes_stand-requires g c =
    let found = ap length (c.deref.ensures.value ∙ c.in_ok-found.ensures) in
    let long = length-map c.needed.result.now (at g.D.Digester.digest_of c.args.forest.now.entries) in
    let asked = ap length c.needed.ensures in
    omega (arith, c.requires.many, found, long, asked)

pub returns-then-do_hashes_stand : goal.returns-then-do_hashes_stand
returns-then-do_hashes_stand g c = λ us scripts h full.
    all_right g.D.Digester.digest_of _ _ us scripts h c.args.external.now c.args.message.now c.args.targets.now c.requires.count
    c.requires.named c.places.result.now c.places.ensures c.args.hashes.now full c.needed.result.now c.needed.ensures _ _ c.in-Some.is
    c.in_ok-numbers.ensures (c.if-do_hashes_stand.ensures.0 refl ∙ (c.deref.ensures.value ∙ c.in_ok-found.ensures))

pub returns-else-do_hashes_stand : goal.returns-else-do_hashes_stand
returns-else-do_hashes_stand g c = λ us scripts h full.
    hash_wrong g.D.Digester.digest_of _ _ us scripts h c.args.external.now c.args.message.now c.args.targets.now c.requires.count
    c.requires.named c.places.result.now c.places.ensures c.args.hashes.now full c.needed.result.now c.needed.ensures
    (λ e. false≢true (c.if-do_hashes_stand.ensures.1 (e ∙ sym (c.deref.ensures.value ∙ c.in_ok-found.ensures))))
