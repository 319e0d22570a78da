use Rattle.std.proofs.Common.{◌≡◌, ◌<◌, ◌++◌, ◌∷◌, [], length, map, get_or, sym, ap, ◌∙◌, subst, arith}
use Rattle.std.specs.Prelude.{filter_map}
use Rattle.std.specs.List.{filter}
use Rattle.std.proofs.lemmas.List.{take_all}
use Rattle.forest_place.specs.declared.place.Place.{Place}
use Rattle.forest_place.specs.Places.{places}
use Rattle.cache_model.specs.Known.{is_known}
use Rattle.bridge_prover.proofs.Showing.{at, found_at}
use Rattle.bridge_prover.proofs.Merging.{with_digest, paired_alone, known_more, held_are}
use Rattle.bridge_prover.proofs.watched.hashes_of.Goals as goal

pub loop-i-preserved : goal.loop-i-preserved
loop-i-preserved g c =
    let H = g.D.Digester.digest_of in
    let es = c.args.forest.now.entries in
    let ps = c.in_ok-places.places.items in
    let i = c.loop-i.i in
    let p = c.index.result.now in
    let x = c.index-in-loop-i.result.now in
    let here : p ≡ get_or ps i p = c.index.ensures in
    let lt : i < length ps = omega (arith, c.loop-i-test.true, c.len-i-end.ensures, c.in_ok-places.places.ok.0) in
    let at_i : x ≡ at H es p = c.index-in-loop-i.ensures ∙ (found_at (at H es) ps c.in_ok-found.found.items i p x
    (c.in_ok-found.ensures ∙ ap (λ xs. map (at H es) xs) c.deref.ensures.value) lt ∙ ap (at H es) (sym here)) in
    known_more (with_digest H es) ps i p c.loop-i.known.items c.put_known.new.known.items lt c.loop-i.invariant
    (c.in_ok-put_known.ensures ∙ (ap (λ xs. c.loop-i.known.items ++ xs) (paired_alone H es p x at_i)
    ∙ ap (λ (q : Place). c.loop-i.known.items ++ filter_map (with_digest H es) (q ∷ [])) here))

pub returns : goal.returns
returns g c =
    let H = g.D.Digester.digest_of in
    let es = c.args.forest.now.entries in
    held_are H es c.args.kept.now.targets c.in_ok-places.places.items _
    (subst (λ n. c.in_ok-places.places.items ≡ filter (is_known n c.args.kept.now.targets) (places n)) c.requires c.in_ok-places.ensures)
    (c.loop-i.invariant ∙ ap (filter_map (with_digest H es))
    (take_all c.loop-i.i _ (omega (arith, c.loop-i-test.false, c.len-i-end.ensures, c.in_ok-places.places.ok.0))))
