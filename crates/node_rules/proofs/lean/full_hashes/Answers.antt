use Rattle.std.proofs.Common.{◌≡◌, [], sym, subst, ap, ◌∙◌}
use Rattle.std.proofs.lemmas.Bool.{eqb-true}
use Rattle.std.proofs.lemmas.List.{nil_from_length}
use Rattle.forest_place.specs.Places.{IsAscending}
use Rattle.forest_model.proofs.Lists.{need_ascending}
use Rattle.node_rules.specs.Messages.{known_to}
use Rattle.cache_model.specs.Cache.{look}
use Rattle.node_rules.specs.Filled.{nones, filled}
use Rattle.node_rules.proofs.Filling.{other_count, are_hashes}
use Rattle.node_rules.proofs.lean.full_hashes.Goals as goal

pub known_beside-requires-clause-places : goal.known_beside-requires-clause-places
known_beside-requires-clause-places c = subst IsAscending (sym c.needed.ensures) (need_ascending c.args.targets.now.leaves c.args.targets.now.targets)

pub returns-then-is_empty : goal.returns-then-is_empty
returns-then-is_empty c =
    let none : c.lent-known.result.now ≡ [] = nil_from_length _ (eqb-true _ _ (sym c.is_empty.ensures ∙ c.if-is_empty.true)) in
    c.given_hashes.ensures (look c.args.known.now)
    (λ row off. sym (ap (λ lean. known_to lean (look c.args.known.now) row off) c.lean.ensures)
    ∙ (sym (c.lent-known.ensures.known row off) ∙ ap (λ ks. look ks row off) none))

pub returns-then-got-want : goal.returns-then-got-want
returns-then-got-want c =
    other_count c.args.message.now c.args.targets.now (look c.args.known.now) c.lent-known.result.now
    (λ row off. c.lent-known.ensures.known row off ∙ ap (λ lean. known_to lean (look c.args.known.now) row off) c.lean.ensures)
    c.needed.result.now c.in_ok-found.found.items c.needed.ensures c.in_ok-found.ensures _ _
    (c.asked_count-want.ensures ∙ ap nones c.deref.ensures.value) c.hash_count-got.ensures c.if-got-want.true

pub returns : goal.returns
returns c =
    are_hashes c.args.message.now c.args.targets.now (look c.args.known.now) c.lent-known.result.now
    (λ row off. c.lent-known.ensures.known row off ∙ ap (λ lean. known_to lean (look c.args.known.now) row off) c.lean.ensures)
    c.needed.result.now c.in_ok-found.found.items c.needed.ensures c.in_ok-found.ensures _ _ _
    (c.asked_count-want.ensures ∙ ap nones c.deref.ensures.value) c.hash_count-got.ensures c.if-got-want.false
    (c.in_ok-fill.ensures ∙ ap (filled c.args.message.now.proof.hashes 0) c.deref-2.ensures.value)
