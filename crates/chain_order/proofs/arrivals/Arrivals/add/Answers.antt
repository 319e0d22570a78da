use Rattle.std.proofs.Common.{◌≡◌, true, false, [], ◌∷◌, ◌++◌, refl, sym, ap₂, ◌∙◌}
use Rattle.chain_order.specs.Arrivals.{Arrival, has_arrived}
use Rattle.chain_order.proofs.Numbering.{arrived_is, numbered_after}
use Rattle.chain_order.proofs.arrivals.Arrivals.add.Goals as goal

pub returns-then-contains_key-clause-added : goal.returns-then-contains_key-clause-added
returns-then-contains_key-clause-added c =
    let known : has_arrived c.self.inside.list.items c.args.hash ≡ true = sym (arrived_is _ _ c.self.invariant c.args.hash _ c.contains_key.ensures)
    ∙ c.if-contains_key.true in
    rw (← c.self.view_is) (rw known refl)

pub returns-then-contains_key-clause-told : goal.returns-then-contains_key-clause-told
returns-then-contains_key-clause-told c =
    let known : has_arrived c.self.inside.list.items c.args.hash ≡ true = sym (arrived_is _ _ c.self.invariant c.args.hash _ c.contains_key.ensures)
    ∙ c.if-contains_key.true in
    rw (← c.self.view_is) (rw known refl)

pub invariant_of-self-2 : goal.invariant_of-self-2
invariant_of-self-2 c =
    let new : has_arrived c.self.inside.list.items c.args.hash ≡ false = sym (arrived_is _ _ c.self.invariant c.args.hash _ c.contains_key.ensures)
    ∙ c.if-contains_key.false in
    let same = c.in_ok-try_reserve.ensures.items in
    let grew = c.in-Ok.ensures.items ∙ ap₂ (λ xs (x : Arrival). xs ++ x ∷ []) same c.in_ok-stored.ensures in
    let one : Arrival = record { hash = c.args.hash; prev = c.args.prev; body = c.args.body.now } in
    numbered_after c.self.inside.list.items one _ _ _ _ c.self.invariant new
    (c.len.ensures ∙ c.in_ok-try_reserve.ensures.len ∙ c.self.inside.list.ok.0) grew c.in_ok-insert.ensures.updates

pub returns-clause-added : goal.returns-clause-added
returns-clause-added c =
    let new : has_arrived c.self.inside.list.items c.args.hash ≡ false = sym (arrived_is _ _ c.self.invariant c.args.hash _ c.contains_key.ensures)
    ∙ c.if-contains_key.false in
    let same = c.in_ok-try_reserve.ensures.items in
    let grew = c.in-Ok.ensures.items ∙ ap₂ (λ xs (x : Arrival). xs ++ x ∷ []) same c.in_ok-stored.ensures in
    rw (← c.self.view_is) (rw new grew)

pub returns-clause-told : goal.returns-clause-told
returns-clause-told c =
    let new : has_arrived c.self.inside.list.items c.args.hash ≡ false = sym (arrived_is _ _ c.self.invariant c.args.hash _ c.contains_key.ensures)
    ∙ c.if-contains_key.false in
    rw (← c.self.view_is) (rw new refl)
