use Rattle.forest_tests.proofs.tests.outputs.short_lists.call.Goals as goal

pub returns-in-Some : goal.returns-in-Some
returns-in-Some g c = rw c.set_state.ensures (c.unspend.ensures _ c.requires)

pub returns-in-Some-last_of : goal.returns-in-Some-last_of
returns-in-Some-last_of g c = rw c.set_state-in-Some-last_of.ensures (c.spend.ensures _ c.requires)

pub returns-in-Some-first_in : goal.returns-in-Some-first_in
returns-in-Some-first_in g c = rw c.set_state-in-Some-first_in.ensures (c.forget.ensures _ c.requires)
