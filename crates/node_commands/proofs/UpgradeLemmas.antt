-- Each state is upgraded.
use Rattle.std.proofs.Common.{◌≡◌, suc, ◌∷◌, length, map, inl, inr, Ok, Err, sym, ap, ◌∙◌, subst, arith}
use Rattle.std.proofs.lemmas.List.{length-map}
use Rattle.state_text.specs.Fits.{IsState}
use Rattle.state_text.specs.Stored.{StateValue, state_text}
use Rattle.state_text.specs.Cached.{level_in}
use Rattle.state_text.proofs.LevelLaws.{one_state, one_version}
use Rattle.compact_node.specs.Node.{NodeState}
use Rattle.compact_node.specs.State.{cached_level, stored_state, stored_text}
use Rattle.node_commands.specs.Upgrading.{told_upgraded, StatesAreUpgraded}

-- a node has as many levels as what is stored of it
levels_stored : (s : NodeState) → length (stored_state s).levels ≡ suc (length s.older)
levels_stored s = length-map (map cached_level (s.newest ∷ s.older)) level_in ∙ length-map (s.newest ∷ s.older) cached_level

pub states_are_upgraded : StatesAreUpgraded
states_are_upgraded H limits prior (Ok node) few start = λ s is of short.
    let same : s ≡ stored_state node = one_state H limits.leaves prior s (stored_state node) few is
    (subst (λ m. IsState H m.leaves (stored_state node)) start.limits_are start.reads.state) of start.reads.is in
    ap (λ n. told_upgraded n (stored_text node)) (sym (levels_stored node))
    ∙ ap (λ (v : StateValue). told_upgraded (length v.levels) (state_text v)) (sym same)
states_are_upgraded H limits prior (Err bad) few (inl l) = λ s is of short. absurd (omega (arith, short, l.long))
states_are_upgraded H limits prior (Err bad) few (inr (inl o)) = λ s is of short. absurd (one_version s prior o.version of o.other)
states_are_upgraded H limits prior (Err bad) few (inr (inr n)) = λ s is of short. absurd (n.none s is of)
