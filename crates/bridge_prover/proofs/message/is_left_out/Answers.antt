use Rattle.std.proofs.Common.{◌≡◌, [], sym, ◌∙◌}
use Rattle.std.proofs.lemmas.Bool.{eqb-true}
use Rattle.std.proofs.lemmas.List.{nil_from_length}
use Rattle.cache_model.proofs.Known.{none_known}
use Rattle.bridge_prover.proofs.message.is_left_out.Goals as goal

pub returns-then-is_empty : goal.returns-then-is_empty
returns-then-is_empty c =
    let none : c.args.kept.now.targets ≡ [] = sym c.places.ensures ∙ nil_from_length _ (eqb-true _ _ (sym c.is_empty.ensures ∙ c.if-is_empty.true)) in
    rw none (sym (none_known c.args.kept.now.leaves c.args.place))
