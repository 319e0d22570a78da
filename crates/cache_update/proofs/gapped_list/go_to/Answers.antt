use Rattle.std.proofs.Common.{List, sym, ◌∙◌, subst, arith}
use Rattle.uo_digest.specs.declared.digest.Digest.{Digest}
use Rattle.forest_place.specs.declared.place.Place.{Place}
use Rattle.forest_place.specs.Places.{is_before_place}
use Rattle.cache_model.specs.Lists.{AscendByPlace}
use Rattle.cache_model.specs.Search.{IsSplit}
use Rattle.cache_model.specs.Undo.{held_key}
use Rattle.cache_update.specs.GappedList.{EndsBefore}
use Rattle.cache_update.proofs.gapped_list.go_to.Goals as goal

pub go_up-requires-clause-ascends : goal.go_up-requires-clause-ascends
go_up-requires-clause-ascends c = subst AscendByPlace (sym c.go_down-down.ensures.same) c.requires.ascends

pub go_up-requires-clause-before : goal.go_up-requires-clause-before
go_up-requires-clause-before c = subst (λ (hs : List (Place × Digest)). EndsBefore hs c.go_down-down.result.from c.args.place)
    (sym c.go_down-down.ensures.same) c.go_down-down.ensures.before

pub returns-clause-same : goal.returns-clause-same
returns-clause-same c = c.go_up.ensures.same ∙ c.go_down-down.ensures.same

pub returns-clause-size : goal.returns-clause-size
returns-clause-size c = omega (arith, c.go_up.ensures.size, c.go_down-down.ensures.size)

pub returns-clause-split : goal.returns-clause-split
returns-clause-split c = subst (λ (hs : List (Place × Digest)). IsSplit is_before_place held_key c.args.place hs c.go_up.result.from)
    c.go_down-down.ensures.same c.go_up.ensures.split
