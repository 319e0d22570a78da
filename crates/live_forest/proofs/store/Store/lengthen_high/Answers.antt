use Rattle.live_forest.specs.Stores.{StoreState}
use Rattle.live_forest.proofs.Lengthening.{longer_high}
use Rattle.live_forest.proofs.store.Store.lengthen_high.Goals as goal

pub returns-clause-longer : goal.returns-clause-longer
returns-clause-longer c =
    let s : StoreState = record { len = c.self.inside.len; pages = c.self.inside.pages.items; high = c.self.inside.high.items } in
    rw (← c.self.view_is) (longer_high s c.lengthen_list.new.list.items c.self.invariant c.lengthen_list.ensures.longer c.lengthen_list.ensures.front)
