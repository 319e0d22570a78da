-- What a cache ends as, where its parts are lent for writing.
use Rattle.std.specs.Borrow.{Lends, Fml, RattleType, MutBor}
use Rattle.leaf_cache.specs.contracts.cache.Cache.{the_row}
use Rattle.leaf_cache.specs.contracts.parts.Parts.{the_row as parts_row}
use Rattle.leaf_cache.specs.declared.cache.Cache.{Cache}
use Rattle.leaf_cache.specs.Parted.{Parted}

module _ (D : RattleType) (s : MutBor (Cache D.Denot)) where
  -- once the borrow ends, the cache has the parts that were last written through it, and watches the same scripts
  abbrev pub lends_parts : MutBor Parted → Fml
  lends_parts r = Lends (the_row D) parts_row s r (λ w. record s.now { parts = w })
