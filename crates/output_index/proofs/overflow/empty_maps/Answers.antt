use Rattle.std.proofs.Common.{◌≡◌, ℕ, None, sym, ap, subst, arith}
use Rattle.std.specs.Map.{lookup}
use Rattle.std.specs.BTreeMap.{is_at}
use Rattle.std.specs.Ordering.{nat_cmp}
use Rattle.output_index.specs.Overflow.{in_maps, maps_in}
use Rattle.output_index.proofs.MarkMaps.{none-in}
use Rattle.output_index.proofs.overflow.empty_maps.Goals as goal

pub loop-preserved : goal.loop-preserved
loop-preserved c = record {
  none = subst (λ maps. (m : ℕ) → in_maps (maps_in maps) m ≡ None) (sym c.in_ok-push.ensures.items)
      (none-in c.loop.maps.items c.new.result (λ m. ap (lookup (is_at (nat_cmp m))) c.new.ensures.empty) c.loop.invariant.none);
  len = omega (arith, c.push.new.self.ok.0, c.in_ok-push.ensures.len, c.loop.maps.ok.0, c.loop.invariant.len);
}
