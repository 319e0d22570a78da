use Rattle.std.proofs.Common.{length, sym, ap, ◌∙◌, subst}
use Rattle.forest_roots.specs.Stump.{IsStump}
use Rattle.forest_roots.proofs.Packing.{unpacked_is}
use Rattle.forest_roots.proofs.packed.PackedRoots.unpack.Goals as goal

pub invariant_of-result : goal.invariant_of-result
invariant_of-result g c =
    subst IsStump (sym (unpacked_is c.self.inside.count c.len.result c.self.inside.rows.items c.copy_from_slice.new.self
    (c.copy_from_slice.ensures.after ∙ c.deref.ensures.value)
    (c.len.ensures ∙ (sym c.deref.ensures.len ∙ ap length c.deref.ensures.value)))) c.self.invariant

pub returns : goal.returns
returns g c =
    unpacked_is c.self.inside.count c.len.result c.self.inside.rows.items c.copy_from_slice.new.self
    (c.copy_from_slice.ensures.after ∙ c.deref.ensures.value)
    (c.len.ensures ∙ (sym c.deref.ensures.len ∙ ap length c.deref.ensures.value)) ∙ c.self.view_is
