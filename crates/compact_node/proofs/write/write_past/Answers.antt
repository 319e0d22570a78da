use Rattle.std.proofs.Common.{◌≡◌, sym, ap, ◌∙◌, subst}
use Rattle.forest_roots.specs.Stump.{Stump}
use Rattle.cache_update.specs.Marks.{GivesInOrder}
use Rattle.compact_node.specs.Marked.{PastState}
use Rattle.compact_node.proofs.Writing.{past_shape, past_text, as_written}
use Rattle.state_text.proofs.Written.{as_part}
use Rattle.compact_node.proofs.write.write_past.Goals as goal

-- the level with the roots that were unpacked
unpacked : (x y : PastState) (f : Stump) → f ≡ x.roots → x ≡ y → (let z : PastState = record { chain = x.chain; roots = f; mark = x.mark } in z) ≡ y
unpacked x y f e same = ap (λ (r : Stump). let z : PastState = record { chain = x.chain; roots = r; mark = x.mark } in z) e ∙ same

pub step_back-requires : goal.step_back-requires
step_back-requires g c = subst (λ (x : PastState). GivesInOrder x.mark.room) (sym c.past.view_is) c.requires.0

pub write_level-requires : goal.write_level-requires
write_level-requires g c = past_shape _ _ (unpacked _ _ _ c.unpack.ensures c.past.view_is) _ _ c.in-Ok.ensures.kept c.requires

pub returns-in-Ok-clause-whole : goal.returns-in-Ok-clause-whole
returns-in-Ok-clause-whole g c =
    as_written c.write_level.result _ _ _ _ (past_text _ _ (unpacked _ _ _ c.unpack.ensures c.past.view_is) _ _ c.in-Ok.ensures.kept _ _
    c.in-Ok.ensures.held) c.write_level.ensures.whole

pub returns-in-Ok-clause-part : goal.returns-in-Ok-clause-part
returns-in-Ok-clause-part g c =
    as_part _ _ _ _ (past_text _ _ (unpacked _ _ _ c.unpack.ensures c.past.view_is) _ _ c.in-Ok.ensures.kept _ _ c.in-Ok.ensures.held)
    c.write_level.ensures.part
