use Rattle.std.proofs.Common.{◌≡◌, ℕ, List, ◌++◌, map, true, ap, ap₂, ◌∙◌, subst}
use Rattle.std.specs.Prelude.{filter_map}
use Rattle.uo_digest.specs.declared.digest.Digest.{Digest}
use Rattle.forest_place.specs.declared.place.Place.{Place}
use Rattle.forest_place.specs.Places.{has_place}
use Rattle.forest_model.specs.Cover.{need}
use Rattle.cache_model.specs.declared.kept.Kept.{Kept}
use Rattle.cache_model.specs.Cache.{look}
use Rattle.cache_model.specs.Lists.{leaf_places}
use Rattle.leaf_cache.specs.Parted.{Parted}
use Rattle.forest_place.specs.declared.naming.Naming.TheVariants.{FixedPosition}
use Rattle.state_text.specs.Stored.{level_text}
use Rattle.state_text.specs.Cached.{entry_of}
use Rattle.state_text.proofs.Filling.{shape_leaves}
use Rattle.state_text.proofs.writing.level_bytes.Goals as goal

pub put_level-requires : goal.put_level-requires
put_level-requires g c =
    let kept = c.deref-3.ensures.value ∙ ap (λ (p : Parted). p.kept) c.parts.view_is in
    λ r o h. c.requires.within (record { row = r; off = o }) (subst (λ (ks : List Kept). has_place (leaf_places ks) r o ≡ true) kept h)

pub returns : goal.returns
returns g c =
    let p = c.args.parts.now in
    let kept = λ (x : Parted). x.kept in
    let first = c.deref.ensures.value ∙ ap kept c.parts.view_is in
    let third = c.deref-3.ensures.value ∙ ap kept c.parts.view_is in
    let held = c.deref-2.ensures.value ∙ ap (λ (x : Parted). x.held) c.parts.view_is in
    let needed = c.needed.ensures ∙ ap₂ need (c.in_ok-targets.ensures.0 ∙ c.leaves.ensures.is)
    (c.in_ok-targets.ensures.1 ∙ (ap leaf_places first ∙ shape_leaves p.kept)) in
    let hashes = c.deref-4.ensures.value ∙ (c.in_ok-hashes.ensures
    ∙ ap₂ (λ (hs : List (Place × Digest)) (ps : List Place). filter_map (λ q. look hs q.row q.off) ps) held needed) in
    let value = λ (ks : List Kept) (hs : List Digest). level_text FixedPosition
    (record { tip = c.args.tip; roots = c.args.roots.now; kept = map entry_of ks; hashes = hs }) in
    c.in_ok-put_level.ensures.ok ∙ (ap (λ (x : List ℕ). x ++ value c.deref-3.result.now c.deref-4.result.now) c.new-bytes.ensures.items
    ∙ ap₂ value third hashes)
