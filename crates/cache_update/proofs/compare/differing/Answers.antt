use Rattle.std.proofs.Common.{ℕ, List, [], filter_map, map, ap, ap₂, ◌∙◌, subst}
use Rattle.uo_digest.specs.declared.digest.Digest.{Digest}
use Rattle.forest_place.specs.declared.place.Place.{Place}
use Rattle.cache_model.specs.declared.kept.Kept.{Kept}
use Rattle.cache_model.specs.Lists.{leaf_key, AscendByNumber, AscendByPlace}
use Rattle.leaf_cache.specs.Parted.{Parted}
use Rattle.cache_update.specs.Differences.{lost, gained}
use Rattle.cache_update.specs.Given.{kept_given, held_given}
use Rattle.cache_update.proofs.Differing.{differences_give}
use Rattle.cache_update.proofs.Marking.{replaced_back}
use Rattle.cache_update.proofs.Passes.{from_nothing}
use Rattle.cache_update.proofs.compare.differing.Goals as goal

pub returns-clause-kept : goal.returns-clause-kept
returns-clause-kept c =
    let newer = ap (λ (p : Parted). p.kept) c.newer.view_is in
    let older = ap (λ (p : Parted). p.kept) c.older.view_is in
    ap₂ (λ (t : List Kept) (s : List (ℕ × Place)). kept_given t s c.in_ok-added.added.items c.args.newer.now.kept)
    (c.in_ok-taken.ensures ∙ (c.deref.ensures.value ∙ older)) c.new.ensures.items
    ∙ (ap (λ (j : List ℕ). kept_given c.args.older.now.kept [] j c.args.newer.now.kept)
    (c.in_ok-added.ensures ∙ ap (map leaf_key) (c.deref-2.ensures.value ∙ newer))
    ∙ replaced_back c.args.newer.now.kept c.args.older.now.kept (subst AscendByNumber newer c.newer.invariant.0)
    (subst AscendByNumber older c.older.invariant.0))

pub returns-clause-held : goal.returns-clause-held
returns-clause-held c =
    let newer = ap (λ (p : Parted). p.held) c.newer.view_is in
    let older = ap (λ (p : Parted). p.held) c.older.view_is in
    ap₂ (λ (x : List (Place × Digest)) (y : List Place). held_given x y c.args.newer.now.held)
    (from_nothing (lost c.deref-3.result.now) c.in_ok-lost.lost.items _ c.deref-4.result.now c.in_ok-lost.ensures.items c.note_all_lost.ensures.items
    ∙ ap₂ (λ (x : List (Place × Digest)) (y : List (Place × Digest)). filter_map (lost x) y) (c.deref-3.ensures.value ∙ newer)
    (c.deref-4.ensures.value ∙ older))
    (from_nothing (gained c.deref-6.result.now) c.in_ok-gained.gained.items _ c.deref-5.result.now c.in_ok-gained.ensures.items
    c.note_all_gained.ensures.items
    ∙ ap₂ (λ (x : List (Place × Digest)) (y : List (Place × Digest)). filter_map (gained y) x) (c.deref-5.ensures.value ∙ newer)
    (c.deref-6.ensures.value ∙ older))
    ∙ differences_give c.args.newer.now.held c.args.older.now.held (subst AscendByPlace newer c.newer.invariant.1)
    (subst AscendByPlace older c.older.invariant.1)
