use Rattle.std.proofs.Common.{List, Option, ◌++◌, sym, ap₂, ◌∙◌}
use Rattle.std.specs.Option.{option_to_list}
use Rattle.cache_model.specs.Cache.{look}
use Rattle.forest_place.specs.declared.place.Place.{Place}
use Rattle.uo_digest.specs.declared.digest.Digest.{Digest}
use Rattle.state_text.proofs.Written.{filter_map-more}
use Rattle.state_text.proofs.writing.digests_at.Goals as goal

pub loop-i-preserved : goal.loop-i-preserved
loop-i-preserved c =
    let none : Place = record { row = 0; off = 0 } in
    c.in_ok-push_digest.ensures
    ∙ (ap₂ (λ (x : List Digest) (y : Option Digest). x ++ option_to_list y) c.loop-i.invariant c.digest_in.ensures
    ∙ sym (filter_map-more (λ (p : Place). look c.args.held.now p.row p.off) c.args.places.now c.loop-i.i none c.loop-i-test.true))
