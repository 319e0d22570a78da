use Rattle.std.proofs.Common.{◌≡◌, ◌≤◌, ◌/◌, ◌%◌, ◌^◌, true, length, take, ap, sym, ◌∙◌, subst, arith}
use Rattle.std.proofs.lemmas.Bool.{eqb-true, true≢false}
use Rattle.std.specs.Prelude.{option_map}
use Rattle.forest_model.specs.Content.{content, digest_of}
use Rattle.forest_place.specs.Forest.{InForest, is_slot, root_off}
use Rattle.forest_place.proofs.Positions.{slot_small}
use Rattle.live_forest.specs.Parts.{leaves_of}
use Rattle.live_forest.specs.Stores.{stored}
use Rattle.live_forest.proofs.Entries.{content-take}
use Rattle.live_forest.proofs.Holding.{length-entries}
use Rattle.live_forest.proofs.forest.Forest.root.Goals as goal
use Rattle.live_forest.proofs.forest.Forest.root.Goals.{else-row-lt40-via-then-row-lt40+else-is_slot, else-row-lt40-via-else-row-lt40}

pub returns-then-is_slot : goal.returns-then-is_slot
returns-then-is_slot g c =
    let H = g.D.Digester.digest_of in
    let n = c.self.inside.count in
    let s = c.self.inside.store in
    let row = c.args.row in
    let le : n ≤ s.len = omega (arith, c.self.invariant.room, c.self.invariant.longer) in
    let entries : take n (leaves_of s) ≡ c.args.self.now.entries = ap (λ b. b.entries) c.self.view_is in
    let long : n ≡ length c.args.self.now.entries = sym (length-entries n s le) ∙ ap length entries in
    let here : is_slot n row ≡ true = sym c.is_slot.ensures ∙ c.if-is_slot.true in
    let odd : n / 2 ^ row % 2 ≡ 1 = eqb-true _ _ here in
    let within : InForest n row (root_off n row) = omega (arith, odd) in (
      subst (λ m. is_slot m row ≡ true) long here,
      c.part.ensures ∙ ap (stored s row) c.root_place-root.ensures.off ∙ c.self.invariant.right.is row (root_off n row) within
          ∙ ap (option_map (digest_of H)) (sym (content-take (leaves_of s) n row (root_off n row) within))
          ∙ ap (λ x. option_map (digest_of H) (content x row (root_off n row))) entries
          ∙ ap (λ m. option_map (digest_of H) (content c.args.self.now.entries row (root_off m row))) long,
    )

pub returns-else-row-lt40 : goal.returns-else-row-lt40
returns-else-row-lt40 g c = λ slot.
    let n = c.self.inside.count in
    let s = c.self.inside.store in
    let le : n ≤ s.len = omega (arith, c.self.invariant.room, c.self.invariant.longer) in
    let entries : take n (leaves_of s) ≡ c.args.self.now.entries = ap (λ b. b.entries) c.self.view_is in
    let long : n ≡ length c.args.self.now.entries = sym (length-entries n s le) ∙ ap length entries in
    let here : is_slot n c.args.row ≡ true = subst (λ m. is_slot m c.args.row ≡ true) (sym long) slot in
    let small = slot_small n c.args.row 40 here c.self.invariant.few in
    elim c.else-row-lt40.branch [
      | else-row-lt40-via-then-row-lt40+else-is_slot w ↦ true≢false (sym here ∙ sym w.is_slot.ensures ∙ w.if-is_slot.false)
      | else-row-lt40-via-else-row-lt40
          w ↦ omega (arith, small)
    ]
