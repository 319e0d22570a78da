use Rattle.std.proofs.Common.{◌≡◌, ◌+◌, ◌*◌, ◌++◌, ◌∷◌, true, List, All, Option, map, length, take, Some, refl, sym, ap, ap₂, ◌∙◌, subst, arith}
use Rattle.std.specs.Prelude.{is_some, option_map}
use Rattle.std.specs.List.{filter}
use Rattle.std.proofs.lemmas.List.{length-map}
use Rattle.std.proofs.lemmas.List.Sorted.{length_permutation}
use Rattle.forest_place.specs.Position.{rows}
use Rattle.forest_model.specs.Deletion.{entries_without}
use Rattle.leaf_record.specs.Leaf.{leaf_text}
use Rattle.uo_digest.specs.declared.digest.Digest.{Digest}
use Rattle.proof_wire.specs.BlockProof.{message_text}
use Rattle.output_index.specs.Held.{Held, leaf_at, is_live, is_spent, IsAbove}
use Rattle.bridge_prover.specs.Bridge.{BridgeState, dropped}
use Rattle.bridge_prover.specs.Own.{numbered, spent_in, forgotten_in, cut_in, unspent_in}
use Rattle.bridge_prover.specs.Watched.{scripts_of, noted_in}
use Rattle.bridge_prover.specs.Standing.{IsBridge}
use Rattle.bridge_prover.specs.Draft.{drafted}
use Rattle.bridge_prover.proofs.Holding.{holds_then, holds_still}
use Rattle.bridge_prover.proofs.Returning.{spent_both, above_both, live_new, taken_back}
use Rattle.bridge_prover.proofs.Sorting.{emptied_same, live_same}
use Rattle.bridge_prover.proofs.Next.{forgettable, extended_is, extended_like}
use Rattle.bridge_prover.proofs.Noting.{noted_then}
use Rattle.bridge_prover.proofs.bridge.Bridge.take_rising.Goals as goal

pub apply_block-requires-clause-live : goal.apply_block-requires-clause-live
apply_block-requires-clause-live g c =
    live_same c.args.numbers.items c.args.numbers.items c.args.spent.now c.args.spent.now c.args.self.now.entries c.self.inside.forest.entries
    c.reserve.new.self.entries refl c.requires.same refl (ap (λ s. s.entries) c.self.view_is) c.in_ok-reserve.ensures.entries
    c.requires.ready.live

pub keep-requires-clause-given : goal.keep-requires-clause-given
keep-requires-clause-given g c =
    (forgettable g.D.Digester.digest_of _ c.args.self.now c.self.view_is c.args.hash c.args.numbers.items c.args.spends.now.new
    c.apply_block.new.self.entries c.requires.ready
    (c.apply_block.ensures.entries ∙ ap₂ (λ xs ys. xs ++ map Some ys) (ap (entries_without c.args.spent.now) c.in_ok-reserve.ensures.entries
    ∙ emptied_same c.args.numbers.items c.args.numbers.items c.args.spent.now c.self.inside.forest.entries refl c.requires.same)
    (c.deref-4.ensures.value ∙ c.in_ok-digests.ensures.digests))).0

pub keep-requires-clause-gone : goal.keep-requires-clause-gone
keep-requires-clause-gone g c =
    (forgettable g.D.Digester.digest_of _ c.args.self.now c.self.view_is c.args.hash c.args.numbers.items c.args.spends.now.new
    c.apply_block.new.self.entries c.requires.ready
    (c.apply_block.ensures.entries ∙ ap₂ (λ xs ys. xs ++ map Some ys) (ap (entries_without c.args.spent.now) c.in_ok-reserve.ensures.entries
    ∙ emptied_same c.args.numbers.items c.args.numbers.items c.args.spent.now c.self.inside.forest.entries refl c.requires.same)
    (c.deref-4.ensures.value ∙ c.in_ok-digests.ensures.digests))).1

pub invariant_of-self-2 : goal.invariant_of-self-2
invariant_of-self-2 g c =
    let H = g.D.Digester.digest_of in
    let i = c.self.inside in
    let new = c.args.spends.now.new in
    let digests = c.in_ok-digests.ensures.digests in
    let long = length-map new (λ leaf. H (leaf_text leaf)) in
    let count : c.len-3.result ≡ length new = omega (arith, c.len-3.ensures, c.in_ok-digests.digests.ok.0, ap length digests, long) in
    let put = c.spend_all.ensures ∙ ap (spent_in c.deref.result.now) c.in_ok-insert_all.ensures.ok in
    let put' = put ∙ ap (λ ns. spent_in ns (i.outputs ++ numbered i.chain.leaves new)) c.deref.ensures.value in (
      extended_like H _ c.args.self.now c.self.view_is c.args.hash c.args.numbers.items new c.requires.ready.next c.len-3.result
          c.keep.new.forest.entries c.keep.new.outputs c.keep.new.ring count
          (c.keep.ensures.entries ∙ (c.apply_block.ensures.entries
          ∙ ap₂ (λ xs ys. xs ++ map Some ys) (ap (entries_without c.args.spent.now) c.in_ok-reserve.ensures.entries
          ∙ emptied_same c.args.numbers.items c.args.numbers.items c.args.spent.now i.forest.entries refl c.requires.same)
          (c.deref-4.ensures.value ∙ digests)))
          (c.keep.ensures.outputs ∙ ap (forgotten_in (dropped i.undo)) put')
          (c.keep.ensures.kept ∙ ap (λ u. take 100 (u ∷ i.undo)) c.undo_of-undo.ensures),
      noted_then (scripts_of i.watch) c.deref.result.now (dropped i.undo) i.chain.leaves new i.outputs i.noted.items c.in_ok-noted.noted.items
          c.keep_held.new.noted.items c.spend_all.new.outputs c.keep.new.outputs c.self.invariant.1 c.in_ok-noted.ensures put c.keep.ensures.outputs
          (c.keep_held.ensures ∙ ap (filter (λ k. is_some (leaf_at k c.keep.new.outputs)))
          (c.append.ensures ∙ ap₂ (λ xs ys. xs ++ ys) c.in_ok-reserve-2.ensures.items c.deref-3.ensures.value)),
      holds_then i.forest.entries _ c.args.spent.now c.deref.result.now (dropped i.undo) i.chain.leaves new c.deref-4.result.now i.outputs
          c.spend_all.new.outputs c.keep.new.outputs i.forest.held _ _ _ c.self.invariant.2
          (subst (λ (x : BridgeState). length x.entries ≡ x.chain.leaves) (sym c.self.view_is) c.requires.ready.counted)
          (ap length (c.deref-4.ensures.value ∙ digests) ∙ long)
          (c.keep.ensures.entries ∙ (c.apply_block.ensures.entries ∙ ap (λ es. entries_without c.args.spent.now es ++ map Some c.deref-4.result.now)
          c.in_ok-reserve.ensures.entries))
          put c.keep.ensures.outputs c.in_ok-reserve.ensures.held c.apply_block.ensures.held c.keep.ensures.held,
    )

pub returns-clause-next : goal.returns-clause-next
returns-clause-next g c =
    let H = g.D.Digester.digest_of in
    let i = c.self.inside in
    let new = c.args.spends.now.new in
    let digests = c.in_ok-digests.ensures.digests in
    let long = length-map new (λ leaf. H (leaf_text leaf)) in
    let count : c.len-3.result ≡ length new = omega (arith, c.len-3.ensures, c.in_ok-digests.digests.ok.0, ap length digests, long) in
    let put = c.spend_all.ensures ∙ ap (spent_in c.deref.result.now) c.in_ok-insert_all.ensures.ok in
    let put' = put ∙ ap (λ ns. spent_in ns (i.outputs ++ numbered i.chain.leaves new)) c.deref.ensures.value in
    extended_is H _ c.args.self.now c.self.view_is c.args.hash c.args.numbers.items new c.requires.ready.next c.len-3.result
    c.keep.new.forest.entries c.keep.new.outputs c.keep.new.ring count
    (c.keep.ensures.entries ∙ (c.apply_block.ensures.entries
    ∙ ap₂ (λ xs ys. xs ++ map Some ys) (ap (entries_without c.args.spent.now) c.in_ok-reserve.ensures.entries
    ∙ emptied_same c.args.numbers.items c.args.numbers.items c.args.spent.now i.forest.entries refl c.requires.same)
    (c.deref-4.ensures.value ∙ digests)))
    (c.keep.ensures.outputs ∙ ap (forgotten_in (dropped i.undo)) put')
    (c.keep.ensures.kept ∙ ap (λ u. take 100 (u ∷ i.undo)) c.undo_of-undo.ensures)

pub returns-clause-steps : goal.returns-clause-steps
returns-clause-steps g c =
    let new = c.args.spends.now.new in
    let long = length-map new (λ leaf. g.D.Digester.digest_of (leaf_text leaf)) in
    let many : length c.args.spent.now ≡ length c.args.numbers.items = length_permutation c.args.numbers.items c.args.spent.now c.requires.same in
    let same : length c.args.spent.now * rows (length c.reserve.new.self.entries)
    ≡ length c.args.numbers.items * rows (length c.args.self.now.entries) =
    ap₂ (λ k es. k * rows (length es)) many (c.in_ok-reserve.ensures.entries ∙ ap (λ s. s.entries) c.self.view_is) in
    omega (
      arith,
      c.apply_block.ensures.steps,
      c.in_ok-digests.ensures.steps,
      same,
      ap length (c.deref-4.ensures.value ∙ c.in_ok-digests.ensures.digests),
      long,
    )

-- what was put into the index and spent there
abbrev put_is : (g : _) (c : goal.After-deref-in_default g) → c.spend_all.new.outputs
    ≡ spent_in c.args.numbers.items (c.self.inside.outputs ++ numbered c.self.inside.chain.leaves c.args.spends.now.new)
put_is g c = c.spend_all.ensures ∙ ap₂ spent_in c.deref.ensures.value c.in_ok-insert_all.ensures.ok

pub give_back-requires-clause-spent : goal.give_back-requires-clause-spent
give_back-requires-clause-spent g c =
    let i = c.self.inside in
    let held = subst (λ (x : BridgeState). All (λ k. is_live k x.held ≡ true) c.args.numbers.items) (sym c.self.view_is) c.requires.ready.held in
    let is = c.self.invariant.0 in
    let spent = spent_both c.args.numbers.items i.chain.leaves c.args.spends.now.new i.outputs is.rise is.below held in
    subst (λ ns. All (λ k. is_spent k c.spend_all.new.outputs ≡ true) ns) (sym c.deref-in_default.ensures.value)
    (subst (λ hs. All (λ k. is_spent k hs ≡ true) c.args.numbers.items) (sym (put_is g c)) spent)

pub give_back-requires-clause-live : goal.give_back-requires-clause-live
give_back-requires-clause-live g c =
    let i = c.self.inside in
    let held = subst (λ (x : BridgeState). All (λ k. is_live k x.held ≡ true) c.args.numbers.items) (sym c.self.view_is) c.requires.ready.held in
    let is = c.self.invariant.0 in
    λ k le lt. ap (is_live k) (ap₂ unspent_in c.deref-in_default.ensures.value (put_is g c))
    ∙ live_new c.args.numbers.items i.chain.leaves c.args.spends.now.new i.outputs is.rise is.below held k le
    (omega (arith, lt, c.new_count.ensures))

pub give_back-requires-clause-above : goal.give_back-requires-clause-above
give_back-requires-clause-above g c =
    let i = c.self.inside in
    let new = c.args.spends.now.new in
    let held = subst (λ (x : BridgeState). All (λ k. is_live k x.held ≡ true) c.args.numbers.items) (sym c.self.view_is) c.requires.ready.held in
    let is = c.self.invariant.0 in
    let count : i.chain.leaves + length new ≡ i.chain.leaves + c.new_count.result = omega (arith, c.new_count.ensures) in
    subst (λ m. IsAbove m c.spend_all.new.outputs) count (subst (IsAbove (i.chain.leaves + length new)) (sym (put_is g c))
    (above_both c.args.numbers.items i.chain.leaves new i.outputs is.rise is.below held))

pub invariant_of-self-in_default : goal.invariant_of-self-in_default
invariant_of-self-in_default g c =
    let H = g.D.Digester.digest_of in
    let i = c.self.inside in
    let held = subst (λ (x : BridgeState). All (λ k. is_live k x.held ≡ true) c.args.numbers.items) (sym c.self.view_is) c.requires.ready.held in
    let is = c.self.invariant.0 in
    let put = c.spend_all.ensures ∙ ap₂ spent_in c.deref.ensures.value c.in_ok-insert_all.ensures.ok in
    let same : c.give_back.new.outputs ≡ i.outputs = c.give_back.ensures
    ∙ (ap (cut_in i.chain.leaves) (ap₂ unspent_in c.deref-in_default.ensures.value put)
    ∙ taken_back c.args.numbers.items i.chain.leaves c.args.spends.now.new i.outputs is.rise is.below held) in
    let st : List (Option Digest) → List Held → BridgeState = λ es hs. record {
      rules = record { net = i.net; limits = i.limits };
      watch = i.watch;
      chain = i.chain;
      entries = es;
      held = hs;
      undo = i.undo;
    } in (
      subst (λ es. IsBridge H (st es c.give_back.new.outputs)) (sym c.in_ok-reserve.ensures.entries)
          (subst (λ hs. IsBridge H (st i.forest.entries hs)) (sym same) c.self.invariant.0),
      c.in_ok-reserve-2.ensures.items ∙ (c.self.invariant.1 ∙ ap (noted_in (scripts_of i.watch)) (sym same)),
      holds_still i.outputs _ i.forest.entries _ i.forest.held _ c.self.invariant.2 same c.in_ok-reserve.ensures.entries
          c.in_ok-reserve.ensures.held,
    )

pub returns-in_default-clause-stays : goal.returns-in_default-clause-stays
returns-in_default-clause-stays g c =
    let i = c.self.inside in
    let held = subst (λ (x : BridgeState). All (λ k. is_live k x.held ≡ true) c.args.numbers.items) (sym c.self.view_is) c.requires.ready.held in
    let is = c.self.invariant.0 in
    let put = c.spend_all.ensures ∙ ap₂ spent_in c.deref.ensures.value c.in_ok-insert_all.ensures.ok in
    let same : c.give_back.new.outputs ≡ i.outputs = c.give_back.ensures
    ∙ (ap (cut_in i.chain.leaves) (ap₂ unspent_in c.deref-in_default.ensures.value put)
    ∙ taken_back c.args.numbers.items i.chain.leaves c.args.spends.now.new i.outputs is.rise is.below held) in
    let st : List (Option Digest) → List Held → BridgeState = λ es hs. record {
      rules = record { net = i.net; limits = i.limits };
      watch = i.watch;
      chain = i.chain;
      entries = es;
      held = hs;
      undo = i.undo;
    } in
    ap₂ st c.in_ok-reserve.ensures.entries same ∙ c.self.view_is

pub returns-clause-says : goal.returns-clause-says
returns-clause-says g c =
    let H = g.D.Digester.digest_of in
    c.in-Ok.ensures ∙ ap₂ (λ es ns. option_map (λ d. message_text (drafted H es ns c.args.spent.now d)) c.args.draft)
    (c.in_ok-reserve.ensures.entries ∙ ap (λ s. s.entries) c.self.view_is) c.deref-2.ensures.value
