use Rattle.std.proofs.Common.{◌≡◌, ◌≢◌, ◌+◌, ◌*◌, ◌<◌, ◌≤◌, true, false, length, take, Some, ap, sym, ◌∙◌, subst, arith}
use Rattle.std.specs.Prelude.{slice_get, All, AllPairs}
use Rattle.forest_place.specs.Position.{rows}
use Rattle.live_forest.specs.State.{is_live, is_held}
use Rattle.output_index.specs.Held.{is_spent}
use Rattle.reorg_undo.specs.Undo.{UndoRecord}
use Rattle.bridge_prover.specs.Own.{cut_in}
use Rattle.bridge_prover.specs.Bridge.{BridgeState, restored_in, spent_by}
use Rattle.bridge_prover.proofs.Refining.{can_go_back, undone_like}
use Rattle.bridge_prover.specs.Watched.{scripts_of}
use Rattle.bridge_prover.proofs.Holding.{holds_cut, holds_back, spent_holds}
use Rattle.bridge_prover.proofs.Noting.{noted_back}
use Rattle.bridge_prover.proofs.Telling.{undo_cost}
use Rattle.bridge_prover.proofs.bridge.Bridge.go_one_back.Goals as goal

pub cut-requires-clause-given : goal.cut-requires-clause-given
cut-requires-clause-given g c =
    let H = g.D.Digester.digest_of in
    let i = c.self.inside in
    let s : BridgeState = record {
      rules = record { net = i.net; limits = i.limits };
      watch = i.watch;
      chain = i.chain;
      entries = i.forest.entries;
      held = i.outputs;
      undo = i.undo;
    } in
    let u : UndoRecord = record {
      blocks = c.undo.inside.blocks;
      tip = c.undo.inside.tip;
      leaves = c.undo.inside.leaves;
      spent =
          c.undo.inside.spent.items;
    } in
    let newest : Some u ≡ slice_get s.undo 0 = ap Some c.undo.view_is ∙ c.in-Some.ensures.newest in
    let can = can_go_back H s u c.self.invariant.0 newest in
    can.below

pub cut-requires-clause-live : goal.cut-requires-clause-live
cut-requires-clause-live g c =
    let H = g.D.Digester.digest_of in
    let i = c.self.inside in
    let s : BridgeState = record {
      rules = record { net = i.net; limits = i.limits };
      watch = i.watch;
      chain = i.chain;
      entries = i.forest.entries;
      held = i.outputs;
      undo = i.undo;
    } in
    let u : UndoRecord = record {
      blocks = c.undo.inside.blocks;
      tip = c.undo.inside.tip;
      leaves = c.undo.inside.leaves;
      spent =
          c.undo.inside.spent.items;
    } in
    let newest : Some u ≡ slice_get s.undo 0 = ap Some c.undo.view_is ∙ c.in-Some.ensures.newest in
    let can = can_go_back H s u c.self.invariant.0 newest in
    can.added

pub restore_all-requires-clause-given : goal.restore_all-requires-clause-given
restore_all-requires-clause-given g c =
    let H = g.D.Digester.digest_of in
    let i = c.self.inside in
    let s : BridgeState = record {
      rules = record { net = i.net; limits = i.limits };
      watch = i.watch;
      chain = i.chain;
      entries = i.forest.entries;
      held = i.outputs;
      undo = i.undo;
    } in
    let u : UndoRecord = record {
      blocks = c.undo.inside.blocks;
      tip = c.undo.inside.tip;
      leaves = c.undo.inside.leaves;
      spent =
          c.undo.inside.spent.items;
    } in
    let newest : Some u ≡ slice_get s.undo 0 = ap Some c.undo.view_is ∙ c.in-Some.ensures.newest in
    let can = can_go_back H s u c.self.invariant.0 newest in
    subst (λ xs. All (λ n. n < length c.cut.new.self.entries) xs) (sym c.deref.ensures.value)
    (subst (λ es. All (λ n. n < length es) u.spent) (sym c.cut.ensures.entries) can.given)

pub restore_all-requires-clause-spent : goal.restore_all-requires-clause-spent
restore_all-requires-clause-spent g c =
    let H = g.D.Digester.digest_of in
    let i = c.self.inside in
    let s : BridgeState = record {
      rules = record { net = i.net; limits = i.limits };
      watch = i.watch;
      chain = i.chain;
      entries = i.forest.entries;
      held = i.outputs;
      undo = i.undo;
    } in
    let u : UndoRecord = record {
      blocks = c.undo.inside.blocks;
      tip = c.undo.inside.tip;
      leaves = c.undo.inside.leaves;
      spent =
          c.undo.inside.spent.items;
    } in
    let newest : Some u ≡ slice_get s.undo 0 = ap Some c.undo.view_is ∙ c.in-Some.ensures.newest in
    let can = can_go_back H s u c.self.invariant.0 newest in
    subst (λ xs. All (λ n. is_live c.cut.new.self.entries n ≡ false) xs) (sym c.deref.ensures.value)
    (subst (λ es. All (λ n. is_live es n ≡ false) u.spent) (sym c.cut.ensures.entries) can.spent)

pub restore_all-requires-clause-apart : goal.restore_all-requires-clause-apart
restore_all-requires-clause-apart g c =
    let H = g.D.Digester.digest_of in
    let i = c.self.inside in
    let s : BridgeState = record {
      rules = record { net = i.net; limits = i.limits };
      watch = i.watch;
      chain = i.chain;
      entries = i.forest.entries;
      held = i.outputs;
      undo = i.undo;
    } in
    let u : UndoRecord = record {
      blocks = c.undo.inside.blocks;
      tip = c.undo.inside.tip;
      leaves = c.undo.inside.leaves;
      spent =
          c.undo.inside.spent.items;
    } in
    let newest : Some u ≡ slice_get s.undo 0 = ap Some c.undo.view_is ∙ c.in-Some.ensures.newest in
    let can = can_go_back H s u c.self.invariant.0 newest in
    subst (AllPairs (λ m n. m ≢ n)) (sym c.deref.ensures.value) can.apart

pub restore_all-requires-clause-held : goal.restore_all-requires-clause-held
restore_all-requires-clause-held g c =
    let H = g.D.Digester.digest_of in
    let i = c.self.inside in
    let s : BridgeState = record {
      rules = record { net = i.net; limits = i.limits };
      watch = i.watch;
      chain = i.chain;
      entries = i.forest.entries;
      held = i.outputs;
      undo = i.undo;
    } in
    let u : UndoRecord = record {
      blocks = c.undo.inside.blocks;
      tip = c.undo.inside.tip;
      leaves = c.undo.inside.leaves;
      spent =
          c.undo.inside.spent.items;
    } in
    let newest : Some u ≡ slice_get s.undo 0 = ap Some c.undo.view_is ∙ c.in-Some.ensures.newest in
    let can = can_go_back H s u c.self.invariant.0 newest in
    let cut = holds_cut (length i.forest.entries) u.leaves i.outputs i.forest.held can.below c.self.invariant.2 in
    subst (λ xs. All (λ n. is_held c.cut.new.self.held n ≡ true) xs) (sym c.deref.ensures.value)
    (subst (λ held. All (λ n. is_held held n ≡ true) u.spent) (sym c.cut.ensures.held)
    (λ k d lt. spent_holds (cut_in u.leaves i.outputs) u.leaves (take u.leaves i.forest.held) cut _ (can.spent_held k d lt)))

pub cut-requires-2-clause-live : goal.cut-requires-2-clause-live
cut-requires-2-clause-live g c =
    let H = g.D.Digester.digest_of in
    let i = c.self.inside in
    let s : BridgeState = record {
      rules = record { net = i.net; limits = i.limits };
      watch = i.watch;
      chain = i.chain;
      entries = i.forest.entries;
      held = i.outputs;
      undo = i.undo;
    } in
    let u : UndoRecord = record {
      blocks = c.undo.inside.blocks;
      tip = c.undo.inside.tip;
      leaves = c.undo.inside.leaves;
      spent =
          c.undo.inside.spent.items;
    } in
    let newest : Some u ≡ slice_get s.undo 0 = ap Some c.undo.view_is ∙ c.in-Some.ensures.newest in
    let can = can_go_back H s u c.self.invariant.0 newest in
    can.added_held

pub cut-requires-2-clause-order : goal.cut-requires-2-clause-order
cut-requires-2-clause-order g c =
    let H = g.D.Digester.digest_of in
    let i = c.self.inside in
    let s : BridgeState = record {
      rules = record { net = i.net; limits = i.limits };
      watch = i.watch;
      chain = i.chain;
      entries = i.forest.entries;
      held = i.outputs;
      undo = i.undo;
    } in
    let u : UndoRecord = record {
      blocks = c.undo.inside.blocks;
      tip = c.undo.inside.tip;
      leaves = c.undo.inside.leaves;
      spent =
          c.undo.inside.spent.items;
    } in
    let newest : Some u ≡ slice_get s.undo 0 = ap Some c.undo.view_is ∙ c.in-Some.ensures.newest in
    let can = can_go_back H s u c.self.invariant.0 newest in
    let below = can.below in let counted = can.counted in omega (arith, below, counted)

pub unspend_all-requires-clause-spent : goal.unspend_all-requires-clause-spent
unspend_all-requires-clause-spent g c =
    let H = g.D.Digester.digest_of in
    let i = c.self.inside in
    let s : BridgeState = record {
      rules = record { net = i.net; limits = i.limits };
      watch = i.watch;
      chain = i.chain;
      entries = i.forest.entries;
      held = i.outputs;
      undo = i.undo;
    } in
    let u : UndoRecord = record {
      blocks = c.undo.inside.blocks;
      tip = c.undo.inside.tip;
      leaves = c.undo.inside.leaves;
      spent =
          c.undo.inside.spent.items;
    } in
    let newest : Some u ≡ slice_get s.undo 0 = ap Some c.undo.view_is ∙ c.in-Some.ensures.newest in
    let can = can_go_back H s u c.self.invariant.0 newest in
    subst (λ xs. All (λ n. is_spent n c.cut-2.new.outputs ≡ true) xs) (sym c.deref-2.ensures.value)
    (subst (λ hs. All (λ n. is_spent n hs ≡ true) u.spent) (sym c.cut-2.ensures) can.spent_held)

pub unspend_all-requires-clause-apart : goal.unspend_all-requires-clause-apart
unspend_all-requires-clause-apart g c =
    let H = g.D.Digester.digest_of in
    let i = c.self.inside in
    let s : BridgeState = record {
      rules = record { net = i.net; limits = i.limits };
      watch = i.watch;
      chain = i.chain;
      entries = i.forest.entries;
      held = i.outputs;
      undo = i.undo;
    } in
    let u : UndoRecord = record {
      blocks = c.undo.inside.blocks;
      tip = c.undo.inside.tip;
      leaves = c.undo.inside.leaves;
      spent =
          c.undo.inside.spent.items;
    } in
    let newest : Some u ≡ slice_get s.undo 0 = ap Some c.undo.view_is ∙ c.in-Some.ensures.newest in
    let can = can_go_back H s u c.self.invariant.0 newest in
    subst (AllPairs (λ m n. m ≢ n)) (sym c.deref-2.ensures.value) can.apart

pub invariant_of-self-2 : goal.invariant_of-self-2
invariant_of-self-2 g c =
    let H = g.D.Digester.digest_of in
    let i = c.self.inside in
    let s : BridgeState = record {
      rules = record { net = i.net; limits = i.limits };
      watch = i.watch;
      chain = i.chain;
      entries = i.forest.entries;
      held = i.outputs;
      undo = i.undo;
    } in
    let u : UndoRecord = record {
      blocks = c.undo.inside.blocks;
      tip = c.undo.inside.tip;
      leaves = c.undo.inside.leaves;
      spent =
          c.undo.inside.spent.items;
    } in
    let newest : Some u ≡ slice_get s.undo 0 = ap Some c.undo.view_is ∙ c.in-Some.ensures.newest in (
      undone_like H s u c.self.invariant.0 newest _ _ _ _ _ _ _ c.deref.ensures.value c.cut.ensures.entries c.restore_all.ensures.entries
          c.deref-2.ensures.value c.cut-2.ensures c.unspend_all.ensures c.pop.ensures.kept,
      noted_back (scripts_of i.watch) c.deref-2.result.now c.undo.inside.leaves i.outputs c.cut-2.new.outputs c.unspend_all.new.outputs i.noted.items
          c.cut_noted.new.noted.items c.self.invariant.1 c.cut-2.ensures c.unspend_all.ensures c.cut_noted.ensures,
      holds_back i.forest.entries _ _ (restored_in H i.outputs c.deref.result.now) c.deref-2.result.now u.leaves i.outputs _ _ i.forest.held _ _
          c.self.invariant.2 (can_go_back H s u c.self.invariant.0 newest).below c.cut.ensures.entries c.restore_all.ensures.entries
          c.cut-2.ensures c.unspend_all.ensures c.cut.ensures.held c.restore_all.ensures.held,
    )

pub returns-clause-steps : goal.returns-clause-steps
returns-clause-steps g c =
    let H = g.D.Digester.digest_of in
    let i = c.self.inside in
    let s : BridgeState = record {
      rules = record { net = i.net; limits = i.limits };
      watch = i.watch;
      chain = i.chain;
      entries = i.forest.entries;
      held = i.outputs;
      undo = i.undo;
    } in
    let u : UndoRecord = record {
      blocks = c.undo.inside.blocks;
      tip = c.undo.inside.tip;
      leaves = c.undo.inside.leaves;
      spent =
          c.undo.inside.spent.items;
    } in
    let newest : Some u ≡ slice_get s.undo 0 = ap Some c.undo.view_is ∙ c.in-Some.ensures.newest in
    subst (λ (x : BridgeState). c.restore_all.new.steps ≤ c.args.steps.now + spent_by 1 x.undo * (rows (length x.entries) + 1)) c.self.view_is
    (undo_cost H s u newest _ _ _ _ _ c.deref.ensures.value c.cut.ensures.entries c.cut.ensures.steps c.restore_all.ensures.steps)
