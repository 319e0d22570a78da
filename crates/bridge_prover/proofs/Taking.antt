-- What a bridge says of a block by the message beside it, from what each call answered.
use Rattle.std.proofs.Common.{◌≡◌, ℕ, ◌+◌, ◌*◌, ◌≤◌, Bool, true, false, List, [], ◌∷◌, ◌++◌, length, Option, Some, None, refl, sym, ap, ap₂, ◌∙◌, subst, arith}
use Rattle.std.specs.Prelude.{not, ◌&&◌, is_none, option_map, Err, IfSome}
use Rattle.std.specs.Global.{Vec}
use Rattle.std.specs.List.{AllByRecursion}
use Rattle.std.specs.Option.{option_or}
use Rattle.std.proofs.lemmas.Bool.{false≢true}
use Rattle.std.proofs.lemmas.List.{length-map}
use Rattle.std.proofs.lemmas.Option.{none-some}
use Rattle.uo_digest.specs.declared.digest.Digest.{Digest}
use Rattle.forest_place.specs.declared.place.Place.{Place}
use Rattle.forest_model.specs.Cover.{need}
use Rattle.block_codec.specs.Block.{Block, BlockFits, block_hash_of}
use Rattle.leaf_record.specs.History.{History}
use Rattle.proof_shape.specs.Targeted.{Targeted}
use Rattle.block_rules.specs.declared.chain.Outside.{Outside}
use Rattle.block_rules.specs.declared.fault.RuleFault.{RuleFault}
use Rattle.block_rules.specs.declared.fault.RuleFault.TheVariants.{Refused, NoMemory}
use Rattle.block_rules.specs.declared.refusal.Refusal.{Refusal}
use Rattle.block_rules.specs.declared.refusal.Refusal.TheVariants as Why
use Rattle.block_rules.specs.declared.refusal.ProofRefusal.{ProofRefusal}
use Rattle.block_rules.specs.Steps.{first_of}
use Rattle.block_rules.specs.Blocks.{external, new_records}
use Rattle.block_rules.specs.Rules.{block_steps}
use Rattle.block_rules.specs.Money.{BlockSpends, spends_of, money_steps}
use Rattle.block_rules.specs.Judged.{ShapeJudged, IsShaped}
use Rattle.block_rules.proofs.Firsts.{first_of-append, append_passes, each_passes}
use Rattle.cache_model.specs.Cache.{look}
use Rattle.cache_model.specs.Known.{known_at}
use Rattle.node_rules.specs.Messages.{Message, points_of}
use Rattle.node_rules.specs.Accepting.{View, proof_fault}
use Rattle.node_rules.specs.Judged.{AreHashes, MessageJudged}
use Rattle.node_rules.specs.Known.{view_of}
use Rattle.node_rules.specs.Reading.{Handed, nothing, unread, read, handed_in}
use Rattle.node_rules.specs.Judging.{Evidence, message_steps, view_step, compact, full, refusal, is_accepted, is_right_message, entries_shown}
use Rattle.node_rules.specs.Judging.{found_by, is_forged}
use Rattle.node_rules.specs.Machine.{BlockCame, SpendEach}
use Rattle.node_rules.proofs.Judging.{view_judges}
use Rattle.node_rules.proofs.Value.{middle, once, full_pays}
use Rattle.node_rules.specs.Judged.{IsFirst}
use Rattle.node_rules.proofs.Counted.{external_few, found_long}
use Rattle.bridge_prover.specs.declared.bridge.judge.Shown.{Shown}
use Rattle.forest_place.specs.Position.{rows}
use Rattle.bridge_prover.specs.Bridge.{BridgeState, bridge_with}
use Rattle.bridge_prover.specs.Standing.{IsLiveIn, IsBridge}
use Rattle.bridge_prover.specs.Judged.{IsReady}
use Rattle.bridge_prover.specs.Shown.{IsHistory, AreKnown, IsChecked, Shows, ShowsByEach, view_in}
use Rattle.bridge_prover.specs.Full.{watched_by, history_of, most_judged}
use Rattle.bridge_prover.specs.Taken.{IsTaken, IsNotTaken, refusal_beside, view_on}
use Rattle.bridge_prover.proofs.Checking.{same_known, fault_same}
use Rattle.node_rules.proofs.Firsts.{first-in, first-behind, none-both}
use Rattle.bridge_prover.proofs.Historied.{is_history, own_history, newest_history}
use Rattle.bridge_prover.proofs.Next.{room, can_take}

and-false : (a b : Bool) → b ≡ false → (a && b) ≡ false
and-false true b e = e
and-false false b e = refl

pub each_live : (us : History) (is : List Outside) (ns : List ℕ) → SpendEach us is ns → AllByRecursion (IsLiveIn us) ns
each_live us [] [] s = tt
each_live us [] (n ∷ ns) s = absurd s
each_live us (i ∷ is) [] s = absurd s
each_live us (i ∷ is) (n ∷ ns) s = ((s.0.leaf, s.0.live), each_live us is ns s.1)

each_long : (us : History) (is : List Outside) (ns : List ℕ) → SpendEach us is ns → length ns ≡ length is
each_long us [] [] s = refl
each_long us [] (n ∷ ns) s = absurd s
each_long us (i ∷ is) [] s = absurd s
each_long us (i ∷ is) (n ∷ ns) s = let e = each_long us is ns s.1 in omega (arith, e)

module _ (H : List ℕ → Digest) (s : BridgeState) (b : Block) (handed : Handed) where
  abbrev before : List (Option Refusal)
  before = block_steps s.rules.net s.rules.limits s.chain b

  abbrev ext : List Outside
  ext = external b s.chain.blocks

  abbrev scripts : List (List ℕ)
  scripts = watched_by s

  module _ (us : History) where
    abbrev by_view : Evidence
    by_view = compact H (view_of H scripts us) ext handed

    abbrev by_all : Evidence
    by_all = full H scripts us ext handed

    abbrev on_money : List (Option Refusal)
    on_money = money_steps (spends_of s.rules.net s.chain.blocks b) (found_by handed)

    abbrev forged : Bool
    forged = is_forged H scripts s.rules s.chain us b handed

    -- what is right is not forged
    pub honest : is_right_message H scripts us ext handed ≡ true → forged ≡ false
    honest right = and-false (is_none (first_of (before ++ message_steps ext handed))) _
        (and-false (is_accepted H (view_of H scripts us) ext handed) _ (ap not right))

    by_all_passes : forged ≡ false → first_of before ≡ None → first_of by_view.steps ≡ None → first_of on_money ≡ None
        → refusal s.rules s.chain b by_all ≡ None
    by_all_passes f shape steps money = view_judges H scripts us s.rules s.chain b handed f
        ∙ none-both before (by_view.steps ++ on_money) shape (none-both by_view.steps on_money steps money)

    by_money : (why : Refusal) → forged ≡ false → first_of before ≡ None → first_of by_view.steps ≡ None → first_of on_money ≡ Some why
        → refusal s.rules s.chain b by_all ≡ Some why
    by_money why f shape steps money =
        view_judges H scripts us s.rules s.chain b handed f ∙ first-behind before (by_view.steps ++ on_money) (Refused why) shape
        (first-behind by_view.steps on_money (Refused why) steps money)

    by_step : (why : Refusal) → forged ≡ false → first_of before ≡ None → first_of by_view.steps ≡ Some why
        → refusal s.rules s.chain b by_all ≡ Some why
    by_step why f shape steps =
        view_judges H scripts us s.rules s.chain b handed f
        ∙ first-behind before (by_view.steps ++ on_money) (Refused why) shape (first-in by_view.steps on_money (Refused why) steps)

    by_shape : (why : Refusal) → forged ≡ false → first_of before ≡ Some why → refusal s.rules s.chain b by_all ≡ Some why
    by_shape why f shape = view_judges H scripts us s.rules s.chain b handed f ∙ first-in before (by_view.steps ++ on_money) (Refused why) shape

  -- a block that does not pass by itself is not forged
  shape_honest : (us : History) (why : Refusal) → first_of before ≡ Some why → forged us ≡ false
  shape_honest us why e =
      let first : first_of (before ++ message_steps ext handed) ≡ Some why = first-in before (message_steps ext handed) (Refused why) e in
      ap (λ x. is_none x && (is_accepted H (view_of H scripts us) ext handed && not (is_right_message H scripts us ext handed))) first

option_or-none : (x : Option Refusal) (why : Refusal) → option_or x None ≡ Some why → x ≡ Some why
option_or-none None why e = e
option_or-none (Some y) why e = e

mapped-none : (x : Option ProofRefusal) → option_map Why.Proof x ≡ None → x ≡ None
mapped-none None e = refl
mapped-none (Some f) e = absurd (none-some _ (sym e))

module _ (H : List ℕ → Digest) (s : BridgeState) (b : Block) (us : History)
    (shape : first_of (block_steps s.rules.net s.rules.limits s.chain b) ≡ None) where
  -- nor is one whose message the roots do not accept
  pub refused_honest : (handed : Handed) (why : Refusal) → first_of
      (compact H (view_of H (watched_by s) us) (external b s.chain.blocks) handed).steps ≡ Some why
      → is_forged H (watched_by s) s.rules s.chain us b handed ≡ false
  refused_honest nothing why e = and-false (is_none (first_of (before H s b nothing ++ message_steps (external b s.chain.blocks) nothing))) _
      refl
  refused_honest (unread f) why e = and-false
      (is_none (first_of (before H s b (unread f) ++ message_steps (external b s.chain.blocks) (unread f)))) _ refl
  refused_honest (read m) why e = by (proof_fault H (view_of H (watched_by s) us) (points_of (external b s.chain.blocks)) m) refl e
    where
      ahead : List (Option Refusal)
      ahead = block_steps s.rules.net s.rules.limits s.chain b ++ message_steps (external b s.chain.blocks) (read m)

      right : Bool
      right = is_right_message H (watched_by s) us (external b s.chain.blocks) (read m)

      by : (fault : Option ProofRefusal) → proof_fault H (view_of H (watched_by s) us) (points_of (external b s.chain.blocks)) m ≡ fault →
          first_of (message_steps (external b s.chain.blocks) (read m) ++ (option_map Why.Proof fault ∷ [])) ≡ Some why
          → (is_none (first_of ahead) && (is_none fault && not right)) ≡ false
      by None is e =
          let first : first_of (message_steps (external b s.chain.blocks) (read m)) ≡ Some why =
          option_or-none _ why (sym (first_of-append (message_steps (external b s.chain.blocks) (read m)) (None ∷ [])) ∙ e) in
          ap (λ x. is_none x && (true && not right)) (first-behind (block_steps s.rules.net s.rules.limits s.chain b)
          (message_steps (external b s.chain.blocks) (read m)) (Refused why) shape first)
      by (Some fault) is e = and-false (is_none (first_of ahead)) _ refl

  -- one that the roots accept and that is not right is
  pub wrong_forged : (handed : Handed) → first_of (compact H (view_of H (watched_by s) us) (external b s.chain.blocks) handed).steps ≡ None
      → is_right_message H (watched_by s) us (external b s.chain.blocks) handed ≡ false
      → is_forged H (watched_by s) s.rules s.chain us b handed ≡ true
  wrong_forged nothing e wrong = absurd (false≢true (sym wrong))
  wrong_forged (unread why) e wrong = absurd (false≢true (sym wrong))
  wrong_forged (read m) e wrong =
      let ms = message_steps (external b s.chain.blocks) (read m) in
      let parts = append_passes ms (view_step H (view_of H (watched_by s) us) (external b s.chain.blocks) (read m) ∷ []) e in
      let fault : proof_fault H (view_of H (watched_by s) us) (points_of (external b s.chain.blocks)) m ≡ None =
      mapped-none _ (each_passes (view_step H (view_of H (watched_by s) us) (external b s.chain.blocks) (read m) ∷ []) 0 parts.1) in
      let first = none-both (block_steps s.rules.net s.rules.limits s.chain b) ms shape parts.0 in
      forged-so _ _ _ first fault wrong
    where
      forged-so : (x : Option Refusal) (fault : Option ProofRefusal) (right : Bool) → x ≡ None → fault ≡ None → right ≡ false
          → (is_none x && (is_none fault && not right)) ≡ true
      forged-so x fault right e f g = rw (e, f, g) refl

module _ (H : List ℕ → Digest) (s : BridgeState) (b : Block) (handed : Handed) where
  -- a block that does not pass by itself
  pub unshaped : (fault : RuleFault) → ShapeJudged s.rules.net s.rules.limits s.chain b (Err fault) → IsNotTaken H s b handed fault
  unshaped (Refused why) e =
      let f = shape_honest H s b handed (history_of s) why e in
      (f, by_shape H s b handed (history_of s) why f e)
  unshaped NoMemory e = tt

  module _ (spends : BlockSpends) (shaped : IsShaped s.rules.net s.rules.limits s.chain b spends) where
    same_external : spends.external ≡ external b s.chain.blocks
    same_external = ap (λ (x : BlockSpends). x.external) shaped.spends

    -- what the check of a message digests, and then the block
    module _ (start told : ℕ) (checked : told ≤ start + length spends.external + 2 * (length spends.external * rows (length s.entries))) where
      checked_here : told ≤ start + length (external b s.chain.blocks) + 2 * (length (external b s.chain.blocks) * rows (length s.entries))
      checked_here = subst (λ ext. told ≤ start + length ext + 2 * (length ext * rows (length s.entries))) same_external checked

      pub told_most : told ≤ start + most_judged s (BlockCame (Some b) handed)
      told_most = omega (arith, checked_here)

      pub taken_most : (numbers : List ℕ) (after : ℕ) → length numbers ≡ length (external b s.chain.blocks)
          → after ≤ told + length numbers * rows (length s.entries) + 2 * length spends.new + 40
          → after ≤ start + most_judged s (BlockCame (Some b) handed)
      taken_most numbers after long more =
          let by_new = subst (λ (x : BlockSpends). after ≤ told + length numbers * rows (length s.entries) + 2 * length x.new + 40) shaped.spends
          more in
          let by_inputs = subst (λ n. after ≤ told + n * rows (length s.entries) + 2 * length (new_records b s.chain.blocks) + 40) long by_new in
          omega (arith, checked_here, by_inputs)

    -- a message that is not accepted
    pub not_shown : (fault : RuleFault) → IsFirst (refusal_beside H s spends.external handed) fault → IsNotTaken H s b handed fault
    not_shown NoMemory a = tt
    not_shown (Refused why) a =
        let us = history_of s in
        let first : first_of (compact H (view_of H (watched_by s) us) (external b s.chain.blocks) handed).steps ≡ Some why =
        subst (λ ext. refusal_beside H s ext handed ≡ Some why) same_external a in
        let f = refused_honest H s b us shaped.passes handed why first in
        (f, by_step H s b handed us why f shaped.passes first)

    module _ (answer : Option Shown) (passes : refusal_beside H s spends.external handed ≡ None)
        (shows : Shows H (watched_by s) (history_of s) spends.external handed (option_map (λ a. a.numbers.items) answer)) where
      shows_at : (x : Option Shown) → answer ≡ x
          → Shows H (watched_by s) (history_of s) (external b s.chain.blocks) handed (option_map (λ a. a.numbers.items) x)
      shows_at x is =
          subst (λ ext. Shows H (watched_by s) (history_of s) ext handed (option_map (λ a. a.numbers.items) x)) same_external
          (subst (λ (y : Option Shown). Shows H (watched_by s) (history_of s) spends.external handed (option_map (λ a. a.numbers.items) y)) is shows)

      passes_here : refusal_beside H s (external b s.chain.blocks) handed ≡ None
      passes_here = subst (λ ext. refusal_beside H s ext handed ≡ None) same_external passes

      -- one that is accepted and not right
      pub caught : (t : BridgeState) → answer ≡ None → t ≡ s → IsTaken H s b handed false t
      caught t is same = (wrong_forged H s b (history_of s) shaped.passes handed passes_here (shows_at None is), same)

    -- and one that is right
    module _ (answer : Option Shown) (passes : refusal_beside H s spends.external handed ≡ None)
        (shows : Shows H (watched_by s) (history_of s) spends.external handed (option_map (λ a. a.numbers.items) answer))
        (finds : IfSome answer (λ a. a.found.items ≡ found_by handed)) (shown : Shown) (is_shown : answer ≡ Some shown) where
      are : (is_right_message H (watched_by s) (history_of s) (external b s.chain.blocks) handed ≡ true)
          × (shown.numbers.items ≡ entries_shown H (history_of s) handed)
      are = shows_at answer passes shows (Some shown) is_shown

      found : shown.found.items ≡ found_by handed
      found = subst (λ (x : Option Shown). IfSome x (λ a. a.found.items ≡ found_by handed)) is_shown finds

      tested : refusal_beside H s (external b s.chain.blocks) handed ≡ None
      tested = passes_here answer passes shows

      pub found_many : length shown.found.items ≡ length spends.external
      found_many =
          let ext = external b s.chain.blocks in
          let by_view = view_step H (view_of H (watched_by s) (history_of s)) ext handed ∷ [] in
          let by_message : first_of (message_steps ext handed) ≡ None = (append_passes (message_steps ext handed) by_view tested).0 in
          ap length found ∙ (found_long ext handed by_message ∙ ap length (sym same_external))

      same_money : money_steps spends shown.found.items ≡ on_money H s b handed (history_of s)
      same_money = ap₂ money_steps shaped.spends found

      not_forged : is_forged H (watched_by s) s.rules s.chain (history_of s) b handed ≡ false
      not_forged = honest H s b handed (history_of s) are.0

      pub unpaid : (why : Refusal) → first_of (money_steps spends shown.found.items) ≡ Some why → IsNotTaken H s b handed (Refused why)
      unpaid why e = (
        not_forged,
        by_money H s b handed (history_of s) why not_forged shaped.passes tested
            (ap first_of (sym same_money) ∙ e),
      )

      module _ (paid : first_of (money_steps spends shown.found.items) ≡ None) where
        accepted : refusal s.rules s.chain b (by_all H s b handed (history_of s)) ≡ None
        accepted = by_all_passes H s b handed (history_of s) not_forged shaped.passes tested (ap first_of (sym same_money) ∙ paid)

        pub shown_long : length shown.numbers.items ≡ length (external b s.chain.blocks)
        shown_long =
            let us = history_of s in
            let e = by_all H s b handed us in
            let each = once us s.rules s.chain b e accepted
            (full_pays H us (watched_by s) (external b s.chain.blocks) handed (middle us s.rules s.chain b e accepted).1) in
            ap length are.1 ∙ each_long us (external b s.chain.blocks) e.numbers each.0

        pub shown_ready : IsBridge H s → BlockFits b → (hash : Digest) → IsReady H s hash shown.numbers.items spends.new
        shown_ready is fits hash =
            let us = is.levels.now.history in
            let same : history_of s ≡ us = is_history H s us (newest_history H is.levels s is is.stands) in
            let whole : refusal s.rules s.chain b (by_all H s b handed us) ≡ None =
            subst (λ h. refusal s.rules s.chain b (by_all H s b handed h) ≡ None) same accepted in
            let e = by_all H s b handed us in
            let each = once us s.rules s.chain b e whole
            (full_pays H us (watched_by s) (external b s.chain.blocks) handed (middle us s.rules s.chain b e whole).1) in
            let few = external_few s.rules.net s.rules.limits s.chain b spends fits shaped in
            let long = each_long us (external b s.chain.blocks) e.numbers each.0 in
            let many = ap length same_external in
            subst (λ ns. IsReady H s hash ns spends.new) (sym (are.1 ∙ ap (λ h. entries_shown H h handed) same))
            (subst (IsReady H s hash e.numbers) (sym (ap (λ (x : BlockSpends). x.new) shaped.spends))
            (can_take H s is e.numbers (new_records b s.chain.blocks) (each_live us (external b s.chain.blocks) e.numbers each.0) each.1
            (room s.rules s.chain b e whole) hash (omega (arith, few, long, many))))

        pub gone : (hash : Digest) (t : BridgeState) → hash ≡ block_hash_of b → t ≡ bridge_with H s hash shown.numbers.items spends.new
            → IsTaken H s b handed true t
        gone hash t at next = (
          not_forged,
          accepted,
          next ∙ (ap₂ (λ h ns. bridge_with H s h ns spends.new) at are.1
              ∙ ap (bridge_with H s (block_hash_of b) (entries_shown H (history_of s) handed))
              (ap (λ (x : BlockSpends). x.new) shaped.spends)),
        )

-- ---- what stands beside a block

module _ (H : List ℕ → Digest) (v : View) (ext : List Outside) where
  -- what was handed in is refused
  pub unread_first : (bytes : Option (List ℕ)) (fault : RuleFault) → MessageJudged ext bytes (Err fault)
      → IsFirst (first_of (compact H v ext (handed_in bytes)).steps) fault
  unread_first bytes (Refused why) e = first-in (message_steps ext (handed_in bytes)) (view_step H v ext (handed_in bytes) ∷ []) (Refused why) e
  unread_first bytes NoMemory e = tt

  -- or the proof of a message
  pub proof_first : (handed : Handed) (m : Message) (fault : RuleFault) → handed ≡ read m → first_of (message_steps ext handed) ≡ None
      → IsFirst (option_map Why.Proof (proof_fault H v (points_of ext) m)) fault → IsFirst (first_of (compact H v ext handed).steps) fault
  proof_first handed m NoMemory is passes e = tt
  proof_first handed m (Refused why) is passes e =
      first-behind (message_steps ext handed) (view_step H v ext handed ∷ []) (Refused why) passes
      (ap (λ h. first_of (view_step H v ext h ∷ [])) is ∙ ap (λ x. option_or x None) e)

module _ (H : List ℕ → Digest) (s : BridgeState) (ext : List Outside) where
  -- a message that was read
  pub message_passes : (handed : Handed) (m : Message) → handed ≡ read m → first_of (message_steps ext handed) ≡ None
      → proof_fault H (view_on H s) (points_of ext) m ≡ None → refusal_beside H s ext handed ≡ None
  message_passes handed m is passes e =
      none-both (message_steps ext handed) (view_step H (view_on H s) ext handed ∷ []) passes
      (ap (λ h. first_of (view_step H (view_on H s) ext h ∷ [])) is ∙ ap (λ x. option_or (option_map Why.Proof x) None) e)

  -- and nothing at all
  pub nothing_passes : (handed : Handed) → handed ≡ nothing → first_of (message_steps ext handed) ≡ None → refusal_beside H s ext handed ≡ None
  nothing_passes handed is passes =
      none-both (message_steps ext handed) (view_step H (view_on H s) ext handed ∷ []) passes
      (ap (λ h. first_of (view_step H (view_on H s) ext h ∷ [])) is)

  pub nothing_shows : (handed : Handed) (numbers : List ℕ) → handed ≡ nothing → numbers ≡ []
      → Shows H (watched_by s) (history_of s) ext handed (Some numbers)
  nothing_shows handed numbers is none = subst (λ h. Shows H (watched_by s) (history_of s) ext h (Some numbers)) (sym is) (refl, none)

-- ---- a message, by forest and index

module _ (H : List ℕ → Digest) (s : BridgeState) (is : IsBridge H s) (ext : List Outside) (m : Message)
    (known : List (Place × Digest)) (are : AreKnown H (watched_by s) (history_of s) known) where
  here : IsHistory H s.entries s.held (history_of s)
  here = own_history H s is

  fault-same : proof_fault H (view_in H s.entries (look known)) (points_of ext) m ≡ proof_fault H (view_on H s) (points_of ext) m
  fault-same = fault_same H (watched_by s) s.entries (history_of s) known ext m here.entries_are are

  pub refused_for : (fault : RuleFault) → IsFirst (option_map Why.Proof (proof_fault H (view_in H s.entries (look known)) (points_of ext) m)) fault
      → IsFirst (option_map Why.Proof (proof_fault H (view_on H s) (points_of ext) m)) fault
  refused_for (Refused why) e = ap (option_map Why.Proof) (sym fault-same) ∙ e
  refused_for NoMemory e = tt

  module _ (t : Targeted) (hashes : List Digest) (checked : IsChecked H s.entries (look known) ext m t hashes) where
    pub hashes_many : (hashes' : List Digest) → hashes' ≡ hashes → length hashes' ≡ length (need t.leaves t.targets)
    hashes_many hashes' e = ap length (e ∙ checked.full.hashes_are H) ∙ length-map (need t.leaves t.targets) _

    pub accepted_by : proof_fault H (view_on H s) (points_of ext) m ≡ None
    accepted_by = sym fault-same ∙ checked.passes

    pub shown_by : (hashes' : List Digest) (x y : Option (Vec ℕ)) → hashes' ≡ hashes
        → ShowsByEach H s.entries s.held ext m t hashes' (option_map (λ all. all.items) x) → x ≡ y
        → Shows H (watched_by s) (history_of s) ext (read m) (option_map (λ all. all.items) y)
    shown_by hashes' x y e by at =
        subst (λ (z : Option (Vec ℕ)). Shows H (watched_by s) (history_of s) ext (read m) (option_map (λ all. all.items) z)) at
        (by (history_of s) (watched_by s) here
        (subst (λ xs. AreHashes m t (known_at H (watched_by s) (history_of s)) xs) (sym e)
        (subst (λ k. AreHashes m t k hashes) (same_known H (watched_by s) (history_of s) known are) checked.full)))
