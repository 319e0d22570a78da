-- What the proving node passes on is read again, and has frames.
use Rattle.std.proofs.Common.{◌≡◌, ℕ, ◌+◌, ◌*◌, ◌<◌, ◌≤◌, ◌^◌, Bool, true, false, cond, List, [], ◌∷◌, map, length, Option, Some, None, refl, ap, ap₂}
use Rattle.std.proofs.Common.{arith}
use Rattle.std.specs.Prelude.{nat_le}
use Rattle.std.specs.List.{AllByRecursion}
use Rattle.std.proofs.lemmas.Bool.{leb-true, false≢true}
use Rattle.uo_base.specs.FeedEvent.{FeedEvent, BlockCame, RollbackCame, StrayCame}
use Rattle.uo_base.specs.Reading.{IsBytes}
use Rattle.uo_digest.specs.declared.digest.Digest.{Digest}
use Rattle.forest_model.specs.Content.{IsDigest}
use Rattle.block_codec.specs.Block.{Block, block_text, stripped_text, weight_of}
use Rattle.block_codec.specs.Reading.{block_in}
use Rattle.block_codec.proofs.BlockLaws.{IsBlockText, block_in-fits}
use Rattle.proof_wire.specs.BlockProof.{message_text}
use Rattle.block_rules.specs.declared.chain.Outside.{Outside}
use Rattle.block_rules.specs.declared.refusal.Refusal.{Refusal}
use Rattle.block_rules.specs.Blocks.{external}
use Rattle.node_rules.specs.Fitting.{AreEventBytes, LevelFits}
use Rattle.node_rules.specs.Messages.{Message}
use Rattle.node_rules.specs.Reading.{read, message_in, handed_in}
use Rattle.node_rules.specs.Judging.{Rules, own, refusal, message_of, written}
use Rattle.node_rules.specs.Machine.{ChainEvent, State, start, chain_of, event_in, own_judge, by_refusal, step, is_made, with_message, OnEachLevel}
use Rattle.node_rules.specs.Machine.{proof_feed}
use Rattle.node_rules.specs.Machine as Chain
use Rattle.node_rules.specs.Proving.{written_text, text_beside, passed_on, proved_events, IsShortMessage, CanBeWritten}
use Rattle.node_rules.proofs.Fitting.{passes, read_event_fits, step_fits, start_fits}
use Rattle.node_rules.proofs.Levels.{step_few}
use Rattle.node_rules.proofs.MessageLaws.{message_read}
use Rattle.node_rules.proofs.Written.{written_fits, written_short}

-- ---- one message

pub handed_again : (ext : List Outside) (m : Message) → message_in (message_text m) ≡ read m → handed_in (written_text ext m) ≡ written ext m
handed_again [] m e = refl
handed_again (at ∷ ext) m e = e

written_few : (ext : List Outside) (m : Message) → length (message_text m) ≤ 300000000 → IsShortMessage (written_text ext m)
written_few [] m h = tt
written_few (at ∷ ext) m h = h

-- the bytes of a block are no more than it weighs
block_short : (bytes : List ℕ) (b : Block) → IsBlockText bytes b → weight_of b ≤ 4000000 → length bytes ≤ 4000000
block_short bytes b is light =
    let same : length bytes ≡ length (block_text b) = ap length is.text in
    let heavy : 3 * length (stripped_text b) + length (block_text b) ≤ 4000000 = light in
    omega (arith, same, heavy)

-- ---- one event

module _ (H : List ℕ → Digest) (long : (x : List ℕ) → IsDigest (H x)) (rules : Rules)
    (few : rules.limits.leaves < 2 ^ 40) where
  -- the state fits, and has few levels
  record IsSmall (s : State) : Type 0 where
    fits : OnEachLevel (LevelFits rules) s
    levels : length s.older ≤ 100

  next_small : (s : State) (event : FeedEvent) → AreEventBytes event → IsSmall s → IsSmall (step rules own_judge s (event_in event)).state
  next_small s event is small = record {
    fits = step_fits rules own_judge s (event_in event) (read_event_fits event is) small.fits;
    levels = step_few rules own_judge s (event_in event) small.levels;
  }

  module _ (s : State) (small : IsSmall s) where
    abbrev IsMade : ChainEvent → Type 0
    IsMade e = is_made (step rules own_judge s e).verdict ≡ true

    -- a block that was made has bytes, and is accepted
    module _ (bytes : List ℕ) (is : IsBytes bytes) (message : Option (List ℕ)) where
      by_block : (P : Option Block → Type 0) → ((b : Block) → IsBlockText bytes b
          → refusal rules (chain_of s.now) b (own s.now.history (external b s.now.blocks)) ≡ None → P (Some b))
          → IsMade (event_in (BlockCame bytes message)) → P (block_in bytes)
      by_block P h made = by (block_in bytes) refl made
        where
          by_case : (b : Block) → block_in bytes ≡ Some b → (x : Option Refusal)
              → refusal rules (chain_of s.now) b (own s.now.history (external b s.now.blocks)) ≡ x
              → is_made (by_refusal s b (own s.now.history (external b s.now.blocks)) x).verdict ≡ true → P (Some b)
          by_case b e None q made = h b (block_in-fits bytes b is e) q
          by_case b e (Some why) q made = absurd (false≢true made)

          by : (x : Option Block) → block_in bytes ≡ x → IsMade (Chain.BlockCame x (handed_in message)) → P x
          by None e made = absurd (false≢true made)
          by (Some b) e made = by_case b e (refusal rules (chain_of s.now) b (own s.now.history (external b s.now.blocks))) refl made

    event_again : (watch : Option (List (List ℕ))) (event : FeedEvent) → AreEventBytes event → IsMade (event_in event)
        → event_in (passed_on H watch s.now event) ≡ with_message H watch s.now (event_in event)
    event_again watch (BlockCame bytes message) is made =
        by_block bytes is message (λ x. Chain.BlockCame x (handed_in (text_beside H watch s.now x))
        ≡ with_message H watch s.now (Chain.BlockCame x (handed_in message)))
        (λ b t q.
        let us = s.now.history in
        let ext = external b s.now.blocks in
        let m = message_of H watch us ext in
        let l = small.fits.0 in
        let low = l.within in
        let again = message_read (message_text m) m
        (written_fits H long us l.records (omega (arith, low, few)) watch rules (chain_of s.now) b t.fits q) refl in
        ap (Chain.BlockCame (Some b)) (handed_again ext m again))
        made
    event_again watch (RollbackCame count) is made = refl
    event_again watch StrayCame is made = refl

    event_short : (watch : Option (List (List ℕ))) (event : FeedEvent) → AreEventBytes event → IsMade (event_in event)
        → CanBeWritten (passed_on H watch s.now event)
    event_short watch (BlockCame bytes message) is made =
        by_block bytes is message (λ x. CanBeWritten (BlockCame bytes (text_beside H watch s.now x)))
        (λ b t q.
        let us = s.now.history in
        let ext = external b s.now.blocks in
        let l = small.fits.0 in
        let low = l.within in (
          block_short bytes b t (passes rules (chain_of s.now) b (own us ext) q).light,
          written_few ext (message_of H watch us ext)
              (written_short H long us l.records (omega (arith, low, few)) watch rules (chain_of s.now) b t.fits q),
        ))
        made
    event_short watch (RollbackCame count) is made = by_test (nat_le count (length s.older)) refl
      where
        by_test : (t : Bool) → nat_le count (length s.older) ≡ t → count ≤ 100
        by_test true e = let le = leb-true count (length s.older) e in let levels = small.levels in omega (arith, le, levels)
        by_test false e = absurd (false≢true (rw e at made))
    event_short watch StrayCame is made = absurd (false≢true made)

  -- ---- all events

  again_from : (watch : Option (List (List ℕ))) (s : State) (events : List FeedEvent) → IsSmall s → AllByRecursion AreEventBytes events
      → map event_in (proved_events H watch rules s events) ≡ proof_feed H watch rules s (map event_in events)
  again_from watch s [] small all = refl
  again_from watch s (event ∷ events) small all =
      let o = step rules own_judge s (event_in event) in
      by (is_made o.verdict) refl (again_from watch o.state events (next_small s event all.0 small) all.1)
    where
      by : (t : Bool) → is_made (step rules own_judge s (event_in event)).verdict ≡ t
          → map event_in (proved_events H watch rules (step rules own_judge s (event_in event)).state events)
          ≡ proof_feed H watch rules (step rules own_judge s (event_in event)).state (map event_in events)
          → map event_in (cond t (passed_on H watch s.now event ∷ proved_events H watch rules
          (step rules own_judge s (event_in event)).state events)
          (proved_events H watch rules (step rules own_judge s (event_in event)).state events))
          ≡ cond t (with_message H watch s.now (event_in event) ∷ proof_feed H watch rules (step rules own_judge s (event_in event)).state
          (map event_in events)) (proof_feed H watch rules (step rules own_judge s (event_in event)).state (map event_in events))
      by true e later = ap₂ (λ x xs. x ∷ xs) (event_again s small watch event all.0 e) later
      by false e later = later

  short_from : (watch : Option (List (List ℕ))) (s : State) (events : List FeedEvent) → IsSmall s → AllByRecursion AreEventBytes events
      → AllByRecursion CanBeWritten (proved_events H watch rules s events)
  short_from watch s [] small all = tt
  short_from watch s (event ∷ events) small all =
      let o = step rules own_judge s (event_in event) in
      by (is_made o.verdict) refl (short_from watch o.state events (next_small s event all.0 small) all.1)
    where
      by : (t : Bool) → is_made (step rules own_judge s (event_in event)).verdict ≡ t
          → AllByRecursion CanBeWritten (proved_events H watch rules (step rules own_judge s (event_in event)).state events)
          → AllByRecursion CanBeWritten (cond t (passed_on H watch s.now event ∷ proved_events H watch rules
          (step rules own_judge s (event_in event)).state events)
          (proved_events H watch rules (step rules own_judge s (event_in event)).state events))
      by true e later = (event_short s small watch event all.0 e, later)
      by false e later = later

  start_small : IsSmall start
  start_small = record { fits = start_fits rules; levels = omega arith }

  pub events_again : (watch : Option (List (List ℕ))) (events : List FeedEvent) → AllByRecursion AreEventBytes events
      → map event_in (proved_events H watch rules start events) ≡ proof_feed H watch rules start (map event_in events)
  events_again watch events all = again_from watch start events start_small all

  pub events_short : (watch : Option (List (List ℕ))) (events : List FeedEvent) → AllByRecursion AreEventBytes events
      → AllByRecursion CanBeWritten (proved_events H watch rules start events)
  events_short watch events all = short_from watch start events start_small all
