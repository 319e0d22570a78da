-- What a node says over the blocks of a path.
use Rattle.std.specs.Prelude.{◌≢◌, ℕ, List, [], ◌∷◌, map, Option, Some, None}
use Rattle.uo_base.specs.declared.event.Limits.{Limits}
use Rattle.uo_base.specs.declared.event.Net.{Net}
use Rattle.uo_base.specs.Reading.{IsBytes}
use Rattle.uo_digest.specs.declared.digest.Digest.{Digest}
use Rattle.block_rules.specs.declared.refusal.Refusal.{Refusal}
use Rattle.block_rules.specs.declared.refusal.Refusal.TheVariants as Why
use Rattle.block_rules.specs.declared.verdict.Verdict.{Verdict}
use Rattle.block_rules.specs.declared.verdict.Verdict.TheVariants.{Accepted, Refused, RolledBack, TooDeep, Stray}
use Rattle.feed_frame.specs.Events.{events_of}
use Rattle.chain_order.specs.Arrivals.{Arrival}
use Rattle.chain_order.specs.Path.{IsPath}
use Rattle.order_run.specs.Bodies.{bodies_of, arrivals_of}
use Rattle.order_run.specs.Machine.{path_text}
use Rattle.node_rules.specs.Machine.{start, event_in, own_judge, verdicts}
use Rattle.compact_node.specs.Node.{fresh_node}
use Rattle.compact_node.specs.Throughout.{verdicts_on}

-- why the first block is refused of those that are
abbrev pub first_refusal : List Verdict → Option Refusal
first_refusal [] = None
first_refusal (Accepted height hash leaves ∷ later) = first_refusal later
first_refusal (Refused height hash why ∷ later) = Some why
first_refusal (RolledBack count height hash leaves ∷ later) = first_refusal later
first_refusal (TooDeep asked kept ∷ later) = first_refusal later
first_refusal (Stray ∷ later) = first_refusal later

-- Over this feed neither a compact node from its start, with any digest, limits and watch list, nor a proving node refuses a block for its link
-- before it has refused another.
pub record LinksUp (net : Net) (feed : List ℕ) : Type 0 where
  pub followed : (H : List ℕ → Digest) (limits : Limits) (scripts : List (List ℕ))
      → first_refusal (verdicts_on H (fresh_node net limits scripts) (map event_in (events_of net limits.bytes feed).events)) ≢ Some
      Why.Link
  pub proved : (limits : Limits)
      → first_refusal (verdicts (record { net = net; limits = limits }) own_judge start (map event_in (events_of net limits.bytes feed).events)) ≢
      Some Why.Link

-- So it is over the frames of a path among the blocks of a feed, which is made of bytes.
abbrev pub OrderedLinksUp : Type 0
OrderedLinksUp = (net : Net) (limit : ℕ) (feed : List ℕ) (tip : Digest) (path : List Arrival) → IsBytes feed
    → IsPath (arrivals_of (bodies_of (events_of net limit feed).events)) tip path → LinksUp net (path_text net path)
