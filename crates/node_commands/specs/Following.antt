-- What `follow` means.
use Rattle.std.specs.Prelude.{◌≡◌, ℕ, Bool, true, false, List, [], Option, Result, Ok, Err, IfOk, unwrap_or}
use Rattle.uo_base.specs.declared.event.Limits.{Limits}
use Rattle.uo_base.specs.declared.event.Net.{Net}
use Rattle.uo_digest.specs.declared.digest.Digest.{Digest}
use Rattle.compact_node.specs.Node.{NodeState}
use Rattle.node_commands.specs.declared.bad_input.BadInput.{BadInput}
use Rattle.node_commands.specs.Follow.{follow_lines, follow_answer, fresh_for, rules_of, PrintsAsFull}
use Rattle.node_commands.specs.Meaning.{Inputs, Meaning, Uses, IsEnd, AnyEvents}
use Rattle.node_commands.specs.Proving.{FollowsProving}
use Rattle.node_commands.specs.Plainly.{IsFollowedValid, IsResumedValid}
use Rattle.node_commands.specs.Starting.{Start, IsStart, IsGoodBehind, ResumesAsFull}
use Rattle.node_commands.specs.Watching.{list_in, IsGood}

-- a node is told the events of the feed, and its state is stored at the end
abbrev pub following : (List ℕ → Digest) → Uses → (Begins : (prior watch : List ℕ) → Start → Type 0) → (Claims : Inputs NodeState → Type 0)
    → (AreGood : (feed prior watch : List ℕ) → Type 0) → Meaning
following H uses begins claims good = record {
  uses = uses;
  Begun = NodeState;
  Begins = begins;
  net = λ node. node.rules.net;
  wants = λ begun. AnyEvents;
  lines = follow_lines H;
  frames = λ node events. [];
  answer = follow_answer H;
  Claims = claims;
  AreGood = good;
  Ends = IsEnd;
}

-- a node with no block that watches what is listed, or why the list can not be used
abbrev pub fresh_start : Limits → Net → Result (Option (List (List ℕ))) BadInput → Start
fresh_start limits net (Ok list) = Ok (fresh_for limits net list)
fresh_start limits net (Err bad) = Err bad

-- What `follow` means from the start. What it says could be said by a node that holds every output and reads no proof, or `audit` shows two texts
-- with one digest; what it answers is that of a node that holds every output and judges each proof by them; and over what a proving node wrote, with
-- messages in full or lean ones for the list, it has the lines of that node's accepted blocks and made rollbacks.
abbrev pub following_afresh : (List ℕ → Digest) → Limits → Net → (named : Bool) → Meaning
following_afresh H limits net named =
    following H (record { feed = true; prior = false; watch = named; out = true; steps = true })
    (λ prior watch begun. begun ≡ fresh_start limits net (list_in named limits.bytes watch))
    (λ inputs. IfOk (list_in named limits.bytes inputs.watch) (λ list. IsFollowedValid H limits net list inputs.feed
    × PrintsAsFull H limits net list inputs.feed
    × FollowsProving H (unwrap_or list []) (rules_of limits net) inputs.feed (follow_answer H (fresh_for limits net list) inputs.feed)))
    (λ feed prior watch. IsGood named net limits watch feed)

-- What `follow` means from a prior state, whose network and watch list it takes. Where `follow` stored that, what was said since the start could be
-- said by a node that reads no proof; where a node came to it that holds every output, what is answered is that of this node.
abbrev pub following_on : (List ℕ → Digest) → Limits → Meaning
following_on H limits =
    following H (record { feed = true; prior = true; watch = false; out = true; steps = true })
    (λ prior watch begun. IsStart H limits prior begun)
    (λ inputs. IsResumedValid H limits inputs.prior inputs.feed inputs.begun × ResumesAsFull H limits inputs.prior inputs.feed inputs.begun)
    (λ feed prior watch. IsGoodBehind H limits prior feed)
