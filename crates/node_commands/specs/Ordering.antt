-- What `order` answers to a feed, and what it means.
use Rattle.std.specs.Prelude.{◌≡◌, ◌≢◌, ◌-◌, ◌≤◌, ℕ, true, false, List, [], length, reverse, None, Result, Ok, Err}
use Rattle.hex.specs.declared.error.FromHexError.{FromHexError}
use Rattle.hex.specs.Hex.{decode_sized}
use Rattle.uo_base.specs.declared.event.Net.{Net}
use Rattle.uo_base.specs.Reading.{IsBytes}
use Rattle.uo_digest.specs.declared.digest.Digest.{Digest}
use Rattle.chain_order.specs.declared.fault.PathFault.{PathFault}
use Rattle.chain_order.specs.declared.fault.PathFault.TheVariants.{NoTip, Missing, Loop, NoMemory}
use Rattle.chain_order.specs.Arrivals.{Arrival}
use Rattle.chain_order.specs.Laws.{IsToldOf}
use Rattle.chain_order.specs.Path.{no_hash, IsPath, IsCause}
use Rattle.chain_order.specs.Walk.{path_of}
use Rattle.feed_frame.specs.Events.{events_of}
use Rattle.feed_run.specs.Answer.{Answer}
use Rattle.feed_run.specs.declared.status.Status.TheVariants.{AllAccepted}
use Rattle.order_run.specs.Bodies.{bodies_of, arrivals_of}
use Rattle.order_run.specs.Machine.{path_text, refused_by, order_end}
use Rattle.order_laws.specs.Links.{LinksUp}
use Rattle.report_lines.specs.declared.line.Line.{Line}
use Rattle.report_lines.specs.Lines.{whole_line, hash_text}
use Rattle.node_commands.specs.Answers.{answer_with}
use Rattle.node_commands.specs.Meaning.{Meaning, IsEnd, AnyEvents}

-- ---- the tip

-- the hash that digits print, from its last byte to its first
abbrev pub hash_of_digits : Result (List ℕ) FromHexError → Digest
hash_of_digits (Ok bytes) = record { 0 = reverse bytes }
hash_of_digits (Err fault) = no_hash

-- the hash that a word names
abbrev pub hash_named : (word : List ℕ) → Digest
hash_named word = hash_of_digits (decode_sized word 32)

-- A hash is named by the word that is printed of it.
abbrev pub PrintedIsNamed : Type 0
PrintedIsNamed = (hash : Digest) → length hash.0 ≡ 32 → IsBytes hash.0 → hash_named (hash_text hash) ≡ hash

-- ---- the answer

-- the frames of the path to a tip among the blocks of a feed, the first of each hash, and its line; or why there is none
unfoldable pub order_answer : Net → (limit : ℕ) → (tip : Digest) → List ℕ → Answer
order_answer net limit tip feed =
    let events = events_of net limit feed in
    let bodies = bodies_of events.events in
    answer_with [] [] (order_end net (length bodies) (path_of (arrivals_of bodies) tip)) events.ending

-- the line of a fault
abbrev pub fault_line : PathFault → Line
fault_line NoTip = Line.NoTip
fault_line (Missing hash) = Line.Missing hash
fault_line (Loop hash) = Line.Loop hash
fault_line NoMemory = Line.NoTip

-- Of a feed that is read to its end the frames of the path are stored, if there is one, which are no more than the feed's blocks; else the cause is
-- told why there is none. One of these two is. Over what is stored no block is refused for its link before another is refused.
pub record OrdersFeed (net : Net) (limit : ℕ) (tip : Digest) (feed : List ℕ) : Type 0 where
  pub path : (path : List Arrival) → (events_of net limit feed).ending ≡ None →
      let bodies = bodies_of (events_of net limit feed).events in
      IsPath (arrivals_of bodies) tip path
      → order_answer net limit tip feed ≡ record {
        status = AllAccepted;
        report =
            whole_line (Line.Ordered (length path) (length bodies - length path));
        out = path_text net path;
      }
  pub counted : (path : List Arrival) → let bodies = bodies_of (events_of net limit feed).events in
      IsPath (arrivals_of bodies) tip path → length path ≤ length bodies
  pub cause : (fault : PathFault) → (events_of net limit feed).ending ≡ None → fault ≢ NoMemory →
      IsCause (arrivals_of (bodies_of (events_of net limit feed).events)) tip fault → order_answer net limit tip feed ≡ refused_by (fault_line fault)
  pub either : let arrivals = arrivals_of (bodies_of (events_of net limit feed).events) in IsToldOf arrivals tip (path_of arrivals tip)
  pub links : IsBytes feed → LinksUp net (order_answer net limit tip feed).out

-- What `order` means. It tells no event, and stores nothing before the feed was read to its end.
abbrev pub ordering : (limit : ℕ) → Net → (tip : Digest) → Meaning
ordering limit net tip = record {
  uses = record { feed = true; prior = false; watch = false; out = true; steps = false };
  Begun = Unit {0};
  Begins = λ prior watch begun. begun ≡ Ok tt;
  net = λ begun. net;
  wants = λ begun. AnyEvents;
  lines = λ begun events. [];
  frames = λ begun events. [];
  answer = λ begun. order_answer net limit tip;
  Claims = λ inputs. OrdersFeed net limit tip inputs.feed;
  AreGood = λ feed prior watch. (events_of net limit feed).ending ≡ None;
  Ends = IsEnd;
}
