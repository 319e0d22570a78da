-- The machine of `order`: what has arrived, and how many blocks came.
use Rattle.std.specs.Prelude.{ℕ, ◌+◌, ◌-◌, false, List, [], length, Result, Ok, Err}
use Rattle.std.specs.List.{flat_map}
use Rattle.uo_base.specs.declared.event.Net.{Net}
use Rattle.uo_base.specs.FeedEvent.{FeedEvent, BlockCame, RollbackCame, StrayCame}
use Rattle.uo_digest.specs.declared.digest.Digest.{Digest}
use Rattle.chain_order.specs.declared.fault.PathFault.{PathFault}
use Rattle.chain_order.specs.declared.fault.PathFault.TheVariants.{NoTip, Missing, Loop, NoMemory}
use Rattle.chain_order.specs.Arrivals.{Arrival}
use Rattle.chain_order.specs.Walk.{path_of}
use Rattle.feed_frame.specs.Frames.{block_magic}
use Rattle.feed_frame.specs.Written.{frame_text}
use Rattle.feed_run.specs.Answer.{Answer}
use Rattle.feed_run.specs.Machine.{Machine}
use Rattle.feed_run.specs.declared.status.Status.TheVariants.{AllAccepted, SomeRefused}
use Rattle.report_lines.specs.declared.line.Line.{Line}
use Rattle.report_lines.specs.Lines.{whole_line}
use Rattle.order_run.specs.Bodies.{with_body}

-- what contracts see of `Orderer`
pub record OrderState : Type 0 where
  pub net : Net
  pub tip : Digest
  pub arrivals : List Arrival
  pub blocks : ℕ

abbrev pub fresh_order : Net → (tip : Digest) → OrderState
fresh_order net tip = record { net = net; tip = tip; arrivals = []; blocks = 0 }

unfoldable pub next_order : OrderState → FeedEvent → OrderState
next_order s (BlockCame body message) = record { net = s.net; tip = s.tip; arrivals = with_body s.arrivals body; blocks = s.blocks + 1 }
next_order s (RollbackCame count) = s
next_order s StrayCame = s

-- ---- what is answered

-- the frames of a path's blocks
abbrev pub path_text : Net → List Arrival → List ℕ
path_text net path = flat_map (λ a. frame_text (block_magic net) a.body) path

-- a line alone, and nothing stored
abbrev pub refused_by : Line → Answer
refused_by line = record { status = SomeRefused; report = whole_line line; out = [] }

-- the path is stored, and its length and how many other blocks came are printed; or why there is none
unfoldable pub order_end : Net → (blocks : ℕ) → Result (List Arrival) PathFault → Answer
order_end net blocks (Ok path) = record {
  status = AllAccepted;
  report = whole_line (Line.Ordered (length path) (blocks - length path));
  out = path_text net path;
}
order_end net blocks (Err NoTip) = refused_by Line.NoTip
order_end net blocks (Err (Missing hash)) = refused_by (Line.Missing hash)
order_end net blocks (Err (Loop hash)) = refused_by (Line.Loop hash)
order_end net blocks (Err NoMemory) = record { status = SomeRefused; report = []; out = [] }

-- it takes every event of a feed, and writes nothing before its end
abbrev pub order_machine : Machine OrderState
order_machine = record {
  next = next_order;
  said = λ s event. [];
  sent = λ s event. [];
  over = λ s. false;
  at_end = λ s. order_end s.net s.blocks (path_of s.arrivals s.tip);
  count = λ s. s.blocks;
}
