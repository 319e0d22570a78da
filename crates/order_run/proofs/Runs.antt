-- What the machine makes of a list of events.
use Rattle.std.proofs.Common.{◌≡◌, ℕ, ◌+◌, List, [], ◌∷◌, length, refl, ap, ◌∙◌, arith}
use Rattle.std.specs.Prelude.{fold}
use Rattle.uo_base.specs.FeedEvent.{FeedEvent, BlockCame, RollbackCame, StrayCame}
use Rattle.feed_run.specs.Machine.{left_by, said_by, sent_by}
use Rattle.order_run.specs.Bodies.{bodies_of, with_body}
use Rattle.order_run.specs.Machine.{OrderState, next_order, order_machine}

-- the state that these events leave
abbrev pub left_of : OrderState → List FeedEvent → OrderState
left_of s events = record {
  net = s.net;
  tip = s.tip;
  arrivals = fold with_body s.arrivals (bodies_of events);
  blocks =
      s.blocks + length (bodies_of events);
}

with_blocks : OrderState → (blocks : ℕ) → OrderState
with_blocks s n = record { net = s.net; tip = s.tip; arrivals = s.arrivals; blocks = n }

pub left-is : (events : List FeedEvent) (s : OrderState) → left_by order_machine s events ≡ left_of s events
unfolding next_order with_blocks
left-is [] s = ap (λ n. with_blocks s n) (let z : s.blocks ≡ s.blocks + 0 = omega arith in z)
left-is (BlockCame body message ∷ events) s =
    let t : OrderState = record { net = s.net; tip = s.tip; arrivals = with_body s.arrivals body; blocks = s.blocks + 1 } in
    left-is events t
    ∙ ap (λ n. with_blocks (record { net = s.net; tip = s.tip; arrivals = fold with_body (with_body s.arrivals body) (bodies_of events); blocks = 0 })
    n)
    (let z : (s.blocks + 1) + length (bodies_of events) ≡ s.blocks + length (body ∷ bodies_of events) = omega arith in z)
left-is (RollbackCame count ∷ events) s = left-is events s
left-is (StrayCame ∷ events) s = left-is events s

pub said-is : (events : List FeedEvent) (s : OrderState) → said_by order_machine s events ≡ []
unfolding next_order
said-is [] s = refl
said-is (BlockCame body message ∷ events) s =
    said-is events (record { net = s.net; tip = s.tip; arrivals = with_body s.arrivals body; blocks = s.blocks + 1 })
said-is (RollbackCame count ∷ events) s = said-is events s
said-is (StrayCame ∷ events) s = said-is events s

pub sent-is : (events : List FeedEvent) (s : OrderState) → sent_by order_machine s events ≡ []
unfolding next_order
sent-is [] s = refl
sent-is (BlockCame body message ∷ events) s =
    sent-is events (record { net = s.net; tip = s.tip; arrivals = with_body s.arrivals body; blocks = s.blocks + 1 })
sent-is (RollbackCame count ∷ events) s = sent-is events s
sent-is (StrayCame ∷ events) s = sent-is events s
