-- Which calls of a port in memory fail.
use Rattle.std.specs.Prelude.{ℕ, ◌+◌, ◌-◌, ◌^◌, ◌<◌, List, Contains, min}

-- the numbers of the calls that fail, from 0, and the number of the next call
pub record Plan : Type 0 where
  pub failing : List ℕ
  pub next : ℕ

-- the next call fails; none does once the number stands at its greatest value
pub record IsDue (plan : Plan) : Type 0 where
  pub counted : plan.next < 2 ^ 64 - 1
  pub planned : Contains plan.failing plan.next

-- the plan behind a call
abbrev pub behind : Plan → Plan
behind plan = record { failing = plan.failing; next = min (plan.next + 1) (2 ^ 64 - 1) }
