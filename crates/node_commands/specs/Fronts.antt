-- How what a command prints and stores of the events of a feed stands in its answer to the feed.
use Rattle.std.specs.Prelude.{◌≡◌, ◌<◌, ◌^◌, ℕ, List, ◌++◌, Ok}
use Rattle.uo_base.specs.declared.event.Limits.{Limits}
use Rattle.uo_digest.specs.declared.digest.Digest.{Digest}
use Rattle.feed_frame.specs.Events.{events_of}
use Rattle.node_commands.specs.Commands.{meaning_of}
use Rattle.node_commands.specs.Meaning.{Meaning}

-- a text begins with this one
abbrev pub BeginsWith : (whole front : List ℕ) → Type 0
BeginsWith whole front = (rest : List ℕ) × (whole ≡ front ++ rest)

-- whatever it began with, what a command answers to a feed begins with what it prints and what it stores of all events of the feed
abbrev pub AnswersByEvents : Meaning → (limit : ℕ) → (prior watch : List ℕ) → Type 0
AnswersByEvents m limit prior watch = (begun : m.Begun) (feed : List ℕ) → m.Begins prior watch (Ok begun) →
    let events = (events_of (m.net begun) limit feed).events in
    BeginsWith (m.answer begun feed).report (m.lines begun events) × BeginsWith (m.answer begun feed).out (m.frames begun events)

-- so does each command, with any options
abbrev pub AnswersBeginWithEvents : Type 0
AnswersBeginWithEvents = (H : List ℕ → Digest) (limits : Limits) → limits.leaves < 2 ^ 40 → (words : List (List ℕ)) (prior watch : List ℕ)
    → AnswersByEvents (meaning_of H limits words) limits.bytes prior watch
