-- A feed that is parted between two events.
use Rattle.std.specs.Prelude.{◌≡◌, ℕ, ◌+◌, ◌≤◌, List, ◌++◌, length, None, option_map}
use Rattle.uo_base.specs.declared.event.Net.{Net}
use Rattle.feed_frame.specs.declared.fault.FeedFault.{FeedFault}
use Rattle.feed_frame.specs.declared.fault.FeedFault.TheVariants.{Magic, Cut, TooLong, BadRollback}
use Rattle.feed_frame.specs.Events.{events_of, settled_of}

-- the same fault, so many bytes further on
abbrev pub further : ℕ → FeedFault → FeedFault
further n (Magic offset found) = Magic (n + offset) found
further n (Cut offset missing) = Cut (n + offset) missing
further n (TooLong offset length) = TooLong (n + offset) length
further n (BadRollback offset length) = BadRollback (n + offset) length
further n fault = fault

-- the events of both feeds, one behind the other, are those of the first, and then those of the second; and they end as the second does
pub record AreParted (net : Net) (limit : ℕ) (front back : List ℕ) : Type 0 where
  pub events : (events_of net limit (front ++ back)).events ≡ (events_of net limit front).events ++ (events_of net limit back).events
  pub ending : (events_of net limit (front ++ back)).ending ≡ option_map (further (length front)) (events_of net limit back).ending

-- Where a feed is read to its end, and no proof stands last in it, whatever comes behind it has events of its own.
abbrev pub FeedIsParted : Type 0
FeedIsParted = (net : Net) (limit : ℕ) (front back : List ℕ) → length (front ++ back) ≤ limit → (events_of net limit front).ending ≡ None
    → settled_of net limit front ≡ (events_of net limit front).events → AreParted net limit front back
