-- The words of the command line: which are accepted, what they ask for, and where others go wrong.
use Rattle.std.specs.Prelude.{◌≡◌, ℕ, ◌+◌, ◌<◌, ◌≤◌, ◌-◌, ◌^◌}
use Rattle.std.specs.Prelude.{Bool, true, List, [], ◌∷◌, ◌++◌, length, take, map, Option, Some, None, Result, Ok, Err}
use Rattle.std.specs.Prelude.{codes, decimal, bytes_eq, is_some, option_map, option_copied, unwrap_or, if◌then◌else◌}
use Rattle.std.specs.List.{list_any}
use Rattle.std.specs.String.{string_bytes}
use Rattle.uo_base.specs.declared.event.Net.{Net}
use Rattle.uo_base.specs.declared.event.Net.TheVariants.{Main}
use Rattle.command_words.specs.declared.options.OptionName.{OptionName}
use Rattle.command_words.specs.declared.options.OptionName.TheVariants as Name
use Rattle.command_words.specs.declared.options.FromRule.{FromRule}
use Rattle.command_words.specs.declared.options.FromRule.TheVariants.{Alone, Beside}
use Rattle.command_words.specs.declared.fronts.Front.{Front}
use Rattle.command_words.specs.declared.fronts.Parted.{Parted}
use Rattle.command_words.specs.declared.words.Command.{Command}
use Rattle.command_words.specs.declared.words.Command.TheVariants.{Follow, Prove, Audit, Gen, UpgradeFeed, UpgradeState, Order, Ticket, Check}
use Rattle.command_words.specs.declared.words.Command.TheVariants.{Recheck, Relay}
use Rattle.command_words.specs.declared.words.WordFault.{WordFault}
use Rattle.command_words.specs.Hashes.{is_hash_word}
use Rattle.command_words.specs.Numbers.{number_in, positive_in}
use Rattle.command_words.specs.Options.{is_option, Given, are_given, words_of, Settings, settings_of, nothing, refused_at, needs, settings_from}

-- ---- the commands, one a line, each with the words of its own

-- a command, with the numbers or the hash of its own
pub data Task : Type 0 where
  Following : Task
  Proving : Task
  Auditing : Task
  Generating : (number blocks : ℕ) → Task
  UpgradingFeed : Task
  UpgradingState : Task
  -- up to the block of this printed hash
  Ordering : (tip : List ℕ) → Task
  -- of the output with this number
  Ticketing : (number : ℕ) → Task
  Checking : Task
  Rechecking : Task
  -- to so many followers
  Relaying : (followers : ℕ) → Task

-- the words in front of the options
abbrev pub front_of : Task → List (List ℕ)
front_of Following = codes "follow" ∷ []
front_of Proving = codes "prove" ∷ []
front_of Auditing = codes "audit" ∷ []
front_of (Generating number blocks) = codes "gen" ∷ decimal number ∷ decimal blocks ∷ []
front_of UpgradingFeed = codes "upgrade" ∷ codes "feed" ∷ []
front_of UpgradingState = codes "upgrade" ∷ codes "state" ∷ []
front_of (Ordering tip) = codes "order" ∷ tip ∷ []
front_of (Ticketing number) = codes "ticket" ∷ decimal number ∷ []
front_of Checking = codes "check" ∷ []
front_of Rechecking = codes "recheck" ∷ []
front_of (Relaying followers) = codes "relay" ∷ decimal followers ∷ []

-- the numbers and the hash that a command takes
abbrev pub IsInRange : Task → Type 0
IsInRange Following = Unit {0}
IsInRange Proving = Unit {0}
IsInRange Auditing = Unit {0}
IsInRange (Generating number blocks) = (number < 2 ^ 64) × (blocks ≤ 100000)
IsInRange UpgradingFeed = Unit {0}
IsInRange UpgradingState = Unit {0}
IsInRange (Ordering tip) = is_hash_word tip ≡ true
IsInRange (Ticketing number) = number < 2 ^ 64
IsInRange Checking = Unit {0}
IsInRange Rechecking = Unit {0}
IsInRange (Relaying followers) = (1 ≤ followers) × (followers ≤ 100)

-- the options that a command has
abbrev pub options_of : Task → List OptionName
options_of Following = Name.Net ∷ Name.Feed ∷ Name.From ∷ Name.To ∷ Name.Watch ∷ []
options_of Proving = Name.Net ∷ Name.Feed ∷ Name.To ∷ Name.Watch ∷ []
options_of Auditing = Name.Net ∷ Name.Feed ∷ Name.Watch ∷ []
options_of (Generating number blocks) = Name.Net ∷ Name.To ∷ []
options_of UpgradingFeed = Name.Net ∷ Name.Feed ∷ Name.To ∷ Name.Watch ∷ []
options_of UpgradingState = Name.From ∷ Name.To ∷ []
options_of (Ordering tip) = Name.Net ∷ Name.Feed ∷ Name.To ∷ []
options_of (Ticketing number) = Name.From ∷ Name.To ∷ []
options_of Checking = Name.Feed ∷ Name.From ∷ []
options_of Rechecking = Name.Net ∷ Name.Feed ∷ Name.From ∷ Name.Watch ∷ []
options_of (Relaying followers) = Name.Net ∷ Name.Feed ∷ Name.From ∷ Name.Watch ∷ []

-- a feed that is followed goes on from a state, which has a network and a watch list
abbrev pub rule_of : Task → FromRule
rule_of Following = Alone
rule_of Proving = Beside
rule_of Auditing = Beside
rule_of (Generating number blocks) = Beside
rule_of UpgradingFeed = Beside
rule_of UpgradingState = Beside
rule_of (Ordering tip) = Beside
rule_of (Ticketing number) = Beside
rule_of Checking = Beside
rule_of Rechecking = Beside
rule_of (Relaying followers) = Beside

-- an option that a command can not do without is there
abbrev pub is_enough : Task → Settings → Bool
is_enough Following s = true
is_enough Proving s = true
is_enough Auditing s = true
is_enough (Generating number blocks) s = true
is_enough UpgradingFeed s = true
is_enough UpgradingState s = is_some s.from
is_enough (Ordering tip) s = true
is_enough (Ticketing number) s = is_some s.from
is_enough Checking s = is_some s.from
is_enough Rechecking s = is_some s.from
is_enough (Relaying followers) s = true

-- the network that is meant, which is mainnet where none is named
abbrev pub net_for : Option Net → Net
net_for net = unwrap_or net Main

-- what the options say to a command, where no network is named mainnet's; only a feed that is followed can have that of a state
abbrev pub given_by : Task → Settings → Settings
given_by Following s = s
given_by Proving s = record { net = Some (net_for s.net); feed = s.feed; from = None; to = s.to; watch = s.watch }
given_by Auditing s = record { net = Some (net_for s.net); feed = s.feed; from = None; to = None; watch = s.watch }
given_by (Generating number blocks) s = record { net = Some (net_for s.net); feed = None; from = None; to = s.to; watch = None }
given_by UpgradingFeed s = record { net = Some (net_for s.net); feed = s.feed; from = None; to = s.to; watch = s.watch }
given_by UpgradingState s = record { net = None; feed = None; from = s.from; to = s.to; watch = None }
given_by (Ordering tip) s = record { net = Some (net_for s.net); feed = s.feed; from = None; to = s.to; watch = None }
given_by (Ticketing number) s = record { net = None; feed = None; from = s.from; to = s.to; watch = None }
given_by Checking s = record { net = None; feed = s.feed; from = s.from; to = None; watch = None }
given_by Rechecking s = record { net = Some (net_for s.net); feed = s.feed; from = s.from; to = None; watch = s.watch }
given_by (Relaying followers) s = record { net = Some (net_for s.net); feed = s.feed; from = s.from; to = None; watch = s.watch }

-- what words ask for: a command, and what its options say
pub record Asked : Type 0 where
  pub task : Task
  pub given : Settings

-- what a command asks for with these options
abbrev pub asked_by : Task → Settings → Asked
asked_by task s = record { task = task; given = given_by task s }

-- a command reads a feed exactly where one can be named
abbrev pub reads_feed : Task → Bool
reads_feed task = list_any (is_option Name.Feed) (options_of task)

-- ---- which words are accepted

-- a command's name and the words of its own, then options of it, in any order, each with its value
pub record Asks (words : List (List ℕ)) (asked : Asked) : Type 0 where
  pub task : Task
  pub in_range : IsInRange task
  pub given : List Given
  pub fit : are_given (rule_of task) (options_of task) given ≡ true
  pub enough : is_enough task (settings_of given) ≡ true
  pub spelled : words ≡ front_of task ++ words_of given
  pub is : asked ≡ asked_by task (settings_of given)

-- these words are the front of an accepted list
pub record Begins (front : List (List ℕ)) : Type 0 where
  pub rest : List (List ℕ)
  pub asked : Asked
  pub asks : Asks (front ++ rest) asked

-- k is the greatest number such that the first k words begin some accepted list
pub record IsFarthest (words : List (List ℕ)) (k : ℕ) : Type 0 where
  pub within : k ≤ length words
  pub begins : Begins (take k words)
  pub greatest : (j : ℕ) → k < j → j ≤ length words → Begins (take j words) → ⊥

-- words that are accepted ask for this and nothing else, and others go wrong there
abbrev pub Means : List (List ℕ) → Result Asked WordFault → Type 0
Means words (Ok asked) = Asks words asked × ((other : Asked) → Asks words other → other ≡ asked)
Means words (Err fault) = ((asked : Asked) → Asks words asked → ⊥) × IsFarthest words fault.at

-- ---- the same, by computation

-- an option that must be there is missed at the end of the words
abbrev pub read_for : Task → (end : ℕ) → Result Settings WordFault → Result Asked WordFault
read_for task end (Ok s) = if is_enough task s then Ok (asked_by task s) else refused_at end
read_for task end (Err fault) = Err fault

-- the options of a command, from index `at` on
abbrev pub options_for : Task → (at : ℕ) → List (List ℕ) → Result Asked WordFault
options_for task at words = read_for task (at + length words) (settings_from (rule_of task) (options_of task) at nothing words)

-- those behind its front
abbrev pub options_at : Task → List (List ℕ) → Result Asked WordFault
options_at task words = options_for task (length (front_of task)) words

-- what the options behind its front say
abbrev pub settings_at : Task → List (List ℕ) → Result Settings WordFault
settings_at task words = settings_from (rule_of task) (options_of task) (length (front_of task)) nothing words

-- the words behind `gen` and its number
unfoldable pub blocks_for : (number : ℕ) → List (List ℕ) → Result Asked WordFault
blocks_for number [] = refused_at 2
blocks_for number (word ∷ rest) = needs (number_in 100000 word) 2 (λ blocks. options_for (Generating number blocks) 3 rest)

-- the words behind `gen`
unfoldable pub gen_for : List (List ℕ) → Result Asked WordFault
gen_for [] = refused_at 1
gen_for (word ∷ rest) = needs (number_in (2 ^ 64 - 1) word) 1 (λ number. blocks_for number rest)

-- the words behind `upgrade`
unfoldable pub upgrade_for : List (List ℕ) → Result Asked WordFault
upgrade_for [] = refused_at 1
upgrade_for (word ∷ rest) =
    if bytes_eq word (codes "feed") then options_for UpgradingFeed 2 rest
    else if bytes_eq word (codes "state") then options_for UpgradingState 2 rest
    else refused_at 1

-- the words behind a command that has one word of its own, by what it asks for with that word
unfoldable pub one_word_for : (List ℕ → Option Task) → List (List ℕ) → Result Asked WordFault
one_word_for task_at [] = refused_at 1
one_word_for task_at (word ∷ rest) = needs (task_at word) 1 (λ task. options_for task 2 rest)

-- `order` with this word
abbrev pub order_at : List ℕ → Option Task
order_at word = if is_hash_word word then Some (Ordering word) else None

-- `ticket` with this word
abbrev pub ticket_at : List ℕ → Option Task
ticket_at word = option_map Ticketing (number_in (2 ^ 64 - 1) word)

-- `relay` with this word
abbrev pub relay_at : List ℕ → Option Task
relay_at word = option_map Relaying (positive_in 100 word)

-- what words ask for, or where they go wrong
unfoldable pub command_of : List (List ℕ) → Result Asked WordFault
command_of [] = refused_at 0
command_of (name ∷ rest) =
    if bytes_eq name (codes "follow") then options_for Following 1 rest
    else if bytes_eq name (codes "prove") then options_for Proving 1 rest
    else if bytes_eq name (codes "audit") then options_for Auditing 1 rest
    else if bytes_eq name (codes "gen") then gen_for rest
    else if bytes_eq name (codes "upgrade") then upgrade_for rest
    else if bytes_eq name (codes "order") then one_word_for order_at rest
    else if bytes_eq name (codes "ticket") then one_word_for ticket_at rest
    else if bytes_eq name (codes "check") then options_for Checking 1 rest
    else if bytes_eq name (codes "recheck") then options_for Rechecking 1 rest
    else if bytes_eq name (codes "relay") then one_word_for relay_at rest
    else refused_at 0

-- ---- as the program holds them

-- the command of a front
abbrev pub task_of : Front → Task
task_of Front.Follow = Following
task_of Front.Prove = Proving
task_of Front.Audit = Auditing
task_of (Front.Gen number blocks) = Generating number blocks
task_of Front.UpgradeFeed = UpgradingFeed
task_of Front.UpgradeState = UpgradingState
task_of (Front.Order tip) = Ordering tip.now
task_of (Front.Ticket number) = Ticketing number
task_of Front.Check = Checking
task_of Front.Recheck = Rechecking
task_of (Front.Relay followers) = Relaying followers

-- what is asked for where the words are parted so
abbrev pub parted_as : Result Parted WordFault → Result Asked WordFault
parted_as (Ok parted) = options_at (task_of parted.front) (map string_bytes parted.rest.now)
parted_as (Err fault) = Err fault

-- the command
abbrev pub task_in : Command → Task
task_in (Follow net feed from to watch) = Following
task_in (Prove net feed to watch) = Proving
task_in (Audit net feed watch) = Auditing
task_in (Gen net number blocks to) = Generating number blocks
task_in (UpgradeFeed net feed to watch) = UpgradingFeed
task_in (UpgradeState from to) = UpgradingState
task_in (Order net tip feed to) = Ordering tip.now
task_in (Ticket number from to) = Ticketing number
task_in (Check from feed) = Checking
task_in (Recheck net from feed watch) = Rechecking
task_in (Relay net followers feed from watch) = Relaying followers

-- what its options say
abbrev pub given_in : Command → Settings
given_in (Follow net feed from to watch) =
    record { net = net; feed = option_copied feed; from = option_copied from; to = option_copied to; watch = option_copied watch }
given_in (Prove net feed to watch) = record {
  net = Some net;
  feed = option_copied feed;
  from = None;
  to = option_copied to;
  watch =
      option_copied watch;
}
given_in (Audit net feed watch) = record { net = Some net; feed = option_copied feed; from = None; to = None; watch = option_copied watch }
given_in (Gen net number blocks to) = record { net = Some net; feed = None; from = None; to = option_copied to; watch = None }
given_in (UpgradeFeed net feed to watch) =
    record { net = Some net; feed = option_copied feed; from = None; to = option_copied to; watch = option_copied watch }
given_in (UpgradeState from to) = record { net = None; feed = None; from = Some from.now; to = option_copied to; watch = None }
given_in (Order net tip feed to) = record { net = Some net; feed = option_copied feed; from = None; to = option_copied to; watch = None }
given_in (Ticket number from to) = record { net = None; feed = None; from = Some from.now; to = option_copied to; watch = None }
given_in (Check from feed) = record { net = None; feed = option_copied feed; from = Some from.now; to = None; watch = None }
given_in (Recheck net from feed watch) =
    record { net = Some net; feed = option_copied feed; from = Some from.now; to = None; watch = option_copied watch }
given_in (Relay net followers feed from watch) =
    record { net = Some net; feed = option_copied feed; from = option_copied from; to = None; watch = option_copied watch }

-- what is asked for
abbrev pub asked_in : Command → Asked
asked_in command = record { task = task_in command; given = given_in command }

-- what was read of the words
abbrev pub read_as : Result Command WordFault → Result Asked WordFault
read_as (Ok command) = Ok (asked_in command)
read_as (Err fault) = Err fault
