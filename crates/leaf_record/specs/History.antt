-- Outputs in the order in which they were added, of which some are spent, and the newest one of a name.
use Rattle.std.specs.Prelude.{ℕ, suc, Bool, ◌==◌, ◌&&◌, List, [], ◌∷◌, ◌++◌, map, set, Option, Some, None, bytes_eq, sum_by, if◌then◌else◌}
use Rattle.leaf_record.specs.Leaf.{Outpoint, Leaf}

-- the values that are there
abbrev pub somes : {X : Type 0} → List (Option X) → List X
somes [] = []
somes (None ∷ xs) = somes xs
somes (Some x ∷ xs) = x ∷ somes xs

-- whether two outpoints are the same
abbrev pub same_point : Outpoint → Outpoint → Bool
same_point p q = bytes_eq p.txid.0 q.txid.0 && p.index == q.index

-- in order of addition. A spent one is None: it keeps its number only
abbrev pub History : Type 0
History = List (Option Leaf)

-- one that is live: its number from 0, and what it is
pub record Entry : Type 0 where
  pub number : ℕ
  pub leaf : Leaf

-- the first of a list, if it has this outpoint
abbrev pub entry_if : Outpoint → Leaf → Option Entry
entry_if p leaf = if same_point leaf.point p then Some (record { number = 0; leaf = leaf }) else None

-- an entry of the rest of a list
abbrev pub later : Entry → Entry
later e = record { number = suc e.number; leaf = e.leaf }

-- the newest of a list, by its first and by the newest of the others
abbrev pub newer : Outpoint → Option Leaf → Option Entry → Option Entry
newer p first (Some e) = Some (later e)
newer p None None = None
newer p (Some leaf) None = entry_if p leaf

-- the newest that is live of an outpoint
abbrev pub newest : Outpoint → History → Option Entry
newest p [] = None
newest p (first ∷ others) = newer p first (newest p others)

-- those of these numbers spent
abbrev pub spent : List ℕ → History → History
spent [] history = history
spent (n ∷ ns) history = set (spent ns history) n None

-- leaves appended, live
abbrev pub added : List Leaf → History → History
added leaves history = history ++ map Some leaves

-- in satoshi
abbrev pub amount_of : Leaf → ℕ
amount_of leaf = leaf.rest.amount

-- the sum of the amounts of those that are live
abbrev pub supply : History → ℕ
supply history = sum_by amount_of (somes history)
