-- Texts whose hashes are ids.
use Rattle.std.specs.Prelude.{◌≡◌, ℕ, not, List, map, filter}
use Rattle.std.specs.Borrow.{Bor}
use Rattle.tx_codec.specs.Transaction.{Transaction, has_stacks}

-- these are the texts of transactions, in order
abbrev pub AreTexts : (Transaction → List ℕ) → List (Bor (List ℕ)) → List Transaction → Type 0
AreTexts text texts txs = map (λ (t : Bor (List ℕ)). t.now) texts ≡ map text txs

-- those in the legacy form, whose whole text is what their id hashes
abbrev pub legacy_of : List Transaction → List Transaction
legacy_of txs = filter (λ (tx : Transaction). not (has_stacks tx.stacks)) txs
