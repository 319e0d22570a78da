-- How the held entries of one mark are linked: each tells the next older one, and of each mark the newest is told.
use Rattle.std.specs.Prelude.{◌≡◌, ℕ, ◌<◌, List, Option, Some, None, option_map}
use Rattle.leaf_record.specs.Leaf.{Outpoint}
use Rattle.output_index.specs.declared.entry.Entry.{Entry}
use Rattle.output_index.specs.Held.{Held, leaf_at}
use Rattle.output_index.specs.Marks.{mark_of}
use Rattle.output_index.specs.Entries.{entry_at, IsRising}
use Rattle.output_index.specs.NewestByMark.{MarkNumbers, newest_with}

abbrev pub mark_in : Entry → ℕ
mark_in e = mark_of e.leaf.point

-- the mark of the held entry of a number, live or spent
abbrev pub mark_at : List (ℕ × Entry) → ℕ → Option ℕ
mark_at es n = option_map mark_in (entry_at n es)

-- the same of the list that contracts of the index see
abbrev pub held_mark : List Held → ℕ → Option ℕ
held_mark hs n = option_map (λ leaf. mark_of leaf.point) (leaf_at n hs)

-- the greatest number, among those in question, with this mark; none, where there is none
abbrev pub IsLast : (ℕ → Option ℕ) → ℕ → (ℕ → Type 0) → Option ℕ → Type 0
IsLast marks m asked None = (j : ℕ) → asked j → marks j ≡ Some m → ⊥
IsLast marks m asked (Some i) = asked i × (marks i ≡ Some m) × ((j : ℕ) → asked j → i < j → marks j ≡ Some m → ⊥)

abbrev pub Below : ℕ → ℕ → Type 0
Below n j = j < n

abbrev pub Any : ℕ → Type 0
Any j = Unit {0}

-- the newest entry with the mark of an outpoint; none, where there is none
abbrev pub IsHead : List (ℕ × Entry) → Outpoint → Option ℕ → Type 0
IsHead es p head = IsLast (mark_at es) (mark_of p) Any head

-- each entry tells the next older one of its mark
abbrev pub AreLinked : List (ℕ × Entry) → Type 0
AreLinked es = (n : ℕ) (e : Entry) → entry_at n es ≡ Some e → IsLast (mark_at es) (mark_in e) (Below n) e.older

-- and of each mark the newest is told
pub record IsChained (es : List (ℕ × Entry)) (marks : MarkNumbers) : Type 0 where
  pub rising : IsRising es
  pub older : AreLinked es
  pub newest : (m : ℕ) → IsLast (mark_at es) m Any (newest_with marks m)
