-- What is known of entries that are to be forgotten, before any is taken out.
use Rattle.std.specs.Prelude.{◌≡◌, ◌≤◌, ℕ, List, Some}
use Rattle.std.specs.Bool.{OnTrue}
use Rattle.std.specs.List.{AllZip}
use Rattle.output_index.specs.declared.read_entry.ReadEntry.{ReadEntry}
use Rattle.output_index.specs.declared.entry_to_forget.EntryToForget.{EntryToForget}
use Rattle.output_index.specs.Held.{Held}
use Rattle.output_index.specs.Links.{held_mark}

-- no held entry of the mark has a smaller number
abbrev pub IsOldest : List Held → ℕ → ℕ → Type 0
IsOldest hs n m = (j : ℕ) → held_mark hs j ≡ Some m → n ≤ j

-- and none has another number
abbrev pub IsAlone : List Held → ℕ → ℕ → Type 0
IsAlone hs n m = (j : ℕ) → held_mark hs j ≡ Some m → j ≡ n

-- this was read of the entry of a number
pub record IsRead (hs : List Held) (n : ℕ) (read : ReadEntry) : Type 0 where
  pub mark : held_mark hs n ≡ Some read.mark
  pub oldest : OnTrue read.oldest (IsOldest hs n read.mark)

-- this is known of it
pub record IsToForget (hs : List Held) (n : ℕ) (known : EntryToForget) : Type 0 where
  pub mark : held_mark hs n ≡ Some known.mark
  pub alone : OnTrue known.alone (IsAlone hs n known.mark)

-- the same of each of these numbers
abbrev pub AreRead : List Held → List ℕ → List ReadEntry → Type 0
AreRead hs numbers read = AllZip (IsRead hs) numbers read

abbrev pub AreToForget : List Held → List ℕ → List EntryToForget → Type 0
AreToForget hs numbers known = AllZip (IsToForget hs) numbers known
