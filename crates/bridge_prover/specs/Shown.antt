-- What the calls on a message answer.
use Rattle.std.specs.Prelude.{◌≡◌, ℕ, true, false, List, [], ◌∷◌, map, length, slice_get, Option, Some, None, if◌then◌else◌}
use Rattle.uo_digest.specs.declared.digest.Digest.{Digest}
use Rattle.forest_place.specs.declared.place.Place.{Place}
use Rattle.forest_model.specs.Standing.{root}
use Rattle.forest_model.specs.Right.{entries}
use Rattle.leaf_record.specs.Leaf.{Leaf, leaf_text}
use Rattle.leaf_record.specs.History.{History}
use Rattle.proof_shape.specs.Targeted.{Targeted}
use Rattle.block_rules.specs.declared.chain.Outside.{Outside}
use Rattle.cache_model.specs.Cache.{look}
use Rattle.cache_model.specs.Known.{known_at}
use Rattle.cache_model.specs.Lists.{AscendByPlace}
use Rattle.node_rules.specs.Messages.{Message, points_of}
use Rattle.node_rules.specs.Accepting.{View, proof_fault}
use Rattle.node_rules.specs.Reading.{Handed, read}
use Rattle.node_rules.specs.Right.{is_leaf, entry_number_at}
use Rattle.node_rules.specs.Judged.{AreNamed, AreHashes}
use Rattle.node_rules.specs.Judging.{is_right_message, entries_shown}
use Rattle.output_index.specs.Held.{Held, leaf_at, NumbersRise}
use Rattle.output_index.specs.Indexed.{IsIndexOf}

-- forest and index are those of a history
pub record IsHistory (H : List ℕ → Digest) (es : List (Option Digest)) (hs : List Held) (us : History) : Type 0 where
  pub entries_are : es ≡ entries H leaf_text us
  pub index : IsIndexOf hs us
  pub rise : NumbersRise hs

-- these are the digests that are known to one who watches the scripts, each place once, in ascending order
pub record AreKnown (H : List ℕ → Digest) (scripts : List (List ℕ)) (us : History) (known : List (Place × Digest)) : Type
    0 where
  pub each : (row off : ℕ) → look known row off ≡ known_at H scripts us row off
  pub ascend : AscendByPlace known

-- what the roots of a forest judge by, where these digests are known to a message's reader
abbrev pub view_in : (List ℕ → Digest) → List (Option Digest) → (ℕ → ℕ → Option Digest) → View
view_in H es known = record { n = length es; roots = root H es; known = known }

-- the roots accept a message, it names these places, and these are the hashes of all places that its proof needs
pub record IsChecked (H : List ℕ → Digest) (es : List (Option Digest)) (known : ℕ → ℕ → Option Digest) (ext : List Outside)
    (m : Message) (t : Targeted) (hashes : List Digest) : Type 0 where
  pub passes : proof_fault H (view_in H es known) (points_of ext) m ≡ None
  pub named : AreNamed (length es) m t
  pub full : AreHashes m t known hashes

-- the live entry at a place, if its output is the one that is claimed
abbrev pub if_claimed : List Held → Leaf → Option ℕ → Option ℕ
if_claimed hs claim None = None
if_claimed hs claim (Some i) = if is_leaf claim (leaf_at i hs) then Some i else None

abbrev pub claimed_at : List (Option Digest) → List Held → Place → Leaf → Option ℕ
claimed_at es hs p claim = if_claimed hs claim (entry_number_at es p)

abbrev pub all_claimed : List (Option Digest) → List Held → List Place → List Leaf → List (Option ℕ)
all_claimed es hs [] claims = []
all_claimed es hs (p ∷ ts) [] = []
all_claimed es hs (p ∷ ts) (claim ∷ claims) = claimed_at es hs p claim ∷ all_claimed es hs ts claims

-- these are all of them; or one is missing
abbrev pub AreAllOf : List (Option ℕ) → Option (List ℕ) → Type 0
AreAllOf found None = (i : ℕ) × (slice_get found i ≡ Some None)
AreAllOf found (Some numbers) = map Some numbers ≡ found

-- what stands beside a block is right, and these are the entries at its targets; or it is not right
abbrev pub Shows : (List ℕ → Digest) → List (List ℕ) → History → List Outside → Handed → Option (List ℕ) → Type 0
Shows H scripts us ext handed None = is_right_message H scripts us ext handed ≡ false
Shows H scripts us ext handed (Some numbers) = (is_right_message H scripts us ext handed ≡ true) × (numbers ≡ entries_shown H us handed)

-- so for each history whose forest and index these are, and each list of scripts under which the hashes are those of the message
abbrev pub ShowsByEach : (List ℕ → Digest) → List (Option Digest) → List Held → List Outside → Message → Targeted → List Digest
    → Option (List ℕ) → Type 0
ShowsByEach H es hs ext m t hashes numbers = (us : History) (scripts : List (List ℕ)) → IsHistory H es hs us
    → AreHashes m t (known_at H scripts us) hashes → Shows H scripts us ext (read m) numbers
