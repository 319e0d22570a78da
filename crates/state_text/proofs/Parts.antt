-- The reading of a level and of a body, part by part.
use Rattle.std.proofs.Common.{◌≡◌, ℕ, eqb, List, [], length, true, false, Some, None, refl}
use Rattle.std.proofs.lemmas.Bool.{eqb-true}
use Rattle.std.proofs.lemmas.List.{nil_from_length}
use Rattle.uo_base.specs.declared.event.Net.{Net}
use Rattle.uo_base.specs.Reading.{byte_at, times}
use Rattle.uo_base.specs.Compact.{sized_at, counted_at}
use Rattle.uo_digest.specs.declared.digest.Digest.{Digest}
use Rattle.uo_digest.specs.Reading.{digest_in_front}
use Rattle.forest_place.specs.declared.naming.Naming.{Naming}
use Rattle.forest_roots.specs.Stump.{Stump}
use Rattle.state_text.specs.declared.entry.StoredEntry.{StoredEntry}
use Rattle.state_text.specs.declared.fault.StateFault.{StateFault}
use Rattle.state_text.specs.Stored.{LevelValue}
use Rattle.state_text.specs.Reading.{entry_at, head_at, level_at, front_at, body_at, whole_at}
use Rattle.state_text.proofs.Gathering.{Fails, part-fails}

-- ---- a level

pub level-no_head : (by : Naming) (most : ℕ) (bytes : List ℕ) → head_at most bytes ≡ None → level_at by most bytes ≡ None
unfolding level_at
level-no_head by most bytes e = rw e refl

module _ (by : Naming) (most : ℕ) (bytes : List ℕ) (tip : Digest) (f : Stump) (after : List ℕ)
    (head : head_at most bytes ≡ Some ((tip, f), after)) where
  pub level-no_kept : (e : StateFault) → Fails e (counted_at (entry_at by f.leaves) after) → Fails e (level_at by most bytes)
  unfolding level_at
  level-no_kept e h = rw head (part-fails e _ _ h)

  module _ (kept : List StoredEntry) (behind : List ℕ) (entries : counted_at (entry_at by f.leaves) after ≡ Some (kept, behind)) where
    pub level-no_hashes : (e : StateFault) → Fails e (counted_at digest_in_front behind) → Fails e (level_at by most bytes)
    unfolding level_at
    level-no_hashes e h = rw (head, entries) (part-fails e _ _ h)

    pub level-whole : (hashes : List Digest) (end : List ℕ) → counted_at digest_in_front behind ≡ Some (hashes, end)
        → level_at by most bytes ≡ Some (record { tip = tip; roots = f; kept = kept; hashes = hashes }, end)
    unfolding level_at
    level-whole hashes end h = rw (head, entries, h) refl

-- ---- a body

pub body-no_front : (by : Naming) (most : ℕ) (bytes : List ℕ) → front_at bytes ≡ None → whole_at by most bytes ≡ None
unfolding whole_at body_at
body-no_front by most bytes e = rw e refl

module _ (by : Naming) (most : ℕ) (bytes : List ℕ) (net : Net) (blocks : ℕ) (after : List ℕ)
    (front : front_at bytes ≡ Some ((net, blocks), after)) where
  pub body-no_scripts : (e : StateFault) → Fails e (counted_at sized_at after) → Fails e (whole_at by most bytes)
  unfolding whole_at body_at
  body-no_scripts e h = rw front (part-fails e _ _ (part-fails e _ _ h))

  module _ (scripts : List (List ℕ)) (behind : List ℕ) (read : counted_at sized_at after ≡ Some (scripts, behind)) where
    pub body-no_count : byte_at behind ≡ None → whole_at by most bytes ≡ None
    unfolding whole_at body_at
    body-no_count e = rw (front, read, e) refl

    module _ (count : ℕ) (past : List ℕ) (counted : byte_at behind ≡ Some (count, past)) where
      pub body-no_levels : (e : StateFault) → Fails e (times (level_at by most) count past) → Fails e (whole_at by most bytes)
      unfolding whole_at body_at
      body-no_levels e h = rw (front, read, counted) (part-fails e _ _ (part-fails e _ _ h))

      module _ (levels : List LevelValue) (end : List ℕ) (all : times (level_at by most) count past ≡ Some (levels, end)) where
        pub body-more : eqb (length end) 0 ≡ false → whole_at by most bytes ≡ None
        unfolding whole_at body_at
        body-more some = rw (front, read, counted, all, some) refl

        pub body-whole : eqb (length end) 0 ≡ true
            → whole_at by most bytes ≡ Some (record { net = net; blocks = blocks; scripts = scripts; levels = levels }, [])
        unfolding whole_at body_at
        body-whole none = let nil : end ≡ [] = nil_from_length end (eqb-true _ _ none) in rw (front, read, counted, all, none, nil) refl
