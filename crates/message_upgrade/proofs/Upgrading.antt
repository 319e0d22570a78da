-- An upgraded message is read as the message in version 2, which names the same places, and is as long.
use Rattle.std.proofs.Common.{◌≡◌, ℕ, suc, ◌*◌, ◌-◌, ◌<◌, ◌≤◌, ◌^◌, List, [], ◌∷◌, ◌++◌, map, length, Option, Some, None, refl, sym, ap, ap₂, subst}
use Rattle.std.proofs.Common.{◌∙◌, arith, length-append}
use Rattle.std.specs.Int.{w64, to_le_bytes}
use Rattle.std.specs.List.{flat_map, AllByRecursion}
use Rattle.std.proofs.lemmas.List.{length-map}
use Rattle.uo_base.specs.Compact.{compact, counted}
use Rattle.uo_base.specs.Reading.{IsBytes}
use Rattle.uo_digest.specs.Reading.{digest_text}
use Rattle.forest_place.specs.declared.place.Place.{Place}
use Rattle.forest_place.specs.declared.naming.Naming.{Naming}
use Rattle.forest_place.specs.declared.naming.Naming.TheVariants.{Position, FixedPosition}
use Rattle.forest_place.specs.Named.{place_by}
use Rattle.forest_place.proofs.NamedLaws.{place_by-number, place_by-some, number_by-fits}
use Rattle.forest_place.proofs.Numbered.{none_with}
use Rattle.forest_place.proofs.Positions.{places_low, fixed_small}
use Rattle.leaf_record.specs.Leaf.{Rest, rest_text}
use Rattle.proof_wire.specs.BlockProof.{Spend, BlockProof, targets_of, rests_of, body_text, message_text, SpendFits, ProofFits, MessageFits}
use Rattle.node_rules.specs.Messages.{Message, number_of, named}
use Rattle.node_rules.specs.Reading.{Handed, nothing, unread, read, message_in}
use Rattle.node_rules.proofs.MessageLaws.{message_read, read_is_text}
use Rattle.message_upgrade.specs.Upgrade.{fixed_number, renamed, in_version_2, upgraded_by, upgraded_as, upgraded}
use Rattle.message_upgrade.proofs.Alike.{IsAlike, AreAlike}

-- ---- the places

same_place : (n number : ℕ) → n ≤ 2 ^ 40 → place_by FixedPosition n (fixed_number (place_by Position n number)) ≡ place_by Position n number
same_place n number few = by (place_by Position n number) refl
  where
    by : (x : Option Place) → place_by Position n number ≡ x → place_by FixedPosition n (fixed_number x) ≡ x
    by None e =
        none_with number_of n (2 ^ 64 - 1)
        (λ q h same. let small = fixed_small q.row q.off (places_low n q.row q.off few h) in omega (arith, small, same))
    by (Some p) e = place_by-number FixedPosition n p few (place_by-some Position n number p e).0

all_places : (n : ℕ) (spends : List Spend) → n ≤ 2 ^ 40 → map (place_by FixedPosition n) (targets_of (map (renamed n) spends))
    ≡ map (place_by Position n) (targets_of spends)
all_places n [] few = refl
all_places n (s ∷ spends) few = ap₂ (λ (x : Option Place) (xs : List (Option Place)). x ∷ xs) (same_place n s.target few) (all_places n spends few)

pub same_named : (n : ℕ) (m : Message) → n ≤ 2 ^ 40 → m.naming ≡ Position → named n (in_version_2 n m) ≡ named n m
same_named n m few old = all_places n m.proof.spends few ∙ ap (λ (by : Naming). map (place_by by n) (targets_of m.proof.spends)) (sym old)

same_rests : (n : ℕ) (spends : List Spend) → rests_of spends ≡ rests_of (map (renamed n) spends)
same_rests n [] = refl
same_rests n (s ∷ spends) = ap (λ (rests : List Rest). s.rest ∷ rests) (same_rests n spends)

pub upgraded_message : (n : ℕ) (m : Message) → n ≤ 2 ^ 40 → m.naming ≡ Position → IsAlike n m (in_version_2 n m)
upgraded_message n m few old = record { lean = refl; places = sym (same_named n m few old); rests = same_rests n m.proof.spends; hashes = refl }

-- ---- its text

number_fits : (n number : ℕ) → n ≤ 2 ^ 40 → fixed_number (place_by Position n number) < 2 ^ 64
number_fits n number few = by (place_by Position n number) refl
  where
    by : (x : Option Place) → place_by Position n number ≡ x → fixed_number x < 2 ^ 64
    by None e = omega arith
    by (Some p) e = number_by-fits FixedPosition n p few (place_by-some Position n number p e).0

spends_fit : (n : ℕ) (spends : List Spend) → n ≤ 2 ^ 40 → AllByRecursion SpendFits spends → AllByRecursion SpendFits (map (renamed n) spends)
spends_fit n [] few all = tt
spends_fit n (s ∷ spends) few all =
    let first = all.0 in
    (record { target = number_fits n s.target few; rest = first.rest }, spends_fit n spends few all.1)

pub upgraded_fits : (n : ℕ) (m : Message) → n ≤ 2 ^ 40 → ProofFits m.proof → MessageFits (in_version_2 n m)
upgraded_fits n m few fits = record {
  count_of_spends = let l = length-map m.proof.spends (renamed n) in omega (arith, l, fits.count_of_spends);
  spends = spends_fit n m.proof.spends few fits.spends;
  count_of_hashes = fits.count_of_hashes;
  hashes = fits.hashes;
}

eight_each : (xs : List ℕ) → length (flat_map (to_le_bytes w64) xs) ≡ 8 * length xs
eight_each [] = refl
eight_each (x ∷ xs) =
    let first : List ℕ = to_le_bytes w64 x in
    let eight : length first ≡ 8 = refl in
    omega (arith, length-append first (flat_map (to_le_bytes w64) xs), eight_each xs, eight)

same_count : (n : ℕ) (spends : List Spend) → length (targets_of (map (renamed n) spends)) ≡ length (targets_of spends)
same_count n [] = refl
same_count n (s ∷ spends) = ap suc (same_count n spends)

targets_long : (n : ℕ) (spends : List Spend) → length (counted (to_le_bytes w64) (targets_of (map (renamed n) spends)))
    ≡ length (counted (to_le_bytes w64) (targets_of spends))
targets_long n spends =
    let new = targets_of (map (renamed n) spends) in
    let old = targets_of spends in
    let same = same_count n spends in
    let count : length (compact (length new)) ≡ length (compact (length old)) = ap (λ k. length (compact k)) same in
    omega (
      arith,
      length-append (compact (length new)) (flat_map (to_le_bytes w64) new),
      length-append (compact (length old)) (flat_map (to_le_bytes w64) old),
      eight_each new,
      eight_each old,
      same,
      count,
    )

body_long : (n : ℕ) (p : BlockProof) → length (body_text (record { spends = map (renamed n) p.spends; hashes = p.hashes })) ≡ length (body_text p)
unfolding body_text
body_long n p =
    let hashes = counted digest_text p.hashes in
    let new = counted (to_le_bytes w64) (targets_of (map (renamed n) p.spends)) in
    let old = counted (to_le_bytes w64) (targets_of p.spends) in
    let new_rests = flat_map rest_text (rests_of (map (renamed n) p.spends)) in
    let old_rests = flat_map rest_text (rests_of p.spends) in
    let rests : length new_rests ≡ length old_rests = ap (λ (rs : List Rest). length (flat_map rest_text rs)) (sym (same_rests n p.spends)) in
    omega (
      arith,
      length-append (new ++ new_rests) hashes,
      length-append (old ++ old_rests) hashes,
      length-append new new_rests,
      length-append old old_rests,
      rests,
      targets_long n p.spends,
    )

message_long : (n : ℕ) (m : Message) → length (message_text (in_version_2 n m)) ≡ length (message_text m)
message_long n m = ap (λ k. suc (suc k)) (body_long n m.proof)

-- ---- the bytes

pub upgraded_is : (n : ℕ) (bytes : List ℕ) (handed : Handed) → message_in bytes ≡ handed → upgraded n bytes ≡ upgraded_as n bytes handed
unfolding upgraded
upgraded_is n bytes handed e = ap (upgraded_as n bytes) e

self_alike : (n : ℕ) (handed other : Handed) → other ≡ handed → AreAlike n handed other
self_alike n nothing other e = e
self_alike n (unread why) other e = e
self_alike n (read m) other e = (m, e, record { lean = refl; places = refl; rests = refl; hashes = refl })

pub upgraded_alike : (n : ℕ) (bytes : List ℕ) → n ≤ 2 ^ 40 → IsBytes bytes → AreAlike n (message_in bytes) (message_in (upgraded n bytes))
upgraded_alike n bytes few is_bytes = subst (λ h. AreAlike n h (message_in (upgraded n bytes))) refl (by (message_in bytes) refl)
  where
    by_naming : (m : Message) → message_in bytes ≡ read m → (by : Naming) → m.naming ≡ by
        → AreAlike n (read m) (message_in (upgraded_by by n bytes m))
    by_naming m e Position old =
        let fits = (read_is_text bytes m is_bytes e).0 in (
          in_version_2 n m,
          message_read (message_text (in_version_2 n m)) (in_version_2 n m) (upgraded_fits n m few fits) refl,
          upgraded_message n m few old,
        )
    by_naming m e FixedPosition other = self_alike n (read m) (message_in bytes) e

    by_handed : (handed : Handed) → message_in bytes ≡ handed → AreAlike n handed (message_in (upgraded_as n bytes handed))
    by_handed nothing e = e
    by_handed (unread why) e = e
    by_handed (read m) e = by_naming m e m.naming refl

    by : (handed : Handed) → message_in bytes ≡ handed → AreAlike n handed (message_in (upgraded n bytes))
    by handed e = subst (λ xs. AreAlike n handed (message_in xs)) (sym (upgraded_is n bytes handed e)) (by_handed handed e)

pub upgraded_long : (n : ℕ) (bytes : List ℕ) → IsBytes bytes → length (upgraded n bytes) ≡ length bytes
upgraded_long n bytes is_bytes = ap (λ (xs : List ℕ). length xs) (upgraded_is n bytes (message_in bytes) refl) ∙ by (message_in bytes) refl
  where
    by_naming : (m : Message) → message_in bytes ≡ read m → (by : Naming) → length (upgraded_by by n bytes m) ≡ length bytes
    by_naming m e Position = message_long n m ∙ ap (λ (xs : List ℕ). length xs) (sym (read_is_text bytes m is_bytes e).1)
    by_naming m e FixedPosition = refl

    by : (handed : Handed) → message_in bytes ≡ handed → length (upgraded_as n bytes handed) ≡ length bytes
    by nothing e = refl
    by (unread why) e = refl
    by (read m) e = by_naming m e m.naming
