-- A message that is made of another, part by part.
use Rattle.std.proofs.Common.{◌≡◌, ℕ, ◌+◌, ◌≤◌, List, [], ◌∷◌, ◌++◌, map, length, take, Some, refl, ap, ◌∙◌, arith}
use Rattle.std.specs.Prelude.{slice_get}
use Rattle.std.proofs.lemmas.List.{length-map, take_all}
use Rattle.uo_base.proofs.Lists.{one_more}
use Rattle.uo_digest.specs.declared.digest.Digest.{Digest}
use Rattle.forest_place.specs.declared.naming.Naming.TheVariants.{Position}
use Rattle.forest_place.specs.Named.{place_by}
use Rattle.leaf_record.specs.Leaf.{Rest}
use Rattle.proof_wire.specs.BlockProof.{Spend, targets_of, rests_of}
use Rattle.node_rules.specs.Messages.{Message}
use Rattle.message_upgrade.specs.Upgrade.{fixed_number, renamed}
use Rattle.message_upgrade.proofs.Reading.{renamed_at}

-- ---- hashes

abbrev pub with_hashes : Message → List Digest → Message
with_hashes m hashes = record { naming = m.naming; lean = m.lean; proof = record { spends = m.proof.spends; hashes = hashes } }

pub no_hashes : (m : Message) → m.proof.hashes ≡ [] → m ≡ with_hashes m []
no_hashes m none = ap (with_hashes m) none

pub hash_more : (initial old new : Message) (hashes : List Digest) (i : ℕ) (hash : Digest) → slice_get hashes i ≡ Some hash
    → old ≡ with_hashes initial (take i hashes)
    → new ≡ with_hashes old (old.proof.hashes ++ hash ∷ []) → new ≡ with_hashes initial (take (i + 1) hashes)
hash_more initial old new hashes i hash got was is =
    is ∙ ap (λ (o : Message). with_hashes o (o.proof.hashes ++ hash ∷ [])) was
    ∙ ap (with_hashes initial) (one_more hashes i hash (take i hashes) (take i hashes ++ hash ∷ []) got refl refl)

pub hashes_all : (initial m : Message) (hashes : List Digest) (i end : ℕ) → m ≡ with_hashes initial (take i hashes) → end ≡ length hashes → end ≤ i
    → m ≡ with_hashes initial hashes
hashes_all initial m hashes i end is e le = is ∙ ap (with_hashes initial) (take_all i hashes (omega (arith, e, le)))

-- ---- spends

abbrev pub with_spends : Message → List Spend → Message
with_spends m spends = record { naming = m.naming; lean = m.lean; proof = record { spends = spends; hashes = m.proof.hashes } }

pub no_spends : (m : Message) → m.proof.spends ≡ [] → m ≡ with_spends m []
no_spends m none = ap (with_spends m) none

pub spend_more : (n : ℕ) (initial old new : Message) (spends : List Spend) (i target : ℕ) (rest : Rest) {number : ℕ}
    → slice_get (targets_of spends) i ≡ Some target → slice_get (rests_of spends) i ≡ Some rest
    → number ≡ fixed_number (place_by Position n target) → old ≡ with_spends initial (take i (map (renamed n) spends))
    → new ≡ with_spends old (old.proof.spends ++ record { target = number; rest = rest } ∷ [])
    → new ≡ with_spends initial (take (i + 1) (map (renamed n) spends))
spend_more n initial old new spends i target rest at shown e was is =
    let made : Spend = record { target = fixed_number (place_by Position n target); rest = rest } in
    let all = map (renamed n) spends in
    is ∙ ap (λ (x : ℕ). with_spends old (old.proof.spends ++ record { target = x; rest = rest } ∷ [])) e
    ∙ ap (λ (o : Message). with_spends o (o.proof.spends ++ made ∷ [])) was
    ∙ ap (with_spends initial) (one_more all i made (take i all) (take i all ++ made ∷ []) (renamed_at n spends i target rest at shown) refl refl)

pub spends_all : (n : ℕ) (initial m : Message) (spends : List Spend) (i end : ℕ) → m ≡ with_spends initial (take i (map (renamed n) spends))
    → end ≡ length spends → end ≤ i
    → m ≡ with_spends initial (map (renamed n) spends)
spends_all n initial m spends i end is e le =
    is ∙ ap (with_spends initial) (take_all i (map (renamed n) spends) (let l = length-map spends (renamed n) in omega (arith, l, e, le)))
