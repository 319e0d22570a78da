-- Up to the root over ids, whatever is repeated.
use Rattle.std.proofs.Common.{◌≡◌, ℕ, suc, ◌+◌, ◌-◌, ◌<◌, ◌≤◌, List, [], ◌∷◌, ◌++◌, length, map, take, drop, set, replicate, get_or}
use Rattle.std.proofs.Common.{Option, Some, None, refl, sym, ap, ◌∙◌, arith}
use Rattle.std.proofs.lemmas.List.{append-nil, map-append, length-map, length-drop, take_all, drop_all}
use Rattle.std.specs.Option.{option_or}
use Rattle.uo_digest.specs.declared.digest.Digest.{Digest}
use Rattle.tx_codec.specs.Transaction.{Output, Transaction}
use Rattle.tx_codec.specs.Views.{output_of}
use Rattle.tx_codec.specs.declared.views.OutView.{OutView}
use Rattle.tx_codec.specs.Ids.{wtxid_of}
use Rattle.block_codec.specs.Witness.{commitment_in, last_commitment, witness_ids}
use Rattle.block_codec.specs.Merkle.{paired, level, merkle_root}
use Rattle.block_codec.proofs.MerkleLaws.{above-paired, level-more, paired-fewer, paired-some, root-later, one-hash}

-- A level that is reached; the hashes get fewer.
pub record IsMerkleLevel (ids hashes : List Digest) : Type 0 where
  pub number : ℕ
  pub level_is : level ids number ≡ hashes
  pub some : 0 < length hashes
  pub fewer : length hashes + number ≤ length ids

pub level-start : (ids : List Digest) → 0 < length ids → IsMerkleLevel ids ids
level-start ids some = record { number = 0; level_is = refl; some = some; fewer = omega arith }

pub level-next : (ids hashes above : List Digest) → 1 < length hashes → above ≡ paired hashes → IsMerkleLevel ids hashes → IsMerkleLevel ids above
level-next ids hashes above lt is l = record {
  number = l.number + 1;
  level_is = level-more ids l.number ∙ rw (l.level_is, is) (above-paired hashes lt);
  some = paired-some hashes above l.some is;
  fewer = omega (arith, paired-fewer hashes above lt is, l.fewer);
}

pub level-root : (ids hashes : List Digest) (root : Digest) → length hashes ≤ 1 → root ≡ get_or hashes 0 root → IsMerkleLevel ids hashes
    → root ≡ merkle_root ids
level-root ids hashes root few is l =
    let top : level ids l.number ≡ root ∷ [] = l.level_is ∙ one-hash hashes root l.some few is in
    rw (root-later ids root l.number (length ids) (omega (arith, l.fewer)) top) refl

-- ---- the last output goes before

pub last-more : (outputs : List Output) (output : Output)
    → last_commitment (outputs ++ output ∷ []) ≡ option_or (commitment_in output.script) (last_commitment outputs)
last-more [] output = before_none (commitment_in output.script) where
  before_none : (x : Option Digest) → x ≡ option_or x None
  before_none None = refl
  before_none (Some x) = refl
last-more (first ∷ outputs) output = ap (λ x. option_or x (commitment_in first.script)) (last-more outputs output)
    ∙ behind (commitment_in output.script) (last_commitment outputs) (commitment_in first.script) where
      behind : (x y z : Option Digest) → option_or (option_or x y) z ≡ option_or x (option_or y z)
      behind None y z = refl
      behind (Some x) y z = refl

pub taken-more : (outputs : List OutView) (output : OutView) (last found : Option Digest) → last ≡ last_commitment (map output_of outputs)
    → found ≡ commitment_in output.script.now
    → option_or found last ≡ last_commitment (map output_of (outputs ++ output ∷ []))
taken-more outputs output last found so_far is =
    rw (so_far, is) (sym (ap last_commitment (map-append output_of outputs (output ∷ [])) ∙ last-more (map output_of outputs) (output_of output)))

-- ---- ids

pub length-ids : (txs : List Transaction) → length (witness_ids txs) ≡ length txs
length-ids [] = refl
length-ids (coinbase ∷ txs) = ap suc (length-map txs wtxid_of)

pub ids-behind : (txs : List Transaction) → 0 < length txs → record { 0 = replicate 32 0 } ∷ map wtxid_of (drop 1 txs) ≡ witness_ids txs
ids-behind [] lt = absurd (omega arith)
ids-behind (coinbase ∷ txs) lt = refl

pub none_behind : (xs : List Digest) → drop (length xs - 1) (drop 1 xs) ≡ []
none_behind xs = drop_all (length xs - 1) (drop 1 xs) (omega (arith, length-drop 1 xs))

-- the ids behind the first one are put behind 32 zero bytes
pub ids-put : (txs : List Transaction) (out part rest : List Digest) → 0 < length txs → length out ≡ length txs
    → part ≡ map wtxid_of (take (length txs - 1) (drop 1 txs)) → rest ≡ []
    → take 1 (set out 0 (record { 0 = replicate 32 0 })) ++ (part ++ rest) ≡ witness_ids txs
ids-put [] out part rest some same is none = absurd (omega (arith, some))
ids-put (coinbase ∷ txs) [] part rest some same is none = absurd (omega (arith, same))
ids-put (coinbase ∷ txs) (d ∷ out) part rest some same is none =
    let all : take (length (coinbase ∷ txs) - 1) txs ≡ txs = take_all (length (coinbase ∷ txs) - 1) txs (omega arith) in
    let first : Digest = record { 0 = replicate 32 0 } in
    ap (λ (l : List Digest). first ∷ (part ++ l)) none
    ∙ ap (λ (l : List Digest). first ∷ l) (append-nil part ∙ is ∙ ap (map wtxid_of) all)
