use Rattle.std.proofs.Common.{◌≡◌, ℕ, List, subst, sym}
use Rattle.uo_digest.specs.declared.digest.Digest.{Digest}
use Rattle.tx_codec.specs.Transaction.{Transaction}
use Rattle.block_codec.specs.declared.header.HeaderView.{HeaderView}
use Rattle.block_codec.specs.declared.merkle_tree.MerkleOutcome.TheVariants.{Root}
use Rattle.block_codec.specs.Block.{Block, block_of, txids_of, block_hash_of}
use Rattle.block_codec.specs.Merkle.{merkle_of}
use Rattle.block_samples.specs.declared.block.Sample.{Sample}
use Rattle.block_samples.specs.Samples.{header_behind, linked, IsBehind}
use Rattle.block_samples.specs.Texts.{IsTextOf}
use Rattle.block_samples.proofs.block.block_behind.Goals as goal

-- the root is that of a first text, under another header; hash and ids are those of the second
behind : (prev merkle : Digest) (txs : List Transaction) (s : Sample) (other header : HeaderView) (first lent lent' : List ℕ)
    → IsTextOf (block_of other txs) first → lent ≡ first → ((b : Block) → IsTextOf b lent → merkle_of (txids_of b) ≡ Root merkle)
    → header ≡ header_behind prev merkle → IsTextOf (block_of header txs) s.text.items → lent' ≡ s.text.items
    → ((b : Block) → IsTextOf b lent' → (s.hash ≡ block_hash_of b) × (s.ids.items ≡ txids_of b)) → IsBehind prev txs s
behind prev merkle txs s other header first lent lent' of_first is_first root linking of_text is_text facts =
    let t : IsTextOf (linked prev merkle txs) s.text.items = subst (λ (h : HeaderView). IsTextOf (block_of h txs) s.text.items) linking of_text in
    let f = facts (linked prev merkle txs) (subst (IsTextOf (linked prev merkle txs)) (sym is_text) t) in
    record {
      merkle = merkle;
      root = root (block_of other txs) (subst (IsTextOf (block_of other txs)) (sym is_first) of_first);
      fits = t.fits;
      text = t.text;
      ids = f.1;
      hash = f.0;
    }

pub returns : goal.returns
returns c =
    behind _ c.in_ok-merkle.merkle _ _ _ _ _ _ _ c.in_ok-unrooted.ensures c.deref.ensures.value c.in_ok-merkle.ensures
    c.header_behind-2.ensures c.in_ok-text.ensures c.deref-2.ensures.value c.in_ok-hash.ensures
