-- Doubles are found by a set of the outpoints so far.
use Rattle.std.proofs.Common.{◌≡◌, ℕ, suc, ◌+◌, true, false, List, [], ◌∷◌, ◌++◌, drop, Some, None, sym, ap, ◌∙◌, subst, add-one}
use Rattle.std.specs.Prelude.{not, slice_get}
use Rattle.std.specs.List.{list_any}
use Rattle.std.specs.Option.{option_or}
use Rattle.std.specs.BTreeSet as set
use Rattle.std.specs.BTreeSet.{BTreeSet}
use Rattle.uo_base.proofs.Lists.{drop-got}
use Rattle.leaf_record.specs.Leaf.{Outpoint}
use Rattle.leaf_record.specs.History.{same_point}
use Rattle.tx_codec.specs.Transaction.{Input, Transaction}
use Rattle.block_rules.specs.declared.outpoint.OutpointKey.{OutpointKey}
use Rattle.block_rules.specs.declared.refusal.Refusal.TheVariants as Why
use Rattle.block_rules.specs.Steps.{unless}
use Rattle.block_rules.specs.Blocks.{outpoint_of, Placed, placed_from, placed_of}
use Rattle.block_rules.specs.Rules.{double}
use Rattle.block_rules.specs.Keys.{point_of, key_cmp, HasPoints}
use Rattle.block_rules.specs.Seen.{Reaches, Sees}
use Rattle.block_rules.proofs.Keyed.{points_put}

module _ (t i : ℕ) (before : List Outpoint) (whole more : List Placed) (input : Input) (rest left : List Input) (old : BTreeSet OutpointKey)
    (key : OutpointKey) (e : left ≡ input ∷ rest) (k : point_of key ≡ outpoint_of input)
    (r : Reaches before whole (placed_from t i left ++ more) old) where
  was : list_any (same_point (outpoint_of input)) r.points ≡ set.contains key_cmp old key
  was = ap (λ p. list_any (same_point p) r.points) (sym k) ∙ sym (r.has key)

  step : double before whole ≡ option_or (unless (not (set.contains key_cmp old key)) (Why.Double t i))
      (double (outpoint_of input ∷ r.points) (placed_from t (suc i) rest ++ more))
  step =
      r.same
      ∙ (ap (λ xs. double r.points (placed_from t i xs ++ more)) e
      ∙ ap (λ b. option_or (unless (not b) (Why.Double t i)) (double (outpoint_of input ∷ r.points) (placed_from t (suc i) rest ++ more))) was)

  -- it was spent before
  pub seen_here : set.contains key_cmp old key ≡ true → double before whole ≡ Some (Why.Double t i)
  unfolding step was
  seen_here h = step ∙ ap (λ b. option_or (unless (not b) (Why.Double t i))
      (double (outpoint_of input ∷ r.points) (placed_from t (suc i) rest ++ more))) h

  -- it was not
  pub seen_on : (new : BTreeSet OutpointKey) → set.contains key_cmp old key ≡ false → set.Updates key_cmp old new key true
      → Reaches before whole (placed_from t (i + 1) rest ++ more) new
  unfolding step was
  seen_on new h u = record {
    points = outpoint_of input ∷ r.points;
    has = subst (λ p. HasPoints new (p ∷ r.points)) k (points_put old new key r.points r.has u);
    same = rw add-one (step ∙ ap (λ b. option_or (unless (not b) (Why.Double t i))
        (double (outpoint_of input ∷ r.points) (placed_from t (suc i) rest ++ more))) h);
  }

-- ---- transaction by transaction

module _ (t : ℕ) (txs : List Transaction) (tx : Transaction) (whole : List Placed) (old new : BTreeSet OutpointKey)
    (r : Reaches [] whole (placed_of t (drop t txs)) old) (e : slice_get txs t ≡ Some tx) where
  split : double [] whole ≡ double r.points (placed_from t 0 tx.inputs ++ placed_of (suc t) (drop (suc t) txs))
  split = r.same ∙ ap (λ xs. double r.points (placed_of t xs)) (drop-got txs t tx e)

  pub double_here : (i : ℕ) → Sees old tx.inputs (Some i) new → double [] whole ≡ Some (Why.Double t i)
  unfolding split
  double_here i s = split ∙ s t r.points (placed_of (suc t) (drop (suc t) txs)) r.has

  pub double_on : Sees old tx.inputs None new → Reaches [] whole (placed_of (t + 1) (drop (t + 1) txs)) new
  unfolding split
  double_on s =
      let g = s t r.points (placed_of (suc t) (drop (suc t) txs)) r.has in
      rw add-one (record { points = g.points; has = g.has; same = split ∙ g.same })
