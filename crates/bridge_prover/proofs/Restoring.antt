-- Entries that are made live again, one after the other.
use Rattle.std.proofs.Common.{◌≡◌, ◌≢◌, ℕ, ◌+◌, ◌<◌, List, [], ◌∷◌, ◌++◌, set, take, get_or, length, Option, Some, None, refl, sym, ap, ◌∙◌}
use Rattle.std.specs.Prelude.{option_map, is_some}
use Rattle.std.proofs.lemmas.List.{get_or-set_other}
use Rattle.uo_digest.specs.declared.digest.Digest.{Digest}
use Rattle.leaf_record.specs.Leaf.{Leaf, leaf_text}
use Rattle.leaf_record.specs.History.{somes}
use Rattle.live_forest.specs.State.{is_live}
use Rattle.live_forest.specs.Blocks.{all_restored}
use Rattle.output_index.specs.Held.{Held, leaf_at}
use Rattle.bridge_prover.specs.Bridge.{restored_at, restored_in}
use Rattle.bridge_prover.proofs.Gathering.{gathered_more}

restored-append : (ps qs : List (ℕ × Digest)) (es : List (Option Digest)) → all_restored (ps ++ qs) es ≡ all_restored qs (all_restored ps es)
restored-append [] qs es = refl
restored-append (p ∷ ps) qs es = restored-append ps qs (set es p.0 (Some p.1))

module _ (H : List ℕ → Digest) (hs : List Held) where
  -- one more
  pub restored_more : (ns : List ℕ) (i : ℕ) (first old new : List (Option Digest)) → i < length ns
      → old ≡ all_restored (restored_in H hs (take i ns)) first → new ≡ all_restored (restored_in H hs (get_or ns i 0 ∷ [])) old →
      new ≡ all_restored (restored_in H hs (take (i + 1) ns)) first
  restored_more ns i first old new lt was e =
      let more : restored_in H hs (take (i + 1) ns) ≡ restored_in H hs (take i ns) ++ restored_in H hs (get_or ns i 0 ∷ []) =
      gathered_more (λ n. option_map (restored_at H n) (leaf_at n hs)) ns i 0 lt in
      e ∙ (ap (all_restored (restored_in H hs (get_or ns i 0 ∷ []))) was
      ∙ (sym (restored-append (restored_in H hs (take i ns)) (restored_in H hs (get_or ns i 0 ∷ [])) first)
      ∙ ap (λ ps. all_restored ps first) (sym more)))

  -- another entry is as it was
  pub live-restored_other : (n q : ℕ) (es : List (Option Digest)) → q ≢ n → is_live (all_restored (restored_in H hs (n ∷ [])) es) q
      ≡ is_live es q
  live-restored_other n q es o = by (leaf_at n hs)
    where
      by : (x : Option Leaf) → is_live (all_restored (somes (option_map (restored_at H n) x ∷ [])) es) q ≡ is_live es q
      by None = refl
      by (Some leaf) = ap is_some (get_or-set_other es n q (Some (H (leaf_text leaf))) None o)
