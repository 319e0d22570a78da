-- The way back, step by step.
use Rattle.std.proofs.Common.{◌≡◌, ℕ, suc, ◌<◌, Bool, true, false, List, [], ◌∷◌, ◌++◌, Some, None, Result, Ok, Err, length, map, reverse, refl, sym}
use Rattle.std.proofs.Common.{ap, ap₂, ◌∙◌, subst, arith, replicate, if◌then◌else◌}
use Rattle.std.specs.Prelude.{find, slice_get, count_by, not, IsErrAnd}
use Rattle.std.proofs.lemmas.List.{reverse-reverse, reverse-append, map-append}
use Rattle.std.specs.Result.{result_map_both}
use Rattle.uo_digest.specs.declared.digest.Digest.{Digest}
use Rattle.chain_order.specs.declared.fault.PathFault.{PathFault}
use Rattle.chain_order.specs.declared.fault.PathFault.TheVariants.{NoTip, Missing, Loop, NoMemory}
use Rattle.chain_order.specs.Arrivals.{Arrival, has_hash, has_arrived}
use Rattle.chain_order.specs.Steps.{HasMet, MeetsOne, MeetsNone}
use Rattle.chain_order.specs.Walk.{is_no_hash, met_at, way_back, path_of, Answers}
use Rattle.chain_order.proofs.Marking.{none_met, none_counted}

module _ (arrivals : List Arrival) (n : ℕ) (met : List Arrival) (hash : Digest) where
  pub missing : find (has_hash hash) arrivals ≡ None → way_back arrivals (suc n) met hash ≡ Err (Missing hash)
  unfolding way_back
  missing e = ap (λ r. met_at r hash met (λ a. way_back arrivals n (a ∷ met) a.prev)) e

  module _ (a : Arrival) (e : find (has_hash hash) arrivals ≡ Some a) where
    there : way_back arrivals (suc n) met hash ≡ met_at (Some a) hash met (λ a. way_back arrivals n (a ∷ met) a.prev)
    unfolding way_back
    there = ap (λ r. met_at r hash met (λ a. way_back arrivals n (a ∷ met) a.prev)) e

    pub again : has_arrived met hash ≡ true → way_back arrivals (suc n) met hash ≡ Err (Loop hash)
    again t = there ∙ ap (λ b. if b then Err (Loop hash) else if is_no_hash a.prev then Ok (a ∷ met) else way_back arrivals n (a ∷ met) a.prev) t

    first : has_arrived met hash ≡ false → way_back arrivals (suc n) met hash
        ≡ (if is_no_hash a.prev then Ok (a ∷ met) else way_back arrivals n (a ∷ met) a.prev)
    first t = there ∙ ap (λ b. if b then Err (Loop hash) else if is_no_hash a.prev then Ok (a ∷ met) else way_back arrivals n (a ∷ met) a.prev) t

    pub begins : has_arrived met hash ≡ false → is_no_hash a.prev ≡ true → way_back arrivals (suc n) met hash ≡ Ok (a ∷ met)
    begins t z = first t ∙ ap (λ b. if b then Ok (a ∷ met) else way_back arrivals n (a ∷ met) a.prev) z

    pub goes_on : has_arrived met hash ≡ false → is_no_hash a.prev ≡ false → way_back arrivals (suc n) met hash ≡ way_back arrivals n (a ∷ met) a.prev
    goes_on t z = first t ∙ ap (λ b. if b then Ok (a ∷ met) else way_back arrivals n (a ∷ met) a.prev) z

pub no_tip : (arrivals : List Arrival) (tip : Digest) → has_arrived arrivals tip ≡ false → path_of arrivals tip ≡ Err NoTip
unfolding path_of
no_tip arrivals tip t = ap (λ b. if b then way_back arrivals (suc (length arrivals)) [] tip else Err NoTip) t

pub from_tip : (arrivals : List Arrival) (tip : Digest) → has_arrived arrivals tip ≡ true
    → path_of arrivals tip ≡ way_back arrivals (suc (length arrivals)) [] tip
unfolding path_of
from_tip arrivals tip t = ap (λ b. if b then way_back arrivals (suc (length arrivals)) [] tip else Err NoTip) t

-- ---- the loop

map-reverse : {A B : Type 0} (f : A → B) (xs : List A) → map f (reverse xs) ≡ reverse (map f xs)
map-reverse f [] = refl
map-reverse f (x ∷ xs) =
    ap (λ l. map f l) (reverse-append (x ∷ []) xs) ∙ map-append f (reverse xs) (x ∷ []) ∙ ap (λ l. l ++ f x ∷ []) (map-reverse f xs)
    ∙ sym (reverse-append (f x ∷ []) (map f xs))

-- what an answer says is said of what is handed on
pub answers_err : {T : Type 0} (items : T → List ℕ) (arrivals : List Arrival) (tip : Digest) (r : Result T PathFault) (fault : PathFault)
    → IsErrAnd r (λ e. e ≡ fault) → Answers arrivals tip (Err fault)
    → Answers arrivals tip (result_map_both items (λ e. e) r)
answers_err items arrivals tip (Ok x) fault h a = absurd h
answers_err items arrivals tip (Err e) fault h a = subst (λ (f : PathFault). Answers arrivals tip (Err f)) (sym h) a

-- these were met on the way from the tip, which goes on from this hash
pub record IsWalking (arrivals : List Arrival) (tip : Digest) (marks : List Bool) (numbers : List ℕ) (hash : Digest) : Type 0 where
  pub met : List Arrival
  pub has : HasMet arrivals marks numbers met
  pub goes : path_of arrivals tip ≡ way_back arrivals (suc (count_by not marks)) met hash

pub starts : (arrivals : List Arrival) (tip : Digest) (marks : List Bool) (numbers : List ℕ) → has_arrived arrivals tip ≡ true
    → marks ≡ replicate (length arrivals) false → numbers ≡ []
    → IsWalking arrivals tip marks numbers tip
starts arrivals tip marks numbers t fresh none =
    subst (λ bs. IsWalking arrivals tip bs numbers tip) (sym fresh)
    (subst (λ ns. IsWalking arrivals tip (replicate (length arrivals) false) ns tip) (sym none)
    record {
      met = [];
      has = none_met arrivals;
      goes = from_tip arrivals tip t ∙ ap (λ n. way_back arrivals (suc n) [] tip) (sym (none_counted (length arrivals)));
    })

module _ (arrivals : List Arrival) (tip : Digest) (marks : List Bool) (numbers : List ℕ) (hash : Digest)
    (w : IsWalking arrivals tip marks numbers hash) where
  -- why it stops
  pub stops : (fault : PathFault) → ((met : List Arrival) → HasMet arrivals marks numbers met → MeetsNone arrivals hash met fault)
      → Answers arrivals tip (Err fault)
  stops NoTip none = absurd (none w.met w.has)
  stops (Missing at) none =
      let e = none w.met w.has in
      w.goes ∙ missing arrivals (count_by not marks) w.met hash e.1 ∙ ap (λ h. let r : Result (List Arrival) PathFault = Err (Missing h) in
      r) (sym e.0)
  stops (Loop at) none =
      let e = none w.met w.has in
      w.goes ∙ again arrivals (count_by not marks) w.met hash e.2.0 e.2.1 e.1 ∙ ap (λ h. let r : Result (List Arrival) PathFault = Err (Loop h) in
      r) (sym e.0)
  stops NoMemory none = tt

  module _ (marks' : List Bool) (numbers' : List ℕ) (prev : Digest) (one : (met : List Arrival) → HasMet arrivals marks numbers met
      → MeetsOne arrivals hash marks marks' numbers' met prev) where
    abbrev m : MeetsOne arrivals hash marks marks' numbers' w.met prev
    m = one w.met w.has

    same_prev : (b : Bool) → is_no_hash prev ≡ b → is_no_hash m.one.prev ≡ b
    same_prev b t = ap (λ h. is_no_hash h) (sym m.prev_is) ∙ t

    pub walks : is_no_hash prev ≡ false → IsWalking arrivals tip marks' numbers' prev
    walks t = record {
      met = m.one ∷ w.met;
      has = m.now;
      goes = w.goes ∙ goes_on arrivals (count_by not marks) w.met hash m.one m.found m.first (same_prev false t)
          ∙ ap₂ (λ n h. way_back arrivals n (m.one ∷ w.met) h) (let f = m.fewer in omega (arith, f)) (sym m.prev_is);
    }

    pub ends : is_no_hash prev ≡ true → (numbers'' : List ℕ) → numbers'' ≡ reverse numbers' → Answers arrivals tip (Ok numbers'')
    ends t numbers'' turned = (
      m.one ∷ w.met,
      ap (λ ns. map (slice_get arrivals) ns) turned ∙ map-reverse (slice_get arrivals) numbers' ∙ ap (λ xs. reverse xs) m.now.numbered
          ∙ sym (map-reverse Some (reverse (m.one ∷ w.met))) ∙ ap (λ xs. map Some xs) (reverse-reverse (m.one ∷ w.met)),
      w.goes ∙ begins arrivals (count_by not marks) w.met hash m.one m.found m.first (same_prev true t),
    )

    pub fewer_left : count_by not marks' < count_by not marks
    fewer_left = let f = m.fewer in omega (arith, f)
