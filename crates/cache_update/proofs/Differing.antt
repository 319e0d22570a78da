-- The differences of two ascending lists lead from the one to the other.
use Rattle.std.proofs.Common.{◌≡◌, ℕ, Bool, true, false, cond, List, [], ◌∷◌, ◌++◌, map, filter_map, Option, Some, None, is_some, refl, sym, ap, ap₂}
use Rattle.std.proofs.Common.{◌∙◌, ⊎_elim, All}
use Rattle.std.specs.Prelude.{option_map}
use Rattle.std.specs.List.{cons_option}
use Rattle.std.proofs.lemmas.Bool.{cases_Bool, false≢true, true≢false, or_right}
use Rattle.std.proofs.lemmas.List.Elements.{All-nil, All-cons, All-head, All-tail, All-append}
use Rattle.std.proofs.lemmas.List.{map-append}
use Rattle.std.proofs.lemmas.Option.{none-some, same_Some}
use Rattle.std.proofs.lemmas.Slice.Eq.{bytes_eq-Decides}
use Rattle.forest_model.proofs.Covers.{none_from_test}
use Rattle.uo_digest.specs.declared.digest.Digest.{Digest}
use Rattle.uo_digest.proofs.DigestLaws.{digest_is}
use Rattle.forest_place.specs.declared.place.Place.{Place}
use Rattle.forest_place.specs.Places.{is_at, has_place, is_before_place}
use Rattle.forest_place.proofs.Listed.{is_at-same, same_from_is_at}
use Rattle.cache_model.specs.Cache.{look}
use Rattle.cache_model.specs.Lists.{AscendByPlace}
use Rattle.cache_model.specs.Undo.{find, undo, had, held_key, is_same_place}
use Rattle.cache_model.proofs.Logs.{formers, formers_keep, formers_give}
use Rattle.cache_model.proofs.Undoing.{place_order, undo_gives}
use Rattle.cache_model.proofs.Stepping.{find_is}
use Rattle.cache_update.specs.Differences.{is_digest, lost as lost_of, gained as gained_of}
use Rattle.cache_update.specs.Given.{digest_was, digest_none, held_given}
use Rattle.cache_update.proofs.Undone.{undo_append}

-- both kinds of change as one log

abbrev as_log : List (Place × Option Digest) → List (Place × (Option (Place × Digest) → Option (Place × Digest)))
as_log log = map (λ c. had c.0 c.1) log

abbrev lost : List (Place × Digest) → Place × Digest → Option (Place × Option Digest)
lost newer x = cond (is_digest (look newer x.0.row x.0.off) x.1) None (Some (x.0, Some x.1))

abbrev gained : List (Place × Digest) → Place × Digest → Option (Place × Option Digest)
gained older x = cond (is_some (look older x.0.row x.0.off)) None (Some (x.0, None))

abbrev differences_of : List (Place × Digest) → List (Place × Digest) → List (Place × Option Digest)
differences_of newer older = filter_map (lost newer) older ++ filter_map (gained older) newer

-- each element is what is looked up at its place

all_looked : (hs : List (Place × Digest)) → AscendByPlace hs → All (λ x. look hs x.0.row x.0.off ≡ Some x.1) hs
all_looked [] a = All-nil (λ x. look [] x.0.row x.0.off ≡ Some x.1)
all_looked (x ∷ xs) a =
    All-cons (λ y. look (x ∷ xs) y.0.row y.0.off ≡ Some y.1) x xs (rw (is_at-same x.0.row x.0.off) refl)
    (behind xs (λ k v e. a.0 k v e) xs (all_looked xs a.1))
  where
    behind : (ys : List (Place × Digest)) → ((k : Place) (v : Place × Digest) → find is_same_place held_key k xs ≡ Some v
        → is_before_place x.0 k ≡ true) → (zs : List (Place × Digest)) → All (λ y. look xs y.0.row y.0.off ≡ Some y.1) zs
        → All (λ y. look (x ∷ xs) y.0.row y.0.off ≡ Some y.1) zs
    behind ys f [] h = All-nil (λ y. look (x ∷ xs) y.0.row y.0.off ≡ Some y.1)
    behind ys f (z ∷ zs) h =
        let e : look xs z.0.row z.0.off ≡ Some z.1 = All-head (λ y. look xs y.0.row y.0.off ≡ Some y.1) z zs h in
        let found : find is_same_place held_key z.0 xs ≡ Some (z.0, z.1) = find_is z.0 xs ∙ ap (option_map (λ d. (z.0, d))) e in
        let later = f z.0 (z.0, z.1) found in
        All-cons (λ y. look (x ∷ xs) y.0.row y.0.off ≡ Some y.1) z zs
        (⊎_elim
        (λ t. let s : is_at z.0.row z.0.off x.0 ≡ true = t in
        let same : x.0 ≡ z.0 = same_from_is_at z.0.row z.0.off x.0 s in
        absurd (true≢false (sym (place_order.itself z.0) ∙ place_order.apart z.0 z.0 (ap (λ (p : Place). is_before_place p z.0) (sym same) ∙ later))))
        (λ t. let s : is_at z.0.row z.0.off x.0 ≡ false = t in rw s e)
        (cases_Bool (is_at z.0.row z.0.off x.0)))
        (behind ys f zs (All-tail (λ y. look xs y.0.row y.0.off ≡ Some y.1) z zs h))

-- a change that has what was held
abbrev pub HasFormer : List (Place × Digest) → Place × Option Digest → Type 0
HasFormer older c = c.1 ≡ look older c.0.row c.0.off

lost_former : (newer older xs : List (Place × Digest)) → All (λ x. look older x.0.row x.0.off ≡ Some x.1) xs
    → All (HasFormer older) (filter_map (lost newer) xs)
lost_former newer older [] a = All-nil (HasFormer older)
lost_former newer older (x ∷ xs) a = by_test (is_digest (look newer x.0.row x.0.off) x.1)
    (lost_former newer older xs (All-tail (λ x. look older x.0.row x.0.off ≡ Some x.1) x xs a))
  where
    by_test : (b : Bool) → All (HasFormer older) (filter_map (lost newer) xs)
        → All (HasFormer older) (cons_option (cond b None (Some (x.0, Some x.1))) (filter_map (lost newer) xs))
    by_test true rest = rest
    by_test false rest = All-cons (HasFormer older) (x.0, Some x.1) (filter_map (lost newer) xs)
        (sym (All-head (λ x. look older x.0.row x.0.off ≡ Some x.1) x xs a)) rest

gained_former : (older xs : List (Place × Digest)) → All (HasFormer older) (filter_map (gained older) xs)
gained_former older [] = All-nil (HasFormer older)
gained_former older (x ∷ xs) = by_test (is_some (look older x.0.row x.0.off)) refl (gained_former older xs)
  where
    by_test : (b : Bool) → is_some (look older x.0.row x.0.off) ≡ b → All (HasFormer older) (filter_map (gained older) xs)
        → All (HasFormer older) (cons_option (cond b None (Some (x.0, None))) (filter_map (gained older) xs))
    by_test true e rest = rest
    by_test false e rest =
        All-cons (HasFormer older) (x.0, None) (filter_map (gained older) xs) (sym (none_from_test (look older x.0.row x.0.off) e)) rest

abbrev log_places : List (Place × Option Digest) → List Place
log_places log = map (λ c. c.0) log

as_formers : (older : List (Place × Digest)) (log : List (Place × Option Digest)) → All (HasFormer older) log
    → as_log log ≡ formers older (log_places log)
as_formers older [] a = refl
as_formers older (c ∷ log) a =
    ap₂ (λ (d : Option Digest) rest. had c.0 d ∷ rest) (All-head (HasFormer older) c log a)
    (as_formers older log (All-tail (HasFormer older) c log a))

-- what is lost or gained has its place in the log
has_append_left : (xs ys : List (Place × Option Digest)) (r o : ℕ) → has_place (log_places xs) r o ≡ true
    → has_place (log_places (xs ++ ys)) r o ≡ true
has_append_left [] ys r o h = absurd (false≢true h)
has_append_left (x ∷ xs) ys r o h = ⊎_elim (λ t. let s : is_at r o x.0 ≡ true = t in rw s refl) (λ t. let s : is_at r o x.0 ≡ false = t in
    rw s (has_append_left xs ys r o (rw s at h))) (cases_Bool (is_at r o x.0))

has_append_right : (xs ys : List (Place × Option Digest)) (r o : ℕ) → has_place (log_places ys) r o ≡ true
    → has_place (log_places (xs ++ ys)) r o ≡ true
has_append_right [] ys r o h = h
has_append_right (x ∷ xs) ys r o h = or_right (is_at r o x.0) (has_place (log_places (xs ++ ys)) r o) (has_append_right xs ys r o h)

lost_has : (newer : List (Place × Digest)) (xs : List (Place × Digest)) (r o : ℕ) (d : Digest) → look xs r o ≡ Some d
    → is_digest (look newer r o) d ≡ false → has_place (log_places (filter_map (lost newer) xs)) r o ≡ true
lost_has newer [] r o d e t = absurd (none-some d e)
lost_has newer (x ∷ xs) r o d e t =
    ⊎_elim
    (λ u. let s : is_at r o x.0 ≡ true = u in
    let same : x.0 ≡ record { row = r; off = o } = same_from_is_at r o x.0 s in
    let is : x.1 ≡ d = same_Some x.1 d (rw s at e) in
    let z : is_digest (look newer x.0.row x.0.off) x.1 ≡ false = ap₂ (λ (p : Place) (y : Digest). is_digest (look newer p.row p.off) y) same is ∙ t in
    rw (z, s) refl)
    (λ u. let s : is_at r o x.0 ≡ false = u in by_test (is_digest (look newer x.0.row x.0.off) x.1) (lost_has newer xs r o d (rw s at e) t))
    (cases_Bool (is_at r o x.0))
  where
    by_test : (b : Bool) → has_place (log_places (filter_map (lost newer) xs)) r o ≡ true
        → has_place (log_places (cons_option (cond b None (Some (x.0, Some x.1))) (filter_map (lost newer) xs))) r o ≡ true
    by_test true rest = rest
    by_test false rest = or_right (is_at r o x.0) (has_place (log_places (filter_map (lost newer) xs)) r o) rest

gained_has : (older : List (Place × Digest)) (xs : List (Place × Digest)) (r o : ℕ) (d : Digest) → look xs r o ≡ Some d → look older r o ≡ None
    → has_place (log_places (filter_map (gained older) xs)) r o ≡ true
gained_has older [] r o d e t = absurd (none-some d e)
gained_has older (x ∷ xs) r o d e t =
    ⊎_elim
    (λ u. let s : is_at r o x.0 ≡ true = u in
    let same : x.0 ≡ record { row = r; off = o } = same_from_is_at r o x.0 s in
    let z : is_some (look older x.0.row x.0.off) ≡ false = ap (λ (p : Place). is_some (look older p.row p.off)) same ∙ ap is_some t in
    rw (z, s) refl)
    (λ u. let s : is_at r o x.0 ≡ false = u in by_test (is_some (look older x.0.row x.0.off)) (gained_has older xs r o d (rw s at e) t))
    (cases_Bool (is_at r o x.0))
  where
    by_test : (b : Bool) → has_place (log_places (filter_map (gained older) xs)) r o ≡ true
        → has_place (log_places (cons_option (cond b None (Some (x.0, None))) (filter_map (gained older) xs))) r o ≡ true
    by_test true rest = rest
    by_test false rest = or_right (is_at r o x.0) (has_place (log_places (filter_map (gained older) xs)) r o) rest

is_digest-same : (x : Option Digest) (d : Digest) → is_digest x d ≡ true → x ≡ Some d
is_digest-same None d e = absurd (false≢true e)
is_digest-same (Some x) d e = ap Some (digest_is x d.0 ((bytes_eq-Decides x.0 d.0).0 e))

differences_lead_back : (newer older : List (Place × Digest)) → AscendByPlace newer → AscendByPlace older
    → undo is_same_place is_before_place held_key (as_log (differences_of newer older)) newer ≡ older
differences_lead_back newer older a b =
    ap (λ log. undo is_same_place is_before_place held_key log newer) (as_formers older (differences_of newer older) formers_of)
    ∙ undo_gives is_same_place is_before_place held_key place_order (formers older (log_places (differences_of newer older))) newer older a b
    (formers_keep older (log_places (differences_of newer older)))
    (formers_give place_order older newer (log_places (differences_of newer older))
    (λ p h. find_is p older ∙ (ap (option_map (λ d. (p, d))) (same p h (look older p.row p.off) refl (look newer p.row p.off) refl)
    ∙ sym (find_is p newer))))
  where
    formers_of : All (HasFormer older) (differences_of newer older)
    formers_of = All-append (HasFormer older) (filter_map (lost newer) older) (filter_map (gained older) newer)
        (lost_former newer older older (all_looked older b)) (gained_former older newer)

    same : (p : Place) → has_place (log_places (differences_of newer older)) p.row p.off ≡ false → (x : Option Digest) → look older p.row p.off ≡ x
        → (y : Option Digest) → look newer p.row p.off ≡ y → look older p.row p.off ≡ look newer p.row p.off
    same p h None e None f = e ∙ sym f
    same p h None e (Some d) f =
        absurd (true≢false (sym (has_append_right (filter_map (lost newer) older) (filter_map (gained older) newer) p.row p.off
        (gained_has older newer p.row p.off d f e)) ∙ h))
    same p h (Some d) e y f =
        ⊎_elim
        (λ t. e ∙ sym (is_digest-same (look newer p.row p.off) d t))
        (λ t. absurd (true≢false (sym (has_append_left (filter_map (lost newer) older) (filter_map (gained older) newer) p.row p.off
        (lost_has newer older p.row p.off d e t)) ∙ h)))
        (cases_Bool (is_digest (look newer p.row p.off) d))

lost_log : (newer older : List (Place × Digest)) → map digest_was (filter_map (lost_of newer) older) ≡ as_log (filter_map (lost newer) older)
lost_log newer [] = refl
lost_log newer (x ∷ xs) = by_test (is_digest (look newer x.0.row x.0.off) x.1) (lost_log newer xs)
  where
    by_test : (b : Bool) → map digest_was (filter_map (lost_of newer) xs) ≡ as_log (filter_map (lost newer) xs)
        → map digest_was (cons_option (cond b None (Some x)) (filter_map (lost_of newer) xs))
        ≡ as_log (cons_option (cond b None (Some (x.0, Some x.1))) (filter_map (lost newer) xs))
    by_test true rest = rest
    by_test false rest = ap (λ log. had x.0 (Some x.1) ∷ log) rest

gained_log : (older newer : List (Place × Digest)) → map digest_none (filter_map (gained_of older) newer) ≡ as_log (filter_map (gained older) newer)
gained_log older [] = refl
gained_log older (x ∷ xs) = by_test (is_some (look older x.0.row x.0.off)) (gained_log older xs)
  where
    by_test : (b : Bool) → map digest_none (filter_map (gained_of older) xs) ≡ as_log (filter_map (gained older) xs)
        → map digest_none (cons_option (cond b None (Some x.0)) (filter_map (gained_of older) xs))
        ≡ as_log (cons_option (cond b None (Some (x.0, None))) (filter_map (gained older) xs))
    by_test true rest = rest
    by_test false rest = ap (λ log. had x.0 None ∷ log) rest

-- what was lost and gained leads back
pub differences_give : (newer older : List (Place × Digest)) → AscendByPlace newer → AscendByPlace older
    → held_given (filter_map (lost_of newer) older) (filter_map (gained_of older) newer) newer ≡ older
differences_give newer older a b =
    ap₂ (λ log more. undo is_same_place is_before_place held_key log (undo is_same_place is_before_place held_key more newer)) (lost_log newer older)
    (gained_log older newer)
    ∙ (sym (undo_append is_same_place is_before_place held_key (as_log (filter_map (lost newer) older)) (as_log (filter_map (gained older) newer))
    newer)
    ∙ (ap (λ log. undo is_same_place is_before_place held_key log newer)
    (sym (map-append (λ (c : Place × Option Digest). had c.0 c.1) (filter_map (lost newer) older) (filter_map (gained older) newer)))
    ∙ differences_lead_back newer older a b))
