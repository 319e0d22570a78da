-- The roots of a level are a lawful format.
use Rattle.std.proofs.Common.{◌≡◌, ℕ, zero, suc, ◌^◌, ◌<◌, ◌≤◌, eqb, true, false, List, [], ◌∷◌, ◌++◌, length, get_or, replicate, Option, Some, None}
use Rattle.std.proofs.Common.{refl, sym, ap, ap₂, subst, ◌∙◌, append_assoc, arith, ⊎_elim}
use Rattle.std.proofs.lemmas.Bool.{cases_Bool, cases_lt, eqb-true, false≢true}
use Rattle.std.proofs.lemmas.List.{get_or-set_same, get_or-set_other, length-set, get_or_past, ext_get_or}
use Rattle.uo_base.specs.Reading.{IsBytes, ◌>>=◌}
use Rattle.uo_base.proofs.Formats.{Took, Lawful, same, bind_some, some_is, found, not_both, IsBytes-rest}
use Rattle.uo_digest.specs.declared.digest.Digest.{Digest}
use Rattle.uo_digest.specs.Reading.{digest_in_front}
use Rattle.uo_digest.proofs.DigestLaws.{digest_lawful}
use Rattle.forest_place.specs.Forest.{is_slot}
use Rattle.forest_roots.specs.Stump.{Stump, IsStump, root_in, with_root, empty_roots}
use Rattle.state_text.specs.Stored.{root_text, roots_text}
use Rattle.state_text.specs.Fits.{RootFits}
use Rattle.state_text.specs.Reading.{root_at, roots_at}

-- ---- one root

abbrev full : Digest → Option Digest
full d = Some d

mark-none : (bytes : List ℕ) → root_at (0 ∷ bytes) ≡ Some (None, bytes)
unfolding root_at
mark-none bytes = refl

mark-some : (bytes : List ℕ) → root_at (1 ∷ bytes) ≡ (digest_in_front bytes >>= λ d. Some (full d.0, d.1))
unfolding root_at
mark-some bytes = refl

mark-other : (b : ℕ) (bytes : List ℕ) → eqb b 0 ≡ false → eqb b 1 ≡ false → root_at (b ∷ bytes) ≡ None
unfolding root_at
mark-other b bytes e f = rw (e, f) refl

no_mark : root_at [] ≡ None
unfolding root_at
no_mark = refl

root_took : (bytes : List ℕ) (r : Option Digest) (rest : List ℕ) → IsBytes bytes → root_at bytes ≡ Some (r, rest)
    → Took bytes (root_text r) rest (RootFits r)
root_took [] r rest is_bytes e = absurd (not_both (root_at []) (r, rest) no_mark e)
root_took (b ∷ bytes) r rest is_bytes e =
    ⊎_elim
    (λ zero.
    let z : b ≡ 0 = eqb-true b 0 zero in
    let e' = some_is (None, bytes) (r, rest) (sym (mark-none bytes) ∙ (ap (λ (k : ℕ). root_at (k ∷ bytes)) (sym z) ∙ e)) in
    subst (λ (p : Option Digest × List ℕ). Took (b ∷ bytes) (root_text p.0) p.1 (RootFits p.0)) e'
    (record { fits = tt; parts = ap (λ (k : ℕ). k ∷ bytes) z; rest_bytes = IsBytes-rest b bytes is_bytes }))
    (λ more. ⊎_elim
    (λ one.
    let z : b ≡ 1 = eqb-true b 1 one in
    let s = bind_some (digest_in_front bytes) (λ d. Some (full d.0, d.1)) (r, rest)
    (sym (mark-some bytes) ∙ (ap (λ (k : ℕ). root_at (k ∷ bytes)) (sym z) ∙ e)) in
    let t = digest_lawful.took bytes s.0.0 s.0.1 (IsBytes-rest b bytes is_bytes) s.1 in
    let made : Option Digest × List ℕ = (full s.0.0, s.0.1) in
    subst (λ (p : Option Digest × List ℕ). Took (b ∷ bytes) (root_text p.0) p.1 (RootFits p.0)) (some_is made (r, rest) s.2)
    (record { fits = t.fits; parts = ap₂ (λ (k : ℕ) (x : List ℕ). k ∷ x) z t.parts; rest_bytes = t.rest_bytes }))
    (λ other. absurd (not_both (root_at (b ∷ bytes)) (r, rest) (mark-other b bytes more other) e))
    (cases_Bool (eqb b 1)))
    (cases_Bool (eqb b 0))

root_again : (r : Option Digest) (rest : List ℕ) → RootFits r → root_at (root_text r ++ rest) ≡ Some (r, rest)
unfolding root_at
root_again None rest fits = refl
root_again (Some d) rest fits = rw (digest_lawful.again d rest fits) refl

pub root_lawful : Lawful RootFits root_text root_at
root_lawful = record { took = root_took; again = root_again }

-- ---- the roots of the slots below a row

-- no root stands below the row yet, and none where there is no slot
record IsBlank (k : ℕ) (f : Stump) : Type 0 where
  forty : length f.rows ≡ 40
  below : (row : ℕ) → row < k → root_in f row ≡ None
  bare : (row : ℕ) → is_slot f.leaves row ≡ false → root_in f row ≡ None

-- the same, but for the roots of the slots below the row
record IsOver (k : ℕ) (f g : Stump) : Type 0 where
  leaves : g.leaves ≡ f.leaves
  forty : length g.rows ≡ 40
  bare : (row : ℕ) → is_slot f.leaves row ≡ false → root_in g row ≡ None
  above : (row : ℕ) → k ≤ row → root_in g row ≡ root_in f row
  digests : (row : ℕ) → row < k → RootFits (root_in g row)

abbrev stump_of : ℕ → List (Option Digest) → Stump
stump_of n rows = record { leaves = n; rows = rows }

none_over : (f g : Stump) → IsBlank 0 f → IsOver 0 f g → f ≡ g
none_over f g b o = ap₂ stump_of (sym o.leaves) (ext_get_or None f.rows g.rows (b.forty ∙ sym o.forty) (λ k lt. sym (o.above k (omega arith))))

-- one root more
with_blank : (k : ℕ) (f : Stump) (r : Option Digest) → is_slot f.leaves k ≡ true → IsBlank (suc k) f → IsBlank k (with_root f k r)
with_blank k f r slot b = record {
  forty = length-set f.rows k r ∙ b.forty;
  below = λ row lt. get_or-set_other f.rows k row r None (λ e. omega (arith, e, lt)) ∙ b.below row (omega arith);
  bare = λ row none. get_or-set_other f.rows k row r None (λ e. false≢true (sym none ∙ (ap (is_slot f.leaves) e ∙ slot))) ∙ b.bare row none;
}

less_blank : (k : ℕ) (f : Stump) → IsBlank (suc k) f → IsBlank k f
less_blank k f b = record { forty = b.forty; below = λ row lt. b.below row (omega arith); bare = b.bare }

from_over : (k : ℕ) (f g : Stump) (r : Option Digest) → k < 40 → is_slot f.leaves k ≡ true → IsBlank (suc k) f → RootFits r
    → IsOver k (with_root f k r) g → IsOver (suc k) f g × (root_in g k ≡ r)
from_over k f g r lt slot b fits o =
    let here : root_in g k ≡ r = o.above k (omega arith) ∙ get_or-set_same f.rows k r None (omega (arith, b.forty)) in (
      record {
        leaves = o.leaves;
        forty = o.forty;
        bare = o.bare;
        above = λ row le. o.above row (omega arith) ∙ get_or-set_other f.rows k row r None (λ e. omega (arith, e, le));
        digests = λ row le. ⊎_elim (λ less. o.digests row less) (λ ge. let e : row ≡ k = omega arith in
            subst RootFits (sym here ∙ ap (root_in g) (sym e)) fits) (cases_lt row k);
      },
      here,
    )

to_over : (k : ℕ) (f g : Stump) → k < 40 → IsBlank (suc k) f → IsOver (suc k) f g → IsOver k (with_root f k (root_in g k)) g
to_over k f g lt b o =
    let r = root_in g k in
    record {
      leaves = o.leaves;
      forty = o.forty;
      bare = o.bare;
      above = λ row le.
          ⊎_elim
          (λ less. o.above row less ∙ sym (get_or-set_other f.rows k row r None (λ e. omega (arith, e, less))))
          (λ ge. let e : row ≡ k = omega arith in ap (root_in g) e
          ∙ (sym (get_or-set_same f.rows k r None (omega (arith, b.forty))) ∙ ap (root_in (with_root f k r)) (sym e)))
          (cases_lt k row);
      digests = λ row less. o.digests row (omega arith);
    }

none_here : (k : ℕ) (f g : Stump) → is_slot f.leaves k ≡ false → IsBlank (suc k) f → IsOver k f g → IsOver (suc k) f g
none_here k f g none b o = record {
  leaves = o.leaves;
  forty = o.forty;
  bare = o.bare;
  above = λ row le. o.above row (omega arith);
  digests = λ row le. ⊎_elim (λ less. o.digests row less) (λ ge. let e : row ≡ k = omega arith in
      subst RootFits (sym (ap (root_in g) e ∙ o.bare k none)) tt) (cases_lt row k);
}

none_there : (k : ℕ) (f g : Stump) → is_slot f.leaves k ≡ false → IsBlank (suc k) f → IsOver (suc k) f g → IsOver k f g
none_there k f g none b o = record {
  leaves = o.leaves;
  forty = o.forty;
  bare = o.bare;
  above = λ row le. ⊎_elim (λ less. o.above row less) (λ ge. let e : row ≡ k = omega arith in
      ap (root_in g) e ∙ (o.bare k none ∙ sym (ap (root_in f) e ∙ b.below k (omega arith)))) (cases_lt k row);
  digests = λ row less. o.digests row (omega arith);
}

-- the text of a row
pub text-slot : (k : ℕ) (g : Stump) → is_slot g.leaves k ≡ true → roots_text (suc k) g ≡ root_text (root_in g k) ++ roots_text k g
unfolding roots_text
text-slot k g e = rw e refl

pub text-bare : (k : ℕ) (g : Stump) → is_slot g.leaves k ≡ false → roots_text (suc k) g ≡ roots_text k g
unfolding roots_text
text-bare k g e = rw e refl

pub text-none : (g : Stump) → roots_text 0 g ≡ []
unfolding roots_text
text-none g = refl

read-slot : (k : ℕ) (f : Stump) (bytes : List ℕ) → is_slot f.leaves k ≡ true
    → roots_at (suc k) f bytes ≡ (root_at bytes >>= λ root. roots_at k (with_root f k root.0) root.1)
unfolding roots_at
read-slot k f bytes e = rw e refl

read-bare : (k : ℕ) (f : Stump) (bytes : List ℕ) → is_slot f.leaves k ≡ false → roots_at (suc k) f bytes ≡ roots_at k f bytes
unfolding roots_at
read-bare k f bytes e = rw e refl

read-none : (f : Stump) (bytes : List ℕ) → roots_at 0 f bytes ≡ Some (f, bytes)
unfolding roots_at
read-none f bytes = refl

roots_took : (k : ℕ) (f : Stump) → k ≤ 40 → IsBlank k f → (bytes : List ℕ) (g : Stump) (rest : List ℕ) → IsBytes bytes
    → roots_at k f bytes ≡ Some (g, rest) → Took bytes (roots_text k g) rest (IsOver k f g)
roots_took zero f le b bytes g rest is_bytes e =
    subst (λ (p : Stump × List ℕ). Took bytes (roots_text 0 p.0) p.1 (IsOver 0 f p.0)) (some_is (f, bytes) (g, rest) (sym (read-none f bytes) ∙ e))
    (record {
      fits = record { leaves = refl; forty = b.forty; bare = b.bare; above = λ row le. refl; digests = λ row lt. absurd (omega arith) };
      parts = ap (λ (x : List ℕ). x ++ bytes) (sym (text-none f));
      rest_bytes = is_bytes;
    })
roots_took (suc k) f le b bytes g rest is_bytes e =
    ⊎_elim
    (λ slot.
    let s = bind_some (root_at bytes) (λ root. roots_at k (with_root f k root.0) root.1) (g, rest) (sym (read-slot k f bytes slot) ∙ e) in
    let t = root_lawful.took bytes s.0.0 s.0.1 is_bytes s.1 in
    let u = roots_took k (with_root f k s.0.0) (omega arith) (with_blank k f s.0.0 slot b) s.0.1 g rest t.rest_bytes s.2 in
    let o = from_over k f g s.0.0 (omega arith) slot b t.fits u.fits in
    let slot' : is_slot g.leaves k ≡ true = ap (λ n. is_slot n k) o.0.leaves ∙ slot in
    record {
      fits = o.0;
      parts = t.parts ∙ (ap₂ (λ (x : Option Digest) (y : List ℕ). root_text x ++ y) (sym o.1) u.parts
          ∙ (sym (append_assoc (root_text (root_in g k)) (roots_text k g) rest) ∙ ap (λ (x : List ℕ). x ++ rest) (sym (text-slot k g slot'))));
      rest_bytes = u.rest_bytes;
    })
    (λ bare.
    let u = roots_took k f (omega arith) (less_blank k f b) bytes g rest is_bytes (sym (read-bare k f bytes bare) ∙ e) in
    let o = none_here k f g bare b u.fits in
    record {
      fits = o;
      parts = u.parts ∙ ap (λ (x : List ℕ). x ++ rest) (sym (text-bare k g (ap (λ n. is_slot n k) o.leaves ∙ bare)));
      rest_bytes =
          u.rest_bytes;
    })
    (cases_Bool (is_slot f.leaves k))

roots_again : (k : ℕ) (f : Stump) → k ≤ 40 → IsBlank k f → (g : Stump) (rest : List ℕ) → IsOver k f g
    → roots_at k f (roots_text k g ++ rest) ≡ Some (g, rest)
roots_again zero f le b g rest o = read-none f (roots_text 0 g ++ rest)
    ∙ ap₂ (λ (x : Stump) (y : List ℕ). found (x, y)) (none_over f g b o) (ap (λ (x : List ℕ). x ++ rest) (text-none g))
roots_again (suc k) f le b g rest o =
    ⊎_elim
    (λ slot.
    let r = root_in g k in
    let text = ap (λ (x : List ℕ). x ++ rest) (text-slot k g (ap (λ n. is_slot n k) o.leaves ∙ slot))
    ∙ append_assoc (root_text r) (roots_text k g) rest in
    let first = root_lawful.again r (roots_text k g ++ rest) (o.digests k (omega arith)) in
    ap (roots_at (suc k) f) text ∙ (read-slot k f _ slot
    ∙ rw first (roots_again k (with_root f k r) (omega arith) (with_blank k f r slot b) g rest (to_over k f g (omega arith) b o))))
    (λ bare.
    ap (λ (x : List ℕ). roots_at (suc k) f (x ++ rest)) (text-bare k g (ap (λ n. is_slot n k) o.leaves ∙ bare))
    ∙ (read-bare k f (roots_text k g ++ rest) bare ∙ roots_again k f (omega arith) (less_blank k f b) g rest (none_there k f g bare b o)))
    (cases_Bool (is_slot f.leaves k))

-- ---- all roots

-- roots over n entries
pub record AreRoots (n : ℕ) (g : Stump) : Type 0 where
  pub leaves : g.leaves ≡ n
  pub stump : IsStump g
  pub digests : (row : ℕ) → RootFits (root_in g row)

none_of : (k i : ℕ) → get_or {A = Option Digest} (replicate k None) i None ≡ None
none_of zero i = refl
none_of (suc k) zero = refl
none_of (suc k) (suc i) = none_of k i

empty-none : (n row : ℕ) → root_in (empty_roots n) row ≡ None
empty-none n row = none_of 40 row

empty_blank : (n : ℕ) → IsBlank 40 (empty_roots n)
empty_blank n = record { forty = refl; below = λ row lt. empty-none n row; bare = λ row none. empty-none n row }

pub roots_lawful : (n : ℕ) → n < 2 ^ 40 → Lawful (AreRoots n) (roots_text 40) (roots_at 40 (empty_roots n))
roots_lawful n few =
    same (IsOver 40 (empty_roots n)) (AreRoots n) (roots_text 40) (roots_text 40) (roots_at 40 (empty_roots n))
    (record {
      took = λ bytes g rest is_bytes e. roots_took 40 (empty_roots n) (omega arith) (empty_blank n) bytes g rest is_bytes e;
      again =
          λ g rest o. roots_again 40 (empty_roots n) (omega arith) (empty_blank n) g rest o;
    })
    (λ g o. record {
      leaves = o.leaves;
      stump = record { few = rw o.leaves few; forty = o.forty; bare = λ row none. o.bare row (ap (λ m. is_slot m row) (sym o.leaves) ∙ none) };
      digests = λ row. ⊎_elim (λ lt. o.digests row lt) (λ ge. subst RootFits (sym (get_or_past g.rows row None (omega (arith, o.forty)))) tt)
          (cases_lt row 40);
    })
    (λ g a. record {
      leaves = a.leaves;
      forty = a.stump.forty;
      bare = λ row none. a.stump.bare row (ap (λ m. is_slot m row) a.leaves ∙ none);
      above = λ row le. get_or_past g.rows row None (omega (arith, a.stump.forty)) ∙ sym (empty-none n row);
      digests = λ row lt. a.digests row;
    })
    (λ g _. refl)
