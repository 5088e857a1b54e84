-- Fields of a list that is put together: what was written is read back. Assumes nothing.
use mathlib.Core.Path.{◌≡◌, refl, sym, ap, ◌∙◌}
use mathlib.Core.List.{List, [], ◌∷◌, ◌++◌, append_assoc}
use mathlib.Core.Logic.{⊎_elim}
use Prim.Native.Nat.{ℕ, zero, suc, ◌+◌, ◌*◌, ◌/◌, ◌%◌, ◌^◌, ◌≤◌, ◌<◌}
use native.Mathlib.Nat.{add-suc, eq-or-lt_of_le, le_of_suc-le-suc, pow-succ'}
use native.Mathlib.Omega.{arith}
use lib.ListN.{length, replicate, get_or-append}
use lib.Seq.{get_or-append-add}
use lib.Dec.{lit<}
use Rattle.lists.specs.Tables.{flat}
use Rattle.octets.specs.Bytes.{field, le, Small}
use Rattle.lists.proofs.Tables.{length-flat}

field-cons : (b : ℕ) (l : List ℕ) (i n : ℕ) → field (b ∷ l) (suc i) n ≡ field l i n
unfolding field
field-cons b l i zero = refl
field-cons b l i (suc n) = rw (field-cons b l (suc i) n)

pub field_skip : (a l : List ℕ) (i n : ℕ) → field (a ++ l) (length a + i) n ≡ field l i n
unfolding field
field_skip a l i zero = refl
field_skip a l i (suc n) = rw (get_or-append-add a l i 0, ← add-suc, field_skip a l (suc i) n)

pub field_front : (a b : List ℕ) (i n : ℕ) → i + n ≤ length a → field (a ++ b) i n ≡ field a i n
unfolding field
field_front a b i zero h = refl
field_front a b i (suc n) h = rw (get_or-append a b 0 i (omega arith), field_front a b (suc i) n (omega arith))

pub field-le : (n v : ℕ) → v < 256 ^ n → field (le n v) 0 n ≡ v
unfolding field le
field-le zero v h = omega arith
field-le (suc n) v h =
    let k : v < 256 * 256 ^ n = rw pow-succ' at h in
    rw (field-cons (v % 256) (le n (v / 256)) 0 n, field-le n (v / 256) (omega arith)) (omega arith)

-- the three numbers of an entry
module _ (a b n v : ℕ) where
  pub entry_first : a < 256 ^ 2 → field (le 2 a ++ le 2 b ++ le n v) 0 2 ≡ a
  unfolding le
  entry_first h = field_front (le 2 a ++ le 2 b) (le n v) 0 2 (omega arith) ∙ field_front (le 2 a) (le 2 b) 0 2 (omega arith) ∙ field-le 2 a h

  pub entry_second : b < 256 ^ 2 → field (le 2 a ++ le 2 b ++ le n v) 2 2 ≡ b
  unfolding le
  entry_second h = field_front (le 2 a ++ le 2 b) (le n v) 2 2 (omega arith) ∙ field_skip (le 2 a) (le 2 b) 0 2 ∙ field-le 2 b h

  pub entry-third : v < 256 ^ n → field (le 2 a ++ le 2 b ++ le n v) 4 n ≡ v
  unfolding le
  entry-third h = field_skip (le 2 a ++ le 2 b) (le n v) 0 n ∙ field-le n v h

-- a field of entry i, of entries of k bytes each
module _ (k : ℕ) (f : ℕ → List ℕ) (each : (i : ℕ) → length (f i) ≡ k) (j m : ℕ) (within : j + m ≤ k) where
  flat-field : (n : ℕ) (b : List ℕ) (i : ℕ) → i < n → field (flat n f ++ b) (k * i + j) m ≡ field (f i) j m
  unfolding flat
  flat-field zero b i h = absurd (omega arith)
  flat-field (suc n) b i h =
      rw (append_assoc (flat n f) (f n) b)
      (⊎_elim
      (λ e. rw e
      (ap (λ (o : ℕ). field (flat n f ++ (f n ++ b)) (o + j) m) (sym (length-flat k f each n))
      ∙ field_skip (flat n f) (f n ++ b) j m
      ∙ field_front (f n) b j m (rw (each n) within)))
      (λ l. flat-field n (f n ++ b) i l)
      (eq-or-lt_of_le (le_of_suc-le-suc h)))

  pub entry-field : (a : List ℕ) (n : ℕ) (b : List ℕ) (i at : ℕ) → i < n → at ≡ length a + (k * i + j)
      → field (a ++ (flat n f ++ b)) at m ≡ field (f i) j m
  entry-field a n b i at h e = rw e (field_skip a (flat n f ++ b) (k * i + j) m ∙ flat-field n b i h)

-- ---- each element is a byte

pub small-le : (n v : ℕ) → Small (le n v)
unfolding le
small-le zero v i = lit< tt
small-le (suc n) v zero = omega arith
small-le (suc n) v (suc i) = small-le n (v / 256) i

pub small-cons : (x : ℕ) (l : List ℕ) → x < 256 → Small l → Small (x ∷ l)
small-cons x l h s zero = h
small-cons x l h s (suc i) = s i

pub small-append : (a b : List ℕ) → Small a → Small b → Small (a ++ b)
small-append [] b sa sb i = sb i
small-append (x ∷ a) b sa sb zero = sa 0
small-append (x ∷ a) b sa sb (suc i) = small-append a b (λ k. sa (suc k)) sb i

pub small-entry : (a b n v : ℕ) → Small (le 2 a ++ le 2 b ++ le n v)
small-entry a b n v = small-append (le 2 a ++ le 2 b) (le n v) (small-append (le 2 a) (le 2 b) (small-le 2 a) (small-le 2 b)) (small-le n v)

pub small-flat : (f : ℕ → List ℕ) → ((i : ℕ) → Small (f i)) → (n : ℕ) → Small (flat n f)
unfolding flat
small-flat f h zero = λ i. lit< tt
small-flat f h (suc n) = small-append (flat n f) (f n) (small-flat f h n) (h n)

pub small-zeros : (n : ℕ) → Small (replicate n 0)
small-zeros zero i = lit< tt
small-zeros (suc n) zero = lit< tt
small-zeros (suc n) (suc i) = small-zeros n i
