-- Laws of searches by index. Assumes nothing.
use mathlib.Core.Path.{◌≡◌, refl, sym, ap, ap₂, ◌∙◌}
use mathlib.Core.Bool.{Bool, true, false, not, ◌&&◌, ◌||◌, false≢true, cond}
use mathlib.Core.List.{List, [], ◌∷◌}
use Prim.Native.Nat.{ℕ, zero, suc, ◌+◌, ◌-◌, ◌≤◌, ◌<◌}
use native.Mathlib.Nat.{sub_self, sub-zero, suc-add, add-suc, add-zero, zero-add}
use native.Mathlib.Numerals.{add-one}
use native.Mathlib.Omega.{arith}
use lib.ListN.{length, get_or}
use lib.Dec.{ltb, leb-suc-suc}
use borrow.Author.Tests.{lt-ltb, le-ltb, ltb-true, ltb-false}
use Rattle.lists.specs.Members.{any, all}
use Rattle.std.specs.Prelude.{Some, None}
use Rattle.lists.specs.Search.{seek, first_in, some_in, found_in}

-- what a searching loop needs: at a hit it stops, at a miss it goes on, at the end it gives the end
module _ (bad : ℕ → Bool) where
  step : (i to : ℕ) → i < to → first_in bad i to ≡ cond (bad i) i (first_in bad (i + 1) to)
  unfolding first_in
  step i to h = let e : to - i ≡ suc (to - suc i) = omega arith in rw (add-one, e)

  pub hit : (i to : ℕ) → i < to → bad i ≡ true → first_in bad i to ≡ i
  hit i to h e = rw (step i to h, e)

  pub miss : (i to : ℕ) → i < to → bad i ≡ false → first_in bad i to ≡ first_in bad (i + 1) to
  miss i to h e = rw (step i to h, e)

  pub done : (to : ℕ) → first_in bad to to ≡ to
  unfolding first_in
  done to = rw sub_self

  within-seek : (i k : ℕ) → seek bad i k ≤ i + k
  unfolding seek
  within-seek i zero = omega arith
  within-seek i (suc k) = go (bad i) (within-seek (suc i) k)
    where
      go : (b : Bool) → seek bad (suc i) k ≤ suc i + k → cond b i (seek bad (suc i) k) ≤ i + suc k
      go true ih = omega arith
      go false ih = omega arith

  -- it stays within its range
  pub within : (from to : ℕ) → from ≤ to → first_in bad from to ≤ to
  unfolding first_in
  within from to h = omega (arith, within-seek from (to - from))

  -- a search that finds none misses at its first index, and finds none after it
  pub passed : (i to : ℕ) → i < to → to ≤ first_in bad i to → (bad i ≡ false) × (to ≤ first_in bad (i + 1) to)
  passed i to h n = go (bad i) refl
    where
      go : (b : Bool) → bad i ≡ b → (bad i ≡ false) × (to ≤ first_in bad (i + 1) to)
      go true e = absurd (omega (arith, hit i to h e))
      go false e = (e, omega (arith, miss i to h e))

-- what a search found, as a test
module _ (bad : ℕ → Bool) (from to x : ℕ) (found : x ≡ first_in bad from to) where
  pub some : x < to → some_in bad from to ≡ true
  some h = lt-ltb _ _ (rw found at h)

  pub none : to ≤ x → some_in bad from to ≡ false
  none h = le-ltb _ _ (rw found at h)

-- what it gave where there is an index, and where there is none
module _ (bad : ℕ → Bool) (from to : ℕ) where
  pub given_some : (i : ℕ) → Some i ≡ found_in bad from to → (i ≡ first_in bad from to) × (i < to)
  given_some i e = go (some_in bad from to) refl e
    where
      go : (b : Bool) → some_in bad from to ≡ b → Some i ≡ cond b (Some (first_in bad from to)) None → (i ≡ first_in bad from to) × (i < to)
      go true s q = let f : i ≡ first_in bad from to = cc in (f, omega (arith, ltb-true (first_in bad from to) to s))
      go false s q = absurd (let z : ◌≡◌ {A = ℕ} 0 1 = cc in omega arith)

  pub given_none : None ≡ found_in bad from to → some_in bad from to ≡ false
  given_none e = go (some_in bad from to) refl e
    where
      go : (b : Bool) → some_in bad from to ≡ b → None ≡ cond b (Some (first_in bad from to)) None → some_in bad from to ≡ false
      go true s q = absurd (let z : ◌≡◌ {A = ℕ} 0 1 = cc in omega arith)
      go false s q = s

-- two tests that agree find the same
pub seek-same : (f g : ℕ → Bool) (i k : ℕ) → ((j : ℕ) → j < i + k → f j ≡ g j) → seek f i k ≡ seek g i k
unfolding seek
seek-same f g i zero h = refl
seek-same f g i (suc k) h = ap₂ (λ b x. cond b i x) (h i (omega arith)) (seek-same f g (suc i) k (λ j l. h j (omega arith)))

pub some_same : (f g : ℕ → Bool) (n : ℕ) → ((j : ℕ) → j < n → f j ≡ g j) → some_in f 0 n ≡ some_in g 0 n
unfolding first_in
some_same f g n h = ap (λ (x : ℕ). ltb x n) (seek-same f g 0 (n - 0) (λ j l. h j (omega arith)))

-- a test that fails at each index finds none
pub seek_none : (bad : ℕ → Bool) (i k : ℕ) → ((j : ℕ) → j < k → bad (i + j) ≡ false) → seek bad i k ≡ i + k
unfolding seek
seek_none bad i zero h = omega arith
seek_none bad i (suc k) h =
    let here : bad i ≡ false = rw add-zero at (h 0 (omega arith)) in
    let rest : seek bad (suc i) k ≡ suc i + k = seek_none bad (suc i) k (λ j l. rw (suc-add, ← add-suc) (h (suc j) (omega arith))) in
    rw (here, rest) (omega arith)

pub first-same : (f g : ℕ → Bool) (n : ℕ) → ((j : ℕ) → j < n → f j ≡ g j) → first_in f 0 n ≡ first_in g 0 n
unfolding first_in
first-same f g n h = seek-same f g 0 (n - 0) (λ j l. h j (omega arith))

-- a search that finds none has missed at each index
missed_seek : (bad : ℕ → Bool) (i k : ℕ) → i + k ≤ seek bad i k → (j : ℕ) → j < k → bad (i + j) ≡ false
unfolding seek
missed_seek bad i zero h j l = absurd (omega arith)
missed_seek bad i (suc k) h j l = go (bad i) refl h (λ q m o. missed_seek bad (suc i) k q m o) j l
  where
    go : (b : Bool)
        → bad i ≡ b
        → i + suc k ≤ cond b i (seek bad (suc i) k)
        → (suc i + k ≤ seek bad (suc i) k → (m : ℕ) → m < k → bad (suc i + m) ≡ false)
        → (m : ℕ)
        → m < suc k
        → bad (i + m) ≡ false
    go true e q ih m o = absurd (omega arith)
    go false e q ih zero o = rw add-zero e
    go false e q ih (suc m) o = rw (add-suc, ← suc-add) (ih (omega arith) m (omega arith))

pub missed_from : (bad : ℕ → Bool) (from to : ℕ) → some_in bad from to ≡ false → (i : ℕ) → from ≤ i → i < to → bad i ≡ false
unfolding first_in
missed_from bad from to e i l h =
    let at : from + (i - from) ≡ i = omega arith in
    rw at at (missed_seek bad from (to - from) (omega (arith, ltb-false (seek bad from (to - from)) to e)) (i - from) (omega arith))

pub missed : (bad : ℕ → Bool) (n : ℕ) → some_in bad 0 n ≡ false → (i : ℕ) → i < n → bad i ≡ false
missed bad n e i h = missed_from bad 0 n e i (omega arith) h

-- and one that misses at each index finds none
pub first_none : (bad : ℕ → Bool) (n : ℕ) → ((i : ℕ) → i < n → bad i ≡ false) → first_in bad 0 n ≡ n
unfolding first_in
first_none bad n h = omega (arith, seek_none bad 0 (n - 0) (λ j l. rw zero-add (h j (omega arith))))

pub none_at : (bad : ℕ → Bool) (n : ℕ) → ((i : ℕ) → i < n → bad i ≡ false) → some_in bad 0 n ≡ false
none_at bad n h = le-ltb (first_in bad 0 n) n (omega (arith, first_none bad n h))

pub some_at : (bad : ℕ → Bool) (n i : ℕ) → i < n → bad i ≡ true → some_in bad 0 n ≡ true
some_at bad n i h e = go (some_in bad 0 n) refl
  where
    go : (b : Bool) → some_in bad 0 n ≡ b → b ≡ true
    go true s = refl
    go false s = absurd (false≢true (sym (missed bad n s i h) ∙ e))

-- where a search stops within its range, the test holds
holds_seek : (bad : ℕ → Bool) (i k : ℕ) → seek bad i k < i + k → bad (seek bad i k) ≡ true
unfolding seek
holds_seek bad i zero h = absurd (omega arith)
holds_seek bad i (suc k) h = go (bad i) refl h (λ q. holds_seek bad (suc i) k q)
  where
    go : (b : Bool)
        → bad i ≡ b
        → cond b i (seek bad (suc i) k) < i + suc k
        → (seek bad (suc i) k < suc i + k → bad (seek bad (suc i) k) ≡ true)
        → bad (cond b i (seek bad (suc i) k)) ≡ true
    go true e q ih = e
    go false e q ih = ih (omega arith)

from_seek : (bad : ℕ → Bool) (i k : ℕ) → i ≤ seek bad i k
unfolding seek
from_seek bad i zero = omega arith
from_seek bad i (suc k) = go (bad i) (from_seek bad (suc i) k)
  where
    go : (b : Bool) → suc i ≤ seek bad (suc i) k → i ≤ cond b i (seek bad (suc i) k)
    go true ih = omega arith
    go false ih = omega arith

module _ (bad : ℕ → Bool) (from to : ℕ) where
  pub from_on : from ≤ first_in bad from to
  unfolding first_in
  from_on = from_seek bad from (to - from)

  pub holds_from : first_in bad from to < to → bad (first_in bad from to) ≡ true
  unfolding first_in
  holds_from h = holds_seek bad from (to - from) (omega (arith, from_seek bad from (to - from)))

pub holds : (bad : ℕ → Bool) (n x : ℕ) → x ≡ first_in bad 0 n → x < n → bad x ≡ true
holds bad n x e h = rw e (holds_from bad 0 n (omega (arith, e)))

-- and before it the test fails
before-seek : (bad : ℕ → Bool) (i k j : ℕ) → i + j < seek bad i k → bad (i + j) ≡ false
unfolding seek
before-seek bad i zero j h = absurd (omega arith)
before-seek bad i (suc k) j h = go (bad i) refl j h (λ l o. before-seek bad (suc i) k l o)
  where
    go : (b : Bool)
        → bad i ≡ b
        → (l : ℕ)
        → i + l < cond b i (seek bad (suc i) k)
        → ((m : ℕ) → suc i + m < seek bad (suc i) k → bad (suc i + m) ≡ false)
        → bad (i + l) ≡ false
    go true e l o ih = absurd (omega arith)
    go false e zero o ih = rw add-zero e
    go false e (suc l) o ih = rw (add-suc, ← suc-add) (ih l (omega arith))

pub before_from : (bad : ℕ → Bool) (from to j : ℕ) → from ≤ j → j < first_in bad from to → bad j ≡ false
unfolding first_in
before_from bad from to j l h =
    let at : from + (j - from) ≡ j = omega arith in
    rw at at (before-seek bad from (to - from) (j - from) (omega arith))

pub before : (bad : ℕ → Bool) (n x : ℕ) → x ≡ first_in bad 0 n → (j : ℕ) → j < x → bad j ≡ false
before bad n x e j h = before_from bad 0 n j (omega arith) (omega (arith, e))

-- ---- tests over a list, as searches

seek-next : (bad : ℕ → Bool) (i k : ℕ) → seek bad (suc i) k ≡ suc (seek (λ j. bad (suc j)) i k)
unfolding seek
seek-next bad i zero = refl
seek-next bad i (suc k) = go (bad (suc i)) (seek-next bad (suc i) k)
  where
    go : (b : Bool) → seek bad (suc (suc i)) k ≡ suc (seek (λ j. bad (suc j)) (suc i) k)
        → cond b (suc i) (seek bad (suc (suc i)) k) ≡ suc (cond b i (seek (λ j. bad (suc j)) (suc i) k))
    go true ih = refl
    go false ih = ih

some_first : (bad : ℕ → Bool) (n : ℕ) → some_in bad 0 (suc n) ≡ (bad 0 || some_in (λ i. bad (suc i)) 0 n)
unfolding first_in
some_first bad n = rw (sub-zero (suc n), sub-zero n) (go (bad 0))
  where
    go : (b : Bool) → ltb (cond b 0 (seek bad 1 n)) (suc n) ≡ (b || ltb (seek (λ i. bad (suc i)) 0 n) n)
    go true = lt-ltb 0 (suc n) (omega arith)
    go false = rw (seek-next bad 0 n, leb-suc-suc)

-- one index more at the end
pub some-last : (bad : ℕ → Bool) (n : ℕ) → some_in bad 0 (suc n) ≡ (some_in bad 0 n || bad n)
some-last bad zero =
    some_first bad 0
    ∙ ap (λ a. bad 0 || a) (none_at (λ i. bad (suc i)) 0 (λ i h. absurd (omega arith)))
    ∙ go (bad 0)
    ∙ ap (λ a. a || bad 0) (sym (none_at bad 0 (λ i h. absurd (omega arith))))
  where
    go : (b : Bool) → (b || false) ≡ b
    go true = refl
    go false = refl
some-last bad (suc n) =
    some_first bad (suc n)
    ∙ ap (λ a. bad 0 || a) (some-last (λ i. bad (suc i)) n)
    ∙ go (bad 0) (some_in (λ i. bad (suc i)) 0 n) (bad (suc n))
    ∙ ap (λ a. a || bad (suc n)) (sym (some_first bad n))
  where
    go : (a b c : Bool) → (a || (b || c)) ≡ ((a || b) || c)
    go true b c = refl
    go false b c = refl

module _ {A : Type 0} (p : A → Bool) (d : A) where
  pub any_search : (xs : List A) → any p xs ≡ some_in (λ i. p (get_or xs i d)) 0 (length xs)
  any_search [] = rw (done (λ i. p (get_or [] i d)) 0)
  any_search (x ∷ xs) = rw (some_first (λ i. p (get_or (x ∷ xs) i d)) (length xs)) (ap (λ b. p x || b) (any_search xs))

  pub all_search : (xs : List A) → all p xs ≡ not (some_in (λ i. not (p (get_or xs i d))) 0 (length xs))
  all_search [] = rw (done (λ i. not (p (get_or [] i d))) 0)
  all_search (x ∷ xs) = rw (some_first (λ i. not (p (get_or (x ∷ xs) i d))) (length xs), all_search xs) (go (p x) _)
    where
      go : (b c : Bool) → (b && not c) ≡ not (not b || c)
      go true c = refl
      go false c = refl
