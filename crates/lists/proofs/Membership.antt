-- Laws of members: of tests over them, of those that pass, of rearrangements, of lists without repetition, of the first numbers. Assumes nothing.
use mathlib.Core.Bool.{Bool, true, false, not, ◌&&◌, ◌||◌, cond}
use mathlib.Core.List.Memᴰ
use mathlib.Core.List.Permᴰ
use mathlib.Core.List.{List, [], ◌∷◌, ◌++◌, append-nil, map, Permᴰ}
use mathlib.Core.Logic.{◌⊎◌, inl, inr, ⊎_elim, ◌↔◌}
use mathlib.Core.Path.{◌≡◌, refl, sym, ap, ap₂, subst, ◌∙◌}
use Prim.Native.Nat.{ℕ, zero, suc, ◌+◌, ◌≤◌, ◌<◌}
use native.Mathlib.Numerals.{add-one}
use native.Mathlib.Omega.{arith}
use lib.ListN.{length, get_or, take, length-append}
use lib.Seq.{take-suc}
use lib.Dec.{T, T_not, eqb, eqb_refl, eqb→eq}
use Rattle.lists.specs.Members.{◌∈◌, any, all, those, distinct}
use Rattle.lists.specs.Tables.{upto, tab}
use Rattle.lists.proofs.Tests.{both, and_left, and_right, or_left, or_right, or_cases, or-false, by_test, decide, clash, eqb-sym, differ, unequal}

module _ {A : Type 0} where
  -- ---- tests over all members

  pub any_in : (p : A → Bool) {x : A} (xs : List A) → x ∈ xs → T (p x) → T (any p xs)
  any_in p [] x3 t = elim x3 [ ]
  any_in p (y ∷ ys) (Memᴰ.head e) t = or_left (p y) _ (subst (λ (z : A). T (p z)) e t)
  any_in p (y ∷ ys) (Memᴰ.tail m) t = or_right (p y) _ (any_in p ys m t)

  pub any_out : (p : A → Bool) (xs : List A) → T (any p xs) → (x : A) × (x ∈ xs) × T (p x)
  any_out p [] t = elim t [ ]
  any_out p (y ∷ ys) t = go (or_cases (p y) _ t) (λ (u : T (any p ys)). any_out p ys u)
    where
      go : T (p y) ⊎ T (any p ys) → (T (any p ys) → (x : A) × (x ∈ ys) × T (p x)) → (x : A) × (x ∈ (y ∷ ys)) × T (p x)
      go (inl u) f = (y, Memᴰ.head refl, u)
      go (inr u) f = ((f u).0, Memᴰ.tail (f u).1, (f u).2)

  pub any_append : (p : A → Bool) (xs ys : List A) → any p (xs ++ ys) ≡ (any p xs || any p ys)
  any_append p [] ys = refl
  any_append p (x ∷ xs) ys = go (p x) (any_append p xs ys)
    where
      go : (b : Bool) → any p (xs ++ ys) ≡ (any p xs || any p ys) → (b || any p (xs ++ ys)) ≡ ((b || any p xs) || any p ys)
      go true e = refl
      go false e = e

  -- one more entry that may pass
  pub any_next : (p : A → Bool) (xs : List A) (j : ℕ) (d : A) → j < length xs → any p (take (j + 1) xs) ≡ (any p (take j xs) || p (get_or xs j d))
  any_next p xs j d h =
      rw (add-one, take-suc xs j d h)
      (any_append p (take j xs) (get_or xs j d ∷ []) ∙ ap (λ b. any p (take j xs) || b) (or-false (p (get_or xs j d))))

  pub all_in : (p : A → Bool) (xs : List A) → ((x : A) → x ∈ xs → T (p x)) → T (all p xs)
  all_in p [] f = tt
  all_in p (y ∷ ys) f = both (p y) _ (f y (Memᴰ.head refl)) (all_in p ys (λ x m. f x (Memᴰ.tail m)))

  pub all-out : (p : A → Bool) (xs : List A) → T (all p xs) → {x : A} → x ∈ xs → T (p x)
  all-out p [] t x4 = elim x4 [ ]
  all-out p (y ∷ ys) t (Memᴰ.head e) = subst (λ (z : A). T (p z)) (sym e) (and_left (p y) _ t)
  all-out p (y ∷ ys) t (Memᴰ.tail m) = all-out p ys (and_right (p y) _ t) m

  -- what stands at an index is a member
  pub get_or_in : (xs : List A) (k : ℕ) (d : A) → k < length xs → get_or xs k d ∈ xs
  get_or_in [] k d h = absurd (omega arith)
  get_or_in (x ∷ xs) zero d h = Memᴰ.head refl
  get_or_in (x ∷ xs) (suc k) d h = Memᴰ.tail (get_or_in xs k d (omega arith))

  -- and a member stands at some index
  pub in_at : (xs : List A) (d : A) {x : A} → x ∈ xs → (k : ℕ) × (k < length xs) × (x ≡ get_or xs k d)
  in_at [] d x3 = elim x3 [ ]
  in_at (y ∷ ys) d (Memᴰ.head e) = (0, omega arith, e)
  in_at (y ∷ ys) d (Memᴰ.tail m) = let w = in_at ys d m in (suc w.0, omega (arith, w.1), w.2)

  -- ---- those that pass

  -- they are members that pass, and all such
  pub those-out : (p : A → Bool) (xs : List A) {x : A} → x ∈ those p xs → (x ∈ xs) × T (p x)
  those-out p [] = λ m. elim m [ ]
  those-out p (y ∷ ys) {x} =
      by_test
      (λ l. x ∈ l → (x ∈ (y ∷ ys)) × T (p x))
      (p y)
      (λ t m. ⊎_elim (λ e. (Memᴰ.head e, subst (λ (z : A). T (p z)) (sym e) t)) (λ n. (Memᴰ.tail (those-out p ys n).0, (those-out p ys n).1)) (Memᴰ.cases_cons m))
      (λ t n. (Memᴰ.tail (those-out p ys n).0, (those-out p ys n).1))

  pub those_in : (p : A → Bool) (xs : List A) {x : A} → x ∈ xs → T (p x) → x ∈ those p xs
  those_in p [] {x = x} x4 t = elim x4 [ ]
  those_in p (y ∷ ys) {x} (Memᴰ.head e) t =
      by_test (λ l. x ∈ l) (p y) (λ u. Memᴰ.head e) (λ u. absurd (T_not (p y) u (subst (λ (z : A). T (p z)) e t)))
  those_in p (y ∷ ys) {x} (Memᴰ.tail m) t =
      by_test (λ l. x ∈ l) (p y) (λ u. Memᴰ.tail (those_in p ys m t)) (λ u. those_in p ys m t)

  pub those-all : (p : A → Bool) (xs : List A) → ((x : A) → x ∈ xs → T (p x)) → those p xs ≡ xs
  those-all p [] f = refl
  those-all p (y ∷ ys) f =
      by_test
      (λ l. l ≡ y ∷ ys)
      (p y)
      (λ u. ap (λ l. y ∷ l) (those-all p ys (λ x m. f x (Memᴰ.tail m))))
      (λ u. absurd (T_not (p y) u (f y (Memᴰ.head refl))))

  pub those_none : (p : A → Bool) (xs : List A) → ((x : A) → x ∈ xs → T (not (p x))) → those p xs ≡ []
  those_none p [] f = refl
  those_none p (y ∷ ys) f =
      by_test
      (λ l. l ≡ [])
      (p y)
      (λ u. absurd (T_not (p y) (f y (Memᴰ.head refl)) u))
      (λ u. those_none p ys (λ x m. f x (Memᴰ.tail m)))

  pub those_shorter : (p : A → Bool) (xs : List A) → length (those p xs) ≤ length xs
  those_shorter p [] = omega arith
  those_shorter p (y ∷ ys) =
      let below = those_shorter p ys in
      by_test (λ l. length l ≤ suc (length ys)) (p y) (λ u. omega arith) (λ u. omega arith)

  pub those_fewer : (p : A → Bool) (xs : List A) {x : A} → x ∈ xs → T (not (p x)) → suc (length (those p xs)) ≤ length xs
  those_fewer p [] x4 t = elim x4 [ ]
  those_fewer p (y ∷ ys) (Memᴰ.head e) t =
      let below = those_shorter p ys in
      by_test (λ l. suc (length l) ≤ suc (length ys)) (p y) (λ u. absurd (T_not (p y) (rw e at t) u)) (λ u. omega arith)
  those_fewer p (y ∷ ys) (Memᴰ.tail m) t =
      let below = those_fewer p ys m t in
      by_test (λ l. suc (length l) ≤ suc (length ys)) (p y) (λ u. omega arith) (λ u. omega arith)

  -- those that pass two tests, taken one after the other
  pub those-those : (p q r : A → Bool) (xs : List A) → ((x : A) → T (p x) ↔ (T (q x) × T (r x))) → those p xs ≡ those r (those q xs)
  those-those p q r [] h = refl
  those-those p q r (x ∷ xs) h =
      let below = those-those p q r xs h in
      by_test
      (λ l. those p (x ∷ xs) ≡ those r l)
      (q x)
      (λ tq. by_test
      (λ l. those p (x ∷ xs) ≡ l)
      (r x)
      (λ tr. by_test (λ l. l ≡ x ∷ those r (those q xs)) (p x) (λ tp. ap (λ l. x ∷ l) below) (λ np. absurd (T_not (p x) np ((h x).1 (tq, tr)))))
      (λ nr. by_test (λ l. l ≡ those r (those q xs)) (p x) (λ tp. absurd (T_not (r x) nr ((h x).0 tp).1)) (λ np. below)))
      (λ nq. by_test (λ l. l ≡ those r (those q xs)) (p x) (λ tp. absurd (T_not (q x) nq ((h x).0 tp).0)) (λ np. below))

  pub those-append : (p : A → Bool) (xs ys : List A) → those p (xs ++ ys) ≡ those p xs ++ those p ys
  those-append p [] ys = refl
  those-append p (x ∷ xs) ys =
      let below = those-append p xs ys in
      by_test
      (λ l. those p (x ∷ xs ++ ys) ≡ l ++ those p ys)
      (p x)
      (λ t. by_test (λ l. l ≡ x ∷ those p xs ++ those p ys) (p x) (λ u. ap (λ l. x ∷ l) below) (λ u. absurd (T_not (p x) u t)))
      (λ t. by_test (λ l. l ≡ those p xs ++ those p ys) (p x) (λ u. absurd (T_not (p x) t u)) (λ u. below))

  -- those that pass and those that do not are all
  pub those_parted : (p q : A → Bool) (xs : List A) → ((x : A) → q x ≡ not (p x)) → Permᴰ xs (those p xs ++ those q xs)
  those_parted p q [] h = Permᴰ.nil
  those_parted p q (x ∷ xs) h = go (p x) (q x) (h x) (those_parted p q xs h)
    where
      go : (b c : Bool) → c ≡ not b → Permᴰ xs (those p xs ++ those q xs) → Permᴰ (x ∷ xs) (cond b (x ∷ those p xs) (those p xs) ++ cond c (x ∷ those q xs) (those q xs))
      go true true e below = absurd (clash e)
      go true false e below = Permᴰ.cons refl below
      go false true e below = Permᴰ.trans (Permᴰ.cons refl below) (Permᴰ.symm (Permᴰ.middle x (those p xs) (those q xs)))
      go false false e below = absurd (clash (sym e))

  -- two tests that agree on the members
  pub any_same : (p q : A → Bool) (xs : List A) → ((x : A) → x ∈ xs → p x ≡ q x) → any p xs ≡ any q xs
  any_same p q [] h = refl
  any_same p q (x ∷ xs) h = ap₂ (λ a b. a || b) (h x (Memᴰ.head refl)) (any_same p q xs (λ y m. h y (Memᴰ.tail m)))

  pub all_same : (p q : A → Bool) (xs : List A) → ((x : A) → x ∈ xs → p x ≡ q x) → all p xs ≡ all q xs
  all_same p q [] h = refl
  all_same p q (x ∷ xs) h = ap₂ (λ a b. a && b) (h x (Memᴰ.head refl)) (all_same p q xs (λ y m. h y (Memᴰ.tail m)))

  pub those-same : (p q : A → Bool) (xs : List A) → ((x : A) → x ∈ xs → p x ≡ q x) → those p xs ≡ those q xs
  those-same p q [] h = refl
  those-same p q (x ∷ xs) h = ap₂ (λ b l. cond b (x ∷ l) l) (h x (Memᴰ.head refl)) (those-same p q xs (λ y m. h y (Memᴰ.tail m)))

  -- ---- rearrangements

  -- what stands in a list stands in each rearrangement of it, and the two are of one length
  pub perm_in : {xs ys : List A} → Permᴰ xs ys → {x : A} → x ∈ xs → x ∈ ys
  perm_in Permᴰ.nil m = m
  perm_in (Permᴰ.cons e p) (Memᴰ.head q) = Memᴰ.head (q ∙ e)
  perm_in (Permᴰ.cons e p) (Memᴰ.tail m) = Memᴰ.tail (perm_in p m)
  perm_in (Permᴰ.swap e f) (Memᴰ.head q) = Memᴰ.tail (Memᴰ.head (q ∙ e))
  perm_in (Permᴰ.swap e f) (Memᴰ.tail (Memᴰ.head q)) = Memᴰ.head (q ∙ f)
  perm_in (Permᴰ.swap e f) (Memᴰ.tail (Memᴰ.tail m)) = Memᴰ.tail (Memᴰ.tail m)
  perm_in (Permᴰ.trans p q) m = perm_in q (perm_in p m)

  pub perm-length : {xs ys : List A} → Permᴰ xs ys → length xs ≡ length ys
  perm-length Permᴰ.nil = refl
  perm-length (Permᴰ.cons e p) = ap suc (perm-length p)
  perm-length (Permᴰ.swap e f) = refl
  perm-length (Permᴰ.trans p q) = perm-length p ∙ perm-length q

  pub perm-eq : {xs ys : List A} → xs ≡ ys → Permᴰ xs ys
  perm-eq {xs} e = subst (λ (l : List A). Permᴰ xs l) e (Permᴰ.refl xs)

-- ---- members relabelled

module _ {A B : Type 0} (f : A → B) where
  pub any-map : (p : B → Bool) (xs : List A) → any p (map f xs) ≡ any (λ x. p (f x)) xs
  any-map p [] = refl
  any-map p (x ∷ xs) = ap (λ b. p (f x) || b) (any-map p xs)

  pub all_map : (p : B → Bool) (xs : List A) → all p (map f xs) ≡ all (λ x. p (f x)) xs
  all_map p [] = refl
  all_map p (x ∷ xs) = ap (λ b. p (f x) && b) (all_map p xs)

  pub those-map : (p : B → Bool) (xs : List A) → those p (map f xs) ≡ map f (those (λ x. p (f x)) xs)
  those-map p [] = refl
  those-map p (x ∷ xs) =
      let below = those-map p xs in
      by_test
      (λ l. those p (f x ∷ map f xs) ≡ map f l)
      (p (f x))
      (λ t. by_test (λ l. l ≡ f x ∷ map f (those (λ x. p (f x)) xs)) (p (f x)) (λ u. ap (λ l. f x ∷ l) below) (λ u. absurd (T_not (p (f x)) u t)))
      (λ t. by_test (λ l. l ≡ map f (those (λ x. p (f x)) xs)) (p (f x)) (λ u. absurd (T_not (p (f x)) t u)) (λ u. below))

  -- a member of a relabelled list is the new label of a member
  pub map-out : (xs : List A) {y : B} → y ∈ map f xs → (x : A) × (x ∈ xs) × (y ≡ f x)
  map-out [] {y = y} x' = elim x' [ ]
  map-out (x ∷ xs) (Memᴰ.head e) = (x, Memᴰ.head refl, e)
  map-out (x ∷ xs) (Memᴰ.tail m) = let w = map-out xs m in (w.0, Memᴰ.tail w.1, w.2)

  pub map_in : (xs : List A) {x : A} → x ∈ xs → f x ∈ map f xs
  map_in [] x3 = elim x3 [ ]
  map_in (y ∷ ys) (Memᴰ.head e) = Memᴰ.head (ap f e)
  map_in (y ∷ ys) (Memᴰ.tail m) = Memᴰ.tail (map_in ys m)

module _ {A B : Type 0} (f g : A → B) where
  pub map_same : (xs : List A) → ((x : A) → x ∈ xs → f x ≡ g x) → map f xs ≡ map g xs
  map_same [] h = refl
  map_same (x ∷ xs) h =
      ap₂ (λ y l. y ∷ l) (h x (Memᴰ.head refl)) (map_same xs (λ y m. h y (Memᴰ.tail m)))

-- the test whether a number is one of a list
pub one_of : (i : ℕ) (is : List ℕ) → T (any (eqb i) is) ↔ (i ∈ is)
one_of i is = (
  λ t. let w = any_out (eqb i) is t in subst (λ (j : ℕ). j ∈ is) (sym (eqb→eq i w.0 w.2)) w.1,
  λ m. any_in (eqb i) is m (eqb_refl i),
)

-- ---- lists without repetition

pub apart : (i : ℕ) (is : List ℕ) → T (distinct (i ∷ is)) → {j : ℕ} → j ∈ is → T (not (eqb i j))
unfolding distinct
apart i is d m = all-out (λ j. not (eqb i j)) is (and_left (all (λ j. not (eqb i j)) is) _ d) m

pub rest : (i : ℕ) (is : List ℕ) → T (distinct (i ∷ is)) → T (distinct is)
unfolding distinct
rest i is d = and_right (all (λ j. not (eqb i j)) is) _ d

pub make : (i : ℕ) (is : List ℕ) → ((j : ℕ) → j ∈ is → T (not (eqb i j))) → T (distinct is) → T (distinct (i ∷ is))
unfolding distinct
make i is f d = both (all (λ j. not (eqb i j)) is) _ (all_in (λ j. not (eqb i j)) is f) d

-- two places of it hold two numbers
pub distinct-at : (is : List ℕ) → T (distinct is) → (i j : ℕ) → i < j → j < length is → get_or is i 0 ≡ get_or is j 0 → ⊥
distinct-at [] d i j h l = absurd (omega arith)
distinct-at (x ∷ is) d i zero h l = absurd (omega arith)
distinct-at (x ∷ is) d zero (suc j) h l = differ x (get_or is j 0) (apart x is d (get_or_in is j 0 (omega arith)))
distinct-at (x ∷ is) d (suc i) (suc j) h l = distinct-at is (rest x is d) i j (omega arith) (omega arith)

-- a rearrangement repeats nothing either
pub perm-distinct : {is js : List ℕ} → Permᴰ is js → T (distinct is) → T (distinct js)
perm-distinct Permᴰ.nil d = d
perm-distinct (Permᴰ.cons {a = a} {b = b} {l₁ = l} {l₂ = m} e p) d =
    make b m
    (λ x k. rw e at (apart a l d (perm_in (Permᴰ.symm p) k)))
    (perm-distinct p (rest a l d))
perm-distinct (Permᴰ.swap {a = a} {b = b} {l = l} e f) d =
    rw (← f, ← e)
    (make b (a ∷ l)
    (λ x m. ⊎_elim
    (λ q. rw q (eqb-sym a b (apart a (b ∷ l) d (Memᴰ.head refl))))
    (λ n. apart b l (rest a (b ∷ l) d) n)
    (Memᴰ.cases_cons m))
    (make a l (λ x m. apart a (b ∷ l) d (Memᴰ.tail m)) (rest b l (rest a (b ∷ l) d))))
perm-distinct (Permᴰ.trans p q) d = perm-distinct q (perm-distinct p d)

pub distinct-those : (p : ℕ → Bool) (is : List ℕ) → T (distinct is) → T (distinct (those p is))
distinct-those p [] d = d
distinct-those p (i ∷ is) d =
    by_test
    (λ l. T (distinct l))
    (p i)
    (λ u. make i (those p is) (λ x m. apart i is d (those-out p is m).0) (distinct-those p is (rest i is d)))
    (λ u. distinct-those p is (rest i is d))

-- one more at the end
pub distinct-last : (is : List ℕ) (m : ℕ) → T (distinct is) → ((j : ℕ) → j ∈ is → T (not (eqb j m))) → T (distinct (is ++ (m ∷ [])))
unfolding distinct
distinct-last [] m d f = tt
distinct-last (i ∷ is) m d f =
    make i (is ++ (m ∷ []))
    (λ x n. ⊎_elim
    (λ k. apart i is d k)
    (λ k. let e : x ≡ m = Memᴰ.eq_of_singleton k in rw e (f i (Memᴰ.head refl)))
    (Memᴰ.append_cases is n))
    (distinct-last is m (rest i is d) (λ j k. f j (Memᴰ.tail k)))

-- ---- the first numbers

pub upto_below : (m : ℕ) {i : ℕ} → i ∈ upto m → i < m
unfolding tab
upto_below zero h = absurd (Memᴰ.not-nil h)
upto_below (suc m) h =
    ⊎_elim
    (λ n. omega (arith, upto_below m n))
    (λ n. omega (arith, Memᴰ.eq_of_singleton n))
    (Memᴰ.append_cases (upto m) h)

pub upto_all : (m i : ℕ) → i < m → i ∈ upto m
unfolding tab
upto_all zero i h = absurd (omega arith)
upto_all (suc m) i h =
    ⊎_elim
    (λ t. Memᴰ.append_right (upto m) (Memᴰ.head (eqb→eq i m t)))
    (λ t. Memᴰ.append_left (m ∷ []) (upto_all m i (omega (arith, differ i m t))))
    (decide (eqb i m))

pub upto-distinct : (m : ℕ) → T (distinct (upto m))
unfolding tab distinct
upto-distinct zero = tt
upto-distinct (suc m) = distinct-last (upto m) m (upto-distinct m) (λ j k. unequal j m (λ e. absurd (omega (arith, upto_below m k))))

pub upto-length : (m : ℕ) → length (upto m) ≡ m
unfolding tab
upto-length zero = refl
upto-length (suc m) = simp length-append (let e = upto-length m in omega arith)

-- those of the first numbers, with one number more
pub those_upto_in : (p : ℕ → Bool) (m : ℕ) → p m ≡ true → those p (upto (m + 1)) ≡ those p (upto m) ++ (m ∷ [])
unfolding tab
those_upto_in p m e = rw (add-one, those-append p (upto m) (m ∷ []), e)

pub those-upto-out : (p : ℕ → Bool) (m : ℕ) → p m ≡ false → those p (upto (m + 1)) ≡ those p (upto m)
unfolding tab
those-upto-out p m e = rw (add-one, those-append p (upto m) (m ∷ []), e, append-nil)
