-- Laws of relabelling: where r stands for the page f r, what is kept and scheduled of the labels stands for what is kept and scheduled of the pages. Assumes nothing.
use mathlib.Core.Bool.{Bool, true, false, not, ◌&&◌, ◌||◌, cond}
use mathlib.Core.List.Memᴰ
use mathlib.Core.List.{List, [], ◌∷◌, map}
use mathlib.Core.Logic.{⊎_elim}
use mathlib.Core.Path.{◌≡◌, refl, sym, ap, ap₂, ◌∙◌}
use Prim.Native.Nat.{ℕ, zero, suc, ◌<◌, ◌≤◌}
use native.Mathlib.Nat.{eq-or-lt_of_le}
use native.Mathlib.Omega.{arith}
use lib.ListN.{length, length-map}
use lib.Dec.{T, eqb, eqb_refl, eqb→eq, ltb, ltb→lt, lt→ltb, nltb→le}
use Rattle.lists.specs.Members.{◌∈◌, those}
use Rattle.lists.proofs.Tests.{decide, same_test}
use Rattle.lists.proofs.Membership.{any-map, any_same, all_map, all_same, those-map, those-same, those-out}
use Rattle.orders.specs.Chain.{joined, cyclic}
use Rattle.orders.specs.Admission.{admit}
use Rattle.orders.specs.Arrange.{lowest, without, arrange, free, schedule}
use Rattle.orders.proofs.Arranged.{taken_in, without_sub}

-- every member of ks is one of us
abbrev pub Within : List ℕ → List ℕ → Type 0
Within us ks = (x : ℕ) → x ∈ ks → x ∈ us

-- E says of labels in us what `before` says of their pages
abbrev pub Agree : (ℕ → ℕ) → List ℕ → (ℕ → ℕ → Bool) → (ℕ → ℕ → Bool) → Type 0
Agree f us E before = (r s : ℕ) → r ∈ us → s ∈ us → E r s ≡ before (f r) (f s)

module _ (f : ℕ → ℕ) (us : List ℕ) (E before : ℕ → ℕ → Bool) (agree : Agree f us E before) where
  joined-map : (ks : List ℕ) → Within us ks → (a b : ℕ) → a ∈ us → b ∈ us → joined before (map f ks) (f a) (f b) ≡ joined E ks a b
  unfolding joined
  joined-map [] w a b m n = sym (agree a b m n)
  joined-map (k ∷ ks) w a b m n =
      let at = w k (Memᴰ.head refl) in
      let below = joined-map ks (λ x i. w x (Memᴰ.tail i)) in
      ap₂ (λ p q. p || q) (below a b m n) (ap₂ (λ p q. p && q) (below a k m at) (below k b at n))

  cyclic-map : (ts : List ℕ) → Within us ts → cyclic before (map f ts) ≡ cyclic E ts
  unfolding cyclic
  cyclic-map ts w =
      any-map f (λ t. joined before (map f ts) t t) ts
      ∙ any_same (λ t. joined before (map f ts) (f t) (f t)) (λ t. joined E ts t t) ts (λ x m. joined-map ts w x x (w x m) (w x m))

  pub admit-map : (kept is : List ℕ) → Within us kept → Within us is → admit before (map f kept) (map f is) ≡ map f (admit E kept is)
  unfolding admit
  admit-map kept [] v w = refl
  admit-map kept (i ∷ is) v w =
      let v' : Within us (i ∷ kept) = λ x m. ⊎_elim (λ e. rw e (w i (Memᴰ.head refl))) (v x) (Memᴰ.cases_cons m) in
      let out = admit-map kept is v (λ x m. w x (Memᴰ.tail m)) in
      let in' = admit-map (i ∷ kept) is v' (λ x m. w x (Memᴰ.tail m)) in
      step (cyclic before (f i ∷ map f kept)) (cyclic E (i ∷ kept)) (cyclic-map (i ∷ kept) v') (admit E kept is) (admit E (i ∷ kept) is) out in'
    where
      step :
          (b c : Bool) → b ≡ c → {p q : List ℕ} (p' q' : List ℕ) → p ≡ map f p' → q ≡ map f q' →
          cond b p q ≡ map f (cond c p' q')
      step true true e p' q' x y = x
      step true false e p' q' x y = cc
      step false true e p' q' x y = cc
      step false false e p' q' x y = y

module _ (f : ℕ → ℕ) (us : List ℕ) (rank ticket : ℕ → ℕ)
    (injective : (r s : ℕ) → r ∈ us → s ∈ us → f r ≡ f s → r ≡ s)
    (rises : (r s : ℕ) → r ∈ us → s ∈ us → ltb (ticket (f r)) (ticket (f s)) ≡ ltb (rank r) (rank s)) where
  lowest-map : (i : ℕ) (js : List ℕ) → i ∈ us → Within us js → lowest ticket (f i) (map f js) ≡ f (lowest rank i js)
  unfolding lowest
  lowest-map i [] m w = refl
  lowest-map i (j ∷ js) m w =
      let n = w j (Memᴰ.head refl) in
      let v : Within us js = λ y l. w y (Memᴰ.tail l) in
      ap (λ b. lowest ticket (cond b (f j) (f i)) (map f js)) (rises j i n m)
      ∙ (step (ltb (rank j) (rank i)) (lowest-map j js n v) (lowest-map i js m v))
    where
      step :
          (b : Bool) → lowest ticket (f j) (map f js) ≡ f (lowest rank j js) → lowest ticket (f i) (map f js) ≡ f (lowest rank i js) →
          lowest ticket (cond b (f j) (f i)) (map f js) ≡ f (lowest rank (cond b j i) js)
      step true p q = p
      step false p q = q

  without-map : (i : ℕ) (is : List ℕ) → i ∈ us → Within us is → without (f i) (map f is) ≡ map f (without i is)
  unfolding without
  without-map i is m w =
      those-map f (λ j. not (eqb (f i) j)) is
      ∙ ap (map f) (those-same (λ j. not (eqb (f i) (f j))) (λ j. not (eqb i j)) is (λ j n. ap not (same j (w j n))))
    where
      same : (j : ℕ) → j ∈ us → eqb (f i) (f j) ≡ eqb i j
      same j n = same_test (eqb (f i) (f j)) (eqb i j) (λ t. let e = injective i j m n (eqb→eq (f i) (f j) t) in rw e (eqb_refl j)) (λ t. let e = eqb→eq i j t in rw e (eqb_refl (f j)))

  -- labels taken one after the other stand for pages taken so, where a label is ok as its page is
  pub arrange-map :
      (ok ok' : List ℕ → ℕ → Bool) →
      ((js : List ℕ) (x : ℕ) → Within us js → x ∈ us → ok (map f js) (f x) ≡ ok' js x) →
      (n : ℕ) (is : List ℕ) → Within us is →
      arrange ticket ok n (map f is) ≡ map f (arrange rank ok' n is)
  unfolding arrange
  arrange-map ok ok' h zero is w = refl
  arrange-map ok ok' h (suc n) is w = ap next chosen ∙ go (those (ok' is) is) refl (λ js. arrange-map ok ok' h n js)
    where
      next : List ℕ → List ℕ
      next l = elim l [ [] ↦ [] | g ∷ gs ↦ lowest ticket g gs ∷ arrange ticket ok n (without (lowest ticket g gs) (map f is)) ]

      chosen : those (ok (map f is)) (map f is) ≡ map f (those (ok' is) is)
      chosen =
          those-map f (ok (map f is)) is
          ∙ ap (map f) (those-same (λ x. ok (map f is) (f x)) (ok' is) is (λ x m. h is x w (w x m)))

      go :
          (l : List ℕ) → those (ok' is) is ≡ l →
          ((js : List ℕ) → Within us js → arrange ticket ok n (map f js) ≡ map f (arrange rank ok' n js)) →
          next (map f l) ≡ map f (elim l [ [] ↦ [] | g ∷ gs ↦ lowest rank g gs ∷ arrange rank ok' n (without (lowest rank g gs) is) ])
      go [] e below = refl
      go (g ∷ gs) e below =
          let x = lowest rank g gs in
          let here : Within us (g ∷ gs) = λ y m. w y (those-out (ok' is) is (rw e m)).0 in
          let m = w x (taken_in rank ok' is g gs e).0 in
          let first = lowest-map g gs (here g (Memᴰ.head refl)) (λ y k. here y (Memᴰ.tail k)) in
          rw (first, without-map x is m w)
          (ap (λ l. f x ∷ l) (below (without x is) (λ y k. w y (without_sub x is k))))

  module _ (E before : ℕ → ℕ → Bool) (agree : Agree f us E before) where
    pub schedule-map : (is : List ℕ) → Within us is → schedule before ticket (map f is) ≡ map f (schedule E rank is)
    unfolding schedule free
    schedule-map is w =
        rw (length-map is f)
        (arrange-map (free before) (free E)
        (λ js x v m. all_map f (λ j. not (before j (f x))) js ∙ all_same (λ j. not (before (f j) (f x))) (λ j. not (E j x)) js (λ y k. ap not (sym (agree y x (v y k) m))))
        (length is) is w)

-- ---- labels that are ranks: the higher of two has the page with the higher ticket

module _ (f ticket : ℕ → ℕ) (us : List ℕ) (rises : (r s : ℕ) → r ∈ us → s ∈ us → r < s → ticket (f r) < ticket (f s)) where
  rank_injective : (r s : ℕ) → r ∈ us → s ∈ us → f r ≡ f s → r ≡ s
  rank_injective r s m n e = omega (arith, up r s m n (ap ticket e), up s r n m (ap ticket (sym e)))
    where
      up : (x y : ℕ) → x ∈ us → y ∈ us → ticket (f x) ≡ ticket (f y) → x < y → ⊥
      up x y i j q l = absurd (omega (arith, rises x y i j l))

  rank_rises : (r s : ℕ) → r ∈ us → s ∈ us → ltb (ticket (f r)) (ticket (f s)) ≡ ltb r s
  rank_rises r s m n = same_test (ltb (ticket (f r)) (ticket (f s))) (ltb r s) there (λ t. lt→ltb (ticket (f r)) (ticket (f s)) (rises r s m n (ltb→lt r s t)))
    where
      there : T (ltb (ticket (f r)) (ticket (f s))) → T (ltb r s)
      there t = ⊎_elim (λ u. u) (λ u. absurd (back (ltb→lt (ticket (f r)) (ticket (f s)) t) (nltb→le r s u))) (decide (ltb r s))
        where
          back : ticket (f r) < ticket (f s) → s ≤ r → ⊥
          back l k = ⊎_elim (λ e. omega (arith, ap (λ x. ticket (f x)) e)) (λ h. omega (arith, rises s r n m h)) (eq-or-lt_of_le k)

  -- and their schedule, the lowest rank first, is their pages' schedule, the lowest ticket first
  pub schedule_ranks : (E before : ℕ → ℕ → Bool) → Agree f us E before → schedule before ticket (map f us) ≡ map f (schedule E (λ x. x) us)
  schedule_ranks E before agree = schedule-map f us (λ x. x) ticket rank_injective rank_rises E before agree us (λ x m. m)
