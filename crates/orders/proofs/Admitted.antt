-- Laws of admission: what is kept has no cycle, and what is thrown out closes one. Assumes nothing.
use mathlib.Core.Bool.{Bool, true, false, not, cond}
use mathlib.Core.List.Memᴰ
use mathlib.Core.List.{List, [], ◌∷◌, ◌++◌}
use mathlib.Core.Logic.{◌⊎◌, inl, inr, ⊎_elim}
use mathlib.Core.Path.{◌≡◌, refl, sym, ◌∙◌}
use Prim.Native.Nat.{ℕ, suc, ◌+◌, ◌≤◌}
use native.Mathlib.Omega.{arith}
use lib.ListN.{length}
use lib.Dec.{T, T_not, eqb}
use Rattle.lists.specs.Members.{◌∈◌, distinct}
use Rattle.lists.proofs.Tests.{by_test, eqb-sym}
use Rattle.lists.proofs.Membership.{apart, rest, make}
use Rattle.orders.specs.Chain.{cyclic, Cycle}
use Rattle.orders.specs.Admission.{admit}
use Rattle.orders.proofs.Chains.{cyclic_cycle, cycle_mono}

module _ (before : ℕ → ℕ → Bool) where
  -- a sequence in two parts, and one more at its end
  pub admit-append : (kept is js : List ℕ) → admit before kept (is ++ js) ≡ admit before (admit before kept is) js
  unfolding admit
  admit-append kept [] js = refl
  admit-append kept (i ∷ is) js = step (cyclic before (i ∷ kept)) (admit-append kept is js) (admit-append (i ∷ kept) is js)
    where
      step :
          (b : Bool) →
          admit before kept (is ++ js) ≡ admit before (admit before kept is) js →
          admit before (i ∷ kept) (is ++ js) ≡ admit before (admit before (i ∷ kept) is) js →
          cond b (admit before kept (is ++ js)) (admit before (i ∷ kept) (is ++ js)) ≡ admit before (cond b (admit before kept is) (admit before (i ∷ kept) is)) js
      step true p q = p
      step false p q = q

  pub admit-last : (kept is : List ℕ) (i : ℕ) → admit before kept (is ++ (i ∷ [])) ≡ cond (cyclic before (i ∷ admit before kept is)) (admit before kept is) (i ∷ admit before kept is)
  unfolding admit
  admit-last kept is i = admit-append kept is (i ∷ [])

  -- who is kept stays, and no one else comes in than those of the sequence
  pub admit_keeps : (kept is : List ℕ) {x : ℕ} → x ∈ kept → x ∈ admit before kept is
  unfolding admit
  admit_keeps kept [] m = m
  admit_keeps kept (i ∷ is) {x} m =
      by_test (λ l. x ∈ l) (cyclic before (i ∷ kept)) (λ c. admit_keeps kept is m) (λ c. admit_keeps (i ∷ kept) is (Memᴰ.tail m))

  pub admit_from : (kept is : List ℕ) {x : ℕ} → x ∈ admit before kept is → x ∈ kept ⊎ x ∈ is
  unfolding admit
  admit_from kept [] = inl
  admit_from kept (i ∷ is) {x} =
      by_test
      (λ l. x ∈ l → x ∈ kept ⊎ x ∈ (i ∷ is))
      (cyclic before (i ∷ kept))
      (λ c m. ⊎_elim inl (λ n. inr (Memᴰ.tail n)) (admit_from kept is m))
      (λ c m. ⊎_elim (λ n. ⊎_elim (λ e. inr (Memᴰ.head e)) inl (Memᴰ.cases_cons n)) (λ n. inr (Memᴰ.tail n)) (admit_from (i ∷ kept) is m))

  pub admit_shorter : (kept is : List ℕ) → length (admit before kept is) ≤ length kept + length is
  unfolding admit
  admit_shorter kept [] = omega arith
  admit_shorter kept (i ∷ is) =
      by_test (λ (l : List ℕ). length l ≤ length kept + suc (length is)) (cyclic before (i ∷ kept))
      (λ t. omega (arith, admit_shorter kept is))
      (λ t. omega (arith, admit_shorter (i ∷ kept) is))

  pub admit_acyclic : (kept is : List ℕ) → (Cycle before kept → ⊥) → Cycle before (admit before kept is) → ⊥
  unfolding admit
  admit_acyclic kept [] f = f
  admit_acyclic kept (i ∷ is) f =
      by_test
      (λ l. Cycle before l → ⊥)
      (cyclic before (i ∷ kept))
      (λ c. admit_acyclic kept is f)
      (λ c. admit_acyclic (i ∷ kept) is (λ k. T_not (cyclic before (i ∷ kept)) c ((cyclic_cycle before (i ∷ kept)).1 k)))

  pub admit-distinct : (kept is : List ℕ) → T (distinct kept) → T (distinct is) → ((x y : ℕ) → x ∈ is → y ∈ kept → T (not (eqb x y))) → T (distinct (admit before kept is))
  unfolding admit
  admit-distinct kept [] k d f = k
  admit-distinct kept (i ∷ is) k d f =
      by_test
      (λ l. T (distinct l))
      (cyclic before (i ∷ kept))
      (λ c. admit-distinct kept is k (rest i is d) (λ x y m n. f x y (Memᴰ.tail m) n))
      (λ c. admit-distinct (i ∷ kept) is (make i kept (λ y n. f i y (Memᴰ.head refl) n) k) (rest i is d)
      (λ x y m n. ⊎_elim
      (λ e. rw e (eqb-sym i x (apart i is d m)))
      (λ o. f x y (Memᴰ.tail m) o)
      (Memᴰ.cases_cons n)))

  -- who is not kept closes a cycle with the kept
  pub admit_rejects : (kept is : List ℕ) {x : ℕ} → x ∈ is → (x ∈ admit before kept is → ⊥) → Cycle before (x ∷ admit before kept is)
  unfolding admit
  admit_rejects kept [] {x = x} x3 = elim x3 [ ]
  admit_rejects kept (i ∷ is) {x} (Memᴰ.head e) =
      by_test
      (λ l. (x ∈ l → ⊥) → Cycle before (x ∷ l))
      (cyclic before (i ∷ kept))
      (λ c f. cycle_mono before {ks = i ∷ kept} (λ y m. ⊎_elim (λ q. Memᴰ.head (q ∙ sym e)) (λ n. Memᴰ.tail (admit_keeps kept is n)) (Memᴰ.cases_cons m)) ((cyclic_cycle before (i ∷ kept)).0 c))
      (λ c f. absurd (f (admit_keeps (i ∷ kept) is (Memᴰ.head e))))
  admit_rejects kept (i ∷ is) {x} (Memᴰ.tail m) =
      by_test
      (λ l. (x ∈ l → ⊥) → Cycle before (x ∷ l))
      (cyclic before (i ∷ kept))
      (λ c. admit_rejects kept is m)
      (λ c. admit_rejects (i ∷ kept) is m)
