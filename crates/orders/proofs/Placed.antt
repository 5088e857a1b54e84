-- The schedule over labels that are ranks, one turn after the other: K holds those not yet placed. Assumes nothing.
use mathlib.Core.Path.{◌≡◌, ap, ◌∙◌}
use mathlib.Core.Bool.{Bool, true, not}
use mathlib.Core.List.Memᴰ
use mathlib.Core.List.{List, [], ◌∷◌}
use Prim.Native.Nat.{ℕ, suc, ◌+◌, ◌-◌, ◌≤◌, ◌<◌}
use native.Mathlib.Omega.{arith}
use lib.ListN.{length}
use lib.Dec.{T}
use Rattle.lists.specs.Members.{◌∈◌}
use Rattle.lists.proofs.Tests.{is_false, of_true}
use Rattle.lists.proofs.Membership.{all_in, all-out}
use Rattle.orders.specs.Chain.{Cycle}
use Rattle.orders.specs.Arrange.{without, free, schedule}
use Rattle.orders.specs.Walk.{Lists, Free, Next}
use Rattle.orders.proofs.Chains.{free_one}
use Rattle.orders.proofs.Arranged.{schedule_alike, arrange-next, arrange_fuel, without_shorter}

module _ (before : ℕ → ℕ → Bool) {K : ℕ → Bool} {is : List ℕ} (h : Lists K is) where
  -- who is free in K is free among those not yet placed, and the other way round
  free_in : {p : ℕ} → Free before K p → (p ∈ is) × T (free before is p)
  unfolding free
  free_in {p} f = (h.listed p f.isin, all_in (λ j. not (before j p)) is (λ x m. of_true (not (before x p)) (ap not (f.clear x (h.held x m)))))

  in_free : {p : ℕ} → p ∈ is → T (free before is p) → Free before K p
  unfolding free
  in_free {p} m t = record { isin = h.held p m; clear = λ q k. is_false (before q p) (all-out (λ j. not (before j p)) is t (h.listed q k)) }

  -- the lowest that is free comes next
  pub schedule-next : (p : ℕ) → Next before K p → schedule before (λ x. x) is ≡ p ∷ schedule before (λ x. x) (without p is)
  unfolding schedule
  schedule-next p s =
      let w = free_in s.free in
      let fewer = without_shorter p is w.0 in
      let rest = without p is in
      let n = length rest in
      let e : length is ≡ suc (n + (length is - suc n)) = omega arith in
      rw e
      (arrange-next (λ x. x) (free before) (n + (length is - suc n)) is p (λ x y i j q. q) w.0 w.1 (λ y m t. below y (in_free m t))
      ∙ ap (λ l. p ∷ l) (arrange_fuel (λ x. x) (free before) (length is - suc n) rest))
    where
      below : (y : ℕ) → Free before K y → p ≤ y
      below y f = let out : y < p → ⊥ = λ l. s.least y l f in omega arith

-- the schedule of what K holds, however listed
pub schedule-held : (before : ℕ → ℕ → Bool) {K : ℕ → Bool} {is js : List ℕ} → Lists K is → Lists K js → schedule before (λ x. x) is ≡ schedule before (λ x. x) js
schedule-held before {is = is} {js = js} h k = schedule_alike before (λ x. x) is js (λ x. (λ m. k.listed x (h.held x m), λ m. h.listed x (k.held x m))) (λ x y i j q. q)

-- where there is no cycle, some one in K is free as long as any is in it
pub some_free_in : (before : ℕ → ℕ → Bool) (K : ℕ → Bool) (is : List ℕ) → Lists K is → (Cycle before is → ⊥) → (i : ℕ) → K i ≡ true → (p : ℕ) × Free before K p
some_free_in before K [] h f i e = absurd (Memᴰ.not-nil (h.listed i e))
some_free_in before K (j ∷ js) h f i e =
    let w = free_one before j js f in
    (w.0, record { isin = h.held w.0 w.1; clear = λ q k. is_false (before q w.0) (all-out (λ x. not (before x w.0)) (j ∷ js) w.2 (h.listed q k)) })
