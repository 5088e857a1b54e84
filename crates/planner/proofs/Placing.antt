-- The order list is filled from the front: what is known at each turn, and why its front ends as the schedule. Assumes nothing.
use mathlib.Core.Path.{◌≡◌, refl, sym, ap, ap₂, ◌∙◌}
use mathlib.Core.Bool.{Bool, false, not, ◌&&◌}
use mathlib.Core.List.{List, [], ◌++◌, append_assoc, append-nil, map}
use Prim.Native.Nat.{ℕ, ◌+◌, ◌^◌, ◌≤◌, ◌<◌}
use native.Mathlib.Numerals.{add-one}
use native.Mathlib.Omega.{arith}
use lib.Dec.{eqb}
use lib.ListN.{length, take, drop, set, length-set, take-append-drop}
use lib.Seq.{take-suc-set, drop-set-lt, drop-drop}
use Rattle.lists.proofs.Tests.{clash, is_true, of_true, no_true}
use Rattle.lists.specs.Tables.{upto}
use Rattle.lists.proofs.Membership.{those_none}
use Rattle.orders.specs.Chain.{cyclic}
use Rattle.orders.specs.Arrange.{without, arrange, schedule}
use Rattle.orders.specs.Walk.{Next}
use Rattle.orders.proofs.Chains.{cyclic_alike}
use Rattle.orders.proofs.Arranged.{without_sub}
use Rattle.orders.proofs.Placed.{schedule-next}
use Rattle.sets.specs.Set.{member, members}
use Rattle.sets.proofs.Laws.{none, within, size_less}
use Rattle.sets.proofs.Listed.{listed-size, listed-without}
use Rattle.planner.proofs.Candidates.{holds}

-- the first k entries, and then the pages of those left in schedule order, are the pages of the kept in schedule order; what lies behind is as it was
pub record Placing (before : ℕ → ℕ → Bool) (page : ℕ → ℕ) (kept : ℕ) (old new : List ℕ) (left k : ℕ) : Type 0 where
  pub small : left < 2 ^ 64
  pub long : length new ≡ length old
  pub count : k + length (members left 64) ≡ length (members kept 64)
  pub acyclic : cyclic before (members left 64) ≡ false
  pub front : take k new ++ map page (schedule before (λ x. x) (members left 64)) ≡ map page (schedule before (λ x. x) (members kept 64))
  pub rest : drop k new ≡ drop k old

module _ (before : ℕ → ℕ → Bool) (page : ℕ → ℕ) (kept : ℕ) (old : List ℕ) where
  pub begins : kept < 2 ^ 64 → cyclic before (members kept 64) ≡ false → Placing before page kept old old kept 0
  begins h e = record { small = h; long = refl; count = omega arith; acyclic = e; front = refl; rest = refl }

  module _
      (new : List ℕ) (left k p left' : ℕ) (inv : Placing before page kept old new left k) (here : Next before (member left) p)
      (w : (j : ℕ) → member left' j ≡ (member left j && not (eqb p j))) where
    fewer : length (members left 64) ≡ length (members left' 64) + 1
    fewer =
        listed-size left 64
        ∙ size_less left left' p 64 here.free.isin (within 64 left p inv.small here.free.isin) w
        ∙ ap (λ n. n + 1) (sym (listed-size left' 64))

    list : members left' 64 ≡ without p (members left 64)
    unfolding without
    list = listed-without left left' p 64 w

    pub room : length (members kept 64) ≤ length old → k < length new
    room h = omega (arith, fewer, inv.count, inv.long)

    front' : k < length new → take (k + 1) (set new k (page p)) ++ map page (schedule before (λ x. x) (members left' 64)) ≡ map page (schedule before (λ x. x) (members kept 64))
    front' h =
        rw (add-one, take-suc-set new k (page p) h, append_assoc, list)
        (ap (λ l. take k new ++ map page l) (sym (schedule-next before (holds left inv.small) p here)) ∙ inv.front)

    acyclic' : cyclic before (members left' 64) ≡ false
    acyclic' =
        no_true (cyclic before (members left' 64))
        (λ e. clash
        (sym (is_true (cyclic before (members left 64))
        (cyclic_alike before (without p (members left 64)) (members left 64) (λ x m. without_sub p (members left 64) m) (rw list at (of_true (cyclic before (members left' 64)) e))))
        ∙ inv.acyclic))

    pub turns : left' < 2 ^ 64 → k < length new → Placing before page kept old (set new k (page p)) left' (k + 1)
    turns s h = record {
      small = s;
      long = length-set new k (page p) ∙ inv.long;
      count = omega (arith, fewer, inv.count);
      acyclic = acyclic';
      front = front' h;
      rest = drop-set-lt (k + 1) new k (page p) (omega arith) ∙ sym (drop-drop 1 k new) ∙ ap (λ l. drop 1 l) inv.rest ∙ drop-drop 1 k old;
    }

  -- none is left
  module _ (new : List ℕ) (k : ℕ) (inv : Placing before page kept old new 0 k) where
    empty : members 0 64 ≡ []
    empty = those_none (member 0) (upto 64) (λ x m. of_true (not (member 0 x)) (ap not (none x)))

    pub all : k ≡ length (members kept 64)
    all = omega (arith, ap length empty, inv.count)

    pub ends : new ≡ map page (schedule before (λ x. x) (members kept 64)) ++ drop k old
    unfolding schedule arrange
    ends =
        let last : take k new ++ [] ≡ map page (schedule before (λ x. x) (members kept 64)) = rw empty at inv.front in
        let first : take k new ≡ map page (schedule before (λ x. x) (members kept 64)) = sym (append-nil (take k new)) ∙ last in
        sym (take-append-drop k new) ∙ ap₂ (λ a b. a ++ b) first inv.rest
