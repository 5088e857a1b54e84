-- The steps of a plan joined: ranks stand for pages, sets for lists, so that what the steps leave is what document 01 says. Assumes nothing.
use mathlib.Core.Path.{◌≡◌, refl, sym, ap, ap₂, ◌∙◌}
use mathlib.Core.Bool.{Bool, false, not}
use mathlib.Core.List.Memᴰ
use mathlib.Core.List.Permᴰ
use mathlib.Core.List.{List, [], ◌∷◌, ◌++◌, map, map-append, Permᴰ}
use mathlib.Core.Logic.{⊎_elim}
use Prim.Native.Nat.{ℕ, zero, suc, ◌^◌, ◌≤◌, ◌<◌}
use native.Mathlib.Omega.{arith}
use lib.Dec.{T, eqb, ltb, nltb→le}
use lib.ListN.{length, get_or, take, drop, length-take, length-map, get_or-append}
use lib.Seq.{take-suc, get_or-take, take_at}
use Rattle.lists.specs.Members.{◌∈◌, any, all, those, distinct}
use Rattle.lists.specs.Tables.{upto, tab}
use Rattle.lists.proofs.Tests.{both, and_left, and_right, of_true, no_true, same_test}
use Rattle.lists.proofs.Membership.{any_in, any_out, all_in, all-out, get_or_in, those-out, those_shorter, map-out}
use Rattle.lists.proofs.Membership.{perm_in, perm-length, distinct-at, perm-distinct, distinct-those}
use Rattle.lists.proofs.Membership.{upto_below, upto-distinct, upto-length}
use Rattle.orders.specs.Chain.{ordered, cyclic, Cycle}
use Rattle.orders.specs.Walk.{Lists}
use Rattle.orders.specs.Admission.{admit}
use Rattle.orders.specs.Arrange.{by_ticket, schedule, free, Tickets}
use Rattle.orders.proofs.Chains.{cyclic_cycle, cyclic_alike}
use Rattle.orders.proofs.Admitted.{admit_from, admit_shorter, admit_acyclic, admit-distinct}
use Rattle.orders.proofs.Arranged.{arrange-sub, by_ticket-perm, by_ticket_rises, by_ticket_unique, schedule-order}
use Rattle.orders.proofs.Placed.{schedule-held}
use Rattle.orders.proofs.Relabelled.{admit-map, schedule_ranks}
use Rattle.sets.specs.Set.{member, members}
use Rattle.planner.specs.Ranks.{nth}
use Rattle.planner.proofs.Candidates.{holds, no_cycle}

-- ---- lists by index

map-nth : (xs : List ℕ) (c : ℕ) → c ≤ length xs → map (nth xs) (upto c) ≡ take c xs
unfolding tab
map-nth xs zero h = refl
map-nth xs (suc c) h = map-append (nth xs) (upto c) (c ∷ []) ∙ ap (λ l. l ++ (nth xs c ∷ [])) (map-nth xs c (omega arith)) ∙ sym (take-suc xs c 0 (omega arith))

ordered_at : (R : ℕ → ℕ → Bool) (os : List ℕ) (i j : ℕ) → i < j → j < length os → T (ordered R os) → T (not (R (get_or os j 0) (get_or os i 0)))
unfolding ordered
ordered_at R [] i j h l t = absurd (omega arith)
ordered_at R (o ∷ os) zero zero h l t = absurd (omega arith)
ordered_at R (o ∷ os) zero (suc j) h l t = all-out (λ a. not (R a o)) os (and_left (all (λ a. not (R a o)) os) _ t) (get_or_in os j 0 (omega arith))
ordered_at R (o ∷ os) (suc i) zero h l t = absurd (omega arith)
ordered_at R (o ∷ os) (suc i) (suc j) h l t = ordered_at R os i j (omega arith) (omega arith) (and_right (all (λ a. not (R a o)) os) _ t)

ordered_same : (R S : ℕ → ℕ → Bool) (os : List ℕ) → ((x y : ℕ) → x ∈ os → y ∈ os → R x y ≡ S x y) → T (ordered R os) → T (ordered S os)
unfolding ordered
ordered_same R S [] h t = tt
ordered_same R S (o ∷ os) h t =
    both (all (λ a. not (S a o)) os) _
    (all_in (λ a. not (S a o)) os (λ x m. rw (← h x o (Memᴰ.tail m) (Memᴰ.head refl)) (all-out (λ a. not (R a o)) os (and_left (all (λ a. not (R a o)) os) _ t) m)))
    (ordered_same R S os (λ x y m n. h x y (Memᴰ.tail m) (Memᴰ.tail n)) (and_right (all (λ a. not (R a o)) os) _ t))

any-perm : (p : ℕ → Bool) (xs ys : List ℕ) → Permᴰ xs ys → any p xs ≡ any p ys
any-perm p xs ys q =
    same_test (any p xs) (any p ys)
    (λ t. let w = any_out p xs t in any_in p ys (perm_in q w.1) w.2)
    (λ t. let w = any_out p ys t in any_in p xs (perm_in (Permᴰ.symm q) w.1) w.2)

-- ---- ranks stand for pages

-- no two of the pages below m have one ticket, also as the tickets are held
pub one-ticket :
    (t u : ℕ → ℕ) (K : ℕ → Bool) (m : ℕ) → ((i : ℕ) → i < m → u i ≡ t i) → ((i j : ℕ) → j < i → i < m → t j ≡ t i → ⊥) →
    Tickets u (those K (upto m))
one-ticket t u K m same apart x y j k e = omega (arith, up x y j k e, up y x k j (sym e))
  where
    up : (x y : ℕ) → x ∈ those K (upto m) → y ∈ those K (upto m) → u x ≡ u y → x < y → ⊥
    up x y j k e h =
        let lx = upto_below m (those-out K (upto m) j).0 in
        let ly = upto_below m (those-out K (upto m) k).0 in
        apart y x h ly (sym (same x lx) ∙ e ∙ same y ly)

-- the first c entries are the pages below m that pass a test, in strictly rising ticket order
pub record Lined (t : ℕ → ℕ) (K : ℕ → Bool) (m : ℕ) (pages : List ℕ) (c : ℕ) : Type 0 where
  pub few : c ≤ m
  pub low : (r : ℕ) → r < c → nth pages r < m
  pub rises : (r s : ℕ) → r < s → s < c → t (nth pages r) < t (nth pages s)
  pub line : map (nth pages) (upto c) ≡ by_ticket t (those K (upto m))

module _
    (t u : ℕ → ℕ) (K : ℕ → Bool) (m : ℕ) (pages : List ℕ) (c : ℕ)
    (same : (i : ℕ) → i < m → u i ≡ t i) (apart : (i j : ℕ) → j < i → i < m → t j ≡ t i → ⊥)
    (count : c ≡ length (those K (upto m))) (front : take c pages ≡ by_ticket u (those K (upto m))) where
  once : T (distinct (those K (upto m)))
  once = distinct-those K (upto m) (upto-distinct m)

  perm : Permᴰ (those K (upto m)) (take c pages)
  perm = rw front (by_ticket-perm u (those K (upto m)) once)

  long : c ≤ length pages
  long = omega (arith, perm-length perm, length-take c pages)

  inside : {x : ℕ} → x ∈ take c pages → x < m
  inside i = upto_below m (those-out K (upto m) (perm_in (Permᴰ.symm perm) i)).0

  at : (r : ℕ) → r < c → nth pages r ∈ take c pages
  at r h = rw (← get_or-take c pages r 0 h) (get_or_in (take c pages) r 0 (omega (arith, long, length-take c pages)))

  risen : T (ordered (λ j i. ltb (t j) (t i)) (take c pages))
  risen =
      ordered_same (λ j i. ltb (u j) (u i)) (λ j i. ltb (t j) (t i)) (take c pages)
      (λ x y j k. ap₂ ltb (same x (inside j)) (same y (inside k)))
      (rw front (by_ticket_rises u (those K (upto m))))

  higher : (r s : ℕ) → r < s → s < c → t (nth pages r) < t (nth pages s)
  higher r s h l =
      let size : length (take c pages) ≡ c = omega (arith, long, length-take c pages) in
      let er = get_or-take c pages r 0 (omega arith) in
      let es = get_or-take c pages s 0 l in
      let up : t (nth pages r) ≤ t (nth pages s) =
      nltb→le (t (nth pages s)) (t (nth pages r)) (rw (er, es) at (ordered_at (λ j i. ltb (t j) (t i)) (take c pages) r s h (omega arith) risen)) in
      let other : t (nth pages r) ≡ t (nth pages s) → ⊥ =
      λ e. distinct-at (take c pages) (perm-distinct perm once) r s h (omega arith)
      (er ∙ one-ticket t t K m (λ i l. refl) apart _ _ (perm_in (Permᴰ.symm perm) (at r (omega arith))) (perm_in (Permᴰ.symm perm) (at s l)) e ∙ sym es) in
      omega arith

  pub lined : Lined t K m pages c
  lined = record {
    few = omega (arith, those_shorter K (upto m), upto-length m);
    low = λ r h. inside (at r h);
    rises = higher;
    line = map-nth pages c long ∙ sym (by_ticket_unique t (those K (upto m)) (take c pages) once (one-ticket t t K m (λ i l. refl) apart) perm risen);
  }

-- different ranks have different pages
pub lined_different : (t : ℕ → ℕ) (K : ℕ → Bool) (m : ℕ) (pages : List ℕ) (c : ℕ) → Lined t K m pages c → (r s : ℕ) → r < c → s < c → nth pages r ≡ nth pages s → r ≡ s
lined_different t K m pages c l r s h k e = omega (arith, up r s k e, up s r h (sym e))
  where
    up : (x y : ℕ) → y < c → nth pages x ≡ nth pages y → x < y → ⊥
    up x y h e b = let f = ap t e in absurd (omega (arith, l.rises x y b h))

-- ---- a set stands for the list of the kept

module _ (E : ℕ → ℕ → Bool) (c kept : ℕ) (small : kept < 2 ^ 64) (held : Lists (member kept) (admit E [] (upto c))) where
  listed : Lists (member kept) (members kept 64)
  listed = holds kept small

  none : Cycle E (admit E [] (upto c)) → ⊥
  none = admit_acyclic E [] (upto c) (λ k. Memᴰ.not-nil k.member)

  pub kept_acyclic : cyclic E (members kept 64) ≡ false
  kept_acyclic =
      no_true (cyclic E (members kept 64))
      (λ e. none ((cyclic_cycle E (admit E [] (upto c))).0
      (cyclic_alike E (members kept 64) (admit E [] (upto c)) (λ x m. held.listed x (listed.held x m)) (of_true (cyclic E (members kept 64)) e))))

  pub kept_same : schedule E (λ x. x) (members kept 64) ≡ schedule E (λ x. x) (admit E [] (upto c))
  kept_same = schedule-held E listed held

  -- as many are placed as are kept, and no more than there are ranks
  pub kept_long : length (schedule E (λ x. x) (members kept 64)) ≡ length (members kept 64)
  kept_long = sym (perm-length (schedule-order E (λ x. x) (members kept 64) (distinct-those (member kept) (upto 64) (upto-distinct 64)) (no_cycle E (members kept 64) kept_acyclic)).all_once)

  distinct-kept : T (distinct (admit E [] (upto c)))
  unfolding distinct
  distinct-kept = admit-distinct E [] (upto c) tt (upto-distinct c) (λ x y m n. absurd (Memᴰ.not-nil n))

  pub kept-few : length (members kept 64) ≤ c
  kept-few =
      omega (
        arith,
        kept_long,
        ap length kept_same,
        perm-length (schedule-order E (λ x. x) (admit E [] (upto c)) distinct-kept none).all_once,
        admit_shorter E [] (upto c),
        upto-length c,
      )

  below : {x : ℕ} → x ∈ admit E [] (upto c) → x < c
  below m = ⊎_elim (λ n. absurd (Memᴰ.not-nil n)) (λ n. upto_below c n) (admit_from E [] (upto c) m)

  pub kept_below : {x : ℕ} → x ∈ schedule E (λ x. x) (members kept 64) → x < c
  unfolding schedule
  kept_below {x} m = below (held.listed x (listed.held x (arrange-sub (λ x. x) (free E) (length (members kept 64)) (members kept 64) m)))

  module _
      (before : ℕ → ℕ → Bool) (t : ℕ → ℕ) (K : ℕ → Bool) (m : ℕ) (pages : List ℕ) (l : Lined t K m pages c)
      (agree : (r s : ℕ) → r < c → s < c → E r s ≡ before (nth pages r) (nth pages s)) where
    -- the pages of the scheduled ranks are the schedule of the kept pages
    pub order_is : map (nth pages) (schedule E (λ x. x) (members kept 64)) ≡ schedule before t (admit before [] (by_ticket t (those K (upto m))))
    order_is =
        ap (map (nth pages)) kept_same
        ∙ sym (schedule_ranks (nth pages) t (admit E [] (upto c)) (λ r s i j h. l.rises r s h (below j)) E before (λ r s i j. agree r s (below i) (below j)))
        ∙ ap (schedule before t)
        (sym (admit-map (nth pages) (upto c) E before (λ r s i j. agree r s (upto_below c i) (upto_below c j)) [] (upto c) (λ x i. absurd (Memᴰ.not-nil i)) (λ x i. i)) ∙ ap (admit before []) l.line)

-- ---- what the order list holds

module _
    (E : ℕ → ℕ → Bool) (c kept : ℕ) (small : kept < 2 ^ 64) (held : Lists (member kept) (admit E [] (upto c)))
    (t : ℕ → ℕ) (K : ℕ → Bool) (m : ℕ) (pages : List ℕ) (l : Lined t K m pages c)
    (k : ℕ) (old new : List ℕ) (count : k ≡ length (members kept 64)) (filled : new ≡ map (nth pages) (schedule E (λ x. x) (members kept 64)) ++ drop k old) where
  pub filled_many : length (map (nth pages) (schedule E (λ x. x) (members kept 64))) ≡ k
  filled_many = length-map (schedule E (λ x. x) (members kept 64)) (nth pages) ∙ kept_long E c kept small held ∙ sym count

  pub filled_front : take k new ≡ map (nth pages) (schedule E (λ x. x) (members kept 64))
  filled_front = ap (take k) filled ∙ take_at (map (nth pages) (schedule E (λ x. x) (members kept 64))) (drop k old) k filled_many

  pub filled-low : (j : ℕ) → j < k → get_or new j 0 < m
  filled-low j h =
      let one = map-out (nth pages) (schedule E (λ x. x) (members kept 64)) (get_or_in (map (nth pages) (schedule E (λ x. x) (members kept 64))) j 0 (omega (arith, filled_many))) in
      let same : get_or new j 0 ≡ nth pages one.0 =
      ap (λ l. get_or l j 0) filled ∙ get_or-append (map (nth pages) (schedule E (λ x. x) (members kept 64))) (drop k old) 0 j (omega (arith, filled_many)) ∙ one.2 in
      rw same (l.low one.0 (kept_below E c kept small held one.1))

-- the scheduled are the kept
pub scheduled : (before : ℕ → ℕ → Bool) (t : ℕ → ℕ) (seq : List ℕ) → T (distinct seq) → (i : ℕ) → any (eqb i) (schedule before t (admit before [] seq)) ≡ any (eqb i) (admit before [] seq)
unfolding distinct
scheduled before t seq d i =
    sym (any-perm (eqb i) (admit before [] seq) (schedule before t (admit before [] seq))
    (schedule-order before t (admit before [] seq) (admit-distinct before [] seq tt d (λ x y m n. absurd (Memᴰ.not-nil n))) (admit_acyclic before [] seq (λ k. Memᴰ.not-nil k.member))).all_once)
