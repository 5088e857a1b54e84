-- Laws of chains and cycles: the test for a cycle finds it, a forward order has none, and where there is none some one is free. Assumes nothing.
use mathlib.Core.Bool.{Bool, not, ◌&&◌}
use mathlib.Core.List.Memᴰ
use mathlib.Core.List.{List, [], ◌∷◌, ◌++◌}
use mathlib.Core.Logic.{◌⊎◌, inl, inr, ⊎_elim, ◌↔◌}
use mathlib.Core.Path.{◌≡◌, refl, ap, subst}
use lib.Dec.{T, T_not, not_T}
use Rattle.lists.specs.Members.{◌∈◌, any, all, those}
use Rattle.lists.proofs.Tests.{both, and_left, and_right, or_left, or_right, or_cases, by_test, decide}
use Rattle.lists.proofs.Membership.{any_in, any_out, all_in, all-out, those-out}
use Rattle.orders.specs.Chain.{joined, cyclic, Chain, Chain.one, Chain.more, Cycle, ordered}

module _ {A : Type 0} (before : A → A → Bool) where
  pub chain_mono : {ks ls : List A} → ((x : A) → x ∈ ks → x ∈ ls) → {b a : A} → Chain before ks b a → Chain before ls b a
  chain_mono f (one e) = one e
  chain_mono f (more {c = c} e m p) = more e (f c m) (chain_mono f p)

  pub chain-append : {ks : List A} {k b a : A} → Chain before ks k a → k ∈ ks → Chain before ks b k → Chain before ks b a
  chain-append (one e) m q = more e m q
  chain-append (more e n p) m q = more e n (chain-append p m q)

  pub joined-chain : (ks : List A) (a b : A) → T (joined before ks a b) → Chain before ks b a
  unfolding joined
  joined-chain [] a b t = one t
  joined-chain (k ∷ ks) a b t =
      ⊎_elim
      (λ u. up (joined-chain ks a b u))
      (λ u. chain-append
      (up (joined-chain ks a k (and_left (joined before ks a k) _ u)))
      (Memᴰ.head refl)
      (up (joined-chain ks k b (and_right (joined before ks a k) _ u))))
      (or_cases (joined before ks a b) _ t)
    where
      up : {x y : A} → Chain before ks y x → Chain before (k ∷ ks) y x
      up = chain_mono (λ x m. Memᴰ.tail m)

  joined-one : (ks : List A) (a b : A) → T (before a b) → T (joined before ks a b)
  unfolding joined
  joined-one [] a b t = t
  joined-one (k ∷ ks) a b t = or_left (joined before ks a b) _ (joined-one ks a b t)

  joined_split : (k : A) (ks : List A) (a b : A) → T (joined before (k ∷ ks) a b) → T (joined before ks a b) ⊎ (T (joined before ks a k) × T (joined before ks k b))
  unfolding joined
  joined_split k ks a b t = ⊎_elim inl (λ u. inr (and_left (joined before ks a k) _ u, and_right (joined before ks a k) _ u)) (or_cases (joined before ks a b) _ t)

  -- into and out of the newest member nothing new leads
  into : (k : A) (ks : List A) (a : A) → T (joined before (k ∷ ks) a k) → T (joined before ks a k)
  unfolding joined
  into k ks a t = ⊎_elim (λ u. u) (λ u. and_left (joined before ks a k) _ u) (or_cases (joined before ks a k) _ t)

  out_of : (k : A) (ks : List A) (b : A) → T (joined before (k ∷ ks) k b) → T (joined before ks k b)
  unfolding joined
  out_of k ks b t = ⊎_elim (λ u. u) (λ u. and_right (joined before ks k k) _ u) (or_cases (joined before ks k b) _ t)

  through : (k : A) (ks : List A) (a b : A) → T (joined before ks a k) → T (joined before ks k b) → T (joined before (k ∷ ks) a b)
  unfolding joined
  through k ks a b t u = or_right (joined before ks a b) _ (both (joined before ks a k) _ t u)

  pub joined_trans : (ks : List A) (a c b : A) → c ∈ ks → T (joined before ks a c) → T (joined before ks c b) → T (joined before ks a b)
  unfolding joined
  joined_trans [] a c b x3 t u = elim x3 [ ]
  joined_trans (k ∷ ks) a c b (Memᴰ.head e) t u =
      through k ks a b
      (into k ks a (subst (λ (x : A). T (joined before (k ∷ ks) a x)) e t))
      (out_of k ks b (subst (λ (x : A). T (joined before (k ∷ ks) x b)) e u))
  joined_trans (k ∷ ks) a c b (Memᴰ.tail m) t u =
      go (or_cases (joined before ks a c) _ t) (or_cases (joined before ks c b) _ u) (λ x y. joined_trans ks x c y m)
    where
      go :
          T (joined before ks a c) ⊎ T (joined before ks a k && joined before ks k c) →
          T (joined before ks c b) ⊎ T (joined before ks c k && joined before ks k b) →
          ((x y : A) → T (joined before ks x c) → T (joined before ks c y) → T (joined before ks x y)) →
          T (joined before (k ∷ ks) a b)
      go (inl p) (inl q) f = or_left (joined before ks a b) _ (f a b p q)
      go (inl p) (inr q) f = through k ks a b (f a k p (and_left (joined before ks c k) _ q)) (and_right (joined before ks c k) _ q)
      go (inr p) (inl q) f = through k ks a b (and_left (joined before ks a k) _ p) (f k b (and_right (joined before ks a k) _ p) q)
      go (inr p) (inr q) f = through k ks a b (and_left (joined before ks a k) _ p) (and_right (joined before ks c k) _ q)

  pub chain-joined : {ks : List A} {b a : A} → Chain before ks b a → T (joined before ks a b)
  chain-joined {ks} {b = b} (one {a = a} e) = joined-one ks a b e
  chain-joined {ks} {b = b} (more {a = a} {c = c} e m p) = joined_trans ks a c b m (joined-one ks a c e) (chain-joined p)

  -- the test finds a cycle exactly where there is one
  pub cyclic_cycle : (ts : List A) → T (cyclic before ts) ↔ Cycle before ts
  unfolding cyclic
  cyclic_cycle ts = (found, λ c. any_in (λ t. joined before ts t t) ts c.member (chain-joined c.chain))
    where
      found : T (any (λ t. joined before ts t t) ts) → Cycle before ts
      found t = let w = any_out (λ t. joined before ts t t) ts t in record { root = w.0; member = w.1; chain = joined-chain ts w.0 w.0 w.2 }

  -- a cycle among some is one among more
  pub cycle_mono : {ks ls : List A} → ((x : A) → x ∈ ks → x ∈ ls) → Cycle before ks → Cycle before ls
  cycle_mono f c = record { root = c.root; member = f c.root c.member; chain = chain_mono f c.chain }

  -- said of places: no one that stands later must stand before b
  pub ordered_means : (os : List A) → T (ordered before os) ↔ ((xs : List A) (b : A) (ys : List A) → os ≡ xs ++ b ∷ ys → (a : A) → a ∈ ys → T (not (before a b)))
  unfolding ordered
  ordered_means os = (λ t xs b ys e a m. there xs b ys (rw e at t) m, back os)
    where
      there : (xs : List A) (b : A) (ys : List A) → T (ordered before (xs ++ b ∷ ys)) → {a : A} → a ∈ ys → T (not (before a b))
      there [] b ys t m = all-out (λ a. not (before a b)) ys (and_left (all (λ a. not (before a b)) ys) _ t) m
      there (x ∷ xs) b ys t m = there xs b ys (and_right (all (λ a. not (before a x)) (xs ++ b ∷ ys)) _ t) m

      back : (l : List A) → ((xs : List A) (b : A) (ys : List A) → l ≡ xs ++ b ∷ ys → (a : A) → a ∈ ys → T (not (before a b))) → T (ordered before l)
      back [] f = tt
      back (b ∷ l) f = both (all (λ a. not (before a b)) l) _ (all_in (λ a. not (before a b)) l (f [] b l refl)) (back l (λ xs c ys e. f (b ∷ xs) c ys (ap (λ z. b ∷ z) e)))

  -- some of an order are one
  pub ordered-those : (p : A → Bool) (os : List A) → T (ordered before os) → T (ordered before (those p os))
  unfolding ordered
  ordered-those p [] t = tt
  ordered-those p (b ∷ os) t =
      let first = and_left (all (λ a. not (before a b)) os) _ t in
      let below = ordered-those p os (and_right (all (λ a. not (before a b)) os) _ t) in
      by_test
      (λ l. T (ordered before l))
      (p b)
      (λ u. both (all (λ a. not (before a b)) (those p os)) _ (all_in (λ a. not (before a b)) (those p os) (λ x m. all-out (λ a. not (before a b)) os first (those-out p os m).0)) below)
      (λ u. below)

  -- two orders, one behind the other, where no one of the second must stand before one of the first
  pub ordered-append : (xs ys : List A) → T (ordered before xs) → T (ordered before ys) → ((x y : A) → x ∈ xs → y ∈ ys → T (not (before y x))) → T (ordered before (xs ++ ys))
  unfolding ordered
  ordered-append [] ys t u f = u
  ordered-append (b ∷ xs) ys t u f =
      let first = and_left (all (λ a. not (before a b)) xs) _ t in
      both (all (λ a. not (before a b)) (xs ++ ys)) _
      (all_in (λ a. not (before a b)) (xs ++ ys) (λ x m. ⊎_elim (λ k. all-out (λ a. not (before a b)) xs first k) (λ k. f b x (Memᴰ.head refl) k) (Memᴰ.append_cases xs m)))
      (ordered-append xs ys (and_right (all (λ a. not (before a b)) xs) _ t) u (λ x y m k. f x y (Memᴰ.tail m) k))

  -- no one need stand before those in front of it
  pub ordered_front : (xs : List A) (b : A) (ys : List A) → T (ordered before (xs ++ b ∷ ys)) → {x : A} → x ∈ xs → T (not (before b x))
  unfolding ordered
  ordered_front [] b ys t x4 = elim x4 [ ]
  ordered_front (x ∷ xs) b ys t (Memᴰ.head e) =
      rw e (all-out (λ a. not (before a x)) (xs ++ b ∷ ys) (and_left (all (λ a. not (before a x)) (xs ++ b ∷ ys)) _ t) (Memᴰ.append_right xs (Memᴰ.head refl)))
  ordered_front (x ∷ xs) b ys t (Memᴰ.tail m) = ordered_front xs b ys (and_right (all (λ a. not (before a x)) (xs ++ b ∷ ys)) _ t) m

  module _ (irr : (a : A) → T (not (before a a))) where
    module _ (b : A) (os : List A) (first : T (all (λ a. not (before a b)) os)) where
      -- no one here must stand before the first
      none_before : {a : A} → a ∈ (b ∷ os) → T (before a b) → ⊥
      none_before {a} (Memᴰ.head e) t = T_not (before a b) (subst (λ (x : A). T (not (before a x))) e (irr a)) t
      none_before {a} (Memᴰ.tail m) t = T_not (before a b) (all-out (λ x. not (before x b)) os first m) t

      no_chain_to_first : {a : A} → a ∈ (b ∷ os) → Chain before (b ∷ os) b a → ⊥
      no_chain_to_first m (one e) = none_before m e
      no_chain_to_first m (more e n p) = no_chain_to_first n p

      past_first : {c a : A} → a ∈ (b ∷ os) → Chain before (b ∷ os) c a → Chain before os c a
      past_first m (one e) = one e
      past_first {c} {a} m (more {c = d} e n p) = go n (past_first n p)
        where
          go : d ∈ (b ∷ os) → Chain before os c d → Chain before os c a
          go (Memᴰ.head q) rest = absurd (none_before m (subst (λ (x : A). T (before a x)) q e))
          go (Memᴰ.tail k) rest = more e k rest

    -- an order without a demand that goes back has no cycle
    pub ordered_acyclic : (os : List A) → T (ordered before os) → Cycle before os → ⊥
    unfolding ordered
    ordered_acyclic [] t c = elim c.member [ ]
    ordered_acyclic (b ∷ os) t c = go c.member (λ d. ordered_acyclic os (and_right (all (λ a. not (before a b)) os) _ t) d)
      where
        first : T (all (λ a. not (before a b)) os)
        first = and_left (all (λ a. not (before a b)) os) _ t

        go : c.root ∈ (b ∷ os) → (Cycle before os → ⊥) → ⊥
        go (Memᴰ.head e) f = no_chain_to_first b os first c.member (subst (λ (x : A). Chain before (b ∷ os) x c.root) e c.chain)
        go (Memᴰ.tail m) f = f (record { root = c.root; member = m; chain = past_first b os first c.member c.chain })

  -- where there is no cycle, some one has no one that leads to it
  module _ (ts : List A) (acyclic : Cycle before ts → ⊥) where
    not_self : (x t : A) → t ∈ ts → x ≡ t → T (joined before ts x t) → ⊥
    not_self x t m e j = acyclic (record { root = t; member = m; chain = joined-chain ts t t (subst (λ (y : A). T (joined before ts y t)) e j) })

    pub source :
        (t : A) (us : List A) →
        ((x : A) → x ∈ (t ∷ us) → x ∈ ts) →
        (m : A) × (m ∈ (t ∷ us)) × ((x : A) → x ∈ (t ∷ us) → T (joined before ts x m) → ⊥)
    source t [] sub = (t, Memᴰ.head refl, λ x n j. not_self x t (sub t (Memᴰ.head refl)) (only n) j)
      where
        only : {x : A} → x ∈ (t ∷ []) → x ≡ t
        only (Memᴰ.head e) = e
        only (Memᴰ.tail n) = elim n [ ]
    source t (u ∷ us) sub = go (source u us (λ x n. sub x (Memᴰ.tail n)))
      where
        t_in : t ∈ ts
        t_in = sub t (Memᴰ.head refl)

        go :
            (m : A) × (m ∈ (u ∷ us)) × ((x : A) → x ∈ (u ∷ us) → T (joined before ts x m) → ⊥) →
            (m : A) × (m ∈ (t ∷ u ∷ us)) × ((x : A) → x ∈ (t ∷ u ∷ us) → T (joined before ts x m) → ⊥)
        go w = ⊎_elim take leave (decide (joined before ts t w.0))
          where
            take : T (joined before ts t w.0) → (m : A) × (m ∈ (t ∷ u ∷ us)) × ((x : A) → x ∈ (t ∷ u ∷ us) → T (joined before ts x m) → ⊥)
            take j = (
              t,
              Memᴰ.head refl,
              λ x n i.
                  ⊎_elim
                  (λ e. not_self x t t_in e i)
                  (λ k. w.2 x k (joined_trans ts x t w.0 t_in i j))
                  (Memᴰ.cases_cons n),
            )

            leave : T (not (joined before ts t w.0)) → (m : A) × (m ∈ (t ∷ u ∷ us)) × ((x : A) → x ∈ (t ∷ u ∷ us) → T (joined before ts x m) → ⊥)
            leave j = (
              w.0,
              Memᴰ.tail w.1,
              λ x n i.
                  ⊎_elim
                  (λ e. T_not (joined before ts t w.0) j (subst (λ (y : A). T (joined before ts y w.0)) e i))
                  (λ k. w.2 x k i)
                  (Memᴰ.cases_cons n),
            )

  -- so no one must stand directly before it either
  pub free_one : (t : A) (us : List A) → (Cycle before (t ∷ us) → ⊥) → (m : A) × (m ∈ (t ∷ us)) × T (all (λ x. not (before x m)) (t ∷ us))
  free_one t us c =
      let w = source (t ∷ us) c t us (λ x n. n) in
      (w.0, w.1, all_in (λ x. not (before x w.0)) (t ∷ us) (λ x n. not_T (before x w.0) (λ q. w.2 x n (joined-one (t ∷ us) x w.0 q))))

  -- where ks has no cycle, one more makes one exactly where it leads to itself by way of ks
  pub cyclic_new : (k : A) (ks : List A) → (Cycle before ks → ⊥) → T (cyclic before (k ∷ ks)) ↔ T (joined before ks k k)
  cyclic_new k ks f = (λ t. there ((cyclic_cycle (k ∷ ks)).0 t), λ t. (cyclic_cycle (k ∷ ks)).1 (back t))
    where
      back : T (joined before ks k k) → Cycle before (k ∷ ks)
      back t = record { root = k; member = Memᴰ.head refl; chain = chain_mono (λ x m. Memᴰ.tail m) (joined-chain ks k k t) }

      there : Cycle before (k ∷ ks) → T (joined before ks k k)
      there c =
          ⊎_elim
          (λ e. out_of k ks k (subst (λ (x : A). T (joined before (k ∷ ks) x x)) e (chain-joined c.chain)))
          (λ m.
          ⊎_elim
          (λ t. absurd (f (record { root = c.root; member = m; chain = joined-chain ks c.root c.root t })))
          (λ t. joined_trans ks k c.root k m t.1 t.0)
          (joined_split k ks c.root c.root (chain-joined c.chain)))
          (Memᴰ.cases_cons c.member)

  -- lists with the same members have a cycle together
  pub cyclic_alike : (ks ls : List A) → ((x : A) → x ∈ ks → x ∈ ls) → T (cyclic before ks) → T (cyclic before ls)
  cyclic_alike ks ls f t = (cyclic_cycle ls).1 (cycle_mono f ((cyclic_cycle ks).0 t))
