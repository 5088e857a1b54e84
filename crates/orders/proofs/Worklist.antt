-- The search for a way from t back to t through a set, by a worklist: what is known at each turn, and why its answer is the test for a cycle. Assumes nothing.
use mathlib.Core.Path.{◌≡◌, sym, subst, ◌∙◌}
use mathlib.Core.Bool.{Bool, true, false, not, ◌&&◌, ◌||◌}
use mathlib.Core.List.Memᴰ
use mathlib.Core.List.{List, [], ◌∷◌, ◌++◌}
use mathlib.Core.Logic.{⊎_elim, ◌↔◌}
use Prim.Native.Nat.{ℕ}
use lib.Dec.{T, eqb, eqb_refl, eqb→eq}
use Rattle.lists.proofs.Tests.{is_true, of_true, clash, or_either, or-first, or_second, and_parts, and-whole, minus_none, no_true}
use Rattle.orders.specs.Chain.{joined, cyclic, Chain, Chain.one, Chain.more, Cycle}
use Rattle.orders.specs.Admission.{admit}
use Rattle.orders.specs.Walk.{Lists, Way, Way.last, Way.step}
use Rattle.orders.proofs.Chains.{joined-chain, chain-joined, cyclic_new}
use Rattle.orders.proofs.Admitted.{admit-last, admit_acyclic}

module _ (before : ℕ → ℕ → Bool) where
  -- ---- ways through a set are chains through its members

  way_chain : {K : ℕ → Bool} {ks : List ℕ} → Lists K ks → {a b : ℕ} → Way before K a b → Chain before ks b a
  way_chain h {a} {b} (last e) = one (of_true (before a b) e)
  way_chain h {a} (step {d = d} e k p) = more (of_true (before a d) e) (h.listed d k) (way_chain h p)

  chain_way : {K : ℕ → Bool} {ks : List ℕ} → Lists K ks → {b a : ℕ} → Chain before ks b a → Way before K a b
  chain_way h {b} {a} (one e) = last (is_true (before a b) e)
  chain_way h {a = a} (more {c = c} e m p) = step (is_true (before a c) e) (h.held c m) (chain_way h p)

  pub way_joined : {K : ℕ → Bool} {ks : List ℕ} → Lists K ks → (a b : ℕ) → Way before K a b ↔ T (joined before ks a b)
  way_joined {ks = ks} h a b = (λ p. chain-joined before (way_chain h p), λ t. chain_way h (joined-chain before ks a b t))

  -- where ks has no cycle, t and ks have one exactly where a way leads from t back to t
  pub way_cyclic : {K : ℕ → Bool} {ks : List ℕ} → Lists K ks → (Cycle before ks → ⊥) → (t : ℕ) → Way before K t t ↔ T (cyclic before (t ∷ ks))
  way_cyclic {ks = ks} h f t = (
    λ p. (cyclic_new before t ks f).1 ((way_joined h t t).0 p),
    λ c. (way_joined h t t).1 ((cyclic_new before t ks f).0 c),
  )

-- ---- the same ways, walked backwards: by the demands turned round

module _ (before : ℕ → ℕ → Bool) {K : ℕ → Bool} where
  way_last : {a d b : ℕ} → Way before K a d → K d ≡ true → before d b ≡ true → Way before K a b
  way_last (last e) k t = step e k (last t)
  way_last (step e l p) k t = step e l (way_last p k t)

module _ (before : ℕ → ℕ → Bool) {K : ℕ → Bool} where
  pub way_back : {a b : ℕ} → Way before K a b → Way (λ x y. before y x) K b a
  way_back (last e) = last e
  way_back (step e k p) = way_last (λ x y. before y x) (way_back p) k e

-- ---- the worklist

-- every way onward from what is reached is a way from t; t is reached; what is done does not demand t, and those in K that it demands are reached
pub record Reached (before : ℕ → ℕ → Bool) (K : ℕ → Bool) (t : ℕ) (reached done : ℕ → Bool) : Type 0 where
  pub from : (d : ℕ) → reached d ≡ true → Way before K d t → Way before K t t
  pub start : reached t ≡ true
  pub miss : (d : ℕ) → done d ≡ true → before d t ≡ false
  pub closed : (d e : ℕ) → done d ≡ true → before d e ≡ true → K e ≡ true → reached e ≡ true

module _ (before : ℕ → ℕ → Bool) (K : ℕ → Bool) (t : ℕ) where
  pub begins : (reached done : ℕ → Bool) → ((j : ℕ) → reached j ≡ eqb t j) → ((j : ℕ) → done j ≡ false) → Reached before K t reached done
  begins reached done r n = record {
    from = λ d e p. subst (λ (x : ℕ). Way before K x t → Way before K t t) (eqb→eq t d (of_true (eqb t d) (sym (r d) ∙ e))) (λ q. q) p;
    start = r t ∙ is_true (eqb t t) (eqb_refl t);
    miss = λ d e. absurd (clash (sym e ∙ n d));
    closed = λ d f e. absurd (clash (sym e ∙ n d));
  }

  -- one turn, at a d that is reached and does not demand t
  pub turns :
      (reached done : ℕ → Bool) (d : ℕ) (reached' done' : ℕ → Bool) → Reached before K t reached done → reached d ≡ true → before d t ≡ false →
      ((j : ℕ) → reached' j ≡ (reached j || (before d j && K j))) →
      ((j : ℕ) → done' j ≡ (done j || eqb d j)) →
      Reached before K t reached' done'
  turns reached done d reached' done' inv hd miss r s = record {
    from = λ e h p. ⊎_elim
        (λ w. inv.from e w p)
        (λ w. let b = and_parts (before d e) (K e) w in inv.from d hd (step b.0 b.1 p))
        (or_either (reached e) _ (sym (r e) ∙ h));
    start = r t ∙ or-first (reached t) _ inv.start;
    miss = λ e h. ⊎_elim
        (λ w. inv.miss e w)
        (λ w. subst (λ (x : ℕ). before x t ≡ false) (at d e w) miss)
        (or_either (done e) _ (sym (s e) ∙ h));
    closed = λ e f h b k. r f ∙ ⊎_elim
        (λ w. or-first (reached f) _ (inv.closed e f w b k))
        (λ w. or_second (reached f) _ (and-whole (before d f) (K f) (subst (λ (x : ℕ). before x f ≡ true) (sym (at d e w)) b) k))
        (or_either (done e) _ (sym (s e) ∙ h));
  }
    where
      at : (x y : ℕ) → eqb x y ≡ true → x ≡ y
      at x y e = eqb→eq x y (of_true (eqb x y) e)

  -- a d that is reached and demands t: a way leads back
  pub finds : (reached done : ℕ → Bool) (d : ℕ) → Reached before K t reached done → reached d ≡ true → before d t ≡ true → Way before K t t
  finds reached done d inv h e = inv.from d h (last e)

  -- all that is reached is done: none does
  module _ (reached done : ℕ → Bool) (inv : Reached before K t reached done) (all : (j : ℕ) → (reached j && not (done j)) ≡ false) where
    shut : (d : ℕ) → reached d ≡ true → Way before K d t → ⊥
    shut d h (last e) = clash (sym e ∙ inv.miss d (minus_none (reached d) (done d) (all d) h))
    shut d h (step {d = f} e k p) = shut f (inv.closed d f (minus_none (reached d) (done d) (all d) h) e k) p

    pub ends : Way before K t t → ⊥
    ends p = shut t inv.start p

-- a way from t back to t begins with a demand of t on itself or on one in K: none where nobody in K awaits t
pub unawaited : (before : ℕ → ℕ → Bool) (K awaited : ℕ → Bool) (t : ℕ) → ((d : ℕ) → K d ≡ true → before t d ≡ true → awaited t ≡ true) → (awaited t || before t t) ≡ false → Way before K t t → ⊥
unawaited before K awaited t f e (last h) = clash (sym (or_second (awaited t) _ h) ∙ e)
unawaited before K awaited t f e (step {d = d} h k p) = clash (sym (or-first (awaited t) _ (f d k h)) ∙ e)

-- t comes to K, and those that must stand before it to the awaited
pub awaits_more : (before : ℕ → ℕ → Bool) (K K' W W' : ℕ → Bool) (t : ℕ) → ((j d : ℕ) → K d ≡ true → before j d ≡ true → W j ≡ true)
    → ((j : ℕ) → K' j ≡ (K j || eqb t j)) → ((j : ℕ) → W' j ≡ (W j || before j t)) → (j d : ℕ) → K' d ≡ true → before j d ≡ true → W' j ≡ true
awaits_more before K K' W W' t old k w j d h b = w j ∙ ⊎_elim
    (λ i. or-first (W j) _ (old j d i b))
    (λ q. or_second (W j) _ (subst (λ (x : ℕ). before j x ≡ true) (sym (eqb→eq t d (of_true (eqb t d) q))) b))
    (or_either (K d) _ (sym (k d) ∙ h))

-- ---- admission, one turn after the other: K holds the kept of a sequence

pub holds_none : (K : ℕ → Bool) → ((j : ℕ) → K j ≡ false) → Lists K []
holds_none K n = record { listed = λ x e. absurd (clash (sym e ∙ n x)); held = λ x m. absurd (Memᴰ.not-nil m) }

pub holds_more : (K K' : ℕ → Bool) (t : ℕ) (ks : List ℕ) → Lists K ks → ((j : ℕ) → K' j ≡ (K j || eqb t j)) → Lists K' (t ∷ ks)
holds_more K K' t ks h w = record {
  listed = λ x e. ⊎_elim (λ k. Memᴰ.tail (h.listed x k)) (λ q. Memᴰ.head (sym (eqb→eq t x (of_true (eqb t x) q)))) (or_either (K x) _ (sym (w x) ∙ e));
  held = λ x m. w x ∙ ⊎_elim (λ e. or_second (K x) _ (rw e (is_true (eqb t t) (eqb_refl t)))) (λ k. or-first (K x) _ (h.held x k)) (Memᴰ.cases_cons m);
}

module _ (before : ℕ → ℕ → Bool) (is : List ℕ) (t : ℕ) (K : ℕ → Bool) (old : Lists K (admit before [] is)) where
  -- what is kept has no cycle
  pub acyclic : Cycle before (admit before [] is) → ⊥
  acyclic = admit_acyclic before [] is (λ c. Memᴰ.not-nil c.member)

  -- no way leads back to t: it is kept
  pub keeps : (K' : ℕ → Bool) → (Way before K t t → ⊥) → ((j : ℕ) → K' j ≡ (K j || eqb t j)) → Lists K' (admit before [] (is ++ (t ∷ [])))
  keeps K' f w =
      let e : cyclic before (t ∷ admit before [] is) ≡ false = no_true (cyclic before (t ∷ admit before [] is)) (λ c. f ((way_cyclic before old acyclic t).1 (of_true (cyclic before (t ∷ admit before [] is)) c))) in
      rw (admit-last before [] is t, e) (holds_more K K' t (admit before [] is) old w)

  -- a way does: it is thrown out
  pub drops : Way before K t t → Lists K (admit before [] (is ++ (t ∷ [])))
  drops p =
      let e : cyclic before (t ∷ admit before [] is) ≡ true = is_true (cyclic before (t ∷ admit before [] is)) ((way_cyclic before old acyclic t).0 p) in
      rw (admit-last before [] is t, e) old
