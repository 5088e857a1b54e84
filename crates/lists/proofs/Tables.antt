-- Laws of lists by index. Assumes nothing.
use mathlib.Core.Path.{◌≡◌, refl, sym, ap, ap₂, ◌∙◌}
use mathlib.Core.Logic.{⊎_elim}
use mathlib.Core.List.{List, [], ◌∷◌, ◌++◌}
use Prim.Native.Nat.{ℕ, zero, suc, ◌+◌, ◌*◌, ◌<◌}
use native.Mathlib.Nat.{eq-or-lt_of_le, le_of_suc-le-suc, mul-zero, mul-suc}
use native.Mathlib.Numerals.{add-one}
use native.Mathlib.Omega.{arith}
use lib.ListN.{length, get_or, length-append, get_or-append}
use lib.Seq.{sets, get_or_at, ext_get_or}
use Rattle.lists.specs.Tables.{tab, flat}
use Rattle.lists.proofs.Stores.{sets_append}

module _ {X : Type 0} (f : ℕ → X) where
  pub length-tab : (n : ℕ) → length (tab n f) ≡ n
  unfolding tab
  length-tab zero = refl
  length-tab (suc n) = simp (length-append, length-tab n, add-one)

  pub get_or-tab : (n i : ℕ) (d : X) → i < n → get_or (tab n f) i d ≡ f i
  unfolding tab
  get_or-tab zero i d h = absurd (omega arith)
  get_or-tab (suc n) i d h =
      ⊎_elim
      (λ e. rw e (get_or_at (tab n f) (f n) [] d n (length-tab n)))
      (λ l. get_or-append (tab n f) (f n ∷ []) d i (rw (length-tab n) l) ∙ get_or-tab n i d l)
      (eq-or-lt_of_le (le_of_suc-le-suc h))

  -- one more
  pub tab-more : (i : ℕ) → tab (i + 1) f ≡ tab i f ++ (f i ∷ [])
  unfolding tab
  tab-more i = rw add-one

pub tab-same : {X : Type 0} (f g : ℕ → X) (n : ℕ) → ((i : ℕ) → i < n → f i ≡ g i) → tab n f ≡ tab n g
unfolding tab
tab-same f g zero h = refl
tab-same f g (suc n) h = ap₂ (λ l x. l ++ (x ∷ [])) (tab-same f g n (λ i l. h i (omega arith))) (h n (omega arith))

-- the elements of a list in turn
pub tab_list : {X : Type 0} (xs : List X) (d : X) → tab (length xs) (λ i. get_or xs i d) ≡ xs
tab_list xs d =
    let n = length-tab (λ i. get_or xs i d) (length xs) in
    ext_get_or d _ xs n (λ i h. get_or-tab (λ i. get_or xs i d) (length xs) i d (rw n at h))

-- ---- n lists of k elements each, one after the other

pub flat-next : (f : ℕ → List ℕ) (n : ℕ) → flat (n + 1) f ≡ flat n f ++ f n
unfolding flat
flat-next f n = ap (λ m. flat m f) (add-one n)

pub flat-same : (f g : ℕ → List ℕ) (n : ℕ) → ((i : ℕ) → i < n → f i ≡ g i) → flat n f ≡ flat n g
unfolding flat
flat-same f g zero h = refl
flat-same f g (suc n) h = ap₂ (λ a b. a ++ b) (flat-same f g n (λ i l. h i (omega arith))) (h n (omega arith))

module _ (k : ℕ) (f : ℕ → List ℕ) (each : (i : ℕ) → length (f i) ≡ k) where
  pub length-flat : (n : ℕ) → length (flat n f) ≡ k * n
  unfolding flat
  length-flat zero = sym (mul-zero k)
  length-flat (suc n) = rw (length-append, length-flat n, each n, mul-suc)

  -- one entry more, where the entries so far end
  pub flat-more : (l : List ℕ) (at i : ℕ) → sets (sets l at (flat i f)) (at + k * i) (f i) ≡ sets l at (flat (i + 1) f)
  flat-more l at i =
      ap (λ (m : ℕ). sets (sets l at (flat i f)) (at + m) (f i)) (sym (length-flat i))
      ∙ sym (sets_append l at (flat i f) (f i))
      ∙ ap (sets l at) (sym (flat-next f i))
