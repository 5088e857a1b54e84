-- What a plan leaves in the lent lists, filled from the front: what is known at each turn. Assumes nothing.
use mathlib.Core.Path.{◌≡◌, refl, sym, ap, ap₂, ◌∙◌}
use mathlib.Core.Bool.{Bool, true, false, cond}
use denote.Enum.Declared.{tag_of}
use Rattle.ledger.specs.contracts.verdict.Verdict.{the_type}
use Rattle.ledger.specs.declared.verdict.Verdict.{Verdict}
use Rattle.ledger.specs.declared.verdict.Verdict.TheVariants.{Kept, Stale, Cycle}
use mathlib.Core.List.{List, [], ◌∷◌, ◌++◌, append_assoc, append-nil}
use Prim.Native.Nat.{ℕ, suc, ◌+◌, ◌-◌, ◌*◌, ◌≤◌, ◌<◌}
use native.Mathlib.Numerals.{add-one}
use native.Mathlib.Omega.{arith}
use lib.ListN.{length, get_or, take, drop, set}
use lib.Seq.{length-take-le, take-suc, take_all, drop-cons, drop-drop, get_or-take, set_at, take_at, drop_at}
use Rattle.std.proofs.lemmas.List.{drop_all}
use Rattle.lists.specs.Members.{◌∈◌}
use Rattle.lists.proofs.Membership.{in_at}
use Rattle.lists.specs.Tables.{tab}
use Rattle.ledger.specs.Page.{page_at}
use Rattle.lists.proofs.Tables.{length-tab}
use Rattle.ledger.proofs.Placed.{part_back}
use Rattle.planner.specs.Ranks.{nth}
use Rattle.planning.specs.Plan.{gathered}
use Rattle.planning.proofs.OutBatch.{gathered_long}

-- ---- the verdict of a page, by its number

pub told : (v : Verdict) (current kept : Bool) → v ≡ cond current (cond kept Kept Cycle) Stale → tag_of the_type v ≡ cond current (cond kept 0 2) 1
told v true true e = rw e refl
told v true false e = rw e refl
told v false kept e = rw e refl

-- ---- lists filled from the front

-- entry i is the next one's
pub fills : (f : ℕ → ℕ) (i : ℕ) (old : List ℕ) → i < length old → set (tab i f ++ drop i old) i (f i) ≡ tab (i + 1) f ++ drop (i + 1) old
unfolding tab
fills f i old h =
    ap (λ l. set (tab i f ++ l) i (f i)) (drop-cons old i 0 h)
    ∙ set_at (tab i f) (get_or old i 0) (drop (suc i) old) (f i) i (length-tab f i)
    ∙ rw (add-one, append_assoc)

-- all entries
pub filled_all : (f : ℕ → ℕ) (i : ℕ) (new old : List ℕ) → i ≡ length old → new ≡ tab i f ++ drop i old → new ≡ tab (length old) f
filled_all f i new old all e = e ∙ ap (λ l. tab i f ++ l) (drop_all i old (omega arith)) ∙ append-nil (tab i f) ∙ ap (λ n. tab n f) all

-- the front of a longer list
pub filled-part : (f : ℕ → ℕ) (m : ℕ) (new old : List ℕ) → m ≤ length old → new ≡ tab (length (take m old)) f → new ++ drop m old ≡ tab m f ++ drop m old
filled-part f m new old h e = ap (λ l. l ++ drop m old) (e ∙ ap (λ n. tab n f) (length-take-le m old h))

-- ---- pages after one another

gathered-append : (batch is js : List ℕ) → gathered batch (is ++ js) ≡ gathered batch is ++ gathered batch js
unfolding gathered
gathered-append batch [] js = refl
gathered-append batch (i ∷ is) js = rw append_assoc (ap (λ l. page_at batch i ++ l) (gathered-append batch is js))

module _ (batch order : List ℕ) (inside : (j : ℕ) → j < length order → nth order j * 512 + 512 ≤ length batch) where
  pub gathered_next : (j : ℕ) → j < length order → gathered batch (take (j + 1) order) ≡ gathered batch (take j order) ++ page_at batch (nth order j)
  unfolding gathered
  gathered_next j h = rw (add-one, take-suc order j 0 h) (gathered-append batch (take j order) (nth order j ∷ []) ∙ ap (λ l. gathered batch (take j order) ++ l) (append-nil (page_at batch (nth order j))))

  front_long : (j : ℕ) → j ≤ length order → length (gathered batch (take j order)) ≡ j * 512
  front_long j h =
      let size : length (take j order) ≡ j = length-take-le j order h in
      gathered_long batch (take j order) (λ i m. within size m) ∙ ap (λ n. n * 512) size
    where
      within : length (take j order) ≡ j → {i : ℕ} → i ∈ take j order → i * 512 + 512 ≤ length batch
      within size m =
          let w = in_at (take j order) 0 m in
          let l : w.0 < j = omega (arith, w.1) in
          rw (w.2 ∙ get_or-take j order w.0 0 l) (inside w.0 (omega arith))

  -- one more page
  pub gathers :
      (j : ℕ) (out old ys : List ℕ) → j < length order → out ≡ gathered batch (take j order) ++ drop (512 * j) old →
      ys ≡ page_at batch (nth order j) →
      take (j * 512) out ++ (ys ++ drop (j * 512 + 512 - j * 512) (drop (j * 512) out)) ≡ gathered batch (take (j + 1) order) ++ drop (512 * (j + 1)) old
  gathers j out old ys h e f =
      part_back out ys (j * 512)
      ∙ ap₂ (λ a b. a ++ b) front (ap₂ (λ a b. a ++ b) f rest)
      ∙ sym (append_assoc (gathered batch (take j order)) (page_at batch (nth order j)) (drop (512 * (j + 1)) old))
      ∙ ap (λ l. l ++ drop (512 * (j + 1)) old) (sym (gathered_next j h))
    where
      front : take (j * 512) out ≡ gathered batch (take j order)
      front = rw e (take_at (gathered batch (take j order)) (drop (512 * j) old) (j * 512) (front_long j (omega arith)))

      behind : drop (j * 512) out ≡ drop (512 * j) old
      behind = rw e (drop_at (gathered batch (take j order)) (drop (512 * j) old) (j * 512) (front_long j (omega arith)))

      rest : drop (j * 512 + 512) out ≡ drop (512 * (j + 1)) old
      rest =
          let more : 512 * j + 512 ≡ 512 * (j + 1) = omega arith in
          sym (drop-drop 512 (j * 512) out) ∙ ap (drop 512) behind ∙ drop-drop 512 (512 * j) old ∙ ap (λ n. drop n old) more

-- all pages
pub gathered_all :
    (batch order : List ℕ) (j : ℕ) (out old : List ℕ) → j ≡ length order → out ≡ gathered batch (take j order) ++ drop (512 * j) old →
    out ≡ gathered batch order ++ drop (512 * length order) old
gathered_all batch order j out old all e = e ∙ ap₂ (λ l n. gathered batch l ++ drop (512 * n) old) (take_all j order (omega arith)) all
