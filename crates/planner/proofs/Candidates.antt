-- The search for the lowest free rank: what is known at each candidate and at each of its blockers, and why the one that is not left is next. Assumes nothing.
use mathlib.Core.Path.{◌≡◌, refl, sym, ap, subst, ◌∙◌}
use mathlib.Core.Bool.{Bool, true, false, not, ◌&&◌}
use mathlib.Core.List.Memᴰ
use mathlib.Core.List.{List, [], ◌∷◌, ◌++◌, append_assoc, append-nil}
use mathlib.Core.Logic.{⊎_elim}
use Prim.Native.Nat.{ℕ, ◌^◌, ◌<◌}
use native.Mathlib.Omega.{arith}
use lib.Dec.{eqb, eqb→eq}
use Rattle.lists.specs.Members.{◌∈◌}
use Rattle.lists.proofs.Tests.{clash, is_true, of_true, no_true, minus-some, and-whole}
use Rattle.orders.specs.Chain.{cyclic, Cycle}
use Rattle.orders.specs.Walk.{Lists, Free, Next}
use Rattle.orders.proofs.Chains.{cyclic_cycle}
use Rattle.orders.proofs.Placed.{some_free_in}
use Rattle.sets.specs.Set.{member, members}
use Rattle.sets.proofs.Laws.{none, within, some}
use Rattle.sets.proofs.Listed.{listed, member-listed, listed-member, listed-rising}

-- a set of 64 places holds what it lists
pub holds : (m : ℕ) → m < 2 ^ 64 → Lists (member m) (members m 64)
holds m h = record { listed = λ x. (listed m 64 h x).0; held = λ x. (listed m 64 h x).1 }

-- where the test finds no cycle there is none
pub no_cycle : (before : ℕ → ℕ → Bool) (is : List ℕ) → cyclic before is ≡ false → Cycle before is → ⊥
no_cycle before is e c = clash (sym (is_true (cyclic before is) ((cyclic_cycle before is).1 c)) ∙ e)

-- one more of a list is behind
one_more : {l rest rest' : List ℕ} {x : ℕ} (xs : List ℕ) → l ≡ xs ++ rest → rest ≡ x ∷ rest' → l ≡ (xs ++ (x ∷ [])) ++ rest'
one_more {rest' = rest'} {x = x} xs e next = e ∙ ap (λ l. xs ++ l) next ∙ sym (append_assoc xs (x ∷ []) rest')

-- where nothing is behind, all stand before
all_of : {l xs : List ℕ} {x : ℕ} → l ≡ xs ++ [] → x ∈ l → x ∈ xs
all_of e k = rw append-nil at (rw e at k)

-- ---- the candidates: those tried and those still to try are those left, and no one tried is free

pub record Untried (before : ℕ → ℕ → Bool) (left : ℕ) (tried rest : List ℕ) : Type 0 where
  pub parts : members left 64 ≡ tried ++ rest
  pub shut : (d : ℕ) → d ∈ tried → Free before (member left) d → ⊥

module _ (before : ℕ → ℕ → Bool) (left : ℕ) (tried rest rest' : List ℕ) (p : ℕ) (inv : Untried before left tried rest) (next : rest ≡ p ∷ rest') where
  here : members left 64 ≡ tried ++ (p ∷ rest')
  here = inv.parts ∙ ap (λ l. tried ++ l) next

  -- the next candidate is left
  pub held : (p < 64) × (member left p ≡ true)
  held = listed-member left 64 (rw here (Memᴰ.append_right tried (Memᴰ.head refl)))

  -- one of those left must stand before it: it is not free
  pub blocked : (q : ℕ) → member left q ≡ true → before q p ≡ true → Untried before left (tried ++ (p ∷ [])) rest'
  blocked q l b = record {
    parts = one_more tried inv.parts next;
    shut = λ d k f. ⊎_elim (λ i. inv.shut d i f) (λ i. clash (sym b ∙ ap (before q) (sym (Memᴰ.eq_of_singleton i)) ∙ f.clear q l)) (Memᴰ.append_cases tried k);
  }

  -- none must: it is next
  pub found : left < 2 ^ 64 → ((q : ℕ) → member left q ≡ true → before q p ≡ false) → Next before (member left) p
  found small clear = record {
    free = record { isin = held.1; clear = clear };
    least = λ d h f. ⊎_elim (λ i. inv.shut d i f) (λ i. ⊎_elim (λ e. omega arith) (λ j. omega (arith, listed-rising left 64 tried rest' p here d j)) (Memᴰ.cases_cons i))
        (Memᴰ.append_cases tried (rw here at (member-listed left 64 d (within 64 left d small f.isin) f.isin)));
  }

-- as long as any is left, and there is no cycle, some one is free
pub never :
    (before : ℕ → ℕ → Bool) (left : ℕ) (tried : List ℕ) → left < 2 ^ 64 → cyclic before (members left 64) ≡ false → Untried before left tried [] →
    0 < left → ⊥
never before left tried small e inv p =
    let one = some 64 left p small in
    let free = some_free_in before (member left) (members left 64) (holds left small) (no_cycle before (members left 64) e) one.0 one.1 in
    inv.shut free.0 (all_of inv.parts (member-listed left 64 free.0 (within 64 left free.0 small free.1.isin) free.1.isin)) free.1

-- ---- the blockers of a candidate p: the others must stand before it, and of those left all that must are among them

pub record Blocks (before : ℕ → ℕ → Bool) (left p others : ℕ) : Type 0 where
  pub block : (q : ℕ) → member others q ≡ true → before q p ≡ true
  pub all : (q : ℕ) → member left q ≡ true → before q p ≡ true → member others q ≡ true

module _ (before : ℕ → ℕ → Bool) (left p : ℕ) where
  pub asks : (others : ℕ) → ((q : ℕ) → before q p ≡ member others q) → Blocks before left p others
  asks others told = record { block = λ q e. told q ∙ e; all = λ q l b. sym (told q) ∙ b }

  -- a blocker that is not left blocks nothing
  pub passes :
      (q others others' : ℕ) → Blocks before left p others → member left q ≡ false →
      ((j : ℕ) → member others' j ≡ (member others j && not (eqb q j))) →
      Blocks before left p others'
  passes q others others' inv m w = record {
    block = λ r e. inv.block r (minus-some (member others r) (eqb q r) (sym (w r) ∙ e)).0;
    all = λ r l b. w r ∙ and-whole (member others r) _ (inv.all r l b) (ap not (no_true (eqb q r) (λ e. clash (sym l ∙ subst (λ (x : ℕ). member left x ≡ false) (eqb→eq q r (of_true (eqb q r) e)) m))));
  }

  -- none is left to block
  pub unblocked : Blocks before left p 0 → (q : ℕ) → member left q ≡ true → before q p ≡ false
  unblocked inv q l = no_true (before q p) (λ e. clash (sym (inv.all q l e) ∙ none q))
