-- Chains of demands and cycles, over any relation `before a b`, "A must stand before B". Assumes nothing.
use Rattle.std.specs.Prelude.{Bool, true, not, ◌&&◌, ◌||◌, List, [], ◌∷◌, T}
use Rattle.lists.specs.Members.{◌∈◌, any, all}

module _ {A : Type 0} (before : A → A → Bool) where
  -- demands lead from a to b, all that stand between them in ks
  unfoldable pub joined : List A → A → A → Bool
  joined [] a b = before a b
  joined (k ∷ ks) a b = joined ks a b || (joined ks a k && joined ks k b)

  -- "the demands among" ts "contain" a "cycle": they lead from some one of ts back to it
  unfoldable pub cyclic : List A → Bool
  cyclic ts = any (λ t. joined ts t t) ts

  -- demands lead from a to b, step by step: one from a to b, or one from a to a member of ks and on from there
  pub data Chain (ks : List A) (b : A) : A → Type 0 where
    one : {a : A} → T (before a b) → Chain ks b a
    more : {a c : A} → T (before a c) → c ∈ ks → Chain ks b c → Chain ks b a

  -- "a cycle" of "the demands among" ts: a chain from one of them back to it
  pub record Cycle (ts : List A) : Type 0 where
    pub root : A
    pub member : root ∈ ts
    pub chain : Chain ts root root

  -- each stands behind all that must stand before it: no later one must stand before an earlier one
  unfoldable pub ordered : List A → Bool
  ordered [] = true
  ordered (b ∷ os) = all (λ a. not (before a b)) os && ordered os
