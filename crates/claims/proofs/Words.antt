-- The customer's order, in words. Assumes nothing.
use Prim.Native.Nat.{ℕ}
use mathlib.Core.List.{List}
use mathlib.Core.Logic.{◌↔◌}
use lib.Dec.{T_not, not_T}
use Rattle.orders.specs.Arrange.{Order}
use Rattle.orders.proofs.Chains.{ordered_means}
use Rattle.ledger.specs.Tx.{Tx}
use Rattle.planning.specs.Plan.{before}
use Rattle.planning.proofs.Words.{before-words}
use Rattle.claims.specs.Third.{ReadersFirst}

-- an order under the demands of rule 2 is one "that puts each reader of a key before every other writer of it"
pub order-words : (b : ℕ → Tx) (is os : List ℕ) → Order (before b) is os ↔ ReadersFirst b is os
order-words b is os = (there, back)
  where
    there : Order (before b) is os → ReadersFirst b is os
    there o = record {
      each_once = o.all_once;
      readers_first = λ xs i ys e u m d k w r.
          T_not (before b u i) ((ordered_means (before b) os).0 o.forward xs i ys e u m)
          ((before-words b u i).1 (d, (k, w, r)));
    }

    back : ReadersFirst b is os → Order (before b) is os
    back f = record {
      all_once = f.each_once;
      forward = (ordered_means (before b) os).1
          (λ xs i ys e u m. not_T (before b u i)
          (λ t. let w = (before-words b u i).0 t in f.readers_first xs i ys e u m w.0 w.1.0 w.1.1 w.1.2));
    }
