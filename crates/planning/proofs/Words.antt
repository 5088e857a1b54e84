-- Readers and writers of a key, and rule 2, in words. Assumes nothing.
use Prim.Native.Nat.{ℕ}
use mathlib.Core.Bool.{not}
use mathlib.Core.Logic.{◌↔◌}
use mathlib.Core.Path.{◌≡◌, subst}
use lib.Dec.{T, T_not, eqb}
use Rattle.lists.specs.Members.{◌∈◌}
use Rattle.lists.proofs.Tests.{both, and_left, and_right, differ, unequal}
use Rattle.lists.proofs.Membership.{any_in, any_out, map_in, one_of}
use Rattle.ledger.specs.declared.Read.{Read}
use Rattle.ledger.specs.declared.Write.{Write}
use Rattle.ledger.specs.Tx.{Tx, keys_read, keys_written, reader, writer}
use Rattle.planning.specs.Plan.{before}

-- a reader of a key has it among the keys that it reads; a writer among those that it writes
pub reads-key : (x : Tx) (k : ℕ) → T (reader x k) ↔ (k ∈ keys_read x)
unfolding reader
reads-key x k = one_of k (keys_read x)

pub writes_key : (x : Tx) (k : ℕ) → T (writer x k) ↔ (k ∈ keys_written x)
unfolding writer
writes_key x k = one_of k (keys_written x)

-- each read reads its key, and no write of a transaction that is no writer of k writes k
pub read_in_lem : (x : Tx) {r : Read} → r ∈ x.reads → r.key ∈ keys_read x
unfolding keys_read
read_in_lem x m = map_in (λ r. r.key) x.reads m

pub no_write_lem : (x : Tx) (k : ℕ) → T (not (writer x k)) → (w : Write) → w ∈ x.writes → w.key ≡ k → ⊥
unfolding keys_written
no_write_lem x k t w m e =
    T_not (writer x k) t ((writes_key x k).1 (subst (λ (j : ℕ). j ∈ keys_written x) e (map_in (λ v. v.key) x.writes m)))

-- "Between two different .. transactions, A must stand before B when A reads a key that B writes."
pub before-words :
    (b : ℕ → Tx) (i j : ℕ) → T (before b i j) ↔ ((i ≡ j → ⊥) × ((k : ℕ) × T (writer (b j) k) × T (reader (b i) k)))
unfolding before
before-words b i j = (there, back)
  where
    there : T (before b i j) → (i ≡ j → ⊥) × ((k : ℕ) × T (writer (b j) k) × T (reader (b i) k))
    there t =
        let w = any_out (reader (b i)) (keys_written (b j)) (and_right (not (eqb i j)) _ t) in
        (differ i j (and_left (not (eqb i j)) _ t), (w.0, (writes_key (b j) w.0).1 w.1, w.2))

    back : (i ≡ j → ⊥) × ((k : ℕ) × T (writer (b j) k) × T (reader (b i) k)) → T (before b i j)
    back h =
        let k = h.1.0 in
        both (not (eqb i j)) _ (unequal i j h.0)
        (any_in (reader (b i)) (keys_written (b j)) ((writes_key (b j) k).0 h.1.1) h.1.2)
