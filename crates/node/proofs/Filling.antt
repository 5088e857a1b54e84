-- Laws of an array of 32 zeros that is filled from the front with one field of each entry of a list. Assumes nothing.
use mathlib.Core.Path.{◌≡◌, refl, sym, ap, ◌∙◌}
use mathlib.Core.List.{List, ◌∷◌, ◌++◌, map, map-append}
use Prim.Native.Nat.{ℕ, zero, suc, ◌+◌, ◌-◌, ◌<◌}
use lib.ListN.{length, get_or, take, set, replicate, length-set, length-map, length-replicate, get_or-map}
use Rattle.lists.proofs.Filled.{filled_none, filled_more, filled-all}

module _ {X Y : Type 0} (f : X → Y) (z : X) where
  -- zeros of entries are zeros of the field
  map-zeros : (n : ℕ) → map f (replicate n z) ≡ replicate n (f z)
  map-zeros zero = refl
  map-zeros (suc n) = ap (λ l. f z ∷ l) (map-zeros n)

  module _ (xs : List X) where
    -- ys has f of the first i entries in front, and zeros in the rest
    pub record Filling (i : ℕ) (ys : List Y) : Type 0 where
      pub front : ys ≡ take i (map f xs) ++ replicate (32 - i) (f z)
      pub long : length ys ≡ 32

    pub begins : (ys : List Y) → ys ≡ replicate 32 (f z) → Filling 0 ys
    begins ys e = record { front = e ∙ filled_none (f z) (map f xs) 32; long = ap length e ∙ length-replicate 32 (f z) }

    pub turns : (i : ℕ) (ys : List Y) (y : Y) → y ≡ f (get_or xs i z) → Filling i ys → i < length xs → i < 32 → Filling (i + 1) (set ys i y)
    turns i ys y e t h l = record {
      front = rw (t.front, e ∙ sym (get_or-map f xs i z)) (filled_more (f z) (map f xs) 32 i (rw (length-map xs f) h) l);
      long = length-set ys i y ∙ t.long;
    }

    pub ends : (i : ℕ) (ys : List Y) → Filling i ys → i ≡ length xs → ys ≡ map f (xs ++ replicate (32 - length xs) z)
    ends i ys t e =
        t.front
        ∙ ap (λ (n : ℕ). take n (map f xs) ++ replicate (32 - n) (f z)) (e ∙ sym (length-map xs f))
        ∙ filled-all (f z) (map f xs) 32
        ∙ ap (λ (n : ℕ). map f xs ++ replicate (32 - n) (f z)) (length-map xs f)
        ∙ sym (map-append f xs (replicate (32 - length xs) z) ∙ ap (λ l. map f xs ++ l) (map-zeros (32 - length xs)))
