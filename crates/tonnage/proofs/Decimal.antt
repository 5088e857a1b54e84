-- Numbers and the runs of digits that write them: each gives the other back. Assumes nothing.
use mathlib.Core.Path.{◌≡◌, refl, sym, ap, ◌∙◌}
use mathlib.Core.Bool.{Bool, true, false, not, ◌&&◌, false≢true}
use mathlib.Core.List.{List, [], ◌∷◌, ◌++◌}
use Prim.Native.Nat.{ℕ, zero, suc, ◌+◌, ◌-◌, ◌*◌, ◌/◌, ◌%◌, ◌≤◌, ◌<◌}
use native.Mathlib.Nat.{le_refl}
use native.Mathlib.Numerals.{add-one}
use native.Mathlib.Omega.{arith}
use lib.ListN.{length, get_or, take, drop, length-append, get_or-append}
use lib.Seq.{slice, slice_empty, slice-cons, length-take-le, take_all, take-suc}
use lib.Dec.{eqb, leb, ltb}
use borrow.Author.Tests.{ltb-true, ltb-false, le-leb, leb-true, eq-eqb, eqb-true}
use Rattle.std.specs.List.{list_all}
use Rattle.lists.specs.Members.{all}
use Rattle.lists.specs.Search.{first_in, some_in}
use Rattle.lists.proofs.Searches.{miss, done, passed}
use Rattle.tonnage.specs.Text.{other, follow, digits, width}
use Rattle.tonnage.specs.Grammar.{digit}
use Rattle.tonnage.proofs.Laying.{and_both, cut}
use Rattle.tonnage.proofs.Runs.{digit_range, no_other, follow-last, width_one, width-more, width_some, length_digits}

-- ---- lists by their last element, numbers by their last digit

ends_in : (P : List ℕ → Type 0) → P [] → ((init : List ℕ) (d : ℕ) → P init → P (init ++ (d ∷ []))) → (k : ℕ) (ds : List ℕ) → length ds ≡ k → P ds
ends_in P z s zero [] h = z
ends_in P z s zero (d ∷ ds) h = absurd (omega arith)
ends_in P z s (suc k) ds h =
    let all : take (suc k) ds ≡ ds = take_all (suc k) ds (omega arith) in
    let last : take (suc k) ds ≡ take k ds ++ (get_or ds k 0 ∷ []) = take-suc ds k 0 (omega arith) in
    rw (sym all ∙ last) (s (take k ds) (get_or ds k 0) (ends_in P z s k (take k ds) (length-take-le k ds (omega arith))))

ends : (P : List ℕ → Type 0) → P [] → ((init : List ℕ) (d : ℕ) → P init → P (init ++ (d ∷ []))) → (ds : List ℕ) → P ds
ends P z s ds = ends_in P z s (length ds) ds refl

tens_in : (P : ℕ → Type 0) → ((n : ℕ) → n < 10 → P n) → ((n : ℕ) → 10 ≤ n → P (n / 10) → P n) → (k n : ℕ) → n ≤ k → P n
tens_in P z s zero n h = z n (omega arith)
tens_in P z s (suc k) n h = go (ltb n 10) refl (tens_in P z s k (n / 10))
  where
    go : (b : Bool) → ltb n 10 ≡ b → (n / 10 ≤ k → P (n / 10)) → P n
    go true e ih = z n (ltb-true n 10 e)
    go false e ih = let m : 10 ≤ n = ltb-false n 10 e in s n m (ih (omega arith))

tens : (P : ℕ → Type 0) → ((n : ℕ) → n < 10 → P n) → ((n : ℕ) → 10 ≤ n → P (n / 10) → P n) → (n : ℕ) → P n
tens P z s n = tens_in P z s n n (le_refl n)

-- ---- runs of digits

pub digit_in : (c : ℕ) → digit c ≡ true → (48 ≤ c) × (c ≤ 57)
digit_in c e = let b = and_both (leb 48 c) (leb c 57) e in (leb-true 48 c b.0, leb-true c 57 b.1)

pub in_digit : (c : ℕ) → 48 ≤ c → c ≤ 57 → digit c ≡ true
in_digit c h k = rw (le-leb 48 c h, le-leb c 57 k)

-- ---- searches for another character than a digit

pub passed-each : (k i to : ℕ) (text : List ℕ) → to ≡ i + k → to ≤ length text → to ≤ first_in (other text) i to → all digit (slice i to text) ≡ true
passed-each zero i to text e h f = let same : to ≡ i = omega arith in rw (same, slice_empty i text)
passed-each (suc k) i to text e h f =
    let l : i < to = omega arith in
    let p = passed (other text) i to l f in
    let r = digit_range (get_or text i 0) p.0 in
    rw (slice-cons i to text 0 l h, in_digit (get_or text i 0) r.0 r.1) (passed-each k (suc i) to text (omega arith) h (rw add-one at p.1))

pub each-passed : (k i to : ℕ) (text : List ℕ) → to ≡ i + k → to ≤ length text → all digit (slice i to text) ≡ true → to ≤ first_in (other text) i to
each-passed zero i to text e h d = let same : i ≡ to = omega arith in rw (same, done (other text) to) (omega arith)
each-passed (suc k) i to text e h d =
    let l : i < to = omega arith in
    let b = and_both (digit (get_or text i 0)) (all digit (slice (suc i) to text)) (rw (slice-cons i to text 0 l h) at d) in
    let r = digit_in (get_or text i 0) b.0 in
    rw (miss (other text) i to l (no_other (get_or text i 0) r.0 r.1), add-one) (each-passed k (suc i) to text (omega arith) h b.1)

-- the test that the code makes of a part of a text
std_all : (q : ℕ → Bool) (xs : List ℕ) → list_all q xs ≡ all q xs
std_all q [] = refl
std_all q (x ∷ xs) = ap (λ b. q x && b) (std_all q xs)

pub only_digits : (text : List ℕ) (s p : ℕ) → s ≤ p → p ≤ length text → list_all digit (take (p - s) (drop s text)) ≡ not (some_in (other text) s p)
only_digits text s p h w = std_all digit (take (p - s) (drop s text)) ∙ ap (all digit) (sym (cut text s p h)) ∙ go (some_in (other text) s p) refl (all digit (slice s p text)) refl
  where
    whole : p ≡ s + (p - s)
    whole = omega arith

    go : (b : Bool) → some_in (other text) s p ≡ b → (a : Bool) → all digit (slice s p text) ≡ a → a ≡ not b
    go true e true d = absurd (omega (arith, ltb-true _ _ e, each-passed (p - s) s p text whole w d))
    go true e false d = refl
    go false e true d = refl
    go false e false d = absurd (false≢true (sym d ∙ passed-each (p - s) s p text whole w (ltb-false _ _ e)))

-- ---- lists that are all of one kind

pub all_append : (p : ℕ → Bool) (a b : List ℕ) → all p (a ++ b) ≡ (all p a && all p b)
all_append p [] b = refl
all_append p (c ∷ a) b = rw (all_append p a b) (go (p c))
  where
    go : (t : Bool) → (t && (all p a && all p b)) ≡ (t && all p a && all p b)
    go true = refl
    go false = refl

all-last : (p : ℕ → Bool) (init : List ℕ) (d : ℕ) → all p (init ++ (d ∷ [])) ≡ true → (all p init ≡ true) × (p d ≡ true)
all-last p init d e =
    let b = and_both (all p init) (all p (d ∷ [])) (sym (all_append p init (d ∷ [])) ∙ e) in
    (b.0, (and_both (p d) true b.1).0)

follow-least : (n : ℕ) (ds : List ℕ) → n ≤ follow n ds
unfolding follow
follow-least n [] = le_refl n
follow-least n (c ∷ ds) = omega (arith, follow-least (10 * n + (c - 48)) ds)

-- the digits of the number that a run writes are the run
pub run-digits : (n : ℕ) (ds : List ℕ) → all digit ds ≡ true → digits (length ds) (follow n ds) ≡ ds
unfolding digits
run-digits n = ends (λ ds. all digit ds ≡ true → digits (length ds) (follow n ds) ≡ ds) (λ e. refl) step
  where
    step : (init : List ℕ) (d : ℕ) → (all digit init ≡ true → digits (length init) (follow n init) ≡ init)
        → all digit (init ++ (d ∷ [])) ≡ true → digits (length (init ++ (d ∷ []))) (follow n (init ++ (d ∷ []))) ≡ init ++ (d ∷ [])
    step init d ih e =
        let b = all-last digit init d e in
        let r = digit_in d b.1 in
        let l : length (init ++ (d ∷ [])) ≡ suc (length init) = length-append init (d ∷ []) ∙ omega arith in
        let front : (10 * follow n init + (d - 48)) / 10 ≡ follow n init = omega arith in
        let back : 48 + (10 * follow n init + (d - 48)) % 10 ≡ d = omega arith in
        rw (l, follow-last n init d, front, back, ih b.0)

-- a run without needless zeros is as long as its number is wide
pub run-width : (ds : List ℕ) → all digit ds ≡ true → 0 < length ds → (get_or ds 0 0 ≡ 48 → length ds ≡ 1) → width (follow 0 ds) ≡ length ds
unfolding follow
run-width = ends (λ ds. all digit ds ≡ true → 0 < length ds → (get_or ds 0 0 ≡ 48 → length ds ≡ 1) → width (follow 0 ds) ≡ length ds) (λ e h l. absurd (omega arith)) step
  where
    step : (init : List ℕ) (d : ℕ) → (all digit init ≡ true → 0 < length init → (get_or init 0 0 ≡ 48 → length init ≡ 1) → width (follow 0 init) ≡ length init)
        → all digit (init ++ (d ∷ [])) ≡ true → 0 < length (init ++ (d ∷ [])) → (get_or (init ++ (d ∷ [])) 0 0 ≡ 48 → length (init ++ (d ∷ [])) ≡ 1)
        → width (follow 0 (init ++ (d ∷ []))) ≡ length (init ++ (d ∷ []))
    step [] d ih e h l = let r = digit_in d (all-last digit [] d e).1 in width_one (10 * 0 + (d - 48)) (omega arith)
    step (c ∷ cs) d ih e h l =
        let b = all-last digit (c ∷ cs) d e in
        let r = digit_in d b.1 in
        let q = digit_in c (and_both (digit c) (all digit cs) b.0).0 in
        let n : length (cs ++ (d ∷ [])) ≡ length cs + 1 = length-append cs (d ∷ []) in
        let lead : c ≡ 48 → ⊥ = λ z. omega (arith, l z) in
        let w = ih b.0 (omega arith) (λ z. absurd (lead z)) in
        let m : ℕ = follow (10 * 0 + (c - 48)) cs in
        let some : 10 ≤ 10 * m + (d - 48) = omega (arith, follow-least (10 * 0 + (c - 48)) cs, lead) in
        let front : (10 * m + (d - 48)) / 10 ≡ m = omega arith in
        rw (follow-last 0 (c ∷ cs) d, width-more (10 * m + (d - 48)) some, front, w, n) (omega arith)

-- a run writes 0 exactly where it is of zeros
pub zeros-follow : (ds : List ℕ) → all (eqb 48) ds ≡ true → follow 0 ds ≡ 0
unfolding follow
zeros-follow [] e = refl
zeros-follow (c ∷ ds) e =
    let b = and_both (eqb 48 c) (all (eqb 48) ds) e in
    rw (← eqb-true 48 c b.0) (zeros-follow ds b.1)

pub follow-zeros : (n : ℕ) (ds : List ℕ) → all digit ds ≡ true → follow n ds ≡ 0 → all (eqb 48) ds ≡ true
unfolding follow
follow-zeros n [] d e = refl
follow-zeros n (c ∷ ds) d e =
    let b = and_both (digit c) (all digit ds) d in
    let r = digit_in c b.0 in
    rw (eq-eqb 48 c (omega (arith, follow-least (10 * n + (c - 48)) ds))) (follow-zeros (10 * n + (c - 48)) ds b.1 e)

-- three digits behind a number are its thousandths
pub run-tonnes : (w : ℕ) (part : List ℕ) → length part ≡ 3 → all digit part ≡ true → follow w part / 1000 ≡ w
unfolding follow
run-tonnes w [] h d = absurd (omega arith)
run-tonnes w (a ∷ []) h d = absurd (omega arith)
run-tonnes w (a ∷ b ∷ []) h d = absurd (omega arith)
run-tonnes w (a ∷ b ∷ c ∷ []) h d =
    let x = and_both (digit a) (all digit (b ∷ c ∷ [])) d in
    let y = and_both (digit b) (all digit (c ∷ [])) x.1 in
    let z = and_both (digit c) true y.1 in
    omega (arith, digit_in a x.0, digit_in b y.0, digit_in c z.0)
run-tonnes w (a ∷ b ∷ c ∷ e ∷ part) h d = absurd (omega arith)

-- ---- digits of numbers

pub digits-all : (k n : ℕ) → all digit (digits k n) ≡ true
unfolding digits
digits-all zero n = refl
digits-all (suc k) n =
    rw (all_append digit (digits k (n / 10)) ((48 + n % 10) ∷ []), digits-all k (n / 10), in_digit (48 + n % 10) (omega arith) (omega arith))

pub digits-three : (n : ℕ) → digits 3 (n % 1000) ≡ digits 3 n
unfolding digits
digits-three n =
    let a : n % 1000 / 10 / 10 % 10 ≡ n / 10 / 10 % 10 = omega arith in
    let b : n % 1000 / 10 % 10 ≡ n / 10 % 10 = omega arith in
    let c : n % 1000 % 10 ≡ n % 10 = omega arith in
    rw (a, b, c)

-- the run of a number's digits writes it
pub digits-follow : (n : ℕ) → follow 0 (digits (width n) n) ≡ n
unfolding digits follow
digits-follow = tens (λ n. follow 0 (digits (width n) n) ≡ n) one more
  where
    one : (n : ℕ) → n < 10 → follow 0 (digits (width n) n) ≡ n
    one n h = rw (width_one n h) (omega arith)

    more : (n : ℕ) → 10 ≤ n → follow 0 (digits (width (n / 10)) (n / 10)) ≡ n / 10 → follow 0 (digits (width n) n) ≡ n
    more n h ih = rw (width-more n h, follow-last 0 (digits (width (n / 10)) (n / 10)) (48 + n % 10), ih) (omega arith)

pub rest-follow : (n : ℕ) → follow (n / 1000) (digits 3 (n % 1000)) ≡ n
unfolding digits follow
rest-follow n = omega arith

-- its first digit is 0 for 0 alone
first-digit : (n : ℕ) → 0 < n → 48 < get_or (digits (width n) n) 0 0
unfolding digits
first-digit = tens (λ n. 0 < n → 48 < get_or (digits (width n) n) 0 0) one more
  where
    one : (n : ℕ) → n < 10 → 0 < n → 48 < get_or (digits (width n) n) 0 0
    one n h p = rw (width_one n h) (omega arith)

    more : (n : ℕ) → 10 ≤ n → (0 < n / 10 → 48 < get_or (digits (width (n / 10)) (n / 10)) 0 0) → 0 < n → 48 < get_or (digits (width n) n) 0 0
    more n h ih p =
        let front : List ℕ = digits (width (n / 10)) (n / 10) in
        let some : 0 < length front = rw (length_digits (width (n / 10)) (n / 10)) (width_some (n / 10)) in
        rw (width-more n h, get_or-append front ((48 + n % 10) ∷ []) 0 0 some) (ih (omega arith))

pub first-lean : (n : ℕ) → get_or (digits (width n) n) 0 0 ≡ 48 → width n ≡ 1
first-lean zero e = width_one 0 (omega arith)
first-lean (suc n) e = absurd (omega (arith, first-digit (suc n) (omega arith)))
