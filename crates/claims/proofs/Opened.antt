-- The gate lets the pages of good transactions through, over absent keys and over any good state: by laws, so that no check of a page has to be computed. Assumes nothing.
use Prim.Native.Nat.{ℕ, zero, suc, ◌*◌, ◌^◌, ◌≤◌, ◌<◌}
use native.Mathlib.Omega.{arith}
use mathlib.Core.Bool.{Bool, true, false, ◌&&◌, ◌||◌}
use mathlib.Core.List.{List, [], ◌∷◌, ◌++◌}
use mathlib.Core.Path.{◌≡◌, refl, ap, ◌∙◌}
use lib.ListN.{length, replicate, length-append, length-replicate, get_or-replicate}
use lib.IntN.{pos}
use lib.Signed.{mag}
use lib.Dec.{T, ltb, ltb→lt}
use mir.Syntax.{w64}
use mir.Val.{hbits}
use borrow.Author.Tests.{le-ltb}
use Rattle.refusals.specs.Fault.{Fault, clear, fault}
use Rattle.refusals.specs.Fault.{first as first_of}
use Rattle.refusals.proofs.Rows.{append_none, each-clear, one-clear, test_clear}
use Rattle.lists.specs.Members.{all}
use Rattle.lists.proofs.Tests.{and_left, and_right}
use Rattle.lists.proofs.Membership.{all-out, get_or_in}
use Rattle.ledger.specs.declared.Read.{Read}
use Rattle.ledger.specs.declared.Write.{Write}
use Rattle.ledger.specs.Tx.{Tx, no_read, no_write, read_of, write_of, ReadFits, WriteFits}
use Rattle.ledger.specs.Page.{count_rows, entry_rows, page_fault, page_of, page_at}
use Rattle.ledger.specs.State.{State, state_of, never, keys, entry, wrong_entry, wrong_lengths, state_rows}
use Rattle.ledger.specs.Gate.{pages, rows_at, pages_rows}
use Rattle.ledger.proofs.Gated.{good-at, ticket_rows, key_rows, pages-rest, state-rest, front_clear, gate_pages, not_wrong}
use Rattle.ledger.proofs.Back.{Fitting, good_back}
use Rattle.ledger.proofs.Pages.{good-counted}
use Rattle.planning.specs.Plan.{short, plan_rows}
use Rattle.planning.proofs.Opened.{own}
use Rattle.report.specs.Program.{start_number, start}
use Rattle.claims.specs.Cases.{batch_of}
use Rattle.planning.proofs.OutBatch.{page-first, page-next}
use Rattle.claims.proofs.Shown.{long}

-- ---- absent keys

absent-at : (m k : ℕ) → k < m → entry (state_of (replicate m 0) (replicate m 65535) (replicate m (pos 0))) k ≡ never
unfolding entry
absent-at m k h = rw (get_or-replicate {A = ℕ} m k 0 0 h, get_or-replicate {A = ℕ} m k 65535 0 h, get_or-replicate m k (pos 0) (pos 0) h)

pub start-keys : keys start ≡ 1024
unfolding start
start-keys = length-replicate {A = ℕ} 1024 0

pub start-absent : (k : ℕ) → k < 1024 → entry start k ≡ never
unfolding start
start-absent k h = absent-at 1024 k h

-- the gate finds no fault in them
start_lengths : wrong_lengths start ≡ false
unfolding start
start_lengths = refl

start_rows : first_of (state_rows start start_number) ≡ clear
start_rows =
    state-rest start start_number start_lengths
    ∙ test_clear 13 (keys start) (λ k. wrong_entry start_number (entry start k)) (λ k h. rw (start-absent k (rw start-keys at h)))

-- ---- the pages of good transactions

-- a transaction within the ranges of its types and without a fault
abbrev pub fits_read : Read → Bool
fits_read r = ltb r.key (2 ^ 16) && ltb r.version.place (2 ^ 16) && ltb r.version.block (2 ^ 32)

abbrev pub fits_write : Write → Bool
fits_write w = ltb w.key (2 ^ 16) && ltb w.kind (2 ^ 16) && ltb (mag w.value) (2 ^ hbits w64)

abbrev pub clear? : Fault → Bool
clear? clear = true
clear? (fault n p) = false

is_clear_lem : (f : Fault) → T (clear? f) → f ≡ clear
is_clear_lem (fault number place) t = elim t [ ]
is_clear_lem clear t = refl

abbrev pub good : Tx → Bool
good x =
    ltb x.ticket (2 ^ 32)
    && all fits_read x.reads
    && all fits_write x.writes
    && clear? (first_of (count_rows (length x.reads) (length x.writes)))
    && clear? (first_of (entry_rows x))

three : (a b c : Bool) → T (a && b && c) → T a × T b × T c
three true true c t = (tt, tt, t)
three false b c t = elim t [ ]
three true false c t = elim t [ ]

read_fits : (r : Read) → T (fits_read r) → ReadFits r
read_fits r t =
    let u = three (ltb r.key (2 ^ 16)) (ltb r.version.place (2 ^ 16)) (ltb r.version.block (2 ^ 32)) t in
    record { key = ltb→lt _ _ u.0; place = ltb→lt _ _ u.1; block = ltb→lt _ _ u.2 }

write_fits : (w : Write) → T (fits_write w) → WriteFits w
write_fits w t =
    let u = three (ltb w.key (2 ^ 16)) (ltb w.kind (2 ^ 16)) (ltb (mag w.value) (2 ^ hbits w64)) t in
    record { key = ltb→lt _ _ u.0; kind = ltb→lt _ _ u.1; value = record { sfits = ltb→lt _ _ u.2 } }

good-page : (x : Tx) → T (good x) → page_fault (page_of x) ≡ clear
good-page x t =
    let c = clear? (first_of (count_rows (length x.reads) (length x.writes))) in
    let u = three (ltb x.ticket (2 ^ 32) && all fits_read x.reads && all fits_write x.writes) c (clear? (first_of (entry_rows x))) t in
    let v = three (ltb x.ticket (2 ^ 32)) (all fits_read x.reads) (all fits_write x.writes) u.0 in
    let fits : Fitting x = record {
      ticket = ltb→lt x.ticket (2 ^ 32) v.0;
      reads = λ i h. read_fits (read_of x.reads i) (all-out fits_read x.reads v.1 (get_or_in x.reads i no_read h));
      writes = λ i h. write_fits (write_of x.writes i) (all-out fits_write x.writes v.2 (get_or_in x.writes i no_write h));
    } in
    (good_back x fits (is_clear_lem _ u.1) (is_clear_lem _ u.2)).0

page_long : (x : Tx) → T (good x) → length (page_of x) ≡ 512
page_long x t = (good-counted (page_of x) (good-page x t)).whole

-- as many bytes, and as many good pages
batch_long : (xs : List Tx) → T (all good xs) → length (batch_of xs) ≡ length xs * 512
unfolding batch_of
batch_long [] t = refl
batch_long (x ∷ xs) t =
    let a = page_long x (and_left (good x) (all good xs) t) in
    let b = batch_long xs (and_right (good x) (all good xs) t) in
    length-append (page_of x) (batch_of xs) ∙ omega arith

pages-good : (xs : List Tx) → T (all good xs) → (i : ℕ) → i < length xs → page_fault (page_at (batch_of xs) i) ≡ clear
unfolding batch_of
pages-good [] t i h = absurd (omega arith)
pages-good (x ∷ xs) t zero h =
    let g = and_left (good x) (all good xs) t in
    ap page_fault (page-first (page_of x) (batch_of xs) (page_long x g)) ∙ good-page x g
pages-good (x ∷ xs) t (suc i) h =
    ap page_fault (page-next (page_of x) (batch_of xs) i (page_long x (and_left (good x) (all good xs) t)))
    ∙ pages-good xs (and_right (good x) (all good xs) t) i (omega arith)

-- ---- the gate lets them through

-- what the gate looks for after the faults of each page, under k keys: 15 and 16
abbrev pub after : List ℕ → ℕ → Fault
after input k = first_of (ticket_rows input k ++ key_rows input k)

pages-clear :
    (input : List ℕ) (k : ℕ) → ((i : ℕ) → i < pages input → page_fault (page_at input i) ≡ clear) →
    after input k ≡ clear → first_of (pages_rows input k) ≡ clear
pages-clear input k f g =
    let h = append_none (ticket_rows input k) (key_rows input k) g in
    pages-rest input k (each-clear (rows_at input) (pages input) (λ i l. good-at input i (f i l))) h.0 ∙ h.1

-- over any state without a fault, with lists that are long enough
pub open_over :
    (xs : List Tx) (s : State) (n : ℕ) (vs os out : List ℕ) → T (all good xs) → length xs ≤ 64 →
    first_of (state_rows s n) ≡ clear → short (batch_of xs) vs os out ≡ false → after (batch_of xs) (keys s) ≡ clear →
    first_of (plan_rows (batch_of xs) s n vs os out) ≡ clear
open_over xs s n vs os out t few e f g =
    let l : length (batch_of xs) ≡ length xs * 512 = batch_long xs t in
    let p : pages (batch_of xs) ≡ length xs = omega arith in
    gate_pages (own (batch_of xs) s n vs os out) (batch_of xs) s n
    (front_clear (batch_of xs) s n (not_wrong (batch_of xs) (omega arith) (omega arith)) e)
    (one-clear 14 0 (short (batch_of xs) vs os out) f)
    ∙ pages-clear (batch_of xs) (keys s) (λ i h. pages-good xs t i (omega arith)) g

-- over the keys and the lists of the listing program
abbrev pub later : List ℕ → Fault
later input = after input 1024

-- what it finds in an input of the program
abbrev pub shut : List ℕ → Fault
shut input = first_of (plan_rows input start start_number (replicate 64 0) (replicate 64 0) (replicate 32768 0))

not_short : (m v o u : ℕ) → m ≤ 64 → 64 ≤ v → 64 ≤ o → 32768 ≤ u → (ltb v m || ltb o m || ltb u (512 * m)) ≡ false
not_short m v o u h a b c = rw (le-ltb v m (omega arith), le-ltb o m (omega arith), le-ltb u (512 * m) (omega arith))

pub open_gate : (xs : List Tx) → T (all good xs) → length xs ≤ 64 → later (batch_of xs) ≡ clear → shut (batch_of xs) ≡ clear
open_gate xs t few e =
    let l : length (batch_of xs) ≡ length xs * 512 = batch_long xs t in
    let p : pages (batch_of xs) ≤ 64 = omega arith in
    open_over xs start start_number (replicate 64 0) (replicate 64 0) (replicate 32768 0) t few start_rows
    (not_short (pages (batch_of xs)) _ _ _ p (long 64 0) (long 64 0) (long 32768 0))
    (ap (after (batch_of xs)) start-keys ∙ e)
