-- `fill_listing`: nothing where what is lent does not go together, else header, pages and keys.
use Prim.Native.Nat.{◌≤◌}
use mathlib.Core.Path.{sym, ap, ◌∙◌}
use native.Mathlib.Omega.{arith}
use lib.ListN.{length, get_or}
use Rattle.ledger.specs.State.{lent as lent_state}
use Rattle.ledger.specs.Gate.{pages, tx_at}
use Rattle.report.specs.Listing.{page_line, listing}
use Rattle.lists.proofs.Tables.{flat-same}
use borrow.Author.Rules.{rules}
use Rattle.report.proofs.Puts.{◌then◌, puts_as, started, at_last}
use Rattle.report.proofs.Parts.{place_front}
use Rattle.report.proofs.Texts.{Lent, Sized, Long, long, short-out, long_batch, short-verdicts, short-order, many_kept, wrong_state, all_listed}
use Rattle.report.proofs.fill_listing.Goals as goal
use Rattle.report.proofs.fill_listing.Goals.{Else-has_wrong_lengths, then-out-lt-LISTING_ROOM-via-then-out-lt-LISTING_ROOM, then-out-lt-LISTING_ROOM-via-else-out-lt-LISTING_ROOM+then-batch-gt-MOST_BYTES, then-out-lt-LISTING_ROOM-via-else-out-lt-LISTING_ROOM+else-batch-gt-MOST_BYTES+then-verdicts-m, then-kept-order-via-then-kept-order, then-kept-order-via-else-kept-order+then-kept-gt-MOST_PAGES}

-- what is lent at the start
abbrev lent : Else-has_wrong_lengths → Lent
lent c =
    let a = c.args in
    record { out = a.out.now; number = a.n; batch = a.batch.now; verdicts = a.verdicts.now; order = a.order.now; kept = a.kept; state = lent_state a.state }

-- past the tests it goes together
sized : (c : Else-has_wrong_lengths) → Sized (lent c)
sized c =
    record {
      room = c.if-out-lt-LISTING_ROOM.false;
      bytes = c.if-batch-gt-MOST_BYTES.false;
      judged = c.if-verdicts-m.false;
      ordered = c.if-kept-order.false;
      few = c.if-kept-gt-MOST_PAGES.false;
      level = sym c.has_wrong_lengths.ensures ∙ c.if-has_wrong_lengths.false;
    }

three : (c : Else-has_wrong_lengths) → Long (lent c).state
three c = long _ (sized c).level

pub returns-then-out-lt-LISTING_ROOM : goal.returns-then-out-lt-LISTING_ROOM
returns-then-out-lt-LISTING_ROOM c =
    elim c.then-out-lt-LISTING_ROOM.branch [
      | then-out-lt-LISTING_ROOM-via-then-out-lt-LISTING_ROOM w ↦ short-out _ w.if-out-lt-LISTING_ROOM.true
      | then-out-lt-LISTING_ROOM-via-else-out-lt-LISTING_ROOM+then-batch-gt-MOST_BYTES w ↦ long_batch _ w.if-batch-gt-MOST_BYTES.true
      | then-out-lt-LISTING_ROOM-via-else-out-lt-LISTING_ROOM+else-batch-gt-MOST_BYTES+then-verdicts-m w ↦ short-verdicts _ w.if-verdicts-m.true
    ]

pub returns-then-kept-order : goal.returns-then-kept-order
returns-then-kept-order c =
    elim c.then-kept-order.branch [
      | then-kept-order-via-then-kept-order w ↦ short-order _ w.if-kept-order.true
      | then-kept-order-via-else-kept-order+then-kept-gt-MOST_PAGES w ↦ many_kept _ w.if-kept-gt-MOST_PAGES.true
    ]

pub returns-then-has_wrong_lengths : goal.returns-then-has_wrong_lengths
returns-then-has_wrong_lengths c =
    wrong_state _ (sym c.has_wrong_lengths.ensures ∙ c.if-has_wrong_lengths.true)

pub returns : goal.returns
unfolding listing
returns c =
    let e = (goal.at.returns c).Else-has_wrong_lengths in
    let z = sized e in
    let s = c.new-text.ensures.empty in
    let t = c.put_keys in
    let a = c.args in
    let k : a.kept ≤ length a.order.now = omega (arith, z.ordered) in
    let f = flat-same _ _ (pages a.batch.now) (λ i l. ap (page_line (tx_at a.batch.now i).ticket (get_or a.verdicts.now i 0)) (place_front a.order.now a.kept i k)) in
    let p = c.put_header.ensures then puts_as f c.put_pages.ensures then t.ensures in
    let n = all_listed (lent e) _ _ z (omega (arith, z.bytes, (three e).keys, s.0, p.bound)) (started s p.put) in
    record { result_value = n.result_value; out_after = at_last t.new.text.out.now _ n.out_after (search rules) }
