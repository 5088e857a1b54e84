use mathlib.Core.Path.{◌≡◌, sym, ap, ◌∙◌}
use Prim.Native.Nat.{◌-◌, ◌<◌}
use native.Mathlib.Omega.{arith}
use lib.ListN.{length, get_or}
use Rattle.std.proofs.lemmas.Bool.Decides.{nat_tests}
use Rattle.refusals.specs.Outcome.{number_of}
use Rattle.ledger.specs.Listed.{listed}
use Rattle.ledger.proofs.Listed.{length-listed}
use Rattle.ledger.proofs.Entering.{entering_begins, entering_turns, entering_ends, empty_good, too_high, falls, is_wrong}
use Rattle.ledger.proofs.page.entries.Entries.are_good.Given.{Over}
use Rattle.ledger.proofs.page.entries.Entries.are_good.Goals as goal
use Rattle.ledger.proofs.page.entries.Entries.are_good.Goals.{After-is_wrong, After-key, After-key-key, In-loop-i, Start}

-- how many entries there are
many : (g : Over) (c : Start g) → let e = g.E.PageEntry in let s = c.args.self.now in
    length (listed e.at e.SIZE s.page.now s.from s.count) ≡ s.count
many g c = let e = g.E.PageEntry in let s = c.args.self.now in length-listed e.at e.SIZE s.page.now s.from s.count

-- a turn's index is one of an entry, with its key and its test
within : (g : Over) (c : In-loop-i g) → let e = g.E.PageEntry in let s = c.args.self.now in
    c.loop-i.i < length (listed e.at e.SIZE s.page.now s.from s.count)
within g c =
    let e = g.E.PageEntry in
    let s = c.args.self.now in
    omega (arith, c.loop-i-test.true, length-listed e.at e.SIZE s.page.now s.from s.count)

key-is : (g : Over) (c : After-key-key g) → let e = g.E.PageEntry in let s = c.args.self.now in
    c.key-key.result ≡ e.key (get_or (listed e.at e.SIZE s.page.now s.from s.count) c.loop-i.i e.NONE)
key-is g c = c.key-key.ensures ∙ ap g.E.PageEntry.key c.get-entry.ensures

test-is : (g : Over) (c : After-is_wrong g) → let e = g.E.PageEntry in let s = c.args.self.now in
    e.wrong (get_or (listed e.at e.SIZE s.page.now s.from s.count) c.loop-i.i e.NONE) ≡ c.is_wrong.result
test-is g c = sym (c.is_wrong.ensures ∙ ap g.E.PageEntry.wrong c.get-entry.ensures)

-- the last one's key
last-is : (g : Over) (c : After-key g) → let e = g.E.PageEntry in let s = c.args.self.now in
    let xs = listed e.at e.SIZE s.page.now s.from s.count in
    c.key.result ≡ e.key (get_or xs (length xs - 1) e.NONE)
last-is g c =
    let e = g.E.PageEntry in
    let s = c.args.self.now in
    let xs = listed e.at e.SIZE s.page.now s.from s.count in
    c.key.ensures
    ∙ ap e.key c.get-last.ensures
    ∙ ap (λ n. e.key (get_or xs (n - 1) e.NONE)) (sym (length-listed e.at e.SIZE s.page.now s.from s.count))

pub returns-then-self-eq0 : goal.returns-then-self-eq0
returns-then-self-eq0 g c =
    let e = g.E.PageEntry in
    empty_good (number_of e.KEYS) (number_of e.FORM) _ _ _ _ _ (many g (goal.at.returns-then-self-eq0 g c).Start ∙ c.if-self-eq0.true)

pub returns-then-key-gt-LAST_KEY : goal.returns-then-key-gt-LAST_KEY
returns-then-key-gt-LAST_KEY g c =
    let e = g.E.PageEntry in
    too_high (number_of e.KEYS) (number_of e.FORM) _ _ _ _ _ (last-is g (goal.at.returns-then-key-gt-LAST_KEY g c).After-key) (omega (arith, many g (goal.at.returns-then-key-gt-LAST_KEY g c).Start)) _ _ c.if-key-gt-LAST_KEY.true

pub loop-i-init : goal.loop-i-init
loop-i-init g c = let e = g.E.PageEntry in entering_begins (number_of e.KEYS) (number_of e.FORM) _ _ _

pub returns-then-key-floor : goal.returns-then-key-floor
returns-then-key-floor g c =
    let e = g.E.PageEntry in
    falls (number_of e.KEYS) (number_of e.FORM) _ _ _ _ _ (key-is g (goal.at.returns-then-key-floor g c).After-key-key) (within g (goal.at.returns-then-key-floor g c).In-loop-i) _ c.loop-i.invariant _ _ c.if-key-floor.true

pub returns-then-is_wrong : goal.returns-then-is_wrong
returns-then-is_wrong g c =
    let e = g.E.PageEntry in
    is_wrong (number_of e.KEYS) (number_of e.FORM) _ _ _ _ _ (key-is g (goal.at.returns-then-is_wrong g c).After-key-key) (within g (goal.at.returns-then-is_wrong g c).In-loop-i) _ _ (test-is g (goal.at.returns-then-is_wrong g c).After-is_wrong ∙ c.if-is_wrong.true)

pub loop-i-preserved : goal.loop-i-preserved
loop-i-preserved g c =
    let e = g.E.PageEntry in
    entering_turns (number_of e.KEYS) (number_of e.FORM) _ _ _ _ _ (key-is g (goal.at.loop-i-preserved g c).After-key-key) (within g (goal.at.loop-i-preserved g c).In-loop-i) _ c.loop-i.invariant _ c.if-key-floor.false (test-is g (goal.at.loop-i-preserved g c).After-is_wrong ∙ c.if-is_wrong.false) (grind (arith, nat_tests, g.met.E.PageEntry.sized))

pub returns : goal.returns
returns g c =
    let e = g.E.PageEntry in
    entering_ends (number_of e.KEYS) (number_of e.FORM) _ _ _ _ _ _ _ _ c.loop-i.invariant (omega (arith, c.loop-i-test.false, many g (goal.at.returns g c).Start)) (last-is g (goal.at.returns g c).After-key) c.if-key-gt-LAST_KEY.false
