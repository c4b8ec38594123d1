-- `book::appending::append` meets its contract: the words are written behind the last record. Assumes nothing.
use mathlib.Core.List.{List, ◌++◌}
use mathlib.Core.Path.{◌≡◌, refl, sym, ◌∙◌, ap}
use Prim.Native.Nat.{ℕ, ◌+◌, ◌-◌, ◌≤◌, ◌<◌}
use native.Mathlib.Nat.{mul-le-mul_left}
use native.Mathlib.Omega.{arith}
use lib.ListN.{length, set, take, drop, get_or}
use lib.Seq.{sets, sets-eq, take-length}
use borrow.Rule.Slice.PartMut.{put_mid}
use Rattle.std.proofs.lemmas.Slice.{put_mid-paste}
use Rattle.book_words.specs.Book.{start_of, count_of, most_elements}
use Rattle.book_words.specs.declared.records.Layout.{Layout}
use Rattle.book.proofs.appending.append.Goals as goal

-- words that are written to a part of a slice are stored there one after the other
stored : (ws words : List ℕ) (start n : ℕ) → n ≡ length words → start + length words ≤ length ws → put_mid start n ws words ≡ sets ws start words
stored ws words start n long room =
    put_mid-paste start n ws words words (length words) refl (sym long) refl
    ∙ ap (λ (l : List ℕ). take start ws ++ l ++ drop (start + length words) ws) (take-length words)
    ∙ sym (sets-eq words ws start room)

-- the record behind the last is within the list
within : (list : Layout) (most count : ℕ) → count < most → start_of list count + list.width ≤ start_of list most
within list most count less =
    let next : count + 1 ≤ most = omega arith in
    omega (arith, mul-le-mul_left list.width next)

-- so few records are counted
few : (g : _) (c : goal.After-slice_known-3-1 g) → get_or c.args.book.now c.LIST-list.result.counter 0 + 1 ≤ most_elements
few g c =
    let most = g.met.R.Record.inside.2 in
    let less = c.requires.1 in
    omega (arith, ap (λ (l : Layout). get_or c.args.book.now l.counter 0) c.LIST-list.ensures)

pub overflow_add-book : goal.overflow_add-book
overflow_add-book g c = omega (arith, few g c)

pub overflow_add-result : goal.overflow_add-result
overflow_add-result g c = omega (arith, few g c)

pub returns-clause-book_after : goal.returns-clause-book_after
returns-clause-book_after g c =
    let ws = c.args.book.now in
    let list = g.R.Record.LIST in
    let words = g.R.Record.words_of c.args.added in
    let start = start_of list (count_of ws list) in
    let long : length words ≡ list.width = g.met.R.Record.width c.args.added in
    let room : start + length words ≤ length ws =
    let inside = g.met.R.Record.inside.1 in
    omega (arith, long, within list g.R.Record.MOST (count_of ws list) c.requires.1) in
    rw (c.LIST-list.ensures, c.write.ensures)
    (ap (λ (l : List ℕ). set l list.counter (count_of ws list + 1)) (stored ws words start (start + list.width - start) (omega (arith, long)) room))
