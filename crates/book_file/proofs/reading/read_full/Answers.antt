-- `book_file::read_full` meets its contract. Assumes nothing.
use Rattle.std.proofs.Common.{◌≡◌, ℕ, ◌+◌, ◌≤◌, List, ◌++◌, length, take, sym, ◌∙◌, ap, arith, length-append}
use Rattle.std.proofs.KnownBytes.{Consumes-trans}
use lib.Seq.{length-take-le, take-append-add, take-append-le}
use Rattle.book_file.proofs.reading.read_full.Goals as goal

-- the first bytes of the buffer, once more are read behind them
front-read : (buffer read : List ℕ) (done count : ℕ) (post : List ℕ) → done ≤ length buffer → count ≤ length read
    → take (done + count) (take done buffer ++ (read ++ post)) ≡ take done buffer ++ take count read
front-read buffer read done count post in-buffer in-read =
    ap (λ (k : ℕ). take (k + count) (take done buffer ++ (read ++ post))) (sym (length-take-le done buffer in-buffer))
    ∙ take-append-add (take done buffer) (read ++ post) count
    ∙ ap (λ (xs : List ℕ). take done buffer ++ xs) (take-append-le count read post in-read)

-- which is no more than it has room for
front-fits : (buffer read : List ℕ) (done count : ℕ) (post : List ℕ) → done ≤ length buffer → count ≤ length read
    → done + count ≤ length (take done buffer ++ (read ++ post))
front-fits buffer read done count post in-buffer in-read =
    simp (length-append, length-take-le done buffer in-buffer) (omega arith)

pub loop-done-preserved : goal.loop-done-preserved
loop-done-preserved g c =
    let fits = c.loop-done.invariant.0 in
    let read = c.in-Ok.ensures.bound.0 in (
      front-fits c.loop-done.buffer c.read.new.buf c.loop-done.done c.in-Ok.count _ fits read,
      rw (front-read c.loop-done.buffer c.read.new.buf c.loop-done.done c.in-Ok.count _ fits read)
          (Consumes-trans _ _ _ _ _ c.loop-done.invariant.1 c.in-Ok.ensures.bytes.0),
    )
