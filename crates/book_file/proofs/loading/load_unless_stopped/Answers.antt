-- `book_file::loading::load_unless_stopped` meets its contract: the header stops it, or the records are loaded into a fresh book.
-- Assumes nothing.
use mathlib.Core.List.{List}
use mathlib.Core.Path.{◌≡◌, ap, sym, ◌∙◌}
use Prim.Native.Nat.{ℕ, zero, suc}
use native.Mathlib.Omega.{arith}
use lib.ListN.{length}
use borrow.Author.Tests.{le-ltb}
use Rattle.std.proofs.Common.{rules, refl}
use Rattle.apportion.specs.Refusals.{number_of}
use Rattle.apportion.proofs.Grounds.{refused-old}
use Rattle.apportion.proofs.Refusals.{none-refused}
use Rattle.book_words.specs.Book.{book_length}
use Rattle.book_words.specs.Soundness.{sound}
use Rattle.book.specs.Calls.{fresh_refusal}
use Rattle.book_file.specs.declared.answers.Load.{Load}
use Rattle.book_file.specs.declared.answers.Load.TheVariants.{Loaded, Stopped}
use Rattle.book_file.specs.declared.answers.Place.TheVariants.{Header}
use Rattle.book_file.specs.declared.answers.Stop.{Stop}
use Rattle.book_file.specs.Answers.{answer_at}
use Rattle.book_file.specs.File.{header_refusal}
use Rattle.book_file.specs.Loading.{Loading, tasks_of, loading_of, carried_on, load_of}
use Rattle.book_file.proofs.Headers.{header-long}
use Rattle.book_file.proofs.Laws.{header-stops, header-passes, fresh-fine}
use Rattle.book_file.proofs.TaskLoop.{stop-handed}
use Rattle.book_file.proofs.loading.load_unless_stopped.Goals as goal

-- whether a load is stopped, as a number
abbrev stopped : Load → ℕ
stopped Loaded = 0
stopped (Stopped n place) = 1

-- a header that stops a load stops it with its refusal number
header-stop : (ws file : List ℕ) (stop : Stop) → Stopped (number_of stop.refusal) stop.place ≡ answer_at (header_refusal (length ws) file) Header
    → loading_of (Stopped (number_of stop.refusal) stop.place) ws ≡ load_of ws file
unfolding answer_at
header-stop ws file stop e =
    let n = header_refusal (length ws) file in
    let some : n ≡ 0 → ⊥ = λ z. omega (arith, ap stopped (e ∙ ap (λ (m : ℕ). answer_at m Header) z)) in
    ap (λ (a : Load). loading_of a ws) (e ∙ refused-old n Loaded (Stopped n Header) some) ∙ sym (header-stops ws file some)

-- and one that does not has the number 0
header-pass : (ws file : List ℕ) {n : ℕ} → Loaded ≡ answer_at n Header → n ≡ header_refusal (length ws) file → header_refusal (length ws) file ≡ 0
unfolding answer_at
header-pass ws file loaded is = sym is ∙ none _ loaded
  where
    none : (n : ℕ) → Loaded ≡ answer_at n Header → n ≡ 0
    none zero e = refl
    none (suc n) e = let z : ⊥ = omega (arith, ap stopped e) in absurd z

-- a fresh book is made of a slice that the header finds long enough
fresh-accepted : (ws file : List ℕ) → header_refusal (length ws) file ≡ 0 → fresh_refusal ws ≡ 0
unfolding fresh_refusal
fresh-accepted ws file none = rw (le-ltb (length ws) book_length (header-long (length ws) file none))

-- the same answer with the same words is the same
left-as : {answer other : Load} {here there : List ℕ} {loading : Loading} → answer ≡ other → here ≡ there → loading_of other there ≡ loading
    → loading_of answer here ≡ loading
left-as same is e = rw (same, is) e

pub returns-in_err-stop_at : goal.returns-in_err-stop_at
returns-in_err-stop_at c =
    let stop = c.in_err-stop_at.field-0.0 in
    rw (stop-handed stop c.from_residual.result c.from_residual.ensures.1)
    (header-stop c.args.book.now c.args.file.now stop
    (c.in_err-stop_at.ensures ∙ ap (λ (n : ℕ). answer_at n Header) c.check_grounds.ensures))

pub unwrap-requires : goal.unwrap-requires
unwrap-requires c =
    let fine = header-pass c.args.book.now c.args.file.now c.in_ok-stop_at.ensures c.check_grounds.ensures in
    none-refused c.fresh.result (c.fresh.ensures.value ∙ fresh-accepted c.args.book.now c.args.file.now fine)

pub of-requires : goal.of-requires
of-requires c =
    let fine = header-pass c.args.book.now c.args.file.now c.in_ok-stop_at.ensures c.check_grounds.ensures in
    ap sound c.fresh.ensures.book_after ∙ fresh-fine c.args.book.now c.args.file.now fine

pub returns : goal.returns
returns c =
    let fine = header-pass c.args.book.now c.args.file.now c.in_ok-stop_at.ensures c.check_grounds.ensures in
    left-as refl (search rules)
    (c.load_records.ensures.book_after
    ∙ ap (λ (ws : List ℕ). carried_on (loading_of Loaded ws) (tasks_of c.args.file.now)) c.fresh.ensures.book_after
    ∙ sym (header-passes c.args.book.now c.args.file.now fine))
