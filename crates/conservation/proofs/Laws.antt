-- Demand 3 and the class total, for every list of calls. Assumes nothing.
use mathlib.Core.Bool.{Bool, true, false, cond, ◌&&◌}
use mathlib.Core.List.{List, [], ◌∷◌}
use mathlib.Core.Option.{some}
use mathlib.Core.Path.{◌≡◌, refl, sym, ap, ◌∙◌}
use Prim.Native.Nat.{ℕ, ◌+◌, ◌-◌, ◌≤◌, ◌<◌}
use native.Mathlib.Omega.{arith}
use lib.Dec.{eqb, leb}
use lib.ListN.{length}
use borrow.Author.Tests.{le-leb}
use Rattle.std.proofs.lemmas.Bool.{and_from}
use Rattle.apportion.specs.Places.{one_if, sum_below}
use Rattle.book_words.specs.Book.{book_length, elements, element_at, is_closed}
use Rattle.book_words.specs.Measures.{is_chain, most_chains}
use Rattle.book_words.specs.Soundness.{sound}
use Rattle.book_words.specs.declared.totals.Side.{Side}
use Rattle.book_words.specs.declared.totals.Side.TheVariants.{Operation as operation, Provision as provision}
use Rattle.book_words.specs.Totals.{share_of, shares_of}
use Rattle.book_shares.specs.Shares.{exact_of}
use Rattle.book.specs.Calls.{open_reply, post_reply, enrol_reply, quote_reply}
use Rattle.book.specs.Lines.{line_post}
use Rattle.book.specs.ClassTotal.{over_elements, class_total}
use Rattle.book.specs.Statements.{statement_reply, statement_of, elements_over, waiting_over, shares_over, of_chain, waits}
use Rattle.apportion.proofs.Grounds.{either}
use Rattle.apportion.proofs.Sums.{sum-add, sum-cong}
use Rattle.book_words.proofs.ShareSums.{category-inside, open-shares, shares-all, sum-by-chain}
use Rattle.book.proofs.Laws.{fresh_accepted, fresh-sound, open-sound, open-refused, post-sound, post-refused, strike-sound, strike-refused}
use Rattle.book.proofs.Laws.{line-posted, line_refused, line-sound}
use Rattle.book.proofs.Laws.{open-added, post-added, strike-struck, enrol-added, quote-added, close-closed}
use Rattle.book.proofs.Laws.{enrol-sound, enrol-refused, quote-sound, quote-refused, close-sound, close-refused, statement-accepted}
use Rattle.conservation.specs.declared.Call.{Call}
use Rattle.conservation.specs.declared.Call.TheVariants.{Open, Post, Line, Strike, Enrol, Quote, Close}
use Rattle.conservation.specs.Conserved.{gets, chain_of, waits_in, chain_gets, statement_in, quoted_on, stated_on, emissions, exact_in, Conserved, Conservation}
use Rattle.conservation.specs.ClassTotal.{class_total_in, TotalConservation}
use Rattle.conservation.specs.Runs.{Run, step, next, after, run_of}
use Rattle.conservation.specs.Tally.{Enrolment, Quotation, enrolled, quoted, numbered, closed_in, feed}
use Rattle.conservation.proofs.NearExact.{Near, near-fresh, near-open, near_post, near-strike, near-enrol, near-quote, near-close}
use Rattle.conservation.proofs.BookAsTally.{enrolment_of, quotation_of, tally_of, closed-read, fresh-read, step-read}
use Rattle.conservation.proofs.TallySums.{read-enrolled, read-quoted, chain-read, elements-sum, element-told, exact_read}
use Rattle.conservation.proofs.TallySums.{waits-read, closed-sum, quoted-sum}
pub use Rattle.conservation.proofs.TallyLists.{numbered-each}

-- a sound book whose closed categories' shares are near, with the tally that it is read as
module _ (ws : List ℕ) (fine : sound ws ≡ true) where
  known : (chain : ℕ) → 1 ≤ chain → chain ≤ most_chains → is_chain chain ≡ true
  known chain low high = and_from (leb 1 chain) (leb chain most_chains) (le-leb 1 chain low) (le-leb chain most_chains high)

  -- the counts and sums of a statement are the tally's
  counted : (chain : ℕ) → elements_over ws (of_chain chain) ≡ (statement_in (tally_of ws) ws chain).elements
  unfolding elements_over
  counted chain =
      sym
      (elements-sum ws (λ k e. one_if (eqb (chain_of e) chain))
      (λ p. one_if (of_chain chain (element_at ws p)))
      (λ p h. ap (λ (n : ℕ). one_if (eqb n chain)) (chain-read (element_at ws p))))

  waiting : (chain : ℕ) → waiting_over ws (of_chain chain) ≡ (statement_in (tally_of ws) ws chain).waiting
  unfolding waiting_over
  waiting chain =
      sym
      (elements-sum ws (λ k e. one_if (eqb (chain_of e) chain && waits_in (tally_of ws) e))
      (λ p. one_if (of_chain chain (element_at ws p) && waits ws (element_at ws p)))
      (λ p h. rw (chain-read (element_at ws p), waits-read ws fine p h)))

  gotten : (chain : ℕ) (side : Side) → shares_over ws (of_chain chain) side ≡ chain_gets (tally_of ws) ws chain side
  unfolding shares_over
  gotten chain side =
      sym
      (elements-sum ws (λ k e. cond (eqb (chain_of e) chain) (gets ws k side) 0)
      (λ p. cond (of_chain chain (element_at ws p)) (share_of side (element_at ws p)) 0)
      (λ p h.
      let back : p + 1 - 1 ≡ p = omega arith in
      rw (chain-read (element_at ws p), back)))

  stated : (chain : ℕ) → 1 ≤ chain → chain ≤ most_chains → statement_reply ws chain ≡ statement_in (tally_of ws) ws chain
  unfolding statement_of
  stated chain low high =
      statement-accepted ws chain fine (known chain low high)
      ∙ rw (counted chain, waiting chain, gotten chain operation, gotten chain provision)

  -- what the statement of a chain says of a side
  said : (side : Side) (p : ℕ) → p < most_chains → stated_on side (statement_reply ws (p + 1)) ≡ shares_over ws (of_chain (p + 1)) side
  unfolding statement_of
  said side p h = ap (stated_on side) (statement-accepted ws (p + 1) fine (known (p + 1) (omega arith) (omega arith))) ∙ of-side side
    where
      of-side : (s : Side) → stated_on s (statement_of ws (p + 1)) ≡ shares_over ws (of_chain (p + 1)) s
      of-side operation = refl
      of-side provision = refl

  -- what all elements got
  all-shares : (side : Side) → over_elements ws (share_of side) ≡ emissions (tally_of ws) side
  unfolding emissions shares_of
  all-shares side = shares-all ws fine side ∙ sym (rw (closed-sum ws fine side, quoted-sum ws side))

  handed : (side : Side) → sum_below most_chains (λ p. stated_on side (statement_reply ws (p + 1))) ≡ emissions (tally_of ws) side
  unfolding shares_over
  handed side =
      sum-cong most_chains (λ p. stated_on side (statement_reply ws (p + 1))) (λ p. shares_over ws (of_chain (p + 1)) side) (said side)
      ∙ sum-by-chain ws fine (share_of side)
      ∙ all-shares side

  -- so the class total is the tally's
  total-read : class_total ws ≡ class_total_in (tally_of ws)
  unfolding class_total
  total-read =
      let n = elements ws in
      let all = elements-sum ws (λ k e. 1) (λ p. 1) (λ p h. refl) in
      let wait = elements-sum ws (λ k e. one_if (waits_in (tally_of ws) e)) (λ p. one_if (waits ws (element_at ws p))) (λ p h. rw (waits-read ws fine p h)) in
      let both = sum-add n (λ p. (element_at ws p).operation) (λ p. (element_at ws p).provision) in
      rw (all, wait, both, ← all-shares operation, ← all-shares provision)

  -- the element of the book that an enrolment of the tally is
  module _ (k : ℕ) (e : Enrolment) (is : numbered (tally_of ws).elements k ≡ some (enrolled e)) where
    inside : k - 1 < elements ws
    inside = let there = element-told ws k (enrolled e) is in omega arith

    record-read : ((element_at ws (k - 1)).category ≡ 0 → ⊥) × (enrolment_of (element_at ws (k - 1)) ≡ e)
    record-read = read-enrolled (element_at ws (k - 1)) e (element-told ws k (enrolled e) is).2

    category_closed : (b : Bool) → closed_in (tally_of ws) e.arguments.category ≡ b → is_closed ws (element_at ws (k - 1)).category ≡ b
    category_closed b is' =
        let there = record-read.0 in
        sym (closed-read ws (element_at ws (k - 1)).category (omega arith) (category-inside ws fine (k - 1) inside))
        ∙ ap (λ (x : Enrolment). closed_in (tally_of ws) x.arguments.category) record-read.1
        ∙ is'

  conserving : Near ws → Conserved (tally_of ws) ws
  conserving near =
      record {
        each_statement = stated;
        all_handed_out = handed;
        closed_near = λ k e is closed side.
            let r = element_at ws (k - 1) in
            let there = record-read k e is in
            let exact : exact_in (tally_of ws) side e ≡ exact_of ws r.category side r =
            ap (exact_in (tally_of ws) side) (sym there.1) ∙ exact_read ws r side there.0 in
            rw exact (near (k - 1) (inside k e is) there.0 (category_closed k e is true closed) side);
        quoted_exact = λ k q is side. of-side side k q (read-quoted (element_at ws (k - 1)) q (element-told ws k (quoted q) is).2).1;
        open_none = λ k e is unclosed side. open-shares ws fine (k - 1) (inside k e is) (record-read k e is).0 (category_closed k e is false unclosed) side;
      }
    where
      of-side : (side : Side) (k : ℕ) (q : Quotation) → quotation_of (element_at ws (k - 1)) ≡ q → gets ws k side ≡ quoted_on side q
      of-side operation k q e = ap (λ (x : Quotation). x.operation) e
      of-side provision k q e = ap (λ (x : Quotation). x.provision) e

-- a refused call leaves the book as it was
pub step-refused : (ws : List ℕ) (call : Call) → ((step ws call).reply.refusal ≡ 0 → ⊥) → (step ws call).book ≡ ws
unfolding open_reply post_reply enrol_reply quote_reply
step-refused ws (Open kind) = open-refused ws kind
step-refused ws (Post p) = post-refused ws p
step-refused ws (Line l) = line_refused ws l
step-refused ws (Strike entry) = strike-refused ws entry
step-refused ws (Enrol enrolment) = enrol-refused ws enrolment
step-refused ws (Quote q) = quote-refused ws q
step-refused ws (Close category) = close-refused ws category

-- a call, accepted or refused, leaves as many words as there were
made-length : (ws : List ℕ) (call : Call) → (step ws call).reply.refusal ≡ 0 → length (step ws call).book ≡ length ws
unfolding open_reply post_reply enrol_reply quote_reply
made-length ws (Open kind) e = (open-added ws kind e).same_length
made-length ws (Post p) e = (post-added ws p e).same_length
made-length ws (Line l) e =
    let posted = line-posted ws l e in
    ap length posted.1 ∙ (post-added ws (line_post l) posted.0).same_length
made-length ws (Strike entry) e = (strike-struck ws entry e).same_length
made-length ws (Enrol enrolment) e = (enrol-added ws enrolment e).same_length
made-length ws (Quote q) e = (quote-added ws q e).same_length
made-length ws (Close category) e = (close-closed ws category e).same_length

pub step-length : (ws : List ℕ) (call : Call) → length (step ws call).book ≡ length ws
step-length ws call =
    either (λ b. length b ≡ length ws) (step ws call).reply.refusal (step ws call).book ws (step-refused ws call) (made-length ws call) refl

-- a call, accepted or refused, leaves a sound book sound
pub sound-step : (ws : List ℕ) (call : Call) → sound ws ≡ true → sound (step ws call).book ≡ true
sound-step ws (Open kind) = open-sound ws kind
sound-step ws (Post p) = post-sound ws p
sound-step ws (Line l) = line-sound ws l
sound-step ws (Strike entry) = strike-sound ws entry
sound-step ws (Enrol enrolment) = enrol-sound ws enrolment
sound-step ws (Quote q) = quote-sound ws q
sound-step ws (Close category) = close-sound ws category

-- an accepted call leaves the shares near
near-made : (ws : List ℕ) (call : Call) → (step ws call).reply.refusal ≡ 0 → Near ws → Near (step ws call).book
unfolding open_reply post_reply enrol_reply quote_reply
near-made ws (Open kind) = near-open ws kind
near-made ws (Post p) = near_post ws p
near-made ws (Line l) = λ e near. let posted = line-posted ws l e in rw posted.1 (near_post ws (line_post l) posted.0 near)
near-made ws (Strike entry) = near-strike ws entry
near-made ws (Enrol enrolment) = near-enrol ws enrolment
near-made ws (Quote q) = near-quote ws q
near-made ws (Close category) = near-close ws category

near_step : (ws : List ℕ) (call : Call) → Near ws → Near (step ws call).book
near_step ws call near =
    either Near (step ws call).reply.refusal (step ws call).book ws (step-refused ws call) (λ e. near-made ws call e near) near

-- what holds of a run after every call: the book is sound, its shares are near, and the tally is what the book is read as
record Kept (run : Run) : Type 0 where
  book_sound : sound run.book ≡ true
  book_near : Near run.book
  tally_read : run.tally ≡ tally_of run.book

kept_next : (run : Run) (call : Call) → Kept run → Kept (next run call)
kept_next run call kept =
    record {
      book_sound = sound-step run.book call kept.book_sound;
      book_near = near_step run.book call kept.book_near;
      tally_read = ap (λ t. feed t call (step run.book call).reply.refusal) kept.tally_read ∙ step-read run.book call;
    }

kept-after : (run : Run) (calls : List Call) → Kept run → Kept (after run calls)
kept-after run [] kept = kept
kept-after run (call ∷ calls) kept = kept-after (next run call) calls (kept_next run call kept)

kept_run : (ws : List ℕ) → book_length ≤ length ws → (calls : List Call) → Kept (run_of ws calls)
kept_run ws long calls =
    kept-after (run_of ws []) calls
    (record { book_sound = fresh-sound ws long; book_near = near-fresh ws long; tally_read = sym (fresh-read ws long) })

-- Demand 3, of every list of calls from a fresh book.
pub conserved : Conservation
conserved ws long calls =
    let kept = kept_run ws long calls in
    (fresh_accepted ws long, rw kept.tally_read (conserving (run_of ws calls).book kept.book_sound kept.book_near))

-- And of the class total.
pub total-conserved : TotalConservation
total-conserved ws long calls =
    let kept = kept_run ws long calls in
    total-read (run_of ws calls).book kept.book_sound ∙ ap class_total_in (sym kept.tally_read)
