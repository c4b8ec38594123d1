-- The table of a sheet after the first k elements: its start, and one element more. Assumes nothing.
use Prim.Native.Nat.{ℕ, zero, suc, ◌+◌, ◌-◌, ◌≤◌, ◌<◌}
use native.Mathlib.Nat.{eq-or-lt_of_le}
use native.Mathlib.Numerals.{add-one}
use native.Mathlib.Omega.{arith}
use mathlib.Core.Bool.{Bool, true, false, cond, true≢false}
use mathlib.Core.List.{List, [], ◌∷◌, ◌++◌, append-nil, append_assoc}
use mathlib.Core.Logic.{◌⊎◌, inl, inr, ⊎_elim}
use mathlib.Core.Path.{◌≡◌, refl, sym, ap, ◌∙◌}
use borrow.Author.Tests.{lt-ltb, eq-eqb, ne_eqb}
use lib.Dec.{ltb, eqb}
use lib.ListN.{length, get_or, set, length-append}
use lib.Seq.{take-append_seam, drop-append_seam}
use Rattle.std.proofs.lemmas.Bool.{cases_lt}
use Rattle.std.specs.List.{All, insert}
use Rattle.std.specs.List.Sorted.{IsNonDecreasingBy, IsPartitionPoint}
use Rattle.std.specs.Ordering.{nat_cmp, ordering_index}
use Rattle.std.specs.declared.cmp.Ordering.TheVariants.{Less, Equal, Greater}
use Rattle.std.proofs.lemmas.Bool.Decides.{nat_tests}
use Rattle.std.proofs.lemmas.Cmp.{ranked}
use Rattle.std.proofs.lemmas.List.{get_or_append_left, get_or-append-add, get_or_at, set_at}
use Rattle.std.proofs.lemmas.List.Elements.{All-nil, All-cons, All-append}
use Rattle.apportion.proofs.Sums.{order}
use Rattle.book.specs.Inner.Chains.{of_chains}
use Rattle.book.specs.Statements.{of_chain}
use Rattle.book.specs.Walk.{held_after, nothing}
use Rattle.book.specs.declared.walks.Held.{Held}
use Rattle.book.proofs.Laws.{held_next, chain-alone}
use Rattle.book_words.specs.Book.{element_at, elements}
use Rattle.book_words.specs.Measures.{most_chains}
use Rattle.book_words.specs.Soundness.{sound}
use Rattle.book_words.specs.declared.records.Element.{Element}
use Rattle.book_words.proofs.ShareSums.{chain-inside}
use Rattle.report.specs.declared.table.Row.{Row}
use Rattle.report.specs.Inner.Table.{is_met, row_after, rows_to, rows_after, held_for}
use Rattle.report.proofs.MetChains.{chain_at, met-since}

-- the row of a chain that is met, and none of one that is not
abbrev pub row_of : List ℕ → ℕ → ℕ → List Row
row_of ws k chain = cond (is_met ws k chain) (row_after ws k chain ∷ []) []

-- what holds of the row of a chain
pub own-row : (P : Row → Type 0) (ws : List ℕ) (k chain : ℕ) → P (row_after ws k chain) → All P (row_of ws k chain)
own-row P ws k chain holds = go (is_met ws k chain)
  where
    go : (met : Bool) → All P (cond met (row_after ws k chain ∷ []) [])
    go true = All-cons P (row_after ws k chain) [] holds (All-nil P)
    go false = All-nil P

module _ (ws : List ℕ) where
  -- of a chain that is not met the walk holds nothing
  none-held : (d k : ℕ) → ((p : ℕ) → p < k → chain_at ws p ≡ d → ⊥) → held_after ws (of_chain d) k ≡ nothing
  unfolding held_after
  none-held d zero other = refl
  none-held d (suc k) other =
      ap (held_after ws (of_chain d)) (sym (add-one k))
      ∙ held_next ws (of_chain d) k
      ∙ rw (ne_eqb (chain_at ws k) d (other k (omega arith))) (none-held d k (λ p l. other p (omega arith)))

  pub unmet-nothing : (d k : ℕ) → is_met ws k d ≡ false → held_after ws (of_chain d) k ≡ nothing
  unmet-nothing d k unmet = none-held d k (λ p l on. true≢false (sym (met-since ws p k l) ∙ ap (λ (c : ℕ). is_met ws k c) on ∙ unmet))

  -- the rows of the chains to n are of these
  rows-within : (k n : ℕ) → All (λ (row : Row). row.chain ≤ n) (rows_to ws k n)
  rows-within k zero = own-row (λ (row : Row). row.chain ≤ 0) ws k 0 (omega arith)
  rows-within k (suc n) =
      All-append (λ (row : Row). row.chain ≤ suc n) (rows_to ws k n) (row_of ws k (suc n))
      (λ p d l. omega (arith, rows-within k n p d l))
      (own-row (λ (row : Row). row.chain ≤ suc n) ws k (suc n) (omega arith))

-- one element more
module _ (ws : List ℕ) (k : ℕ) where
  -- the row of another chain is kept
  held_kept : (d : ℕ) → (chain_at ws k ≡ d → ⊥) → held_after ws (of_chain d) (k + 1) ≡ held_after ws (of_chain d) k
  held_kept d other = held_next ws (of_chain d) k ∙ rw (ne_eqb (chain_at ws k) d other)

  row_kept : (d : ℕ) → (chain_at ws k ≡ d → ⊥) → row_of ws (k + 1) d ≡ row_of ws k d
  row_kept d other =
      let row_with : Held → List Row = λ held. record { chain = d; held = held } ∷ [] in
      ap (λ (held : Held). cond (ltb 0 held.elements) (row_with held) []) (held_kept d other)

  -- and the element's own is met
  met-own : is_met ws (k + 1) (chain_at ws k) ≡ true
  met-own =
      rw (held_next ws (of_chain (chain_at ws k)) k, eq-eqb (chain_at ws k) (chain_at ws k) refl)
      (lt-ltb 0 ((held_after ws (of_chain (chain_at ws k)) k).elements + 1) (omega arith))

  rows-earlier : (n : ℕ) → n < chain_at ws k → rows_to ws (k + 1) n ≡ rows_to ws k n
  rows-earlier zero h = row_kept 0 (λ e. omega arith)
  rows-earlier (suc n) h = rw (rows-earlier n (omega arith), row_kept (suc n) (λ e. omega arith))

  -- the rows of the chains to n, by the element's chain: those of earlier chains, its own, and those of later ones; one element more
  -- changes its own alone
  pub record Parted (n : ℕ) : Type 0 where
    pub before : List Row
    pub behind : List Row
    pub earlier : All (λ (row : Row). row.chain < chain_at ws k) before
    pub later : All (λ (row : Row). chain_at ws k < row.chain) behind
    pub now : rows_to ws k n ≡ before ++ (row_of ws k (chain_at ws k) ++ behind)
    pub next : rows_to ws (k + 1) n ≡ before ++ (row_after ws (k + 1) (chain_at ws k) ∷ behind)

  parted : (n : ℕ) → chain_at ws k ≤ n → Parted n
  parted zero most =
      let e : chain_at ws k ≡ 0 = omega arith in
      record {
        before = [];
        behind = [];
        earlier = All-nil (λ (row : Row). row.chain < chain_at ws k);
        later = All-nil (λ (row : Row). chain_at ws k < row.chain);
        now = ap (row_of ws k) (sym e) ∙ sym (append-nil (row_of ws k (chain_at ws k)));
        next = ap (row_of ws (k + 1)) (sym e) ∙ rw met-own;
      }
  parted (suc n) most =
      ⊎_elim
      (λ (e : chain_at ws k ≡ suc n).
      record {
        before = rows_to ws k n;
        behind = [];
        earlier = λ p d l. omega (arith, rows-within ws k n p d l);
        later = All-nil (λ (row : Row). chain_at ws k < row.chain);
        now =
            ap (λ (d : ℕ). rows_to ws k n ++ row_of ws k d) (sym e)
            ∙ ap (λ (l : List Row). rows_to ws k n ++ l) (sym (append-nil (row_of ws k (chain_at ws k))));
        next =
            ap (λ (l : List Row). l ++ row_of ws (k + 1) (suc n)) (rows-earlier n (omega arith))
            ∙ ap (λ (d : ℕ). rows_to ws k n ++ row_of ws (k + 1) d) (sym e)
            ∙ rw met-own;
      })
      (λ (l : chain_at ws k < suc n). on (parted n (omega arith)) l)
      (eq-or-lt_of_le most)
    where
      extra : List Row
      extra = row_of ws k (suc n)

      on : Parted n → chain_at ws k < suc n → Parted (suc n)
      on s l =
          record {
            before = s.before;
            behind = s.behind ++ extra;
            earlier = s.earlier;
            later = All-append (λ (row : Row). chain_at ws k < row.chain) s.behind extra s.later
                (own-row (λ (row : Row). chain_at ws k < row.chain) ws k (suc n) l);
            now =
                ap (λ (rows : List Row). rows ++ extra) s.now
                ∙ append_assoc s.before (row_of ws k (chain_at ws k) ++ s.behind) extra
                ∙ ap (λ (rows : List Row). s.before ++ rows) (append_assoc (row_of ws k (chain_at ws k)) s.behind extra);
            next =
                ap (λ (rows : List Row). rows ++ row_of ws (k + 1) (suc n)) s.next
                ∙ ap (λ (rows : List Row). (s.before ++ (row_after ws (k + 1) (chain_at ws k) ∷ s.behind)) ++ rows) (row_kept (suc n) (λ e. omega arith))
                ∙ append_assoc s.before (row_after ws (k + 1) (chain_at ws k) ∷ s.behind) extra;
          }

-- an element put in at a seam
pub insert_seam : {X : Type 0} (front back : List X) (x : X) → insert (front ++ back) (length front) x ≡ front ++ (x ∷ back)
insert_seam front back x = rw (take-append_seam, drop-append_seam) refl

-- what is read past the end of a table
abbrev pub none : Row
none = record { chain = 0; held = nothing }

-- how a chain compares with others: those below it, the same one, and those above it
rank : ℕ → ℕ → ℕ
rank chain other = ordering_index (nat_cmp other chain)

ranks-rise : (chain a b : ℕ) → (a < chain) ⊎ (((a ≡ chain) × (chain ≤ b)) ⊎ (chain < b)) → rank chain a ≤ rank chain b
unfolding rank
ranks-rise chain a b (inl low) = grind (arith, nat_tests)
ranks-rise chain a b (inr (inl here)) = grind (arith, nat_tests, here.0, here.1)
ranks-rise chain a b (inr (inr high)) = grind (arith, nat_tests)

-- a search for the chain of the element among the rows
module _ (ws : List ℕ) (k : ℕ) (part : Parted ws k most_chains) {rows : List Row} (table : rows ≡ rows_after ws k) {chain : ℕ}
    (is : chain ≡ chain_at ws k) where
  -- the place of its row, where the chain is met, and of the row that it gets, where it is not
  abbrev place : ℕ
  place = length part.before

  with_own : is_met ws k chain ≡ true → rows ≡ part.before ++ (row_after ws k chain ∷ part.behind)
  unfolding rows_after
  with_own met = table ∙ part.now ∙ ap (λ (d : ℕ). part.before ++ (row_of ws k d ++ part.behind)) (sym is) ∙ rw met refl

  without : is_met ws k chain ≡ false → rows ≡ part.before ++ part.behind
  unfolding rows_after
  without new = table ∙ part.now ∙ ap (λ (d : ℕ). part.before ++ (row_of ws k d ++ part.behind)) (sym is) ∙ rw new refl

  -- the rows before its place are of earlier chains, and those behind it of later ones
  earlier_there : (rest : List Row) → rows ≡ part.before ++ rest → (i : ℕ) (d : Row) → i < place → (get_or rows i d).chain < chain
  earlier_there rest parts i d l =
      omega (
        arith,
        ap (λ (all : List Row). (get_or all i d).chain) parts,
        ap (λ (row : Row). row.chain) (get_or_append_left part.before rest d i l),
        part.earlier i d l,
        is,
      )

  before_place : (i : ℕ) (d : Row) → i < place → (get_or rows i d).chain < chain
  before_place i d l = go (is_met ws k chain) refl
    where
      go : (met : Bool) → is_met ws k chain ≡ met → (get_or rows i d).chain < chain
      go true met = earlier_there _ (with_own met) i d l
      go false new = earlier_there _ (without new) i d l

  at_place : is_met ws k chain ≡ true → (d : Row) → (get_or rows place d).chain ≡ chain
  at_place met d =
      ap (λ (all : List Row). (get_or all place d).chain) (with_own met)
      ∙ ap (λ (row : Row). row.chain) (get_or_at part.before (row_after ws k chain) part.behind d place refl)

  past_place : is_met ws k chain ≡ true → (i : ℕ) (d : Row) → place < i → i < length rows → chain < (get_or rows i d).chain
  past_place met i d l inside =
      let at : i ≡ place + suc (i - suc place) = omega arith in
      let long = length-append part.before (row_after ws k chain ∷ part.behind) in
      omega (
        arith,
        ap (λ (all : List Row). (get_or all i d).chain) (with_own met),
        ap (λ (n : ℕ). (get_or (part.before ++ (row_after ws k chain ∷ part.behind)) n d).chain) at,
        ap (λ (row : Row). row.chain) (get_or-append-add part.before (row_after ws k chain ∷ part.behind) (suc (i - suc place)) d),
        part.later (i - suc place) d (omega (arith, ap length (with_own met), long)),
        is,
      )

  from_place : is_met ws k chain ≡ false → (i : ℕ) (d : Row) → place ≤ i → i < length rows → chain < (get_or rows i d).chain
  from_place new i d l inside =
      let at : i ≡ place + (i - place) = omega arith in
      omega (
        arith,
        ap (λ (all : List Row). (get_or all i d).chain) (without new),
        ap (λ (n : ℕ). (get_or (part.before ++ part.behind) n d).chain) at,
        ap (λ (row : Row). row.chain) (get_or-append-add part.before part.behind (i - place) d),
        part.later (i - place) d (omega (arith, ap length (without new), length-append part.before part.behind)),
        is,
      )

  -- so a search finds its row, where the chain is met
  found-place : {at : ℕ} → at < length rows → ((d : Row) → nat_cmp (get_or rows at d).chain chain ≡ Equal)
      → (at ≡ place) × (is_met ws k chain ≡ true)
  found-place {at} inside equal = go (is_met ws k chain) refl (order at place)
    where
      same : (get_or rows at none).chain ≡ chain
      same = ranked _ chain _ (sym (equal none))

      go : (met : Bool) → is_met ws k chain ≡ met → (at < place) ⊎ ((at ≡ place) ⊎ (place < at)) → (at ≡ place) × (is_met ws k chain ≡ true)
      go met e (inl low) = absurd (omega (arith, before_place at none low, same))
      go true met (inr (inl here)) = (here, met)
      go true met (inr (inr high)) = absurd (omega (arith, past_place met at none high inside, same))
      go false new (inr (inl here)) = absurd (omega (arith, from_place new at none (omega arith) inside, same))
      go false new (inr (inr high)) = absurd (omega (arith, from_place new at none (omega arith) inside, same))

  -- and where its row is to stand, where it is not
  ranked_rows : IsNonDecreasingBy (λ (row : Row). ordering_index (nat_cmp row.chain chain)) rows
  unfolding rank
  ranked_rows i j d l inside = ranks-rise chain (get_or rows i d).chain (get_or rows j d).chain (go (is_met ws k chain) refl (order i place))
    where
      go : (met : Bool) → is_met ws k chain ≡ met → (i < place) ⊎ ((i ≡ place) ⊎ (place < i))
          → ((get_or rows i d).chain < chain) ⊎ ((((get_or rows i d).chain ≡ chain) × (chain ≤ (get_or rows j d).chain)) ⊎ (chain < (get_or rows j d).chain))
      go met e (inl low) = inl (before_place i d low)
      go true met (inr (inl here)) =
          let own : (get_or rows i d).chain ≡ chain = ap (λ (n : ℕ). (get_or rows n d).chain) here ∙ at_place met d in
          inr
          (⊎_elim
          (λ (e : i ≡ j). inl (own, omega (arith, own, ap (λ (n : ℕ). (get_or rows n d).chain) e)))
          (λ (more : i < j). inr (past_place met j d (omega arith) inside))
          (eq-or-lt_of_le l))
      go true met (inr (inr high)) = inr (inr (past_place met j d (omega arith) inside))
      go false new (inr (inl here)) = inr (inr (from_place new j d (omega arith) inside))
      go false new (inr (inr high)) = inr (inr (from_place new j d (omega arith) inside))

  absent-place : {at : ℕ} → at ≤ length rows
      → IsPartitionPoint (λ (row : Row). nat_cmp row.chain chain ≡ Less) (λ (row : Row). nat_cmp row.chain chain ≡ Greater) rows at
      → (at ≡ place) × (is_met ws k chain ≡ false)
  absent-place {at} inside point = go (is_met ws k chain) refl (order at place)
    where
      lower : (i : ℕ) → i < at → (get_or rows i none).chain < chain
      lower i l = ranked _ chain _ (sym (point.0 i none (omega arith) l))

      higher : (i : ℕ) → at ≤ i → i < length rows → chain < (get_or rows i none).chain
      higher i l there = ranked _ chain _ (sym (point.1 i none l there))

      long : (met : Bool) → is_met ws k chain ≡ met → place + cond met 1 0 ≤ length rows
      long true met = omega (arith, ap length (with_own met), length-append part.before (row_after ws k chain ∷ part.behind))
      long false new = omega (arith, ap length (without new), length-append part.before part.behind)

      go : (met : Bool) → is_met ws k chain ≡ met → (at < place) ⊎ ((at ≡ place) ⊎ (place < at)) → (at ≡ place) × (is_met ws k chain ≡ false)
      go met e (inl low) = absurd (omega (arith, before_place at none low, higher at (omega arith) (omega (arith, long met e))))
      go true met (inr (inl here)) = absurd (omega (arith, at_place met none, higher place (omega arith) (omega (arith, long true met))))
      go true met (inr (inr high)) = absurd (omega (arith, at_place met none, lower place high))
      go false new (inr (inl here)) = (here, new)
      go false new (inr (inr high)) = absurd (omega (arith, from_place new place none (omega arith) (omega arith), lower place high))

-- the chain of an element of a sound book is one of those that have rows
pub parted-sound : (ws : List ℕ) → sound ws ≡ true → (k : ℕ) → k < elements ws → Parted ws k most_chains
parted-sound ws fine k h = parted ws k most_chains (chain-inside ws fine k h).1

-- and none is on chain 0
pub zero-unmet : (ws : List ℕ) → sound ws ≡ true → is_met ws (elements ws) 0 ≡ false
zero-unmet ws fine =
    ap (λ (held : Held). ltb 0 held.elements) (none-held ws 0 (elements ws) (λ p l on. omega (arith, (chain-inside ws fine p l).0, on)))

-- the next element of a walk over a sound book, read, and the rows before it
module _ (ws : List ℕ) (k : ℕ) (next : (sound ws ≡ true) × (k < elements ws)) {rows : List Row} (table : rows ≡ rows_after ws k) {e : Element}
    (read : e ≡ element_at ws k) where
  part : Parted ws k most_chains
  part = parted-sound ws next.0 k next.1

  chain_is : e.chain ≡ chain_at ws k
  chain_is = ap (λ (r : Element). r.chain) read

  -- the walk over the chain from itself to itself is the chain's
  alone : (n : ℕ) → held_after ws (of_chains e.chain e.chain) n ≡ held_after ws (of_chain e.chain) n
  alone n = ap (λ (test : Element → Bool). held_after ws test n) (chain-alone e.chain)

  row_next : {held : Held} → held ≡ held_after ws (of_chains e.chain e.chain) (k + 1)
      → part.before ++ (record { chain = e.chain; held = held } ∷ part.behind) ≡ rows_after ws (k + 1)
  unfolding rows_after
  row_next is =
      ap (λ (held : Held). part.before ++ (record { chain = e.chain; held = held } ∷ part.behind)) (is ∙ alone (k + 1))
      ∙ ap (λ (d : ℕ). part.before ++ (row_after ws (k + 1) d ∷ part.behind)) chain_is
      ∙ sym part.next

  -- the chain has a row: what it holds, and the rows when it holds one element more
  module _ {at : ℕ} (inside : at < length rows) (equal : (d : Row) → nat_cmp (get_or rows at d).chain e.chain ≡ Equal) where
    row-is : get_or rows at none ≡ row_after ws k e.chain
    row-is =
        let there = found-place ws k part table chain_is inside equal in
        ap (λ (all : List Row). get_or all at none) (with_own ws k part table chain_is there.1)
        ∙ get_or_at part.before (row_after ws k e.chain) part.behind none at (sym there.0)

    pub found-held : (get_or rows at none).held ≡ held_after ws (of_chains e.chain e.chain) k
    found-held = ap (λ (row : Row). row.held) row-is ∙ sym (alone k)

    pub found-next : {held : Held} → held ≡ held_after ws (of_chains e.chain e.chain) (k + 1)
        → set rows at (record { chain = (get_or rows at none).chain; held = held }) ≡ rows_after ws (k + 1)
    found-next {held} more =
        let there = found-place ws k part table chain_is inside equal in
        ap (λ (row : Row). set rows at (record { chain = row.chain; held = held })) row-is
        ∙ ap (λ (all : List Row). set all at (record { chain = e.chain; held = held })) (with_own ws k part table chain_is there.1)
        ∙ set_at part.before (row_after ws k e.chain) part.behind (record { chain = e.chain; held = held }) at (sym there.0)
        ∙ row_next more

  -- it has none: nothing is held for it yet, and the rows when it has one
  module _ {at : ℕ} (inside : at ≤ length rows) (point : IsNonDecreasingBy (λ (row : Row). ordering_index (nat_cmp row.chain e.chain)) rows
      → IsPartitionPoint (λ (row : Row). nat_cmp row.chain e.chain ≡ Less) (λ (row : Row). nat_cmp row.chain e.chain ≡ Greater) rows at) where
    gap : (at ≡ length part.before) × (is_met ws k e.chain ≡ false)
    gap = absent-place ws k part table chain_is inside (point (ranked_rows ws k part table chain_is))

    pub absent-held : nothing ≡ held_after ws (of_chains e.chain e.chain) k
    absent-held = sym (alone k ∙ unmet-nothing ws e.chain k gap.1)

    pub absent-next : {held : Held} → held ≡ held_after ws (of_chains e.chain e.chain) (k + 1)
        → insert rows at (record { chain = e.chain; held = held }) ≡ rows_after ws (k + 1)
    absent-next {held} more =
        ap (λ (all : List Row). insert all at (record { chain = e.chain; held = held })) (without ws k part table chain_is gap.1)
        ∙ ap (λ (n : ℕ). insert (part.before ++ part.behind) n (record { chain = e.chain; held = held })) gap.0
        ∙ insert_seam part.before part.behind (record { chain = e.chain; held = held })
        ∙ row_next more

-- one element more makes at most one row more
rows-more : (ws : List ℕ) (k n : ℕ) → Parted ws k n → length (rows_to ws (k + 1) n) ≤ length (rows_to ws k n) + 1
rows-more ws k n part =
    omega (
      arith,
      ap length part.next,
      ap length part.now,
      length-append part.before (row_after ws (k + 1) (chain_at ws k) ∷ part.behind),
      length-append part.before (row_of ws k (chain_at ws k) ++ part.behind),
      length-append (row_of ws k (chain_at ws k)) part.behind,
    )

module _ (ws : List ℕ) where
  -- the table before the first element
  rows-none : (n : ℕ) → rows_to ws 0 n ≡ []
  unfolding held_after
  rows-none zero = refl
  rows-none (suc n) = rw (rows-none n) refl

  pub rows-start : rows_after ws 0 ≡ []
  unfolding rows_after
  rows-start = rows-none most_chains

  -- and after it: no more rows than elements are passed
  rows-few : (n : ℕ) → ((k : ℕ) → k < elements ws → Parted ws k n) → (k : ℕ) → k ≤ elements ws → length (rows_to ws k n) ≤ k
  rows-few n parts zero h = rw (rows-none n) (omega arith)
  rows-few n parts (suc k) h =
      omega (arith, rows-few n parts k (omega arith), rw add-one at (rows-more ws k n (parts k (omega arith))))

  pub rows-most : sound ws ≡ true → (k : ℕ) → k ≤ elements ws → length (rows_after ws k) ≤ k
  unfolding rows_after
  rows-most fine = rows-few most_chains (parted-sound ws fine)

-- what is held for a chain in rows of other chains, before and behind the others
module _ (chain : ℕ) where
  held-behind : (rows others : List Row) → All (λ (row : Row). row.chain ≡ chain → ⊥) rows → held_for (rows ++ others) chain ≡ held_for others chain
  held-behind [] others h = refl
  held-behind (row ∷ rows) others h =
      rw (ne_eqb row.chain chain (h 0 row (omega arith))) (held-behind rows others (λ p d l. h (suc p) d (omega arith)))

  held-before : (rows others : List Row) → All (λ (row : Row). row.chain ≡ chain → ⊥) others → held_for (rows ++ others) chain ≡ held_for rows chain
  held-before [] others h = ap (λ (rows : List Row). held_for rows chain) (sym (append-nil others)) ∙ held-behind others [] h
  held-before (row ∷ rows) others h = ap (cond (eqb row.chain chain) row.held) (held-before rows others h)

-- so after the first k elements the table holds for every chain what the walk of its statement holds: for each up to 10,000, and in a
-- sound book for any
module _ (ws : List ℕ) (k : ℕ) (few : k ≤ elements ws) (chain : ℕ) where
  -- its row has what is held for it, where it is met
  held-own : held_for (row_of ws k chain) chain ≡ held_after ws (of_chain chain) k
  held-own = go (is_met ws k chain) refl
    where
      go : (met : Bool) → is_met ws k chain ≡ met → held_for (cond met (row_after ws k chain ∷ []) []) chain ≡ held_after ws (of_chain chain) k
      go true met = rw (eq-eqb chain chain refl) refl
      go false new = sym (unmet-nothing ws chain k new)

  held-to : (n : ℕ) → chain ≤ n → held_for (rows_to ws k n) chain ≡ held_after ws (of_chain chain) k
  held-to zero most =
      let e : chain ≡ 0 = omega arith in
      ap (λ (d : ℕ). held_for (row_of ws k d) chain) (sym e) ∙ held-own
  held-to (suc n) most =
      ⊎_elim
      (λ (e : chain ≡ suc n).
      held-behind chain (rows_to ws k n) (row_of ws k (suc n)) (λ p d l same. let z : ⊥ = omega (arith, rows-within ws k n p d l) in absurd z)
      ∙ ap (λ (d : ℕ). held_for (row_of ws k d) chain) (sym e)
      ∙ held-own)
      (λ (l : chain < suc n).
      held-before chain (rows_to ws k n) (row_of ws k (suc n))
      (own-row (λ (row : Row). row.chain ≡ chain → ⊥) ws k (suc n) (λ same. let z : ⊥ = omega arith in absurd z))
      ∙ held-to n (omega arith))
      (eq-or-lt_of_le most)

  -- a chain behind them, that no element can be on, has no row
  held-outside : (n : ℕ) → ((p : ℕ) → p < k → chain_at ws p ≡ chain → ⊥) → n < chain
      → held_for (rows_to ws k n) chain ≡ held_after ws (of_chain chain) k
  held-outside n unused past =
      ap (λ (rows : List Row). held_for rows chain) (sym (append-nil (rows_to ws k n)))
      ∙ held-behind chain (rows_to ws k n) [] (λ p d l same. let z : ⊥ = omega (arith, rows-within ws k n p d l) in absurd z)
      ∙ sym (none-held ws chain k unused)

  pub table-holds : (sound ws ≡ true) ⊎ (chain ≤ most_chains) → held_for (rows_after ws k) chain ≡ held_after ws (of_chain chain) k
  unfolding rows_after
  table-holds =
      ⊎_elim
      (λ (fine : sound ws ≡ true).
      ⊎_elim
      (λ (past : most_chains < chain). held-outside most_chains (λ p l on. omega (arith, (chain-inside ws fine p (omega arith)).1, on)) past)
      (λ (inside : chain ≤ most_chains). held-to most_chains inside)
      (cases_lt most_chains chain))
      (λ (inside : chain ≤ most_chains). held-to most_chains inside)
