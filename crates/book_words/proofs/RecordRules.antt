-- The rules of a record, by what is known of its category's number. Assumes nothing.
use mathlib.Core.Bool.{Bool, not, true, false, ◌&&◌, cond}
use mathlib.Core.List.{List}
use mathlib.Core.Logic.{⊎_elim}
use mathlib.Core.Path.{◌≡◌, refl, sym, ◌∙◌, ap}
use Prim.Native.Nat.{ℕ, zero, suc, ◌<◌, ◌≤◌, ◌+◌, ◌*◌}
use native.Mathlib.Nat.{eq-zero-or-pos}
use native.Mathlib.Omega.{arith}
use lib.Dec.{eqb, eqb-suc-zero, leb, leb-suc-zero}
use borrow.Author.Tests.{not-true, eqb-true, eq-eqb, ne_eqb, le-leb, leb-true}
use Rattle.std.proofs.lemmas.Bool.{and_parts, cond-false}
use Rattle.book_words.specs.declared.records.Category.{Category}
use Rattle.book_words.specs.declared.records.Element.{Element}
use Rattle.book_words.specs.declared.records.Entry.{Entry}
use Rattle.book_words.specs.Book.{categories, category_of, entries, entry_at, category_at}
use Rattle.book_words.specs.Measures.{between, is_group, unsuited_group, unsuited, is_mass, is_amount, is_distance, is_distance_in, is_kg_per_head, activity_of, is_chain, is_code}
use Rattle.book_words.specs.Inner.Steps.{Limited}
use Rattle.book_words.specs.Soundness.{most_amount, entry_fine, entry_suits, quoted_suits, element_fine, element_suits, shares_fine, measured, shares_wait}
use Rattle.book_words.specs.declared.totals.Side.{Side}
use Rattle.book_words.specs.declared.totals.Side.TheVariants.{Operation as operation, Provision as provision}
use Rattle.book_words.specs.Totals.{most_emissions, unstruck_of, unstruck, all_unstruck, shares_of}
use Rattle.book_words.specs.Inner.Steps.{capped}
use Rattle.apportion.proofs.Sums.{sum-le}
use Rattle.book_words.proofs.Booleans.{cond-most}
use Rattle.book_words.proofs.CappedSums.{capped-equal}

module _ (ws : List ℕ) where
  pub entry-numbered : (r : Entry) → between 1 (categories ws) r.category ≡ true → entry_suits (category_of ws r.category) r ≡ entry_fine ws r
  unfolding entry_fine
  entry-numbered r e = rw e

  pub element-quoted : (r : Element) → r.category ≡ 0 → quoted_suits r ≡ element_fine ws r
  unfolding element_fine
  element-quoted r e = rw (eq-eqb r.category 0 e)

  pub element-numbered : (r : Element) → (r.category ≡ 0 → ⊥) → r.category ≤ categories ws → element_suits (category_of ws r.category) r ≡ element_fine ws r
  unfolding element_fine
  element-numbered r ne h = rw (ne_eqb r.category 0 ne, le-leb r.category (categories ws) h)

  -- the category of a record that keeps its rules
  pub entry-inside : (r : Entry) → entry_fine ws r ≡ true → between 1 (categories ws) r.category ≡ true
  unfolding entry_fine
  entry-inside r e = (and_parts (between 1 (categories ws) r.category) (entry_suits (category_of ws r.category) r) e).0

  pub element-inside : (r : Element) → (r.category ≡ 0 → ⊥) → element_fine ws r ≡ true → r.category ≤ categories ws
  unfolding element_fine
  element-inside r ne e =
      let rules = leb r.category (categories ws) && element_suits (category_of ws r.category) r in
      let mine = sym (cond-false (eqb r.category 0) (quoted_suits r) rules (ne_eqb r.category 0 ne)) ∙ e in
      leb-true r.category (categories ws) (and_parts (leb r.category (categories ws)) (element_suits (category_of ws r.category) r) mine).0

  -- an element's category is one of the book's, or 0
  pub element-category : (r : Element) → element_fine ws r ≡ true → r.category ≤ categories ws
  element-category r e =
      ⊎_elim
      (λ (none : r.category ≡ 0). omega arith)
      (λ (some : 0 < r.category). element-inside r (λ z. omega arith) e)
      (eq-zero-or-pos r.category)

  -- a category's unstruck entries are within 10^18, as all are
  pub category-limited : Limited ws → (category : ℕ) (side : Side) → unstruck_of ws category side ≤ most_emissions
  unfolding unstruck_of all_unstruck
  category-limited h category side =
      omega (
        arith,
        h side,
        sum-le (entries ws)
            (λ p. cond (eqb (entry_at ws p).category category) (unstruck side (entry_at ws p)) 0)
            (λ p. unstruck side (entry_at ws p))
            (λ p i. cond-most (eqb (entry_at ws p).category category) (unstruck side (entry_at ws p))),
      )

  -- in a closed category the capped sums are compared
  pub shares_closed : (place : ℕ) (r : Category) → r ≡ category_at ws place → (r.closed ≡ 0 → ⊥) → Limited ws
      → eqb (capped (shares_of ws (place + 1) operation)) (capped (unstruck_of ws (place + 1) operation))
      && eqb (capped (shares_of ws (place + 1) provision)) (capped (unstruck_of ws (place + 1) provision))
      ≡ shares_fine ws place
  unfolding shares_fine
  shares_closed place r e some h =
      rw (
        ap (λ (x : Category). x.closed) (sym e),
        ne_eqb r.closed 0 some,
        capped-equal (shares_of ws (place + 1) operation) (unstruck_of ws (place + 1) operation) (category-limited h (place + 1) operation),
        capped-equal (shares_of ws (place + 1) provision) (unstruck_of ws (place + 1) provision) (category-limited h (place + 1) provision),
      )

-- an entry, and an element, whose fields are known to be in range
pub entry-suits : (k : Category) (r : Entry) → is_group r.group ≡ true → unsuited_group k.kind r.group ≡ false
    → r.operation ≤ most_amount → r.provision ≤ most_amount → r.struck ≤ 1
    → entry_suits k r ≡ true
unfolding entry_suits
entry-suits k r known suited a b struck =
    rw (suited, known, le-leb r.operation most_amount a, le-leb r.provision most_amount b, le-leb r.struck 1 struck)

pub measures-fine : (kind : ℕ) (r : Element) → is_amount r.code r.amount ≡ true → is_distance_in kind r.distance ≡ true
    → is_kg_per_head r.code r.kg_per_head ≡ true
    → r.activity ≡ activity_of kind r.code r.amount r.distance
    → measured kind r ≡ true
unfolding measured
measures-fine kind r a d m e = rw (a, d, m, eq-eqb r.activity (activity_of kind r.code r.amount r.distance) e)

pub element-suits : (k : Category) (r : Element) → is_chain r.chain ≡ true → is_code r.code ≡ true → unsuited k.kind r.code ≡ false
    → is_amount r.code r.amount ≡ true → is_distance_in k.kind r.distance ≡ true
    → is_kg_per_head r.code r.kg_per_head ≡ true
    → r.activity ≡ activity_of k.kind r.code r.amount r.distance
    → k.closed ≡ 0 → r.operation ≡ 0 → r.provision ≡ 0
    → element_suits k r ≡ true
unfolding element_suits
element-suits k r chain code suited a d m e unclosed none nil =
    rw (
      suited,
      chain,
      code,
      measures-fine k.kind r a d m e,
      eq-eqb k.closed 0 unclosed,
      eq-eqb r.operation 0 none,
      eq-eqb r.provision 0 nil,
    )

pub quoted-suits : (r : Element) → is_chain r.chain ≡ true → is_mass r.amount ≡ true → is_distance r.distance ≡ true
    → r.code ≡ 0 → r.kg_per_head ≡ 0 → r.activity ≡ r.amount * r.distance
    → quoted_suits r ≡ true
unfolding quoted_suits
quoted-suits r chain a d code none e = rw (chain, eq-eqb r.code 0 code, a, d, eq-eqb r.kg_per_head 0 none, eq-eqb r.activity (r.amount * r.distance) e)

-- at most 0 is 0
most-none : (n : ℕ) → leb n 0 ≡ eqb n 0
most-none zero = refl
most-none (suc n) = rw (leb-suc-zero, eqb-suc-zero)

-- a quoted element is measured as freight outside a hub, kind 1
abbrev quote_measured : Element → Bool
quote_measured r = is_mass r.amount && is_distance r.distance && eqb r.kg_per_head 0 && eqb r.activity (r.amount * r.distance)

pub as_freight : (r : Element) → r.code ≡ 0 → measured 1 r ≡ quote_measured r
unfolding measured activity_of
as_freight r code = rw (code, most-none r.kg_per_head)

-- the rules of an element of this category, one by one
pub record Suited (k : Category) (r : Element) : Type 0 where
  pub known_chain : is_chain r.chain ≡ true
  pub known_code : is_code r.code ≡ true
  pub suited : unsuited k.kind r.code ≡ false
  pub well_measured : measured k.kind r ≡ true
  pub shares_waiting : shares_wait k r ≡ true

pub suits-parts : (k : Category) (r : Element) → element_suits k r ≡ true → Suited k r
unfolding element_suits
suits-parts k r e =
    let chain = is_chain r.chain in
    let code = is_code r.code in
    let suits = not (unsuited k.kind r.code) in
    let a = and_parts (chain && code && suits && measured k.kind r) (shares_wait k r) e in
    let b = and_parts (chain && code && suits) (measured k.kind r) a.0 in
    let c = and_parts (chain && code) suits b.0 in
    let d = and_parts chain code c.0 in
    record {
      known_chain = d.0;
      known_code = d.1;
      suited = not-true (unsuited k.kind r.code) c.1;
      well_measured = b.1;
      shares_waiting = a.1;
    }

-- those of a quoted element
pub record QuoteSuited (r : Element) : Type 0 where
  pub known_chain : is_chain r.chain ≡ true
  pub ambient : r.code ≡ 0
  pub well_measured : measured 1 r ≡ true

pub quoted-parts : (r : Element) → quoted_suits r ≡ true → QuoteSuited r
unfolding quoted_suits
quoted-parts r e =
    let known = is_chain r.chain && eqb r.code 0 in
    let far = known && is_mass r.amount && is_distance r.distance in
    let a = and_parts (far && eqb r.kg_per_head 0) (eqb r.activity (r.amount * r.distance)) e in
    let f = and_parts far (eqb r.kg_per_head 0) a.0 in
    let b = and_parts (known && is_mass r.amount) (is_distance r.distance) f.0 in
    let c = and_parts known (is_mass r.amount) b.0 in
    let d = and_parts (is_chain r.chain) (eqb r.code 0) c.0 in
    let ambient = eqb-true r.code 0 d.1 in
    record { known_chain = d.0; ambient = ambient; well_measured = as_freight r ambient ∙ rw (c.1, b.1, f.1, a.1) }
