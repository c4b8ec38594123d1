-- What a sound book has. Assumes nothing.
use mathlib.Core.Bool.{Bool, true, false, true≢false, cond, ◌&&◌}
use mathlib.Core.List.{List}
use mathlib.Core.Path.{◌≡◌, refl, sym, ◌∙◌}
use Prim.Native.Nat.{ℕ, zero, suc}
use native.Mathlib.Omega.{arith}
use lib.Dec.{leb, eqb}
use lib.ListN.{length, get_or}
use borrow.Author.Tests.{leb-true, eqb-true}
use Rattle.std.proofs.lemmas.Bool.{and_parts}
use Rattle.std.proofs.Common.{Some, None}
use Rattle.apportion.specs.Places.{at}
use Rattle.book_words.specs.Book.{mark, book_length, categories, most_categories, entries, most_entries, elements, most_elements}
use Rattle.book_words.specs.Inner.Steps.{CountsWithin, Limited, ReadyFor, list_fine}
use Rattle.book_words.specs.Soundness.{header_fine, sums_fine, categories_fine, entries_fine, elements_fine, passengers_fine, closings_fine, sound, all_below}
use Rattle.book_words.specs.declared.soundness.TheConstants.{LISTS}
use Rattle.book_words.specs.declared.soundness.List.TheVariants.{Categories}
use Rattle.book_words.specs.declared.totals.Side.TheVariants.{Operation as operation, Provision as provision}
use Rattle.book_words.specs.Totals.{sums_of, within_limits}
use Rattle.book_words.proofs.Booleans.{chosen-some, chosen-none}
use Rattle.book_words.proofs.CappedSums.{within-parts}
use Rattle.book_words.proofs.EveryPlace.{every-at}

module _ (ws : List ℕ) where
  header-parts : header_fine ws ≡ true → CountsWithin ws × (at ws 0 ≡ mark)
  unfolding header_fine
  header-parts e =
      let long = leb book_length (length ws) in
      let marked = eqb (at ws 0) mark in
      let one = leb (categories ws) most_categories in
      let two = leb (entries ws) most_entries in
      let three = leb (elements ws) most_elements in
      let a = and_parts (long && marked && one && two) three e in
      let b = and_parts (long && marked && one) two a.0 in
      let d = and_parts (long && marked) one b.0 in
      let f = and_parts long marked d.0 in (
        record {
          long = leb-true book_length (length ws) f.0;
          categories_most = leb-true (categories ws) most_categories d.1;
          entries_most = leb-true (entries ws) most_entries b.1;
          elements_most = leb-true (elements ws) most_elements a.1;
        },
        eqb-true (at ws 0) mark f.1,
      )

  pub header-counted : header_fine ws ≡ true → CountsWithin ws
  header-counted e = (header-parts e).0

  pub header-marked : header_fine ws ≡ true → at ws 0 ≡ mark
  header-marked e = (header-parts e).1

  pub sums-limits : sums_fine ws ≡ true → within_limits (sums_of ws) ≡ true
  unfolding sums_fine
  sums-limits e = e

  -- amounts within the limits of ground 10, side by side
  pub limits-limited : within_limits (sums_of ws) ≡ true → Limited ws
  limits-limited e operation = (within-parts (sums_of ws) e).0
  limits-limited e provision = (within-parts (sums_of ws) e).1

  -- the list at this place of the test
  abbrev pub turn_fine : ℕ → Bool
  turn_fine k = list_fine ws (get_or LISTS k Categories)

  -- behind a header that is fine the lists in their order are the test
  pub lists-sound : header_fine ws ≡ true → all_below 6 turn_fine ≡ sound ws
  unfolding list_fine sound categories_fine entries_fine elements_fine closings_fine
  lists-sound header = rw header

  -- a header that is not decides
  header-sound : header_fine ws ≡ false → false ≡ sound ws
  unfolding sound
  header-sound header = rw header

  -- the parts of the test
  pub record Parts : Type 0 where
    pub header : header_fine ws ≡ true
    pub all-categories : categories_fine ws ≡ true
    pub all-entries : entries_fine ws ≡ true
    pub all-elements : elements_fine ws ≡ true
    pub passengers : passengers_fine ws ≡ true
    pub sums : sums_fine ws ≡ true
    pub closings : closings_fine ws ≡ true

  pub sound-parts : sound ws ≡ true → Parts
  unfolding list_fine categories_fine entries_fine elements_fine closings_fine
  sound-parts e = go (header_fine ws) refl
    where
      go : (t : Bool) → header_fine ws ≡ t → Parts
      go false header = absurd (true≢false (sym e ∙ sym (header-sound header)))
      go true header =
          let part = every-at 6 turn_fine (lists-sound header ∙ e) in
          record {
            header = header;
            all-categories = part 0 (omega arith);
            all-entries = part 1 (omega arith);
            all-elements = part 2 (omega arith);
            passengers = part 3 (omega arith);
            sums = part 4 (omega arith);
            closings = part 5 (omega arith);
          }

  pub sound-counted : sound ws ≡ true → CountsWithin ws
  sound-counted e = header-counted (sound-parts e).header

  pub sound-sums : sound ws ≡ true → within_limits (sums_of ws) ≡ true
  sound-sums e = sums-limits (sound-parts e).sums

  -- the lists before one give what its rules take for granted
  pub ready : (k : ℕ) → all_below k turn_fine ≡ true → ReadyFor (get_or LISTS k Categories) ws
  unfolding list_fine elements_fine
  ready zero before = tt
  ready (suc zero) before = tt
  ready (suc (suc zero)) before = tt
  ready (suc (suc (suc zero))) before = every-at 3 turn_fine before 2 (omega arith)
  ready (suc (suc (suc (suc zero)))) before = tt
  ready (suc (suc (suc (suc (suc zero))))) before = limits-limited (sums-limits (every-at 5 turn_fine before 4 (omega arith)))
  ready (suc (suc (suc (suc (suc (suc k)))))) before = tt

-- what the test of the header tells: the words that it lets through are those of the book, and where it lets none through it decides
pub tested-sound : (ws : List ℕ) {words : List ℕ} → cond (header_fine ws) (Some ws) None ≡ Some words → all_below 6 (turn_fine words) ≡ sound ws
tested-sound ws is = let some = chosen-some (header_fine ws) is in rw some.1 (lists-sound ws some.0)

pub untested-sound : (ws : List ℕ) → cond (header_fine ws) (Some ws) None ≡ None → false ≡ sound ws
untested-sound ws is = header-sound ws (chosen-none (header_fine ws) ws is)
