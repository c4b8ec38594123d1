-- The walk of the test of soundness over the passengers: what has seen is remembered by category. Assumes nothing.
use mathlib.Core.Bool.{Bool, true, false, not, ◌&&◌, ◌||◌, beq, or-false, or_self, true≢false}
use mathlib.Core.List.{List}
use mathlib.Core.Logic.{⊎_elim}
use mathlib.Core.Path.{◌≡◌, refl, sym, ap, ap₂, ◌∙◌}
use Prim.Native.Nat.{ℕ, suc, ◌<◌, ◌≤◌, ◌+◌}
use native.Mathlib.Numerals.{add-one}
use native.Mathlib.Omega.{arith}
use lib.Dec.{eqb}
use lib.ListN.{length, get_or, replicate, get_or-replicate, set, length-set}
use Rattle.std.proofs.lemmas.Bool.{cases_eq}
use Rattle.std.specs.Prelude.{Option, Some, None}
use Rattle.std.specs.Option.{option_eq}
use lib.Seq.{get_or-set_same, get_or-set_other}
use borrow.Author.Tests.{eq-eqb, ne_eqb}
use Rattle.book_words.specs.declared.records.Element.{Element}
use Rattle.book_words.specs.Book.{elements, element_at, most_categories}
use Rattle.book_words.specs.Measures.{is_passenger, is_weighed}
use Rattle.book_words.specs.Mixture.{is_such_passenger, passenger_below, mixes, mixed}
use Rattle.book_words.specs.Soundness.{all_below, passengers_fine}
use Rattle.book_words.proofs.EveryPlace.{every-next, every-not}
use Rattle.book_words.proofs.Passengers.{others-mix-not}

-- passengers that are so weighed have been seen, by what is remembered of their category
abbrev pub is_seen : Option Bool → Bool → Bool
is_seen known weighed = option_eq beq known (Some weighed)

-- what is remembered of a category
abbrev pub seen_in : List (Option Bool) → ℕ → Option Bool
seen_in seen category = get_or seen category None

-- What a walk over the first n elements holds: none of them mixes, and what passengers of each category have been seen.
pub record Remembered (ws : List ℕ) (n : ℕ) (seen : List (Option Bool)) : Type 0 where
  pub long : length seen ≡ suc most_categories
  pub each : (category : ℕ) (weighed : Bool) → category ≤ most_categories → is_seen (seen_in seen category) weighed ≡ passenger_below ws n category weighed
  pub unmixed : all_below n (λ p. not (mixed ws p)) ≡ true

-- where none that are otherwise weighed have been seen, to remember these says that they have been seen too
seen_here : (known : Option Bool) (v w : Bool) → is_seen known (not v) ≡ false → beq v w ≡ is_seen known w || beq v w
seen_here None v w none = refl
seen_here (Some true) true w none = sym (or_self (beq true w))
seen_here (Some true) false w none = absurd (true≢false none)
seen_here (Some false) true w none = absurd (true≢false none)
seen_here (Some false) false w none = sym (or_self (beq false w))

seen-set : (seen : List (Option Bool)) (k c : ℕ) (v w : Bool) → k < length seen → is_seen (seen_in seen k) (not v) ≡ false
    → is_seen (seen_in (set seen k (Some v)) c) w ≡ is_seen (seen_in seen c) w || (eqb k c && beq v w)
seen-set seen k c v w room none = ⊎_elim here away (cases_eq k c)
  where
    here : k ≡ c → is_seen (seen_in (set seen k (Some v)) c) w ≡ is_seen (seen_in seen c) w || (eqb k c && beq v w)
    here e = rw (← e, eq-eqb k k refl, get_or-set_same seen k (Some v) None room) (seen_here (seen_in seen k) v w none)

    away : (k ≡ c → ⊥) → is_seen (seen_in (set seen k (Some v)) c) w ≡ is_seen (seen_in seen c) w || (eqb k c && beq v w)
    away ne = rw (ne_eqb k c ne, get_or-set_other seen k c (Some v) None (λ e. ne (sym e))) (sym (or-false (is_seen (seen_in seen c) w)))

module _ (ws : List ℕ) where
  -- one element more
  passengers-next : (n category : ℕ) (weighed : Bool)
      → passenger_below ws (n + 1) category weighed ≡ passenger_below ws n category weighed || is_such_passenger category weighed (element_at ws n)
  unfolding passenger_below
  passengers-next n category weighed = rw add-one

  pub remembered-start : Remembered ws 0 (replicate (suc most_categories) None)
  unfolding passenger_below
  remembered-start =
      record {
        long = refl;
        each = λ category weighed h. ap (λ (o : Option Bool). is_seen o weighed) (get_or-replicate (suc most_categories) category None None (omega arith));
        unmixed = refl;
      }

  -- `e` is the next element
  module _ {n : ℕ} {seen : List (Option Bool)} (r : Remembered ws n seen) {e : Element} (is : e ≡ element_at ws n) where
    -- where it is no passengers', there is nothing to remember
    pub remembered-freight : is_passenger e.code ≡ false → Remembered ws (n + 1) seen
    remembered-freight none =
        let not-here = ap (λ (x : Element). is_passenger x.code) (sym is) ∙ none in
        record {
          long = r.long;
          each = λ category weighed h.
              let same : passenger_below ws n category weighed || is_such_passenger category weighed (element_at ws n) ≡ passenger_below ws n category weighed =
              rw not-here (or-false (passenger_below ws n category weighed)) in
              r.each category weighed h ∙ sym (passengers-next n category weighed ∙ same);
          unmixed = every-next n (λ p. not (mixed ws p)) r.unmixed
              (ap not (others-mix-not ws n (element_at ws n).category (element_at ws n).code (element_at ws n).kg_per_head not-here));
        }

    module _ (known : is_passenger e.code ≡ true) (within : e.category ≤ most_categories) {weighed : Bool} (so : weighed ≡ is_weighed e.kg_per_head) where
      -- whether it mixes is told by what is remembered of its category
      mixed-by : mixed ws n ≡ is_seen (seen_in seen e.category) (not weighed)
      unfolding mixes
      mixed-by =
          let alone : mixes ws n e.category e.code e.kg_per_head ≡ passenger_below ws n e.category (not weighed) = rw (known, so) in
          ap (λ (x : Element). mixes ws n x.category x.code x.kg_per_head) (sym is) ∙ alone ∙ sym (r.each e.category (not weighed) within)

      pub remembered-mixed : n < elements ws → is_seen (seen_in seen e.category) (not weighed) ≡ true → false ≡ passengers_fine ws
      unfolding passengers_fine
      remembered-mixed h some = sym (every-not (elements ws) (λ p. not (mixed ws p)) n h (ap not (mixed-by ∙ some)))

      pub remembered-passenger : is_seen (seen_in seen e.category) (not weighed) ≡ false → Remembered ws (n + 1) (set seen e.category (Some weighed))
      remembered-passenger none =
          record {
            long = length-set seen e.category (Some weighed) ∙ r.long;
            each = λ category sort h.
                let now = is_such_passenger category sort in
                let here : now e ≡ eqb e.category category && beq weighed sort = rw (known, so) in
                seen-set seen e.category category weighed sort (omega (arith, r.long)) none
                ∙ ap₂ ◌||◌ (r.each category sort h) (sym here ∙ ap now is)
                ∙ sym (passengers-next n category sort);
            unmixed = every-next n (λ p. not (mixed ws p)) r.unmixed (ap not (mixed-by ∙ none));
          }
