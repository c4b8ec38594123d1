-- What a closing changes in the records of a book, and what it keeps. Assumes nothing.
use mathlib.Core.Bool.{cond, Bool, true, false}
use mathlib.Core.List.{List}
use mathlib.Core.Logic.{⊎_elim}
use mathlib.Core.Path.{◌≡◌, refl, ◌∙◌, ap, sym}
use Prim.Native.Nat.{ℕ, zero, suc, ◌+◌, ◌-◌, ◌<◌, ◌≤◌}
use native.Mathlib.Nat.{add-zero, eq-or-lt_of_le}
use native.Mathlib.Omega.{arith}
use lib.Dec.{eqb}
use lib.ListN.{length, set, length-set}
use lib.Seq.{get_or-set_other, get_or-set_same}
use borrow.Author.Tests.{eqb-true, eqb-false, eq-eqb, ltb-true}
use Rattle.apportion.specs.Places.{at}
use Rattle.book_words.specs.Book.{book_length, category_list, entry_list, element_list, categories, entries, elements, most_categories, most_entries, most_elements, category_start, entry_start, element_start, closed_word, operation_share_word, provision_share_word, category_at, entry_at, element_at, put_shares}
use Rattle.book_words.specs.Inner.Steps.{CountsWithin}
pub use Rattle.book_words.specs.Book.{with_shares}
use Rattle.book_words.specs.declared.totals.Side.{Side}
use Rattle.book_words.specs.declared.totals.Side.TheVariants.{Operation as operation, Provision as provision}
use Rattle.book_words.specs.declared.records.Category.{Category}
use Rattle.book_words.specs.declared.records.Element.{Element}
use Rattle.book_shares.specs.Closing.{hand_out, close_with}
use Rattle.book_words.proofs.RecordsAfterWrite.{category-same, entry-same, element-same}

-- the same category, closed
abbrev pub closed_category : Category → Category
closed_category r = record { kind = r.kind; closed = 1 }

-- The category of this number is closed with these shares.
pub record CategoryClosed (ws ws' : List ℕ) (category : ℕ) (share : Side → ℕ → ℕ) : Type 0 where
  pub same_length : length ws' ≡ length ws
  pub same_mark : at ws' 0 ≡ at ws 0
  pub same_categories : categories ws' ≡ categories ws
  pub same_entries : entries ws' ≡ entries ws
  pub same_elements : elements ws' ≡ elements ws
  pub category_closed : category_at ws' (category - 1) ≡ closed_category (category_at ws (category - 1))
  pub category_kept : (p : ℕ) → p < most_categories → (p ≡ category - 1 → ⊥) → category_at ws' p ≡ category_at ws p
  pub entry_kept : (p : ℕ) → p < most_entries → entry_at ws' p ≡ entry_at ws p
  pub element_shared : (p : ℕ) → p < elements ws → (element_at ws p).category ≡ category
      → element_at ws' p ≡ with_shares (element_at ws p) (share operation p) (share provision p)
  pub element_kept : (p : ℕ) → ((element_at ws p).category ≡ category → ⊥) → element_at ws' p ≡ element_at ws p
  pub element_uncounted : (p : ℕ) → elements ws ≤ p → element_at ws' p ≡ element_at ws p
  pub rest_kept : (k : ℕ) → book_length ≤ k → at ws' k ≡ at ws k

-- shares that are written where a test holds
module _ (ws : List ℕ) (place a b : ℕ) where
  abbrev chosen : Bool → List ℕ
  chosen t = cond t (put_shares ws place a b) ws

  pub chosen-length : (t : Bool) → length (chosen t) ≡ length ws
  chosen-length true =
      length-set (set ws (element_start place + operation_share_word) a) (element_start place + provision_share_word) b
      ∙ length-set ws (element_start place + operation_share_word) a
  chosen-length false = refl

  pub chosen-word : (t : Bool) (k : ℕ)
      → (t ≡ true → (k ≡ element_start place + operation_share_word → ⊥) × (k ≡ element_start place + provision_share_word → ⊥))
      → at (chosen t) k ≡ at ws k
  chosen-word true k ne =
      get_or-set_other (set ws (element_start place + operation_share_word) a) (element_start place + provision_share_word) k b 0 (ne refl).1
      ∙ get_or-set_other ws (element_start place + operation_share_word) k a 0 (ne refl).0
  chosen-word false k ne = refl

  -- the other elements are as before
  pub chosen-element : (t : Bool) (p : ℕ) → (t ≡ true → p ≡ place → ⊥) → element_at (chosen t) p ≡ element_at ws p
  chosen-element t p ne =
      element-same ws (chosen t) p (λ f i. chosen-word t (element_start p + f) (λ e. let apart = ne e in omega (arith, ltb-true)))

  -- this one has these shares
  pub chosen-here : book_length ≤ length ws → place < most_elements → element_at (chosen true) place ≡ with_shares (element_at ws place) a b
  chosen-here long room =
      let start = element_start place in
      let word : (f : ℕ) → eqb f operation_share_word ≡ false → eqb f provision_share_word ≡ false → at (chosen true) (start + f) ≡ at ws (start + f) =
      λ f i j. chosen-word true (start + f) (λ e. omega (arith, eqb-false)) in
      let one = set ws (start + operation_share_word) a in
      let first : at (chosen true) (start + operation_share_word) ≡ a =
      get_or-set_other one (start + provision_share_word) (start + operation_share_word) b 0 (omega arith)
      ∙ get_or-set_same ws (start + operation_share_word) a 0 (omega arith) in
      let second : at (chosen true) (start + provision_share_word) ≡ b =
      get_or-set_same one (start + provision_share_word) b 0 (omega (arith, length-set ws (start + operation_share_word) a)) in
      simp (simp add-zero at (word 0 refl refl), word, first, second)

-- shares that are handed out to the elements at the first n places
module _ (ws : List ℕ) (category : ℕ) (share : Side → ℕ → ℕ) where
  abbrev handed : ℕ → List ℕ
  handed n = hand_out n ws category share

  abbrev test : ℕ → Bool
  test n = eqb (element_at (handed n) n).category category

  handed-length : (n : ℕ) → length (handed n) ≡ length ws
  handed-length zero = refl
  handed-length (suc n) = chosen-length (handed n) n (share operation n) (share provision n) (test n) ∙ handed-length n

  -- a word that is none of an element's is as before
  handed-word : (n : ℕ) → n ≤ most_elements → (k : ℕ) → (element_list.first ≤ k → k < book_length → ⊥) → at (handed n) k ≡ at ws k
  handed-word zero few k out = refl
  handed-word (suc n) few k out =
      chosen-word (handed n) n (share operation n) (share provision n) (test n) k
      (λ e. (λ z. out (omega arith) (omega arith), λ z. out (omega arith) (omega arith)))
      ∙ handed-word n (omega arith) k out

  -- an element at a later place is as before
  pub handed-later : (n p : ℕ) → n ≤ p → element_at (handed n) p ≡ element_at ws p
  handed-later zero p h = refl
  handed-later (suc n) p h =
      chosen-element (handed n) n (share operation n) (share provision n) (test n) p (λ e. omega arith)
      ∙ handed-later n p (omega arith)

  -- so is an element of another category
  handed-other : (n p : ℕ) → ((element_at ws p).category ≡ category → ⊥) → element_at (handed n) p ≡ element_at ws p
  handed-other zero p ne = refl
  handed-other (suc n) p ne =
      chosen-element (handed n) n (share operation n) (share provision n) (test n) p
      (λ e z.
      let same = ap (element_at ws) z ∙ sym (handed-later n n (omega arith)) in
      ne (ap (λ (r : Element). r.category) same ∙ eqb-true (element_at (handed n) n).category category e))
      ∙ handed-other n p ne

  -- an element of the category has its shares
  handed-here : book_length ≤ length ws → (n p : ℕ) → n ≤ most_elements → p < n → (element_at ws p).category ≡ category
      → element_at (handed n) p ≡ with_shares (element_at ws p) (share operation p) (share provision p)
  handed-here long zero p few h is = let z : ⊥ = omega arith in absurd z
  handed-here long (suc n) p few h is =
      ⊎_elim
      (λ (s : suc p ≡ suc n).
      let here : p ≡ n = omega arith in
      let same = handed-later n n (omega arith) in
      let its = ap (λ (r : Element). r.category) (same ∙ ap (element_at ws) (sym here)) ∙ is in
      let yes : test n ≡ true = eq-eqb (element_at (handed n) n).category category its in
      rw (yes, here)
      (chosen-here (handed n) n (share operation n) (share provision n) (omega (arith, handed-length n)) (omega arith)
      ∙ ap (λ (r : Element). with_shares r (share operation n) (share provision n)) same))
      (λ (l : suc p < suc n).
      chosen-element (handed n) n (share operation n) (share provision n) (test n) p (λ e. omega arith)
      ∙ handed-here long n p (omega arith) (omega arith) is)
      (eq-or-lt_of_le h)

pub category_closed : (ws : List ℕ) → CountsWithin ws → (category : ℕ) → 1 ≤ category → category ≤ categories ws → (share : Side → ℕ → ℕ)
    → CategoryClosed ws (close_with ws category share) category share
unfolding close_with
category_closed ws counts category low high share =
    let n = elements ws in
    let few = counts.elements_most in
    let most = counts.categories_most in
    let closed = category_start (category - 1) + closed_word in
    let shared = hand_out n ws category share in
    let after = close_with ws category share in
    let long = handed-length ws category share n in
    let word : (k : ℕ) → (k ≡ closed → ⊥) → at after k ≡ at shared k = λ k ne. get_or-set_other shared closed k 1 0 ne in
    let kept : (k : ℕ) → (k ≡ closed → ⊥) → (element_list.first ≤ k → k < book_length → ⊥) → at after k ≡ at ws k =
    λ k ne out. word k ne ∙ handed-word ws category share n few k out in
    let element : (p : ℕ) → element_at after p ≡ element_at shared p =
    λ p. element-same shared after p (λ f t. word (element_start p + f) (omega arith)) in
    record {
      same_length = length-set shared closed 1 ∙ long;
      same_mark = kept 0 (omega arith) (omega arith);
      same_categories = kept category_list.counter (omega arith) (omega arith);
      same_entries = kept entry_list.counter (omega arith) (omega arith);
      same_elements = kept element_list.counter (omega arith) (omega arith);
      category_closed = rw (
        kept (category_start (category - 1)) (omega arith) (omega arith),
        get_or-set_same shared closed 1 0 (omega (arith, counts.long)),
      );
      category_kept = λ p h ne. category-same ws after p (λ f t. kept (category_start p + f) (omega (arith, ltb-true)) (omega (arith, ltb-true)));
      entry_kept = λ p h. entry-same ws after p (λ f t. kept (entry_start p + f) (omega arith) (omega (arith, ltb-true)));
      element_shared = λ p h is. element p ∙ handed-here ws category share counts.long n p few h is;
      element_kept = λ p ne. element p ∙ handed-other ws category share n p ne;
      element_uncounted = λ p h. element p ∙ handed-later ws category share n p h;
      rest_kept = λ k h. kept k (omega arith) (omega arith);
    }
