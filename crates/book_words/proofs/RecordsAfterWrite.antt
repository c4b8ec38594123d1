-- What a write changes in the records of a book, and what it keeps. Assumes nothing.
use mathlib.Core.Bool.{true, false}
use mathlib.Core.List.{List}
use mathlib.Core.Path.{◌≡◌, refl, ◌∙◌}
use Prim.Native.Nat.{ℕ, ◌+◌, ◌<◌, ◌≤◌}
use native.Mathlib.Nat.{add-zero}
use native.Mathlib.Omega.{arith}
use lib.Dec.{ltb, eqb}
use lib.ListN.{length, set, length-set}
use lib.Seq.{sets, length-sets, get_or-set_other, get_or-set_same}
use borrow.Author.Tests.{ltb-true, eqb-false}
use Rattle.apportion.specs.Places.{at}
use Rattle.book_words.specs.declared.records.Category.{Category}
use Rattle.book_words.specs.declared.records.Element.{Element}
use Rattle.book_words.specs.declared.records.Entry.{Entry}
use Rattle.book_words.specs.declared.records.Layout.{Layout}
use Rattle.book_words.specs.Book.{book_length, category_list, entry_list, element_list, count_of, categories, entries, elements, most_categories, most_entries, most_elements, start_of, category_start, entry_start, element_start, struck_word, category_at, entry_at, element_at, category_words, entry_words, element_words, appended, add_category, add_entry, add_element}
use Rattle.book_words.proofs.WordsAfterWrite.{Outside, sets-outside, sets-inside}

-- the same entry, struck
abbrev pub struck_entry : Entry → Entry
struck_entry r =
    record {
      category = r.category;
      group = r.group;
      operation = r.operation;
      provision = r.provision;
      struck = 1;
    }

-- the words of a list's record at place p, each counted from its start
abbrev pub Words : Layout → List ℕ → ℕ → (ℕ → ℕ) → Type 0
Words list ws p word = (f : ℕ) → ltb f list.width ≡ true → at ws (start_of list p + f) ≡ word f

-- a record is known by its words
module _ (ws : List ℕ) (p : ℕ) where
  category-is : (r : Category) → Words category_list ws p (at (category_words r)) → category_at ws p ≡ r
  category-is r word = simp (rw add-zero at (word 0 refl), word)

  entry-is : (r : Entry) → Words entry_list ws p (at (entry_words r)) → entry_at ws p ≡ r
  entry-is r word = simp (rw add-zero at (word 0 refl), word)

  element-is : (r : Element) → Words element_list ws p (at (element_words r)) → element_at ws p ≡ r
  element-is r word = simp (rw add-zero at (word 0 refl), word)

-- a record whose words are the same is the same
module _ (ws ws' : List ℕ) (p : ℕ) where
  pub category-same : Words category_list ws' p (λ f. at ws (category_start p + f)) → category_at ws' p ≡ category_at ws p
  category-same word = simp (simp add-zero at (word 0 refl), word)

  pub entry-same : Words entry_list ws' p (λ f. at ws (entry_start p + f)) → entry_at ws' p ≡ entry_at ws p
  entry-same word = simp (simp add-zero at (word 0 refl), word)

  pub element-same : Words element_list ws' p (λ f. at ws (element_start p + f)) → element_at ws' p ≡ element_at ws p
  element-same word = simp (simp add-zero at (word 0 refl), word)

module _ (ws ws' : List ℕ) where
  -- A category is appended.
  pub record CategoryAdded (r : Category) : Type 0 where
    pub same_length : length ws' ≡ length ws
    pub same_mark : at ws' 0 ≡ at ws 0
    pub one_more : categories ws' ≡ categories ws + 1
    pub same_entries : entries ws' ≡ entries ws
    pub same_elements : elements ws' ≡ elements ws
    pub category-new : category_at ws' (categories ws) ≡ r
    pub category_kept : (p : ℕ) → (p ≡ categories ws → ⊥) → category_at ws' p ≡ category_at ws p
    pub entry_kept : (p : ℕ) → entry_at ws' p ≡ entry_at ws p
    pub element_kept : (p : ℕ) → element_at ws' p ≡ element_at ws p
    pub rest_kept : (k : ℕ) → book_length ≤ k → at ws' k ≡ at ws k

  -- An entry is appended.
  pub record EntryAdded (r : Entry) : Type 0 where
    pub same_length : length ws' ≡ length ws
    pub same_mark : at ws' 0 ≡ at ws 0
    pub same_categories : categories ws' ≡ categories ws
    pub one_more : entries ws' ≡ entries ws + 1
    pub same_elements : elements ws' ≡ elements ws
    pub category_kept : (p : ℕ) → p < most_categories → category_at ws' p ≡ category_at ws p
    pub entry_new : entry_at ws' (entries ws) ≡ r
    pub entry_kept : (p : ℕ) → (p ≡ entries ws → ⊥) → entry_at ws' p ≡ entry_at ws p
    pub element_kept : (p : ℕ) → element_at ws' p ≡ element_at ws p
    pub rest_kept : (k : ℕ) → book_length ≤ k → at ws' k ≡ at ws k

  -- The entry at a place is struck.
  pub record EntryStruck (place : ℕ) : Type 0 where
    pub same_length : length ws' ≡ length ws
    pub same_mark : at ws' 0 ≡ at ws 0
    pub same_categories : categories ws' ≡ categories ws
    pub same_entries : entries ws' ≡ entries ws
    pub same_elements : elements ws' ≡ elements ws
    pub category_kept : (p : ℕ) → p < most_categories → category_at ws' p ≡ category_at ws p
    pub entry-struck : entry_at ws' place ≡ struck_entry (entry_at ws place)
    pub entry_kept : (p : ℕ) → (p ≡ place → ⊥) → entry_at ws' p ≡ entry_at ws p
    pub element_kept : (p : ℕ) → element_at ws' p ≡ element_at ws p
    pub rest_kept : (k : ℕ) → book_length ≤ k → at ws' k ≡ at ws k

  -- An element is appended.
  pub record ElementAdded (r : Element) : Type 0 where
    pub same_length : length ws' ≡ length ws
    pub same_mark : at ws' 0 ≡ at ws 0
    pub same_categories : categories ws' ≡ categories ws
    pub same_entries : entries ws' ≡ entries ws
    pub one_more : elements ws' ≡ elements ws + 1
    pub category_kept : (p : ℕ) → p < most_categories → category_at ws' p ≡ category_at ws p
    pub entry_kept : (p : ℕ) → p < most_entries → entry_at ws' p ≡ entry_at ws p
    pub element-new : element_at ws' (elements ws) ≡ r
    pub element_kept : (p : ℕ) → (p ≡ elements ws → ⊥) → element_at ws' p ≡ element_at ws p
    pub rest_kept : (k : ℕ) → book_length ≤ k → at ws' k ≡ at ws k

-- A record of these words is appended to a list.
record Appended (ws ws' : List ℕ) (list : Layout) (words : List ℕ) : Type 0 where
  same_length : length ws' ≡ length ws
  one_more : count_of ws' list ≡ count_of ws list + 1
  word_new : (f : ℕ) → f < length words → at ws' (start_of list (count_of ws list) + f) ≡ at words f
  word_kept : (k : ℕ) → (k ≡ list.counter → ⊥) × Outside (start_of list (count_of ws list)) (length words) k → at ws' k ≡ at ws k

appends : (ws : List ℕ) (list : Layout) (words : List ℕ) → list.counter < list.first → start_of list (count_of ws list) + length words ≤ length ws
    → Appended ws (appended ws list words) list words
appends ws list words early room =
    let start = start_of list (count_of ws list) in
    let put = sets ws start words in
    let more = count_of ws list + 1 in
    let long = length-sets ws start words in
    let other : (k : ℕ) → (k ≡ list.counter → ⊥) → at (set put list.counter more) k ≡ at put k = λ k ne. get_or-set_other put list.counter k more 0 ne in
    record {
      same_length = length-set put list.counter more ∙ long;
      one_more = get_or-set_same put list.counter more 0 (omega arith);
      word_new = λ f h. other (start + f) (omega arith) ∙ sets-inside ws start words f h room;
      word_kept = λ k out. other k out.0 ∙ sets-outside ws start words k out.1;
    }

module _ (ws : List ℕ) (long : book_length ≤ length ws) where
  pub category-added : (r : Category) → categories ws < most_categories → CategoryAdded ws (add_category ws r) r
  unfolding add_category
  category-added r room =
      let after = add_category ws r in
      let a = appends ws category_list (category_words r) (omega arith) (omega arith) in
      record {
        same_length = a.same_length;
        same_mark = a.word_kept 0 (omega arith);
        one_more = a.one_more;
        same_entries = a.word_kept entry_list.counter (omega arith);
        same_elements = a.word_kept element_list.counter (omega arith);
        category-new = category-is after (categories ws) r (λ f t. a.word_new f (ltb-true f category_list.width t));
        category_kept = λ p ne. category-same ws after p (λ f t. a.word_kept (category_start p + f) (omega (arith, ltb-true)));
        entry_kept = λ p. entry-same ws after p (λ f t. a.word_kept (entry_start p + f) (omega arith));
        element_kept = λ p. element-same ws after p (λ f t. a.word_kept (element_start p + f) (omega arith));
        rest_kept = λ k h. a.word_kept k (omega arith);
      }

  pub entry-added : (r : Entry) → entries ws < most_entries → EntryAdded ws (add_entry ws r) r
  unfolding add_entry
  entry-added r room =
      let after = add_entry ws r in
      let a = appends ws entry_list (entry_words r) (omega arith) (omega arith) in
      record {
        same_length = a.same_length;
        same_mark = a.word_kept 0 (omega arith);
        same_categories = a.word_kept category_list.counter (omega arith);
        one_more = a.one_more;
        same_elements = a.word_kept element_list.counter (omega arith);
        category_kept = λ p h. category-same ws after p (λ f t. a.word_kept (category_start p + f) (omega (arith, ltb-true)));
        entry_new = entry-is after (entries ws) r (λ f t. a.word_new f (ltb-true f entry_list.width t));
        entry_kept = λ p ne. entry-same ws after p (λ f t. a.word_kept (entry_start p + f) (omega (arith, ltb-true)));
        element_kept = λ p. element-same ws after p (λ f t. a.word_kept (element_start p + f) (omega arith));
        rest_kept = λ k h. a.word_kept k (omega arith);
      }

  pub element-added : (r : Element) → elements ws < most_elements → ElementAdded ws (add_element ws r) r
  unfolding add_element
  element-added r room =
      let after = add_element ws r in
      let a = appends ws element_list (element_words r) (omega arith) (omega arith) in
      record {
        same_length = a.same_length;
        same_mark = a.word_kept 0 (omega arith);
        same_categories = a.word_kept category_list.counter (omega arith);
        same_entries = a.word_kept entry_list.counter (omega arith);
        one_more = a.one_more;
        category_kept = λ p h. category-same ws after p (λ f t. a.word_kept (category_start p + f) (omega (arith, ltb-true)));
        entry_kept = λ p h. entry-same ws after p (λ f t. a.word_kept (entry_start p + f) (omega (arith, ltb-true)));
        element-new = element-is after (elements ws) r (λ f t. a.word_new f (ltb-true f element_list.width t));
        element_kept = λ p ne. element-same ws after p (λ f t. a.word_kept (element_start p + f) (omega (arith, ltb-true)));
        rest_kept = λ k h. a.word_kept k (omega arith);
      }

  pub entry-struck : (place : ℕ) → place < most_entries → EntryStruck ws (set ws (entry_start place + struck_word) 1) place
  entry-struck place room =
      let struck = entry_start place + struck_word in
      let after = set ws struck 1 in
      let kept : (k : ℕ) → (k ≡ struck → ⊥) → at after k ≡ at ws k = λ k ne. get_or-set_other ws struck k 1 0 ne in
      let word : (f : ℕ) → eqb f struck_word ≡ false → at after (entry_start place + f) ≡ at ws (entry_start place + f) =
      λ f t. kept (entry_start place + f) (omega (arith, eqb-false)) in
      record {
        same_length = length-set ws struck 1;
        same_mark = kept 0 (omega arith);
        same_categories = kept category_list.counter (omega arith);
        same_entries = kept entry_list.counter (omega arith);
        same_elements = kept element_list.counter (omega arith);
        category_kept = λ p h. category-same ws after p (λ f t. kept (category_start p + f) (omega (arith, ltb-true)));
        entry-struck = simp (simp add-zero at (word 0 refl), word, get_or-set_same ws struck 1 0 (omega arith));
        entry_kept = λ p ne. entry-same ws after p (λ f t. kept (entry_start p + f) (omega (arith, ltb-true)));
        element_kept = λ p. element-same ws after p (λ f t. kept (element_start p + f) (omega arith));
        rest_kept = λ k h. kept k (omega arith);
      }
