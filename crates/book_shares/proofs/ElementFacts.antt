-- What is known of an element of a sound book. Assumes nothing.
use mathlib.Core.Bool.{true, false, not, ◌&&◌, Bool, cond, ◌||◌, true≢false}
use mathlib.Core.List.{List}
use mathlib.Core.Logic.{⊎_elim}
use mathlib.Core.Path.{◌≡◌, ◌∙◌, sym, refl}
use Prim.Native.Nat.{ℕ, ◌<◌, ◌≤◌, ◌*◌}
use native.Mathlib.Nat.{eq-zero-or-pos, mul-le-mul, mul-le-mul_left}
use native.Mathlib.Omega.{arith}
use lib.Dec.{eqb, leb}
use borrow.Author.Tests.{eqb-true, eq-eqb, ne_eqb, leb-true}
use Rattle.std.proofs.lemmas.Bool.{and_parts, cond-false}
use Rattle.book_words.specs.Book.{category_of}
use Rattle.book_words.specs.Measures.{is_code, unsuited, is_amount, is_distance_in, activity_of, is_freight, between, is_passenger, is_hub, standard_activity, is_group, unsuited_group, is_kg_per_head, mass_per_head, by_stated_mass, by_standard_mass}
use Rattle.book_words.specs.Soundness.{most_amount, measured, element_suits, quoted_suits, element_fine, entry_fine, entry_suits}
use Rattle.book_words.specs.declared.records.Category.{Category}
use Rattle.book_words.specs.declared.records.Element.{Element}
use Rattle.book_words.specs.declared.records.Entry.{Entry}
use Rattle.book_words.proofs.Ranges.{between-low, between-high}
use Rattle.book_words.proofs.RecordRules.{element-quoted, element-numbered, element-inside, entry-numbered, entry-inside, suits-parts, quoted-parts}

-- an element that suits a kind and is measured by it
pub record Measured (r : Element) : Type 0 where
  pub kind : ℕ
  pub known : is_code r.code ≡ true
  pub suited : unsuited kind r.code ≡ false
  pub fine : measured kind r ≡ true

suits-measured : (k : Category) (r : Element) → element_suits k r ≡ true → Measured r
suits-measured k r e =
    let s = suits-parts k r e in
    record { kind = k.kind; known = s.known_code; suited = s.suited; fine = s.well_measured }

quoted-measured : (r : Element) → quoted_suits r ≡ true → Measured r
quoted-measured r e =
    let s = quoted-parts r e in
    record { kind = 1; known = rw s.ambient; suited = rw s.ambient; fine = s.well_measured }

pub fine-measured : (ws : List ℕ) (r : Element) → element_fine ws r ≡ true → Measured r
fine-measured ws r e =
    ⊎_elim
    (λ (none : r.category ≡ 0). quoted-measured r (element-quoted ws r none ∙ e))
    (λ (some : 0 < r.category).
    let enrolled : r.category ≡ 0 → ⊥ = λ z. omega arith in
    suits-measured (category_of ws r.category) r (element-numbered ws r enrolled (element-inside ws r enrolled e) ∙ e))
    (eq-zero-or-pos r.category)

module _ (r : Element) (m : Measured r) where
  abbrev in-range : Bool
  in-range = is_amount r.code r.amount && is_distance_in m.kind r.distance

  abbrev known-mass : Bool
  known-mass = is_kg_per_head r.code r.kg_per_head

  parts : (in-range && known-mass ≡ true) × (eqb r.activity (activity_of m.kind r.code r.amount r.distance) ≡ true)
  unfolding measured
  parts = and_parts (in-range && known-mass) (eqb r.activity (activity_of m.kind r.code r.amount r.distance)) m.fine

  ranges : (is_amount r.code r.amount ≡ true) × (is_distance_in m.kind r.distance ≡ true)
  ranges = and_parts (is_amount r.code r.amount) (is_distance_in m.kind r.distance) (and_parts in-range known-mass parts.0).0

  -- a passenger's mass is from 1 to 300 kg
  head-mass : is_freight r.code ≡ false → (1 ≤ mass_per_head r.kg_per_head) × (mass_per_head r.kg_per_head ≤ 300)
  head-mass e =
      let most = leb-true r.kg_per_head 300 (rw e at (and_parts in-range known-mass parts.0).1) in
      ⊎_elim
      (λ (none : r.kg_per_head ≡ 0). rw (eq-eqb r.kg_per_head 0 none) (omega arith, omega arith))
      (λ (some : 0 < r.kg_per_head). rw (ne_eqb r.kg_per_head 0 (λ z. omega arith)) (some, most))
      (eq-zero-or-pos r.kg_per_head)

  right : r.activity ≡ activity_of m.kind r.code r.amount r.distance
  right = eqb-true r.activity (activity_of m.kind r.code r.amount r.distance) parts.1

  some-amount : 1 ≤ r.amount
  some-amount = go (is_freight r.code) ranges.0
    where
      go : (t : Bool) → cond t (between 1 1_000_000_000 r.amount) (between 1 1_000_000 r.amount) ≡ true → 1 ≤ r.amount
      go true h = between-low 1 1_000_000_000 r.amount h
      go false h = between-low 1 1_000_000 r.amount h

  -- a class weight is from 100 to 1000
  pub class : is_freight r.code ≡ false → is_passenger r.code ≡ true
  class e = go (is_freight r.code) e m.known
    where
      go : (t : Bool) → t ≡ false → t || is_passenger r.code ≡ true → is_passenger r.code ≡ true
      go true p h = absurd (true≢false p)
      go false p h = h

  -- the activity of passengers
  pub class-weighed : is_freight r.code ≡ false → r.activity ≡ r.amount * r.code * r.distance
  unfolding activity_of
  class-weighed e = right ∙ rw e

  -- outside a hub there is a distance
  far : is_hub m.kind ≡ false → 1 ≤ r.distance
  far e = between-low 1 40_000_000 r.distance (sym (cond-false (is_hub m.kind) (eqb r.distance 0) (between 1 40_000_000 r.distance) e) ∙ ranges.1)

  -- passengers suit no hub
  no-hub : is_freight r.code ≡ false → is_hub m.kind ≡ false
  no-hub e = go (is_hub m.kind) refl
    where
      go : (t : Bool) → is_hub m.kind ≡ t → is_hub m.kind ≡ false
      go false p = p
      go true p =
          let kind : m.kind ≡ 4 = eqb-true m.kind 4 p in
          let not-suited : unsuited m.kind r.code ≡ true = rw (kind, e, class e) in
          absurd (true≢false (sym not-suited ∙ m.suited))

  -- every element has an activity
  pub active : 0 < r.activity
  unfolding activity_of
  active = rw right (go (is_freight r.code) refl (is_hub m.kind) refl)
    where
      go : (t : Bool) → is_freight r.code ≡ t → (h : Bool) → is_hub m.kind ≡ h
          → 0 < cond t (cond h r.amount (r.amount * r.distance)) (r.amount * r.code * r.distance)
      go true e true p = omega (arith, some-amount)
      go true e false p = omega (arith, mul-le-mul some-amount (far p))
      go false e h p =
          omega (
            arith,
            mul-le-mul (mul-le-mul some-amount (between-low 100 1000 r.code (class e))) (far (no-hub e)),
          )

  -- an activity is at most ten times that of ground 10
  pub tenfold : r.activity ≤ 10 * standard_activity r
  unfolding standard_activity
  tenfold = go (is_freight r.code) refl
    where
      go : (t : Bool) → is_freight r.code ≡ t → r.activity ≤ 10 * cond t r.activity (by_standard_mass r)
      go true e = omega arith
      go false e =
          let most = mul-le-mul_left (r.amount * r.distance) (between-high 100 1000 r.code (class e)) in
          omega (arith, class-weighed e, most)

  -- passengers by their stated mass: at most three times what they are by the standard one and by activity, which is at most a thousand
  -- times the first
  pub threefold-standard : is_freight r.code ≡ false → by_stated_mass r ≤ 3 * by_standard_mass r
  threefold-standard e = omega (arith, mul-le-mul_left (r.amount * r.distance) (head-mass e).1)

  pub threefold-activity : is_freight r.code ≡ false → by_stated_mass r ≤ 3 * r.activity
  threefold-activity e =
      let least = mul-le-mul_left (r.amount * r.distance) (between-low 100 1000 r.code (class e)) in
      omega (arith, class-weighed e, least, threefold-standard e)

  pub thousandfold : is_freight r.code ≡ false → r.activity ≤ 1000 * by_stated_mass r
  thousandfold e =
      let most = mul-le-mul_left (r.amount * r.distance) (between-high 100 1000 r.code (class e)) in
      omega (arith, class-weighed e, most, mul-le-mul_left (r.amount * r.distance) (head-mass e).0)

-- an entry's group is 0, 1 or 2
pub entry-grouped : (ws : List ℕ) (r : Entry) → entry_fine ws r ≡ true → r.group ≤ 2
unfolding entry_suits
entry-grouped ws r e =
    let k = category_of ws r.category in
    let suits = entry-numbered ws r (entry-inside ws r e) ∙ e in
    let known = is_group r.group in
    let suited = not (unsuited_group k.kind r.group) in
    let one = leb r.operation most_amount in
    let two = leb r.provision most_amount in
    let a = and_parts (known && suited && one && two) (leb r.struck 1) suits in
    let b = and_parts (known && suited && one) two a.0 in
    let d = and_parts (known && suited) one b.0 in
    leb-true r.group 2 (and_parts known suited d.0).0
