-- What holds where an intensity is wanted, and its results by their quotients. Assumes nothing.
use mathlib.Core.Bool.{Bool, ◌||◌, false, true, cond}
use mathlib.Core.List.{List}
use mathlib.Core.Path.{◌≡◌, ◌∙◌, refl, ap}
use Prim.Native.Nat.{ℕ, ◌<◌, ◌*◌, ◌^◌, ◌+◌, zero, suc}
use native.Mathlib.Nat.{add-zero}
use native.Mathlib.Omega.{arith}
use lib.Dec.{eqb, ltb}
use borrow.Author.Tests.{not-false, ltb-false}
use Rattle.apportion.specs.Fractions.{nearest}
use Rattle.apportion.specs.Grounds.{accepted, first_of}
use Rattle.apportion.specs.Inner.Grounds.{grounds_before}
use Rattle.book_words.specs.Book.{category_of, categories}
use Rattle.book_words.specs.Measures.{between, is_hub}
use Rattle.book_words.specs.Soundness.{sound}
use Rattle.book_words.specs.declared.totals.Side.{Side}
use Rattle.book_words.specs.declared.totals.Side.TheVariants.{Operation as operation, Provision as provision}
use Rattle.book_words.specs.Inner.Steps.{capped}
use Rattle.book_shares.specs.declared.pools.Pools.{Pools}
use Rattle.book_shares.specs.declared.sharing.Parts.{Parts}
use Rattle.book_shares.specs.Inner.Steps.{scale_tens, Allowed, code_of, pools_by, group_pool}
use Rattle.book_shares.specs.Intensities.{lacks_activity, intensity_of, scale, most_result, intensity_refusal, is_intensity_code, passes_intensity, IntensityReply, intensity_reply, intensity_grounds}
use Rattle.book_shares.specs.declared.weights.Group.{Group as NamedGroup}
use Rattle.book_shares.specs.declared.weights.Group.TheVariants.{Chilled as chilled, Frozen as frozen}
use Rattle.book_shares.specs.declared.weights.Recipients.{Recipients as Named}
use Rattle.book_shares.specs.declared.weights.Recipients.TheVariants.{Freight as freight, Passengers as passengers, Group as of_group}
use Rattle.book_shares.specs.Inner.Members.{members, activity_at, mass_at, by_number, group_number}
use Rattle.book_shares.specs.Shares.{freight_part}
use Rattle.book_shares.specs.Sums.{Recipients, Group, Passengers, Freight, activity_among}
use Rattle.apportion.proofs.Grounds.{or-none, none-holds, decided-from}
use Rattle.book_words.proofs.CappedSums.{capped-both, capped-over}
use Rattle.book_words.proofs.Ranges.{above_zero}
use Rattle.book_shares.proofs.SumBounds.{activity-most}
use Rattle.book_shares.proofs.ClosingShares.{ToDivideBy, parts_of}
use Rattle.book_shares.proofs.CloseAccepted.{served-at}
use Rattle.book_shares.proofs.MemberSums.{activity-members}

tens-scale : (kind : ℕ) → 10 ^ scale_tens kind ≡ scale kind
tens-scale kind = go (is_hub kind)
  where
    go : (t : Bool) → 10 ^ cond t 0 3 ≡ cond t 1 1000
    go true = refl
    go false = refl

-- where ground 9 does not hold, there is an activity to divide by
module _ (activity : Recipients → ℕ) where
  group-parts : (g : NamedGroup) → lacks_activity activity (group_number g) ≡ false → (eqb (activity Freight) 0 ≡ false) × (eqb (activity (Group (group_number g))) 0 ≡ false)
  group-parts chilled h = or-none (eqb (activity Freight) 0) (eqb (activity (Group 1)) 0) h
  group-parts frozen h = or-none (eqb (activity Freight) 0) (eqb (activity (Group 2)) 0) h

  some-recipients : (r : Named) → lacks_activity activity (code_of r) ≡ false → 0 < activity (by_number r)
  some-recipients freight h = above_zero (activity Freight) (or-none (eqb (activity Freight) 0) false h).0
  some-recipients passengers h = above_zero (activity Passengers) h
  some-recipients (of_group g) h = above_zero (activity (Group (group_number g))) (group-parts g h).1

  some-freight : (g : NamedGroup) → lacks_activity activity (group_number g) ≡ false → 0 < activity Freight
  some-freight g h = above_zero (activity Freight) (group-parts g h).0

module _ (ws : List ℕ) (category code : ℕ) where
  -- none of the grounds before 9 holds
  pub record Early : Type 0 where
    pub fine : sound ws ≡ true
    pub numbered : between 1 (categories ws) category ≡ true
    pub known : is_intensity_code code ≡ true
    pub late : intensity_refusal ws category code ≡ cond (lacks_activity (activity_among ws category) code) 9 (cond (passes_intensity ws category code) 10 0)

  pub early : first_of (grounds_before 9 (intensity_grounds ws category code)) ≡ 0 → Early
  unfolding intensity_refusal
  early e =
      let none = none-holds (grounds_before 9 (intensity_grounds ws category code)) refl e in
      record {
        fine = not-false (sound ws) (none 1);
        numbered = not-false (between 1 (categories ws) category) (none 2);
        known = not-false (is_intensity_code code) (none 3);
        late = decided-from 9 (intensity_grounds ws category code) refl e;
      }

  -- ground 9, by the sums over the category's elements
  pub nine : (places : List ℕ) → places ≡ members ws category → lacks_activity (activity_at ws places) code ≡ lacks_activity (activity_among ws category) code
  nine places are =
      rw (are, activity-members ws category Passengers, activity-members ws category Freight, activity-members ws category (Group code))

  -- ground 10, from the capped results
  pub ten : (a b : ℕ) → a ≡ capped (intensity_of ws category code operation) → b ≡ capped (intensity_of ws category code provision)
      → passes_intensity ws category code ≡ ltb most_result a || ltb most_result b
  ten a b e f =
      rw (
        e,
        f,
        capped-over most_result (intensity_of ws category code operation) (omega arith),
        capped-over most_result (intensity_of ws category code provision) (omega arith),
      )

  -- a result within 10^15 is not capped
  pub uncapped : (side : Side) (r : ℕ) → ltb most_result r ≡ false → r ≡ capped (intensity_of ws category code side) → r ≡ intensity_of ws category code side
  uncapped side r h e = omega (arith, ltb-false most_result r h, e)

  -- the reply of a refused call, and that of an accepted one
  pub reply-refused : (n : ℕ) → n ≡ intensity_refusal ws category code → (n ≡ 0 → ⊥)
      → record { refusal = n; operation = 0; provision = 0 } ≡ intensity_reply ws category code
  unfolding intensity_reply
  reply-refused n is ne = go n (intensity_refusal ws category code) is ne
    where
      go : (n m : ℕ) → n ≡ m → (n ≡ 0 → ⊥)
          → ◌≡◌ {A = IntensityReply} (record { refusal = n; operation = 0; provision = 0 })
          (record {
            refusal = m;
            operation = accepted m (intensity_of ws category code operation) 0;
            provision = accepted m (intensity_of ws category code provision) 0;
          })
      go n zero e h = absurd (h e)
      go n (suc m) e h = rw e

  pub reply-accepted : (a b : ℕ) → intensity_refusal ws category code ≡ 0
      → a ≡ intensity_of ws category code operation → b ≡ intensity_of ws category code provision
      → record { refusal = 0; operation = a; provision = b } ≡ intensity_reply ws category code
  unfolding intensity_reply
  reply-accepted a b none e f = rw (none, e, f)

-- Where an intensity is allowed, over the category's elements by their places: what is divided by is above 0, and the results
-- are those that the code makes.
module _ (ws : List ℕ) (category : ℕ) (places : List ℕ) (are : places ≡ members ws category) where
  found : (recipients : Recipients) → activity_at ws places recipients ≡ activity_among ws category recipients
  found recipients = rw are (activity-members ws category recipients)

  pub recipients-there : (r : Named) → Allowed ws category r → 0 < activity_at ws places (by_number r)
  recipients-there r ok = rw (found (by_number r)) (some-recipients (activity_among ws category) r ok.some_activity)

  pub freight-there : (g : NamedGroup) → Allowed ws category (of_group g) → 0 < activity_at ws places Freight
  freight-there g ok = rw (found Freight) (some-freight (activity_among ws category) g ok.some_activity)

  pub all_there : sound ws ≡ true → (r : Named) → Allowed ws category r → 0 < activity_at ws places Freight + mass_at ws places
  all_there fine r ok = served-at ws category places are (to-divide-by r ok.some_activity)
    where
      to-divide-by : (r : Named) → lacks_activity (activity_among ws category) (code_of r) ≡ false → ToDivideBy ws category
      to-divide-by freight h = omega (arith, some-recipients (activity_among ws category) freight h)
      to-divide-by passengers h = omega (arith, some-recipients (activity_among ws category) passengers h, activity-most ws fine category)
      to-divide-by (of_group g) h = omega (arith, some-freight (activity_among ws category) g h)

  module _ (side : Side) {p : Parts} (are-parts : p ≡ parts_of ws category side) where
    pub passengers-result : {r : ℕ} → r ≡ capped (nearest (p.passengers * 100) (activity_at ws places Passengers))
        → r ≡ capped (intensity_of ws category 100 side)
    unfolding intensity_of
    passengers-result e = e ∙ rw (are-parts, found Passengers)

    module _ {tens first : ℕ} (is-tens : tens ≡ scale_tens (category_of ws category).kind)
        (is-first : first ≡ capped (nearest (p.freight * 10 ^ tens) (activity_at ws places Freight))) where
      unit : 10 ^ tens ≡ scale (category_of ws category).kind
      unit = ap (λ (n : ℕ). 10 ^ n) is-tens ∙ tens-scale (category_of ws category).kind

      pub freight-result : first ≡ capped (intensity_of ws category 0 side)
      unfolding intensity_of
      freight-result = is-first ∙ rw (unit, are-parts, found Freight, add-zero)

      pub group-result : (g : NamedGroup) (q : Pools) {more second r : ℕ} → q ≡ pools_by ws category side → more ≡ group_pool q g
          → second ≡ capped (nearest (more * 10 ^ tens) (activity_at ws places (Group (group_number g)))) → r ≡ capped (first + second)
          → r ≡ capped (intensity_of ws category (group_number g) side)
      unfolding intensity_of
      group-result g q {more} {second} are-pools is-more is-second is =
          let sum : capped (first + second)
          ≡ capped (nearest (p.freight * 10 ^ tens) (activity_at ws places Freight) + nearest (more * 10 ^ tens) (activity_at ws places (Group (group_number g)))) =
          rw (is-first, is-second) (capped-both _ _) in
          is ∙ sum ∙ rw (is-more, are-pools, unit, are-parts, found Freight, found (Group (group_number g))) (by g)
        where
          by : (g : NamedGroup)
              → capped (nearest (freight_part ws category side * scale (category_of ws category).kind) (activity_among ws category Freight)
              + nearest (group_pool (pools_by ws category side) g * scale (category_of ws category).kind) (activity_among ws category (Group (group_number g))))
              ≡ capped (intensity_of ws category (group_number g) side)
          by chilled = refl
          by frozen = refl
