-- The steps of a closing and of an intensity: what inner functions require and promise. Assumes nothing.
use Rattle.std.specs.Prelude.{Option, Some, None, cond, true, false, List, ◌∷◌, [], ◌≡◌, ℕ, ◌+◌, ◌*◌, ◌≤◌, zero, suc, eqb, ltb, length, set}
use Rattle.apportion.specs.Dividing.{Divisible, divided, most_pool}
use Rattle.apportion.specs.Places.{at, list_below}
use Rattle.book_words.specs.Book.{categories}
use Rattle.book_words.specs.Measures.{between, is_hub}
use Rattle.book_words.specs.declared.totals.Side.{Side}
use Rattle.book_words.specs.declared.totals.Side.TheVariants.{Operation as operation, Provision as provision}
use Rattle.book_words.specs.Inner.Steps.{capped}
use Rattle.book_words.specs.Totals.{unstruck}
use Rattle.book_words.specs.declared.records.Entry.{Entry}
use Rattle.book_shares.specs.declared.pools.Pools.{Pools}
use Rattle.book_shares.specs.declared.sharing.Parts.{Parts}
use Rattle.book_shares.specs.declared.sharing.Shares.{Shares}
use Rattle.book_shares.specs.declared.weights.Group.{Group}
use Rattle.book_shares.specs.declared.weights.Group.TheVariants.{Chilled as chilled, Frozen as frozen}
use Rattle.book_shares.specs.declared.weights.Recipients.{Recipients as Named}
use Rattle.book_shares.specs.declared.weights.Recipients.TheVariants.{Freight as freight, Passengers as passengers, Group as of_group}
use Rattle.book_shares.specs.Intensities.{is_intensity_code, lacks_activity}
use Rattle.book_shares.specs.Shares.{closing_share}
use Rattle.book_shares.specs.Inner.Members.{weights_at, group_number}
use Rattle.book_shares.specs.Sums.{Recipients, activity_among, pool}

-- the pool of this group with what an entry adds to it, where it is of the group
abbrev pub pool_with : ℕ → ℕ → Side → Entry → ℕ
pool_with sum group side e = cond (eqb e.group group) (capped (sum + unstruck side e)) sum

-- the pools with what an entry adds to them, where it is of the category
abbrev pub pools_with : Pools → ℕ → Side → Entry → Pools
pools_with pools category side e =
    cond (eqb e.category category)
    (record {
      all = pool_with pools.all 0 side e;
      chilled = pool_with pools.chilled 1 side e;
      frozen = pool_with pools.frozen 2 side e;
    })
    pools

-- A, B1 and B2 of a side
abbrev pub pools_by : List ℕ → ℕ → Side → Pools
pools_by ws category side =
    record {
      all = pool ws category 0 side;
      chilled = pool ws category 1 side;
      frozen = pool ws category 2 side;
    }

-- the pool of a group
abbrev pub group_pool : Pools → Group → ℕ
group_pool pools chilled = pools.chilled
group_pool pools frozen = pools.frozen

-- A divided by the weights F and P
abbrev pub parts_by : ℕ → ℕ → ℕ → Parts
parts_by all activity mass =
    record {
      freight = at (divided all (activity ∷ mass ∷ [])) 0;
      passengers = at (divided all (activity ∷ mass ∷ [])) 1;
    }

-- an amount that can be divided over the elements at these places
pub record DivisibleOver (ws places : List ℕ) (recipients : Recipients) (amount : ℕ) : Type 0 where
  pub divisible : Divisible amount (weights_at ws places recipients)
  pub within : amount ≤ most_pool

-- these shares, to each of which the part of an amount is added that the element at its place gets
abbrev pub with_parts_of : List ℕ → List ℕ → Recipients → ℕ → List ℕ → List ℕ
with_parts_of ws places recipients amount shares =
    list_below (length shares) (λ k. at shares k + at (divided amount (weights_at ws places recipients)) k)

-- the share of a side at place k
abbrev pub share_at : Shares → Side → ℕ → ℕ
share_at shares operation k = at shares.operation k
share_at shares provision k = at shares.provision k

-- the share of a closing for the element at place k of these; 0 past the last
abbrev pub listed_share : List ℕ → ℕ → List ℕ → Side → ℕ → ℕ
listed_share ws category places side k = cond (ltb k (length places)) (closing_share ws category side (at places k)) 0

-- the shares of a closing are worked out for the elements at these places
abbrev pub WorkedOut : List ℕ → ℕ → List ℕ → Shares → Type 0
WorkedOut ws category places shares = (side : Side) (k : ℕ) → share_at shares side k ≡ listed_share ws category places side k

-- two words are written, one after the other
abbrev pub put_two : List ℕ → ℕ → ℕ → ℕ → List ℕ
put_two words start by_operation by_provision = set (set words start by_operation) (start + 1) by_provision

-- the elements at the first n of these places get their shares, one after the other. The words of the place p begin at
-- first + width × p
abbrev pub hand_out_to : ℕ → ℕ → List ℕ → ℕ → List ℕ → (Side → ℕ → ℕ) → List ℕ
hand_out_to first width places zero words share = words
hand_out_to first width places (suc n) words share =
    put_two (hand_out_to first width places n words share) (first + width * at places n) (share operation n) (share provision n)

-- the code of the intensity of freight, of passengers or of a group: "code 0, 1, 2 or 100"
abbrev pub code_of : Named → ℕ
code_of freight = 0
code_of passengers = 100
code_of (of_group g) = group_number g

-- what the intensity of a code is of: none where it is no code of an intensity
abbrev pub AskedBy : ℕ → Option Named → Type 0
AskedBy code None = is_intensity_code code ≡ false
AskedBy code (Some recipients) = code ≡ code_of recipients

-- grounds 2 and 9 of an intensity do not hold; the code behind them needs no more
pub record Allowed (ws : List ℕ) (category : ℕ) (recipients : Named) : Type 0 where
  pub numbered : between 1 (categories ws) category ≡ true
  pub some_activity : lacks_activity (activity_among ws category) (code_of recipients) ≡ false

-- how many tens the scale of a kind is the product of
abbrev pub scale_tens : ℕ → ℕ
scale_tens kind = cond (is_hub kind) 0 3
