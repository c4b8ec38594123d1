-- The values, the codes and the activity of "The book", grounds 3, 6 and 7, and passengers by mass. Assumes nothing.
use Rattle.std.specs.Prelude.{Bool, not, ◌&&◌, ◌||◌, cond, ℕ, ◌*◌, leb, eqb}
use Rattle.book_words.specs.declared.records.Element.{Element}

-- low ≤ n ≤ high
abbrev pub between : ℕ → ℕ → ℕ → Bool
between low high n = leb low n && leb n high

-- "kind (1 freight, 2 passengers, 3 both, 4 freight hub)"
abbrev pub is_kind : ℕ → Bool
is_kind kind = between 1 4 kind

abbrev pub is_hub : ℕ → Bool
is_hub kind = eqb kind 4

-- "group (0 benefits all, 1 chilled, 2 frozen)"
abbrev pub is_group : ℕ → Bool
is_group group = leb group 2

-- "chain (1 to 10,000)"
abbrev pub most_chains : ℕ
most_chains = 10_000

abbrev pub is_chain : ℕ → Bool
is_chain chain = between 1 most_chains chain

-- "Code 0, 1, 2 is freight, ambient, chilled or frozen, and amount its mass."
abbrev pub is_freight : ℕ → Bool
is_freight code = leb code 2

-- "Code 100 to 1000 is a passenger class weight in hundredths of the lowest class, and amount a head count."
abbrev pub is_passenger : ℕ → Bool
is_passenger code = between 100 1000 code

abbrev pub is_code : ℕ → Bool
is_code code = is_freight code || is_passenger code

-- "adjust (0 or 1)"
abbrev pub is_adjust : ℕ → Bool
is_adjust adjust = leb adjust 1

-- ground 6: "Freight is enrolled in kind 2, passengers in kind 1 or 4"
abbrev pub unsuited : ℕ → ℕ → Bool
unsuited kind code = (is_freight code && eqb kind 2) || (is_passenger code && (eqb kind 1 || eqb kind 4))

-- ground 6: "or group 1 or 2 is posted to kind 2"
abbrev pub unsuited_group : ℕ → ℕ → Bool
unsuited_group kind group = between 1 2 group && eqb kind 2

-- ground 7: "quantity 0 to 10^12"
abbrev pub is_quantity : ℕ → Bool
is_quantity quantity = leb quantity 1_000_000_000_000

-- "factor 0 to 10^10"
abbrev pub is_factor : ℕ → Bool
is_factor factor = leb factor 10_000_000_000

-- "mass 1 to 10^9"
abbrev pub is_mass : ℕ → Bool
is_mass mass = between 1 1_000_000_000 mass

-- "heads 1 to 10^6"
abbrev pub is_heads : ℕ → Bool
is_heads heads = between 1 1_000_000 heads

-- an element's amount: a mass, or a head count
abbrev pub is_amount : ℕ → ℕ → Bool
is_amount code amount = cond (is_freight code) (is_mass amount) (is_heads amount)

-- "distance 1 to 40,000,000"
abbrev pub is_distance : ℕ → Bool
is_distance distance = between 1 40_000_000 distance

-- "but only 0 in a hub"
abbrev pub is_distance_in : ℕ → ℕ → Bool
is_distance_in kind distance = cond (is_hub kind) (eqb distance 0) (is_distance distance)

-- an element is weighed where its kg per head are stated: "kg per head, 1 to 300, or 0 for the standard 100"
abbrev pub is_weighed : ℕ → Bool
is_weighed kg_per_head = not (eqb kg_per_head 0)

-- "ground 7 gains the range, which for freight is 0 alone": 0 to 300 for passengers
abbrev pub is_kg_per_head : ℕ → ℕ → Bool
is_kg_per_head code kg_per_head = leb kg_per_head (cond (is_freight code) 0 300)

-- "intensity 0 to 10^9"
abbrev pub is_intensity : ℕ → Bool
is_intensity intensity = leb intensity 1_000_000_000

-- "Activity is amount × distance for freight, amount in a hub, amount × code × distance for passengers."
unfoldable pub activity_of : ℕ → ℕ → ℕ → ℕ → ℕ
activity_of kind code amount distance =
    cond (is_freight code) (cond (is_hub kind) amount (amount * distance)) (amount * code * distance)

-- the mass of a passenger, in kg: "the stated mass", or "the standard 100"
abbrev pub standard_mass : ℕ
standard_mass = 100

abbrev pub mass_per_head : ℕ → ℕ
mass_per_head kg_per_head = cond (is_weighed kg_per_head) kg_per_head standard_mass

-- passengers by mass: "head count × 100 × distance (100 kg per passenger, Annex A.4.2)", where "P uses the stated mass, and so does
-- the exact share"
abbrev pub heads_by_mass : ℕ → ℕ → ℕ → ℕ
heads_by_mass heads kg_per_head distance = heads * mass_per_head kg_per_head * distance

-- passengers as they count in P
abbrev pub by_stated_mass : Element → ℕ
by_stated_mass e = heads_by_mass e.amount e.kg_per_head e.distance

-- passengers as they count in ground 10, which "still counts 100 per head"
abbrev pub by_standard_mass : Element → ℕ
by_standard_mass e = e.amount * standard_mass * e.distance

-- an element's activity in ground 10
unfoldable pub standard_activity : Element → ℕ
standard_activity e = cond (is_freight e.code) e.activity (by_standard_mass e)
