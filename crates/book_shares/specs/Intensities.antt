-- "**Intensity** (category, code 0, 1, 2 or 100) returns operation and provision". Assumes nothing.
use Rattle.std.specs.Prelude.{Result, Ok, Err, Bool, ◌||◌, cond, not, ◌&&◌, List, ◌∷◌, [], ℕ, ◌*◌, ◌+◌, eqb, ltb}
use Rattle.apportion.specs.Fractions.{nearest}
use Rattle.apportion.specs.Grounds.{Ground, first_of, accepted}
use Rattle.book_words.specs.Book.{category_of, unnumbered, categories, has_closed}
use Rattle.book_words.specs.Measures.{is_freight, is_hub}
use Rattle.book_words.specs.Soundness.{sound}
use Rattle.book_words.specs.declared.totals.Side.{Side}
use Rattle.book_words.specs.declared.totals.Side.TheVariants.{Operation as operation, Provision as provision}
use Rattle.book_words.specs.declared.records.Category.{Category}
use Rattle.book_shares.specs.declared.intensities.Intensity.{Intensity}
use Rattle.apportion.specs.Refusals.{number_of}
use Rattle.apportion.specs.declared.refusing.Refusal.{Refusal}
use Rattle.book_shares.specs.Shares.{freight_part, passenger_part}
use Rattle.book_shares.specs.Sums.{Recipients, Freight, Passengers, Group, activity_among, pool}

-- ground 3: a code of an intensity is "0, 1, 2 or 100"
abbrev pub is_intensity_code : ℕ → Bool
is_intensity_code code = is_freight code || eqb code 100

-- "Freight in mg per tonne-km: .. × 1000"; "Hub, mg per tonne: the same without 1000."
abbrev pub scale : ℕ → ℕ
scale kind = cond (is_hub kind) 1 1000

-- "freight part × 1000 / F"
abbrev pub freight_intensity : List ℕ → ℕ → Side → ℕ
freight_intensity ws category side =
    nearest (freight_part ws category side * scale (category_of ws category).kind) (activity_among ws category Freight)

-- "plus B × 1000 / S for 1 and 2"
abbrev pub group_intensity : List ℕ → ℕ → ℕ → Side → ℕ
group_intensity ws category group side =
    nearest (pool ws category group side * scale (category_of ws category).kind) (activity_among ws category (Group group))

-- "Code 100, mg per lowest-class passenger-km: passenger part × 100 / C."
abbrev pub passenger_intensity : List ℕ → ℕ → Side → ℕ
passenger_intensity ws category side =
    nearest (passenger_part ws category side * 100) (activity_among ws category Passengers)

-- "each quotient below is rounded to nearest, .. and then added"; halves by document 02's "Quotes, intensities and workbook cells follow
-- from now on"
unfoldable pub intensity_of : List ℕ → ℕ → ℕ → Side → ℕ
intensity_of ws category code side =
    cond (eqb code 100)
    (passenger_intensity ws category side)
    (freight_intensity ws category side + cond (eqb code 0) 0 (group_intensity ws category code side))

-- ground 9: "intensity: its F, S or C is 0"; `activity` gives that of freight, of passengers or of a group
abbrev pub lacks_activity : (Recipients → ℕ) → ℕ → Bool
lacks_activity activity code =
    cond (eqb code 100)
    (eqb (activity Passengers) 0)
    (eqb (activity Freight) 0 || (not (eqb code 0) && eqb (activity (Group code)) 0))

-- ground 10: "an intensity result, operation or provision, would pass 10^15"
abbrev pub most_result : ℕ
most_result = 1_000_000_000_000_000

abbrev pub passes_intensity : List ℕ → ℕ → ℕ → Bool
passes_intensity ws category code =
    ltb most_result (intensity_of ws category code operation) || ltb most_result (intensity_of ws category code provision)

-- `here` is the record of the category
abbrev pub intensity_grounds_in : List ℕ → ℕ → ℕ → Category → List Ground
intensity_grounds_in ws category code here =
    (1, not (sound ws))
    ∷ (2, unnumbered (categories ws) category)
    ∷ (3, not (is_intensity_code code))
    ∷ (5, not (has_closed here))
    ∷ (9, lacks_activity (activity_among ws category) code)
    ∷ (10, passes_intensity ws category code)
    ∷ []

abbrev pub intensity_grounds : List ℕ → ℕ → ℕ → List Ground
intensity_grounds ws category code = intensity_grounds_in ws category code (category_of ws category)

unfoldable pub intensity_refusal : List ℕ → ℕ → ℕ → ℕ
intensity_refusal ws category code = first_of (intensity_grounds ws category code)

-- what an intensity returns: its refusal number, operation and provision
pub record IntensityReply : Type 0 where
  pub refusal : ℕ
  pub operation : ℕ
  pub provision : ℕ

-- "A refusal returns its number with zeros"
unfoldable pub intensity_reply : List ℕ → ℕ → ℕ → IntensityReply
intensity_reply ws category code =
    record {
      refusal = intensity_refusal ws category code;
      operation = accepted (intensity_refusal ws category code) (intensity_of ws category code operation) 0;
      provision = accepted (intensity_refusal ws category code) (intensity_of ws category code provision) 0;
    }

-- what an answer returns, for each of its cases
abbrev pub intensity_in : Result Intensity Refusal → IntensityReply
intensity_in (Ok i) = record { refusal = 0; operation = i.operation; provision = i.provision }
intensity_in (Err refusal) = record { refusal = number_of refusal; operation = 0; provision = 0 }
