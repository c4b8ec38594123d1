-- The appending of an entry or an element: what inner functions promise. Assumes nothing.
use Rattle.std.specs.Prelude.{[], ◌∷◌, ℕ}
use Rattle.apportion.specs.Grounds.{first_of}
use Rattle.book_words.specs.Book.{with_shares}
use Rattle.book_words.specs.Totals.{passes_limits}
use Rattle.book_words.specs.Inner.Steps.{capped}
use Rattle.book_words.specs.declared.records.Element.{Element}
use Rattle.book_words.specs.declared.records.Entry.{Entry}
use Rattle.book_words.specs.declared.totals.Sums.{Sums}

-- ground 10, of the sums with the record that would be appended: 10 where one "would pass" its limit, else 0
abbrev pub ten_of : Sums → ℕ
ten_of sums = first_of ((10, passes_limits sums) ∷ [])

-- an entry with its two amounts capped
abbrev pub cap_amounts : Entry → Entry
cap_amounts r =
    record {
      category = r.category;
      group = r.group;
      operation = capped r.operation;
      provision = capped r.provision;
      struck = r.struck;
    }

-- an element with its two shares capped
abbrev pub cap_shares : Element → Element
cap_shares r = with_shares r (capped r.operation) (capped r.provision)
