-- The waiting bytes after texts. Assumes nothing.
use Prim.Native.Nat.{ℕ, suc, ◌+◌, ◌<◌}
use native.Mathlib.Numerals.{add-one}
use mathlib.Core.Path.{◌≡◌, refl, sym}
use mathlib.Core.List.{List, [], ◌∷◌, ◌++◌, append_assoc}
use lib.ListN.{length, get_or, drop}
use lib.Seq.{drop-cons}
use Rattle.report.specs.Text.{decimal, line_end}
use Rattle.replay.specs.Waiting.{put_byte, put}

pub put-append : (bytes s t : List ℕ) → put bytes (s ++ t) ≡ put (put bytes s) t
put-append bytes [] t = refl
put-append bytes (b ∷ s) t = put-append (put_byte bytes b) s t

-- a turn of the loop that puts the end of a line number by number
pub line_step : (bytes numbers : List ℕ) (i : ℕ) → i < length numbers
    → put (put (put_byte bytes 32) (decimal (get_or numbers i 0))) (line_end (drop (i + 1) numbers)) ≡ put bytes (line_end (drop i numbers))
line_step bytes numbers i h =
    rw (add-one i, drop-cons numbers i 0, append_assoc (decimal (get_or numbers i 0)))
    (sym (put-append (put_byte bytes 32) (decimal (get_or numbers i 0)) (line_end (drop (suc i) numbers))))
