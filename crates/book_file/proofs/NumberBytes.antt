-- Laws of numbers in bytes. Assumes nothing.
use mathlib.Core.List.{List}
use mathlib.Core.Logic.{⊎_elim}
use mathlib.Core.Path.{◌≡◌, refl, ◌∙◌}
use Prim.Native.Nat.{ℕ, zero, suc, ◌+◌, ◌<◌, ◌≤◌}
use native.Mathlib.Nat.{add-zero}
use native.Mathlib.Omega.{arith}
use borrow.Author.Tests.{le-leb, lt-leb}
use lib.ListN.{length, take, drop, replicate, get_or-replicate}
use lib.Seq.{get_or-drop, get_or-take}
use Rattle.std.proofs.lemmas.Bool.{cases_lt}
use Rattle.book_file.specs.Bytes.{little_endian, number_at}

-- what the bytes of a part spell stands in the whole
in_part : (n m k : ℕ) (bytes : List ℕ) (at : ℕ) → k + m ≤ n → little_endian m (take n (drop at bytes)) k ≡ little_endian m bytes (at + k)
in_part n zero k bytes at h = refl
in_part n (suc m) k bytes at h =
    let next : little_endian m (take n (drop at bytes)) (k + 1) ≡ little_endian m bytes (at + (k + 1)) = in_part n m (k + 1) bytes at (omega arith) in
    let here : at + (k + 1) ≡ at + k + 1 = omega arith in
    rw (get_or-take n (drop at bytes) k 0 (omega arith), get_or-drop at bytes k 0, next, here)

zeros_spell : (n m k : ℕ) → k + m ≤ n → little_endian m (replicate n 0) k ≡ 0
zeros_spell n zero k h = refl
zeros_spell n (suc m) k h = rw (get_or-replicate {A = ℕ} n k 0 0 (omega arith), zeros_spell n m (k + 1) (omega arith))

-- the bytes that stand at a position, or zeros past the end, spell the number there
pub number_read : (n : ℕ) (bytes : List ℕ) (at : ℕ) (b : List ℕ)
    → (at + n ≤ length bytes → b ≡ take n (drop at bytes)) → (length bytes < at + n → b ≡ replicate n 0)
    → little_endian n b 0 ≡ number_at n bytes at
unfolding number_at
number_read n bytes at b inside past =
    ⊎_elim
    (λ (h : length bytes < at + n). rw (lt-leb (at + n) (length bytes) h, past h) (zeros_spell n n 0 (omega arith)))
    (λ (h : at + n ≤ length bytes). rw (le-leb (at + n) (length bytes) h, inside h) (in_part n n 0 bytes at (omega arith) ∙ rw add-zero))
    (cases_lt (length bytes) (at + n))
