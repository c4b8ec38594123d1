-- A sum that a loop adds up over the places of a list, capped. Assumes nothing.
use mathlib.Core.Path.{◌≡◌, ap, ◌∙◌}
use Prim.Native.Nat.{ℕ, ◌≤◌, ◌<◌, ◌+◌}
use native.Mathlib.Omega.{arith}
use Rattle.apportion.specs.Places.{sum_below}
use Rattle.book_words.specs.Inner.Steps.{capped}
use Rattle.apportion.proofs.Sums.{sum-next}
use Rattle.book_words.proofs.CappedSums.{capped-add}

-- the sum up to place k of n
pub record Adding (n k sum : ℕ) (f : ℕ → ℕ) : Type 0 where
  pub inside : k ≤ n
  pub so_far : sum ≡ capped (sum_below k f)

pub adding-next : {n k sum : ℕ} {f : ℕ → ℕ} (next : ℕ) → Adding n k sum f → k < n → next ≡ capped (sum + f k) → Adding n (k + 1) next f
adding-next {n} {k} {sum} {f} next a h e = record { inside = omega arith; so_far = e ∙ rw (a.so_far, sum-next k f) (capped-add (sum_below k f) (f k)) }

pub adding-done : {n k sum : ℕ} {f : ℕ → ℕ} → Adding n k sum f → n ≤ k → sum ≡ capped (sum_below n f)
adding-done {n} {k} {sum} {f} a h =
    let end : k ≡ n = omega (arith, a.inside) in
    a.so_far ∙ ap (λ (m : ℕ). capped (sum_below m f)) end
