-- A quotient that is made ten by ten. Assumes nothing.
use mathlib.Core.Path.{◌≡◌, ◌∙◌, ap}
use Prim.Native.Nat.{ℕ, ◌<◌, ◌*◌, ◌+◌, ◌/◌, ◌%◌, ◌^◌}
use native.Mathlib.Nat.{div-add-mod', mod-lt, pow-suc}
use native.Mathlib.Numerals.{add-one}
use native.Mathlib.Omega.{arith}
use Rattle.apportion.specs.Fractions.{nearest, added_by_rounding}
use Rattle.book_words.specs.Inner.Steps.{capped}
use Rattle.book_words.proofs.CappedSums.{capped-times, capped-add, capped-rounded}

-- the amount with so many tens is divided
pub record Shifting (amount total whole rest tens : ℕ) : Type 0 where
  pub exact : ℕ
  pub parts : exact * total + rest ≡ amount * 10 ^ tens
  pub less : rest < total
  pub whole_is : whole ≡ capped exact

pub shifting-start : {amount total whole : ℕ} → 0 < total → whole ≡ capped (amount / total) → Shifting amount total whole (amount % total) 0
shifting-start {amount} {total} {whole} some e =
    record {
      exact = amount / total;
      parts = omega (arith, div-add-mod' amount total);
      less = mod-lt amount some;
      whole_is = e;
    }

-- one ten more
pub shifting-next : {amount total whole rest tens more next : ℕ} → Shifting amount total whole rest tens → 0 < total
    → more ≡ capped (whole * 10) → next ≡ capped (more + rest * 10 / total)
    → Shifting amount total next (rest * 10 % total) (tens + 1)
shifting-next {amount} {total} {whole} {rest} {tens} {more} {next} s some m e =
    let tenth : 10 ^ (tens + 1) ≡ 10 ^ tens * 10 = rw add-one (pow-suc 10 tens) in
    record {
      exact = s.exact * 10 + rest * 10 / total;
      parts = omega (arith, s.parts, div-add-mod' (rest * 10) total, ap (λ (n : ℕ). amount * n) tenth);
      less = mod-lt (rest * 10) some;
      whole_is = e ∙ rw (m, s.whole_is, capped-times s.exact 10) (capped-add (s.exact * 10) (rest * 10 / total));
    }

pub shifting-done : {amount total whole rest tens added last : ℕ} → Shifting amount total whole rest tens
    → added ≡ added_by_rounding whole rest total → last ≡ capped (whole + added) → last ≡ capped (nearest (amount * 10 ^ tens) total)
shifting-done {total = total} {rest = rest} s u e = e ∙ rw (u, s.whole_is, capped-rounded s.exact rest total s.less, s.parts)
