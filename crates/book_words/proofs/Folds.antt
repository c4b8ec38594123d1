-- A fold over the places of a list. Assumes nothing.
use mathlib.Core.List.{List, [], ◌∷◌}
use mathlib.Core.Path.{◌≡◌, refl, sym, ap, ◌∙◌}
use Prim.Native.Nat.{ℕ, zero, suc, ◌+◌}
use native.Mathlib.Nat.{add-zero, zero-add}
use native.Mathlib.Omega.{arith}
use denote.Param.Members.{Mut}
use Rattle.std.proofs.iter.Yields.{nat_range_steps}
use Rattle.std.proofs.lemmas.Fn.{fold_over}
use Rattle.std.proofs.lemmas.Iterator.{YieldsList-from_range}
use Rattle.std.proofs.lemmas.List.Sums.{fold-append}
use Rattle.std.specs.Fn.{Called}
use Rattle.std.specs.Iterator.{Drains}
use Rattle.std.specs.List.{fold, range_with_len, FoldsTo}

module _ {B : Type 0} (h : B → ℕ → B) where
  -- the fold of a closure whose calls are these steps
  pub fold-runs : {F : Type 0} {g : Mut F (B × (ℕ × Unit {0})) B} {f : F} {n m : ℕ} {init r : B}
      → ((a : B) (x : ℕ) (b : B) (f' : F) → Called g f (a, (x, tt)) b f' → (b ≡ h a x) × (f' ≡ f))
      → n ≡ m
      → (xs : List ℕ) × (f' : F) × Drains nat_range_steps (record { start = 0; end = n }) xs × FoldsTo {P = F × B} (λ p x q. Called g p.0 (p.1, (x, tt)) q.1 q.0) (f, init) xs (f', r)
      → r ≡ fold h init (range_with_len 0 m)
  fold-runs {g = g} {f} {n} {m} {init} {r} calls end ran =
      fold_over nat_range_steps (λ x. x) g (λ ys a. a ≡ fold h init ys) f
      (λ ys a x b f' so call.
      let one = calls a x b f' call in
      (one.0 ∙ ap (λ (v : B). h v x) so ∙ sym (fold-append h init ys (x ∷ [])), one.1))
      (record { start = 0; end = n }) (range_with_len 0 n) init r
      (YieldsList-from_range 0 n n refl (omega arith)).runs refl ran
      ∙ ap (λ (k : ℕ). fold h init (range_with_len 0 k)) end

  module _ (value : ℕ → B) (next : (k : ℕ) → h (value k) k ≡ value (k + 1)) where
    fold-on : (a n : ℕ) → fold h (value a) (range_with_len a n) ≡ value (a + n)
    fold-on a zero = ap value (sym (add-zero a))
    fold-on a (suc n) =
        let there : a + 1 + n ≡ a + suc n = omega arith in
        ap (λ (v : B). fold h v (range_with_len (a + 1) n)) (next a) ∙ fold-on (a + 1) n ∙ ap value there

    -- a fold that has this value of the places passed, step by step
    pub fold-value : {init : B} → init ≡ value 0 → (n : ℕ) → fold h init (range_with_len 0 n) ≡ value n
    fold-value start n = rw start (fold-on 0 n ∙ ap value (zero-add n))
