-- Laws of refusals and of what an answer says. Assumes nothing.
use mathlib.Core.Path.{◌≡◌, ◌∙◌}
use Prim.Native.Nat.{ℕ}
use native.Mathlib.Omega.{arith}
use Rattle.std.proofs.Common.{rules, Result, Ok, Err}
use Rattle.std.specs.Result.{IsErrAnd, IsOk}
use Rattle.apportion.specs.Grounds.{accepted}
use Rattle.apportion.specs.Refusals.{number_of, refusal_in}
use Rattle.apportion.specs.declared.refusing.Refusal.{Refusal}
use Rattle.apportion.specs.declared.refusing.Refusal.TheVariants.{Unfit, Unnumbered, Unknown, Closed, StillOpen, Unsuited, OutOfRange, Full, Indivisible, TooLarge, WrongHeader, Misplaced, WrongField, Mixed, WrongCell, ReversedSpan, ShortPairs}
use Rattle.apportion.proofs.Grounds.{refused-old}

-- no refusal has the number 0, which is that of an accepted call
pub number-some : (r : Refusal) → number_of r ≡ 0 → ⊥
number-some = elim [
  | Unfit ↦ λ e. omega arith
  | Unnumbered ↦ λ e. omega arith
  | Unknown ↦ λ e. omega arith
  | Closed ↦ λ e. omega arith
  | StillOpen ↦ λ e. omega arith
  | Unsuited ↦ λ e. omega arith
  | OutOfRange ↦ λ e. omega arith
  | Full ↦ λ e. omega arith
  | Indivisible ↦ λ e. omega arith
  | TooLarge ↦ λ e. omega arith
  | WrongHeader ↦ λ e. omega arith
  | Misplaced ↦ λ e. omega arith
  | WrongField ↦ λ e. omega arith
  | Mixed ↦ λ e. omega arith
  | WrongCell ↦ λ e. omega arith
  | ReversedSpan ↦ λ e. omega arith
  | ShortPairs ↦ λ e. omega arith
]

-- the answer that an error is handed on in
pub handed-on_as : {A E : Type 0} (error : E) (answer : Result A E) → IsErrAnd answer (λ e. e ≡ error) → answer ≡ Err error
handed-on_as error (Ok a) h = absurd h
handed-on_as error (Err e) h = rw h

-- where it is a refusal, its number
pub handed-on : {A : Type 0} (r : Refusal) (answer : Result A Refusal) → IsErrAnd answer (λ e. e ≡ r) → refusal_in answer ≡ number_of r
handed-on r answer h = rw (handed-on_as r answer h)

-- an answer with the number 0 is no refusal
pub none-refused : {A : Type 0} (answer : Result A Refusal) → refusal_in answer ≡ 0 → IsOk answer
none-refused (Ok a) e = search rules
none-refused (Err r) e = absurd (number-some r e)

-- a refused call leaves the old
pub refused-leaves : {A : Type 0} (r : Refusal) {n : ℕ} (new old : A) → number_of r ≡ n → accepted n new old ≡ old
refused-leaves r new old e = refused-old _ new old (λ z. number-some r (e ∙ z))
