-- Texts put one behind the other at the start of a buffer. Assumes nothing.
use Prim.Native.Nat.{ℕ, suc, ◌+◌, ◌-◌, ◌≤◌, ◌<◌}
use native.Mathlib.Omega.{arith}
use mathlib.Core.Path.{◌≡◌, sym, ◌∙◌, ap}
use mathlib.Core.List.{List, [], ◌∷◌, ◌++◌, append-nil, append_assoc}
use borrow.Rule.Slice.PartMut.{put_mid}
use lib.ListN.{length, get_or, take, drop, set, length-append, length-drop, drop_of_length-le}
use lib.Seq.{take_all, take_at, drop_at, set_at, drop-drop, drop-cons, append_snoc}
use Rattle.std.specs.List.{flat_map}
use Rattle.std.proofs.lemmas.Grind.{flat_map-append}
use Rattle.std.proofs.lemmas.List.{take_more}
use Rattle.std.proofs.lemmas.List.Folds.{length-flat_map-take}
use Rattle.report.specs.Printing.{Put}

module _ {s old between : List ℕ} {i : ℕ} (one : Put s old between i) where
  -- what stands behind a text that is put is as it was
  behind : drop i between ≡ drop (length s) old
  behind = ap (drop i) one.stored ∙ drop_at s (drop (length s) old) i (sym one.counted)

  -- so there is room for another text there
  pub room_behind : (t : List ℕ) → length (s ++ t) ≤ length old → length t ≤ length (take (length between - i) (drop i between))
  room_behind t room =
      omega (
        arith,
        ap length (take_all (length between - i) (drop i between) (omega (arith, length-drop i between))),
        ap length behind,
        length-drop (length s) old,
        length-append s t,
        room,
      )

  -- and that is put behind the first, when the rest of the buffer is back
  pub put_behind : {t part : List ℕ} {j : ℕ} → Put t (take (length between - i) (drop i between)) part j
      → Put (s ++ t) old (put_mid i (length between - i) between part) (i + j)
  put_behind {t} {part} {j} two =
      let rest : List ℕ = drop i between in
      let all : length rest ≤ length between - i = omega (arith, length-drop i between) in
      let past : drop (length t) (drop (length s) old) ≡ drop (length (s ++ t)) old =
      drop-drop (length t) (length s) old ∙ ap (λ (n : ℕ). drop n old) (sym (length-append s t)) in
      let front : take i between ≡ s = ap (take i) one.stored ∙ take_at s (drop (length s) old) i (sym one.counted) in
      let back : part ++ drop (length between - i) rest ≡ t ++ drop (length (s ++ t)) old =
      ap (λ (l : List ℕ). part ++ l) (drop_of_length-le rest all)
      ∙ append-nil part
      ∙ two.stored
      ∙ ap (λ (l : List ℕ). t ++ drop (length t) l) (take_all _ rest all ∙ behind)
      ∙ ap (λ (l : List ℕ). t ++ l) past in
      record {
        counted = omega (arith, one.counted, two.counted, length-append s t);
        stored = (λ k. front k ++ back k) ∙ sym (append_assoc s t (drop (length (s ++ t)) old));
      }

  -- and so is a byte
  pub byte_behind : (b : ℕ) → length s < length old → Put (s ++ (b ∷ [])) old (set between i b) (i + 1)
  byte_behind b room =
      let more : length (s ++ (b ∷ [])) ≡ suc (length s) = omega (arith, length-append s (b ∷ [])) in
      record {
        counted = omega (arith, one.counted, more);
        stored =
            ap (λ (l : List ℕ). set l i b) (one.stored ∙ ap (λ (l : List ℕ). s ++ l) (drop-cons old (length s) 0 room))
            ∙ set_at s _ (drop (suc (length s)) old) b i (sym one.counted)
            ∙ sym (append_snoc s b (drop (suc (length s)) old))
            ∙ ap (λ (n : ℕ). (s ++ (b ∷ [])) ++ drop n old) (sym more);
      }

-- the texts of the elements of a list, one after the other: those of the first i are put, and one more has room and is put
module _ {X : Type 0} (text : X → List ℕ) (xs : List X) (i : ℕ) (d : X) {old between : List ℕ} {count : ℕ}
    (before : Put (flat_map text (take i xs)) old between count) (some : i < length xs) where
  pub room-more : length (flat_map text xs) ≤ length old → length (text (get_or xs i d)) ≤ length (take (length between - count) (drop count between))
  room-more room =
      room_behind before (text (get_or xs i d))
      (omega (arith, length-append (flat_map text (take i xs)) (text (get_or xs i d)), length-flat_map-take text xs i d some, room))

  pub put-more : {part : List ℕ} {n : ℕ} → Put (text (get_or xs i d)) (take (length between - count) (drop count between)) part n
      → Put (flat_map text (take (i + 1) xs)) old (put_mid count (length between - count) between part) (count + n)
  put-more more =
      rw (take_more xs i d some, flat_map-append, append-nil) (put_behind before more)

-- a text at the front of a buffer is its first bytes, as many as it is long
pub record Front (text out : List ℕ) (count : ℕ) : Type 0 where
  pub inside : count ≤ length out
  pub counted : count ≡ length (take count out)
  pub is_text : take count out ≡ text

pub front_of : {text before out : List ℕ} {count : ℕ} → Put text before out count → Front text out count
front_of {text} {before} {out} {count} put =
    let rest = drop (length text) before in
    let front : take count out ≡ text = ap (take count) put.stored ∙ take_at text rest count (sym put.counted) in
    record {
      inside = omega (arith, put.counted, ap length put.stored, length-append text rest);
      counted = put.counted ∙ ap length (sym front);
      is_text = front;
    }
