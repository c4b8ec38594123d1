-- The loop that adds up the pools, and what an entry adds to them by the tests of the code. Assumes nothing.
use mathlib.Core.Bool.{Bool, cond, true, false}
use mathlib.Core.List.{List}
use mathlib.Core.Path.{◌≡◌, refl, ap, ◌∙◌}
use Prim.Native.Nat.{ℕ, ◌+◌, ◌<◌, ◌≤◌}
use native.Mathlib.Omega.{arith}
use lib.Dec.{eqb}
use Rattle.book_words.specs.Book.{entries, entry_at}
use Rattle.book_words.specs.Soundness.{sound}
use Rattle.book_words.specs.declared.totals.Side.{Side}
use Rattle.book_words.specs.Inner.Steps.{capped}
use Rattle.book_words.specs.Totals.{unstruck}
use Rattle.book_shares.specs.declared.pools.Pools.{Pools}
use Rattle.book_shares.specs.Inner.Steps.{pool_with, pools_with, pools_by}
use Rattle.book_shares.specs.Sums.{in_group, pooled, pool}
use Rattle.book_words.proofs.SumLoop.{Adding, adding-next, adding-done}
use Rattle.book_shares.proofs.SumBounds.{pool-limited}

module _ (ws : List ℕ) (category : ℕ) (side : Side) where
  -- what the entry at a place adds to the pool of a group
  abbrev added : ℕ → ℕ → ℕ
  added group p = pooled category group side (entry_at ws p)

  -- the pools up to entry k
  pub record Pooling (k : ℕ) (pools : Pools) : Type 0 where
    pub to-all : Adding (entries ws) k pools.all (added 0)
    pub to-chilled : Adding (entries ws) k pools.chilled (added 1)
    pub to-frozen : Adding (entries ws) k pools.frozen (added 2)

  pub pooling-next : {k : ℕ} {pools : Pools} (next : Pools) → Pooling k pools → k < entries ws → next ≡ pools_with pools category side (entry_at ws k)
      → Pooling (k + 1) next
  pooling-next {k} {pools} next a h e = go (eqb (entry_at ws k).category category) refl e
    where
      -- an entry of another category adds nothing
      still : {sum : ℕ} (group : ℕ) → eqb (entry_at ws k).category category ≡ false → Adding (entries ws) k sum (added group)
          → sum ≡ capped (sum + added group k)
      still group is b = rw is (omega (arith, b.so_far))

      -- nor does one of another group
      grown : {sum : ℕ} (group : ℕ) → Adding (entries ws) k sum (added group)
          → pool_with sum group side (entry_at ws k) ≡ capped (sum + in_group group side (entry_at ws k))
      grown {sum} group b = by (eqb (entry_at ws k).group group)
        where
          by : (t : Bool) → cond t (capped (sum + unstruck side (entry_at ws k))) sum ≡ capped (sum + cond t (unstruck side (entry_at ws k)) 0)
          by true = refl
          by false = omega (arith, b.so_far)

      go : (t : Bool) → eqb (entry_at ws k).category category ≡ t
          → next
          ≡ cond t
          (record {
            all = pool_with pools.all 0 side (entry_at ws k);
            chilled = pool_with pools.chilled 1 side (entry_at ws k);
            frozen = pool_with pools.frozen 2 side (entry_at ws k);
          })
          pools
          → Pooling (k + 1) next
      go true is made =
          record {
            to-all = adding-next next.all a.to-all h (rw is (ap (λ (q : Pools). q.all) made ∙ grown 0 a.to-all));
            to-chilled = adding-next next.chilled a.to-chilled h (rw is (ap (λ (q : Pools). q.chilled) made ∙ grown 1 a.to-chilled));
            to-frozen = adding-next next.frozen a.to-frozen h (rw is (ap (λ (q : Pools). q.frozen) made ∙ grown 2 a.to-frozen));
          }
      go false is made =
          rw made
          (record {
            to-all = adding-next pools.all a.to-all h (still 0 is a.to-all);
            to-chilled = adding-next pools.chilled a.to-chilled h (still 1 is a.to-chilled);
            to-frozen = adding-next pools.frozen a.to-frozen h (still 2 is a.to-frozen);
          })

  pub pooling-done : sound ws ≡ true → {k : ℕ} {pools : Pools} → Pooling k pools → entries ws ≤ k → pools ≡ pools_by ws category side
  unfolding pool
  pooling-done fine {k} {pools} a h =
      rw (
        ← whole 0 a.to-all,
        ← whole 1 a.to-chilled,
        ← whole 2 a.to-frozen,
      )
    where
      whole : {sum : ℕ} (group : ℕ) → Adding (entries ws) k sum (added group) → sum ≡ pool ws category group side
      whole group b = omega (arith, adding-done b h, pool-limited ws fine category group side)
