-- The rows of `ca_dense`, one after the other: what a row is given by those before it, and what it adds. Assumes nothing.
use mathlib.Core.Path.{ap, subst, sym, ◌∙◌, ◌≡◌}
use mathlib.Core.List.{List}
use Prim.Native.Nat.{◌+◌, ◌<◌, ℕ}
use lib.IntN.{ℤ}
use native.Mathlib.Omega.{arith}
use Rattle.lapjv_walk.specs.Ccrt.{Kept}
use Rattle.lapjv_walk.specs.Ends.{RowEnds}
use Rattle.lapjv_walk.specs.Holds.{Left, Marked, Queue, Ranged, Room, Square, Waits}
use Rattle.lapjv_walk.specs.Lapjv.{Ca, ca_dense, ca_step}
use Rattle.lapjv_walk.specs.Marks.{num_at}
use Rattle.lapjv_walk.specs.Ops.{Ops}
use Rattle.lapjv_walk.specs.Reads.{ca_reads, find_path_reads}
use Rattle.lapjv_walk.proofs.Ca.{After, columns-left, columns-marked, queue-at, row_ends, start-below}
use Rattle.lapjv_walk.proofs.Loops.{walk_more}
use Rattle.lapjv_walk.proofs.Most.{ca-more}
use Rattle.costs.specs.OpsOn.{OpsOn, ops}
use Rattle.costs.specs.Laws.{CostLaws}
use Rattle.lapjv_ca.proofs.Ranged.{paired-ranged}

-- what the row start is given to get a column with
pub record RowGiven {C : Type 0} (on : OpsOn C) (Good : ℕ → List C → List ℤ → List C → Type 0) (n : ℕ) (cost : List C) (start : ℕ) (s : Ca C) : Type 0 where
  pub below : start < n
  pub ranged : Ranged n s.x
  pub marked : Marked n s.y
  pub room : Room n s.y
  pub ends : RowEnds (ops on) n cost start s
  pub good : Good n cost s.y s.v

pub row-given : {C : Type 0} {on : OpsOn C} {Small : C → Type 0} {Costs Prices Far : ℕ → List C → Type 0} {Good : ℕ → List C → List ℤ → List C → Type 0} → CostLaws on Small Costs Prices Far Good
    → (n : ℕ) (cost : List C) → Square n cost → Costs n cost → (k : Kept C) → Left n k → Good n cost k.y k.v → (r : ℕ) (s : Ca C) → s ≡ ca_dense (ops on) n cost r k → r < k.count → RowGiven on Good n cost (num_at k.rows r) s
row-given {C} {on} {Good = Good} laws n cost q h k l g r s e b =
    let w : Queue n (λ p. After k.count r p) k.rows s.x s.y = subst (λ (t : Ca C). Queue n (λ p. After k.count r p) k.rows t.x t.y) (sym e) (queue-at (ops on) n cost k l r (omega (arith, b))) in
    record {
      below = start-below (ops on) n cost k.rows k.count r s b w;
      ranged = paired-ranged n (λ i. Waits (λ p. After k.count r p) k.rows i) s.x s.y q.some w.pairs;
      marked = columns-marked (ops on) n cost k.rows k.count r s b w;
      room = columns-left (ops on) n cost k.rows k.count r s b w;
      ends = row_ends (ops on) n cost k.rows k.count r s b w;
      good = subst (λ (t : Ca C). Good n cost t.y t.v) (sym e) (laws.rows_good n cost h k l g r (omega (arith, b)));
    }

module _ (O : Ops) (n : ℕ) (cost : List O.C) (k : Kept O.C) (r : ℕ) (s : Ca O.C) (e : s ≡ ca_dense O n cost r k) where
  -- the rows before it and this one
  pub row-on : {t : Ca O.C} → ca_step O n cost (num_at k.rows r) s ≡ t → t ≡ ca_dense O n cost (r + 1) k
  unfolding ca_dense
  row-on d = let f : ℕ → Ca O.C → Ca O.C = λ i u. ca_step O n cost (num_at k.rows i) u in sym d ∙ ap (f r) e ∙ sym (walk_more f 0 r _ (omega arith))

  -- and their reads
  pub reads-on : {a b : ℕ} → a ≡ ca_reads O n cost r k → b ≡ find_path_reads O n cost (num_at k.rows r) s.y s.v → a + b ≡ ca_reads O n cost (r + 1) k
  reads-on d f = omega (arith, d, ca-more O n cost r k, f ∙ ap (λ (t : Ca O.C). find_path_reads O n cost (num_at k.rows r) t.y t.v) e)
