-- The whole call from what its four steps left, and what sizes that fit mean. Assumes nothing.
use mathlib.Core.Path.{subst, ◌≡◌}
use mathlib.Core.Bool.{◌&&◌, true}
use mathlib.Core.List.{List}
use Prim.Native.Nat.{◌*◌, ◌+◌, ◌<◌, ℕ, ◌≤◌}
use borrow.Author.Tests.{eqb-true, ltb-true}
use lib.Dec.{eqb, ltb}
use lib.IntN.{ℤ}
use native.Mathlib.Omega.{arith}
use Rattle.lapjv_walk.specs.Carr.{carr_dence}
use Rattle.lapjv_walk.specs.Ccrt.{ccrt_dense, Kept}
use Rattle.lapjv_walk.specs.Holds.{Left, Square}
use Rattle.lapjv_walk.specs.Lapjv.{Ca, ca_dense, lapjv, two_passes}
use Rattle.lapjv_walk.specs.Ops.{Ops}
use Rattle.lapjv_walk.specs.Reads.{ca_reads, carr_reads, ccrt_reads, lapjv_reads}
use Rattle.lapjv_walk.proofs.Carr.{pass-keeps}
use Rattle.lapjv_walk.proofs.Cases.{and_left, and_right}
use Rattle.lapjv_walk.proofs.Most.{most-small, reads-most}
use Rattle.lapjv_walk.proofs.Whole.{ccrt-left}
use Rattle.costs.specs.OpsOn.{OpsOn, ops}
use Rattle.costs.specs.Laws.{CostLaws}
use Rattle.lapjv.specs.Answer.{fits}

pub ccrt-leaves : (O : Ops) (n : ℕ) (cost : List O.C) → 0 < n → (k : Kept O.C) → ccrt_dense O n cost ≡ k → Left n k
ccrt-leaves O n cost h k e = subst (λ (s : Kept O.C). Left n s) e (ccrt-left O n cost h)

pub carr-leaves : (O : Ops) (n : ℕ) (cost : List O.C) → 0 < n → (j k : Kept O.C) → carr_dence O n cost j ≡ k → Left n j → Left n k
carr-leaves O n cost h j k e l = subst (λ (s : Kept O.C). Left n s) e (pass-keeps O n cost h j l)

-- the rows that wait, and prices that fit: what the columns' reduction and each pass leave
module _ {C : Type 0} {on : OpsOn C} {Small : C → Type 0} {Costs Prices Far : ℕ → List C → Type 0} {Good : ℕ → List C → List ℤ → List C → Type 0} (laws : CostLaws on Small Costs Prices Far Good) (n : ℕ) (cost : List C) (q : Square n cost) (h : Costs n cost) where
  pub columns-leave : (k : Kept C) → ccrt_dense (ops on) n cost ≡ k → Left n k × Good n cost k.y k.v
  columns-leave k e = (ccrt-leaves (ops on) n cost q.some k e, subst (λ (s : Kept C). Good n cost s.y s.v) e (laws.reduced_good n cost h q.some))

  pub pass-leaves : (j k : Kept C) → carr_dence (ops on) n cost j ≡ k → Left n j × Good n cost j.y j.v → Left n k × Good n cost k.y k.v
  pass-leaves j k e l = (carr-leaves (ops on) n cost q.some j k e l.0, subst (λ (s : Kept C). Good n cost s.y s.v) e (laws.pass_good n cost h q.some j l.0 l.1))

pub lapjv-is : (O : Ops) (n : ℕ) (cost : List O.C) (j k l : Kept O.C) (t : Ca O.C) → ccrt_dense O n cost ≡ j → carr_dence O n cost j ≡ k → carr_dence O n cost k ≡ l → ca_dense O n cost l.count l ≡ t
    → lapjv O n cost ≡ record { x = t.x; y = t.y }
unfolding lapjv two_passes
lapjv-is O n cost j k l t a b c d = rw (a, b, c, d)

-- its reads, from the four steps'
pub reads-are : (O : Ops) (n : ℕ) (cost : List O.C) (j k l : Kept O.C) → ccrt_dense O n cost ≡ j → carr_dence O n cost j ≡ k → carr_dence O n cost k ≡ l
    → (a b c d : ℕ) → a ≡ ccrt_reads O n cost → b ≡ carr_reads O n cost j → c ≡ carr_reads O n cost k → d ≡ ca_reads O n cost l.count l → a + b + c + d ≡ lapjv_reads O n cost
unfolding lapjv_reads two_passes
reads-are O n cost j k l e₁ e₂ e₃ a b c d ea eb ec ed = rw (e₁, e₂, e₃, ea, eb, ec, ed)

-- so they are few
pub reads-few : (O : Ops) (n : ℕ) (cost : List O.C) → Square n cost → (j k l : Kept O.C) → ccrt_dense O n cost ≡ j → carr_dence O n cost j ≡ k → carr_dence O n cost k ≡ l
    → (a b c d : ℕ) → a ≡ ccrt_reads O n cost → b ≡ carr_reads O n cost j → c ≡ carr_reads O n cost k → d ≡ ca_reads O n cost l.count l → a + b + c + d ≤ 811_008
reads-few O n cost q j k l e₁ e₂ e₃ a b c d ea eb ec ed = omega (arith, reads-are O n cost j k l e₁ e₂ e₃ a b c d ea eb ec ed, reads-most O n cost q.some, most-small n q.most)

pub record Sizes (n costs rows columns : ℕ) : Type 0 where
  pub some : 0 < n
  pub most : n ≤ 64
  pub costs-n : costs ≡ n * n
  pub rows-n : rows ≡ n
  pub columns-n : columns ≡ n

pub fits-sizes : (n costs rows columns : ℕ) → fits n costs rows columns ≡ true → Sizes n costs rows columns
fits-sizes n c x y e =
    let rows : (ltb 0 n && ltb n 65 && eqb c (n * n) && eqb x n) ≡ true = and_left (ltb 0 n && ltb n 65 && eqb c (n * n) && eqb x n) (eqb y n) e in
    let costs : (ltb 0 n && ltb n 65 && eqb c (n * n)) ≡ true = and_left (ltb 0 n && ltb n 65 && eqb c (n * n)) (eqb x n) rows in
    let bounds : (ltb 0 n && ltb n 65) ≡ true = and_left (ltb 0 n && ltb n 65) (eqb c (n * n)) costs in
    record {
      some = ltb-true 0 n (and_left (ltb 0 n) (ltb n 65) bounds);
      most = omega (arith, ltb-true n 65 (and_right (ltb 0 n) (ltb n 65) bounds));
      costs-n = eqb-true c (n * n) (and_right (ltb 0 n && ltb n 65) (eqb c (n * n)) costs);
      rows-n = eqb-true x n (and_right (ltb 0 n && ltb n 65 && eqb c (n * n)) (eqb x n) rows);
      columns-n = eqb-true y n (and_right (ltb 0 n && ltb n 65 && eqb c (n * n) && eqb x n) (eqb y n) e);
    }
