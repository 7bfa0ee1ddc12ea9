-- How many cost entries the walk reads, for any operations: at most 3n³ + 6n². A turn of a scan reads at most n + 1 entries and goes one column on, and no search goes back: so it reads at most (n + 1)n. Assumes nothing.
use mathlib.Core.Path.{ap, refl, ◌∙◌, ◌≡◌}
use mathlib.Core.Bool.{Bool, false, true}
use mathlib.Core.List.{List}
use mathlib.Core.Logic.{inl, inr, ◌⊎◌, ⊎_elim}
use Prim.Native.Nat.{◌*◌, ◌+◌, ◌-◌, ◌^◌, ◌<◌, suc, zero, ℕ, ◌≤◌}
use lib.IntN.{pos, ℤ}
use lib.ListN.{get_or}
use native.Mathlib.Nat.{add-mul, mul-add, mul_assoc, mul-le-mul, mul-le-mul_left, mul-le-mul_right, mul-suc, one-mul, pow-suc, pow-zero, suc-mul}
use native.Mathlib.Omega.{arith}
use Rattle.lapjv_walk.specs.Carr.{Carr, carr_dence, carr_more, carr_runs, carr_step}
use Rattle.lapjv_walk.specs.Ccrt.{assign, ccrt_dense, Kept, reduce_columns}
use Rattle.lapjv_walk.specs.Lapjv.{Ca, ca_dense, ca_step, two_passes}
use Rattle.lapjv_walk.specs.Loops.{runs, runs_sum, walk}
use Rattle.lapjv_walk.specs.Marks.{index, is_free}
use Rattle.lapjv_walk.specs.Ops.{cost_at, Ops}
use Rattle.lapjv_walk.specs.Path.{Scan, scan_all, scan_dense, scan_more, scan_step, scan_turn, search_from, search_more, search_turn, to_scan}
use Rattle.lapjv_walk.specs.Reads.{alone_reads, ca_reads, carr_reads, ccrt_reads, collect_reads, find_path_reads, lapjv_reads, scan_reads, scan_row_reads, scan_turn_reads, search_reads, search_turn_reads, try_reads}
use Rattle.lapjv_walk.proofs.Carr.{pass-keeps, step-turn}
use Rattle.lapjv_walk.proofs.Cases.{pick_ind}
use Rattle.lapjv_walk.proofs.Loops.{runs_done, runs-more, runs-sum-done, runs-sum-more, walk-ind, walk-sum-more, walk-sum-most, walk-sum-none}
use Rattle.lapjv_walk.proofs.Search.{turn-lo}
use Rattle.lapjv_walk.proofs.Whole.{ccrt-left, passes-left}

row-cubed : (n : ℕ) → n * (n + (n + 1) * n) ≡ n * n * n + (n * n + n * n)
row-cubed n = omega (arith, mul-add n n ((n + 1) * n), mul_assoc n (n + 1) n, ap (λ (z : ℕ). z * n) (mul-suc n n), add-mul (n * n) n n)

squared : (n : ℕ) → n ^ 2 ≡ n * n
squared n = pow-suc n 1 ∙ ap (λ (z : ℕ). z * n) (pow-suc n 0 ∙ ap (λ (z : ℕ). z * n) (pow-zero n) ∙ one-mul n)

cubed : (n : ℕ) → n ^ 3 ≡ n * n * n
cubed n = pow-suc n 2 ∙ ap (λ (z : ℕ). z * n) (squared n)

-- 3n³ + 6n² for n up to 64
pub most-small : (n : ℕ) → n ≤ 64 → 3 * n ^ 3 + 6 * n ^ 2 ≤ 811008
most-small n h =
    let a : n * n ≤ 64 * 64 = mul-le-mul h h in
    let b : n * n * n ≤ 64 * 64 * 64 = mul-le-mul a h in
    omega (arith, cubed n, squared n)

-- (n + 1)n, what a search reads at most, for n up to 64
pub search-small : (n : ℕ) → n ≤ 64 → (n + 1) * n ≤ 4160
search-small n h = let a : n + 1 ≤ 65 = omega arith in mul-le-mul a h

-- ---- `ccrt_dense`

alone-most : (n : ℕ) (x : List ℤ) (unique : List Bool) (i : ℕ) → alone_reads n x unique i ≤ n
unfolding alone_reads
alone-most n x unique i = pick_ind (λ (r : ℕ). r ≤ n) (is_free (get_or x i (pos 0))) _ _ (omega arith) (pick_ind (λ (r : ℕ). r ≤ n) (get_or unique i false) _ _ (omega arith) (omega arith))

pub collect-most : (n : ℕ) (x : List ℤ) (unique : List Bool) (k : ℕ) → walk (λ (i r : ℕ). r + alone_reads n x unique i) 0 k 0 ≤ k * n
collect-most n x unique k =
    walk-ind (λ (i r : ℕ). r + alone_reads n x unique i) (λ i r. r ≤ i * n) 0 k 0 (omega arith) (omega arith)
    (λ i r _ _ h. omega (arith, alone-most n x unique i, suc-mul i n))

pub collected-most : (n : ℕ) (x : List ℤ) (unique : List Bool) → collect_reads n x unique ≤ n * n
unfolding collect_reads
collected-most n x unique = collect-most n x unique n

-- ---- `scan_dense` and the search

module _ (O : Ops) (n : ℕ) (cost : List O.C) (y : List ℤ) (v : List O.C) where
  try-most : (k : ℕ) (s : Scan O.C) → try_reads k s ≤ 1
  unfolding try_reads
  try-most k s = pick_ind (λ (r : ℕ). r ≤ 1) (is_free s.found) _ _ (omega arith) (omega arith)

  turn-most : (s : Scan O.C) → scan_turn_reads O n cost y v s ≤ n + 1
  unfolding scan_turn_reads scan_row_reads
  turn-most s =
      let j : ℕ = get_or s.cols s.lo 0 in
      let i : ℕ = index (get_or y j (pos 0)) in
      let mind : O.C = get_or s.d j O.none in
      let h : O.C = O.sub (O.sub (cost_at O n cost i j) (get_or v j O.none)) mind in
      omega (arith, walk-sum-most (scan_step O n cost y v i h mind) try_reads 1 s.hi n (record { lo = s.lo + 1; hi = s.hi; d = s.d; cols = s.cols; pred = s.pred; found = s.found }) try-most)

  -- a scan goes on column by column, each at n + 1 reads
  record Paid (m : ℕ) (s : Scan O.C) : Type 0 where
    reads : runs_sum scan_more (scan_turn O n cost y v) (scan_turn_reads O n cost y v) m s + (n + 1) * s.lo ≤ (n + 1) * (runs scan_more (scan_turn O n cost y v) m s).lo
    on : (runs scan_more (scan_turn O n cost y v) m s).lo ≤ m + s.lo

  paid-none : (m : ℕ) (s : Scan O.C) → runs_sum scan_more (scan_turn O n cost y v) (scan_turn_reads O n cost y v) m s ≡ 0 → runs scan_more (scan_turn O n cost y v) m s ≡ s → Paid m s
  paid-none m s e f = record { reads = rw (e, f) (omega arith); on = rw f (omega arith) }

  paid-turn : (m : ℕ) (s : Scan O.C) → scan_more s ≡ true → Paid m (scan_turn O n cost y v s) → Paid (suc m) s
  paid-turn m s e p =
      let q : (n + 1) * (scan_turn O n cost y v s).lo ≡ (n + 1) * s.lo + (n + 1) = rw (turn-lo O n cost y v s) (omega (arith, mul-suc (n + 1) s.lo)) in
      record {
        reads = rw (runs-sum-more scan_more (scan_turn O n cost y v) (scan_turn_reads O n cost y v) m s e, runs-more scan_more (scan_turn O n cost y v) m s e) (omega (arith, p.reads, q, turn-most s));
        on = rw (runs-more scan_more (scan_turn O n cost y v) m s e) (omega (arith, p.on, turn-lo O n cost y v s));
      }

  paid : (m : ℕ) (s : Scan O.C) → Paid m s
  unfolding runs runs_sum
  paid zero s = paid-none zero s refl refl
  paid (suc m) s = go (scan_more s) refl (paid m (scan_turn O n cost y v s))
    where
      go : (b : Bool) → scan_more s ≡ b → Paid m (scan_turn O n cost y v s) → Paid (suc m) s
      go true e p = paid-turn m s e p
      go false e p = paid-none (suc m) s (runs-sum-done scan_more (scan_turn O n cost y v) (scan_turn_reads O n cost y v) (suc m) s e) (runs_done scan_more (scan_turn O n cost y v) (suc m) s e)

  pub scan-most : (s : Scan O.C) → s.lo ≤ n → (scan_reads O n cost y v s + (n + 1) * s.lo ≤ (n + 1) * (scan_all O n cost y v s).lo) × ((scan_all O n cost y v s).lo ≤ n)
  unfolding scan_reads scan_all
  scan-most s h = let p = paid (n - s.lo) s in (p.reads, omega (arith, p.on))

  -- a turn of the search ends it, or goes on where its scan ended
  record Stops (s r : Scan O.C) (k : ℕ) : Type 0 where
    found : is_free r.found ≡ false
    reads : k + (n + 1) * s.lo ≤ (n + 1) * n

  record GoesOn (s r : Scan O.C) (k : ℕ) : Type 0 where
    low : r.lo ≤ n
    reads : k + (n + 1) * s.lo ≤ (n + 1) * r.lo

  dense-turn : (s : Scan O.C) → s.lo ≤ n → Stops s (scan_dense O n cost y v s) (scan_reads O n cost y v s) ⊎ GoesOn s (scan_dense O n cost y v s) (scan_reads O n cost y v s)
  unfolding scan_dense
  dense-turn s h = go (is_free (scan_all O n cost y v s).found) refl
    where
      go : (b : Bool) → is_free (scan_all O n cost y v s).found ≡ b → Stops s (scan_dense O n cost y v s) (scan_reads O n cost y v s) ⊎ GoesOn s (scan_dense O n cost y v s) (scan_reads O n cost y v s)
      go true e = inr (rw e (record { low = (scan-most s h).1; reads = (scan-most s h).0 }))
      go false e = let q : (n + 1) * (scan_all O n cost y v s).lo ≤ (n + 1) * n = mul-le-mul_left (n + 1) (scan-most s h).1 in inl (rw e (record { found = e; reads = omega (arith, (scan-most s h).0, q) }))

  search-turn : (s : Scan O.C) → s.lo ≤ n → Stops s (search_turn O n cost y v s) (search_turn_reads O n cost y v s) ⊎ GoesOn s (search_turn O n cost y v s) (search_turn_reads O n cost y v s)
  unfolding search_turn search_turn_reads to_scan
  search-turn s h = go (is_free (to_scan O n cost y s).found) refl (dense-turn (to_scan O n cost y s) h)
    where
      go : (b : Bool) → is_free (to_scan O n cost y s).found ≡ b
          → Stops (to_scan O n cost y s) (scan_dense O n cost y v (to_scan O n cost y s)) (scan_reads O n cost y v (to_scan O n cost y s)) ⊎ GoesOn (to_scan O n cost y s) (scan_dense O n cost y v (to_scan O n cost y s)) (scan_reads O n cost y v (to_scan O n cost y s))
          → Stops s (search_turn O n cost y v s) (search_turn_reads O n cost y v s) ⊎ GoesOn s (search_turn O n cost y v s) (search_turn_reads O n cost y v s)
      go true e w = rw e (⊎_elim (λ u. inl (record { found = u.found; reads = u.reads })) (λ u. inr (record { low = u.low; reads = u.reads })) w)
      go false e w = let q : (n + 1) * s.lo ≤ (n + 1) * n = mul-le-mul_left (n + 1) h in inl (rw e (record { found = e; reads = omega (arith, q) }))

  pub search-most : (m : ℕ) (s : Scan O.C) → s.lo ≤ n → runs_sum search_more (search_turn O n cost y v) (search_turn_reads O n cost y v) m s + (n + 1) * s.lo ≤ (n + 1) * n
  unfolding runs_sum
  search-most zero s h = omega (arith, mul-le-mul_left (n + 1) h)
  search-most (suc m) s h = go (search_more s) refl (λ l. search-most m (search_turn O n cost y v s) l)
    where
      go : (b : Bool) → search_more s ≡ b
          → ((search_turn O n cost y v s).lo ≤ n → runs_sum search_more (search_turn O n cost y v) (search_turn_reads O n cost y v) m (search_turn O n cost y v s) + (n + 1) * (search_turn O n cost y v s).lo ≤ (n + 1) * n)
          → runs_sum search_more (search_turn O n cost y v) (search_turn_reads O n cost y v) (suc m) s + (n + 1) * s.lo ≤ (n + 1) * n
      go false e rest = rw (runs-sum-done search_more (search_turn O n cost y v) (search_turn_reads O n cost y v) (suc m) s e) (omega (arith, mul-le-mul_left (n + 1) h))
      go true e rest =
          rw (runs-sum-more search_more (search_turn O n cost y v) (search_turn_reads O n cost y v) m s e)
          (⊎_elim
          (λ (u : Stops s (search_turn O n cost y v s) (search_turn_reads O n cost y v s)). omega (arith, u.reads, runs-sum-done search_more (search_turn O n cost y v) (search_turn_reads O n cost y v) m (search_turn O n cost y v s) (unfold search_more in u.found)))
          (λ (u : GoesOn s (search_turn O n cost y v s) (search_turn_reads O n cost y v s)). omega (arith, u.reads, rest u.low))
          (search-turn s h))

-- ---- the whole

module _ (O : Ops) (n : ℕ) (cost : List O.C) where
  pub path-most : (start : ℕ) (y : List ℤ) (v : List O.C) → search_reads O n cost start y v ≤ (n + 1) * n
  unfolding search_reads search_from
  path-most start y v = omega (arith, search-most O n cost y v n (search_from O n cost start v) (omega arith))

  pub ca-most : (m : ℕ) (s : Kept O.C) → ca_reads O n cost m s ≤ m * (n + (n + 1) * n)
  unfolding ca_reads find_path_reads
  ca-most m s =
      let e : m - 0 ≡ m = omega arith in
      rw e at (walk-sum-most (λ (r : ℕ) (t : Ca O.C). ca_step O n cost (get_or s.rows r 0) t) (λ (r : ℕ) (t : Ca O.C). find_path_reads O n cost (get_or s.rows r 0) t.y t.v) (n + (n + 1) * n) 0 m (record { x = s.x; y = s.y; v = s.v })
      (λ r t. omega (arith, path-most (get_or s.rows r 0) t.y t.v)))

  pub ca-none : (s : Kept O.C) → ca_reads O n cost 0 s ≡ 0
  unfolding ca_reads
  ca-none s = walk-sum-none (λ (r : ℕ) (t : Ca O.C). ca_step O n cost (get_or s.rows r 0) t) (λ (r : ℕ) (t : Ca O.C). find_path_reads O n cost (get_or s.rows r 0) t.y t.v) 0 (record { x = s.x; y = s.y; v = s.v })

  -- one row more
  pub ca-more : (m : ℕ) (s : Kept O.C) → ca_reads O n cost (m + 1) s ≡ ca_reads O n cost m s + find_path_reads O n cost (get_or s.rows m 0) (ca_dense O n cost m s).y (ca_dense O n cost m s).v
  unfolding ca_reads ca_dense
  ca-more m s = walk-sum-more (λ (r : ℕ) (t : Ca O.C). ca_step O n cost (get_or s.rows r 0) t) (λ (r : ℕ) (t : Ca O.C). find_path_reads O n cost (get_or s.rows r 0) t.y t.v) 0 m (record { x = s.x; y = s.y; v = s.v }) (omega arith)

  pub ca-small : (m : ℕ) (s : Kept O.C) → n ≤ 64 → m ≤ 64 → ca_reads O n cost m s ≤ 270336
  ca-small m s hn hm =
      let a : n + (n + 1) * n ≤ 4224 = omega (arith, search-small n hn) in
      let b : m * (n + (n + 1) * n) ≤ 64 * 4224 = mul-le-mul hm a in
      omega (arith, ca-most m s)

  turns-most : (count m : ℕ) (s : Carr O.C) → (runs (carr_more count) (carr_step O n cost) m s).turn ≤ s.turn + m
  unfolding runs
  turns-most count zero s = omega arith
  turns-most count (suc m) s = pick_ind (λ (t : Carr O.C). t.turn ≤ s.turn + suc m) (carr_more count s) _ _ (omega (arith, turns-most count m (carr_step O n cost s), step-turn O n cost s)) (omega arith)

  pub carr-most : (s : Kept O.C) → carr_reads O n cost s ≤ s.count * n * n
  unfolding carr_reads carr_runs
  carr-most s = mul-le-mul_right n (omega (arith, turns-most s.count (s.count * n) (record { rows = s.rows; current = 0; fresh = 0; turn = 0; x = s.x; y = s.y; v = s.v })))

  pub ccrt-most : ccrt_reads O n cost ≤ n * n + n * n
  unfolding ccrt_reads
  ccrt-most = let a = assign n (reduce_columns O n cost).y in omega (arith, collected-most n a.x a.unique)

  -- of the rows left over there are at most n for each pass and for the search
  pub reads-most : 0 < n → lapjv_reads O n cost ≤ 3 * n ^ 3 + 6 * n ^ 2
  unfolding lapjv_reads
  reads-most some =
      let one : Kept O.C = ccrt_dense O n cost in
      let two : Kept O.C = carr_dence O n cost (ccrt_dense O n cost) in
      let three : Kept O.C = two_passes O n cost in
      let a : one.count * n * n ≤ n * n * n = mul-le-mul_right n (mul-le-mul_right n (ccrt-left O n cost some).count_n) in
      let b : two.count * n * n ≤ n * n * n = mul-le-mul_right n (mul-le-mul_right n (pass-keeps O n cost some one (ccrt-left O n cost some)).count_n) in
      let c : three.count * (n + (n + 1) * n) ≤ n * (n + (n + 1) * n) = mul-le-mul_right (n + (n + 1) * n) (passes-left O n cost some).count_n in
      omega (arith, ccrt-most, carr-most one, carr-most two, ca-most three.count three, a, b, c, row-cubed n, cubed n, squared n)
