-- The search over whole numbers: distances, and what holds of them while a row is scanned. Assumes nothing.
use mathlib.Core.Path.{◌≡◌, sym, ◌∙◌, ap}
use mathlib.Core.Bool.{true}
use mathlib.Core.List.{List}
use mathlib.Core.Logic.{inl, inr, ◌⊎◌, ⊎_elim}
use Prim.Native.Nat.{ℕ, suc, ◌+◌, ◌≤◌, ◌<◌}
use lib.IntN.{ℤ, pos, ◌-ℤ◌}
use lib.Signed.{lt_z}
use lib.ListN.{get_or, length, length-set, set}
use lib.Seq.{get_or-set_other, get_or-set_same}
use native.Mathlib.Decide.{ℕ_discrete}
use native.Mathlib.Nat.{le_refl}
use native.Mathlib.Omega.{arith}
use Rattle.lapjv_walk.specs.Holds.{Apart, Marked}
use Rattle.lapjv_walk.specs.Loops.{walk}
use Rattle.lapjv_walk.specs.Marks.{is_free}
use Rattle.lapjv_walk.specs.Ops.{cost_at}
use Rattle.lapjv_walk.specs.Path.{exchanged, Scan, scan_col, scan_hit, scan_step}
use Rattle.lapjv_walk.proofs.Cases.{not-both, pick-by, pos_inj}
use Rattle.lapjv_walk.proofs.Loops.{walk-ind, walk_more, walk_none}
use Rattle.lapjv_walk.proofs.Search.{scan-ok, ScanOk}
use Rattle.lapint_walk.specs.Wholes.{eq_z, wholes}
use Rattle.lapint_walk.proofs.Numbers.{up, down, Le, Lt, Equal, LeMinus, minus, lt_yes, lt_not, eq_yes}
use Rattle.lapint_walk.proofs.Good.{same, val}

-- d ≤ c - v, and d is c - v
abbrev pub Within : ℤ → ℤ → ℤ → Type 0
Within d c v = up d + down c + up v ≤ down d + up c + down v

abbrev pub Exact : ℤ → ℤ → ℤ → Type 0
Exact d c v = up d + down c + up v ≡ down d + up c + down v

-- d - (c - v) ≤ e - (b - w), and the two are the same
abbrev pub Slack : ℤ → ℤ → ℤ → ℤ → ℤ → ℤ → Type 0
Slack d c v e b w = up d + down c + up v + down e + up b + down w ≤ down d + up c + down v + up e + down b + up w

abbrev pub Even : ℤ → ℤ → ℤ → ℤ → ℤ → ℤ → Type 0
Even d c v e b w = up d + down c + up v + down e + up b + down w ≡ down d + up c + down v + up e + down b + up w

-- ---- an exchange of two places

module _ (n : ℕ) (cols : List ℕ) (len : length cols ≡ n) (k i : ℕ) (hk : k < n) (hi : i < n) where
  -- what holds of the element that comes to q
  pub ex-ind : (P : ℕ → Type 0) (q : ℕ) → (q ≡ i → P (get_or cols k 0)) → (q ≡ k → P (get_or cols i 0)) → ((q ≡ i → ⊥) → (q ≡ k → ⊥) → P (get_or cols q 0)) → P (get_or (exchanged cols k i (get_or cols k 0)) q 0)
  ex-ind P q a b c = elim (ℕ_discrete q i) [
    | yes e ↦ rw (e, get_or-set_same (set cols k (get_or cols i 0)) i (get_or cols k 0) 0 (simp length-set (omega arith))) (a e)
    | no u ↦ rw (get_or-set_other (set cols k (get_or cols i 0)) i q (get_or cols k 0) 0 u) (elim (ℕ_discrete q k) [
      | yes e ↦ rw (e, get_or-set_same cols k (get_or cols i 0) 0 (omega arith)) (b e)
      | no w ↦ rw (get_or-set_other cols k q (get_or cols i 0) 0 w) (c u w)
    ])
  ]

  pub ex-same : (q : ℕ) → (q ≡ i → ⊥) → (q ≡ k → ⊥) → get_or (exchanged cols k i (get_or cols k 0)) q 0 ≡ get_or cols q 0
  ex-same q u w = get_or-set_other (set cols k (get_or cols i 0)) i q (get_or cols k 0) 0 u ∙ get_or-set_other cols k q (get_or cols i 0) 0 w

module _ (n : ℕ) (cost y v : List ℤ) (start : ℕ) where
  -- the row before column j is that of a column scanned earlier
  pub record Behind (upto : ℕ) (d : List ℤ) (cols : List ℕ) (i j : ℕ) : Type 0 where
    pub p : ℕ
    pub p-u : p < upto
    pub is : get_or y (get_or cols p 0) (pos 0) ≡ pos i
    pub even : Even (val d j) (cost_at wholes n cost i j) (val v j) (val d (get_or cols p 0)) (cost_at wholes n cost i (get_or cols p 0)) (val v (get_or cols p 0))

  abbrev pub Edge : ℕ → List ℤ → List ℕ → ℕ → ℕ → Type 0
  Edge upto d cols i j = ((i ≡ start) × Exact (val d j) (cost_at wholes n cost start j) (val v j)) ⊎ Behind upto d cols i j

  -- distances at the level m, whose columns begin at base: those before hi are at most m away, those from base on at least m
  pub record Fair (base upto hi : ℕ) (m : ℤ) (d : List ℤ) (cols pred : List ℕ) : Type 0 where
    pub from_start : (k : ℕ) → k < n → Within (val d k) (cost_at wholes n cost start k) (val v k)
    pub edge : (j : ℕ) → j < n → Edge upto d cols (get_or pred j 0) j
    pub early : (q : ℕ) → q < hi → Le (val d (get_or cols q 0)) m
    pub late : (q : ℕ) → base ≤ q → q < n → Le m (val d (get_or cols q 0))

  -- no way by row r, of the column c, is shorter
  abbrev pub Short : List ℤ → ℕ → ℕ → ℕ → Type 0
  Short d r c k = Slack (val d k) (cost_at wholes n cost r k) (val v k) (val d c) (cost_at wholes n cost r c) (val v c)

  -- the rows of the columns before f are scanned
  abbrev pub Relaxed : ℕ → List ℤ → List ℕ → Type 0
  Relaxed f d cols = (p r k : ℕ) → p < f → k < n → get_or y (get_or cols p 0) (pos 0) ≡ pos r → Short d r (get_or cols p 0) k

  -- while row i of the column c, at l, is scanned at k
  pub record Row (base l c i k : ℕ) (m : ℤ) (s : Scan ℤ) : Type 0 where
    pub lo-is : s.lo ≡ l + 1
    pub at-l : get_or s.cols l 0 ≡ c
    pub fair : Fair base (l + 1) s.hi m s.d s.cols s.pred
    pub done : Relaxed l s.d s.cols
    pub now : is_free s.found ≡ true → (q : ℕ) → q < k → Short s.d i c (get_or s.cols q 0)
    pub got : (j : ℕ) → s.found ≡ pos j → Le (val s.d j) m
    pub len_d : length s.d ≡ n
    pub len_pred : length s.pred ≡ n

  module _ (base l c i : ℕ) (m : ℤ) (base-l : base ≤ l) (yc : get_or y c (pos 0) ≡ pos i) (hc : c < n) (tight : (k : ℕ) → k < n → LeMinus (cost_at wholes n cost i c) (val v c) (cost_at wholes n cost i k) (val v k)) where
    -- the column at k is reached at e by row i
    lowered : (k : ℕ) (s : Scan ℤ) (e : ℤ) (f : ℤ) → k < n → s.hi ≤ k → s.lo ≤ s.hi → Apart n s.cols → Row base l c i k m s → is_free s.found ≡ true
        → Lt e (val s.d (get_or s.cols k 0)) → Even e (cost_at wholes n cost i (get_or s.cols k 0)) (val v (get_or s.cols k 0)) (val s.d c) (cost_at wholes n cost i c) (val v c)
        → ((j : ℕ) → f ≡ pos j → (j ≡ get_or s.cols k 0) × Le e m)
        → Row base l c i (suc k) m (record { lo = s.lo; hi = s.hi; d = set s.d (get_or s.cols k 0) e; cols = s.cols; pred = set s.pred (get_or s.cols k 0) i; found = f })
    lowered k s e f hk hik lh a o open' less even found =
        let j : ℕ = get_or s.cols k 0 in
        let hj : j < n = a.below k hk in
        let F = o.fair in
        let lo = o.lo-is in
        let ld = o.len_d in
        let lp = o.len_pred in
        let D : List ℤ = set s.d j e in
        let dj : get_or D j (pos 0) ≡ e = get_or-set_same s.d j e (pos 0) (omega arith) in
        let dq : (q : ℕ) → (q ≡ j → ⊥) → get_or D q (pos 0) ≡ val s.d q = λ q u. get_or-set_other s.d j q e (pos 0) u in
        let pj : get_or (set s.pred j i) j 0 ≡ i = get_or-set_same s.pred j i 0 (omega arith) in
        let pq : (q : ℕ) → (q ≡ j → ⊥) → get_or (set s.pred j i) q 0 ≡ get_or s.pred q 0 = λ q u. get_or-set_other s.pred j q i 0 u in
        -- the columns before k are others
        let apart : (q : ℕ) → q < k → get_or s.cols q 0 ≡ j → ⊥ = λ q h r. let z : q ≡ k = a.inj q k (omega arith) hk r in omega arith in
        let cj : c ≡ j → ⊥ = λ r. apart l (omega arith) (o.at-l ∙ r) in
        let dc : Equal (get_or D c (pos 0)) (val s.d c) = same (dq c cj) in
        let m-c : Equal m (val s.d c) = rw o.at-l at (both (val s.d (get_or s.cols l 0)) (F.early l (omega arith)) (F.late l base-l (omega arith))) in
        let least : Le m e = omega (arith, tight j hj) in
        record {
          lo-is = lo;
          at-l = o.at-l;
          fair = record {
            from_start = λ q hq. elim (ℕ_discrete q j) [ yes r ↦ rw (r, dj) (omega (arith, F.from_start j hj)) | no u ↦ omega (arith, F.from_start q hq, same (dq q u)) ];
            edge = λ q hq. elim (ℕ_discrete q j) [
              | yes r ↦ rw (r, pj) (inr (record { p = l; p-u = omega arith; is = rw o.at-l yc; even = rw (o.at-l, dj) (omega arith) }))
              | no u ↦ rw (pq q u) (⊎_elim
                  (λ (w : (get_or s.pred q 0 ≡ start) × Exact (val s.d q) (cost_at wholes n cost start q) (val v q)). inl (w.0, omega (arith, w.1, same (dq q u))))
                  (λ (w : Behind (l + 1) s.d s.cols (get_or s.pred q 0) q). inr (record { p = w.p; p-u = w.p-u; is = w.is; even = omega (arith, w.even, same (dq q u), same (dq (get_or s.cols w.p 0) (apart w.p (omega (arith, w.p-u))))) }))
                  (F.edge q hq))
            ];
            early = λ q hq. omega (arith, F.early q hq, same (dq (get_or s.cols q 0) (apart q (omega arith))));
            late = λ q b hq. elim (ℕ_discrete (get_or s.cols q 0) j) [ yes r ↦ rw (r, dj) least | no u ↦ omega (arith, F.late q b hq, same (dq (get_or s.cols q 0) u)) ];
          };
          done = λ p r q hp hq is.
              let dp : Equal (get_or D (get_or s.cols p 0) (pos 0)) (val s.d (get_or s.cols p 0)) = same (dq (get_or s.cols p 0) (apart p (omega arith))) in
              elim (ℕ_discrete q j) [ yes w ↦ rw (w, dj) (omega (arith, o.done p r j hp hj is)) | no u ↦ omega (arith, o.done p r q hp hq is, same (dq q u)) ];
          now = λ _ q hq. elim (ℕ_discrete q k) [ yes r ↦ rw (r, dj) (omega arith) | no u ↦ omega (arith, o.now open' q (omega arith), same (dq (get_or s.cols q 0) (apart q (omega arith)))) ];
          got = λ q r. let w = found q r in rw (w.0, dj) w.1;
          len_d = simp length-set ld;
          len_pred = simp length-set lp;
        }
      where
        both : (z : ℤ) → Le z m → Le m z → Equal m z
        both z p q = omega arith

    -- the column at k, at most m away, joins those before hi
    joined : (k : ℕ) (s : Scan ℤ) → k < n → s.hi ≤ k → s.lo ≤ s.hi → Apart n s.cols → Row base l c i (suc k) m s → Le (val s.d (get_or s.cols k 0)) m
        → Row base l c i (suc k) m (record { lo = s.lo; hi = s.hi + 1; d = s.d; cols = exchanged s.cols k s.hi (get_or s.cols k 0); pred = s.pred; found = s.found })
    joined k s hk hik lh a o near =
        let F = o.fair in
        let lo = o.lo-is in
        let hn : s.hi < n = omega arith in
        let keep : (q : ℕ) → q < s.hi → get_or (exchanged s.cols k s.hi (get_or s.cols k 0)) q 0 ≡ get_or s.cols q 0 = λ q h. ex-same n s.cols a.len k s.hi hk hn q (omega arith) (omega arith) in
        record {
          lo-is = lo;
          at-l = keep l (omega arith) ∙ o.at-l;
          fair = record {
            from_start = F.from_start;
            edge = λ q hq. ⊎_elim
                (λ (w : (get_or s.pred q 0 ≡ start) × Exact (val s.d q) (cost_at wholes n cost start q) (val v q)). inl w)
                (λ (w : Behind (l + 1) s.d s.cols (get_or s.pred q 0) q). inr (record { p = w.p; p-u = w.p-u; is = rw (keep w.p (omega (arith, w.p-u))) w.is; even = rw (keep w.p (omega (arith, w.p-u))) w.even }))
                (F.edge q hq);
            early = λ q hq. ex-ind n s.cols a.len k s.hi hk hn (λ j. Le (val s.d j) m) q (λ _. near) (λ e. let z : s.hi ≡ k = omega arith in rw z near) (λ u w. F.early q (omega arith));
            late = λ q b hq. ex-ind n s.cols a.len k s.hi hk hn (λ j. Le m (val s.d j)) q (λ _. F.late k (omega arith) hk) (λ _. F.late s.hi (omega arith) hn) (λ _ _. F.late q b hq);
          };
          done = λ p r q hp hq is. rw (keep p (omega arith)) (o.done p r q hp hq (rw (keep p (omega arith)) at is));
          now = λ e q hq. ex-ind n s.cols a.len k s.hi hk hn (λ j. Short s.d i c j) q (λ _. o.now e k (omega arith)) (λ _. o.now e s.hi (omega arith)) (λ _ _. o.now e q hq);
          got = o.got;
          len_d = o.len_d;
          len_pred = o.len_pred;
        }

    module _ (mind : ℤ) (m-mind : Equal m mind) (R : ℕ → Type 0) (marks : Marked n y) where
      abbrev h : ℤ
      h = cost_at wholes n cost i c -ℤ val v c -ℤ mind

      later : (k : ℕ) (s : Scan ℤ) → Row base l c i k m s → (is_free s.found ≡ true → Short s.d i c (get_or s.cols k 0)) → Row base l c i (suc k) m s
      later k s o last = record {
        lo-is = o.lo-is;
        at-l = o.at-l;
        fair = o.fair;
        done = o.done;
        now = λ e q hq. elim (ℕ_discrete q k) [ yes r ↦ rw r (last e) | no u ↦ o.now e q (omega arith) ];
        got = o.got;
        len_d = o.len_d;
        len_pred = o.len_pred;
      }

      at-m : (k : ℕ) (s : Scan ℤ) → ScanOk n R y i k s → Row base l c i k m s → Equal m (val s.d c)
      at-m k s p o = rw o.at-l at (both (val s.d (get_or s.cols l 0)) (o.fair.early l (omega (arith, p.path.lo_hi, o.lo-is))) (o.fair.late l base-l (omega (arith, p.path.lo_hi, p.path.hi_n, o.lo-is))))
        where
          both : (z : ℤ) → Le z m → Le m z → Equal m z
          both z a b = omega arith

      column : (k : ℕ) (s : Scan ℤ) → k < n → ScanOk n R y i k s → Row base l c i k m s → Row base l c i (suc k) m (scan_step wholes n cost y v i h mind k s)
      unfolding scan_step scan_col scan_hit
      column k s hk p o =
          let j : ℕ = get_or s.cols k 0 in
          let e : ℤ = cost_at wholes n cost i j -ℤ val v j -ℤ h in
          let P : Scan ℤ → Type 0 = λ t. Row base l c i (suc k) m t in
          let hik = p.hi-k in
          let lh = p.path.lo_hi in
          let a = p.path.apart in
          let hj : j < n = a.below k hk in
          let mc : Equal m (val s.d c) = at-m k s p o in
          let m1 = minus (cost_at wholes n cost i j) (val v j) in
          let m2 = minus (cost_at wholes n cost i j -ℤ val v j) h in
          let m3 = minus (cost_at wholes n cost i c) (val v c) in
          let m4 = minus (cost_at wholes n cost i c -ℤ val v c) mind in
          let even : Even e (cost_at wholes n cost i j) (val v j) (val s.d c) (cost_at wholes n cost i c) (val v c) = omega arith in
          pick-by P (is_free s.found) _ _
          (λ open'. pick-by P (lt_z e (val s.d j)) _ _
          (λ less. pick-by P (eq_z e mind) _ _
          (λ met.
          let em : Le e m = omega (arith, same (eq_yes e mind met)) in
          pick-by P (is_free (get_or y j (pos 0))) _ _
          (λ _. lowered k s e (pos j) hk hik lh a o open' (lt_yes e (val s.d j) less) even (λ q r. (sym (pos_inj j q r), em)))
          (λ _.
          let D : List ℤ = set s.d j e in
          let t : Scan ℤ = record { lo = s.lo; hi = s.hi; d = D; cols = s.cols; pred = set s.pred j i; found = s.found } in
          let dj : get_or D j (pos 0) ≡ e = get_or-set_same s.d j e (pos 0) (omega (arith, o.len_d)) in
          joined k t hk hik lh a (lowered k s e s.found hk hik lh a o open' (lt_yes e (val s.d j) less) even (λ q r. not-both (is_free s.found) open' (ap is_free r))) (rw dj em)))
          (λ _. lowered k s e s.found hk hik lh a o open' (lt_yes e (val s.d j) less) even (λ q r. not-both (is_free s.found) open' (ap is_free r))))
          (λ far. later k s o (λ _. omega (arith, lt_not e (val s.d j) far))))
          (λ shut. later k s o (λ open'. not-both (is_free s.found) open' shut))

      -- a step of the walk keeps what the walk keeps
      scanned : (k : ℕ) (s : Scan ℤ) → k < n → ScanOk n R y i k s → ScanOk n R y i (suc k) (scan_step wholes n cost y v i h mind k s)
      scanned k s hk p =
          let f : ℕ → Scan ℤ → Scan ℤ = scan_step wholes n cost y v i h mind in
          let one : k + 1 ≡ suc k = omega arith in
          rw (walk_more f k k s (le_refl k), walk_none f k s, one) at (scan-ok wholes n cost y v i h mind R marks k (k + 1) s (omega arith) (omega arith) p)

      pub row_done : (s : Scan ℤ) → s.hi ≤ n → ScanOk n R y i s.hi s → Row base l c i s.hi m s → Row base l c i n m (walk (scan_step wholes n cost y v i h mind) s.hi n s)
      row_done s hn p o =
          (walk-ind (scan_step wholes n cost y v i h mind) (λ k t. ScanOk n R y i k t × Row base l c i k m t) s.hi n s hn (p, o)
          (λ k t _ hk w. (scanned k t hk w.0, column k t hk w.0 w.1))).1
