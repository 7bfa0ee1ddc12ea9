-- Rows and columns that name each other: a row takes a column; where no row waits all columns are taken, and where one waits not all are. Assumes nothing.
use mathlib.Core.Path.{ap, sym, ◌∙◌, ◌≡◌}
use mathlib.Core.List.{List}
use mathlib.Core.Logic.{inl, inr, ◌⊎◌, ⊎_elim}
use Prim.Native.Nat.{◌<◌, ℕ}
use lib.IntN.{pos, ℤ}
use lib.ListN.{get_or, length-set, set}
use lib.Seq.{get_or-set_other, get_or-set_same}
use native.Mathlib.Decide.{ℕ_discrete}
use native.Mathlib.Omega.{arith}
use Rattle.lapjv_walk.specs.Holds.{Marked, Paired, Seat}
use Rattle.lapjv_walk.specs.Lapjv.{Sits}
use Rattle.lapjv_walk.specs.Marks.{free, index, is_free}
use Rattle.lapjv_walk.proofs.Cases.{not-both, pos-free, pos_inj}
use Rattle.lapjv_walk.proofs.Pigeon.{none_out}

-- row i, which waits, takes column j; who sat there waits
module _ (n : ℕ) (W W' : ℕ → Type 0) (x y : List ℤ) (p : Paired n W x y) (i j : ℕ) (hi : i < n) (hj : j < n) (wi : W i)
    (done : W' i → ⊥) (keep : (k : ℕ) → (k ≡ i → ⊥) → W k → W' k) (only : (k : ℕ) → W' k → W k ⊎ (get_or y j (pos 0) ≡ pos k)) (moved : (k : ℕ) → get_or y j (pos 0) ≡ pos k → W' k) where
  pub seat-ok : Paired n W' (set x i (pos j)) (set y j (pos i))
  seat-ok =
      let yj : get_or (set y j (pos i)) j (pos 0) ≡ pos i = get_or-set_same y j (pos i) (pos 0) (omega (arith, p.len_y)) in
      let xi : get_or (set x i (pos j)) i (pos 0) ≡ pos j = get_or-set_same x i (pos j) (pos 0) (omega (arith, p.len_x)) in
      let yo : (c : ℕ) → (c ≡ j → ⊥) → get_or (set y j (pos i)) c (pos 0) ≡ get_or y c (pos 0) = λ c u. get_or-set_other y j c (pos i) (pos 0) u in
      let xo : (k : ℕ) → (k ≡ i → ⊥) → get_or (set x i (pos j)) k (pos 0) ≡ get_or x k (pos 0) = λ k u. get_or-set_other x i k (pos j) (pos 0) u in
      record {
        len_x = simp length-set p.len_x;
        len_y = simp length-set p.len_y;
        x_marks = λ k hk. elim (ℕ_discrete k i) [ yes e ↦ inr (record { at = j; below = hj; is = rw e xi }) | no u ↦ rw (xo k u) (p.x_marks k hk) ];
        marks = λ c hc. elim (ℕ_discrete c j) [
          | yes e ↦ inr (record { at = i; below = hi; is = rw e yj })
          | no u ↦ rw (yo c u) (p.marks c hc)
        ];
        y_x = λ c k hc e. elim (ℕ_discrete c j) [
          | yes q ↦ let ki : i ≡ k = pos_inj i k (sym yj ∙ ap (λ (z : ℕ). get_or (set y j (pos i)) z (pos 0)) (sym q) ∙ e) in
              (rw (← ki, q) xi, λ w. done (rw ki w))
          | no u ↦ let old = p.y_x c k hc (sym (yo c u) ∙ e) in
              let ki : k ≡ i → ⊥ = λ q. old.1 (rw q wi) in
              (xo k ki ∙ old.0, λ w. ⊎_elim (λ v. old.1 v) (λ v. u (pos_inj c j (sym old.0 ∙ (p.y_x j k hj v).0))) (only k w))
        ];
        row = λ k hk. elim (ℕ_discrete k i) [
          | yes q ↦ inr (record { j = j; j_n = hj; x_is = rw q xi; y_is = rw q yj })
          | no u ↦ ⊎_elim (λ w. inl (keep k u w))
              (λ (t : Sits n x y k). elim (ℕ_discrete t.j j) [
                | yes q ↦ inl (moved k (rw q at t.y_is))
                | no v ↦ inr (record { j = t.j; j_n = t.j_n; x_is = xo k u ∙ t.x_is; y_is = yo t.j v ∙ t.y_is })
              ])
              (p.row k hk)
        ];
      }

-- where no row waits, every column is taken, and x and y are inverse
pub all-taken : (n : ℕ) (W : ℕ → Type 0) (x y : List ℤ) → Paired n W x y → ((i : ℕ) → i < n → W i → ⊥) → (j : ℕ) → j < n → Seat n (get_or y j (pos 0))
all-taken n W x y p none j hj = ⊎_elim (λ e. absurd (left e)) (λ s. s) (p.marks j hj)
  where
    sits : (i : ℕ) → i < n → Sits n x y i
    sits i hi = ⊎_elim (λ w. absurd (none i hi w)) (λ s. s) (p.row i hi)

    left : get_or y j (pos 0) ≡ free → ⊥
    left e =
        none_out n (λ i. index (get_or x i (pos 0))) j hj
        (λ i h. rw (sits i h).x_is (sits i h).j_n)
        (λ i k hi hk q.
        let eq : (sits i hi).j ≡ (sits k hk).j = sym (ap index (sits i hi).x_is) ∙ q ∙ ap index (sits k hk).x_is in
        pos_inj i k (sym (sits i hi).y_is ∙ ap (λ (z : ℕ). get_or y z (pos 0)) eq ∙ (sits k hk).y_is))
        (λ i h q.
        let ej : (sits i h).j ≡ j = sym (ap index (sits i h).x_is) ∙ q in
        pos-free i (sym (sits i h).y_is ∙ ap (λ (z : ℕ). get_or y z (pos 0)) ej ∙ e))

-- where a row waits, some column before the last is free: not all of n columns that differ are taken
pub some-free : (n : ℕ) (W : ℕ → Type 0) (x y : List ℤ) → Paired n W x y → (i : ℕ) → i < n → W i → (cols : ℕ → ℕ) → ((q : ℕ) → q < n → cols q < n) → ((q r : ℕ) → q < n → r < n → cols q ≡ cols r → q ≡ r)
    → ((q : ℕ) → q < n → Seat n (get_or y (cols q) (pos 0))) → ⊥
some-free n W x y p i hi w cols b inj held =
    none_out n (λ q. index (get_or y (cols q) (pos 0))) i hi
    (λ q h. rw (held q h).is (held q h).below)
    (λ q r hq hr e.
    let eq : (held q hq).at ≡ (held r hr).at = sym (ap index (held q hq).is) ∙ e ∙ ap index (held r hr).is in
    let xq = (p.y_x (cols q) (held q hq).at (b q hq) (held q hq).is).0 in
    let xr = (p.y_x (cols r) (held r hr).at (b r hr) (held r hr).is).0 in
    inj q r hq hr (pos_inj (cols q) (cols r) (sym xq ∙ ap (λ (z : ℕ). get_or x z (pos 0)) eq ∙ xr)))
    (λ q h e. (p.y_x (cols q) i (b q h) ((held q h).is ∙ ap pos (sym (ap index (held q h).is) ∙ e))).1 w)

pub marked : (n : ℕ) (W : ℕ → Type 0) (x y : List ℤ) → Paired n W x y → Marked n y
marked n W x y p = record { len = p.len_y; seat = λ j h e. ⊎_elim (λ u. not-both (is_free (get_or y j (pos 0))) (ap is_free u) e) (λ u. u) (p.marks j h) }
