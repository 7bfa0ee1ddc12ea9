-- The way back along a path: each row on it takes the column behind it, the start sits at the end, and the turns suffice. Assumes nothing.
use mathlib.Core.Path.{ap, sym, ◌∙◌, ◌≡◌}
use mathlib.Core.Bool.{false, not}
use mathlib.Core.List.{List}
use mathlib.Core.Logic.{inl, inr, ◌⊎◌, ⊎_elim}
use Prim.Native.Nat.{◌<◌, suc, zero, ℕ}
use borrow.Author.Tests.{eq-eqb, ne_eqb}
use lib.Dec.{eqb}
use lib.IntN.{pos, ℤ}
use lib.ListN.{get_or, length, length-set, set}
use lib.Seq.{get_or-set_other, get_or-set_same}
use native.Mathlib.Decide.{ℕ_discrete}
use native.Mathlib.Nat.{lt_trans}
use native.Mathlib.Omega.{arith}
use Rattle.lapjv_walk.specs.Holds.{Apart, Paired, Seat}
use Rattle.lapjv_walk.specs.Lapjv.{hop, hop_more, Sits, Trail}
use Rattle.lapjv_walk.specs.Loops.{runs}
use Rattle.lapjv_walk.specs.Marks.{free}
use Rattle.lapjv_walk.proofs.Cases.{pos-free, pos_inj, seat-below}
use Rattle.lapjv_walk.proofs.Loops.{runs_done}
use Rattle.lapjv_walk.proofs.Search.{Earlier, Link}

-- ---- the path back

apart-lt : {p q : ℕ} → p < q → p ≡ q → ⊥
apart-lt h e = omega arith

-- the same while column j is being given away: what it says counts for nothing
pub record Open (n : ℕ) (W : ℕ → Type 0) (x y : List ℤ) (j : ℕ) : Type 0 where
  pub len_x : length x ≡ n
  pub len_y : length y ≡ n
  pub x_marks : (i : ℕ) → i < n → (get_or x i (pos 0) ≡ free) ⊎ Seat n (get_or x i (pos 0))
  pub marks : (c : ℕ) → c < n → (c ≡ j → ⊥) → (get_or y c (pos 0) ≡ free) ⊎ Seat n (get_or y c (pos 0))
  pub y_x : (c i : ℕ) → c < n → (c ≡ j → ⊥) → get_or y c (pos 0) ≡ pos i → (get_or x i (pos 0) ≡ pos c) × (W i → ⊥)
  pub row : (i : ℕ) → i < n → W i ⊎ ((s : Sits n x y i) × (s.j ≡ j → ⊥))

pub opened : (n : ℕ) (W : ℕ → Type 0) (x y : List ℤ) (j : ℕ) → Paired n W x y → get_or y j (pos 0) ≡ free → Open n W x y j
opened n W x y j p e = record {
  len_x = p.len_x;
  len_y = p.len_y;
  x_marks = p.x_marks;
  marks = λ c h _. p.marks c h;
  y_x = λ c i h _ q. p.y_x c i h q;
  row = λ i h. ⊎_elim (λ w. inl w) (λ (s : Sits n x y i). inr (s, λ q. pos-free i (sym s.y_is ∙ ap (λ (z : ℕ). get_or y z (pos 0)) q ∙ e))) (p.row i h);
}

module _ (n : ℕ) (W W' : ℕ → Type 0) (start : ℕ) (hs : start < n) (ws : W start) (gone : W' start → ⊥) (fewer : (i : ℕ) → W' i → W i) (rest : (i : ℕ) → (i ≡ start → ⊥) → W i → W' i)
    (pred cols : List ℕ) (a : Apart n cols) (y₀ : List ℤ) (lo : ℕ) (link : (q : ℕ) → q < n → Link (λ i. i ≡ start) lo y₀ cols q (get_or pred (get_or cols q 0) 0)) where
  -- where the way back ends
  pub record Ended (t : Trail) : Type 0 where
    pub pairs : Paired n W' t.x t.y
    pub stops : hop_more start t ≡ false

  -- the start takes the column
  last_ok : (x y : List ℤ) (j : ℕ) → j < n → Open n W x y j → Paired n W' (set x start (pos j)) (set y j (pos start))
  last_ok x y j hj o =
      let yj : get_or (set y j (pos start)) j (pos 0) ≡ pos start = get_or-set_same y j (pos start) (pos 0) (omega (arith, o.len_y)) in
      let xi : get_or (set x start (pos j)) start (pos 0) ≡ pos j = get_or-set_same x start (pos j) (pos 0) (omega (arith, o.len_x)) in
      let yo : (c : ℕ) → (c ≡ j → ⊥) → get_or (set y j (pos start)) c (pos 0) ≡ get_or y c (pos 0) = λ c u. get_or-set_other y j c (pos start) (pos 0) u in
      let xo : (k : ℕ) → (k ≡ start → ⊥) → get_or (set x start (pos j)) k (pos 0) ≡ get_or x k (pos 0) = λ k u. get_or-set_other x start k (pos j) (pos 0) u in
      record {
        len_x = simp length-set o.len_x;
        len_y = simp length-set o.len_y;
        x_marks = λ k hk. elim (ℕ_discrete k start) [ yes e ↦ inr (record { at = j; below = hj; is = rw e xi }) | no u ↦ rw (xo k u) (o.x_marks k hk) ];
        marks = λ c hc. elim (ℕ_discrete c j) [ yes e ↦ inr (record { at = start; below = hs; is = rw e yj }) | no u ↦ rw (yo c u) (o.marks c hc u) ];
        y_x = λ c k hc e. elim (ℕ_discrete c j) [
          | yes q ↦ let ki : start ≡ k = pos_inj start k (sym yj ∙ ap (λ (z : ℕ). get_or (set y j (pos start)) z (pos 0)) (sym q) ∙ e) in (rw (← ki, q) xi, λ w. gone (rw ki w))
          | no u ↦ let old = o.y_x c k hc u (sym (yo c u) ∙ e) in (xo k (λ q. old.1 (rw q ws)) ∙ old.0, λ w. old.1 (fewer k w))
        ];
        row = λ k hk. elim (ℕ_discrete k start) [
          | yes q ↦ inr (record { j = j; j_n = hj; x_is = rw q xi; y_is = rw q yj })
          | no u ↦ ⊎_elim (λ w. inl (rest k u w))
              (λ (t : (s : Sits n x y k) × (s.j ≡ j → ⊥)). inr (record { j = t.0.j; j_n = t.0.j_n; x_is = xo k u ∙ t.0.x_is; y_is = yo t.0.j t.1 ∙ t.0.y_is }))
              (o.row k hk)
        ];
      }

  -- row i leaves column j' for column j
  hop-ok : (x y : List ℤ) (j j' i : ℕ) → j < n → j' < n → i < n → (j' ≡ j → ⊥) → get_or y j' (pos 0) ≡ pos i → Open n W x y j → Open n W (set x i (pos j)) (set y j (pos i)) j'
  hop-ok x y j j' i hj hj' hi ne e o =
      let yj : get_or (set y j (pos i)) j (pos 0) ≡ pos i = get_or-set_same y j (pos i) (pos 0) (omega (arith, o.len_y)) in
      let xi : get_or (set x i (pos j)) i (pos 0) ≡ pos j = get_or-set_same x i (pos j) (pos 0) (omega (arith, o.len_x)) in
      let yo : (c : ℕ) → (c ≡ j → ⊥) → get_or (set y j (pos i)) c (pos 0) ≡ get_or y c (pos 0) = λ c u. get_or-set_other y j c (pos i) (pos 0) u in
      let xo : (k : ℕ) → (k ≡ i → ⊥) → get_or (set x i (pos j)) k (pos 0) ≡ get_or x k (pos 0) = λ k u. get_or-set_other x i k (pos j) (pos 0) u in
      let mine = o.y_x j' i hj' ne e in
      record {
        len_x = simp length-set o.len_x;
        len_y = simp length-set o.len_y;
        x_marks = λ k hk. elim (ℕ_discrete k i) [ yes e ↦ inr (record { at = j; below = hj; is = rw e xi }) | no u ↦ rw (xo k u) (o.x_marks k hk) ];
        marks = λ c hc _. elim (ℕ_discrete c j) [ yes q ↦ inr (record { at = i; below = hi; is = rw q yj }) | no u ↦ rw (yo c u) (o.marks c hc u) ];
        y_x = λ c k hc u' q. elim (ℕ_discrete c j) [
          | yes r ↦ let ki : i ≡ k = pos_inj i k (sym yj ∙ ap (λ (z : ℕ). get_or (set y j (pos i)) z (pos 0)) (sym r) ∙ q) in (rw (← ki, r) xi, rw ki at mine.1)
          | no u ↦ let old = o.y_x c k hc u (sym (yo c u) ∙ q) in
              (xo k (λ r. u' (pos_inj c j' (sym old.0 ∙ ap (λ (z : ℕ). get_or x z (pos 0)) r ∙ mine.0))) ∙ old.0, old.1)
        ];
        row = λ k hk. elim (ℕ_discrete k i) [
          | yes q ↦ inr (record { j = j; j_n = hj; x_is = rw q xi; y_is = rw q yj }, λ r. ne (sym r))
          | no u ↦ ⊎_elim (λ w. inl w)
              (λ (t : (s : Sits n x y k) × (s.j ≡ j → ⊥)). inr (
                record { j = t.0.j; j_n = t.0.j_n; x_is = xo k u ∙ t.0.x_is; y_is = yo t.0.j t.1 ∙ t.0.y_is },
                λ r. u (pos_inj k i (sym t.0.y_is ∙ ap (λ (z : ℕ). get_or y z (pos 0)) r ∙ e)),
              ))
              (o.row k hk)
        ];
      }

  -- from the column at q, with turns enough, the way back ends and the start sits
  pub augment-ok : (m q : ℕ) (row : ℕ) (x y : List ℤ) → eqb row start ≡ false → q < m → q < n → Open n W x y (get_or cols q 0) → ((p : ℕ) → p < q → get_or y (get_or cols p 0) (pos 0) ≡ get_or y₀ (get_or cols p 0) (pos 0))
      → Ended (runs (hop_more start) (hop pred) m (record { row = row; j = get_or cols q 0; x = x; y = y }))
  unfolding runs hop hop_more
  augment-ok zero q row x y away h hq o same = absurd (omega arith)
  augment-ok (suc m) q row x y away h hq o same =
      let j : ℕ = get_or cols q 0 in
      let i : ℕ = get_or pred j 0 in
      let hj : j < n = a.below q hq in
      rw away
      (⊎_elim
      (λ (e : i ≡ start).
      let there : not (eqb i start) ≡ false = rw (eq-eqb i start e) in
      rw (runs_done (hop_more start) (hop pred) m (hop pred (record { row = row; j = j; x = x; y = y })) there)
      (record { pairs = rw e (last_ok x y j hj o); stops = there }))
      (λ (E : Earlier lo y₀ cols q i).
      let j' : ℕ = get_or cols E.p 0 in
      let hp : E.p < n = omega (arith, E.p-q) in
      let ne : j' ≡ j → ⊥ = λ r. apart-lt E.p-q (a.inj E.p q hp hq r) in
      let yp : get_or y j' (pos 0) ≡ pos i = same E.p E.p-q ∙ E.is in
      let mine = o.y_x j' i (a.below E.p hp) ne yp in
      let hi : i < n = seat-below n (get_or y j' (pos 0)) i yp (o.marks j' (a.below E.p hp) ne) in
      let ns : i ≡ start → ⊥ = λ r. mine.1 (rw r ws) in
      rw mine.0
      (augment-ok m E.p i (set x i (pos j)) (set y j (pos i)) (ne_eqb i start ns) (omega (arith, E.p-q)) hp (hop-ok x y j j' i hj (a.below E.p hp) hi ne yp o)
      (λ p' l. get_or-set_other y j (get_or cols p' 0) (pos i) (pos 0) (λ r. apart-lt (lt_trans l E.p-q) (a.inj p' q (omega (arith, E.p-q)) hq r)) ∙ same p' (lt_trans l E.p-q))))
      (link q hq))
