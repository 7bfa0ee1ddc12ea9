-- Rows that wait: the row at a place takes a column, and who sat there waits instead. Assumes nothing.
use mathlib.Core.Path.{ap, refl, sym, ◌∙◌, ◌≡◌}
use mathlib.Core.List.{List}
use mathlib.Core.Logic.{inl, inr, ◌⊎◌, ⊎_elim}
use Prim.Native.Nat.{◌<◌, ℕ}
use lib.IntN.{pos, ℤ}
use lib.ListN.{get_or, set}
use Rattle.lapjv_walk.specs.Holds.{Queue, Waits}
use Rattle.lapjv_walk.proofs.Cases.{seat-below}
use Rattle.lapjv_walk.proofs.Pairing.{seat-ok}

-- the row at cur takes column j, and who sat there waits at hole
module _ (n : ℕ) (A A' : ℕ → Type 0) (rows rows' : List ℕ) (x y : List ℤ) (w : Queue n A rows x y) (cur : ℕ) (ac : A cur) (j : ℕ) (hj : j < n) (hole : ℕ)
    (new : (p : ℕ) → A' p → ((get_or rows' p 0 ≡ get_or rows p 0) × A p × (p ≡ cur → ⊥)) ⊎ ((p ≡ hole) × (get_or y j (pos 0) ≡ pos (get_or rows' p 0))))
    (old : (p : ℕ) → A p → (p ≡ cur → ⊥) → A' p × (get_or rows' p 0 ≡ get_or rows p 0))
    (moved : (k : ℕ) → get_or y j (pos 0) ≡ pos k → Waits A' rows' k) where
  pub queue-ok : Queue n A' rows' (set x (get_or rows cur 0) (pos j)) (set y j (pos (get_or rows cur 0)))
  queue-ok = record {
    below = λ p a. ⊎_elim
        (λ (u : (get_or rows' p 0 ≡ get_or rows p 0) × A p × (p ≡ cur → ⊥)). rw u.0 (w.below p u.1))
        (λ (u : (p ≡ hole) × (get_or y j (pos 0) ≡ pos (get_or rows' p 0))). seat-below n (get_or y j (pos 0)) (get_or rows' p 0) u.1 (w.pairs.marks j hj))
        (new p a);
    inj = λ p q a b e. ⊎_elim
        (λ (u : (get_or rows' p 0 ≡ get_or rows p 0) × A p × (p ≡ cur → ⊥)). ⊎_elim
        (λ (v : (get_or rows' q 0 ≡ get_or rows q 0) × A q × (q ≡ cur → ⊥)). w.inj p q u.1 v.1 (sym u.0 ∙ e ∙ v.0))
        (λ (v : (q ≡ hole) × (get_or y j (pos 0) ≡ pos (get_or rows' q 0))). absurd ((w.pairs.y_x j (get_or rows' q 0) hj v.1).1 (record { p = p; act = u.1; is = sym u.0 ∙ e })))
        (new q b))
        (λ (u : (p ≡ hole) × (get_or y j (pos 0) ≡ pos (get_or rows' p 0))). ⊎_elim
        (λ (v : (get_or rows' q 0 ≡ get_or rows q 0) × A q × (q ≡ cur → ⊥)). absurd ((w.pairs.y_x j (get_or rows' p 0) hj u.1).1 (record { p = q; act = v.1; is = sym v.0 ∙ sym e })))
        (λ (v : (q ≡ hole) × (get_or y j (pos 0) ≡ pos (get_or rows' q 0))). u.0 ∙ sym v.0)
        (new q b))
        (new p a);
    pairs = seat-ok n (λ k. Waits A rows k) (λ k. Waits A' rows' k) x y w.pairs (get_or rows cur 0) j (w.below cur ac) hj (record { p = cur; act = ac; is = refl })
        (λ (v : Waits A' rows' (get_or rows cur 0)). ⊎_elim
        (λ (u : (get_or rows' v.p 0 ≡ get_or rows v.p 0) × A v.p × (v.p ≡ cur → ⊥)). u.2 (w.inj v.p cur u.1 ac (sym u.0 ∙ v.is)))
        (λ (u : (v.p ≡ hole) × (get_or y j (pos 0) ≡ pos (get_or rows' v.p 0))). (w.pairs.y_x j (get_or rows cur 0) hj (u.1 ∙ ap pos v.is)).1 (record { p = cur; act = ac; is = refl }))
        (new v.p v.act))
        (λ k ne (v : Waits A rows k).
        let nc : v.p ≡ cur → ⊥ = λ e. ne (sym v.is ∙ ap (λ (z : ℕ). get_or rows z 0) e) in
        record { p = v.p; act = (old v.p v.act nc).0; is = (old v.p v.act nc).1 ∙ v.is })
        (λ k (v : Waits A' rows' k). ⊎_elim
        (λ (u : (get_or rows' v.p 0 ≡ get_or rows v.p 0) × A v.p × (v.p ≡ cur → ⊥)). inl (record { p = v.p; act = u.1; is = sym u.0 ∙ v.is }))
        (λ (u : (v.p ≡ hole) × (get_or y j (pos 0) ≡ pos (get_or rows' v.p 0))). inr (u.1 ∙ ap pos v.is))
        (new v.p v.act))
        moved;
  }

pub same-places : (n : ℕ) (A A' : ℕ → Type 0) (rows : List ℕ) (x y : List ℤ) → ((p : ℕ) → A p → A' p) → ((p : ℕ) → A' p → A p) → Queue n A rows x y → Queue n A' rows x y
same-places n A A' rows x y to from q = record {
  below = λ p a. q.below p (from p a);
  inj = λ p r a b e. q.inj p r (from p a) (from r b) e;
  pairs = record {
    len_x = q.pairs.len_x;
    len_y = q.pairs.len_y;
    x_marks = q.pairs.x_marks;
    marks = q.pairs.marks;
    y_x = λ j i h e. ((q.pairs.y_x j i h e).0, λ (w : Waits A' rows i). (q.pairs.y_x j i h e).1 (record { p = w.p; act = from w.p w.act; is = w.is }));
    row = λ i h. ⊎_elim (λ (w : Waits A rows i). inl (record { p = w.p; act = to w.p w.act; is = w.is })) (λ s. inr s) (q.pairs.row i h);
  };
}
