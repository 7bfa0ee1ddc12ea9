-- The replay of a gap as a loop: what is left of the virtual boxes after each turn, and the line that they lie on. Assumes nothing.
use Prim.Native.Nat.{ℕ, suc, ◌+◌, ◌-◌, ◌<◌}
use native.Mathlib.Numerals.{add-one}
use native.Mathlib.Omega.{arith}
use mathlib.Core.Path.{◌≡◌, refl, ap, sym, ◌∙◌}
use Rattle.kalman_filter.specs.declared.Filter.{Filter}
use Rattle.kalman_filter.specs.declared.DetectBox.{DetectBox}
use Rattle.gap.specs.declared.Line.{Line}
use Rattle.kalman_filter.specs.Filter.{predict_of, update_of}
use Rattle.gap.specs.Gap.{along, virtual_of, virtuals}
use Rattle.gap.specs.Line.{line_of, box_at}
use Rattle.gap.proofs.Steps.{virtuals-none, virtuals-one, virtuals-more}

on-the-line : (gap : ℕ) (a b : DetectBox) → virtual_of gap a b ≡ box_at (line_of gap a b)
unfolding virtual_of along box_at line_of
on-the-line gap a b = refl

module _ (box : ℕ → DetectBox) (gap : ℕ) where
  -- what the boxes from number t on make of k
  abbrev pub rest : ℕ → Filter → Filter
  rest t k = virtuals box (gap + 1 - t) t k

  rest-between : (t : ℕ) (k : Filter) → t < gap → rest t k ≡ rest (t + 1) (predict_of (update_of (box t) k))
  rest-between t k h =
      let e : gap + 1 - t ≡ suc (suc (gap - t - 1)) = omega arith in
      let d : gap + 1 - suc t ≡ suc (gap - t - 1) = omega arith in
      rw (add-one t, e, d) (virtuals-more box t k (gap - t - 1))

  rest-last : (k : Filter) → rest gap k ≡ rest (gap + 1) (update_of (box gap) k)
  rest-last k =
      let e : gap + 1 - gap ≡ 1 = omega arith in
      let d : gap + 1 - (gap + 1) ≡ 0 = omega arith in
      rw (e, d) (virtuals-one box gap k ∙ sym (virtuals-none box (gap + 1) (update_of (box gap) k)))

  -- a turn that isn't the last: the box is applied, and a predict follows
  pub turn-between : (t : ℕ) (f k u k₁ : Filter) (v : DetectBox) → t < gap → v ≡ box t → u ≡ update_of v k → k₁ ≡ predict_of u → f ≡ rest t k → f ≡ rest (t + 1) k₁
  turn-between t f k u k₁ v h a b d e = e ∙ (rest-between t k h ∙ sym (ap (rest (t + 1)) (d ∙ ap predict_of (b ∙ ap (λ (z : DetectBox). update_of z k) a))))

  pub turn_last : (t : ℕ) (f k u : Filter) (v : DetectBox) → t ≡ gap → v ≡ box t → u ≡ update_of v k → f ≡ rest t k → f ≡ rest (t + 1) u
  turn_last t f k u v h a b e = e ∙ (rw h (rest-last k) ∙ sym (ap (rest (t + 1)) (b ∙ ap (λ (z : DetectBox). update_of z k) a)))

  pub rest-none : (k : Filter) → rest (gap + 1) k ≡ k
  rest-none k = let d : gap + 1 - (gap + 1) ≡ 0 = omega arith in rw d (virtuals-none box (gap + 1) k)

-- before the first turn: all the virtual boxes of the gap
pub rest_all : (gap : ℕ) (a b : DetectBox) (l : Line) (f : Filter) → l ≡ line_of gap a b → rest (box_at l) gap 1 f ≡ virtuals (virtual_of gap a b) gap 1 f
rest_all gap a b l f e =
    let d : gap + 1 - 1 ≡ gap = omega arith in
    ap (λ (n : ℕ). virtuals (box_at l) n 1 f) d ∙ ap (λ (box : ℕ → DetectBox). virtuals box gap 1 f) (ap box_at e ∙ sym (on-the-line gap a b))
