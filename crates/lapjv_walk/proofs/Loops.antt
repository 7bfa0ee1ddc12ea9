-- Laws of the two kinds of loop, and of what their turns add up to: one more turn, what every turn keeps, a state that no turn changes. Assumes nothing.
use mathlib.Core.Path.{ap, refl, ◌∙◌, ◌≡◌}
use mathlib.Core.Bool.{Bool, false, true}
use Prim.Native.Nat.{◌*◌, ◌+◌, ◌-◌, ◌<◌, suc, zero, ℕ, ◌≤◌}
use native.Mathlib.Nat.{sub_self, suc-mul}
use native.Mathlib.Omega.{arith}
use Rattle.lapjv_walk.specs.Loops.{runs, runs_sum, turns, turns_sum, walk, walk_sum}

module _ {S : Type 0} (f : ℕ → S → S) where
  pub walk_none : (a : ℕ) (s : S) → walk f a a s ≡ s
  unfolding walk turns
  walk_none a s = rw sub_self

  pub walk_more : (a k : ℕ) (s : S) → a ≤ k → walk f a (k + 1) s ≡ f k (walk f a k s)
  unfolding walk turns
  walk_more a k s h =
      let e : k + 1 - a ≡ suc (k - a) = omega arith in
      let e2 : a + (k - a) ≡ k = omega arith in
      rw (e, e2)

  -- what a turn keeps holds at the end
  pub walk-ind {ℓ} : (P : ℕ → S → Type ℓ) (a b : ℕ) (s : S) → a ≤ b → P a s → ((k : ℕ) (t : S) → a ≤ k → k < b → P k t → P (suc k) (f k t)) → P b (walk f a b s)
  unfolding walk turns
  walk-ind P a b s h p step =
      let e : a + (b - a) ≡ b = omega arith in
      rw e at (go (b - a) (omega arith))
    where
      go : (m : ℕ) → a + m ≤ b → P (a + m) (turns f a m s)
      go zero hm = rw (native.Mathlib.Nat.add-zero a) p
      go (suc m) hm = rw (native.Mathlib.Nat.add-suc a m) (step (a + m) (turns f a m s) (omega arith) (omega arith) (go m (omega arith)))

  -- the same of what holds whatever the turn's number
  pub walk-keeps {ℓ} : (P : S → Type ℓ) (a b : ℕ) (s : S) → P s → ((k : ℕ) (t : S) → P t → P (f k t)) → P (walk f a b s)
  unfolding walk turns
  walk-keeps P a b s p step = go (b - a)
    where
      go : (m : ℕ) → P (turns f a m s)
      go zero = p
      go (suc m) = step (a + m) (turns f a m s) (go m)

  -- a state that every turn keeps is the last one
  pub walk-stop : (a k b : ℕ) (s t : S) → a ≤ k → k ≤ b → ((i : ℕ) → f i t ≡ t) → walk f a k s ≡ t → walk f a b s ≡ t
  walk-stop a k b s t h l fix e =
      let eb : k + (b - k) ≡ b = omega arith in
      rw eb at (go (b - k))
    where
      go : (m : ℕ) → walk f a (k + m) s ≡ t
      go zero = rw (native.Mathlib.Nat.add-zero k) e
      go (suc m) =
          let es : k + suc m ≡ k + m + 1 = omega arith in
          rw es (walk_more a (k + m) s (omega arith) ∙ ap (f (k + m)) (go m) ∙ fix (k + m))

module _ {S : Type 0} (more : S → Bool) (f : S → S) where
  pub runs_done : (m : ℕ) (s : S) → more s ≡ false → runs more f m s ≡ s
  unfolding runs
  runs_done zero s e = refl
  runs_done (suc m) s e = rw e

  pub runs-more : (m : ℕ) (s : S) → more s ≡ true → runs more f (suc m) s ≡ runs more f m (f s)
  unfolding runs
  runs-more m s e = rw e

-- ---- sums over the turns

module _ {S : Type 0} (f : ℕ → S → S) (g : ℕ → S → ℕ) where
  pub walk-sum-none : (a : ℕ) (s : S) → walk_sum f g a a s ≡ 0
  unfolding walk_sum turns_sum
  walk-sum-none a s = rw sub_self

  pub walk-sum-more : (a k : ℕ) (s : S) → a ≤ k → walk_sum f g a (k + 1) s ≡ walk_sum f g a k s + g k (walk f a k s)
  unfolding walk_sum turns_sum walk
  walk-sum-more a k s h =
      let e : k + 1 - a ≡ suc (k - a) = omega arith in
      let e2 : a + (k - a) ≡ k = omega arith in
      rw (e, e2)

  -- from a state that every turn keeps, and that adds nothing, the sum stays
  pub walk-sum-stop : (a k b : ℕ) (s t : S) → a ≤ k → k ≤ b → ((i : ℕ) → f i t ≡ t) → ((i : ℕ) → g i t ≡ 0) → walk f a k s ≡ t → walk_sum f g a b s ≡ walk_sum f g a k s
  walk-sum-stop a k b s t h l fix none e =
      let eb : k + (b - k) ≡ b = omega arith in
      rw eb at (go (b - k))
    where
      go : (m : ℕ) → walk_sum f g a (k + m) s ≡ walk_sum f g a k s
      go zero = rw (native.Mathlib.Nat.add-zero k)
      go (suc m) =
          let es : k + suc m ≡ k + m + 1 = omega arith in
          let z : g (k + m) (walk f a (k + m) s) ≡ 0 = rw (walk-stop f a k (k + m) s t h (omega arith) fix e) (none (k + m)) in
          rw es (omega (arith, walk-sum-more a (k + m) s (omega arith), go m))

  pub walk-sum-most : (most a b : ℕ) (s : S) → ((k : ℕ) (t : S) → g k t ≤ most) → walk_sum f g a b s ≤ (b - a) * most
  unfolding walk_sum turns_sum
  walk-sum-most most a b s each = go (b - a)
    where
      go : (m : ℕ) → turns_sum f g a m s ≤ m * most
      go zero = omega arith
      go (suc m) = omega (arith, go m, each (a + m) (turns f a m s), suc-mul m most)

module _ {S : Type 0} (more : S → Bool) (f : S → S) (g : S → ℕ) where
  pub runs-sum-done : (m : ℕ) (s : S) → more s ≡ false → runs_sum more f g m s ≡ 0
  unfolding runs_sum
  runs-sum-done zero s e = refl
  runs-sum-done (suc m) s e = rw e

  pub runs-sum-more : (m : ℕ) (s : S) → more s ≡ true → runs_sum more f g (suc m) s ≡ g s + runs_sum more f g m (f s)
  unfolding runs_sum
  runs-sum-more m s e = rw e

  -- a turn's number joins the sum so far, and the turns left still make up the whole
  pub runs-sum-on : (m sum turn whole : ℕ) (s r : S) → more s ≡ true → f s ≡ r → turn ≡ g s → sum + runs_sum more f g (suc m) s ≡ whole → sum + turn + runs_sum more f g m r ≡ whole
  runs-sum-on m sum turn whole s r e er et w = rw (← er) (omega (arith, w, runs-sum-more m s e, et))
