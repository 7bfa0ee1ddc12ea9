-- A list that is known place by place, and so what `array::from_fn` and an array's `map` make. Assumes nothing.
use Prim.Native.Nat.{ℕ, suc, zero, ◌+◌, ◌<◌}
use native.Mathlib.Nat.{add-zero, zero-add, not-suc-le-zero, le_of_suc-le-suc}
use native.Mathlib.Omega.{arith}
use mathlib.Core.Path.{◌≡◌, ap, sym, subst, ◌∙◌}
use mathlib.Core.List.{List}
use lib.ListN.{length, get_or}
use lib.Seq.{ext_get_or}
use denote.Param.Members.{Mut, Called}
use Rattle.std.specs.Array.{IsFromFnResultFrom, IsFromFnResult, MapsFrom, IsMapOf}
use Rattle.lists.specs.Lists.{tab}
use Rattle.lists.proofs.Tab.{length-tab, get_or-tab}

-- a list of n entries that are f 0, f 1, ..
pub tab-each : {A : Type 0} (d : A) (f : ℕ → A) (l : List A) (n : ℕ) → length l ≡ n → ((j : ℕ) → j < n → get_or l j d ≡ f j) → l ≡ tab f n
tab-each d f l n e h = ext_get_or d l (tab f n) (e ∙ sym (length-tab f n)) (λ j k. let i : j < n = omega arith in h j i ∙ sym (get_or-tab f n d j i))

-- a function that stays as it is and gives v of each place
module _ {F B : Type 0} (g : Mut F (ℕ × Unit {0}) B) (f : F) (v : ℕ → B) (gives : (i : ℕ) (y : B) (q : F) → Called g f (i, tt) y q → (q ≡ f) × (y ≡ v i)) where
  entry-made : (ys : List B) (d : B) (n i j : ℕ) → j < n → IsFromFnResultFrom g f ys i n → get_or ys (i + j) d ≡ v (i + j)
  entry-made ys d zero i j h t = absurd (not-suc-le-zero h)
  entry-made ys d (suc n) i zero h t = rw add-zero (t.2.1 d ∙ (gives i t.1 t.0 t.3).1)
  entry-made ys d (suc n) i (suc j) h t =
      let e : i + 1 + j ≡ i + suc j = omega arith in
      let rest = subst (λ (q : F). IsFromFnResultFrom g q ys (i + 1) n) (gives i t.1 t.0 t.3).0 t.4 in
      subst (λ (k : ℕ). get_or ys k d ≡ v k) e (entry-made ys d n (i + 1) j (le_of_suc-le-suc h) rest)

  pub tab-made : (d : B) (ys : List B) (n : ℕ) → IsFromFnResult g f ys n → ys ≡ tab v n
  tab-made d ys n r = tab-each d v ys n r.long (λ j h. subst (λ (k : ℕ). get_or ys k d ≡ v k) (zero-add j) (entry-made ys d n 0 j h r.each))

-- a function that stays as it is and gives v of each element
module _ {F A B : Type 0} (g : Mut F (A × Unit {0}) B) (f : F) (v : A → B) (gives : (x : A) (y : B) (q : F) → Called g f (x, tt) y q → (q ≡ f) × (y ≡ v x)) where
  entry-mapped : (xs : List A) (ys : List B) (c : A) (d : B) (n i j : ℕ) → j < n → MapsFrom g f xs ys i n → get_or ys (i + j) d ≡ v (get_or xs (i + j) c)
  entry-mapped xs ys c d zero i j h t = absurd (not-suc-le-zero h)
  entry-mapped xs ys c d (suc n) i zero h t = rw add-zero (t.4.1 d ∙ ((gives t.1 t.2 t.0 t.5).1 ∙ sym (ap v (t.3.1 c))))
  entry-mapped xs ys c d (suc n) i (suc j) h t =
      let e : i + 1 + j ≡ i + suc j = omega arith in
      let rest = subst (λ (q : F). MapsFrom g q xs ys (i + 1) n) (gives t.1 t.2 t.0 t.5).0 t.6 in
      subst (λ (k : ℕ). get_or ys k d ≡ v (get_or xs k c)) e (entry-mapped xs ys c d n (i + 1) j (le_of_suc-le-suc h) rest)

  pub tab-mapped : (c : A) (d : B) (xs : List A) (ys : List B) (n : ℕ) → IsMapOf g f xs ys n → ys ≡ tab (λ j. v (get_or xs j c)) n
  tab-mapped c d xs ys n r = tab-each d (λ j. v (get_or xs j c)) ys n r.long (λ j h. subst (λ (k : ℕ). get_or ys k d ≡ v (get_or xs k c)) (zero-add j) (entry-mapped xs ys c d n 0 j h r.each))
