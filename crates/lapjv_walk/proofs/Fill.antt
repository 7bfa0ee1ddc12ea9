-- Local arrays of 64 as lists of n, and lists that a loop fills from the front. Assumes nothing.
use mathlib.Core.Path.{ap, sym, ◌∙◌, ◌≡◌}
use mathlib.Core.List.{◌++◌, List}
use Prim.Native.Nat.{ℕ, ◌≤◌}
use lib.ListN.{drop, get_or-replicate, length, length-replicate, replicate, take}
use lib.Seq.{ext_get_or, get_or-take, length-take-le}
use native.Mathlib.Omega.{arith}
use Rattle.lists.specs.Lists.{tab}
use Rattle.lists.proofs.Tab.{filled-length, get_or-tab, length-tab}

-- the first n of m that are all the same
pub take-fill : {A : Type 0} (a : A) (m n : ℕ) → n ≤ m → take n (replicate m a) ≡ tab (λ _. a) n
take-fill a m n h =
    let l : length (take n (replicate m a)) ≡ n = length-take-le n (replicate m a) (rw (length-replicate m a) h) in
    ext_get_or a (take n (replicate m a)) (tab (λ _. a) n) (l ∙ sym (length-tab (λ _. a) n))
    (λ i u. get_or-take n (replicate m a) i a (omega (arith, l)) ∙ get_or-replicate m i a a (omega (arith, l)) ∙ sym (get_or-tab (λ _. a) n a i (omega (arith, l))))

pub take_long : {A : Type 0} (a : A) (m n : ℕ) → n ≤ m → length (take n (replicate m a)) ≡ n
take_long a m n h = length-take-le n (replicate m a) (rw (length-replicate m a) h)

-- a list that is filled up to j stays as long as it was
pub filled-long {ℓ} : {A : Type ℓ} (f : ℕ → A) (l₀ l : List A) (n j : ℕ) → l ≡ tab f j ++ drop j l₀ → length l₀ ≡ n → j ≤ n → length l ≡ n
filled-long f l₀ l n j e h b = ap length e ∙ filled-length f l₀ j (omega arith) ∙ h
