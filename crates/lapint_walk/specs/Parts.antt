-- Whole numbers in two parts, of which one is 0: z is up z less down z. What is linear over ℤ is linear over the parts, so that `omega` decides it. Definitions only.
use Rattle.std.specs.Prelude.{◌≡◌, ℕ, suc, ◌+◌, ◌≤◌, ◌<◌, ℤ, pos, negsuc}

abbrev pub up : ℤ → ℕ
up (pos n) = n
up (negsuc n) = 0

abbrev pub down : ℤ → ℕ
down (pos n) = 0
down (negsuc n) = suc n

-- a ≤ b
abbrev pub Le : ℤ → ℤ → Type 0
Le a b = up a + down b ≤ up b + down a

-- a < b
abbrev pub Lt : ℤ → ℤ → Type 0
Lt a b = up a + down b < up b + down a

-- a ≤ k
abbrev pub Top : ℕ → ℤ → Type 0
Top k a = up a ≤ k + down a

-- -k ≤ a
abbrev pub Low : ℕ → ℤ → Type 0
Low k a = down a ≤ k + up a

-- s is a + b
abbrev pub Plus : ℤ → ℤ → ℤ → Type 0
Plus a b s = up s + down a + down b ≡ down s + up a + up b

-- s is a - b
abbrev pub Minus : ℤ → ℤ → ℤ → Type 0
Minus a b s = up s + down a + up b ≡ down s + up a + down b

-- a is b
abbrev pub Equal : ℤ → ℤ → Type 0
Equal a b = up a + down b ≡ up b + down a

-- a - b ≤ c - d
abbrev pub LeMinus : ℤ → ℤ → ℤ → ℤ → Type 0
LeMinus a b c d = up a + down b + down c + up d ≤ down a + up b + up c + down d
