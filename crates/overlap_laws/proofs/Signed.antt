-- Finite values by their sign and their size in units of 1 / l: what a sum, a difference and a comparison make of them. Assumes nothing.
use mathlib.Core.Path.{◌≡◌, sym, ap, ◌∙◌, subst}
use Prim.Native.Nat.{ℕ, zero, suc, ◌+◌, ◌-◌, ◌*◌, ◌/◌, ◌%◌, ◌^◌, ◌≤◌, ◌<◌, compare}
use native.Mathlib.Nat.{le_of_eq, lt_of_lt_of_le, lt_of_le_of_lt, lt_of_not-le, not-le_of_lt, lt_irrefl, mul-lt-mul_of_pos_right, lt_of_mul-lt-mul_right, mul_comm, mul_assoc, mul_right_comm, mul-pos, add-mul, mul-sub, zero-mul, le_of_suc-le-suc}
use native.Mathlib.Omega.{arith}
use mathlib.Core.Bool.{Bool, true, false, not, cond, ◌&&◌, beq}
use lib.Dec.{T, ltb, ltb→lt, nltb→le}
use lib.Pow.{pow_pos}
use borrow.Author.Tests.{lt-ltb, le-ltb, ltb-false}
use lib.Ieee.{Float, nan, inf, fin, Format, prec, emax, low, up, down, size, nearest, below, round, units, odd, sum, add, sub, neg, lt}
use lib.Ieee.Bits.{is_false}
use lib.Ieee.Exact.{HasValue, round_exact}
use lib.Ieee.Fits.{down_pos, round_is}
use lib.Ieee.Positive.{positive, value_pos}
use lib.Ieee.Scale.{round_same}

-- ---- the order of signed sizes, over natural numbers

-- of a value with the sign s and the size a, the part above zero and the part below
abbrev pub pos-part : Bool → ℕ → ℕ
pos-part s a = cond s 0 a

abbrev pub neg-part : Bool → ℕ → ℕ
neg-part s a = cond s a 0

abbrev pub Less : Bool → ℕ → Bool → ℕ → Type 0
Less s a t b = pos-part s a + neg-part t b < pos-part t b + neg-part s a

abbrev pub AtMost : Bool → ℕ → Bool → ℕ → Type 0
AtMost s a t b = pos-part s a + neg-part t b ≤ pos-part t b + neg-part s a

-- how far the first lies above the second
abbrev pub ahead : Bool → ℕ → Bool → ℕ → ℕ
ahead s a t b = pos-part s a + neg-part t b - (pos-part t b + neg-part s a)

-- ---- two numbers over c are those over l: a / c is A / l, b / c is B / l

lt-scale : (a b c A B l : ℕ) → 0 < c → 0 < l → a * l ≡ A * c → b * l ≡ B * c → a < b → A < B
lt-scale a b c A B l C L p q h = lt_of_mul-lt-mul_right c (lt_of_le_of_lt (le_of_eq (sym p)) (lt_of_lt_of_le (mul-lt-mul_of_pos_right h L) (le_of_eq q)))

ltb-scale : (a b c A B l : ℕ) → 0 < c → 0 < l → a * l ≡ A * c → b * l ≡ B * c → ltb a b ≡ ltb A B
ltb-scale a b c A B l C L p q = go (ltb a b) (ltb→lt a b) (nltb→le a b)
  where
    go : (t : Bool) → (T t → a < b) → (T (not t) → b ≤ a) → t ≡ ltb A B
    go true x y = sym (lt-ltb A B (lt-scale a b c A B l C L p q (x tt)))
    go false x y = sym (le-ltb A B (le_of_suc-le-suc (lt_of_not-le (λ (g : suc A ≤ B). not-le_of_lt (lt-scale A B l a b c L C (sym p) (sym q) g) (y tt)))))

sum-scale : (a b c A B l : ℕ) → a * l ≡ A * c → b * l ≡ B * c → (a + b) * l ≡ (A + B) * c
sum-scale a b c A B l p q = add-mul a b l ∙ ap (λ (z : ℕ). z + b * l) p ∙ ap (λ (z : ℕ). A * c + z) q ∙ sym (add-mul A B c)

sub-scale : (a b c A B l : ℕ) → a * l ≡ A * c → b * l ≡ B * c → (b - a) * l ≡ (B - A) * c
sub-scale a b c A B l p q = mul_comm (b - a) l ∙ mul-sub l b a ∙ ap (λ (z : ℕ). z - l * a) (mul_comm l b ∙ q ∙ mul_comm B c) ∙ ap (λ (z : ℕ). c * B - z) (mul_comm l a ∙ p ∙ mul_comm A c) ∙ sym (mul-sub c B A) ∙ mul_comm c (B - A)

sum_same : (f : Format) (s : Bool) (a : ℕ) (t : Bool) (b c A B l : ℕ) → 0 < c → 0 < l → a * l ≡ A * c → b * l ≡ B * c → sum f s a t b c ≡ sum f s A t B l
unfolding sum
sum_same f s a t b c A B l C L p q = pick (beq s t)
  where
    same : round f s (a + b) c ≡ round f s (A + B) l
    same = round_same f s (a + b) c (A + B) l C L (sum-scale a b c A B l p q)

    differ : cond (ltb a b) (round f t (b - a) c) (round f (s && ltb b a) (a - b) c) ≡ cond (ltb A B) (round f t (B - A) l) (round f (s && ltb B A) (A - B) l)
    differ =
        ap (λ (z : Bool). cond z (round f t (b - a) c) (round f (s && ltb b a) (a - b) c)) (ltb-scale a b c A B l C L p q)
        ∙ ap (λ (z : Float). cond (ltb A B) z (round f (s && ltb b a) (a - b) c)) (round_same f t (b - a) c (B - A) l C L (sub-scale a b c A B l p q))
        ∙ ap (λ (z : Bool). cond (ltb A B) (round f t (B - A) l) (round f (s && z) (a - b) c)) (ltb-scale b a c B A l C L q p)
        ∙ ap (λ (z : Float). cond (ltb A B) (round f t (B - A) l) z) (round_same f (s && ltb B A) (a - b) c (A - B) l C L (sub-scale b a c B A l q p))

    pick : (z : Bool) → cond z (round f s (a + b) c) (cond (ltb a b) (round f t (b - a) c) (round f (s && ltb b a) (a - b) c)) ≡ cond z (round f s (A + B) l) (cond (ltb A B) (round f t (B - A) l) (round f (s && ltb B A) (A - B) l))
    pick true = same
    pick false = differ

-- x / e is a / l: both operands of an operation go over e * d
over_first : (x e d a l : ℕ) → x * l ≡ a * e → x * d * l ≡ a * (e * d)
over_first x e d a l h = mul_right_comm x d l ∙ ap (λ (z : ℕ). z * d) h ∙ mul_assoc a e d

over-second : (x e d a l : ℕ) → x * l ≡ a * d → x * e * l ≡ a * (e * d)
over-second x e d a l h = mul_right_comm x e l ∙ ap (λ (z : ℕ). z * e) h ∙ mul_assoc a d e ∙ ap (λ (z : ℕ). a * z) (mul_comm d e)

-- ---- a sum and a difference
pub add-units : (f : Format) (x y : Float) (s t : Bool) (a b l : ℕ) → 0 < l → HasValue x s a l → HasValue y t b l → add f x y ≡ sum f s a t b l
unfolding add
add-units f nan y s t a b l L v w = absurd v
add-units f (inf u) y s t a b l L v w = absurd v
add-units f (fin u m e) nan s t a b l L v w = absurd w
add-units f (fin u m e) (inf r) s t a b l L v w = absurd w
add-units f (fin u m e) (fin r n d) s t a b l L v w =
    ap (λ (z : Bool). sum f z (m * up e * down d) r (n * up d * down e) (down e * down d)) v.0
    ∙ ap (λ (z : Bool). sum f s (m * up e * down d) z (n * up d * down e) (down e * down d)) w.0
    ∙ sum_same f s (m * up e * down d) t (n * up d * down e) (down e * down d) a b l (mul-pos (down_pos e) (down_pos d)) L (over_first (m * up e) (down e) (down d) a l v.1) (over-second (n * up d) (down e) (down d) b l w.1)

neg_value : (y : Float) (t : Bool) (b l : ℕ) → HasValue y t b l → HasValue (neg y) (not t) b l
unfolding neg
neg_value nan t b l v = v
neg_value (inf s) t b l v = v
neg_value (fin s m e) t b l v = (ap not v.0, v.1)

pub sub-units : (f : Format) (x y : Float) (s t : Bool) (a b l : ℕ) → 0 < l → HasValue x s a l → HasValue y t b l → sub f x y ≡ sum f s a (not t) b l
unfolding sub
sub-units f x y s t a b l L v w = add-units f x (neg y) s (not t) a b l L v (neg_value y t b l w)

-- where x is above y, x - y is how far, rounded
pub difference-above : (f : Format) (s t : Bool) (a b l : ℕ) → Less t b s a → sum f s a (not t) b l ≡ round f false (ahead s a t b) l
unfolding sum
difference-above f false false a b l h =
    ap (λ (z : Bool). cond z (round f true (b - a) l) (round f false (a - b) l)) (le-ltb a b (omega arith)) ∙ ap (λ (z : ℕ). round f false z l) (omega arith)
difference-above f false true a b l h = ap (λ (z : ℕ). round f false z l) (omega arith)
difference-above f true true a b l h =
    ap (λ (z : Bool). cond z (round f false (b - a) l) (round f (ltb b a) (a - b) l)) (lt-ltb a b (omega arith)) ∙ ap (λ (z : ℕ). round f false z l) (omega arith)
difference-above f true false a b l h = absurd (no a b h)
  where
    no : (a b : ℕ) → b + a < 0 → ⊥
    no a b h = omega arith

-- where it is not, x - y is no value above zero
negative-odd : (d q k l : ℕ) → T (positive (odd d true q k l)) → ⊥
unfolding odd
negative-odd d zero k l h = h
negative-odd d (suc q) k l h = h

negative-units : (f : Format) (q k : ℕ) → T (positive (units f true q k)) → ⊥
unfolding units
negative-units f q k h = go (ltb (q * 2 ^ k) (2 ^ (low f + suc (emax f)))) h
  where
    go : (b : Bool) → T (positive (cond b (odd (suc (prec f)) true q k (low f)) (inf true))) → ⊥
    go true h = negative-odd (suc (prec f)) q k (low f) h
    go false h = h

pub negative-round : (f : Format) (a c : ℕ) → T (positive (round f true a c)) → ⊥
negative-round f a c h =
    let k = size (a * 2 ^ low f / c) - prec f in
    let u = c * 2 ^ k in
    negative-units f (nearest (a * 2 ^ low f / u) (compare (a * 2 ^ low f % u * 2) u)) k (subst (λ (x : Float). T (positive x)) (round_is f true a c) h)

round-zero : (f : Format) (s : Bool) (c : ℕ) → 0 < c → HasValue (round f s 0 c) s 0 c
round-zero f s c C = round_exact f s 0 c 0 0 C (pow_pos (prec f)) (pow_pos (low f + suc (emax f))) (zero-mul (2 ^ low f) ∙ sym (zero-mul c))

pub zero-round : (f : Format) (a c : ℕ) → 0 < c → a ≡ 0 → T (positive (round f false a c)) → ⊥
zero-round f a c C e h = lt_irrefl 0 (value_pos (round f false 0 c) 0 c (subst (λ (z : ℕ). T (positive (round f false z c))) e h) C (round-zero f false c C))

pub difference-not-above : (f : Format) (s t : Bool) (a b l : ℕ) → 0 < l → AtMost s a t b → T (positive (sum f s a (not t) b l)) → ⊥
unfolding sum
difference-not-above f false false a b l L h p = go (ltb a b) (nltb→le a b) p
  where
    go : (z : Bool) → (T (not z) → b ≤ a) → T (positive (cond z (round f true (b - a) l) (round f false (a - b) l))) → ⊥
    go true y g = negative-round f (b - a) l g
    go false y g = let k : b ≤ a = y tt in zero-round f (a - b) l L (omega arith) g
difference-not-above f false true a b l L h p = zero-round f (a + b) l L (omega arith) p
difference-not-above f true true a b l L h p = go (ltb a b) (ltb→lt a b) (ltb b a) (nltb→le b a) p
  where
    no : (a b : ℕ) → a < b → 0 + b ≤ 0 + a → ⊥
    no a b k h = omega arith

    go : (z : Bool) → (T z → a < b) → (u : Bool) → (T (not u) → a ≤ b) → T (positive (cond z (round f false (b - a) l) (round f u (a - b) l))) → ⊥
    go true x u y g = no a b (x tt) h
    go false x true y g = negative-round f (a - b) l g
    go false x false y g = let k : a ≤ b = y tt in zero-round f (a - b) l L (omega arith) g
difference-not-above f true false a b l L h p = negative-round f (a + b) l p

-- ---- a comparison
below-yes : (s t : Bool) (x y c a b l : ℕ) → 0 < c → 0 < l → x * l ≡ a * c → y * l ≡ b * c → T (below s x t y) → Less s a t b
below-yes false false x y c a b l C L p q h = let g = lt-scale x y c a b l C L p q (ltb→lt x y h) in omega arith
below-yes false true x y c a b l C L p q h = absurd h
below-yes true false x y c a b l C L p q h = let g : 0 < a + b = lt-scale 0 (x + y) c 0 (a + b) l C L (zero-mul l ∙ sym (zero-mul c)) (sum-scale x y c a b l p q) (ltb→lt 0 (x + y) h) in omega arith
below-yes true true x y c a b l C L p q h = let g = lt-scale y x c b a l C L q p (ltb→lt y x h) in omega arith

below-no : (s t : Bool) (x y c a b l : ℕ) → 0 < c → 0 < l → x * l ≡ a * c → y * l ≡ b * c → T (not (below s x t y)) → AtMost t b s a
below-no false false x y c a b l C L p q h = let g : b ≤ a = ltb-false a b (sym (ltb-scale x y c a b l C L p q) ∙ is_false (ltb x y) h) in omega arith
below-no false true x y c a b l C L p q h = omega arith
below-no true false x y c a b l C L p q h =
    let g : a + b ≤ 0 = ltb-false 0 (a + b) (sym (ltb-scale 0 (x + y) c 0 (a + b) l C L (zero-mul l ∙ sym (zero-mul c)) (sum-scale x y c a b l p q)) ∙ is_false (ltb 0 (x + y)) h) in
    omega arith
below-no true true x y c a b l C L p q h = let g : a ≤ b = ltb-false b a (sym (ltb-scale y x c b a l C L q p) ∙ is_false (ltb y x) h) in omega arith

pub lt_yes : (x y : Float) (s t : Bool) (a b l : ℕ) → 0 < l → HasValue x s a l → HasValue y t b l → T (lt x y) → Less s a t b
unfolding lt
lt_yes nan y s t a b l L v w h = absurd v
lt_yes (inf u) y s t a b l L v w h = absurd v
lt_yes (fin u m e) nan s t a b l L v w h = absurd w
lt_yes (fin u m e) (inf r) s t a b l L v w h = absurd w
lt_yes (fin u m e) (fin r n d) s t a b l L v w h =
    below-yes s t (m * up e * down d) (n * up d * down e) (down e * down d) a b l (mul-pos (down_pos e) (down_pos d)) L (over_first (m * up e) (down e) (down d) a l v.1) (over-second (n * up d) (down e) (down d) b l w.1)
    (subst (λ (z : Bool). T (below s (m * up e * down d) z (n * up d * down e))) w.0 (subst (λ (z : Bool). T (below z (m * up e * down d) r (n * up d * down e))) v.0 h))

pub lt_no : (x y : Float) (s t : Bool) (a b l : ℕ) → 0 < l → HasValue x s a l → HasValue y t b l → T (not (lt x y)) → AtMost t b s a
unfolding lt
lt_no nan y s t a b l L v w h = absurd v
lt_no (inf u) y s t a b l L v w h = absurd v
lt_no (fin u m e) nan s t a b l L v w h = absurd w
lt_no (fin u m e) (inf r) s t a b l L v w h = absurd w
lt_no (fin u m e) (fin r n d) s t a b l L v w h =
    below-no s t (m * up e * down d) (n * up d * down e) (down e * down d) a b l (mul-pos (down_pos e) (down_pos d)) L (over_first (m * up e) (down e) (down d) a l v.1) (over-second (n * up d) (down e) (down d) b l w.1)
    (subst (λ (z : Bool). T (not (below s (m * up e * down d) z (n * up d * down e)))) w.0 (subst (λ (z : Bool). T (not (below z (m * up e * down d) r (n * up d * down e)))) v.0 h))
