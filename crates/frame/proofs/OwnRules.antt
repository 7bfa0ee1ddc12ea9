-- A track that obeys its own rules obeys them after a frame: predicted, then given a box or a miss. So does a newborn. Assumes nothing.
use Rattle.std.specs.Option.{is_some}
use Rattle.std.specs.Prelude.{Option, Some, None}
use mathlib.Core.Path.{◌≡◌, refl, sym}
use mathlib.Core.Bool.{Bool, true, false, not, ◌&&◌, beq}
use Prim.Native.Nat.{ℕ, zero, suc, ◌+◌, ◌≤◌, ◌<◌}
use native.Mathlib.Omega.{arith}
use lib.Dec.{leb, ltb, eqb}
use borrow.Author.Tests.{leb-true, le-leb, lt-ltb, eqb-false, ne_eqb}
use Rattle.lapjv_walk.proofs.Cases.{never, and_left, and_right}
use Rattle.object.specs.declared.Detection.{Detection}
use Rattle.strack.specs.declared.Track.{Track}
use Rattle.strack.specs.Track.{list_entry, birth_of, streak_after, track_predict, track_box, track_miss}
use Rattle.strack.specs.Rules.{same_entry, own_rules}
use Rattle.strack.proofs.Rules.{same-entry-self}
use Rattle.frame.specs.Rounds.{Grant}
use Rattle.frame.specs.Frame.{give}

-- ---- the rules, each by its name

pub record Own (t : Track) : Type 0 where
  pub streak : t.streak ≤ t.age
  pub since : t.since ≤ t.age
  pub listed : is_some t.list ≡ is_some t.last
  pub entry : same_entry (list_entry t.last) t.list ≡ true
  pub later : is_some t.last ≡ true → t.since < t.age
  pub frozen : t.frozen ≡ (is_some t.last && ltb 0 t.since)

beq-true : (a b : Bool) → beq a b ≡ true → a ≡ b
beq-true true true e = refl
beq-true true false e = never e
beq-true false true e = never e
beq-true false false e = refl

pub own : (t : Track) → own_rules t ≡ true → Own t
unfolding own_rules
own t h =
    let a = leb t.streak t.age in
    let b = leb t.since t.age in
    let c = beq (is_some t.list) (is_some t.last) in
    let d = same_entry (list_entry t.last) t.list in
    let e = not (eqb t.since t.age && is_some t.last) in
    let f = beq t.frozen (is_some t.last && ltb 0 t.since) in
    let abcde = and_left (a && b && c && d && e) f h in
    let abcd = and_left (a && b && c && d) e abcde in
    let abc = and_left (a && b && c) d abcd in
    let ab = and_left (a && b) c abc in
    let within : t.since ≤ t.age = leb-true t.since t.age (and_right a b ab) in
    record {
      streak = leb-true t.streak t.age (and_left a b ab);
      since = within;
      listed = beq-true (is_some t.list) (is_some t.last) (and_right (a && b) c abc);
      entry = and_right (a && b && c) d abcd;
      later = λ seen. let u : t.since ≡ t.age → ⊥ = eqb-false t.since t.age (unequal (eqb t.since t.age) (is_some t.last) seen (and_right (a && b && c && d) e abcde)) in omega (arith, within, u);
      frozen = beq-true t.frozen (is_some t.last && ltb 0 t.since) (and_right (a && b && c && d && e) f h);
    }
  where
    unequal : (x y : Bool) → y ≡ true → not (x && y) ≡ true → x ≡ false
    unequal false y p q = refl
    unequal true true p q = never q
    unequal true false p q = never p

pub own-rules : (t : Track) → Own t → own_rules t ≡ true
unfolding own_rules
own-rules t o =
    rw (le-leb t.streak t.age o.streak, le-leb t.since t.age o.since, o.listed, o.entry, o.frozen)
    (go (is_some t.last) (eqb t.since t.age) (ltb 0 t.since) (λ seen. let l : t.since < t.age = o.later seen in ne_eqb t.since t.age (λ q. omega (arith, l, q))))
  where
    go : (s e b : Bool) → (s ≡ true → e ≡ false) → (beq s s && true && not (e && s) && beq (s && b) (s && b)) ≡ true
    go false false b h = refl
    go false true b h = refl
    go true false false h = refl
    go true false true h = refl
    go true true b h = never (sym (h refl))

-- ---- a frame of one track

pub own-born : (d : Detection) → Own (birth_of d)
unfolding birth_of
own-born d = record { streak = omega arith; since = omega arith; listed = refl; entry = refl; later = λ seen. never seen; frozen = refl }

module _ (u : Track) (o : Own u) where
  pub streak-after : streak_after u.since u.streak ≤ u.age
  streak-after = go u.since o.streak
    where
      go : (n : ℕ) → u.streak ≤ u.age → streak_after n u.streak ≤ u.age
      go zero h = h
      go (suc n) h = omega arith

  own-boxed : (dt : ℕ) (b : Detection) → Own (track_box dt b (track_predict u))
  unfolding track_box track_predict
  own-boxed dt b = record { streak = omega (arith, streak-after); since = omega arith; listed = refl; entry = same-entry-self (list_entry (Some b)); later = λ seen. omega arith; frozen = refl }

  own-missed : Own (track_miss (track_predict u))
  unfolding track_miss track_predict
  own-missed = record {
    streak = omega (arith, streak-after);
    since = omega (arith, o.since);
    listed = o.listed;
    entry = o.entry;
    later = λ seen. let l : u.since < u.age = o.later seen in omega (arith, l);
    frozen = go (is_some u.last) (ltb 0 (u.since + 1)) (lt-ltb 0 (u.since + 1) (omega arith));
  }
    where
      go : (s b : Bool) → b ≡ true → s ≡ (s && b)
      go true b e = sym e
      go false b e = refl

  pub own-given : (dt : ℕ) (g : Option Grant) → Own (give dt g (track_predict u))
  own-given dt None = own-missed
  own-given dt (Some g) = own-boxed dt g.obj.det

pub given-age : (dt : ℕ) (g : Option Grant) (u : Track) → (give dt g (track_predict u)).age ≡ u.age + 1
unfolding track_box track_miss track_predict
given-age dt None u = refl
given-age dt (Some g) u = refl
