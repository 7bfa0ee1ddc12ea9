-- Making a tracker in place: what stands in the lists, by how it came out. Assumes nothing.
use borrow.Author.Tests.{ne_eqb}
use mathlib.Core.Path.{◌≡◌, refl, sym, ap, subst, ◌∙◌}
use mathlib.Core.Bool.{Bool, true, false}
use Prim.Native.Nat.{ℕ}
use native.Mathlib.Omega.{arith}
use lib.Dec.{eqb}
use Rattle.std.specs.Prelude.{Result, Ok, Err}
use Rattle.lists.specs.Lists.{pick}
use Rattle.object.specs.Refusal.{number_of, told_of}
use Rattle.object.specs.declared.Refusal.{Refusal}
use Rattle.object.specs.declared.Refusal.TheVariants.{BadSetting}
use Rattle.frame.specs.declared.Settings.{Settings}
use Rattle.frame.specs.declared.Made.{Made}
use Rattle.frame.specs.Contract.{made_of, MadeBy}
use Rattle.image.specs.declared.TrackerImage.{TrackerImage}
use Rattle.image.specs.Image.{tagged, freeze_tracker}
use Rattle.making.specs.declared.SettingsImage.{SettingsImage}
use Rattle.making.specs.Making.{thaw_settings, settings_of, Fresh, fresh_of, fresh_with, begun}

-- a call answered r and left i' for i, where this was to be made
abbrev pub Begins : Fresh → ℕ → TrackerImage → TrackerImage → Type 0
Begins f r i i' = (r ≡ f.number) × (i' ≡ begun i f)

module _ (m : Made) (n : ℕ) (e : n ≡ told_of m.outcome) where
  pub made : (i i' : TrackerImage) → n ≡ 0 → i' ≡ freeze_tracker m.tracker → Begins (fresh_of m) n i i'
  unfolding fresh_of
  made i i' z p = (e, p ∙ ap (λ (k : ℕ). pick (eqb k 0) (freeze_tracker m.tracker) i) (sym z ∙ e))

  pub kept : (i : TrackerImage) → (n ≡ 0 → ⊥) → Begins (fresh_of m) n i i
  unfolding fresh_of
  kept i z = (e, sym (ap (λ (b : Bool). pick b (freeze_tracker m.tracker) i) (sym (ap (λ (k : ℕ). eqb k 0) e) ∙ ne_eqb n 0 z)))

pub begins-as : (f g : Fresh) (r : ℕ) (i i' : TrackerImage) → f ≡ g → Begins f r i i' → Begins g r i i'
begins-as f g r i i' e h = subst (λ (x : Fresh). Begins x r i i') e h

-- ---- all seven settings

-- settings that were taken, or not
taken : (s : SettingsImage) (q : Settings) → Ok q ≡ settings_of s → (tagged s.use_byte ≡ true) × (q ≡ thaw_settings s)
taken s q e = go (tagged s.use_byte) e
  where
    go : (b : Bool) → ◌≡◌ {A = Result Settings Refusal} (Ok q) (pick b (Ok (thaw_settings s)) (Err BadSetting)) → (b ≡ true) × (q ≡ thaw_settings s)
    go true h = (refl, cc)
    go false h = absurd (let z : ◌≡◌ {A = ℕ} 0 1 = cc in omega arith)

not_taken : (s : SettingsImage) (r : Refusal) → Err r ≡ settings_of s → (tagged s.use_byte ≡ false) × (r ≡ BadSetting)
not_taken s r e = go (tagged s.use_byte) e
  where
    go : (b : Bool) → ◌≡◌ {A = Result Settings Refusal} (Err r) (pick b (Ok (thaw_settings s)) (Err BadSetting)) → (b ≡ false) × (r ≡ BadSetting)
    go true h = absurd (let z : ◌≡◌ {A = ℕ} 0 1 = cc in omega arith)
    go false h = (refl, cc)

pub bad_tag : (s : SettingsImage) (r : Refusal) (n : ℕ) (i : TrackerImage) → Err r ≡ settings_of s → n ≡ number_of r → Begins (fresh_with s) n i i
unfolding fresh_with
bad_tag s r n i e k =
    let f : Fresh = fresh_of (made_of (thaw_settings s)) in
    let t = not_taken s r e in (
      k ∙ ap number_of t.1 ∙ sym (ap (λ (b : Bool). pick b f.number (number_of BadSetting)) t.0),
      sym (ap (λ (b : Bool). pick (eqb (pick b f.number (number_of BadSetting)) 0) f.image i) t.0),
    )

pub good_tag : (s : SettingsImage) (q : Settings) (m : Made) → Ok q ≡ settings_of s → MadeBy q m → fresh_of m ≡ fresh_with s
unfolding fresh_with
good_tag s q m e p =
    let t = taken s q e in
    let f : Fresh = fresh_of (made_of (thaw_settings s)) in
    ap fresh_of (p.made ∙ ap made_of t.1) ∙ sym (ap (λ (x : Bool). record { number = pick x f.number (number_of BadSetting); image = f.image }) t.0)
