-- A round from its steps: matrices read back from their cells, marks padded to 64, pairs dropped. Assumes nothing.
use mathlib.Core.Path.{◌≡◌, refl, sym, ap, subst, ◌∙◌}
use mathlib.Core.Bool.{Bool, true, false, not}
use mathlib.Core.List.{List, ◌∷◌, ◌++◌}
use Prim.Native.Nat.{ℕ, zero, suc, ◌+◌, ◌-◌, ◌≤◌}
use native.Mathlib.Omega.{arith}
use lib.IntN.{ℤ, pos}
use lib.Ieee.{Float, binary32, add, lt, le}
use lib.ListN.{take, replicate, replicate-append-replicate, get_or-append}
use lib.Seq.{take_at}
use Rattle.object.specs.declared.Corners.{Corners}
use Rattle.object.specs.declared.Detection.{Detection}
use Rattle.lists.specs.Lists.{pick, tab}
use Rattle.lapjv_walk.specs.Marks.{free, mark_at}
use Rattle.lapjv_walk.proofs.Fill.{take-fill}
use Rattle.pair.specs.Angle.{Step}
use Rattle.matching.specs.Matching.{Matrix, above_of, shortcut, passing, assigned, kept_where, match_or_lapjv, matched, rematched, some_above, later_round}
use Rattle.matching.specs.Associate.{overlaps, angle_term, combined, associate, reassociate}
use Rattle.matching.specs.Cells.{overlap_cells, entry_at}
use Rattle.matching.specs.Paired.{Below, Paired}
use Rattle.matching.specs.Split.{Round}
use Rattle.assoc.proofs.Matching.{kept-paired, assigned-paired, match-paired, associate-fair, reassociate-fair}
use Rattle.assoc.proofs.Inside.{Same, entry-cells, combined-cells, shortcut-same, some_above-same, passing-same, assigned-same, kept_same}
use Rattle.assoc.proofs.Split.{split-of}

-- ---- marks padded to 64

same-all : (n : ℕ) → tab (λ _. free) n ≡ replicate n free
same-all n = sym (take-fill free n n (omega arith)) ∙ take-all-same n
  where
    take-all-same : (n : ℕ) → take n (replicate n free) ≡ replicate n free
    take-all-same zero = refl
    take-all-same (suc n) = ap (λ (l : List ℤ). free ∷ l) (take-all-same n)

pub none-marked : (nd : ℕ) → nd ≤ 64 → replicate 64 free ≡ tab (λ _. free) nd ++ replicate (64 - nd) free
none-marked nd h =
    let e : 64 ≡ nd + (64 - nd) = omega arith in
    ap (λ (k : ℕ). replicate k free) e ∙ (sym (replicate-append-replicate nd (64 - nd) free) ∙ ap (λ (l : List ℤ). l ++ replicate (64 - nd) free) (sym (same-all nd)))

pub below-padded : (nd nt : ℕ) (marks at : List ℤ) → Paired nd nt marks → at ≡ marks ++ replicate (64 - nd) free → Below nd nt at
below-padded nd nt marks at p q i j h e = p.below i j h (sym (ap (λ (l : List ℤ). mark_at l i) q ∙ get_or-append marks (replicate (64 - nd) free) (pos 0) i (omega (arith, p.len))) ∙ e)

take-padded : (nd nt : ℕ) (marks at : List ℤ) → Paired nd nt marks → at ≡ marks ++ replicate (64 - nd) free → take nd at ≡ marks
take-padded nd nt marks at p q = ap (take nd) q ∙ take_at marks (replicate (64 - nd) free) nd p.len

-- ---- matrices that agree inside

match-same : (nd nt : ℕ) (thr : Float) (iou iou' cost cost' : Matrix) → Same nd nt iou iou' → Same nd nt cost cost' → match_or_lapjv nd nt thr iou cost ≡ match_or_lapjv nd nt thr iou' cost'
unfolding match_or_lapjv
match-same nd zero thr iou iou' cost cost' s r = refl
match-same nd (suc n) thr iou iou' cost cost' s r =
    let t : Bool = shortcut nd (suc n) (above_of thr iou') in
    ap (λ (b : Bool). pick b (tab (λ i. passing (above_of thr iou i) (suc n)) nd) (assigned nd (suc n) cost)) (shortcut-same nd (suc n) iou iou' s thr)
    ∙ (ap (λ (l : List ℤ). pick t l (assigned nd (suc n) cost)) (passing-same nd (suc n) iou iou' s thr) ∙ ap (λ (l : List ℤ). pick t (tab (λ i. passing (above_of thr iou' i) (suc n)) nd) l) (assigned-same nd (suc n) cost cost' r))

read_back : (nd nt : ℕ) (m : Matrix) (cells rest : List Float) → cells ≡ overlap_cells nd nt m ++ rest → Same nd nt (entry_at nt cells) m
read_back nd nt m cells rest e = subst (λ (l : List Float). Same nd nt (entry_at nt l) m) (sym e) (entry-cells nd nt m rest)

-- ---- the assignment on a matrix read back from its cells

pub assigned-cells : (nd nt : ℕ) (m : Matrix) (cells rest : List Float) → cells ≡ overlap_cells nd nt m ++ rest → assigned nd nt (entry_at nt cells) ≡ assigned nd nt m
assigned-cells nd nt m cells rest e = assigned-same nd nt (entry_at nt cells) m (read_back nd nt m cells rest e)

-- ---- the shortcut, or the assignment

module _ (nd nt : ℕ) (thr : Float) (iou cost : Matrix) (at : List ℤ) where
  pub match_none : nt ≡ 0 → nd ≤ 64 → at ≡ replicate 64 free → at ≡ match_or_lapjv nd nt thr iou cost ++ replicate (64 - nd) free
  unfolding match_or_lapjv
  match_none z h e = rw z (e ∙ none-marked nd h)

  pub match_by : (b t : Bool) → (nt ≡ 0 → ⊥) → t ≡ shortcut nd nt (above_of thr iou) → t ≡ b → at ≡ pick b (tab (λ i. passing (above_of thr iou i) nt) nd) (assigned nd nt cost) ++ replicate (64 - nd) free
      → at ≡ match_or_lapjv nd nt thr iou cost ++ replicate (64 - nd) free
  unfolding match_or_lapjv
  match_by b t z d e k = k ∙ ap (λ (l : List ℤ). l ++ replicate (64 - nd) free) (go nt z (sym d ∙ e))
    where
      go : (n : ℕ) → (n ≡ 0 → ⊥) → shortcut nd n (above_of thr iou) ≡ b → pick b (tab (λ i. passing (above_of thr iou i) n) nd) (assigned nd n cost) ≡ match_or_lapjv nd n thr iou cost
      go zero z e = absurd (z refl)
      go (suc n) z e = sym (ap (λ (t : Bool). pick t (tab (λ i. passing (above_of thr iou i) (suc n)) nd) (assigned nd (suc n) cost)) e)

-- ---- the first round

module _ (thr inertia : Float) (nd nt : ℕ) (det : ℕ → Detection) (box : ℕ → Corners) (direction : ℕ → Step) (previous : ℕ → Detection) where
  abbrev pub with_angle : Matrix → Matrix
  with_angle iou i j = add binary32 (iou i j) (angle_term inertia (det i) (direction j) (previous j))

  associate-paired : Paired nd nt (associate thr inertia nd nt det box direction previous)
  unfolding associate matched
  associate-paired = kept-paired nd nt (λ o. not (lt o thr)) (overlaps det box) (match_or_lapjv nd nt thr (overlaps det box) (combined inertia det box direction previous)) (match-paired nd nt thr (overlaps det box) (combined inertia det box direction previous))

  kept-is : (iou : Matrix) (marks : List ℤ) → Same nd nt iou (overlaps det box) → Same nd nt (with_angle iou) (combined inertia det box direction previous) → marks ≡ match_or_lapjv nd nt thr iou (with_angle iou) → kept_where nd (λ o. not (lt o thr)) iou marks ≡ associate thr inertia nd nt det box direction previous
  unfolding associate matched
  kept-is iou marks s r e =
      let all : Matrix = combined inertia det box direction previous in
      let f : marks ≡ match_or_lapjv nd nt thr (overlaps det box) all = e ∙ match-same nd nt thr iou (overlaps det box) (with_angle iou) all s r in
      ap (kept_where nd (λ o. not (lt o thr)) iou) f
      ∙ kept_same nd nt iou (overlaps det box) s (λ o. not (lt o thr)) (match_or_lapjv nd nt thr (overlaps det box) all) (match-paired nd nt thr (overlaps det box) all)

  pub associated : (cells rest : List Float) (marks at : List ℤ) → cells ≡ overlap_cells nd nt (overlaps det box) ++ rest
      → marks ≡ match_or_lapjv nd nt thr (entry_at nt cells) (with_angle (entry_at nt cells)) ++ replicate (64 - nd) free
      → at ≡ kept_where nd (λ o. not (lt o thr)) (entry_at nt cells) (take nd marks) ++ replicate (64 - nd) free
      → Round nd nt thr (overlaps det box) (associate thr inertia nd nt det box direction previous) at
  associated cells rest marks at c m k =
      let r : Same nd nt (with_angle (entry_at nt cells)) (combined inertia det box direction previous) = subst (λ (l : List Float). Same nd nt (with_angle (entry_at nt l)) (combined inertia det box direction previous)) (sym c) (combined-cells inertia nd nt det box direction previous rest) in
      let t : take nd marks ≡ match_or_lapjv nd nt thr (entry_at nt cells) (with_angle (entry_at nt cells)) = take-padded nd nt (match_or_lapjv nd nt thr (entry_at nt cells) (with_angle (entry_at nt cells))) marks (match-paired nd nt thr (entry_at nt cells) (with_angle (entry_at nt cells))) m in
      record {
        is = k ∙ ap (λ (l : List ℤ). l ++ replicate (64 - nd) free) (kept-is (entry_at nt cells) (take nd marks) (read_back nd nt (overlaps det box) cells rest c) r t);
        fair = associate-fair thr inertia nd nt det box direction previous;
        split = split-of nd nt (associate thr inertia nd nt det box direction previous) associate-paired;
      }

-- ---- a later round

module _ (thr : Float) (nd nt : ℕ) (det : ℕ → Detection) (box : ℕ → Corners) where
  later : (marks at : List ℤ) → marks ≡ reassociate thr nd nt det box → at ≡ marks ++ replicate (64 - nd) free → Round nd nt thr (overlaps det box) (reassociate thr nd nt det box) at
  later marks at e k = record {
    is = k ∙ ap (λ (l : List ℤ). l ++ replicate (64 - nd) free) e;
    fair = λ _. reassociate-fair thr nd nt det box;
    split = split-of nd nt (reassociate thr nd nt det box) (reassociate-fair thr nd nt det box).paired;
  }

  -- no overlap is above the threshold
  pub not-started : (cells rest : List Float) (at : List ℤ) (t : Bool) → nd ≤ 64 → cells ≡ overlap_cells nd nt (overlaps det box) ++ rest → t ≡ some_above nd nt thr (entry_at nt cells) → t ≡ false → at ≡ replicate 64 free
      → Round nd nt thr (overlaps det box) (reassociate thr nd nt det box) at
  unfolding reassociate later_round
  not-started cells rest at t h c d f k =
      let g : some_above nd nt thr (overlaps det box) ≡ false = sym (some_above-same nd nt (entry_at nt cells) (overlaps det box) (read_back nd nt (overlaps det box) cells rest c) thr) ∙ (sym d ∙ f) in
      later (tab (λ _. free) nd) at (sym (ap (λ (b : Bool). pick b (rematched nd nt thr (overlaps det box)) (tab (λ _. free) nd)) g)) (k ∙ none-marked nd h)

  pub started : (cells rest : List Float) (marks at : List ℤ) (t : Bool) → cells ≡ overlap_cells nd nt (overlaps det box) ++ rest → t ≡ some_above nd nt thr (entry_at nt cells) → t ≡ true
      → marks ≡ assigned nd nt (entry_at nt cells) ++ replicate (64 - nd) free
      → at ≡ kept_where nd (λ o. le thr o) (entry_at nt cells) (take nd marks) ++ replicate (64 - nd) free
      → Round nd nt thr (overlaps det box) (reassociate thr nd nt det box) at
  unfolding reassociate later_round rematched
  started cells rest marks at b c d f m k =
      let iou : Matrix = overlaps det box in
      let s : Same nd nt (entry_at nt cells) iou = read_back nd nt iou cells rest c in
      let g : some_above nd nt thr iou ≡ true = sym (some_above-same nd nt (entry_at nt cells) iou s thr) ∙ (sym d ∙ f) in
      let t : take nd marks ≡ assigned nd nt iou = take-padded nd nt (assigned nd nt (entry_at nt cells)) marks (assigned-paired nd nt (entry_at nt cells)) m ∙ assigned-same nd nt (entry_at nt cells) iou s in
      let e : kept_where nd (λ o. le thr o) (entry_at nt cells) (take nd marks) ≡ kept_where nd (λ o. le thr o) iou (assigned nd nt iou) = ap (kept_where nd (λ o. le thr o) (entry_at nt cells)) t ∙ kept_same nd nt (entry_at nt cells) iou s (λ o. le thr o) (assigned nd nt iou) (assigned-paired nd nt iou) in
      later (kept_where nd (λ o. le thr o) (entry_at nt cells) (take nd marks)) at (e ∙ sym (ap (λ (b : Bool). pick b (rematched nd nt thr iou) (tab (λ _. free) nd)) g)) k
