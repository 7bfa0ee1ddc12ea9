-- Document 01, item 3: `associate` on objects and on what it sees of the tracks, each given by its index. Definitions only.
use Rattle.std.specs.Prelude.{List, [], ◌∷◌, ℕ, ◌+◌, ◌*◌, ℤ, Float, get_or}
use Rattle.std.specs.Float.{binary32, nan}
use Rattle.std.specs.Float.Ieee.{add}
use Rattle.object.specs.declared.Corners.{Corners}
use Rattle.object.specs.declared.Detection.{Detection}
use Rattle.object.specs.Object.{corners_of}
use Rattle.pair.specs.Overlap.{overlap_of}
use Rattle.pair.specs.Angle.{Step, step_to, angle_of, cosine_of, mask_of, term_of}
use Rattle.matching.specs.Matching.{Matrix, matched, later_round}

-- the overlaps of objects and boxes
abbrev pub overlaps : (ℕ → Detection) → (ℕ → Corners) → Matrix
overlaps det box i j = overlap_of (corners_of (det i)) (box j)

-- the angle between a track's direction and the step from its previous box to the object
unfoldable pub angle_term : Float → Detection → Step → Detection → Float
angle_term inertia d v p = term_of (mask_of p.score) (angle_of (cosine_of v (step_to (corners_of d) (corners_of p)))) inertia d.score

-- overlap plus angle term
unfoldable pub combined : Float → (ℕ → Detection) → (ℕ → Corners) → (ℕ → Step) → (ℕ → Detection) → Matrix
combined inertia det box direction previous i j = add binary32 (overlaps det box i j) (angle_term inertia (det i) (direction j) (previous j))

-- the first round: predicted boxes, directions (0, 0 if unknown) and previous boxes (-1 five times if there is none)
unfoldable pub associate : Float → Float → ℕ → ℕ → (ℕ → Detection) → (ℕ → Corners) → (ℕ → Step) → (ℕ → Detection) → List ℤ
associate thr inertia nd nt det box direction previous = matched nd nt thr (overlaps det box) (combined inertia det box direction previous)

-- a later round, on predicted boxes or on last boxes
unfoldable pub reassociate : Float → ℕ → ℕ → (ℕ → Detection) → (ℕ → Corners) → List ℤ
reassociate thr nd nt det box = later_round nd nt thr (overlaps det box)

-- ---- how the lent slices hold them, entry after entry

-- four corners and a score
abbrev pub det_at : List Float → ℕ → Detection
det_at cells i = record {
  x1 = get_or cells (i * 5) nan;
  y1 = get_or cells (i * 5 + 1) nan;
  x2 = get_or cells (i * 5 + 2) nan;
  y2 = get_or cells (i * 5 + 3) nan;
  score = get_or cells (i * 5 + 4) nan;
}

-- four corners
abbrev pub corners_at : List Float → ℕ → Corners
corners_at cells j = record { x1 = get_or cells (j * 4) nan; y1 = get_or cells (j * 4 + 1) nan; x2 = get_or cells (j * 4 + 2) nan; y2 = get_or cells (j * 4 + 3) nan }

-- as they are put there
abbrev pub four_of : Corners → List Float
four_of b = b.x1 ∷ b.y1 ∷ b.x2 ∷ b.y2 ∷ []

-- dy and dx
abbrev pub step_at : List Float → ℕ → Step
step_at cells j = record { dy = get_or cells (j * 2) nan; dx = get_or cells (j * 2 + 1) nan }
