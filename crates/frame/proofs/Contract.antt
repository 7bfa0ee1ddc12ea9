-- The contracts of making and of a frame, whole, from the equations that a call shows. Assumes nothing.
use mathlib.Core.Path.{◌≡◌, refl, sym, ap, ◌∙◌}
use mathlib.Core.Bool.{Bool, true, false}
use mathlib.Core.List.{List, [], ◌∷◌, ◌++◌}
use Prim.Native.Nat.{ℕ, zero, suc, ◌+◌, ◌*◌, ◌<◌}
use native.Mathlib.Nat.{not-suc-le-zero, le_of_suc-le-suc}
use native.Mathlib.Omega.{arith}
use lib.Ieee.{Float, nan}
use lib.ListN.{length, get_or, drop}
use lib.Seq.{ext_get_or}
use Rattle.std.specs.Prelude.{Result, Ok, Err, ⊤}
use Rattle.std.specs.Result.{result_unwrap_or}
use Rattle.lists.specs.Lists.{pick, tab}
use Rattle.lists.proofs.Tab.{length-tab, get_or-tab}
use Rattle.object.specs.declared.Refusal.TheVariants.{BadSetting}
use Rattle.object.specs.declared.Refusal.{Refusal}
use Rattle.object.specs.Refusal.{number_of, told_of}
use Rattle.frame.specs.declared.Settings.{Settings}
use Rattle.frame.specs.declared.Tracker.{Tracker}
use Rattle.frame.specs.declared.Answer.{Answer}
use Rattle.frame.specs.declared.Made.{Made}
use Rattle.frame.specs.State.{in_range}
use Rattle.frame.specs.Frame.{Report, Reply, refused, reports, frame_of, box_cells, id_cells, boxes_after, ids_after}
use Rattle.frame.specs.Contract.{number_in, made_of, MadeBy, outcome_of, reports_in, report_at, call_of, Framed}
use Rattle.frame.proofs.Promises.{promised}

-- ---- making a tracker

pub made_by : (s : Settings) (r : Made) → r ≡ made_of s → MadeBy s r
unfolding made_of
made_by s r e = record { made = e; number = ap (λ (m : Made). told_of m.outcome) e ∙ go (in_range s) }
  where
    go : (b : Bool) → told_of {T = ⊤} (pick b (Ok tt) (Err BadSetting)) ≡ pick b 0 (number_of BadSetting)
    go true = refl
    go false = refl

-- ---- reports, read back from the buffers

-- the cells of a report's successors stand four further on
cells-further : (r : Report) (rs : List Report) (more : List Float) (k j : ℕ) → get_or (box_cells (r ∷ rs) ++ more) (4 * suc k + j) nan ≡ get_or (box_cells rs ++ more) (4 * k + j) nan
cells-further r rs more k j =
    let e : 4 * suc k + j ≡ suc (suc (suc (suc (4 * k + j)))) = omega arith in
    ap (λ (i : ℕ). get_or (box_cells (r ∷ rs) ++ more) i nan) e

first-further : (r : Report) (rs : List Report) (more : List Float) (k : ℕ) → get_or (box_cells (r ∷ rs) ++ more) (4 * suc k) nan ≡ get_or (box_cells rs ++ more) (4 * k) nan
first-further r rs more k =
    let e : 4 * suc k ≡ suc (suc (suc (suc (4 * k)))) = omega arith in
    ap (λ (i : ℕ). get_or (box_cells (r ∷ rs) ++ more) i nan) e

read_at : (rs : List Report) (more : List Float) (others : List ℕ) (d : Report) (k : ℕ) → k < length rs → get_or rs k d ≡ report_at (box_cells rs ++ more) (id_cells rs ++ others) k
read_at [] more others d k h = absurd (not-suc-le-zero h)
read_at (r ∷ rs) more others d zero h = refl
read_at (r ∷ rs) more others d (suc k) h =
    rw (first-further r rs more k, cells-further r rs more k 1, cells-further r rs more k 2, cells-further r rs more k 3) (read_at rs more others d k (le_of_suc-le-suc h))

read_back : (reply : Reply) (boxes : List Float) (ids : List ℕ) → reports_in reply ≡ tab (report_at (boxes_after reply boxes) (ids_after reply ids)) (length (reports_in reply))
read_back (refused r) boxes ids = refl
read_back (reports rs) boxes ids =
    let read : ℕ → Report = report_at (boxes_after (reports rs) boxes) (ids_after (reports rs) ids) in
    ext_get_or (read 0) rs (tab read (length rs)) (sym (length-tab read (length rs)))
    (λ k h. read_at rs (drop (4 * length rs) boxes) (drop (length rs) ids) (read 0) k h ∙ sym (get_or-tab read (length rs) (read 0) k h))

-- ---- a frame

told-number : (reply : Reply) → told_of (outcome_of reply) ≡ number_in reply
told-number (refused r) = refl
told-number (reports rs) = refl

counted : (reply : Reply) → result_unwrap_or (outcome_of reply) 0 ≡ length (reports_in reply)
counted (refused r) = refl
counted (reports rs) = refl

module _ (t : Tracker) (input boxes : List Float) (ids : List ℕ) (r : Answer) (boxes' : List Float) (ids' : List ℕ) where
  abbrev reply : Reply
  reply = (frame_of t (call_of input boxes ids)).reply

  count-by : r.outcome ≡ outcome_of reply → result_unwrap_or r.outcome 0 ≡ length (reports_in reply)
  count-by o = ap (λ (x : Result ℕ Refusal). result_unwrap_or x 0) o ∙ counted reply

  pub framed-by : r.outcome ≡ outcome_of reply → r.tracker ≡ (frame_of t (call_of input boxes ids)).next → boxes' ≡ boxes_after reply boxes → ids' ≡ ids_after reply ids → Framed t input boxes ids r boxes' ids'
  framed-by o n b i = record {
    outcome = o;
    number = ap told_of o ∙ told-number reply;
    count = count-by o;
    next = n;
    boxes-after = b;
    ids-after = i;
    reports_read = rw (b, i, count-by o) (read_back reply boxes ids);
    promises = promised t (call_of input boxes ids);
  }
