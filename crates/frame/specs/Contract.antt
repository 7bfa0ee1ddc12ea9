-- What the calls promise: the answer, the next state and every cell of both buffers. Definitions only.
use Rattle.std.specs.Prelude.{◌≡◌, true, ℕ, suc, ◌+◌, ◌-◌, ◌*◌, ◌≤◌, ◌<◌, Float, length, get_or, Result, Ok, Err}
use mathlib.Core.List.{List, [], ◌∷◌, ◌++◌, map, Memᴰ}
use Rattle.std.specs.Float.{nan}
use Rattle.std.specs.Result.{result_unwrap_or}
use Rattle.lists.specs.Lists.{pick, tab, up_from, All}
use Rattle.object.specs.declared.Refusal.{Refusal}
use Rattle.object.specs.declared.Refusal.TheVariants.{BadSetting}
use Rattle.object.specs.Refusal.{number_of, told_of}
use Rattle.frame.specs.declared.Settings.{Settings}
use Rattle.frame.specs.declared.Tracked.{Tracked}
use Rattle.frame.specs.declared.Tracker.{Tracker}
use Rattle.frame.specs.declared.Answer.{Answer}
use Rattle.frame.specs.declared.Made.{Made}
use Rattle.frame.specs.State.{in_range, live, empty_tracker, state_rules}
use Rattle.frame.specs.Frame.{Call, Report, Reply, refused, reports, frame_of, boxes_after, ids_after}

-- ---- the number that a call is told

-- document 01's number of a reply, 0 where the frame is accepted
abbrev pub number_in : Reply → ℕ
number_in (refused r) = number_of r
number_in (reports rs) = 0

-- ---- making a tracker

-- a setting outside its range is refused; the tracker then still holds the settings, so that every frame on it gets 1
unfoldable pub made_of : Settings → Made
made_of s = record { outcome = pick (in_range s) (Ok tt) (Err BadSetting); tracker = empty_tracker s }

-- a call with settings s made r
pub record MadeBy (s : Settings) (r : Made) : Type 0 where
  pub made : r ≡ made_of s
  -- bad setting exactly where one is out of range
  pub number : told_of r.outcome ≡ pick (in_range s) 0 (number_of BadSetting)

-- ---- a frame

-- how many reports there are, or the refusal
abbrev pub outcome_of : Reply → Result ℕ Refusal
outcome_of (refused r) = Err r
outcome_of (reports rs) = Ok (length rs)

abbrev pub reports_in : Reply → List Report
reports_in (refused r) = []
reports_in (reports rs) = rs

abbrev pub live_ids : Tracker → List ℕ
live_ids t = map (λ (e : Tracked). e.id) (live t)

abbrev pub reported_ids : Reply → List ℕ
reported_ids r = map (λ (x : Report). x.id) (reports_in r)

abbrev pub Falling : List ℕ → Type 0
Falling [] = Unit {0}
Falling (a ∷ l) = All (λ b. b < a) l × Falling l

-- some elements of a list, in their order
pub data Subsequence : List ℕ → List ℕ → Type 0 where
  none : Subsequence [] []
  left : {k l : List ℕ} → (a : ℕ) → Subsequence k l → Subsequence k (a ∷ l)
  taken : {k l : List ℕ} → (a : ℕ) → Subsequence k l → Subsequence (a ∷ k) (a ∷ l)

-- the report that stands k-th in the buffers: x, y, width and height in cells 4k to 4k + 3, the id in cell k
abbrev pub report_at : List Float → List ℕ → ℕ → Report
report_at boxes ids k = record {
  rect = record { x = get_or boxes (4 * k) nan; y = get_or boxes (4 * k + 1) nan; width = get_or boxes (4 * k + 2) nan; height = get_or boxes (4 * k + 3) nan };
  id = get_or ids k 0;
}

-- What a caller may rely on without the definitions: t is the state before the call, next the state that it returned.
pub record Promises (t : Tracker) (reply : Reply) (next : Tracker) : Type 0 where
  -- reported ids minus 1 are live in the returned state
  pub reported_live : All (λ i. (j : ℕ) × (i ≡ suc j) × Memᴰ j (live_ids next)) (reported_ids reply)
  -- and strictly fall
  pub reported_fall : Falling (reported_ids reply)
  -- the returned live ids are a subsequence of the old ones followed by the newly issued
  pub lineage : (kept : List ℕ) × Subsequence kept (live_ids t) × (live_ids next ≡ kept ++ up_from t.issued (next.issued - t.issued))
  -- the number of ids issued never falls
  pub issued_grows : t.issued ≤ next.issued
  -- an accepted frame raises the number of frames by 1
  pub counted : (rs : List Report) → reply ≡ reports rs → next.frames ≡ suc t.frames
  -- a refused one leaves the state as it was
  pub kept : (r : Refusal) → reply ≡ refused r → next ≡ t
  -- an accepted frame leaves at most 64 live tracks
  pub room : (rs : List Report) → reply ≡ reports rs → length (live_ids next) ≤ 64
  -- a state that obeys the state rules is followed by one that does, whatever the frame brings
  pub sound : state_rules t ≡ true → state_rules next ≡ true

abbrev pub call_of : List Float → List Float → List ℕ → Call
call_of input boxes ids = record { input = input; boxes = length boxes; ids = length ids }

-- a call on t with this input and these buffers answered r and left the buffers boxes' and ids'
pub record Framed (t : Tracker) (input boxes : List Float) (ids : List ℕ) (r : Answer) (boxes' : List Float) (ids' : List ℕ) : Type 0 where
  pub outcome : r.outcome ≡ outcome_of (frame_of t (call_of input boxes ids)).reply
  -- the number in document 01's table, 0 where accepted
  pub number : told_of r.outcome ≡ number_in (frame_of t (call_of input boxes ids)).reply
  -- how many reports stand in the buffers: none of a refused frame
  pub count : result_unwrap_or r.outcome 0 ≡ length (reports_in (frame_of t (call_of input boxes ids)).reply)
  pub next : r.tracker ≡ (frame_of t (call_of input boxes ids)).next
  pub boxes-after : boxes' ≡ boxes_after (frame_of t (call_of input boxes ids)).reply boxes
  pub ids-after : ids' ≡ ids_after (frame_of t (call_of input boxes ids)).reply ids
  -- each report's rectangle and id are those in the buffers
  pub reports_read : reports_in (frame_of t (call_of input boxes ids)).reply ≡ tab (report_at boxes' ids') (result_unwrap_or r.outcome 0)
  pub promises : Promises t (frame_of t (call_of input boxes ids)).reply (frame_of t (call_of input boxes ids)).next
