-- `views::all` meets its contract.
use mathlib.Core.Path.{◌≡◌, refl, sym}
use Prim.Native.Nat.{◌<◌}
use native.Mathlib.Omega.{arith}
use lib.ListN.{length}
use Rattle.frame.specs.Rounds.{View}
use Rattle.frame.specs.Frame.{tracked_view}
use Rattle.objects.specs.Dets.{five_of}
use Rattle.matching.specs.Associate.{four_of}
use Rattle.views.specs.Views.{two_of, views_of}
use Rattle.views.proofs.Seeing.{seen, seen-count, filled-long, turn}
use Rattle.views.proofs.all.Goals as goal
use Rattle.views.proofs.all.Goals.{In-loop-j}

-- what holds as the loop's turn begins
record Facts (c : In-loop-j) : Type 0 where
  more : c.loop-j.j < c.args.count
  below : c.loop-j.j < 64
  there : c.loop-j.j < length c.args.table
  boxes : length c.loop-j.boxes ≡ 256
  directions : length c.loop-j.directions ≡ 128
  lasts : length c.loop-j.lasts ≡ 256
  previous : length c.loop-j.previous ≡ 320

facts : (c : In-loop-j) → Facts c
facts c =
    let s = c in
    let l = c.loop-j in
    let more : l.j < s.args.count = c.loop-j-test.true in
    let below : l.j < 64 = omega (arith, s.requires.0) in
    let there : l.j < length s.args.table = omega arith in
    record {
      more = more;
      below = below;
      there = there;
      boxes = filled-long (tracked_view s.args.s) s.args.table (λ (v : View). four_of v.box) 4 (λ v. refl) 256 l.j (omega arith) (omega arith) l.boxes l.invariant.0;
      directions = filled-long (tracked_view s.args.s) s.args.table (λ (v : View). two_of v.direction) 2 (λ v. refl) 128 l.j (omega arith) (omega arith) l.directions l.invariant.1;
      lasts = filled-long (tracked_view s.args.s) s.args.table (λ (v : View). four_of v.last) 4 (λ v. refl) 256 l.j (omega arith) (omega arith) l.lasts l.invariant.2;
      previous = filled-long (tracked_view s.args.s) s.args.table (λ (v : View). five_of v.previous) 5 (λ v. refl) 320 l.j (omega arith) (omega arith) l.previous l.invariant.3;
    }

pub loop-j-init : goal.loop-j-init
loop-j-init c = (rw c.nan-nan.ensures, rw c.nan-nan.ensures, rw c.nan-nan.ensures, rw c.nan-nan.ensures)

pub slice_bounds-put_view-end : goal.slice_bounds-put_view-end
slice_bounds-put_view-end c = sym (facts c.before.before).boxes

pub slice_bounds-put_view-end-in-loop-j : goal.slice_bounds-put_view-end-in-loop-j
slice_bounds-put_view-end-in-loop-j c = sym (facts c.before.before.before).directions

pub slice_bounds-put_view-end-in-loop-j-2 : goal.slice_bounds-put_view-end-in-loop-j-2
slice_bounds-put_view-end-in-loop-j-2 c = sym (facts c.before.before.before.before).lasts

pub slice_bounds-put_view-end-in-loop-j-3 : goal.slice_bounds-put_view-end-in-loop-j-3
slice_bounds-put_view-end-in-loop-j-3 c = sym (facts c.before.before.before.before.before).previous

pub put_view-requires : goal.put_view-requires
put_view-requires c = let f = facts c.before.before.before.before.before in (f.below, c.requires.1, f.boxes, f.directions, f.lasts, f.previous)

pub loop-j-preserved : goal.loop-j-preserved
loop-j-preserved c =
    let s = c in
    let l = c.loop-j in
    let p = c.put_view in
    let f = tracked_view s.args.s in
    let g = facts c.before.before.before.before.before.before.before.before.before.before in (
      turn f s.args.table (λ (v : View). four_of v.box) 4 (λ v. refl) 256 l.j (omega arith) g.there _ l.boxes _ _ l.invariant.0 refl p.ensures.0,
      turn f s.args.table (λ (v : View). two_of v.direction) 2 (λ v. refl) 128 l.j (omega arith) g.there _ l.directions _ _ l.invariant.1 refl p.ensures.1,
      turn f s.args.table (λ (v : View). four_of v.last) 4 (λ v. refl) 256 l.j (omega arith) g.there _ l.lasts _ _ l.invariant.2 refl p.ensures.2,
      turn f s.args.table (λ (v : View). five_of v.previous) 5 (λ v. refl) 320 l.j (omega arith) g.there _ l.previous _ _ l.invariant.3 refl p.ensures.3,
    )

pub returns : goal.returns
unfolding views_of
returns c =
    let s = c in
    let l = c.loop-j in
    let e : l.j ≡ s.args.count = omega arith in
    let n : s.args.count ≡ length (seen (tracked_view s.args.s) s.args.table s.args.count) = sym (seen-count (tracked_view s.args.s) s.args.table s.args.count (omega arith)) in
    λ i. record { n = n i; boxes = (rw e at l.invariant.0) i; directions = (rw e at l.invariant.1) i; lasts = (rw e at l.invariant.2) i; previous = (rw e at l.invariant.3) i }
