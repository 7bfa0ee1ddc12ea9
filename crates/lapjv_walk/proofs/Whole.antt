-- The whole walk, for any operations: rows and columns end paired one to one, x and y are inverse, and no loop is stopped by its budget. Assumes nothing.
use mathlib.Core.Path.{ap, refl}
use mathlib.Core.List.{List}
use mathlib.Core.Logic.{inl, inr, ⊎_elim}
use Prim.Native.Nat.{◌<◌, ℕ}
use lib.IntN.{pos}
use lib.ListN.{get_or}
use native.Mathlib.Nat.{le_refl}
use native.Mathlib.Omega.{arith}
use Rattle.lists.proofs.Tab.{get_or-tab, length-tab}
use Rattle.lapjv_walk.specs.Carr.{carr_dence}
use Rattle.lapjv_walk.specs.Ccrt.{Assign, assign, ccrt_dense, collect, Kept, Reduce, reduce_columns, reduce_row}
use Rattle.lapjv_walk.specs.Ends.{AllEnd}
use Rattle.lapjv_walk.specs.Holds.{AssignOk, Left, Paired, Seated, SitsFrom, Waits}
use Rattle.lapjv_walk.specs.Lapjv.{Ca, ca_dense, lapjv, OneToOne, two_passes}
use Rattle.lapjv_walk.specs.Marks.{is_free}
use Rattle.lapjv_walk.specs.Ops.{Ops}
use Rattle.lapjv_walk.proofs.Assign.{assign-ok}
use Rattle.lapjv_walk.proofs.Ca.{After, queue-at, row_ends}
use Rattle.lapjv_walk.proofs.Carr.{pass-ends, pass-keeps}
use Rattle.lapjv_walk.proofs.Cases.{not-both}
use Rattle.lapjv_walk.proofs.Ccrt.{reduce-ok, ReduceOk, row-seated}
use Rattle.lapjv_walk.proofs.Collect.{collect-ok, CollectOk}
use Rattle.lapjv_walk.proofs.Loops.{walk-ind}
use Rattle.lapjv_walk.proofs.Pairing.{all-taken}

module _ (O : Ops) (n : ℕ) (cost : List O.C) (some : 0 < n) where
  pub columns-ok : ReduceOk n (reduce_columns O n cost) × Seated n (reduce_columns O n cost).y
  unfolding reduce_columns
  columns-ok =
      walk-ind (reduce_row O n cost) (λ _ t. ReduceOk n t × Seated n t.y) 0 n _ (omega arith) (
        record { len_v = length-tab (λ _. O.large) n; len_y = length-tab (λ _. pos 0) n },
        record { len = length-tab (λ _. pos 0) n; seat = λ j h. record { at = 0; below = some; is = get_or-tab (λ _. pos 0) n (pos 0) j h } },
      )
      (λ i t _ u p. (row_ok i t p.0, row-seated O n cost i t u p.1))
    where
      row_ok : (i : ℕ) (t : Reduce O.C) → ReduceOk n t → ReduceOk n (reduce_row O n cost i t)
      row_ok i t p = unfold reduce_row in reduce-ok O n cost i n t p

  pub ccrt-left : Left n (ccrt_dense O n cost)
  unfolding ccrt_dense
  ccrt-left =
      let r : Reduce O.C = reduce_columns O n cost in
      let a : Assign = assign n r.y in
      let ao : AssignOk n 0 a = assign-ok n r.y columns-ok.1 in
      let co : CollectOk n n a.x (collect O n cost a r.v) = collect-ok O n cost a.x a.unique r.v a refl refl columns-ok.0.len_v in
      record {
        count_n = co.count-k;
        len_rows = co.len_rows;
        len_v = co.len_v;
        queue = record {
          below = co.below;
          inj = co.inj;
          pairs = record {
            len_x = ao.len_x;
            len_y = ao.len_y;
            x_marks = λ i h. ⊎_elim (λ f. inl f) (λ (t : SitsFrom n 0 a.x a.y i). inr (record { at = t.j; below = t.j_n; is = t.x_is })) (ao.x_y i h);
            marks = ao.high;
            y_x = λ j i h e. (
              ao.y_x j i h (omega arith) e,
              λ (w : Waits (λ p. p < (collect O n cost a r.v).count) (collect O n cost a r.v).rows i).
                  not-both (is_free (get_or a.x i (pos 0))) (rw w.is at (co.sound w.p w.act)) (ap is_free (ao.y_x j i h (omega arith) e)),
            );
            row = λ i h. ⊎_elim (λ f. let w = co.complete i h (ap is_free f) in inl (record { p = w.0; act = w.1; is = w.2 }))
                (λ (t : SitsFrom n 0 a.x a.y i). inr (record { j = t.j; j_n = t.j_n; x_is = t.x_is; y_is = t.y_is })) (ao.x_y i h);
          };
        };
      }

  first-left : Left n (carr_dence O n cost (ccrt_dense O n cost))
  first-left = pass-keeps O n cost some (ccrt_dense O n cost) ccrt-left

  pub passes-left : Left n (two_passes O n cost)
  unfolding two_passes
  passes-left = pass-keeps O n cost some (carr_dence O n cost (ccrt_dense O n cost)) first-left

  pub one_to_one : OneToOne n (lapjv O n cost).x (lapjv O n cost).y
  unfolding lapjv
  one_to_one =
      let s : Kept O.C = two_passes O n cost in
      let t : Ca O.C = ca_dense O n cost s.count s in
      let W : ℕ → Type 0 = λ k. Waits (λ p. After s.count s.count p) s.rows k in
      let p : Paired n W t.x t.y = (queue-at O n cost s passes-left s.count (le_refl s.count)).pairs in
      let none : (i : ℕ) → i < n → W i → ⊥ = λ i h (w : Waits (λ p. After s.count s.count p) s.rows i). omega (arith, w.act.0, w.act.1) in
      record {
        len_x = p.len_x;
        len_y = p.len_y;
        rows = λ i h. ⊎_elim (λ w. absurd (none i h w)) (λ u. u) (p.row i h);
        columns = λ j h. let u = all-taken n W t.x t.y p none j h in record { j = u.at; j_n = u.below; x_is = u.is; y_is = (p.y_x j u.at h u.is).0 };
      }

  pub all_end : AllEnd O n cost
  unfolding two_passes
  all_end = record {
    first = pass-ends O n cost some (ccrt_dense O n cost) ccrt-left;
    second = pass-ends O n cost some (carr_dence O n cost (ccrt_dense O n cost)) first-left;
    row = λ m h. row_ends O n cost (two_passes O n cost).rows (two_passes O n cost).count m (ca_dense O n cost m (two_passes O n cost)) h (queue-at O n cost (two_passes O n cost) passes-left m (omega arith));
  }
