-- The search between two turns: what it asks holds, and the turns left lead where the whole search does. Assumes nothing.
use mathlib.Core.Path.{ap, refl, subst, sym, ◌∙◌, ◌≡◌}
use mathlib.Core.Bool.{false, true}
use mathlib.Core.List.{List}
use mathlib.Core.Logic.{◌⊎◌, ⊎_elim}
use Prim.Native.Nat.{◌+◌, ◌-◌, ◌<◌, suc, ℕ, ◌≤◌}
use lib.IntN.{ℤ}
use native.Mathlib.Omega.{arith}
use Rattle.lapjv_walk.specs.Holds.{Held, Marked, Room}
use Rattle.lapjv_walk.specs.Loops.{runs}
use Rattle.lapjv_walk.specs.Marks.{free, is_free}
use Rattle.lapjv_walk.specs.Ops.{Ops}
use Rattle.lapjv_walk.specs.Path.{Route, Scan, search_from, search_more, search_path, search_turn}
use Rattle.lapjv_walk.proofs.Cases.{not-both}
use Rattle.lapjv_walk.proofs.Loops.{runs_done, runs-more}
use Rattle.lapjv_walk.proofs.Route.{FoundOk, Head, lo-below, search-head, turn-next}
use Rattle.lapjv_walk.proofs.Search.{path-held, PathOk, scan≡}

pub route≡ : {C : Type 0} {p p' : List ℕ} {z z' : ℤ} {v v' : List C} → p ≡ p' → z ≡ z' → v ≡ v' → ◌≡◌ {A = Route C} (record { pred = p; last = z; v = v }) (record { pred = p'; last = z'; v = v' })
route≡ a b c = λ i. record { pred = a i; last = b i; v = c i }

module _ (O : Ops) (n : ℕ) (cost : List O.C) (start : ℕ) (y : List ℤ) (v : List O.C) where
  pub record Goes (lo : ℕ) (d : List O.C) (cols pred : List ℕ) : Type 0 where
    pub path : PathOk n (λ i. i ≡ start) y (record { lo = lo; hi = lo; d = d; cols = cols; pred = pred; found = free })
    pub hi : ℕ
    pub left : ℕ
    pub enough : n ≤ left + lo
    pub same : runs search_more (search_turn O n cost y v) left (record { lo = lo; hi = hi; d = d; cols = cols; pred = pred; found = free }) ≡ search_path O n cost start y v

  module _ (m : Marked n y) (room : Room n y) where
    pub goes_first : (d : List O.C) (cols pred : List ℕ) → search_from O n cost start v ≡ record { lo = 0; hi = 0; d = d; cols = cols; pred = pred; found = free } → Goes 0 d cols pred
    unfolding search_path
    goes_first d cols pred e =
        let h = subst (λ (s : Scan O.C). Head O n cost y v (λ i. i ≡ start) m s) e (search-head O n cost y v m start room) in
        record { path = h.path; hi = 0; left = n; enough = omega arith; same = rw e }

    module _ (lo : ℕ) (d : List O.C) (cols pred : List ℕ) (g : Goes lo d cols pred) where
      abbrev s : Scan O.C
      s = record { lo = lo; hi = g.hi; d = d; cols = cols; pred = pred; found = free }

      head : Head O n cost y v (λ i. i ≡ start) m (record { lo = lo; hi = g.hi; d = d; cols = cols; pred = pred; found = free })
      head = record { path = g.path; none = refl }

      pub goes-below : lo < n
      goes-below = lo-below O n cost y v (λ i. i ≡ start) m room s head

      pub goes-held : Held n y (record { lo = lo; hi = lo; d = d; cols = cols; pred = pred; found = free })
      goes-held = path-held g.path

      module _ (r : Scan O.C) (er : search_turn O n cost y v (record { lo = lo; hi = g.hi; d = d; cols = cols; pred = pred; found = free }) ≡ r) where
        rest : ℕ
        rest = g.left - 1

        runs-rest : runs search_more (search_turn O n cost y v) rest r ≡ search_path O n cost start y v
        unfolding rest search_more
        runs-rest =
            let e : g.left ≡ suc (g.left - 1) = omega (arith, goes-below, g.enough) in
            rw (← er) (sym (runs-more search_more (search_turn O n cost y v) (g.left - 1) s refl) ∙ rw e at g.same)

        next : (Head O n cost y v (λ i. i ≡ start) m r × (lo + 1 ≤ r.lo)) ⊎ FoundOk O n cost y v (λ i. i ≡ start) m r
        next = rw er at (turn-next O n cost y v (λ i. i ≡ start) m s head goes-below)

        pub goes-found : is_free r.found ≡ false → search_path O n cost start y v ≡ r
        unfolding search_more
        goes-found e = sym runs-rest ∙ runs_done search_more (search_turn O n cost y v) rest r e

        -- what is found is a column, or nothing
        pub goes_none : is_free r.found ≡ true → r.found ≡ free
        goes_none e =
            ⊎_elim
            (λ (w : Head O n cost y v (λ i. i ≡ start) m r × (lo + 1 ≤ r.lo)). w.0.none)
            (λ (w : FoundOk O n cost y v (λ i. i ≡ start) m r). not-both (is_free r.found) e (ap is_free w.hit.is))
            next

        pub goes_on : is_free r.found ≡ true → Goes r.lo r.d r.cols r.pred × (lo < r.lo)
        unfolding rest
        goes_on e =
            ⊎_elim
            (λ (w : Head O n cost y v (λ i. i ≡ start) m r × (lo + 1 ≤ r.lo)).
            let p = w.0.path in (
              record {
                path = record { lo_hi = p.lo_hi; hi_n = p.hi_n; len_d = p.len_d; len_pred = p.len_pred; apart = p.apart; held = p.held; chain = p.chain };
                hi = r.hi;
                left = rest;
                enough = omega (arith, goes-below, g.enough, w.1);
                same = ap (runs search_more (search_turn O n cost y v) rest) (scan≡ refl refl refl refl refl (sym w.0.none)) ∙ runs-rest;
              },
              omega (arith, w.1),
            ))
            (λ (w : FoundOk O n cost y v (λ i. i ≡ start) m r). not-both (is_free r.found) e (ap is_free w.hit.is))
            next
