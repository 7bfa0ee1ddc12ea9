-- `to_image::put_track` meets its contract.
use mathlib.Core.Path.{refl}
use Prim.Native.Nat.{◌+◌, ◌*◌}
use lib.ListN.{set}
use Rattle.to_image.proofs.Putting.{full, floats-put, words-put}
use Rattle.to_image.proofs.put_track.Goals as goal

pub returns : goal.returns
returns c =
    let kept = c.put_kept in
    let direction = c.put_direction in
    let list = c.put_list in
    let last = c.put_box in
    let frozen = c.from in
    let saved = c.put_filter-2 in
    let first = c.put_filter in
    let good = c.well_formed.1.1.1.1.0 in
    record {
      wide = refl {a = set c.args.wide.now (2 + c.args.k) c.args.e.id};
      floats = floats-put c.args.e _ good (3 + 163 * c.args.k) _ _ _ _ _ _ _ first.ensures saved.ensures last.ensures.1 list.ensures.1 direction.ensures.1 kept.ensures.0;
      words = words-put c.args.e (5 + 15 * c.args.k) _ _ _ _ _ _ frozen.ensures last.ensures.0 list.ensures.0 direction.ensures.0 kept.ensures.1;
      full = full c.args.e _ good;
    }
