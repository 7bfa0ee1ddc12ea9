-- `grants::grant` meets its contract.
use mathlib.Core.Path.{sym, ◌∙◌}
use Prim.Native.Nat.{◌<◌}
use lib.ListN.{get_or}
use Rattle.grants.proofs.Seating.{granted-free, granted-named, named}
use mir.Syntax.{w64}
use mir.ValLaws.{to_z-of_z}
use borrow.Author.Rules.{rules}
use Rattle.grants.proofs.grant.Goals as goal

pub returns-then-is_free : goal.returns-then-is_free
returns-then-is_free c =
    let s = c in
    granted-free s.args.at.now s.args.m s.args.d s.args.grants.now (rw (to_z-of_z w64 s.args.m s.ranges.m) at (sym c.is_free.ensures ∙ c.if-is_free.true))

pub index_of-requires : goal.index_of-requires
index_of-requires c = sym c.is_free.ensures ∙ c.if-is_free.false

pub offset_bounds-at-index_of : goal.offset_bounds-at-index_of
offset_bounds-at-index_of c =
    let s = c in
    let z = to_z-of_z w64 s.args.m s.ranges.m in
    let h : c.index_of.result < 64 = rw (c.index_of.ensures, z) (named s.args.at.now 64 s.args.m s.requires (rw z at (sym c.is_free.ensures ∙ c.if-is_free.false))).0 in
    search rules

pub bounds-at-index_of : goal.bounds-at-index_of
bounds-at-index_of c =
    let s = c in
    let z = to_z-of_z w64 s.args.m s.ranges.m in
    let h : c.index_of.result < 64 = rw (c.index_of.ensures, z) (named s.args.at.now 64 s.args.m s.requires (rw z at (sym c.is_free.ensures ∙ c.if-is_free.false))).0 in
    search rules

pub offset_bounds-grants-t : goal.offset_bounds-grants-t
offset_bounds-grants-t c =
    let s = c in
    let z = to_z-of_z w64 s.args.m s.ranges.m in
    let h : get_or s.args.at.now c.index_of.result 0 < 64 = rw (c.index_of.ensures, z) (named s.args.at.now 64 s.args.m s.requires (rw z at (sym c.is_free.ensures ∙ c.if-is_free.false))).1 in
    search rules

pub bounds-grants-t : goal.bounds-grants-t
bounds-grants-t c =
    let s = c in
    let z = to_z-of_z w64 s.args.m s.ranges.m in
    let h : get_or s.args.at.now c.index_of.result 0 < 64 = rw (c.index_of.ensures, z) (named s.args.at.now 64 s.args.m s.requires (rw z at (sym c.is_free.ensures ∙ c.if-is_free.false))).1 in
    search rules

pub returns : goal.returns
returns c =
    let s = c in
    let z = to_z-of_z w64 s.args.m s.ranges.m in
    rw (c.index_of.ensures, z) (granted-named s.args.at.now s.args.m s.args.d s.args.grants.now (rw z at (sym c.is_free.ensures ∙ c.if-is_free.false)))
