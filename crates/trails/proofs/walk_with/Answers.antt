-- `trails::walk_with` meets its contract.
use Prim.Native.Nat.{ℕ, ◌-◌, min}
use native.Mathlib.Omega.{arith}
use mathlib.Core.Path.{◌≡◌, sym, ap, ap₂, ◌∙◌}
use lib.ListN.{length, take, replicate}
use lib.Seq.{length-take-le}
use Rattle.text.proofs.Lines.{renamed}
use Rattle.walk.specs.Walk.{outcome}
use Rattle.trails.specs.Trails.{walk_line}
use Rattle.trails.proofs.Trail.{cut_outcome}
use Rattle.trails.proofs.walk_with.Goals as goal

-- the lent stretch of the trail is as long as it should be
lent_length : (lent room : ℕ) → lent ≡ min room 131072 → length {A = ℕ} (take lent (replicate 131072 0)) ≡ lent
lent_length lent room e = length-take-le lent (replicate 131072 0) (omega (arith, e))

pub slice_bounds-walk_into-end : goal.slice_bounds-walk_into-end
slice_bounds-walk_into-end c = sym (lent_length c.lesser-lent.result c.args.w.room c.lesser-lent.ensures)

pub walk_into-requires : goal.walk_into-requires
walk_into-requires c = (omega (arith, lent_length c.lesser-lent.result c.args.w.room c.lesser-lent.ensures, c.lesser-lent.ensures), c.requires.1)

pub returns : goal.returns
returns c =
    let s = c.args in
    let lent = c.lesser-lent in
    let from = ap (λ (n : ℕ). s.w.start - n) (c.lesser-cut.ensures ∙ ap (λ (n : ℕ). min s.w.start (s.w.room - n)) lent.ensures) in
    renamed
    (ap walk_line
    (ap₂ (outcome s.sheet.now s.tables.now s.w.sort s.w.code s.events.now) (lent_length lent.result s.w.room lent.ensures ∙ lent.ensures) from
    ∙ cut_outcome s.sheet.now s.tables.now s.w.sort s.w.code s.events.now s.w.room s.w.start c.requires.0))
    c.walk_into.ensures
