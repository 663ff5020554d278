-- `trails::walk_into` meets its contract: a refusal is walk's own, and of the trail the codes that were written are shown.
use Prim.Native.Nat.{ℕ, ◌+◌, ◌-◌}
use native.Mathlib.Omega.{arith}
use mathlib.Core.Path.{◌≡◌, sym, ap, ◌∙◌}
use lib.ListN.{length, take, drop}
use Rattle.text.specs.Ascii.{ascii}
use Rattle.text.specs.Text.{bytes_line}
use Rattle.text.proofs.Lines.{renamed}
use Rattle.trails.proofs.Trail.{turned_down_line, codes_within, written_line}
use Rattle.trails.proofs.walk_into.Goals as goal

pub overflow_add-end : goal.overflow_add-end
overflow_add-end c =
    let s = c.args in
    omega (arith, codes_within s.sheet.now s.tables.now s.sort s.code s.events.now s.trail.now _ s.start _ (sym c.in-Ok.ensures.result) c.walk-answer.ensures.trail)

pub slice_bounds-bytes_line-end-in-Ok : goal.slice_bounds-bytes_line-end-in-Ok
slice_bounds-bytes_line-end-in-Ok c =
    let s = c.args in
    let within = codes_within s.sheet.now s.tables.now s.sort s.code s.events.now s.trail.now _ s.start _ (sym c.in-Ok.ensures.result) c.walk-answer.ensures.trail in
    omega (arith, within, c.walk-answer.auto.trail)

pub returns-in-Err : goal.returns-in-Err
returns-in-Err c =
    let s = c.args in
    renamed
    (turned_down_line s.sheet.now s.tables.now s.sort s.code s.events.now (length s.trail.now) s.start c.in-Err.refusal c.in-Err.ensures.result)
    c.refusal_line.ensures

pub returns-in-Ok : goal.returns-in-Ok
returns-in-Ok c =
    let s = c.args in
    let n = c.in-Ok.length in
    let many : s.start + n - s.start ≡ n = omega arith in
    renamed
    (ap (λ (k : ℕ). bytes_line (ascii "trail") n (take k (drop s.start c.walk-answer.new.trail))) many
    ∙ written_line s.sheet.now s.tables.now s.sort s.code s.events.now s.trail.now _ s.start n (sym c.in-Ok.ensures.result) c.walk-answer.ensures.trail)
    c.bytes_line.ensures
