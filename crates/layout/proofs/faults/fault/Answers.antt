-- By the kind; no other kind is in its place.
use mathlib.Core.Path.{refl, ap, sym, ◌∙◌}
use mathlib.Core.List.{[], ◌∷◌}
use Rattle.layout.specs.Layout.{kind_of}
use Rattle.prelude.specs.Causes.{tested}
use Rattle.layout.specs.Kinds.{kind_number}
use Rattle.layout.proofs.Pack.{contents}
use Rattle.layout.proofs.Causes.{placed, no_total, no_rank}
use Rattle.layout.specs.Parts.{payload_bytes}
use Rattle.layout.proofs.ByKind.{fixed, two_bytes_lem, one_byte, later_at, sized_at}
use Rattle.layout.proofs.faults.fault.Goals as goal

pub returns-in-Sort : goal.returns-in-Sort
returns-in-Sort c k pl wl =
    let a = c.args in
    let h = contents a.p k.sheet k.same in
    c.sort_fault.ensures k.sheet h.sorts
    ∙ ap tested (later_at k.sheet a.kind 1 (a.q.b0 ∷ a.q.b1 ∷ []) (payload_bytes a.q) (c.in-Ok.ensures ∙ ap kind_number c.in-Sort.is)
    (two_bytes_lem a.q (fixed 2 a.q.len (sized_at a.kind 1 a.q.len (c.in-Ok.ensures ∙ ap kind_number c.in-Sort.is) wl))))

pub returns-in-Symbol : goal.returns-in-Symbol
returns-in-Symbol c k pl wl =
    let a = c.args in
    let h = contents a.p k.sheet k.same in
    c.symbol_fault.ensures k.sheet h.symbols h.sorts
    ∙ ap tested (later_at k.sheet a.kind 2 (payload_bytes a.q) (payload_bytes a.q) (c.in-Ok.ensures ∙ ap kind_number c.in-Symbol.is) refl)

pub returns-in-Term : goal.returns-in-Term
returns-in-Term c k pl wl =
    let a = c.args in
    let h = contents a.p k.sheet k.same in
    c.term_fault.ensures k ∙ ap tested (later_at k.sheet a.kind 3 (payload_bytes a.q) (payload_bytes a.q) (c.in-Ok.ensures ∙ ap kind_number c.in-Term.is) refl)

pub returns-in-Same : goal.returns-in-Same
returns-in-Same c k pl wl =
    let a = c.args in
    let h = contents a.p k.sheet k.same in
    c.literal_fault.ensures k
    ∙ ap tested (later_at k.sheet a.kind 4 (a.q.b0 ∷ a.q.b1 ∷ []) (payload_bytes a.q) (c.in-Ok.ensures ∙ ap kind_number c.in-Same.is)
    (two_bytes_lem a.q (fixed 2 a.q.len (sized_at a.kind 4 a.q.len (c.in-Ok.ensures ∙ ap kind_number c.in-Same.is) wl))))

pub returns-in-Differ : goal.returns-in-Differ
returns-in-Differ c k pl wl =
    let a = c.args in
    let h = contents a.p k.sheet k.same in
    c.literal_fault-in-Differ.ensures k
    ∙ ap tested (later_at k.sheet a.kind 5 (a.q.b0 ∷ a.q.b1 ∷ []) (payload_bytes a.q) (c.in-Ok.ensures ∙ ap kind_number c.in-Differ.is)
    (two_bytes_lem a.q (fixed 2 a.q.len (sized_at a.kind 5 a.q.len (c.in-Ok.ensures ∙ ap kind_number c.in-Differ.is) wl))))

pub returns-in-Total : goal.returns-in-Total
returns-in-Total c k pl wl =
    let a = c.args in
    let h = contents a.p k.sheet k.same in
    c.total_fault.ensures k.sheet (no_total k.sheet (placed k.sheet (kind_of a.kind) pl).open')
    ∙ ap tested (later_at k.sheet a.kind 6 (a.q.b0 ∷ []) (payload_bytes a.q) (c.in-Ok.ensures ∙ ap kind_number c.in-Total.is)
    (one_byte a.q (fixed 1 a.q.len (sized_at a.kind 6 a.q.len (c.in-Ok.ensures ∙ ap kind_number c.in-Total.is) wl))))

pub returns-in-Fill : goal.returns-in-Fill
returns-in-Fill c k pl wl =
    let a = c.args in
    c.fill_fault.ensures k
    ∙ ap tested (later_at k.sheet a.kind 7 (a.q.b0 ∷ a.q.b1 ∷ []) (payload_bytes a.q) (c.in-Ok.ensures ∙ ap kind_number c.in-Fill.is)
    (two_bytes_lem a.q (fixed 2 a.q.len (sized_at a.kind 7 a.q.len (c.in-Ok.ensures ∙ ap kind_number c.in-Fill.is) wl))))

pub returns-in_default : goal.returns-in_default
returns-in_default c k pl wl =
    let a = c.args in
    absurd
    ((placed k.sheet (kind_of a.kind) pl).known
    (sym (no_rank a.kind c.in_default.ensures)))
