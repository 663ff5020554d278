-- By the kind; no other kind is in its place.
use native.Mathlib.Omega.{arith}
use mathlib.Core.Path.{refl, ap, sym, ◌∙◌}
use mathlib.Core.List.{[], ◌∷◌}
use mathlib.Core.Bool.{true, false}
use Rattle.layout.specs.Kinds.{kind_number}
use Rattle.layout.proofs.Pack.{contents}
use Rattle.layout.proofs.Causes.{no_rank}
use Rattle.layout.specs.Parts.{payload_bytes}
use Rattle.layout.specs.Packed.{packed}
use Rattle.layout.proofs.AtMostTwo.{args_of, front}
use Rattle.layout.proofs.ByKind.{fixed, two_bytes_lem, one_byte, add_at, good_at, good_placed, field_room, name_room, name_early, term_room, term_there, literal_room, literal_room', fill_room}
use Rattle.layout.proofs.grow.added.Goals as goal

pub with_sort-requires : goal.with_sort-requires
with_sort-requires c =
    let a = c.args in
    let k = c.requires.part_read in
    let h = contents a.p k.sheet k.same in
    let z = field_room k.sheet a.q (good_at k.sheet a.kind 1 a.q (c.in-Ok.ensures ∙ ap kind_number c.in-Sort.is) (c.requires.good k)) in
    omega arith

pub with_symbol-requires : goal.with_symbol-requires
with_symbol-requires c =
    let a = c.args in
    let k = c.requires.part_read in
    let h = contents a.p k.sheet k.same in
    let z = name_room k.sheet a.q (good_at k.sheet a.kind 2 a.q (c.in-Ok.ensures ∙ ap kind_number c.in-Symbol.is) (c.requires.good k)) in
    omega arith

pub with_term-requires : goal.with_term-requires
with_term-requires c =
    let a = c.args in
    let k = c.requires.part_read in
    let h = contents a.p k.sheet k.same in
    let z = term_room k.sheet a.q (good_at k.sheet a.kind 3 a.q (c.in-Ok.ensures ∙ ap kind_number c.in-Term.is) (c.requires.good k)) in
    let y =
    term_there k.sheet a.q
    (good_at k.sheet a.kind 3 a.q (c.in-Ok.ensures ∙ ap kind_number c.in-Term.is) (c.requires.good k)) in
    let m = k.sofar.symbols in (omega arith, omega arith)

pub with_literal-requires : goal.with_literal-requires
with_literal-requires c =
    let a = c.args in
    let k = c.requires.part_read in
    let h = contents a.p k.sheet k.same in
    let z = literal_room k.sheet a.q (good_at k.sheet a.kind 4 a.q (c.in-Ok.ensures ∙ ap kind_number c.in-Same.is) (c.requires.good k)) in
    omega arith

pub with_literal-requires-in-Differ : goal.with_literal-requires-in-Differ
with_literal-requires-in-Differ c =
    let a = c.args in
    let k = c.requires.part_read in
    let h = contents a.p k.sheet k.same in
    let z =
    literal_room' k.sheet a.q (good_at k.sheet a.kind 5 a.q (c.in-Ok.ensures ∙ ap kind_number c.in-Differ.is) (c.requires.good k)) in
    omega arith

pub with_fill-requires : goal.with_fill-requires
with_fill-requires c =
    let a = c.args in
    let k = c.requires.part_read in
    let h = contents a.p k.sheet k.same in
    let z = fill_room k.sheet a.q (good_at k.sheet a.kind 7 a.q (c.in-Ok.ensures ∙ ap kind_number c.in-Fill.is) (c.requires.good k)) in
    omega arith

pub returns-in-Sort : goal.returns-in-Sort
returns-in-Sort c k =
    let a = c.args in
    c.with_sort.ensures k.sheet k.same
    ∙ ap packed
    (add_at k.sheet a.kind 1 (a.q.b0 ∷ a.q.b1 ∷ []) (payload_bytes a.q) (c.in-Ok.ensures ∙ ap kind_number c.in-Sort.is)
    (two_bytes_lem a.q
    (fixed 2 a.q.len
    (good_at k.sheet a.kind 1 a.q (c.in-Ok.ensures ∙ ap kind_number c.in-Sort.is) (c.requires.good k)).sized)))

pub returns-in-Symbol : goal.returns-in-Symbol
returns-in-Symbol c k =
    let a = c.args in
    c.with_symbol.ensures k.sheet k.same
    (name_early k.sheet a.q
    (good_at k.sheet a.kind 2 a.q (c.in-Ok.ensures ∙ ap kind_number c.in-Symbol.is) (c.requires.good k)))
    ∙ ap packed
    (add_at k.sheet a.kind 2 (a.q.b0 ∷ args_of a.q) (payload_bytes a.q) (c.in-Ok.ensures ∙ ap kind_number c.in-Symbol.is)
    (front a.q))

pub returns-in-Term : goal.returns-in-Term
returns-in-Term c k =
    let a = c.args in
    c.with_term.ensures k.sheet k.same
    (term_there k.sheet a.q
    (good_at k.sheet a.kind 3 a.q (c.in-Ok.ensures ∙ ap kind_number c.in-Term.is) (c.requires.good k)))
    ∙ ap packed
    (add_at k.sheet a.kind 3 (a.q.b0 ∷ args_of a.q) (payload_bytes a.q) (c.in-Ok.ensures ∙ ap kind_number c.in-Term.is)
    (front a.q))

pub returns-in-Same : goal.returns-in-Same
returns-in-Same c k =
    let a = c.args in
    c.with_literal.ensures k.sheet true k.same refl
    ∙ ap packed
    (add_at k.sheet a.kind 4 (a.q.b0 ∷ a.q.b1 ∷ []) (payload_bytes a.q) (c.in-Ok.ensures ∙ ap kind_number c.in-Same.is)
    (two_bytes_lem a.q
    (fixed 2 a.q.len
    (good_at k.sheet a.kind 4 a.q (c.in-Ok.ensures ∙ ap kind_number c.in-Same.is) (c.requires.good k)).sized)))

pub returns-in-Differ : goal.returns-in-Differ
returns-in-Differ c k =
    let a = c.args in
    c.with_literal-in-Differ.ensures k.sheet false k.same refl
    ∙ ap packed
    (add_at k.sheet a.kind 5 (a.q.b0 ∷ a.q.b1 ∷ []) (payload_bytes a.q) (c.in-Ok.ensures ∙ ap kind_number c.in-Differ.is)
    (two_bytes_lem a.q
    (fixed 2 a.q.len
    (good_at k.sheet a.kind 5 a.q (c.in-Ok.ensures ∙ ap kind_number c.in-Differ.is) (c.requires.good k)).sized)))

pub returns-in-Total : goal.returns-in-Total
returns-in-Total c k =
    let a = c.args in
    c.with_total.ensures k.sheet k.same
    ∙ ap packed
    (add_at k.sheet a.kind 6 (a.q.b0 ∷ []) (payload_bytes a.q) (c.in-Ok.ensures ∙ ap kind_number c.in-Total.is)
    (one_byte a.q
    (fixed 1 a.q.len
    (good_at k.sheet a.kind 6 a.q (c.in-Ok.ensures ∙ ap kind_number c.in-Total.is) (c.requires.good k)).sized)))

pub returns-in-Fill : goal.returns-in-Fill
returns-in-Fill c k =
    let a = c.args in
    c.with_fill.ensures k.sheet k.same
    ∙ ap packed
    (add_at k.sheet a.kind 7 (a.q.b0 ∷ a.q.b1 ∷ []) (payload_bytes a.q) (c.in-Ok.ensures ∙ ap kind_number c.in-Fill.is)
    (two_bytes_lem a.q
    (fixed 2 a.q.len
    (good_at k.sheet a.kind 7 a.q (c.in-Ok.ensures ∙ ap kind_number c.in-Fill.is) (c.requires.good k)).sized)))

pub returns-in_default : goal.returns-in_default
returns-in_default c k =
    let a = c.args in
    absurd
    ((good_placed k.sheet a.kind a.q (c.requires.good k)).known
    (sym (no_rank a.kind c.in_default.ensures)))
