-- `encoder::write_sheet` meets its contract: the records of each kind behind those of the kind before are the sheet's encoding.
use native.Mathlib.Omega.{arith}
use Prim.Native.Nat.{◌≤◌}
use Rattle.std.proofs.Common.{rules}
use Rattle.prelude.proofs.Pasted.{wrote_both}
use Rattle.encoder.specs.Parts.{sort_record, symbol_record, term_record, literal_record}
use Rattle.encoder.proofs.Sheets.{stands_fits, sheet_written}
use Rattle.encoder.proofs.write_sheet.Goals as goal

pub write_records-sorts-requires-clause-callable : goal.write_records-sorts-requires-clause-callable
write_records-sorts-requires-clause-callable c =
    let most : c.args.p.sorts ≤ 8 = (stands_fits c.args.p c.requires.0 c.requires.1).counts.sorts in
    search rules

pub write_records-sorts-requires-clause-fit : goal.write_records-sorts-requires-clause-fit
write_records-sorts-requires-clause-fit c =
    let f = stands_fits c.args.p c.requires.0 c.requires.1 in
    (sort_record c.args.p, λ i r h q. search rules, omega (arith, f.bytes, c.requires.2))

pub write_records-symbols-requires-clause-callable : goal.write_records-symbols-requires-clause-callable
write_records-symbols-requires-clause-callable c =
    let most : c.args.p.symbols ≤ 64 = (stands_fits c.args.p c.requires.0 c.requires.1).counts.symbols in
    search rules

pub write_records-symbols-requires-clause-fit : goal.write_records-symbols-requires-clause-fit
write_records-symbols-requires-clause-fit c =
    let f = stands_fits c.args.p c.requires.0 c.requires.1 in
    let sorts = c.write_records-sorts.ensures (sort_record c.args.p) (λ i r h q. search rules) in
    (symbol_record c.args.p, λ i r h q. search rules, omega (arith, f.bytes, c.requires.2, sorts.end, c.write_records-sorts.auto.out))

pub write_records-terms-requires-clause-callable : goal.write_records-terms-requires-clause-callable
write_records-terms-requires-clause-callable c =
    let most : c.args.p.terms ≤ 128 = (stands_fits c.args.p c.requires.0 c.requires.1).counts.terms in
    search rules

pub write_records-terms-requires-clause-fit : goal.write_records-terms-requires-clause-fit
write_records-terms-requires-clause-fit c =
    let f = stands_fits c.args.p c.requires.0 c.requires.1 in
    let sorts = c.write_records-sorts.ensures (sort_record c.args.p) (λ i r h q. search rules) in
    let symbols = c.write_records-symbols.ensures (symbol_record c.args.p) (λ i r h q. search rules) in
    (term_record c.args.p, λ i r h q. search rules, omega (arith, f.bytes, c.requires.2, sorts.end, c.write_records-sorts.auto.out, symbols.end, c.write_records-symbols.auto.out))

pub write_records-literals-requires-clause-callable : goal.write_records-literals-requires-clause-callable
write_records-literals-requires-clause-callable c =
    let most : c.args.p.literals ≤ 128 = (stands_fits c.args.p c.requires.0 c.requires.1).counts.literals in
    search rules

pub write_records-literals-requires-clause-fit : goal.write_records-literals-requires-clause-fit
write_records-literals-requires-clause-fit c =
    let f = stands_fits c.args.p c.requires.0 c.requires.1 in
    let sorts = c.write_records-sorts.ensures (sort_record c.args.p) (λ i r h q. search rules) in
    let symbols = c.write_records-symbols.ensures (symbol_record c.args.p) (λ i r h q. search rules) in
    let terms = c.write_records-terms.ensures (term_record c.args.p) (λ i r h q. search rules) in
    (literal_record c.args.p, λ i r h q. search rules, omega (arith, f.bytes, c.requires.2, sorts.end, c.write_records-sorts.auto.out, symbols.end, c.write_records-symbols.auto.out, terms.end, c.write_records-terms.auto.out))

pub write_total-requires : goal.write_total-requires
write_total-requires c =
    let f = stands_fits c.args.p c.requires.0 c.requires.1 in
    let sorts = c.write_records-sorts.ensures (sort_record c.args.p) (λ i r h q. search rules) in
    let symbols = c.write_records-symbols.ensures (symbol_record c.args.p) (λ i r h q. search rules) in
    let terms = c.write_records-terms.ensures (term_record c.args.p) (λ i r h q. search rules) in
    let literals = c.write_records-literals.ensures (literal_record c.args.p) (λ i r h q. search rules) in
    (f.total, omega (arith, f.bytes, c.requires.2, sorts.end, c.write_records-sorts.auto.out, symbols.end, c.write_records-symbols.auto.out, terms.end, c.write_records-terms.auto.out, literals.end, c.write_records-literals.auto.out))

pub returns : goal.returns
returns c sh k =
    let d = c.args.out.now in
    let sorts = c.write_records-sorts.ensures (sort_record c.args.p) (λ i r h q. search rules) in
    let symbols = c.write_records-symbols.ensures (symbol_record c.args.p) (λ i r h q. search rules) in
    let terms = c.write_records-terms.ensures (term_record c.args.p) (λ i r h q. search rules) in
    let literals = c.write_records-literals.ensures (literal_record c.args.p) (λ i r h q. search rules) in
    sheet_written sh c.args.p k c.requires.1 d _ _ (wrote_both (wrote_both (wrote_both (wrote_both sorts symbols) terms) literals) c.write_total.ensures)
