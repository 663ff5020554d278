-- `assembling::fitted_sheet` meets its contract: each list is added behind the lists before it, and the limits leave room for all.
use native.Mathlib.Omega.{arith}
use mathlib.Core.Path.{◌∙◌}
use Rattle.prelude.specs.Lists.{at}
use Rattle.tables.proofs.Whole.{packs_limited}
use Rattle.assembling.specs.Parts.{Building}
use Rattle.assembling.proofs.Assembling.{few, same_sum, same_pairs, starts_are, with_fields, with_code_symbols, with_code_terms, with_cells, with_differs, with_sames, fields_counts, symbols_counts, terms_counts, cells_counts, differs_counts, codes_small, assembled}
use Rattle.assembling.proofs.fitted_sheet.Goals as goal

pub starts_of-starts-requires : goal.starts_of-starts-requires
starts_of-starts-requires c =
    let t = c.requires.0 in
    let sz = c.requires.1.0 in
    let p = c.args.p in
    let size = at c.args.sizes in
    ((packs_limited t.sheet p t.packs).sorts, omega (arith, same_sum p t size sz, t.most))

pub sized_fields-fields-requires : goal.sized_fields-fields-requires
sized_fields-fields-requires c = (packs_limited c.requires.0.sheet c.args.p c.requires.0.packs).sorts

pub with_code_symbols-named-requires : goal.with_code_symbols-named-requires
with_code_symbols-named-requires c =
    let t = c.requires.0 in
    let sz = c.requires.1.0 in
    let p = c.args.p in
    let size = at c.args.sizes in
    let b0 : Building c.with_old_names-bare.result =
    record { sheet = with_fields p t size sz; same = c.with_old_names-bare.ensures t.sheet p.sorts size t.packs c.sized_fields-fields.ensures } in
    let counts = fields_counts p t size sz c.with_old_names-bare.result b0.same in (
      b0,
      counts.1,
      (packs_limited t.sheet p t.packs).sorts,
      omega (arith, counts.0, same_sum p t size sz, (few p t c.requires.1.4).symbols),
    )

pub with_code_terms-coded-requires : goal.with_code_terms-coded-requires
with_code_terms-coded-requires c =
    let t = c.requires.0 in
    let sz = c.requires.1.0 in
    let p = c.args.p in
    let size = at c.args.sizes in
    let b0 : Building c.with_old_names-bare.result =
    record { sheet = with_fields p t size sz; same = c.with_old_names-bare.ensures t.sheet p.sorts size t.packs c.sized_fields-fields.ensures } in
    let b1 : Building c.with_code_symbols-named.result = record { sheet = with_code_symbols p t size sz; same = c.with_code_symbols-named.ensures b0 } in
    let counts = symbols_counts p t size sz c.with_code_symbols-named.result b1.same in
    let f = few p t c.requires.1.4 in (
      b1,
      omega (arith, counts.0, c.requires.1.3),
      omega (arith, counts.0, f.symbols),
      omega (arith, counts.1, c.requires.1.3, f.terms),
    )

pub with_cell_terms-said-requires : goal.with_cell_terms-said-requires
with_cell_terms-said-requires c =
    let t = c.requires.0 in
    let sz = c.requires.1.0 in
    let p = c.args.p in
    let size = at c.args.sizes in
    let starts = c.starts_of-starts in
    let st = starts_are p t size sz (at starts.result) starts.ensures in
    let b0 : Building c.with_old_names-bare.result =
    record { sheet = with_fields p t size sz; same = c.with_old_names-bare.ensures t.sheet p.sorts size t.packs c.sized_fields-fields.ensures } in
    let b1 : Building c.with_code_symbols-named.result = record { sheet = with_code_symbols p t size sz; same = c.with_code_symbols-named.ensures b0 } in
    let b2 : Building c.with_code_terms-coded.result = record { sheet = with_code_terms p t size sz c.args.sum; same = c.with_code_terms-coded.ensures b1 } in
    let counts = terms_counts p t size sz c.args.sum c.with_code_terms-coded.result b2.same in
    let f = few p t c.requires.1.4 in
    record {
      building = (b2, omega (arith, counts.0), omega (arith, counts.0, f.symbols));
      sizes_of = (t, (sz, st, omega (arith, counts.1, c.requires.1.3, f.terms)));
    }

pub with_differs-apart-requires : goal.with_differs-apart-requires
with_differs-apart-requires c =
    let t = c.requires.0 in
    let sz = c.requires.1.0 in
    let p = c.args.p in
    let size = at c.args.sizes in
    let starts = c.starts_of-starts in
    let st = starts_are p t size sz (at starts.result) starts.ensures in
    let b0 : Building c.with_old_names-bare.result =
    record { sheet = with_fields p t size sz; same = c.with_old_names-bare.ensures t.sheet p.sorts size t.packs c.sized_fields-fields.ensures } in
    let b1 : Building c.with_code_symbols-named.result = record { sheet = with_code_symbols p t size sz; same = c.with_code_symbols-named.ensures b0 } in
    let b2 : Building c.with_code_terms-coded.result = record { sheet = with_code_terms p t size sz c.args.sum; same = c.with_code_terms-coded.ensures b1 } in
    let b3 : Building c.with_cell_terms-said.result = record { sheet = with_cells p t size sz c.args.sum; same = c.with_cell_terms-said.ensures b2 t sz st } in (
      b3,
      (packs_limited t.sheet p t.packs).sorts,
      omega (arith, cells_counts p t size sz c.args.sum c.with_cell_terms-said.result b3.same, same_pairs p t size sz, (few p t c.requires.1.4).literals),
      codes_small p t size sz (at starts.result) st,
    )

pub with_sames-same-requires : goal.with_sames-same-requires
with_sames-same-requires c =
    let t = c.requires.0 in
    let sz = c.requires.1.0 in
    let p = c.args.p in
    let size = at c.args.sizes in
    let starts = c.starts_of-starts in
    let st = starts_are p t size sz (at starts.result) starts.ensures in
    let b0 : Building c.with_old_names-bare.result =
    record { sheet = with_fields p t size sz; same = c.with_old_names-bare.ensures t.sheet p.sorts size t.packs c.sized_fields-fields.ensures } in
    let b1 : Building c.with_code_symbols-named.result = record { sheet = with_code_symbols p t size sz; same = c.with_code_symbols-named.ensures b0 } in
    let b2 : Building c.with_code_terms-coded.result = record { sheet = with_code_terms p t size sz c.args.sum; same = c.with_code_terms-coded.ensures b1 } in
    let b3 : Building c.with_cell_terms-said.result = record { sheet = with_cells p t size sz c.args.sum; same = c.with_cell_terms-said.ensures b2 t sz st } in
    let b4 : Building c.with_differs-apart.result = record { sheet = with_differs p t size sz c.args.sum (at starts.result); same = c.with_differs-apart.ensures b3 } in
    let f = few p t c.requires.1.4 in
    record {
      building = b4;
      starts_of = (
        t,
        (
          st,
          c.requires.1.1,
          c.requires.1.2,
          c.requires.1.3,
          omega (arith, c.requires.1.3, f.terms),
          omega (arith, differs_counts p t size sz c.args.sum (at starts.result) c.with_differs-apart.result b4.same, same_pairs p t size sz, f.literals),
        ),
      );
    }

pub overflow_cast-total : goal.overflow_cast-total
overflow_cast-total c = omega (arith, c.requires.1.3, c.requires.0.most)

pub returns : goal.returns
returns c t sz o w e =
    let p = c.args.p in
    let size = at c.args.sizes in
    let starts = c.starts_of-starts in
    let st = starts_are p t size sz (at starts.result) starts.ensures in
    let b0 : Building c.with_old_names-bare.result =
    record { sheet = with_fields p t size sz; same = c.with_old_names-bare.ensures t.sheet p.sorts size t.packs c.sized_fields-fields.ensures } in
    let b1 : Building c.with_code_symbols-named.result = record { sheet = with_code_symbols p t size sz; same = c.with_code_symbols-named.ensures b0 } in
    let b2 : Building c.with_code_terms-coded.result = record { sheet = with_code_terms p t size sz c.args.sum; same = c.with_code_terms-coded.ensures b1 } in
    let b3 : Building c.with_cell_terms-said.result = record { sheet = with_cells p t size sz c.args.sum; same = c.with_cell_terms-said.ensures b2 t sz st } in
    let b4 : Building c.with_differs-apart.result = record { sheet = with_differs p t size sz c.args.sum (at starts.result); same = c.with_differs-apart.ensures b3 } in
    c.with_total.ensures (with_sames p t size sz c.args.sum (at starts.result)) (c.with_sames-same.ensures b4 t st o w e)
    ∙ assembled p t size sz (at starts.result) st c.args.sum e
