-- Finding on the fitted sheet of an answer gives the old names the very same tables, byte for byte.
use Prim.Native.Nat.{ℕ, suc, ◌+◌, ◌<◌}
use native.Mathlib.Omega.{arith}
use mathlib.Core.Path.{◌≡◌, refl, ap, ap₂, sym, ◌∙◌}
use mathlib.Core.Bool.{false}
use mathlib.Core.Logic.{inl, inr}
use mathlib.Core.List.{List, [], ◌∷◌, ◌++◌, map, append_assoc}
use mathlib.Core.Option.{some}
use lib.ListN.{length, get_or, take}
use lib.Seq.{take-append_seam}
use Rattle.prelude.specs.Tests.{Each}
use Rattle.prelude.specs.Lists.{at}
use Rattle.prelude.proofs.Lists.{at_firsts}
use Rattle.logic.specs.Sheet.{Sheet, Symbol, Term, no_symbol, symbol_at}
use Rattle.logic.specs.WellFormed.{WellFormed}
use Rattle.logic.specs.Structure.{Structure, Candidate, code}
use Rattle.logic.specs.Order.{sizes_of}
use Rattle.logic.specs.Box.{Range, box}
use Rattle.layout.proofs.Longest.{encode_longest}
use Rattle.layout.proofs.Encoding.{encode_read}
use Rattle.tables.specs.Layout.{table_bytes, tables_from, encoded}
use Rattle.answer.specs.Answer.{Entry, answer, structure_of}
use Rattle.answer.specs.Demand.{Answers}
use Rattle.answer.proofs.Lists.{Mem}
use Rattle.answer.proofs.Demand.{demand}
use Rattle.answer.proofs.Rules.{answers_only, cell_of_term}
use Rattle.fitted_sheet.specs.FittedSheet.{fitted_sheet, code_symbols, table_cells, cell_term, too_many}
use Rattle.fitted_sheet.specs.Kept.{fitted_to, Kept}
use Rattle.fitted_sheet.proofs.Entries.{IsCell, many_bounds, no_fills, cell_there, cell_term_lem, cell_listed}
use Rattle.fitted_sheet.proofs.Formed.{formed, fitted_formed}
use Rattle.fitted_sheet.proofs.Answering.{extended, own_args, own_cell, fitted_entry, extended_answers}

-- functions that agree on the members of a list
map_members : {A B : Type 0} (f g : A → B) (l : List A) → ((a : A) → Mem a l → f a ≡ g a) → map f l ≡ map g l
map_members f g [] h = refl
map_members f g (x ∷ l) h = ap₂ ◌∷◌ (h x (inl refl)) (map_members f g l (λ a m. h a (inr m)))

-- equal sizes give equal ranges of argument codes
ranges_same : (n : ℕ) (size other : ℕ → ℕ) → ((s : ℕ) → s < n → size s ≡ other s) → (ss : List ℕ) → Each (λ s. s < n) ss → ◌≡◌ {A = List Range} (map (λ s. record { least = 0; many = size s }) ss) (map (λ s. record { least = 0; many = other s }) ss)
ranges_same n size other h [] e = refl
ranges_same n size other h (s ∷ ss) e = ap₂ (λ (m : ℕ) (l : List Range). record { least = 0; many = m } ∷ l) (h s e.0) (ranges_same n size other h ss e.1)

-- the tables of a front part of the symbols stand in front
tables_front : (K : Structure) (f : ℕ) (gs hs : List Symbol) → (rest : List ℕ) × (tables_from K f (gs ++ hs) ≡ tables_from K f gs ++ rest)
tables_front K f [] hs = (tables_from K f hs, refl)
tables_front K f (g ∷ gs) hs =
    let r : (rest : List ℕ) × (tables_from K (suc f) (gs ++ hs) ≡ tables_from K (suc f) gs ++ rest) = tables_front K (suc f) gs hs in (
      r.0,
      ap (λ (l : List ℕ). table_bytes K f g.params ++ l) r.1 ∙ sym (append_assoc (table_bytes K f g.params) (tables_from K (suc f) gs) r.0),
    )

-- symbols with the same tables one by one have the same tables one after the other
tables_same : (K M : Structure) (f : ℕ) (gs : List Symbol) → ((j m : ℕ) → j < length gs → m ≡ f + j → table_bytes K m (get_or gs j no_symbol).params ≡ table_bytes M m (get_or gs j no_symbol).params) → tables_from K f gs ≡ tables_from M f gs
tables_same K M f [] h = refl
tables_same K M f (g ∷ gs) h =
    ap₂ ◌++◌ (h 0 f (omega arith) (omega arith)) (tables_same K M (suc f) gs (λ j m l e. h (suc j) m (omega arith) (omega arith)))

-- what answers the fitted sheet has the old sizes, and the old tables hold what they held
module _ (sh : Sheet) (w : WellFormed sh) (M : Structure) (k : Candidate M sh) (few : too_many (fitted_sheet sh M) ≡ false) (K : Structure) (a : Answers (fitted_sheet sh M) (fitted_entry sh M) K) where
  kept_size : (s : ℕ) → s < length sh.bounds → K.size s ≡ M.size s
  kept_size s h =
      sym (at_firsts (length (fitted_sheet sh M).bounds) K.size s (omega (arith, many_bounds sh M)))
      ∙ ap (λ (l : List ℕ). at l s) a.sizes
      ∙ at_firsts (length sh.bounds) M.size s h

  kept_cell : (f : ℕ) (cs : List ℕ) → IsCell sh M f cs → K.table f cs ≡ M.table f cs
  kept_cell f cs h =
      let c = code (extended sh M) (fitted_sheet sh M) in
      sym (cell_of_term (fitted_sheet sh M) (formed sh w M k few) (fitted_entry sh M) K a (cell_term sh M f cs) (cell_there sh M f cs h)
      ∙ ap (λ (t : Term). K.table t.symbol (map c t.args)) (cell_term_lem sh M f cs h)
      ∙ ap (K.table f) (own_args sh w M k few f cs h))
      ∙ own_cell sh w M k few f cs h

  kept_table : (f : ℕ) → f < length sh.symbols → table_bytes K f (symbol_at sh f).params ≡ table_bytes M f (symbol_at sh f).params
  kept_table f h =
      ap (λ (rs : List Range). map (K.table f) (box rs)) (ranges_same (length sh.bounds) K.size M.size kept_size (symbol_at sh f).params (w.params f h))
      ∙ map_members (K.table f) (M.table f) (table_cells sh M f) (λ cs m. kept_cell f cs (h, cell_listed sh M f cs m))

  kept_tables : take (length (encoded M sh)) (encoded K (fitted_sheet sh M)) ≡ encoded M sh
  unfolding fitted_sheet
  kept_tables =
      let r = tables_front K 0 sh.symbols (code_symbols sh M) in
      let alike : tables_from K 0 sh.symbols ≡ tables_from M 0 sh.symbols = tables_same K M 0 sh.symbols (λ j m l e. let q : m ≡ j = omega arith in rw q (kept_table j l)) in
      let whole : encoded K (fitted_sheet sh M) ≡ encoded M sh ++ r.0 =
      ap₂ ◌++◌ a.sizes (r.1 ∙ ap (λ (l : List ℕ). l ++ r.0) alike) ∙ sym (append_assoc (sizes_of M sh) (tables_from M 0 sh.symbols) r.0) in
      ap (take (length (encoded M sh))) whole ∙ take-append_seam (encoded M sh) r.0

-- THEOREM: the fitted sheet of an answer is a sheet, and finding on it gives the old names the very same tables
pub fitted_kept : (sh : Sheet) → WellFormed sh → (e : Entry) → answer sh ≡ some e → too_many (fitted_to sh e) ≡ false → Kept sh e
fitted_kept sh w e q few =
    record {
      reads = encode_read (fitted_to sh e) v;
      short = omega (arith, encode_longest (fitted_to sh e) v, no_fills sh (structure_of sh e));
      found = fitted_entry sh (structure_of sh e);
      answers = found;
      sizes = a.sizes;
      tables = kept_tables sh w (structure_of sh e) k few (structure_of (fitted_to sh e) (fitted_entry sh (structure_of sh e))) ((demand (fitted_to sh e) v).finds (fitted_entry sh (structure_of sh e)) found);
    }
  where
    a : Answers sh e (structure_of sh e)
    a = (demand sh w).finds e q

    k : Candidate (structure_of sh e) sh
    k = a.candidate

    v : WellFormed (fitted_to sh e)
    v = fitted_formed sh w e q few

    found : answer (fitted_to sh e) ≡ some (fitted_entry sh (structure_of sh e))
    found = answers_only (fitted_to sh e) v (fitted_entry sh (structure_of sh e)) (extended sh (structure_of sh e)) (extended_answers sh w (structure_of sh e) k few)
