-- A parsed sheet that is built list by list: how long its lists are, and one list more of each kind.
use Prim.Native.Nat.{ℕ, ◌+◌, ◌<◌}
use native.Mathlib.Numerals.{add-one}
use mathlib.Core.Path.{◌≡◌, refl, ap, sym, ◌∙◌}
use mathlib.Core.List.{List, [], ◌++◌, append-nil, append_assoc}
use lib.ListN.{length, length-append}
use native.Mathlib.Omega.{arith}
use Rattle.prelude.specs.Lists.{collect}
use Rattle.logic.specs.Sheet.{Sheet, Symbol, Term, Literal}
use Rattle.layout.specs.Packed.{packed}
use Rattle.layout.specs.declared.Parsed.{Parsed}
use Rattle.layout.proofs.Pack.{contents}
use Rattle.assembling.specs.Parts.{Building, more_symbols, more_terms, more_literals, sized, with_names_of}

-- nothing more
no_symbols : (sh : Sheet) → packed sh ≡ packed (more_symbols sh [])
unfolding packed
no_symbols sh =
    ap (λ (l : List Symbol). packed (record { bounds = sh.bounds; symbols = l; terms = sh.terms; literals = sh.literals; fills = sh.fills; total = sh.total })) (sym (append-nil sh.symbols))

no_terms : (sh : Sheet) → packed sh ≡ packed (more_terms sh [])
unfolding packed
no_terms sh =
    ap (λ (l : List Term). packed (record { bounds = sh.bounds; symbols = sh.symbols; terms = l; literals = sh.literals; fills = sh.fills; total = sh.total })) (sym (append-nil sh.terms))

no_literals : (sh : Sheet) → packed sh ≡ packed (more_literals sh [])
unfolding packed
no_literals sh =
    ap (λ (l : List Literal). packed (record { bounds = sh.bounds; symbols = sh.symbols; terms = sh.terms; literals = l; fills = sh.fills; total = sh.total })) (sym (append-nil sh.literals))

-- the next of lists one after the other, as a loop counts
collect_next : {A : Type 0} (l : List A) (n : ℕ) (h : ℕ → List A) → (l ++ collect n h) ++ h n ≡ l ++ collect (n + 1) h
collect_next l n h = append_assoc l (collect n h) (h n) ∙ ap (λ (k : ℕ). l ++ collect k h) (sym (add-one n))

next_symbols : (sh : Sheet) (n : ℕ) (h : ℕ → List Symbol) → packed (more_symbols (more_symbols sh (collect n h)) (h n)) ≡ packed (more_symbols sh (collect (n + 1) h))
next_symbols sh n h =
    ap (λ (l : List Symbol). packed (record { bounds = sh.bounds; symbols = l; terms = sh.terms; literals = sh.literals; fills = sh.fills; total = sh.total })) (collect_next sh.symbols n h)

next_terms : (sh : Sheet) (n : ℕ) (h : ℕ → List Term) → packed (more_terms (more_terms sh (collect n h)) (h n)) ≡ packed (more_terms sh (collect (n + 1) h))
next_terms sh n h =
    ap (λ (l : List Term). packed (record { bounds = sh.bounds; symbols = sh.symbols; terms = l; literals = sh.literals; fills = sh.fills; total = sh.total })) (collect_next sh.terms n h)

next_literals : (sh : Sheet) (n : ℕ) (h : ℕ → List Literal) → packed (more_literals (more_literals sh (collect n h)) (h n)) ≡ packed (more_literals sh (collect (n + 1) h))
next_literals sh n h =
    ap (λ (l : List Literal). packed (record { bounds = sh.bounds; symbols = sh.symbols; terms = sh.terms; literals = l; fills = sh.fills; total = sh.total })) (collect_next sh.literals n h)

-- ---- what a loop keeps: the first n lists h stand behind what was there
abbrev pub SymbolsTo : Parsed → ℕ → (ℕ → List Symbol) → Parsed → Type 0
SymbolsTo q n h r = (b : Building q) → r ≡ packed (more_symbols b.sheet (collect n h))

abbrev pub TermsTo : Parsed → ℕ → (ℕ → List Term) → Parsed → Type 0
TermsTo q n h r = (b : Building q) → r ≡ packed (more_terms b.sheet (collect n h))

abbrev pub LiteralsTo : Parsed → ℕ → (ℕ → List Literal) → Parsed → Type 0
LiteralsTo q n h r = (b : Building q) → r ≡ packed (more_literals b.sheet (collect n h))

module _ (q : Parsed) (h : ℕ → List Symbol) where
  pub symbols_none : SymbolsTo q 0 h q
  symbols_none b = b.same ∙ no_symbols b.sheet

  pub symbols_next : (n : ℕ) (r r' : Parsed) → SymbolsTo q n h r → ((b : Building r) → r' ≡ packed (more_symbols b.sheet (h n))) → SymbolsTo q (n + 1) h r'
  symbols_next n r r' so_far more b =
      more (record { sheet = more_symbols b.sheet (collect n h); same = so_far b }) ∙ next_symbols b.sheet n h

  pub symbols_building : (n : ℕ) (r : Parsed) → Building q → SymbolsTo q n h r → Building r
  symbols_building n r b so_far = record { sheet = more_symbols b.sheet (collect n h); same = so_far b }

  -- how many there are then
  pub symbols_count : (n : ℕ) (r : Parsed) → Building q → SymbolsTo q n h r → (r.symbols ≡ q.symbols + length (collect n h)) × (r.terms ≡ q.terms)
  symbols_count n r b so_far =
      let old = contents q b.sheet b.same in
      let new = contents r (more_symbols b.sheet (collect n h)) (so_far b) in
      (omega (arith, old.symbols, new.symbols, length-append b.sheet.symbols (collect n h)), new.terms ∙ sym old.terms)

module _ (q : Parsed) (h : ℕ → List Term) where
  pub terms_none : TermsTo q 0 h q
  terms_none b = b.same ∙ no_terms b.sheet

  pub terms_next : (n : ℕ) (r r' : Parsed) → TermsTo q n h r → ((b : Building r) → r' ≡ packed (more_terms b.sheet (h n))) → TermsTo q (n + 1) h r'
  terms_next n r r' so_far more b =
      more (record { sheet = more_terms b.sheet (collect n h); same = so_far b }) ∙ next_terms b.sheet n h

  pub terms_building : (n : ℕ) (r : Parsed) → Building q → TermsTo q n h r → Building r
  terms_building n r b so_far = record { sheet = more_terms b.sheet (collect n h); same = so_far b }

  pub terms_count : (n : ℕ) (r : Parsed) → Building q → TermsTo q n h r → (r.terms ≡ q.terms + length (collect n h)) × (r.symbols ≡ q.symbols)
  terms_count n r b so_far =
      let old = contents q b.sheet b.same in
      let new = contents r (more_terms b.sheet (collect n h)) (so_far b) in
      (omega (arith, old.terms, new.terms, length-append b.sheet.terms (collect n h)), new.symbols ∙ sym old.symbols)

module _ (q : Parsed) (h : ℕ → List Literal) where
  pub literals_none : LiteralsTo q 0 h q
  literals_none b = b.same ∙ no_literals b.sheet

  pub literals_next : (n : ℕ) (r r' : Parsed) → LiteralsTo q n h r → ((b : Building r) → r' ≡ packed (more_literals b.sheet (h n))) → LiteralsTo q (n + 1) h r'
  literals_next n r r' so_far more b =
      more (record { sheet = more_literals b.sheet (collect n h); same = so_far b }) ∙ next_literals b.sheet n h

  pub literals_building : (n : ℕ) (r : Parsed) → Building q → LiteralsTo q n h r → Building r
  literals_building n r b so_far = record { sheet = more_literals b.sheet (collect n h); same = so_far b }

  pub literals_count : (n : ℕ) (r : Parsed) → Building q → LiteralsTo q n h r → r.literals ≡ q.literals + length (collect n h)
  literals_count n r b so_far =
      let old = contents q b.sheet b.same in
      let new = contents r (more_literals b.sheet (collect n h)) (so_far b) in
      omega (arith, old.literals, new.literals, length-append b.sheet.literals (collect n h))

-- a name cannot come behind an expression
pub still_early : (r : Parsed) (b : Building r) → r.terms ≡ 0 → length b.sheet.terms ≡ 0
still_early r b e = sym (contents r b.sheet b.same).terms ∙ e

-- a name that is there
pub name_there : (r : Parsed) (b : Building r) (f : ℕ) → f < r.symbols → f < length b.sheet.symbols
name_there r b f h = omega (arith, (contents r b.sheet b.same).symbols)

-- the names of one parsed sheet beside all else of another
abbrev pub names_from : Parsed → Parsed → Parsed
names_from q p =
    record {
      sorts = q.sorts;
      floor = q.floor;
      ceiling = q.ceiling;
      symbols = p.symbols;
      result = p.result;
      param0 = p.param0;
      param1 = p.param1;
      terms = q.terms;
      symbol = q.symbol;
      arg0 = q.arg0;
      arg1 = q.arg1;
      sort = q.sort;
      literals = q.literals;
      equal = q.equal;
      left = q.left;
      right = q.right;
      fills = q.fills;
      filled = q.filled;
      filler = q.filler;
      total = q.total;
    }

pub names_packed : (sh : Sheet) (n : ℕ) (size : ℕ → ℕ) → names_from (packed (sized n size)) (packed sh) ≡ packed (with_names_of sh (sized n size))
unfolding packed
names_packed sh n size = refl
