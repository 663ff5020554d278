-- How long the encoding of a well-formed sheet can be: at most 2,161 bytes and 6 for each fill, so at most 2,545. Crate longest_sheet has one of
-- that length.
use Prim.Native.Nat.{ℕ, zero, suc, ◌+◌, ◌*◌, ◌≤◌, ◌<◌}
use native.Mathlib.Nat.{mul-suc}
use native.Mathlib.Omega.{arith}
use mathlib.Core.Path.{◌≡◌, refl, ap, sym, ◌∙◌}
use mathlib.Core.List.{List, [], ◌∷◌, map, flat_map}
use lib.ListN.{length, get_or, length-append}
use Rattle.logic.specs.Sheet.{Sheet, term_at, sort_at, no_bound, no_symbol, no_term, no_literal, no_fill}
use Rattle.prelude.specs.Tests.{Each}
use Rattle.logic.specs.WellFormed.{WellFormed}
use Rattle.logic.proofs.Meaning.{few_arguments}
use Rattle.layout.specs.Encode.{bound_bytes, symbol_bytes, term_bytes, literal_bytes, fill_bytes, total_bytes, encode}

-- records of at most n bytes each; one of them of two bytes less
module _ {A : Type 0} (n : ℕ) (f : A → List ℕ) (d : A) where
  flat_most : (l : List A) → ((i : ℕ) → i < length l → length (f (get_or l i d)) ≤ n) → length (flat_map f l) ≤ n * length l
  unfolding flat_map
  flat_most [] h = omega arith
  flat_most (a ∷ l) h =
      let e = flat_most l (λ i b. h (suc i) (omega arith)) in
      let z = h 0 (omega arith) in
      omega (arith, length-append (f a) (flat_map f l), mul-suc n (length l))

  flat_less : (l : List A) → ((i : ℕ) → i < length l → length (f (get_or l i d)) ≤ n) → (j : ℕ) → j < length l → length (f (get_or l j d)) + 2 ≤ n → length (flat_map f l) + 2 ≤ n * length l
  unfolding flat_map
  flat_less [] h j b e = absurd (omega arith)
  flat_less (a ∷ l) h zero b e =
      let z = flat_most l (λ i b. h (suc i) (omega arith)) in
      omega (arith, length-append (f a) (flat_map f l), mul-suc n (length l))
  flat_less (a ∷ l) h (suc j) b e =
      let z = flat_less l (λ i b. h (suc i) (omega arith)) j (omega arith) e in
      let y = h 0 (omega arith) in
      omega (arith, length-append (f a) (flat_map f l), mul-suc n (length l))

encode_length : (sh : Sheet)
    → length (encode sh)
    ≡ length (flat_map bound_bytes sh.bounds) + length (flat_map symbol_bytes sh.symbols) + length (flat_map term_bytes sh.terms) + length (flat_map literal_bytes sh.literals) + length (flat_map fill_bytes sh.fills) + length (total_bytes sh.total)
unfolding encode
encode_length sh = simp length-append

module _ (sh : Sheet) (w : WellFormed sh) where
  -- the first term takes no argument
  first_bare : 0 < length sh.terms → (term_at sh 0).args ≡ []
  first_bare h = go (term_at sh 0).args (w.args 0 h)
    where
      go : (l : List ℕ) → Each (λ a. a < 0) l → l ≡ []
      go [] e = refl
      go (x ∷ l) e = let z = e.0 in absurd (omega arith)

  -- without a term there is no literal
  pub no_sides : length sh.terms ≡ 0 → length sh.literals ≡ 0
  no_sides e = let none : 1 ≤ length sh.literals → ⊥ = λ h. let z = w.left 0 h in omega arith in omega arith

  -- and no fill
  pub no_fillers : length sh.terms ≡ 0 → length sh.fills ≡ 0
  no_fillers e = let none : 1 ≤ length sh.fills → ⊥ = λ h. let z = w.filler 0 h in omega arith in omega arith

  -- neither the first term nor its symbol takes an argument, so two bytes are missing twice
  pub encode_longest : length (encode sh) ≤ 2161 + 6 * length sh.fills
  encode_longest = go (length sh.terms) refl
    where
      short_symbols : (f : ℕ) → f < length sh.symbols → length (symbol_bytes (get_or sh.symbols f no_symbol)) ≤ 7
      short_symbols f h = let a = w.arity f h in omega arith

      short_terms : (i : ℕ) → i < length sh.terms → length (term_bytes (get_or sh.terms i no_term)) ≤ 7
      short_terms i h = let a = few_arguments sh w i h in omega arith

      bounds : length (flat_map bound_bytes sh.bounds) ≤ 6 * length sh.bounds
      bounds = flat_most 6 bound_bytes no_bound sh.bounds (λ s h. omega arith)

      literals : length (flat_map literal_bytes sh.literals) ≤ 6 * length sh.literals
      literals = flat_most 6 literal_bytes no_literal sh.literals (λ k h. omega arith)

      fills : length (flat_map fill_bytes sh.fills) ≤ 6 * length sh.fills
      fills = flat_most 6 fill_bytes no_fill sh.fills (λ k h. omega arith)

      closing : (n : ℕ) → length (total_bytes n) ≤ 5
      closing zero = omega arith
      closing (suc n) = omega arith

      go : (n : ℕ) → length sh.terms ≡ n → length (encode sh) ≤ 2161 + 6 * length sh.fills
      go zero e =
          let a = flat_most 7 symbol_bytes no_symbol sh.symbols short_symbols in
          let b = flat_most 7 term_bytes no_term sh.terms short_terms in
          let c = no_sides e in
          omega (arith, bounds, literals, fills, closing sh.total, encode_length sh)
      go (suc n) e =
          let bare = first_bare (omega arith) in
          let params = sym (w.arg_sorts 0 (omega arith)) ∙ ap (map (sort_at sh)) bare in
          let p = ap length params in
          let q = ap length bare in
          let a = flat_less 7 symbol_bytes no_symbol sh.symbols short_symbols (term_at sh 0).symbol (w.symbol 0 (omega arith)) (omega arith) in
          let b = flat_less 7 term_bytes no_term sh.terms short_terms 0 (omega arith) (omega arith) in
          omega (arith, bounds, literals, fills, closing sh.total, encode_length sh)
