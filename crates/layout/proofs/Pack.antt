-- The arrays of a parsed sheet: what stands in them, and that storing at the count adds an entry.
use Prim.Native.Nat.{ℕ, suc, ◌+◌, ◌-◌, ◌<◌}
use native.Mathlib.Omega.{arith}
use mathlib.Core.Path.{◌≡◌, refl, ap, sym, ◌∙◌}
use mathlib.Core.List.{List, [], ◌∷◌, ◌++◌, map, map-append, append_assoc}
use lib.ListN.{length, get_or, set, replicate, length-append, length-map}
use lib.Seq.{set-append_seam}
use Rattle.logic.specs.Sheet.{Sheet, Bound, Symbol, Term, Literal, Fill, symbol_at, term_at, fill_at, sort_at}
use Rattle.layout.specs.Layout.{add_bound, add_symbol, add_term, add_literal, add_fill, with_total}
use Rattle.layout.specs.Packed.{pad, first, second, bit, packed}
use Rattle.layout.specs.declared.Parsed.{Parsed}
use Rattle.layout.proofs.View.{at_pad_map, packed_views}

pad_snoc : (n : ℕ) (l : List ℕ) (v : ℕ) → length l < n → set (pad n l) (length l) v ≡ pad n (l ++ (v ∷ []))
pad_snoc n l v h =
    ap (λ (k : ℕ). set (l ++ replicate k 0) (length l) v) room
    ∙ set-append_seam l 0 (replicate (n - suc (length l)) 0) v
    ∙ sym (append_assoc l (v ∷ []) (replicate (n - suc (length l)) 0))
    ∙ ap (λ (k : ℕ). (l ++ (v ∷ [])) ++ replicate k 0) left
  where
    room : n - length l ≡ suc (n - suc (length l))
    room = omega arith

    left : n - suc (length l) ≡ n - length (l ++ (v ∷ []))
    left = rw (length-append l (v ∷ [])) (omega arith)

-- one entry more
pub pad_more : {A : Type 0} (n : ℕ) (f : A → ℕ) (l : List A) (a : A) → length l < n → set (pad n (map f l)) (length l) (f a) ≡ pad n (map f (l ++ (a ∷ [])))
pad_more n f l a h =
    ap (λ (k : ℕ). set (pad n (map f l)) k (f a)) (sym (length-map l f))
    ∙ pad_snoc n (map f l) (f a) (rw (length-map l f) h)
    ∙ ap (pad n) (sym (map-append f l (a ∷ [])))

count_more : {A : Type 0} (l : List A) (a : A) → length l + 1 ≡ length (l ++ (a ∷ []))
count_more l a = sym (length-append l (a ∷ []))

-- the parsed sheet with one entry more in the arrays of a kind
abbrev pub more_bound : Parsed → Bound → Parsed
more_bound p b =
    record {
      sorts = p.sorts + 1;
      floor = set p.floor p.sorts b.floor;
      ceiling = set p.ceiling p.sorts b.ceiling;
      symbols = p.symbols;
      result = p.result;
      param0 = p.param0;
      param1 = p.param1;
      terms = p.terms;
      symbol = p.symbol;
      arg0 = p.arg0;
      arg1 = p.arg1;
      sort = p.sort;
      literals = p.literals;
      equal = p.equal;
      left = p.left;
      right = p.right;
      fills = p.fills;
      filled = p.filled;
      filler = p.filler;
      total = p.total;
    }

pub bound_packed : (sh : Sheet) (b : Bound) → length sh.bounds < 8 → more_bound (packed sh) b ≡ packed (add_bound sh b)
unfolding packed
bound_packed sh b h =
    cc (count_more sh.bounds b, pad_more 8 (λ (b : Bound). b.floor) sh.bounds b h, pad_more 8 (λ (b : Bound). b.ceiling) sh.bounds b h)

abbrev pub more_symbol : Parsed → ℕ → ℕ → ℕ → Parsed
more_symbol p r a b =
    record {
      sorts = p.sorts;
      floor = p.floor;
      ceiling = p.ceiling;
      symbols = p.symbols + 1;
      result = set p.result p.symbols r;
      param0 = set p.param0 p.symbols a;
      param1 = set p.param1 p.symbols b;
      terms = p.terms;
      symbol = p.symbol;
      arg0 = p.arg0;
      arg1 = p.arg1;
      sort = p.sort;
      literals = p.literals;
      equal = p.equal;
      left = p.left;
      right = p.right;
      fills = p.fills;
      filled = p.filled;
      filler = p.filler;
      total = p.total;
    }

pub no_entries : {A : Type 0} (l : List A) → length l ≡ 0 → l ≡ []
no_entries [] e = refl
no_entries (x ∷ l) e = absurd (omega arith)

-- the sorts of the terms stay, since there is no term yet
pub symbol_packed : (sh : Sheet) (f : Symbol) → length sh.symbols < 64 → length sh.terms ≡ 0
    → more_symbol (packed sh) f.result (first f.params) (second f.params) ≡ packed (add_symbol sh f)
unfolding packed
symbol_packed sh f h e =
    cc (
      count_more sh.symbols f,
      pad_more 64 (λ (f : Symbol). f.result) sh.symbols f h,
      pad_more 64 (λ (f : Symbol). first f.params) sh.symbols f h,
      pad_more 64 (λ (f : Symbol). second f.params) sh.symbols f h,
      ap (λ (l : List Term). pad 128 (map (λ (t : Term). (symbol_at sh t.symbol).result) l)) (no_entries sh.terms e),
      ap (λ (l : List Term). pad 128 (map (λ (t : Term). (symbol_at (add_symbol sh f) t.symbol).result) l)) (no_entries sh.terms e),
    )

abbrev pub more_term : Parsed → ℕ → ℕ → ℕ → ℕ → Parsed
more_term p f a b s =
    record {
      sorts = p.sorts;
      floor = p.floor;
      ceiling = p.ceiling;
      symbols = p.symbols;
      result = p.result;
      param0 = p.param0;
      param1 = p.param1;
      terms = p.terms + 1;
      symbol = set p.symbol p.terms f;
      arg0 = set p.arg0 p.terms a;
      arg1 = set p.arg1 p.terms b;
      sort = set p.sort p.terms s;
      literals = p.literals;
      equal = p.equal;
      left = p.left;
      right = p.right;
      fills = p.fills;
      filled = p.filled;
      filler = p.filler;
      total = p.total;
    }

pub term_packed : (sh : Sheet) (t : Term) → length sh.terms < 128
    → more_term (packed sh) t.symbol (first t.args) (second t.args) (symbol_at sh t.symbol).result ≡ packed (add_term sh t)
unfolding packed
term_packed sh t h =
    cc (
      count_more sh.terms t,
      pad_more 128 (λ (t : Term). t.symbol) sh.terms t h,
      pad_more 128 (λ (t : Term). first t.args) sh.terms t h,
      pad_more 128 (λ (t : Term). second t.args) sh.terms t h,
      pad_more 128 (λ (t : Term). (symbol_at sh t.symbol).result) sh.terms t h,
    )

abbrev pub more_literal : Parsed → ℕ → ℕ → ℕ → Parsed
more_literal p e l r =
    record {
      sorts = p.sorts;
      floor = p.floor;
      ceiling = p.ceiling;
      symbols = p.symbols;
      result = p.result;
      param0 = p.param0;
      param1 = p.param1;
      terms = p.terms;
      symbol = p.symbol;
      arg0 = p.arg0;
      arg1 = p.arg1;
      sort = p.sort;
      literals = p.literals + 1;
      equal = set p.equal p.literals e;
      left = set p.left p.literals l;
      right = set p.right p.literals r;
      fills = p.fills;
      filled = p.filled;
      filler = p.filler;
      total = p.total;
    }

pub literal_packed : (sh : Sheet) (l : Literal) → length sh.literals < 128
    → more_literal (packed sh) (bit l.equal) l.left l.right ≡ packed (add_literal sh l)
unfolding packed
literal_packed sh l h =
    cc (
      count_more sh.literals l,
      pad_more 128 (λ (l : Literal). bit l.equal) sh.literals l h,
      pad_more 128 (λ (l : Literal). l.left) sh.literals l h,
      pad_more 128 (λ (l : Literal). l.right) sh.literals l h,
    )

abbrev pub more_fill : Parsed → ℕ → ℕ → Parsed
more_fill p f i =
    record {
      sorts = p.sorts;
      floor = p.floor;
      ceiling = p.ceiling;
      symbols = p.symbols;
      result = p.result;
      param0 = p.param0;
      param1 = p.param1;
      terms = p.terms;
      symbol = p.symbol;
      arg0 = p.arg0;
      arg1 = p.arg1;
      sort = p.sort;
      literals = p.literals;
      equal = p.equal;
      left = p.left;
      right = p.right;
      fills = p.fills + 1;
      filled = set p.filled p.fills f;
      filler = set p.filler p.fills i;
      total = p.total;
    }

pub fill_packed : (sh : Sheet) (x : Fill) → length sh.fills < 64 → more_fill (packed sh) x.symbol x.term ≡ packed (add_fill sh x)
unfolding packed
fill_packed sh x h =
    cc (count_more sh.fills x, pad_more 64 (λ (x : Fill). x.symbol) sh.fills x h, pad_more 64 (λ (x : Fill). x.term) sh.fills x h)

abbrev pub more_total : Parsed → ℕ → Parsed
more_total p n =
    record {
      sorts = p.sorts;
      floor = p.floor;
      ceiling = p.ceiling;
      symbols = p.symbols;
      result = p.result;
      param0 = p.param0;
      param1 = p.param1;
      terms = p.terms;
      symbol = p.symbol;
      arg0 = p.arg0;
      arg1 = p.arg1;
      sort = p.sort;
      literals = p.literals;
      equal = p.equal;
      left = p.left;
      right = p.right;
      fills = p.fills;
      filled = p.filled;
      filler = p.filler;
      total = n;
    }

pub total_packed : (sh : Sheet) (n : ℕ) → more_total (packed sh) n ≡ packed (with_total sh n)
unfolding packed
total_packed sh n = refl

-- what the counts and the arrays of a parsed sheet hold
pub record Contents (p : Parsed) (sh : Sheet) : Type 0 where
  pub sorts : p.sorts ≡ length sh.bounds
  pub symbols : p.symbols ≡ length sh.symbols
  pub terms : p.terms ≡ length sh.terms
  pub literals : p.literals ≡ length sh.literals
  pub fills : p.fills ≡ length sh.fills
  pub total : p.total ≡ sh.total
  pub result : (f : ℕ) → f < length sh.symbols → get_or p.result f 0 ≡ (symbol_at sh f).result
  pub param0 : (f : ℕ) → f < length sh.symbols → get_or p.param0 f 0 ≡ first (symbol_at sh f).params
  pub param1 : (f : ℕ) → f < length sh.symbols → get_or p.param1 f 0 ≡ second (symbol_at sh f).params
  pub symbol : (i : ℕ) → i < length sh.terms → get_or p.symbol i 0 ≡ (term_at sh i).symbol
  pub arg0 : (i : ℕ) → i < length sh.terms → get_or p.arg0 i 0 ≡ first (term_at sh i).args
  pub arg1 : (i : ℕ) → i < length sh.terms → get_or p.arg1 i 0 ≡ second (term_at sh i).args
  pub sort : (i : ℕ) → i < length sh.terms → get_or p.sort i 0 ≡ sort_at sh i
  pub filled : (k : ℕ) → k < length sh.fills → get_or p.filled k 0 ≡ (fill_at sh k).symbol
  pub filler : (k : ℕ) → k < length sh.fills → get_or p.filler k 0 ≡ (fill_at sh k).term

packed_contents : (sh : Sheet) → Contents (packed sh) sh
unfolding packed
packed_contents sh =
    let v = packed_views sh in
    record {
      sorts = refl;
      symbols = refl;
      terms = refl;
      literals = refl;
      fills = refl;
      total = refl;
      result = at_pad_map 64 (λ (f : Symbol). f.result) sh.symbols _;
      param0 = at_pad_map 64 (λ (f : Symbol). first f.params) sh.symbols _;
      param1 = at_pad_map 64 (λ (f : Symbol). second f.params) sh.symbols _;
      symbol = v.symbol;
      arg0 = v.arg0;
      arg1 = v.arg1;
      sort = v.sort;
      filled = at_pad_map 64 (λ (x : Fill). x.symbol) sh.fills _;
      filler = at_pad_map 64 (λ (x : Fill). x.term) sh.fills _;
    }

pub contents : (p : Parsed) (sh : Sheet) → p ≡ packed sh → Contents p sh
contents p sh e = rw e (packed_contents sh)
