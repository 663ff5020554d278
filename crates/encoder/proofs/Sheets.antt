-- The records of a parsed sheet without fills are the encoding of every sheet that it stands for, so they fit a buffer of 2,161 bytes.
use Prim.Native.Nat.{ℕ, zero, suc, ◌+◌, ◌≤◌, ◌<◌}
use native.Mathlib.Omega.{arith}
use mathlib.Core.Path.{◌≡◌, refl, ap, ap₂, sym, ◌∙◌}
use mathlib.Core.Bool.{Bool, true, false, cond}
use mathlib.Core.List.{List, [], ◌∷◌, ◌++◌, flat_map, append-nil, append_assoc}
use lib.ListN.{length, get_or, length-append}
use lib.Dec.{eqb}
use Rattle.prelude.specs.Limits.{most_total}
use Rattle.prelude.specs.Lists.{collect}
use Rattle.prelude.proofs.Collect.{collect_same}
use Rattle.logic.specs.Sheet.{Sheet, symbol_at, term_at, literal_at, bound_at, no_bound, no_symbol, no_term, no_literal}
use Rattle.logic.proofs.Meaning.{few_arguments}
use Rattle.layout.specs.Packed.{view, bit}
use Rattle.layout.specs.Views.{Views}
use Rattle.layout.specs.Encode.{bound_bytes, symbol_bytes, term_bytes, literal_bytes, total_bytes, encode}
use Rattle.layout.specs.declared.Parsed.{Parsed}
use Rattle.layout.proofs.AtMostTwo.{Pair, each_weaken}
use Rattle.layout.proofs.Longest.{encode_longest}
use Rattle.layout.proofs.Pack.{no_entries, contents}
use Rattle.tables.specs.Parts.{Packs, Limited}
use Rattle.tables.proofs.Packing.{packs_views, symbols_packed, result_packed, param0_packed, param1_packed}
use Rattle.tables.proofs.Whole.{packs_limited}
use Rattle.encoder.specs.SheetWritten.{Stands, SheetWritten}
use Rattle.prelude.specs.Pasted.{Wrote}
use Rattle.encoder.specs.Parts.{short_record, sort_record, symbol_record, term_record, literal_record, sheet_bytes}
use Rattle.encoder.proofs.Placing.{wrote_front}
use Rattle.encoder.proofs.ShortRecords.{pair_record}

-- the lists of a list's entries, one after the other, by the entries' numbers
collect_front : (n : ℕ) (h : ℕ → List ℕ) → collect (suc n) h ≡ h 0 ++ collect n (λ i. h (suc i))
collect_front zero h = sym (append-nil (h 0))
collect_front (suc n) h =
    ap (λ (l : List ℕ). l ++ h (suc n)) (collect_front n h) ∙ append_assoc (h 0) (collect n (λ i. h (suc i))) (h (suc n))

flat_map_collect : {A : Type 0} (f : A → List ℕ) (d : A) (l : List A) → collect (length l) (λ i. f (get_or l i d)) ≡ flat_map f l
unfolding flat_map
flat_map_collect f d [] = refl
flat_map_collect f d (a ∷ l) =
    collect_front (length l) (λ i. f (get_or (a ∷ l) i d)) ∙ ap (λ (r : List ℕ). f a ++ r) (flat_map_collect f d l)

-- the records of one kind, by the numbers of a list's entries
by_entry : {A : Type 0} (f : A → List ℕ) (d : A) (l : List A) (n : ℕ) (h : ℕ → List ℕ) → n ≡ length l → ((i : ℕ) → i < length l → h i ≡ f (get_or l i d)) → collect n h ≡ flat_map f l
by_entry f d l n h e each =
    ap (λ (m : ℕ). collect m h) e ∙ collect_same (length l) h (λ i. f (get_or l i d)) each ∙ flat_map_collect f d l

-- one number that is there
single : (x : ℕ) → x < 255 → Pair (x ∷ [])
single x h = record { few = omega arith; small = (h, tt) }

module _ (sh : Sheet) (p : Parsed) (k : Packs sh p) where
  v : Views sh (view p)
  v = packs_views sh p k

  sort_record_lem : (s : ℕ) → s < length sh.bounds → sort_record p s ≡ bound_bytes (bound_at sh s)
  sort_record_lem s h =
      let z = k.formed.ceiling s h in
      ap₂ (λ (a b : ℕ). short_record 1 a b 255) (v.floor s h) (v.ceiling s h)
      ∙ pair_record 1 (bound_at sh s).floor ((bound_at sh s).ceiling ∷ []) (single (bound_at sh s).ceiling (omega arith))

  symbol_record_lem : (f : ℕ) → f < length sh.symbols → symbol_record p f ≡ symbol_bytes (symbol_at sh f)
  symbol_record_lem f h =
      let z = k.formed.sorts in
      rw (result_packed sh p k f h, param0_packed sh p k f h, param1_packed sh p k f h)
      (pair_record 2 (symbol_at sh f).result (symbol_at sh f).params
      (record { few = k.formed.arity f h; small = each_weaken (length sh.bounds) 255 (symbol_at sh f).params (omega arith) (k.formed.params f h) }))

  term_record_lem : (i : ℕ) → i < length sh.terms → term_record p i ≡ term_bytes (term_at sh i)
  term_record_lem i h =
      let z = k.formed.terms in
      rw (v.symbol i h, v.arg0 i h, v.arg1 i h)
      (pair_record 3 (term_at sh i).symbol (term_at sh i).args
      (record { few = few_arguments sh k.formed i h; small = each_weaken i 255 (term_at sh i).args (omega arith) (k.formed.args i h) }))

  literal_record_lem : (j : ℕ) → j < length sh.literals → literal_record p j ≡ literal_bytes (literal_at sh j)
  literal_record_lem j h =
      let z = k.formed.terms in
      let b = k.formed.right j h in
      rw (v.equal j h, v.left j h, v.right j h, kind (literal_at sh j).equal)
      (pair_record (cond (literal_at sh j).equal 4 5) (literal_at sh j).left ((literal_at sh j).right ∷ []) (single (literal_at sh j).right (omega arith)))
    where
      kind : (e : Bool) → ◌≡◌ {A = ℕ} (cond (eqb (bit e) 1) 4 5) (cond e 4 5)
      kind true = refl
      kind false = refl

  pub sheet_bytes_lem : p.fills ≡ 0 → sheet_bytes p ≡ encode sh
  unfolding encode flat_map
  sheet_bytes_lem none =
      rw (
        by_entry bound_bytes no_bound sh.bounds p.sorts (sort_record p) v.sorts sort_record_lem,
        by_entry symbol_bytes no_symbol sh.symbols p.symbols (symbol_record p) (symbols_packed sh p k) symbol_record_lem,
        by_entry term_bytes no_term sh.terms p.terms (term_record p) v.terms term_record_lem,
        by_entry literal_bytes no_literal sh.literals p.literals (literal_record p) v.literals literal_record_lem,
        v.total,
        no_entries sh.fills (sym (contents p sh k.same).fills ∙ none),
      )
      (simp append-nil)

  pub sheet_written : p.fills ≡ 0 → (d d' : List ℕ) (r : ℕ) → Wrote d 0 (sheet_bytes p) d' r → SheetWritten sh d d' r
  sheet_written none d d' r w =
      let f = wrote_front d (encode sh) d' r (rw (sheet_bytes_lem none) at w) in
      record { length = f.0; bytes = f.1 }

-- what holds of a parsed sheet that stands for some sheet: the counts and the total are within the limits, and the records fit
pub record Fits (p : Parsed) : Type 0 where
  pub counts : Limited p
  pub total : p.total ≤ most_total
  pub bytes :
      length (collect p.sorts (sort_record p))
      + length (collect p.symbols (symbol_record p))
      + length (collect p.terms (term_record p))
      + length (collect p.literals (literal_record p))
      + length (total_bytes p.total)
      ≤ 2161

pub stands_fits : (p : Parsed) → Stands p → p.fills ≡ 0 → Fits p
stands_fits p s none =
    let sh = s.sheet in
    let k = s.packs in
    let longest : length (sheet_bytes p) ≤ 2161 = omega (arith, ap length (sheet_bytes_lem sh p k none), encode_longest sh k.formed, (contents p sh k.same).fills) in
    record {
      counts = packs_limited sh p k;
      total = omega (arith, (packs_views sh p k).total, k.formed.total);
      bytes = simp length-append at longest;
    }
