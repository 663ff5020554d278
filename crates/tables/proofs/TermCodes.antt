-- The codes of the terms, one after the other: each is the entry at the place that the codes of its arguments give.
use Prim.Native.Nat.{ℕ, ◌+◌, ◌*◌, ◌≤◌, ◌<◌}
use native.Mathlib.Nat.{not-suc-le-zero}
use native.Mathlib.Decide.{dec_lt}
use native.Mathlib.Omega.{arith}
use mathlib.Core.Path.{◌≡◌, ap, ap₂, sym, ◌∙◌}
use mathlib.Core.List.{List, map}
use lib.ListN.{length, set, length-map, replicate}
use lib.Seq.{get_or-set_same, get_or-set_other}
use Rattle.logic.specs.Sheet.{Sheet, symbol_at, term_at, sort_at}
use Rattle.prelude.specs.Lists.{at}
use Rattle.prelude.proofs.Lists.{map_each, at_zeros}
use Rattle.logic.specs.Structure.{code}
use Rattle.logic.proofs.Meaning.{code_is}
use Rattle.logic.proofs.Codes.{code_past}
use Rattle.layout.specs.Packed.{first, second}
use Rattle.layout.specs.declared.Parsed.{Parsed}
use Rattle.tables.specs.Layout.{place, offset, decoded}
use Rattle.tables.specs.Parts.{width, Laying}
use Rattle.tables.proofs.Cells.{place_same}
use Rattle.tables.proofs.Widths.{place_by_width}
use Rattle.tables.proofs.Packing.{packs_views, param1_packed, params_below_8}
use Rattle.tables.proofs.Offsets.{offset_same}

-- the codes of the first i terms stand, and nothing behind them
pub record CodesTo (p : Parsed) (sizes offsets t : List ℕ) (i : ℕ) (codes : List ℕ) : Type 0 where
  pub code : (sh : Sheet) → Laying sh p sizes offsets t → (j : ℕ) → j < i → at codes j ≡ code (decoded sh t) sh j
  pub none : (j : ℕ) → i ≤ j → at codes j ≡ 0

pub codes_none : (p : Parsed) (sizes offsets t : List ℕ) (n : ℕ) → CodesTo p sizes offsets t 0 (replicate n 0)
codes_none p sizes offsets t n = record { code = λ sh y j h. absurd (not-suc-le-zero h); none = λ j h. at_zeros n j }

-- the next code is the cell that its symbol and its arguments' codes give
code_now : (p : Parsed) (sizes offsets t : List ℕ) (i : ℕ) (codes : List ℕ) (v : ℕ) → CodesTo p sizes offsets t i codes → i < p.terms → p.terms ≤ 128 → (at p.symbol i < 64 → v ≡ at t (at offsets (at p.symbol i) + (at codes (at p.arg0 i) * width (at sizes) (at p.param1 (at p.symbol i)) + at codes (at p.arg1 i)))) → (sh : Sheet) → Laying sh p sizes offsets t → v ≡ code (decoded sh t) sh i
code_now p sizes offsets t i codes v c h l e sh y =
    let k = y.packs in
    let w = k.formed in
    let s = packs_views sh p k in
    let b : i < length sh.terms = omega (arith, s.terms) in
    let f = (term_at sh i).symbol in
    let g = w.symbol i b in
    let params = (symbol_at sh f).params in
    let args = (term_at sh i).args in
    let many : length args ≡ length params = sym (length-map args (sort_at sh)) ∙ ap length (w.arg_sorts i b) in
    let z : at codes 255 ≡ 0 = c.none 255 (omega arith) in
    let there : v ≡ at t (at offsets f + (at codes (first args) * width (at sizes) (second params) + at codes (second args))) =
    rw (s.symbol i b, param1_packed sh p k f g, s.arg0 i b, s.arg1 i b) at (e (rw (s.symbol i b) (omega (arith, w.symbols)))) in
    let start : at offsets f ≡ offset sh (at t) f = y.offset f (omega arith) ∙ offset_same sh w (at sizes) (at t) y.size f (omega arith) in
    let spot : at codes (first args) * width (at sizes) (second params) + at codes (second args) ≡ place (at t) params (map (code (decoded sh t) sh) args) =
    place_by_width (at sizes) (at codes) params args (w.arity f g) many (params_below_8 sh p k f g) z
    ∙ place_same (length sh.bounds) (at sizes) (at t) params (map (at codes) args) (w.params f g) y.size
    ∙ ap (place (at t) params) (map_each (at codes) (code (decoded sh t) sh) (λ a. a < i) (c.code sh y) args (w.args i b)) in
    there ∙ ap₂ (λ (m x : ℕ). at t (m + x)) start spot ∙ sym (code_is (decoded sh t) sh w i b)

pub codes_more : (p : Parsed) (sizes offsets t : List ℕ) (i : ℕ) (codes : List ℕ) (f x y v : ℕ) → CodesTo p sizes offsets t i codes → length codes ≡ 256 → i < p.terms → p.terms ≤ 128 → f ≡ at p.symbol i → x ≡ at codes (at p.arg0 i) → y ≡ at codes (at p.arg1 i) → (f < 64 → v ≡ at t (at offsets f + (x * width (at sizes) (at p.param1 f) + y))) → CodesTo p sizes offsets t (i + 1) (set codes i v)
codes_more p sizes offsets t i codes f x y v c n h l ef ex ey e =
    record {
      code = λ sh k j b.
          elim (dec_lt j i) [
            | yes z ↦ get_or-set_other codes i j v 0 (omega arith) ∙ c.code sh k j z
            | no z ↦ let q : j ≡ i = omega arith in rw q (get_or-set_same codes i v 0 (omega arith) ∙ code_now p sizes offsets t i codes v c h l (λ b'. rw (ef, ex, ey) at (e (rw ef b'))) sh k)
          ];
      none = λ j b. get_or-set_other codes i j v 0 (omega arith) ∙ c.none j (omega arith);
    }

pub codes_all : (p : Parsed) (sizes offsets t codes : List ℕ) → CodesTo p sizes offsets t p.terms codes → (sh : Sheet) → Laying sh p sizes offsets t → (i : ℕ) → at codes i ≡ code (decoded sh t) sh i
codes_all p sizes offsets t codes c sh y i =
    let s = packs_views sh p y.packs in
    elim (dec_lt i p.terms) [
      | yes b ↦ c.code sh y i b
      | no b ↦ c.none i (omega arith) ∙ sym (code_past (decoded sh t) sh i (omega (arith, s.terms)))
    ]
