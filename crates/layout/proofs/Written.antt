-- The bytes that have been read are the encoding of the sheet so far: a good record puts its bytes behind them.
use Prim.Native.Nat.{ℕ, zero, suc, ◌+◌, ◌≤◌}
use native.Mathlib.Omega.{arith}
use mathlib.Core.Path.{◌≡◌, refl, ap, sym, ◌∙◌, subst}
use mathlib.Core.List.{List, [], ◌∷◌, ◌++◌, flat_map, append-nil, append_assoc}
use lib.ListN.{length, take, drop, length-drop}
use lib.Seq.{take-add, get_or-drop}
use borrow.Author.Tests.{le-ltb}
use Rattle.logic.specs.Sheet.{Sheet, Bound}
use Rattle.prelude.specs.Lists.{at}
use Rattle.layout.specs.Layout.{kind_of, total, shortest, longest, add, empty}
use Rattle.records.specs.Record.{length_at, kind_at, payload_at}
use Rattle.layout.specs.Encode.{packet, bound_bytes, symbol_bytes, term_bytes, literal_bytes, fill_bytes, total_bytes, encode}
use Rattle.layout.proofs.Causes.{ranked, Clear, no_total, no_fills, no_literals, no_terms, no_symbols}
use Rattle.layout.proofs.Growing.{Fine, total_least}
use Rattle.layout.proofs.Pack.{no_entries}
use Rattle.layout.proofs.Payloads.{length_part}
use Rattle.layout.proofs.Records.{one_to_three}

-- before the first record
pub encode_empty : encode empty ≡ []
unfolding encode flat_map
encode_empty = refl

-- once a sort has been read, there are bytes
pub encode_some : (sh : Sheet) → 1 ≤ length sh.bounds → length (encode sh) ≡ 0 → ⊥
unfolding encode flat_map
encode_some sh h e = go sh.bounds h e
  where
    go : (l : List Bound) → 1 ≤ length l → length (flat_map bound_bytes l ++ flat_map symbol_bytes sh.symbols ++ flat_map term_bytes sh.terms ++ flat_map literal_bytes sh.literals ++ flat_map fill_bytes sh.fills ++ total_bytes sh.total) ≡ 0 → ⊥
    go [] h e = omega arith
    go (b ∷ l) h e = omega arith

pub total_bytes_lem : (n : ℕ) → 1 ≤ n → total_bytes n ≡ packet 6 (n ∷ [])
total_bytes_lem zero h = absurd (omega arith)
total_bytes_lem (suc n) h = refl

flat_map_more : {A : Type 0} (f : A → List ℕ) (l : List A) (a : A) → flat_map f (l ++ (a ∷ [])) ≡ flat_map f l ++ f a
unfolding flat_map
flat_map_more f [] a = append-nil (f a)
flat_map_more f (x ∷ l) a = ap (λ (r : List ℕ). f x ++ r) (flat_map_more f l a) ∙ sym (append_assoc (f x) (flat_map f l) (f a))

-- a payload by its bytes
spelt_one : (p : List ℕ) → length p ≡ 1 → at p 0 ∷ [] ≡ p
spelt_one [] e = absurd (omega arith)
spelt_one (x ∷ []) e = refl
spelt_one (x ∷ y ∷ p) e = absurd (omega arith)

spelt_two : (p : List ℕ) → length p ≡ 2 → at p 0 ∷ at p 1 ∷ [] ≡ p
spelt_two [] e = absurd (omega arith)
spelt_two (x ∷ p) e = ap (λ (q : List ℕ). x ∷ q) (spelt_one p (omega arith))

spelt_front : (p : List ℕ) → 1 ≤ length p → at p 0 ∷ drop 1 p ≡ p
spelt_front [] h = absurd (omega arith)
spelt_front (x ∷ p) h = refl

-- a good record puts its bytes behind those of the sheet so far, since nothing of a later kind has been read
encode_more : (sh : Sheet) (k : ℕ) (p : List ℕ) → Fine sh k p → encode (add sh (kind_of k) p) ≡ encode sh ++ packet k p
unfolding encode flat_map
encode_more sh zero p f = absurd (f.placed.known refl)
encode_more sh (suc zero) p f =
    let order = f.placed.order in
    let least = f.least in
    let most = f.most in
    rw (← spelt_two p (omega arith), no_entries sh.symbols (no_symbols sh (omega arith)), no_entries sh.terms (no_terms sh (omega arith)), no_entries sh.literals (no_literals sh (omega arith)), no_entries sh.fills (no_fills sh (omega arith)), no_total sh f.placed.open')
    (simp (append-nil, flat_map_more))
encode_more sh (suc (suc zero)) p f =
    let order = f.placed.order in
    let least = f.least in
    rw (← spelt_front p least, no_entries sh.terms (no_terms sh (omega arith)), no_entries sh.literals (no_literals sh (omega arith)), no_entries sh.fills (no_fills sh (omega arith)), no_total sh f.placed.open')
    (simp (append-nil, flat_map_more, append_assoc))
encode_more sh (suc (suc (suc zero))) p f =
    let order = f.placed.order in
    let least = f.least in
    rw (← spelt_front p least, no_entries sh.literals (no_literals sh (omega arith)), no_entries sh.fills (no_fills sh (omega arith)), no_total sh f.placed.open')
    (simp (append-nil, flat_map_more, append_assoc))
encode_more sh (suc (suc (suc (suc zero)))) p f =
    let order = f.placed.order in
    let least = f.least in
    let most = f.most in
    rw (← spelt_two p (omega arith), no_entries sh.fills (no_fills sh (omega arith)), no_total sh f.placed.open') (simp (append-nil, flat_map_more, append_assoc))
encode_more sh (suc (suc (suc (suc (suc zero))))) p f =
    let order = f.placed.order in
    let least = f.least in
    let most = f.most in
    rw (← spelt_two p (omega arith), no_entries sh.fills (no_fills sh (omega arith)), no_total sh f.placed.open') (simp (append-nil, flat_map_more, append_assoc))
encode_more sh (suc (suc (suc (suc (suc (suc zero)))))) p f =
    let least = f.least in
    let most = f.most in
    let one = spelt_one p (omega arith) in
    let some = total_least sh (at p 0) (subst (Clear sh total) (sym one) f.clear) in
    rw (← one, no_total sh f.placed.open', total_bytes_lem (at p 0) some) (simp append-nil)
encode_more sh (suc (suc (suc (suc (suc (suc (suc zero))))))) p f =
    let least = f.least in
    let most = f.most in
    rw (← spelt_two p (omega arith), no_total sh f.placed.open') (simp (append-nil, flat_map_more, append_assoc))
encode_more sh (suc (suc (suc (suc (suc (suc (suc (suc n)))))))) p f = absurd (f.placed.known refl)

-- the bytes of a record at a position, whose kind and length are small
record_at : (s : List ℕ) (i : ℕ) → i + 4 + length_at s i ≤ length s → length_at s i ≤ 3 → kind_at s i ≤ 7
    → take (i + 4 + length_at s i) s ≡ take i s ++ packet (kind_at s i) (payload_at s i)
record_at s i fit few known =
    take-add (i + 4) (length_at s i) s
    ∙ ap (λ (l : List ℕ). l ++ payload_at s i) (take-add i 4 s ∙ ap (λ (l : List ℕ). take i s ++ l) (four (drop i s) (rw (length-drop i s) (omega arith)) ∙ head))
    ∙ append_assoc (take i s) (length (payload_at s i) ∷ 0 ∷ kind_at s i ∷ 0 ∷ []) (payload_at s i)
  where
    four : (l : List ℕ) → 4 ≤ length l → take 4 l ≡ at l 0 ∷ at l 1 ∷ at l 2 ∷ at l 3 ∷ []
    four [] h = absurd (omega arith)
    four (a ∷ []) h = absurd (omega arith)
    four (a ∷ b ∷ []) h = absurd (omega arith)
    four (a ∷ b ∷ c ∷ []) h = absurd (omega arith)
    four (a ∷ b ∷ c ∷ d ∷ l) h = refl

    head : at (drop i s) 0 ∷ at (drop i s) 1 ∷ at (drop i s) 2 ∷ at (drop i s) 3 ∷ [] ≡ length (payload_at s i) ∷ 0 ∷ kind_at s i ∷ 0 ∷ []
    head =
        let e0 : i + 0 ≡ i = omega arith in
        let e3 : i + 3 ≡ i + 2 + 1 = omega arith in
        let b0 = get_or-drop i s 0 0 ∙ ap (at s) e0 in
        let b1 = get_or-drop i s 1 0 in
        let b2 = get_or-drop i s 2 0 in
        let b3 = get_or-drop i s 3 0 ∙ ap (at s) e3 in
        let n = length_part s (i + 4) (length_at s i) fit in
        let x0 : at (drop i s) 0 ≡ length (payload_at s i) = omega arith in
        let x1 : at (drop i s) 1 ≡ 0 = omega arith in
        let x2 : at (drop i s) 2 ≡ kind_at s i = omega arith in
        let x3 : at (drop i s) 3 ≡ 0 = omega arith in
        rw (x0, x1, x2, x3)

-- one good record more has been read
pub encode_next : (s : List ℕ) (i : ℕ) (sh : Sheet) → i + 4 + length_at s i ≤ length s → Fine sh (kind_at s i) (payload_at s i) → take i s ≡ encode sh
    → take (i + 4 + length_at s i) s ≡ encode (add sh (kind_of (kind_at s i)) (payload_at s i))
encode_next s i sh fit f e =
    let k : ℕ = kind_at s i in
    let p : List ℕ = payload_at s i in
    let known = ranked k f.placed.known in
    let few = one_to_three k (length p) known.0 known.1 (rw (le-ltb (length p) (shortest k) f.least, le-ltb (longest k) (length p) f.most)) in
    let n = length_part s (i + 4) (length_at s i) fit in
    record_at s i fit (omega arith) known.1 ∙ ap (λ (l : List ℕ). l ++ packet k p) e ∙ sym (encode_more sh k p f)
