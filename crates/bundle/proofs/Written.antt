-- The bytes that sheets are bundled as, and the sheets of these bytes: each decides the other, so that cause 18 is exactly that bytes are no bundle of sheets.
use Prim.Native.Nat.{ℕ, zero, suc, ◌+◌, ◌/◌, ◌%◌, ◌≤◌, ◌<◌}
use native.Mathlib.Omega.{arith}
use native.Mathlib.Decide.{dec_lt, ℕ_discrete}
use mathlib.Core.Path.{◌≡◌, refl, ap, ap₂, sym, ◌∙◌, subst}
use mathlib.Core.Logic.{◌↔◌}
use mathlib.Core.Bool.{Bool, true, false}
use mathlib.Core.List.{List, [], ◌∷◌, ◌++◌, map, append_assoc, append-nil}
use mathlib.Core.Option.{Option, none, some, get_or}
use lib.ListN.{length, take, drop, length-append, length-map, length-drop, take-append-drop, drop_of_length-le}
use lib.Seq.{drop-cons, drop-drop, drop-append-add, take-append_seam, get_or-append-add, length-take-le}
use Rattle.prelude.specs.Lists.{at}
use Rattle.records.specs.Record.{cut, length_at, kind_at}
use Rattle.records.specs.Step.{step_at}
use Rattle.records.specs.declared.Step.TheVariants.{Record}
use Rattle.records.proofs.Steps.{step_record, step_cut, step_uncut, uncut}
use Rattle.bundle.specs.Bundle.{Part, most_sheets, sheet_kind, sheet_in, cons_part, parts_from, parts, sheets}
use Rattle.bundle.specs.Written.{sheet_record, bundle_of, Short, Bundled, Bytes}
use Rattle.bundle.proofs.Located.{from_end, from_cut, from_other, from_over, from_sheet, parts_few}

-- ---- from sheets to bytes and back
-- one record among the bytes
module _ (pre sheet rest : List ℕ) where
  abbrev among : List ℕ
  among = pre ++ (sheet_record sheet ++ rest)

  length_among : length among ≡ length pre + (4 + (length sheet + length rest))
  length_among = omega (arith, length-append pre (sheet_record sheet ++ rest), length-append sheet rest)

  byte : (k : ℕ) → at among (length pre + k) ≡ at (sheet_record sheet ++ rest) k
  byte k = get_or-append-add pre (sheet_record sheet ++ rest) k 0

  length_at_lem : length_at among (length pre) ≡ length sheet
  length_at_lem =
      let here : at among (length pre) ≡ length sheet % 256 = ap (at among) (let z : length pre ≡ length pre + 0 = omega arith in z) ∙ byte 0 in
      omega (arith, here, byte 1)

  kind_at_lem : kind_at among (length pre) ≡ sheet_kind
  kind_at_lem =
      let third : length pre + 2 + 1 ≡ length pre + 3 = omega arith in
      omega (arith, byte 2, ap (at among) third ∙ byte 3)

  record_at : step_at among (length pre) ≡ Record sheet_kind (length pre + 4) (length sheet)
  record_at =
      sym (step_record among (length pre) (omega (arith, length_at_lem, length_among)))
      ∙ ap₂ (λ (k n : ℕ). Record k (length pre + 4) n) kind_at_lem length_at_lem

  sheet_in_lem : sheet_in among (record { start = length pre + 4; len = length sheet }) ≡ sheet
  sheet_in_lem = ap (take (length sheet)) (drop-append-add pre (sheet_record sheet ++ rest) 4) ∙ take-append_seam sheet rest

-- the sheets from a position on
record Taken (n : ℕ) (s : List ℕ) (i : ℕ) (ps : List (List ℕ)) : Type 0 where
  list : List Part
  found : parts_from n s i ≡ some list
  same : map (sheet_in s) list ≡ ps

taken : (n : ℕ) (s pre : List ℕ) (ps : List (List ℕ)) → s ≡ pre ++ bundle_of ps → length ps ≤ n → Taken n s (length pre) ps
unfolding bundle_of
taken n s pre [] e h =
    record { list = []; found = from_end s (length pre) n (omega (arith, ap length (e ∙ append-nil pre))); same = refl }
taken zero s pre (p ∷ ps) e h = absurd (omega arith)
taken (suc n) s pre (p ∷ ps) e h =
    let one : step_at s (length pre) ≡ Record sheet_kind (length pre + 4) (length p) = rw e (record_at pre p (bundle_of ps)) in
    let behind : length (pre ++ sheet_record p) ≡ length pre + 4 + length p = omega (arith, length-append pre (sheet_record p)) in
    let next = taken n s (pre ++ sheet_record p) ps (e ∙ sym (append_assoc pre (sheet_record p) (bundle_of ps))) (omega arith) in
    record {
      list = record { start = length pre + 4; len = length p } ∷ next.list;
      found =
          from_sheet s (length pre) sheet_kind (length pre + 4) (length p) one n refl
          ∙ ap (λ (i : ℕ). cons_part (record { start = length pre + 4; len = length p }) (parts_from n s i)) (sym behind)
          ∙ ap (cons_part (record { start = length pre + 4; len = length p })) next.found;
      same = ap₂ (λ (x : List ℕ) (l : List (List ℕ)). x ∷ l) (rw e (sheet_in_lem pre p (bundle_of ps))) next.same;
    }

-- THEOREM: the sheets of a bundle that was written are those that it was written from
pub bundled_sheets : (ps : List (List ℕ)) → length ps ≤ most_sheets → sheets (bundle_of ps) ≡ ps
unfolding parts
bundled_sheets ps h =
    let x = taken most_sheets (bundle_of ps) [] ps refl h in
    ap (λ (o : Option (List Part)). map (sheet_in (bundle_of ps)) (get_or o [])) x.found ∙ x.same

-- ---- from bytes to sheets and back
-- what a list of parts, if there is one, says
none_some : {qs : List Part} → none ≡ some qs → ⊥
none_some e = let z : ◌≡◌ {A = ℕ} 0 1 = cc in absurd (omega arith)

some_same : {qs rs : List Part} → some qs ≡ some rs → qs ≡ rs
some_same e = cc

consed : (p : Part) (o : Option (List Part)) (qs : List Part) → cons_part p o ≡ some qs → (rest : List Part) × (o ≡ some rest) × (qs ≡ p ∷ rest)
consed p none qs e = absurd (none_some e)
consed p (some rest) qs e = (rest, refl, sym (some_same e))

module _ (s : List ℕ) (bytes : Bytes s) where
  -- the bytes from a position on are the records of these sheets
  record Records (i : ℕ) (ps : List (List ℕ)) : Type 0 where
    same : drop i s ≡ bundle_of ps
    short : Short ps

  -- one byte in front
  drop_to : (j k : ℕ) → j < length s → suc j ≡ k → drop j s ≡ at s j ∷ drop k s
  drop_to j k h e = drop-cons s j 0 h ∙ ap (λ (n : ℕ). at s j ∷ drop n s) e

  -- one record in front
  module _ (i : ℕ) (whole : i + 4 + length_at s i ≤ length s) (kind : kind_at s i ≡ sheet_kind) where
    abbrev sheet : List ℕ
    sheet = take (length_at s i) (drop (i + 4) s)

    sheet_length : length sheet ≡ length_at s i
    sheet_length = length-take-le (length_at s i) (drop (i + 4) s) (omega (arith, length-drop (i + 4) s))

    behind : drop (i + 4) s ≡ sheet ++ drop (i + 4 + length_at s i) s
    behind = sym (take-append-drop (length_at s i) (drop (i + 4) s)) ∙ ap (λ (l : List ℕ). sheet ++ l) (drop-drop (length_at s i) (i + 4) s)

    head : drop i s ≡ at s i ∷ at s (i + 1) ∷ at s (i + 2) ∷ at s (i + 3) ∷ drop (i + 4) s
    head =
        drop_to i (i + 1) (omega arith) (omega arith)
        ∙ ap (λ (l : List ℕ). at s i ∷ l)
        (drop_to (i + 1) (i + 2) (omega arith) (omega arith)
        ∙ ap (λ (l : List ℕ). at s (i + 1) ∷ l)
        (drop_to (i + 2) (i + 3) (omega arith) (omega arith)
        ∙ ap (λ (l : List ℕ). at s (i + 2) ∷ l) (drop_to (i + 3) (i + 4) (omega arith) (omega arith))))

    one_record : drop i s ≡ sheet_record sheet ++ drop (i + 4 + length_at s i) s
    one_record =
        let b0 : at s i ≡ length sheet % 256 = omega (arith, sheet_length, bytes i) in
        let b1 : at s (i + 1) ≡ length sheet / 256 = omega (arith, sheet_length, bytes i) in
        let last : at s (i + 2 + 1) ≡ at s (i + 3) = ap (at s) (let e : i + 2 + 1 ≡ i + 3 = omega arith in e) in
        let b2 : at s (i + 2) ≡ sheet_kind = omega (arith, kind) in
        let b3 : at s (i + 3) ≡ 0 = omega (arith, kind, last) in
        head
        ∙ ap₂ (λ (a b : ℕ). a ∷ b ∷ at s (i + 2) ∷ at s (i + 3) ∷ drop (i + 4) s) b0 b1
        ∙ ap₂ (λ (a b : ℕ). length sheet % 256 ∷ length sheet / 256 ∷ a ∷ b ∷ drop (i + 4) s) b2 b3
        ∙ ap (λ (l : List ℕ). length sheet % 256 ∷ length sheet / 256 ∷ sheet_kind ∷ 0 ∷ l) behind

    one_short : length sheet < 65536
    one_short = omega (arith, sheet_length, bytes i, bytes (i + 1))

  ended : (i : ℕ) (ps : List (List ℕ)) → length s ≤ i → ps ≡ [] → Records i ps
  unfolding bundle_of
  ended i ps h e = subst (Records i) (sym e) (record { same = drop_of_length-le s h; short = tt })

  more : (i : ℕ) → i < length s → cut s i ≡ false → kind_at s i ≡ sheet_kind → (ps : List (List ℕ)) → Records (i + 4 + length_at s i) ps → Records i (take (length_at s i) (drop (i + 4) s) ∷ ps)
  unfolding bundle_of
  more i h c k ps x =
      record {
        same = one_record i (uncut s i c) k ∙ ap (λ (l : List ℕ). sheet_record (take (length_at s i) (drop (i + 4) s)) ++ l) x.same;
        short = (one_short i (uncut s i c) k, x.short);
      }

  records : (n i : ℕ) (qs : List Part) → parts_from n s i ≡ some qs → Records i (map (sheet_in s) qs)
  records zero i qs e =
      elim (dec_lt i (length s)) [
        | yes g ↦ absurd (by g (cut s i) refl)
        | no g ↦ ended i (map (sheet_in s) qs) (omega arith) (ap (map (sheet_in s)) (some_same (sym e ∙ from_end s i zero (omega arith))))
      ]
    where
      by : i < length s → (b : Bool) → cut s i ≡ b → ⊥
      by g true c = none_some (sym (from_cut s i zero (sym (step_cut s i g c))) ∙ e)
      by g false c = none_some (sym (from_over s i (kind_at s i) (i + 4) (length_at s i) (step_uncut s i g c)) ∙ e)
  records (suc m) i qs e =
      elim (dec_lt i (length s)) [
        | yes g ↦ by (λ j rs. records m j rs) g (cut s i) refl
        | no g ↦ ended i (map (sheet_in s) qs) (omega arith) (ap (map (sheet_in s)) (some_same (sym e ∙ from_end s i (suc m) (omega arith))))
      ]
    where
      by : ((j : ℕ) (rs : List Part) → parts_from m s j ≡ some rs → Records j (map (sheet_in s) rs)) → i < length s → (b : Bool) → cut s i ≡ b → Records i (map (sheet_in s) qs)
      by rest g true c = absurd (none_some (sym (from_cut s i (suc m) (sym (step_cut s i g c))) ∙ e))
      by rest g false c =
          elim (ℕ_discrete (kind_at s i) sheet_kind) [
            | yes k ↦
                let x = consed _ (parts_from m s (i + 4 + length_at s i)) qs (sym (from_sheet s i (kind_at s i) (i + 4) (length_at s i) (step_uncut s i g c) m k) ∙ e) in
                subst (Records i) (sym (ap (map (sheet_in s)) x.2)) (more i g c k (map (sheet_in s) x.0) (rest (i + 4 + length_at s i) x.0 x.1))
            | no k ↦ absurd (none_some (sym (from_other s i (kind_at s i) (i + 4) (length_at s i) (step_uncut s i g c) (suc m) k) ∙ e))
          ]

  -- where there are parts, the bytes are the bundle of its sheets
  found : (o : Option (List Part)) → parts_from most_sheets s 0 ≡ o → 1 ≤ length (get_or o []) → Records 0 (map (sheet_in s) (get_or o []))
  found none e h = absurd (omega arith)
  found (some qs) e h = records most_sheets 0 qs e

  sheets_bundled : 1 ≤ length (parts s) → (s ≡ bundle_of (sheets s)) × Bundled (sheets s)
  unfolding parts
  sheets_bundled h =
      let x = found (parts_from most_sheets s 0) refl h in
      let many = length-map (parts s) (sheet_in s) in
      (x.same, record { some = omega (arith, many); few = omega (arith, many, parts_few s); short = x.short })

  -- THEOREM: the sheets of bytes are those whose bundle the bytes are
  pub bundle_exactly : (ps : List (List ℕ)) → Bundled ps → (sheets s ≡ ps) ↔ (s ≡ bundle_of ps)
  bundle_exactly ps b = (
    λ e. (sheets_bundled (omega (arith, b.some, ap length e, length-map (parts s) (sheet_in s)))).0 ∙ ap bundle_of e,
    λ e. ap sheets e ∙ bundled_sheets ps b.few,
  )

  -- THEOREM: the bundle itself is at fault exactly where the bytes are no bundle of sheets
  pub fault_exactly : (parts s ≡ []) ↔ ((ps : List (List ℕ)) → Bundled ps → s ≡ bundle_of ps → ⊥)
  fault_exactly = (λ e ps b q. at_fault e ps b q, none_bundled)
    where
      at_fault : parts s ≡ [] → (ps : List (List ℕ)) → Bundled ps → s ≡ bundle_of ps → ⊥
      at_fault e ps b q = omega (arith, b.some, ap length (sym (ap (map (sheet_in s)) e) ∙ (bundle_exactly ps b).1 q))

      none_bundled : ((ps : List (List ℕ)) → Bundled ps → s ≡ bundle_of ps → ⊥) → parts s ≡ []
      none_bundled h = by (parts s) refl
        where
          by : (qs : List Part) → parts s ≡ qs → parts s ≡ []
          by [] e = e
          by (q ∷ qs) e = let x = sheets_bundled (omega (arith, ap length e)) in absurd (h (sheets s) x.1 x.0)
