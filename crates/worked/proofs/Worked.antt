-- Every worked sheet comes out as its row says, for all buffers that are long enough for it. The listing computes each row but
-- the eleventh, which follows from the congruence alone, whatever the bounds.
use Prim.Native.Nat.{ℕ, ◌≤◌, ◌<◌}
use mathlib.Core.Path.{◌≡◌, refl, ap, sym, ◌∙◌}
use mathlib.Core.Bool.{true, false}
use mathlib.Core.Logic.{◌⊎◌, inl, inr}
use mathlib.Core.List.{List, [], ◌∷◌}
use mathlib.Core.Option.{Option, none, or_else}
use lib.ListN.{length}
use lib.Dec.{lit<}
use native.Mathlib.Omega.{arith}
use Rattle.logic.specs.Sheet.{Sheet, Bound, Symbol}
use Rattle.layout.specs.Layout.{Reading, accepted, refused, empty, reading, read_from, cause}
use Rattle.tables.specs.Layout.{extent}
use Rattle.answer.specs.Answer.{Entry, answer_at, answer, solves, unforced}
use Rattle.find_at.specs.Found.{turned_down, ceilings, answering, finds, codes_in, tables_in}
use Rattle.worked.specs.Worked.{Row, row1, row2, row3, row4, row5, row6, row7, row8, row9, row10, row11, row12, row13, row14, row15, printed, filled, rows, Shown, Shows, All}
use Rattle.answer.proofs.Solving.{Solution}
use Rattle.answer.proofs.Listing.{unsolvable}
use Rattle.finder.proofs.Outcomes.{outcome_long, outcome_short}
use Rattle.finder.proofs.Buffers.{Exit, exit}
use Rattle.prelude.specs.Lists.{fronted}

-- the sheet that bytes define
abbrev pub sheet_in : Reading → Sheet
sheet_in (accepted sh) = sh
sheet_in (refused n i) = empty

abbrev pub sheet_of : Row → Sheet
sheet_of r = sheet_in (reading r.sheet)

-- what has to be computed of a row: its bytes are accepted, it asks for the buffers that the sheet needs, and its answer a gives what the
-- row says
record Computed (r : Row) (a : Option Entry) : Type 0 where
  reads : reading r.sheet ≡ accepted (sheet_of r)
  codes_fit : length (sheet_of r).terms ≡ r.code_bytes
  tables_fit : extent (sheet_of r) (ceilings (sheet_of r)) ≡ r.table_bytes
  answers : answer (sheet_of r) ≡ a
  result : finds (answering (sheet_of r) a) ≡ r.result
  codes : (cs : List ℕ) → codes_in (answering (sheet_of r) a) cs ≡ fronted r.codes cs
  tables : (ts : List ℕ) → tables_in (answering (sheet_of r) a) ts ≡ fronted r.tables ts

module _ (r : Row) (a : Option Entry) (k : Computed r a) where
  shown : (cs ts : List ℕ) → r.code_bytes ≤ length cs → r.table_bytes ≤ length ts → Shown r cs ts
  shown cs ts h l =
      let x : Exit r.sheet cs ts (answering (sheet_of r) a) =
      exit r.sheet cs ts (answering (sheet_of r) a)
      (outcome_long r.sheet (sheet_of r) a (length cs) (length ts) k.reads (omega (arith, k.codes_fit)) (omega (arith, k.tables_fit)) k.answers) in
      record { result = x.result ∙ k.result; codes = x.codes ∙ k.codes cs; tables = x.tables ∙ k.tables ts }

  less : (nc nt : ℕ) → (nc < r.code_bytes) ⊎ (nt < r.table_bytes) → (nc < length (sheet_of r).terms) ⊎ (nt < extent (sheet_of r) (ceilings (sheet_of r)))
  less nc nt (inl h) = inl (omega (arith, k.codes_fit))
  less nc nt (inr h) = inr (omega (arith, k.tables_fit))

  shows : Shows r
  shows =
      record {
        shown = shown;
        short = λ cs ts h. (exit r.sheet cs ts (turned_down 10 0) (outcome_short r.sheet (sheet_of r) (length cs) (length ts) k.reads (less (length cs) (length ts) h))).result;
      }

-- x same f applied 3 times and 5 times: then x is the same as f(x)
abbrev three_and_five : List Bound → List Symbol → ℕ → Sheet
three_and_five bounds symbols total =
    record {
      bounds = bounds;
      symbols = symbols;
      terms =
          record { symbol = 0; args = [] }
          ∷ record { symbol = 1; args = 0 ∷ [] }
          ∷ record { symbol = 1; args = 1 ∷ [] }
          ∷ record { symbol = 1; args = 2 ∷ [] }
          ∷ record { symbol = 1; args = 3 ∷ [] }
          ∷ record { symbol = 1; args = 4 ∷ [] }
          ∷ [];
      literals =
          record { equal = true; left = 0; right = 3 }
          ∷ record { equal = true; left = 0; right = 5 }
          ∷ record { equal = false; left = 0; right = 1 }
          ∷ [];
      fills = [];
      total = total;
    }

contradictory : (bounds : List Bound) (symbols : List Symbol) (total : ℕ) (c : ℕ → ℕ) → Solution (three_and_five bounds symbols total) c → ⊥
contradictory bounds symbols total c s =
    let three : c 0 ≡ c 3 = s.meets 0 (lit< tt) in
    let five : c 0 ≡ c 5 = s.meets 1 (lit< tt) in
    let fourth : c 1 ≡ c 4 = s.congruent 1 4 (lit< tt) (lit< tt) refl (ap (λ (x : ℕ). x ∷ []) three) in
    let fifth : c 2 ≡ c 5 = s.congruent 2 5 (lit< tt) (lit< tt) refl (ap (λ (x : ℕ). x ∷ []) fourth) in
    let third : c 1 ≡ c 3 = s.congruent 1 3 (lit< tt) (lit< tt) refl (ap (λ (x : ℕ). x ∷ []) (five ∙ sym fifth)) in
    s.meets 2 (lit< tt) (three ∙ sym third)

-- a row whose answer the listing computes
plainly : (r : Row) → reading r.sheet ≡ accepted (sheet_of r) → length (sheet_of r).terms ≡ r.code_bytes → extent (sheet_of r) (ceilings (sheet_of r)) ≡ r.table_bytes → finds (answering (sheet_of r) (answer (sheet_of r))) ≡ r.result → ((cs : List ℕ) → codes_in (answering (sheet_of r) (answer (sheet_of r))) cs ≡ fronted r.codes cs) → ((ts : List ℕ) → tables_in (answering (sheet_of r) (answer (sheet_of r))) ts ≡ fronted r.tables ts) → Shows r
plainly r p h l q c t =
    shows r (answer (sheet_of r)) (record { reads = p; codes_fit = h; tables_fit = l; answers = refl; result = q; codes = c; tables = t })

eleventh : Shows row11
unfolding reading read_from cause
eleventh =
    shows row11 none
    (record {
      reads = refl;
      codes_fit = refl;
      tables_fit = refl;
      answers = unsolvable (sheet_of row11) (contradictory (sheet_of row11).bounds (sheet_of row11).symbols (sheet_of row11).total);
      result = refl;
      codes = λ cs. refl;
      tables = λ ts. refl;
    })

-- THEOREM: the worked sheets
pub worked : All Shows rows
unfolding answer answer_at or_else solves reading read_from cause unforced
worked = (
  plainly row1 refl refl refl refl (λ cs. refl) (λ ts. refl),
  (
    plainly row2 refl refl refl refl (λ cs. refl) (λ ts. refl),
    (
      plainly row3 refl refl refl refl (λ cs. refl) (λ ts. refl),
      (
        plainly row4 refl refl refl refl (λ cs. refl) (λ ts. refl),
        (
          plainly row5 refl refl refl refl (λ cs. refl) (λ ts. refl),
          (
            plainly row6 refl refl refl refl (λ cs. refl) (λ ts. refl),
            (
              plainly row7 refl refl refl refl (λ cs. refl) (λ ts. refl),
              (
                plainly row8 refl refl refl refl (λ cs. refl) (λ ts. refl),
                (
                  plainly row9 refl refl refl refl (λ cs. refl) (λ ts. refl),
                  (
                    plainly row10 refl refl refl refl (λ cs. refl) (λ ts. refl),
                    (
                      eleventh,
                      (
                        plainly row12 refl refl refl refl (λ cs. refl) (λ ts. refl),
                        (
                          plainly row13 refl refl refl refl (λ cs. refl) (λ ts. refl),
                          (
                            plainly row14 refl refl refl refl (λ cs. refl) (λ ts. refl),
                            (
                              plainly row15 refl refl refl refl (λ cs. refl) (λ ts. refl),
                              (
                                plainly printed refl refl refl refl (λ cs. refl) (λ ts. refl),
                                (
                                  plainly filled refl refl refl refl (λ cs. refl) (λ ts. refl),
                                  tt,
                                ),
                              ),
                            ),
                          ),
                        ),
                      ),
                    ),
                  ),
                ),
              ),
            ),
          ),
        ),
      ),
    ),
  ),
)
