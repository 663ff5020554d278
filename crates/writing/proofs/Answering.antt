-- An answer written in front of both buffers: the codes, the sizes, and over them the whole bytes of the tables.
use Prim.Native.Nat.{ℕ, ◌+◌, ◌-◌, ◌≤◌}
use native.Mathlib.Omega.{arith}
use mathlib.Core.Path.{◌≡◌, ap, sym, ◌∙◌}
use mathlib.Core.List.{List, ◌++◌}
use lib.ListN.{length, take, drop}
use lib.Seq.{drop-drop, take_at, drop-append-add}
use Rattle.logic.specs.Sheet.{Sheet}
use Rattle.prelude.specs.Lists.{at, sum_to, firsts, fronted}
use Rattle.prelude.proofs.Lists.{length_firsts}
use Rattle.layout.specs.declared.Parsed.{Parsed}
use Rattle.tables.specs.Parts.{Packs}
use Rattle.tables.proofs.Packing.{packs_views}
use Rattle.tables.proofs.Tables.{length_encoded}
use Rattle.answer.specs.Answer.{entry_of, structure_of}
use Rattle.writing.specs.Written.{AnswerWritten, answer_bytes}
use Rattle.answer.proofs.Listing.{sum_firsts}

-- what stood in front is covered by more bytes
fronted_over : (s b d : List ℕ) → length s ≤ length b → fronted b (fronted s d) ≡ fronted b d
fronted_over s b d h =
    let n = length b - length s in
    let split : length b ≡ length s + n = omega arith in
    ap (λ (l : List ℕ). b ++ l)
    (ap (λ (m : ℕ). drop m (s ++ drop (length s) d)) split
    ∙ drop-append-add s (drop (length s) d) n
    ∙ drop-drop n (length s) d
    ∙ ap (λ (m : ℕ). drop m d) (sym split))

module _ (p : Parsed) (sizes codes : List ℕ) (sh : Sheet) (k : Packs sh p) where
  abbrev bytes : List ℕ
  bytes = answer_bytes sh (at sizes) (at codes)

  -- the sizes stand in front after the second copy
  pub sizes_front : (d d₁ : List ℕ) → p.sorts ≤ length sizes → d₁ ≡ fronted (firsts p.sorts (at sizes)) d → take (length sh.bounds) d₁ ≡ firsts (length sh.bounds) (at sizes)
  sizes_front d d₁ h e =
      let same : p.sorts ≡ length sh.bounds = (packs_views sh p k).sorts in
      ap (take (length sh.bounds)) (e ∙ ap (λ (n : ℕ). fronted (firsts n (at sizes)) d) same)
      ∙ take_at (firsts (length sh.bounds) (at sizes)) _ (length sh.bounds) (length_firsts (length sh.bounds) (at sizes))

  pub answer_written :
      (cs ts cs' ts₁ ts' : List ℕ) (r : ℕ) → cs' ≡ fronted (firsts p.terms (at codes)) cs → ts₁ ≡ fronted (firsts p.sorts (at sizes)) ts
      → ts' ≡ fronted bytes ts₁ → r ≡ sum_to p.sorts (at sizes) → AnswerWritten sh (at sizes) (at codes) cs ts cs' ts' r
  answer_written cs ts cs' ts₁ ts' r front sized written summed =
      record {
        total = summed ∙ ap (λ (n : ℕ). sum_to n (at sizes)) (packs_views sh p k).sorts ∙ sym (sum_firsts (length sh.bounds) (at sizes));
        front = front ∙ ap (λ (n : ℕ). fronted (firsts n (at codes)) cs) (packs_views sh p k).terms;
        bytes =
            written
            ∙ ap (fronted bytes) sized
            ∙ fronted_over (firsts p.sorts (at sizes)) bytes ts
            (omega (
              arith,
              length_firsts p.sorts (at sizes),
              (packs_views sh p k).sorts,
              length_encoded (structure_of sh (entry_of sh (at sizes) (at codes))) sh k.formed,
            ));
      }
