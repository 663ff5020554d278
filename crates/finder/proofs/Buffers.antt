-- Result and buffers by what became of the call.
use Prim.Native.Nat.{ℕ}
use mathlib.Core.Path.{◌≡◌, refl, ap, sym, ◌∙◌}
use mathlib.Core.List.{List}
use lib.ListN.{length}
use Rattle.std.specs.Prelude.{Result, Err}
use Rattle.prelude.specs.Causes.{refusal}
use Rattle.layout.specs.Layout.{reading}
use Rattle.sheet.specs.Verdict.{parsing}
use Rattle.sheet.proofs.Verdicts.{parsed_refuses}
use Rattle.find_at.specs.Found.{Outcome, turned_down, answered, finds, codes_in, tables_in}
use Rattle.prelude.specs.declared.refusal.Refusal.{Refusal}
use Rattle.finder.proofs.Outcomes.{outcome_refused}
use Rattle.finder.specs.Find.{outcome, finding, codes_after, tables_after, Finds}

pub record Exit (s cs ts : List ℕ) (o : Outcome) : Type 0 where
  pub result : finding s (length cs) (length ts) ≡ finds o
  pub codes : codes_after s cs ts ≡ codes_in o cs
  pub tables : tables_after s cs ts ≡ tables_in o ts

pub exit : (s cs ts : List ℕ) (o : Outcome) → outcome s (length cs) (length ts) ≡ o → Exit s cs ts o
unfolding finding codes_after tables_after
exit s cs ts o q =
    record {
      result = ap finds q;
      codes = ap (λ (x : Outcome). codes_in x cs) q;
      tables = ap (λ (x : Outcome). tables_in x ts) q;
    }

-- a refused call leaves both buffers as they were
pub refused_untouched : (s cs ts : List ℕ) (r : Refusal) → finding s (length cs) (length ts) ≡ Err r → (codes_after s cs ts ≡ cs) × (tables_after s cs ts ≡ ts)
refused_untouched s cs ts r f = step (outcome s (length cs) (length ts)) refl
  where
    step : (o : Outcome) → outcome s (length cs) (length ts) ≡ o → (codes_after s cs ts ≡ cs) × (tables_after s cs ts ≡ ts)
    step (turned_down m j) q = let x : Exit s cs ts (turned_down m j) = exit s cs ts (turned_down m j) q in (x.codes, x.tables)
    step (answered sh e) q =
        let k : finds (answered sh e) ≡ Err r = sym (exit s cs ts (answered sh e) q).result ∙ f in cc

-- what the outcome of a call makes of the result and the buffers
outcome_finds :
    (s cs ts cs' ts' : List ℕ) (r : Result ℕ Refusal) (o : Outcome) → outcome s (length cs) (length ts) ≡ o → r ≡ finds o → cs' ≡ codes_in o cs → ts' ≡ tables_in o ts
    → Finds s cs ts cs' ts' r
outcome_finds s cs ts cs' ts' r o e a b c =
    let x = exit s cs ts o e in
    record { result = a ∙ sym x.result; codes = b ∙ sym x.codes; tables = c ∙ sym x.tables }

-- a refusal leaves both buffers
pub refusal_finds : (s cs ts : List ℕ) (n i : ℕ) → outcome s (length cs) (length ts) ≡ turned_down n i → Finds s cs ts cs ts (Err (refusal n i))
refusal_finds s cs ts n i e = outcome_finds s cs ts cs ts (Err (refusal n i)) (turned_down n i) e refl refl refl

-- so does what the parser refuses
pub parse_refused : (s cs ts : List ℕ) (r : Refusal) → Err r ≡ parsing (reading s) → Finds s cs ts cs ts (Err r)
parse_refused s cs ts r e =
    let a = parsed_refuses s r e in
    rw a.same (refusal_finds s cs ts a.number a.place (outcome_refused s a.number a.place (length cs) (length ts) a.reads))
