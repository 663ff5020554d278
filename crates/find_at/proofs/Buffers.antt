-- Result and buffers by what became of the call.
use Prim.Native.Nat.{ℕ}
use mathlib.Core.Path.{◌≡◌, refl, ap, sym, ◌∙◌}
use mathlib.Core.List.{List}
use lib.ListN.{length}
use Rattle.std.specs.Prelude.{Result, Err}
use Rattle.prelude.specs.Causes.{refusal}
use Rattle.layout.specs.Layout.{reading}
use Rattle.sheet.specs.Verdict.{parsing}
use Rattle.sheet.proofs.Verdicts.{parsed_refuses}
use Rattle.find_at.proofs.Outcomes.{outcome_at_refused}
use Rattle.find_at.specs.Found.{Outcome, turned_down, answered, finds, codes_in, tables_in}
use Rattle.find_at.specs.FindAt.{outcome_at, finding_at, codes_after_at, tables_after_at, FindsAt}
use Rattle.prelude.specs.declared.refusal.Refusal.{Refusal}

pub record ExitAt (s z cs ts : List ℕ) (o : Outcome) : Type 0 where
  pub result : finding_at s z (length cs) (length ts) ≡ finds o
  pub codes : codes_after_at s z cs ts ≡ codes_in o cs
  pub tables : tables_after_at s z cs ts ≡ tables_in o ts

pub exit_at : (s z cs ts : List ℕ) (o : Outcome) → outcome_at s z (length cs) (length ts) ≡ o → ExitAt s z cs ts o
unfolding finding_at codes_after_at tables_after_at
exit_at s z cs ts o q =
    record {
      result = ap finds q;
      codes = ap (λ (x : Outcome). codes_in x cs) q;
      tables = ap (λ (x : Outcome). tables_in x ts) q;
    }

-- what the outcome of a call makes of the result and the buffers
pub outcome_finds_at :
    (s z cs ts cs' ts' : List ℕ) (r : Result ℕ Refusal) (o : Outcome) → outcome_at s z (length cs) (length ts) ≡ o → r ≡ finds o → cs' ≡ codes_in o cs → ts' ≡ tables_in o ts
    → FindsAt s z cs ts cs' ts' r
outcome_finds_at s z cs ts cs' ts' r o e a b c =
    let x = exit_at s z cs ts o e in
    record { result = a ∙ sym x.result; codes = b ∙ sym x.codes; tables = c ∙ sym x.tables }

-- a refusal leaves both buffers
pub refusal_finds_at : (s z cs ts : List ℕ) (n i : ℕ) → outcome_at s z (length cs) (length ts) ≡ turned_down n i → FindsAt s z cs ts cs ts (Err (refusal n i))
refusal_finds_at s z cs ts n i e = outcome_finds_at s z cs ts cs ts (Err (refusal n i)) (turned_down n i) e refl refl refl

-- so does what the parser refuses
pub parse_refused : (s z cs ts : List ℕ) (r : Refusal) → Err r ≡ parsing (reading s) → FindsAt s z cs ts cs ts (Err r)
parse_refused s z cs ts r e =
    let a = parsed_refuses s r e in
    rw a.same (refusal_finds_at s z cs ts a.number a.place (outcome_at_refused s z (length cs) (length ts) a.number a.place a.reads))

pub refused_untouched_at : (s z cs ts : List ℕ) (r : Refusal) → finding_at s z (length cs) (length ts) ≡ Err r → (codes_after_at s z cs ts ≡ cs) × (tables_after_at s z cs ts ≡ ts)
refused_untouched_at s z cs ts r f = step (outcome_at s z (length cs) (length ts)) refl
  where
    step : (o : Outcome) → outcome_at s z (length cs) (length ts) ≡ o → (codes_after_at s z cs ts ≡ cs) × (tables_after_at s z cs ts ≡ ts)
    step (turned_down m j) q = let x : ExitAt s z cs ts (turned_down m j) = exit_at s z cs ts (turned_down m j) q in (x.codes, x.tables)
    step (answered sh e) q =
        let k : finds (answered sh e) ≡ Err r = sym (exit_at s z cs ts (answered sh e) q).result ∙ f in cc
