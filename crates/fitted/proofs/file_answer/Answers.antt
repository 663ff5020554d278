-- `fitted::file_answer` meets its contract: where find has no answer it is cause 11, and otherwise its tables are filed.
use Prim.Native.Nat.{ℕ}
use mathlib.Core.Path.{◌≡◌, refl, ap, sym, ◌∙◌}
use mathlib.Core.List.{List}
use lib.ListN.{length-replicate, replicate}
use Rattle.std.specs.Prelude.{Result, Ok, Err}
use Rattle.std.proofs.lemmas.Result.{err_from_is_err_and}
use Rattle.prelude.specs.declared.refusal.Refusal.{Refusal}
use Rattle.layout.specs.Layout.{accepted}
use Rattle.layout.specs.declared.Parsed.{Parsed}
use Rattle.sheet.specs.Verdict.{ReadFrom}
use Rattle.finder.specs.Find.{Finds}
use Rattle.fitted.specs.Parts.{Answered}
use Rattle.fitted.proofs.Sources.{report_refused, report_found}
use Rattle.fitted.proofs.Filings.{none_files, answer_files}
use Rattle.fitted.proofs.file_answer.Goals as goal

-- what was found in buffers that always suffice
answered : (p : Parsed) (q : ReadFrom p) (cs' ts' : List ℕ) (r : Result ℕ Refusal) → Finds q.bytes (replicate 128 0) (replicate 16392 0) cs' ts' r → (n : ℕ) → r ≡ Ok n → (a : Answered p n ts') × (a.sheet ≡ q.sheet)
answered p q cs' ts' r f n e =
    report_found p q (replicate 128 0) (replicate 16392 0) cs' ts' r (length-replicate {A = ℕ} 128 0) (length-replicate {A = ℕ} 16392 0) f n e

pub returns-in_err-sum : goal.returns-in_err-sum
returns-in_err-sum c q =
    let e = err_from_is_err_and c.from_residual.result c.from_residual.ensures.1 in
    let x = report_refused c.args.p q _ _ _ _ (Err c.in_err-sum.field-0.0) (length-replicate {A = ℕ} 128 0) (length-replicate {A = ℕ} 16392 0) (c.in_err-sum.ensures q) _ refl in
    rw (e.1, e.2) (none_files q.bytes c.args.out.now q.sheet _ q.reads c.requires.1 x.0 x.1)

pub file_tables-requires : goal.file_tables-requires
file_tables-requires c = ((answered c.args.p c.requires.0 _ _ _ (c.in_ok-sum.ensures c.requires.0) _ refl).0, c.requires.1)

pub returns : goal.returns
returns c q =
    let a = answered c.args.p q _ _ _ (c.in_ok-sum.ensures q) _ refl in
    answer_files q.bytes c.args.out.now _ _ a.0.sheet a.0.entry (q.reads ∙ ap accepted (sym a.1)) c.requires.1 a.0.answers (c.file_tables.ensures a.0)
