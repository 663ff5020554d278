-- `fitted::fitted` meets its contract: a refusal of the sheet is the parser's, then the buffer is measured, and what was read goes on.
use native.Mathlib.Omega.{arith}
use Rattle.std.proofs.lemmas.Result.{err_from_is_err_and}
use Rattle.sheet.proofs.Verdicts.{read_from_lem}
use Rattle.fitted.proofs.Filings.{outcome_short, parse_refused, refusal_files}
use Rattle.fitted.proofs.fitted.Goals as goal

pub returns-in_err-p : goal.returns-in_err-p
returns-in_err-p c =
    let e = err_from_is_err_and c.from_residual.result c.from_residual.ensures.1 in
    let f = parse_refused c.args.sheet.now c.args.out.now c.in_err-p.field-0.0 c.in_err-p.ensures in
    rw (e.1, e.2) (record { result = f.result; buffer = f.buffer })

pub returns-then-out-lt-MOST_WRITTEN_BYTES : goal.returns-then-out-lt-MOST_WRITTEN_BYTES
unfolding read_from_lem
returns-then-out-lt-MOST_WRITTEN_BYTES c =
    let q = read_from_lem c.args.sheet.now c.in_ok-p.p c.in_ok-p.ensures in
    let f = refusal_files c.args.sheet.now c.args.out.now 10 0 (outcome_short c.args.sheet.now q.sheet _ q.reads (omega arith)) in
    rw c.at.ensures (record { result = f.result; buffer = f.buffer })

pub file_answer-requires : goal.file_answer-requires
file_answer-requires c = (read_from_lem c.args.sheet.now c.in_ok-p.p c.in_ok-p.ensures, omega arith)

pub returns : goal.returns
unfolding read_from_lem
returns c =
    let f = c.file_answer.ensures (read_from_lem c.args.sheet.now c.in_ok-p.p c.in_ok-p.ensures) in
    record { result = f.result; buffer = f.buffer }
