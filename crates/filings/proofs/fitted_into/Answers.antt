-- `filings::fitted_into` meets its contract: a refusal is fitted's own, and the sheet that was filed is shown as far as it goes.
use native.Mathlib.Omega.{arith}
use mathlib.Core.Path.{sym}
use lib.ListN.{length}
use lib.Seq.{length-take-le}
use Rattle.text.proofs.Lines.{renamed}
use Rattle.filings.proofs.Filed.{turned_down_line, sheet_shown, written_line}
use Rattle.filings.proofs.fitted_into.Goals as goal

-- where a sheet was filed, it stands whole in front of the buffer
pub slice_bounds-bytes_line-end-in-Ok : goal.slice_bounds-bytes_line-end-in-Ok
slice_bounds-bytes_line-end-in-Ok c =
    let s = c.args in
    let shown = sheet_shown s.sheet.now s.buffer.now _ _ (sym c.in-Ok.ensures.result) c.fitted-answer.ensures.buffer in
    omega (arith, shown, c.fitted-answer.auto.out)

pub slice_bounds-bytes_line-end-in-Ok-2 : goal.slice_bounds-bytes_line-end-in-Ok-2
slice_bounds-bytes_line-end-in-Ok-2 c =
    let s = c.args in
    let shown = sheet_shown s.sheet.now s.buffer.now _ _ (sym c.in-Ok.ensures.result) c.fitted-answer.ensures.buffer in
    sym (length-take-le _ c.fitted-answer.new.out (omega (arith, shown, c.fitted-answer.auto.out)))

pub returns-in-Err : goal.returns-in-Err
returns-in-Err c =
    let s = c.args in
    renamed
    (turned_down_line s.sheet.now (length s.buffer.now) c.in-Err.refusal c.in-Err.ensures.result)
    c.refusal_line.ensures

pub returns-in-Ok : goal.returns-in-Ok
returns-in-Ok c =
    let s = c.args in
    renamed
    (written_line s.sheet.now s.buffer.now _ _ (sym c.in-Ok.ensures.result) c.fitted-answer.ensures.buffer)
    c.bytes_line.ensures
