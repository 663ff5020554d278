-- `sizings::sizes_into` meets its contract: a refusal is sizes' own, and of the buffer as many bytes are shown as the sheet has sorts.
use mathlib.Core.Path.{sym}
use lib.ListN.{length}
use lib.Seq.{length-take-le}
use Rattle.text.proofs.Lines.{renamed}
use Rattle.sizings.proofs.Shown.{turned_down_line, sizes_within, sizes_line_lem}
use Rattle.sizings.proofs.sizes_into.Goals as goal

-- where sizes were written, they stand in front of the buffer
pub slice_bounds-bytes_line-end-in-Ok : goal.slice_bounds-bytes_line-end-in-Ok
slice_bounds-bytes_line-end-in-Ok c =
    let s = c.args in
    sizes_within s.sheet.now s.buffer.now _ _ c.sorts_of-many.result (sym c.in-Ok.ensures.result) c.sizes-answer.ensures.buffer c.sorts_of-many.ensures

pub slice_bounds-bytes_line-end-in-Ok-2 : goal.slice_bounds-bytes_line-end-in-Ok-2
slice_bounds-bytes_line-end-in-Ok-2 c =
    let s = c.args in
    sym
    (length-take-le _ c.sizes-answer.new.out
    (sizes_within s.sheet.now s.buffer.now _ _ c.sorts_of-many.result (sym c.in-Ok.ensures.result) c.sizes-answer.ensures.buffer c.sorts_of-many.ensures))

pub returns-in-Err : goal.returns-in-Err
returns-in-Err c =
    let s = c.args in
    renamed
    (turned_down_line s.sheet.now (length s.buffer.now) c.in-Err.refusal c.in-Err.ensures.result)
    c.refusal_line.ensures

pub returns-in-Ok : goal.returns-in-Ok
returns-in-Ok c =
    let s = c.args in
    renamed
    (sizes_line_lem s.sheet.now s.buffer.now _ _ c.sorts_of-many.result (sym c.in-Ok.ensures.result) c.sizes-answer.ensures.buffer c.sorts_of-many.ensures)
    c.bytes_line.ensures
