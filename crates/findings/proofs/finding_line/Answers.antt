-- `findings::finding_line` meets its contract: a refusal is the question's own, and what was found is shown as far as it goes.
use mathlib.Core.Path.{sym, ◌∙◌}
use lib.Seq.{length-take-le}
use Rattle.judge.proofs.Questions.{parsed_limited}
use Rattle.text.proofs.Lines.{renamed}
use Rattle.findings.proofs.Found.{refused_line, parse_ok, codes_shown, tables_shown, found_line}
use Rattle.findings.proofs.finding_line.Goals as goal

pub unwrap-p-requires : goal.unwrap-p-requires
unwrap-p-requires c =
    let s = c.args in
    let l = c.requires.leaves in
    parse_ok s.sheet.now l.0 _ s.codes.now s.tables.now l.1 _ c.in-Ok.is _ c.parse.ensures

pub written-end-requires : goal.written-end-requires
written-end-requires c = parsed_limited _ c.unwrap-p.result (sym c.unwrap-p.ensures ∙ c.parse.ensures)

-- where something was found and its end is known, both buffers hold what is shown
pub slice_bounds-answer_line-end : goal.slice_bounds-answer_line-end
slice_bounds-answer_line-end c =
    let s = c.args in
    let l = c.requires.leaves in
    sym
    (length-take-le _ s.codes.now
    (codes_shown s.sheet.now l.0 _ s.codes.now s.tables.now l.1 _ c.in-Ok.is c.unwrap-p.result (sym c.unwrap-p.ensures ∙ c.parse.ensures)))

pub slice_bounds-answer_line-end-in-Ok : goal.slice_bounds-answer_line-end-in-Ok
slice_bounds-answer_line-end-in-Ok c =
    let s = c.args in
    let l = c.requires.leaves in
    let end = c.written-end in
    sym
    (length-take-le _ s.tables.now
    (tables_shown s.sheet.now l.0 _ s.codes.now s.tables.now l.1 _ c.in-Ok.is c.unwrap-p.result (sym c.unwrap-p.ensures ∙ c.parse.ensures) end.result end.ensures))

pub returns-in-Err : goal.returns-in-Err
returns-in-Err c o l = renamed (refused_line _ o _ _ _ l c.in-Err.r c.in-Err.is) c.refusal_line.ensures

pub returns-in-Ok : goal.returns-in-Ok
returns-in-Ok c o l =
    let s = c.args in
    let end = c.written-end in
    renamed
    (found_line s.sheet.now o _ s.codes.now s.tables.now l _ c.in-Ok.is c.unwrap-p.result (sym c.unwrap-p.ensures ∙ c.parse.ensures) end.result end.ensures)
    c.answer_line.ensures
