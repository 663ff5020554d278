-- `replies::answer_asked` meets its contract: the verb is held against one word after the other.
use Rattle.text.specs.Ascii.{ascii}
use Rattle.replies.specs.Reply.{asked}
use Rattle.replies.proofs.Verbs.{told}
use Rattle.replies.proofs.answer_asked.Goals as goal

pub returns-then-same : goal.returns-then-same
unfolding asked
returns-then-same c =
    let is = told (ascii "read") c.word-verb.ensures.word c.same.ensures c.if-same.true in
    rw is c.read_question.ensures

pub returns-then-same-2 : goal.returns-then-same-2
unfolding asked
returns-then-same-2 c =
    let no_read = told (ascii "read") c.word-verb.ensures.word c.same.ensures c.if-same.false in
    let is = told (ascii "judge") c.word-verb.ensures.word c.same-2.ensures c.if-same-2.true in
    rw (no_read, is) c.judge_question.ensures

pub returns-then-same-3 : goal.returns-then-same-3
unfolding asked
returns-then-same-3 c =
    let no_read = told (ascii "read") c.word-verb.ensures.word c.same.ensures c.if-same.false in
    let no_judge = told (ascii "judge") c.word-verb.ensures.word c.same-2.ensures c.if-same-2.false in
    let is = told (ascii "forced") c.word-verb.ensures.word c.same-3.ensures c.if-same-3.true in
    rw (no_read, no_judge, is) c.forced_question.ensures

pub returns-then-same-4 : goal.returns-then-same-4
unfolding asked
returns-then-same-4 c =
    let no_read = told (ascii "read") c.word-verb.ensures.word c.same.ensures c.if-same.false in
    let no_judge = told (ascii "judge") c.word-verb.ensures.word c.same-2.ensures c.if-same-2.false in
    let no_forced = told (ascii "forced") c.word-verb.ensures.word c.same-3.ensures c.if-same-3.false in
    let is = told (ascii "group") c.word-verb.ensures.word c.same-4.ensures c.if-same-4.true in
    rw (no_read, no_judge, no_forced, is) c.group_question.ensures

pub returns-then-same-5 : goal.returns-then-same-5
unfolding asked
returns-then-same-5 c =
    let no_read = told (ascii "read") c.word-verb.ensures.word c.same.ensures c.if-same.false in
    let no_judge = told (ascii "judge") c.word-verb.ensures.word c.same-2.ensures c.if-same-2.false in
    let no_forced = told (ascii "forced") c.word-verb.ensures.word c.same-3.ensures c.if-same-3.false in
    let no_group = told (ascii "group") c.word-verb.ensures.word c.same-4.ensures c.if-same-4.false in
    let is = told (ascii "table") c.word-verb.ensures.word c.same-5.ensures c.if-same-5.true in
    rw (no_read, no_judge, no_forced, no_group, is) c.table_question.ensures

pub returns-then-same-6 : goal.returns-then-same-6
unfolding asked
returns-then-same-6 c =
    let no_read = told (ascii "read") c.word-verb.ensures.word c.same.ensures c.if-same.false in
    let no_judge = told (ascii "judge") c.word-verb.ensures.word c.same-2.ensures c.if-same-2.false in
    let no_forced = told (ascii "forced") c.word-verb.ensures.word c.same-3.ensures c.if-same-3.false in
    let no_group = told (ascii "group") c.word-verb.ensures.word c.same-4.ensures c.if-same-4.false in
    let no_table = told (ascii "table") c.word-verb.ensures.word c.same-5.ensures c.if-same-5.false in
    let is = told (ascii "walk") c.word-verb.ensures.word c.same-6.ensures c.if-same-6.true in
    rw (no_read, no_judge, no_forced, no_group, no_table, is) c.walk_question.ensures

pub returns : goal.returns
unfolding asked
returns c =
    let no_read = told (ascii "read") c.word-verb.ensures.word c.same.ensures c.if-same.false in
    let no_judge = told (ascii "judge") c.word-verb.ensures.word c.same-2.ensures c.if-same-2.false in
    let no_forced = told (ascii "forced") c.word-verb.ensures.word c.same-3.ensures c.if-same-3.false in
    let no_group = told (ascii "group") c.word-verb.ensures.word c.same-4.ensures c.if-same-4.false in
    let no_table = told (ascii "table") c.word-verb.ensures.word c.same-5.ensures c.if-same-5.false in
    let no_walk = told (ascii "walk") c.word-verb.ensures.word c.same-6.ensures c.if-same-6.false in
    rw (no_read, no_judge, no_forced, no_group, no_table, no_walk) c.answer_searched.ensures
