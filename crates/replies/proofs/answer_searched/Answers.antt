-- `replies::answer_searched` meets its contract: the verb is held against one word after the other.
use Rattle.text.specs.Ascii.{ascii}
use Rattle.replies.specs.Reply.{searched}
use Rattle.replies.proofs.Verbs.{told}
use Rattle.replies.proofs.answer_searched.Goals as goal

pub returns-then-same : goal.returns-then-same
unfolding searched
returns-then-same c =
    let is = told (ascii "find") c.word-verb.ensures.word c.same.ensures c.if-same.true in
    rw is c.find_question.ensures

pub returns-then-same-2 : goal.returns-then-same-2
unfolding searched
returns-then-same-2 c =
    let no_find = told (ascii "find") c.word-verb.ensures.word c.same.ensures c.if-same.false in
    let is = told (ascii "sizes") c.word-verb.ensures.word c.same-2.ensures c.if-same-2.true in
    rw (no_find, is) c.sizes_question.ensures

pub returns-then-same-3 : goal.returns-then-same-3
unfolding searched
returns-then-same-3 c =
    let no_find = told (ascii "find") c.word-verb.ensures.word c.same.ensures c.if-same.false in
    let no_sizes = told (ascii "sizes") c.word-verb.ensures.word c.same-2.ensures c.if-same-2.false in
    let is = told (ascii "findat") c.word-verb.ensures.word c.same-3.ensures c.if-same-3.true in
    rw (no_find, no_sizes, is) c.findat_question.ensures

pub returns-then-same-4 : goal.returns-then-same-4
unfolding searched
returns-then-same-4 c =
    let no_find = told (ascii "find") c.word-verb.ensures.word c.same.ensures c.if-same.false in
    let no_sizes = told (ascii "sizes") c.word-verb.ensures.word c.same-2.ensures c.if-same-2.false in
    let no_findat = told (ascii "findat") c.word-verb.ensures.word c.same-3.ensures c.if-same-3.false in
    let is = told (ascii "fitted") c.word-verb.ensures.word c.same-4.ensures c.if-same-4.true in
    rw (no_find, no_sizes, no_findat, is) c.fitted_question.ensures

pub returns-then-same-5 : goal.returns-then-same-5
unfolding searched
returns-then-same-5 c =
    let no_find = told (ascii "find") c.word-verb.ensures.word c.same.ensures c.if-same.false in
    let no_sizes = told (ascii "sizes") c.word-verb.ensures.word c.same-2.ensures c.if-same-2.false in
    let no_findat = told (ascii "findat") c.word-verb.ensures.word c.same-3.ensures c.if-same-3.false in
    let no_fitted = told (ascii "fitted") c.word-verb.ensures.word c.same-4.ensures c.if-same-4.false in
    let is = told (ascii "bundle") c.word-verb.ensures.word c.same-5.ensures c.if-same-5.true in
    rw (no_find, no_sizes, no_findat, no_fitted, is) c.bundle_question.ensures

pub returns : goal.returns
unfolding searched
returns c =
    let no_find = told (ascii "find") c.word-verb.ensures.word c.same.ensures c.if-same.false in
    let no_sizes = told (ascii "sizes") c.word-verb.ensures.word c.same-2.ensures c.if-same-2.false in
    let no_findat = told (ascii "findat") c.word-verb.ensures.word c.same-3.ensures c.if-same-3.false in
    let no_fitted = told (ascii "fitted") c.word-verb.ensures.word c.same-4.ensures c.if-same-4.false in
    let no_bundle = told (ascii "bundle") c.word-verb.ensures.word c.same-5.ensures c.if-same-5.false in
    rw (no_find, no_sizes, no_findat, no_fitted, no_bundle) c.put.ensures
