-- Each return is a case of `reached`.
use mathlib.Core.Path.{sym, ◌∙◌}
use Rattle.layout.proofs.Causes.{reached_6, reached_5, reached_4, reached_3, reached_2, reached_1, reached_0}
use Rattle.layout.proofs.Pack.{contents}
use Rattle.layout.proofs.faults.reached_by.Goals as goal

pub returns-then-p-ne0 : goal.returns-then-p-ne0
returns-then-p-ne0 c sh e =
    let h = contents c.args.p sh e in
    reached_6 sh (λ z. c.if-p-ne0.true (h.total ∙ z))

pub returns-then-p-ne0-2 : goal.returns-then-p-ne0-2
returns-then-p-ne0-2 c sh e =
    let h = contents c.args.p sh e in
    reached_5 sh (sym h.total ∙ c.if-p-ne0.false) (λ z. c.if-p-ne0-2.true (h.fills ∙ z))

pub returns-then-p-ne0-3 : goal.returns-then-p-ne0-3
returns-then-p-ne0-3 c sh e =
    let h = contents c.args.p sh e in
    reached_4 sh (sym h.total ∙ c.if-p-ne0.false) (sym h.fills ∙ c.if-p-ne0-2.false) (λ z. c.if-p-ne0-3.true (h.literals ∙ z))

pub returns-then-p-ne0-4 : goal.returns-then-p-ne0-4
returns-then-p-ne0-4 c sh e =
    let h = contents c.args.p sh e in
    reached_3 sh (sym h.total ∙ c.if-p-ne0.false) (sym h.fills ∙ c.if-p-ne0-2.false) (sym h.literals ∙ c.if-p-ne0-3.false) (λ z. c.if-p-ne0-4.true (h.terms ∙ z))

pub returns-then-p-ne0-5 : goal.returns-then-p-ne0-5
returns-then-p-ne0-5 c sh e =
    let h = contents c.args.p sh e in
    reached_2 sh (sym h.total ∙ c.if-p-ne0.false) (sym h.fills ∙ c.if-p-ne0-2.false) (sym h.literals ∙ c.if-p-ne0-3.false) (sym h.terms ∙ c.if-p-ne0-4.false) (λ z. c.if-p-ne0-5.true (h.symbols ∙ z))

pub returns-then-p-ne0-6 : goal.returns-then-p-ne0-6
returns-then-p-ne0-6 c sh e =
    let h = contents c.args.p sh e in
    reached_1 sh (sym h.total ∙ c.if-p-ne0.false) (sym h.fills ∙ c.if-p-ne0-2.false) (sym h.literals ∙ c.if-p-ne0-3.false) (sym h.terms ∙ c.if-p-ne0-4.false) (sym h.symbols ∙ c.if-p-ne0-5.false) (λ z. c.if-p-ne0-6.true (h.sorts ∙ z))

pub returns : goal.returns
returns c sh e =
    let h = contents c.args.p sh e in
    reached_0 sh (sym h.total ∙ c.if-p-ne0.false) (sym h.fills ∙ c.if-p-ne0-2.false) (sym h.literals ∙ c.if-p-ne0-3.false) (sym h.terms ∙ c.if-p-ne0-4.false) (sym h.symbols ∙ c.if-p-ne0-5.false) (sym h.sorts ∙ c.if-p-ne0-6.false)
