-- `find_at::find_at_parsed` meets its contract.
use native.Mathlib.Omega.{arith}
use mathlib.Core.Path.{◌≡◌, ap, sym, ◌∙◌, subst}
use mathlib.Core.Bool.{Bool, true, false}
use lib.ListN.{length}
use Rattle.std.specs.Prelude.{Ok}
use Rattle.std.proofs.lemmas.Result.{err_from_is_err_and}
use Rattle.prelude.specs.Lists.{at}
use Rattle.layout.specs.Packed.{view}
use Rattle.sheet.proofs.Refusals.{ok_or_refuses}
use Rattle.first_codes.specs.FirstCodes.{FirstCodes}
use Rattle.logic.specs.Sheet.{Sheet}
use Rattle.layout.specs.declared.Parsed.{Parsed}
use Rattle.tables.specs.Parts.{Packs}
use Rattle.sheet.specs.Verdict.{ReadFrom}
use Rattle.judge.proofs.Questions.{read_packs}
use Rattle.answer.specs.Answer.{entry_of}
use Rattle.find_at.specs.Found.{answered, short}
use Rattle.find_at.specs.FindAt.{candidate_sizes}
use Rattle.find_at.proofs.Outcomes.{long_enough, outcome_at_short, outcome_at_wrong}
use Rattle.find_at.proofs.Buffers.{outcome_finds_at, refusal_finds_at}
use Rattle.find_at.proofs.Searching.{limited, searchable, terms_fit, small_sizes, nothing_found, first_found, first_writable}
use Rattle.find_at.proofs.find_at_parsed.Goals as goal

-- what a test of the parsed sheet says of the sheet that was read
told : (p : Parsed) (q : ReadFrom p) (test : Sheet → Bool) (answer is : Bool) → ((sh : Sheet) → Packs sh p → answer ≡ test sh) → answer ≡ is → test q.sheet ≡ is
told p q test answer is e h = sym (e q.sheet (read_packs p q)) ∙ h

pub are_short-requires : goal.are_short-requires
are_short-requires c = limited c.args.p c.requires

pub returns-then-are_short : goal.returns-then-are_short
returns-then-are_short c q =
    rw c.at.ensures
    (refusal_finds_at q.bytes c.args.sizes.now c.args.codes.now c.args.tables.now 10 0
    (outcome_at_short q.bytes c.args.sizes.now _ _ q.sheet q.reads (told c.args.p q (λ sh. short sh (length c.args.codes.now) (length c.args.tables.now)) c.are_short.result true c.are_short.ensures c.if-are_short.true)))

pub are_allowed-requires : goal.are_allowed-requires
are_allowed-requires c = limited c.args.p c.requires

pub returns-then-not-are_allowed : goal.returns-then-not-are_allowed
returns-then-not-are_allowed c q =
    rw c.at-then-not-are_allowed.ensures
    (refusal_finds_at q.bytes c.args.sizes.now c.args.codes.now c.args.tables.now 17 0
    (outcome_at_wrong q.bytes c.args.sizes.now _ _ q.sheet q.reads (told c.args.p q (λ sh. short sh (length c.args.codes.now) (length c.args.tables.now)) c.are_short.result false c.are_short.ensures c.if-are_short.false)
    (told c.args.p q (λ sh. candidate_sizes sh c.args.sizes.now) c.are_allowed.result false c.are_allowed.ensures c.if-not-are_allowed.true)))

pub sizes_of-given-requires : goal.sizes_of-given-requires
sizes_of-given-requires c = omega (arith, (limited c.args.p c.requires).sorts)

pub first_codes-requires : goal.first_codes-requires
first_codes-requires c =
    let q = c.requires in
    record {
      searchable = searchable c.args.p q;
      small_sizes = small_sizes c.args.p q c.args.sizes.now c.sizes_of-given.result (told c.args.p q (λ sh. candidate_sizes sh c.args.sizes.now) c.are_allowed.result true c.are_allowed.ensures c.if-not-are_allowed.false) c.sizes_of-given.ensures;
    }

pub returns-in_err-chosen : goal.returns-in_err-chosen
returns-in_err-chosen c q =
    let e = err_from_is_err_and c.from_residual.result c.from_residual.ensures.1 in
    rw (e.1, e.2, ok_or_refuses _ _ _ c.in_err-chosen.ensures.value, c.at-2.ensures)
    (refusal_finds_at q.bytes c.args.sizes.now c.args.codes.now c.args.tables.now 11 0
    (nothing_found c.args.p q c.args.sizes.now c.sizes_of-given.result (told c.args.p q (λ sh. candidate_sizes sh c.args.sizes.now) c.are_allowed.result true c.are_allowed.ensures c.if-not-are_allowed.false) c.sizes_of-given.ensures (subst (FirstCodes (view c.args.p) (at c.sizes_of-given.result)) c.in_err-chosen.ensures.ok_part c.first_codes.ensures) _ _ (told c.args.p q (λ sh. short sh (length c.args.codes.now) (length c.args.tables.now)) c.are_short.result false c.are_short.ensures c.if-are_short.false)))

pub write_answer-sum-requires : goal.write_answer-sum-requires
write_answer-sum-requires c =
    let q = c.requires in
    let room = long_enough q.sheet (length c.args.codes.now) (length c.args.tables.now) (told c.args.p q (λ sh. short sh (length c.args.codes.now) (length c.args.tables.now)) c.are_short.result false c.are_short.ensures c.if-are_short.false) in (
      first_writable c.args.p q c.args.sizes.now c.sizes_of-given.result (told c.args.p q (λ sh. candidate_sizes sh c.args.sizes.now) c.are_allowed.result true c.are_allowed.ensures c.if-not-are_allowed.false) c.sizes_of-given.ensures _ (subst (FirstCodes (view c.args.p) (at c.sizes_of-given.result)) c.in_ok-chosen.ensures.ok_part c.first_codes.ensures) _ _ (told c.args.p q (λ sh. short sh (length c.args.codes.now) (length c.args.tables.now)) c.are_short.result false c.are_short.ensures c.if-are_short.false) room.1,
      terms_fit c.args.p q _ room.0,
    )

pub returns : goal.returns
returns c q =
    let written = c.write_answer-sum.ensures q.sheet (read_packs c.args.p q) in
    outcome_finds_at q.bytes c.args.sizes.now c.args.codes.now c.args.tables.now _ _ _ (answered q.sheet (entry_of q.sheet _ _))
    (first_found c.args.p q c.args.sizes.now c.sizes_of-given.result (told c.args.p q (λ sh. candidate_sizes sh c.args.sizes.now) c.are_allowed.result true c.are_allowed.ensures c.if-not-are_allowed.false) c.sizes_of-given.ensures _ (subst (FirstCodes (view c.args.p) (at c.sizes_of-given.result)) c.in_ok-chosen.ensures.ok_part c.first_codes.ensures) _ _ (told c.args.p q (λ sh. short sh (length c.args.codes.now) (length c.args.tables.now)) c.are_short.result false c.are_short.ensures c.if-are_short.false))
    (ap Ok written.total) written.front written.bytes
