-- `finder::in_turn` meets its contract: cause 10 is measured, and then find is the two in turn.
use Prim.Native.Nat.{ℕ, ◌≤◌}
use native.Mathlib.Omega.{arith}
use mathlib.Core.Path.{◌≡◌, sym, ◌∙◌}
use mathlib.Core.List.{List}
use mathlib.Core.Bool.{Bool, false}
use Rattle.logic.specs.Sheet.{Sheet}
use Rattle.layout.specs.declared.Parsed.{Parsed}
use Rattle.tables.specs.Parts.{Packs}
use Rattle.find_at.specs.Found.{short}
use lib.ListN.{length, length-replicate, replicate}
use lib.Seq.{length-take-le}
use Rattle.sheet.specs.Verdict.{ReadFrom}
use Rattle.tables.proofs.Whole.{packs_limited}
use Rattle.judge.proofs.Questions.{read_packs}
use Rattle.finder.specs.Turn.{InTurn}
use Rattle.finder.proofs.Outcomes.{outcome_tested}
use Rattle.finder.proofs.Buffers.{refusal_finds}
use Rattle.finder.proofs.Turn.{find_in_turn, parsed_enough, turn_refused, turn_found}
use Rattle.finder.proofs.in_turn.Goals as goal

abbrev zs : List ℕ
zs = replicate 8 0

-- the two in turn, where the buffers were measured
turn : (p : Parsed) (cs ts : List ℕ) (answer : Bool) (q : ReadFrom p) → ((sh : Sheet) → Packs sh p → answer ≡ short sh (length cs) (length ts)) → answer ≡ false → InTurn q.bytes p.sorts zs cs ts
turn p cs ts answer q e h =
    find_in_turn q.bytes p.sorts zs cs ts
    (parsed_enough p q zs cs ts (omega (arith, length-replicate {A = ℕ} 8 0)) (sym (e q.sheet (read_packs p q)) ∙ h))

-- a sheet has no more sorts than there is room for sizes
few : (p : Parsed) (q : ReadFrom p) (sizes : List ℕ) → length sizes ≡ 8 → p.sorts ≤ length sizes
few p q sizes h = omega (arith, (packs_limited q.sheet p (read_packs p q)).sorts)

pub are_short-requires : goal.are_short-requires
are_short-requires c = packs_limited c.requires.sheet c.args.p (read_packs c.args.p c.requires)

pub returns-then-are_short : goal.returns-then-are_short
returns-then-are_short c q =
    rw c.at.ensures
    (refusal_finds q.bytes c.args.codes.now c.args.tables.now 10 0
    (outcome_tested q.bytes q.sheet _ _ q.reads (sym (c.are_short.ensures q.sheet (read_packs c.args.p q)) ∙ c.if-are_short.true)))

pub returns-in-Err : goal.returns-in-Err
returns-in-Err c q =
    turn_refused q.bytes c.args.p.sorts zs c.args.codes.now c.args.tables.now
    (turn c.args.p c.args.codes.now c.args.tables.now c.are_short.result q c.are_short.ensures c.if-are_short.false) c.in-Err.r
    (sym (c.in-Err.ensures q).result)

pub returns-in-Ok : goal.returns-in-Ok
returns-in-Ok c q =
    let found = c.find_at_parsed.ensures q in
    let written = c.in-Ok.ensures q in
    turn_found q.bytes c.args.p.sorts zs c.args.codes.now c.args.tables.now
    (turn c.args.p c.args.codes.now c.args.tables.now c.are_short.result q c.are_short.ensures c.if-are_short.false) _
    (sym written.result) _ _ _ (rw (← written.buffer) found)

pub slice_bounds-sizes-end : goal.slice_bounds-sizes-end
slice_bounds-sizes-end c = few c.args.p c.requires c.sizes_parsed.new.out (omega (arith, c.sizes_parsed.auto.out, length-replicate {A = ℕ} 8 0))

pub slice_bounds-find_at_parsed-end : goal.slice_bounds-find_at_parsed-end
slice_bounds-find_at_parsed-end c =
    sym (length-take-le c.args.p.sorts c.sizes_parsed.new.out
    (few c.args.p c.requires c.sizes_parsed.new.out (omega (arith, c.sizes_parsed.auto.out, length-replicate {A = ℕ} 8 0))))
