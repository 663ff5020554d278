-- Each return is a case of `cause`; what the tests have shown so far is `Tested`.
use Prim.Native.Nat.{ℕ, ◌+◌, ◌≤◌}
use native.Mathlib.Omega.{arith}
use mathlib.Core.Path.{◌≡◌, ap, sym, ◌∙◌}
use mathlib.Core.Bool.{false}
use mathlib.Core.List.{List}
use lib.ListN.{length, take, drop}
use Rattle.logic.specs.Sheet.{Sheet}
use Rattle.layout.specs.Layout.{kind_of, misplaced, wrong_length, add}
use Rattle.layout.specs.Packed.{packed}
use Rattle.layout.specs.Parts.{payload_bytes, later}
use Rattle.layout.specs.declared.Payload.{Payload}
use Rattle.layout.specs.declared.Parsed.{Parsed}
use Rattle.std.specs.Prelude.{Ok}
use Rattle.layout.proofs.Payloads.{length_part}
use Rattle.layout.proofs.Records.{cause_3, cause_4, kind_known, one_to_three, Tested, tested_sized, tested_cause}
use Rattle.std.proofs.lemmas.Result.{err_from_is_err_and}
use Rattle.prelude.proofs.Causes.{tested_ok}
use Rattle.sheet.specs.Parts.{taken}
use Rattle.sheet.proofs.Parser.{tested_taken}
use Rattle.sheet.proofs.take_record.Goals as goal

-- a test of the length is one of the payload
sized_as : (s : List ℕ) (start len kind : ℕ) {r w : _} → start + len ≤ length s → r ≡ wrong_length kind len → r ≡ w
    → wrong_length kind (length (take len (drop start s))) ≡ w
sized_as s start len kind inside e f = ap (wrong_length kind) (length_part s start len inside) ∙ sym e ∙ f

-- what the tests have shown of a record behind which the fault is asked
shown : (s : List ℕ) (start len kind : ℕ) (sh : Sheet) (q : Payload) → misplaced sh (kind_of kind) ≡ false
    → wrong_length kind (length (take len (drop start s))) ≡ false
    → payload_bytes q ≡ take len (drop start s)
    → Tested sh kind (take len (drop start s)) q
shown s start len kind sh q placed sized e = record { placed = placed; sized = sized; bytes = e }

pub returns-then-is_misplaced : goal.returns-then-is_misplaced
returns-then-is_misplaced c k =
    let a = c.args in
    let b = take a.len (drop a.start a.s.now) in
    ap (λ (n : ℕ). taken n a.next a.kind b k.sheet)
    (cause_3 k.sheet a.kind b (sym (c.is_misplaced.ensures k.sheet k.same) ∙ c.if-is_misplaced.true))

pub is_wrong_length-requires : goal.is_wrong_length-requires
is_wrong_length-requires c =
    let k = c.requires.part_read in
    let z = kind_known k.sheet c.args.kind (sym (c.is_misplaced.ensures k.sheet k.same) ∙ c.if-is_misplaced.false) in
    omega arith

pub returns-then-is_wrong_length : goal.returns-then-is_wrong_length
returns-then-is_wrong_length c k =
    let a = c.args in
    let b = take a.len (drop a.start a.s.now) in
    ap (λ (n : ℕ). taken n a.next a.kind b k.sheet)
    (cause_4 k.sheet a.kind b (sym (c.is_misplaced.ensures k.sheet k.same) ∙ c.if-is_misplaced.false)
    (sized_as a.s.now a.start a.len a.kind c.requires.len_in_bounds c.is_wrong_length.ensures c.if-is_wrong_length.true))

pub payload_of-q-requires-clause-le_len : goal.payload_of-q-requires-clause-le_len
payload_of-q-requires-clause-le_len c =
    let a = c.args in
    let k = c.requires.part_read in
    let z = kind_known k.sheet a.kind (sym (c.is_misplaced.ensures k.sheet k.same) ∙ c.if-is_misplaced.false) in
    one_to_three a.kind a.len z.0 z.1 (sym c.is_wrong_length.ensures ∙ c.if-is_wrong_length.false)

-- the causes 5 to 8 and 16

pub returns-in_err-fault : goal.returns-in_err-fault
returns-in_err-fault c k =
    let a = c.args in
    let b = take a.len (drop a.start a.s.now) in
    let p = err_from_is_err_and c.from_residual.result c.from_residual.ensures.1 in
    let t = shown a.s.now a.start a.len a.kind k.sheet c.payload_of-q.result
    (sym (c.is_misplaced.ensures k.sheet k.same) ∙ c.if-is_misplaced.false)
    (sized_as a.s.now a.start a.len a.kind c.requires.len_in_bounds c.is_wrong_length.ensures c.if-is_wrong_length.false)
    c.payload_of-q.ensures in
    let z = tested_sized k.sheet a.kind b c.payload_of-q.result t in
    rw (p.1, p.2)
    (tested_taken (later k.sheet (kind_of a.kind) (payload_bytes c.payload_of-q.result)) a.next a.kind b k.sheet c.in_err-fault.field-0.0
    (c.in_err-fault.ensures k t.placed z)
    ∙ ap (λ (n : ℕ). taken n a.next a.kind b k.sheet) (tested_cause k.sheet a.kind b c.payload_of-q.result t))

pub added-requires-clause-good : goal.added-requires-clause-good
added-requires-clause-good c k =
    let a = c.args in
    let b = take a.len (drop a.start a.s.now) in
    let t = shown a.s.now a.start a.len a.kind k.sheet c.payload_of-q.result
    (sym (c.is_misplaced.ensures k.sheet k.same) ∙ c.if-is_misplaced.false)
    (sized_as a.s.now a.start a.len a.kind c.requires.len_in_bounds c.is_wrong_length.ensures c.if-is_wrong_length.false)
    c.payload_of-q.ensures in
    let z = tested_sized k.sheet a.kind b c.payload_of-q.result t in
    record { placed = t.placed; sized = z; none = tested_ok (later k.sheet (kind_of a.kind) (payload_bytes c.payload_of-q.result)) c.in_ok-fault.field-0 (c.in_ok-fault.ensures k t.placed z) }

pub returns : goal.returns
returns c k =
    let a = c.args in
    let b = take a.len (drop a.start a.s.now) in
    let t = shown a.s.now a.start a.len a.kind k.sheet c.payload_of-q.result
    (sym (c.is_misplaced.ensures k.sheet k.same) ∙ c.if-is_misplaced.false)
    (sized_as a.s.now a.start a.len a.kind c.requires.len_in_bounds c.is_wrong_length.ensures c.if-is_wrong_length.false)
    c.payload_of-q.ensures in
    let z = tested_sized k.sheet a.kind b c.payload_of-q.result t in
    let none = tested_ok (later k.sheet (kind_of a.kind) (payload_bytes c.payload_of-q.result)) c.in_ok-fault.field-0 (c.in_ok-fault.ensures k t.placed z) in
    ap (λ (p : Parsed). Ok (record { next = a.next; sheet = p }))
    (c.added.ensures k ∙ ap (λ (p : List ℕ). packed (add k.sheet (kind_of a.kind) p)) c.payload_of-q.ensures)
    ∙ ap (λ (n : ℕ). taken n a.next a.kind b k.sheet) (sym none ∙ tested_cause k.sheet a.kind b c.payload_of-q.result t)
