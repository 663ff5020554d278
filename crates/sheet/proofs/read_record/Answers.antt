-- A cut record is refused; a whole one is taken, and the parser goes on behind it.
use Prim.Native.Nat.{ℕ}
use native.Mathlib.Omega.{arith}
use mathlib.Core.Path.{◌≡◌, refl, ap, sym, ◌∙◌}
use mathlib.Core.Bool.{Bool, true, false}
use Rattle.records.specs.Record.{cut, kind_at, payload_at}
use mathlib.Core.List.{List}
use Rattle.records.specs.Step.{step_at, behind, stepped}
use Rattle.records.specs.declared.Step.TheVariants.{Record}
use Rattle.records.specs.declared.Stepped.{Stepped}
use Rattle.records.proofs.Steps.{Whole, step_uncut, step_whole}
use Rattle.sheet.specs.Parts.{taken}
use Rattle.sheet.proofs.Parser.{took_at}
use Rattle.layout.proofs.Records.{fault_cut}
use Rattle.sheet.proofs.read_record.Goals as goal

pub returns-in_default : goal.returns-in_default
returns-in_default c k =
    let a = c.args in
    ap (λ (n : ℕ). taken n (behind a.at (step_at a.s.now a.at)) (kind_at a.s.now a.at) (payload_at a.s.now a.at) k.sheet)
    (fault_cut a.s.now a.at k.sheet c.requires.at_in_bounds (is_cut (cut a.s.now a.at) refl))
  where
    is_cut : (b : Bool) → cut c.args.s.now c.args.at ≡ b → b ≡ true
    is_cut true e = refl
    is_cut false e =
        absurd
        (c.in_default.not-Record _ _ _
        (ap (λ (x : Stepped). x.step) c.record_at-found.ensures ∙ step_uncut c.args.s.now c.args.at c.requires.at_in_bounds e))

-- a whole record at the position
whole : (s : List ℕ) (i : ℕ) (r : Stepped) (a b d : ℕ) → r ≡ stepped s i → r.step ≡ Record a b d → Whole s i a b d
whole s i r a b d e f = step_whole s i a b d (sym (ap (λ (x : Stepped). x.step) e) ∙ f)

pub take_record-requires-clause-len_in_bounds : goal.take_record-requires-clause-len_in_bounds
take_record-requires-clause-len_in_bounds c =
    let g = c.in-Record in
    let w = whole c.args.s.now c.args.at c.record_at-found.result g.kind g.start g.len c.record_at-found.ensures g.is in
    let x = w.start in
    let y = w.len in
    let z = w.inside in
    omega arith

pub returns : goal.returns
returns c k =
    let a = c.args in
    let g = c.in-Record in
    let f = c.record_at-found in
    took_at a.s.now a.at k.sheet c.take_record.result g.kind g.start g.len f.result.behind
    c.requires.at_in_bounds (whole a.s.now a.at f.result g.kind g.start g.len f.ensures g.is)
    (ap (λ (x : Stepped). x.behind) f.ensures) (c.take_record.ensures k)
