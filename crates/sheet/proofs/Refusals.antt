-- A refusal and its number and place stand for one another.
use Rattle.std.specs.Prelude.{◌≡◌, ◌≤◌, ℕ, List, Option, Some, None, Result, Err}
use Rattle.std.specs.Option.{ok_or}
use Rattle.std.proofs.Common.{ap, sym, ◌∙◌}
use native.Mathlib.Omega.{arith}
use mathlib.Core.Path.{ap₂}
use mathlib.Core.Logic.{inl, inr}
use Rattle.prelude.specs.Causes.{number_of, cause_of, refusal}
use Rattle.prelude.specs.declared.refusal.Cause.{Cause}
use Rattle.prelude.specs.declared.refusal.Refusal.{Refusal}
use Rattle.prelude.proofs.Causes.{cause_number, number_cause}
use Rattle.layout.specs.Layout.{refused, reading, InSheet}
use Rattle.layout.proofs.Answers.{refused_number}

-- a refusal by its number and its place
pub refusal_is : (r : Refusal) → r ≡ refusal (number_of r.cause) r.place
refusal_is r = ap (λ (c : Cause). record { cause = c; place = r.place }) (sym (cause_number r.cause))

-- refusals of one number and one place are one
pub refusal_once : (r q : Refusal) → number_of r.cause ≡ number_of q.cause → r.place ≡ q.place → r ≡ q
refusal_once r q e f = refusal_is r ∙ ap₂ refusal e f ∙ sym (refusal_is q)

-- refusals that are one have one number
pub same_number : {A : Type 0} (r q : Refusal) → ◌≡◌ {A = Result A Refusal} (Err r) (Err q) → number_of r.cause ≡ number_of q.cause
same_number r q e = let same : r ≡ q = cc in ap (λ (x : Refusal). number_of x.cause) same

-- a number with which a sheet is refused is that of its cause
pub in_sheet_known : (n : ℕ) → InSheet n → (1 ≤ n) × (n ≤ 19)
in_sheet_known n (inl h) = (omega arith, omega arith)
in_sheet_known n (inr e) = (omega arith, omega arith)

pub in_sheet : (n : ℕ) → InSheet n → number_of (cause_of n) ≡ n
in_sheet n h = let k = in_sheet_known n h in number_cause n k.0 k.1

pub sheet_number : (n : ℕ) → InSheet n → InSheet (number_of (cause_of n))
sheet_number n h = rw (in_sheet n h) h

pub refused_in_sheet : (s : List ℕ) (n i : ℕ) → reading s ≡ refused n i → InSheet (number_of (refusal n i).cause)
refused_in_sheet s n i e = sheet_number n (refused_number s n i e)

-- where none is made a refusal, the refusal is that one
pub ok_or_refuses : {A : Type 0} (o : Option A) (e r : Refusal) → ◌≡◌ {A = Result A Refusal} (Err r) (ok_or o e) → r ≡ e
ok_or_refuses None e r q = cc
ok_or_refuses (Some x) e r q = cc
