-- Laws of the first codes: no code below those tried is left, and a model with one more term as low as it can be.
use Prim.Native.Nat.{ℕ, ◌+◌, ◌≤◌, ◌<◌}
use mathlib.Core.Path.{◌≡◌, refl, sym, subst, ◌∙◌}
use mathlib.Core.List.{List}
use native.Mathlib.Nat.{ne_of_lt, ne_of_gt}
use native.Mathlib.Omega.{arith}
use native.Mathlib.Decide.{dec_lt}
use lib.ListN.{length, set, length-set}
use borrow.Author.Count.{below_more}
use Rattle.prelude.specs.Limits.{undecided}
use Rattle.prelude.specs.Lists.{at}
use Rattle.prelude.proofs.Lists.{at_set_same, at_set_other}
use Rattle.logic.specs.Order.{NotAfter}
use Rattle.logic.specs.Problem.{Problem, WellSorted, Consistent, Extends, Dead}
use Rattle.logic.proofs.Decided.{decide_more, decide_less}
use Rattle.consistency.specs.Searchable.{Padded}
use Rattle.solve.specs.declared.Choices.{Choices}
use Rattle.solve.specs.Solved.{Model, Branches}
use Rattle.solve.proofs.Branching.{Tried}
use Rattle.first_codes.specs.FirstCodes.{First}
use Rattle.first_codes.specs.Parts.{LeastAt}

module _ (P : Problem) (sizes : ℕ → ℕ) (l : List ℕ) (plan : Choices) (v : ℕ) (b : Branches P sizes (at l) plan) (t : Tried P sizes l plan v) where
  -- where the codes below v that are worth trying are dead, no consistent extension has a code below v
  tried_least : (c : ℕ → ℕ) → Consistent P sizes c → Extends P (at l) c → v ≤ c plan.term
  tried_least c con ext =
      elim (dec_lt (c plan.term) v) [
        | no h ↦ omega arith
        | yes h ↦
            let m = b.covers c con ext in
            let d = m.0 in
            let k = m.1 in
            let le = k.most in
            absurd (t (d plan.term) (omega arith) k.worth d k.consistent (decide_more P l plan.term (d plan.term) d k.extends refl))
      ]

  -- a model found with the code v
  pub lowest_found : (m codes : List ℕ) → plan.term < length l → (v ≡ undecided → ⊥) → m ≡ set l plan.term v → Model P sizes (at m) (at codes) → LeastAt P sizes (at l) (at codes) plan.term
  lowest_found m codes h small e s =
      record {
        consistent = s.consistent;
        extends = decide_less P l plan.term v (at codes) b.pending ext;
        least = λ c con x. let y = tried_least c con x in let z = code in omega arith;
      }
    where
      ext : Extends P (at (set l plan.term v)) (at codes)
      ext = subst (λ (k : List ℕ). Extends P (at k) (at codes)) e s.extends

      code : at codes plan.term ≡ v
      code = let same = at_set_same l plan.term v h in ext plan.term b.there (λ u. small (sym same ∙ u)) ∙ same

  -- the model at hand, whose code is v
  pub lowest_kept : (codes : List ℕ) → v ≡ at codes plan.term → Model P sizes (at l) (at codes) → LeastAt P sizes (at l) (at codes) plan.term
  lowest_kept codes e s = record { consistent = s.consistent; extends = s.extends; least = λ c k x. let y = tried_least c k x in omega arith }

-- a code of a term changes nothing past the terms
pub padded_set : (P : Problem) (codes : List ℕ) (i v : ℕ) → i < P.terms → Padded P (at codes) → Padded P (at (set codes i v))
padded_set P codes i v h k j l = at_set_other codes i v j (λ e. absurd (omega arith)) ∙ k j l

-- the model while the terms below n are as low as they can be, and decided
pub record Lowered (P : Problem) (sizes : ℕ → ℕ) (model decided : List ℕ) (n : ℕ) : Type 0 where
  pub length : length decided ≡ 256
  pub consistent : Consistent P sizes (at model)
  pub same : (j : ℕ) → j < n → at decided j ≡ at model j
  pub pending : (j : ℕ) → n ≤ j → j < 256 → at decided j ≡ undecided
  pub first : (c : ℕ → ℕ) → Consistent P sizes c → NotAfter n (at model) c

pub lowered_none : (P : Problem) (sizes : ℕ → ℕ) (model decided : List ℕ) → length decided ≡ 256 → ((j : ℕ) → j < 256 → at decided j ≡ undecided) → Consistent P sizes (at model) → Lowered P sizes model decided 0
lowered_none P sizes model decided len all con =
    record { length = len; consistent = con; same = λ j h. omega arith; pending = λ j h. all j; first = λ c k j h. omega arith }

module _ (P : Problem) (sizes : ℕ → ℕ) (model decided : List ℕ) (n : ℕ) (lim : P.terms ≤ 128) (there : n < P.terms) (k : Lowered P sizes model decided n) where
  -- codes that agree with decided ones below n keep to the decisions
  agrees_extends : (c : ℕ → ℕ) → ((j : ℕ) → j < n → at decided j ≡ c j) → Extends P (at decided) c
  agrees_extends c same j h d =
      elim (dec_lt j n) [
        | yes l ↦ sym (same j l)
        | no l ↦ absurd (d (k.pending j (omega arith) (omega arith)))
      ]

  pub lowered_extends : Extends P (at decided) (at model)
  lowered_extends = agrees_extends (at model) k.same

  pub lowered_pending : at decided n ≡ undecided
  lowered_pending = k.pending n (omega arith) (omega arith)

  module _ (w : WellSorted P) (small : (s : ℕ) → s < P.sorts → sizes s ≤ 16) (better : List ℕ) (low : LeastAt P sizes (at decided) (at better) n) where
    not_undecided : (j : ℕ) → j < n → at decided j ≡ undecided → ⊥
    not_undecided j h u =
        let e = k.same j h in
        let there-j : j < P.terms = omega arith in
        let a = k.consistent.range j there-j in
        let b = small (P.sort j) (w.sort j there-j) in
        omega arith

    below : (j : ℕ) → j < n → at decided j ≡ at better j
    below j h = sym (low.extends j (omega arith) (not_undecided j h))

    abbrev pub next : List ℕ
    next = set decided n (at better n)

    other : (j : ℕ) → (j ≡ n → ⊥) → at next j ≡ at decided j
    other j ne = at_set_other decided n (at better n) j ne

    here : at next n ≡ at better n
    here = at_set_same decided n (at better n) (omega (arith, k.length))

    pub lowered_more : Lowered P sizes better next (n + 1)
    lowered_more =
        record {
          length = length-set decided n (at better n) ∙ k.length;
          consistent = low.consistent;
          same = below_more _ n (λ j h. other j (ne_of_lt h) ∙ below j h) here;
          pending = λ j h l. other j (ne_of_gt (omega arith)) ∙ k.pending j (omega arith) l;
          first = λ c con. below_more (λ (j : ℕ). ((i : ℕ) → i < j → at better i ≡ c i) → at better j ≤ c j) n
              (λ j h agree.
              let e : at better j ≡ at model j = sym (below j h) ∙ k.same j h in
              let l = k.first c con j h (λ i hi. sym (k.same i (omega arith)) ∙ below i (omega arith) ∙ agree i hi) in
              omega arith)
              (λ agree. low.least c con (agrees_extends c (λ j h. below j h ∙ agree j h)));
        }

-- every term is as low as it can be
pub lowered_all : (P : Problem) (sizes : ℕ → ℕ) (model decided : List ℕ) (n : ℕ) → P.terms ≤ n → Lowered P sizes model decided n → First P sizes (at model)
lowered_all P sizes model decided n le k = record { consistent = k.consistent; first = λ c con j h. k.first c con j (omega arith) }

-- nothing is decided, so what keeps to it is everything
pub nothing_decided : (P : Problem) (sizes q : ℕ → ℕ) → P.terms ≤ 128 → ((j : ℕ) → j < 256 → q j ≡ undecided) → Dead P sizes q → (c : ℕ → ℕ) → Consistent P sizes c → ⊥
nothing_decided P sizes q lim all dead c con = dead c con (λ i h n. absurd (n (all i (omega arith))))
