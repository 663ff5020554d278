-- Laws of one node of the search: the codes worth trying cover all, and codes read off the masks settle the node.
use Prim.Native.Nat.{ℕ, ◌+◌, ◌≤◌, ◌<◌}
use mathlib.Core.Path.{◌≡◌, refl, sym, subst, ◌∙◌}
use mathlib.Core.Bool.{Bool, true, false, false≢true, Bool-discrete}
use mathlib.Core.List.{List}
use mathlib.Core.Logic.{◌⊎◌, inl, inr}
use native.Mathlib.Nat.{ne_of_lt, ne_of_gt}
use native.Mathlib.Omega.{arith}
use native.Mathlib.Decide.{dec_lt, ℕ_discrete}
use lib.ListN.{length, set, replicate, length-set}
use lib.Seq.{get_or-set_same, get_or-set_other}
use borrow.Author.Count.{below_more}
use Rattle.prelude.specs.Limits.{undecided}
use Rattle.prelude.specs.Tests.{Decides}
use Rattle.prelude.specs.Lists.{at}
use Rattle.prelude.proofs.Tests.{answer_yes}
use Rattle.prelude.proofs.Lists.{at_set_same, at_set_other, at_zeros}
use Rattle.logic.specs.Problem.{Problem, WellSorted, Consistent, Extends, Dead}
use Rattle.logic.proofs.Consistent.{Unused, equal_codes, swapped, swapped_consistent, swapped_second, swapped_extends}
use Rattle.logic.proofs.Decided.{decide_more, decide_less}
use Rattle.consistency.proofs.WholeTest.{small_codes}
use Rattle.knowledge.specs.declared.Known.{Known}
use Rattle.knowledge.specs.Knows.{Bit, Single}
use Rattle.propagate.specs.Propagated.{FitMask, Knowing}
use Rattle.std.specs.Prelude.{Option, Some, None, is_some}
use Rattle.solve.specs.declared.Choices.{Choices}
use Rattle.solve.specs.Solved.{Solved, flag, Worth, Covers, Branches}
use Rattle.solve.specs.Parts.{NeverStruck, InUse, Fresh, Pending, ReadOff}

-- ---- what is known before and after a decision
module _ (P : Problem) (sizes : ℕ → ℕ) where
  pub fit_mask : WellSorted P → ((s : ℕ) → s < P.sorts → sizes s ≤ 16) → FitMask P sizes
  fit_mask w small c con = small_codes P sizes c w small con.none con.range

  pub knowing_struck : (q : ℕ → ℕ) (known : Known) → Knowing P sizes q known → NeverStruck P sizes q known.masks
  knowing_struck q known k c con ext i h = (k c con ext).masks i

  pub knowing_decided : (known : Known) (decided more : List ℕ) (term v : ℕ) → Knowing P sizes (at decided) known → at decided term ≡ undecided → more ≡ set decided term v → Knowing P sizes (at more) known
  knowing_decided known decided more term v k u e c con ext = k c con (decide_less P decided term v c u (subst (λ (d : List ℕ). Extends P (at d) c) e ext))

-- ---- the codes in use
-- the flags while the terms below j have been passed
pub record Flagged (sort decided : ℕ → ℕ) (s : ℕ) (used : List Bool) (j : ℕ) : Type 0 where
  pub length : length used ≡ 16
  pub all : (k : ℕ) → k < j → sort k ≡ s → decided k < 16 → flag used (decided k) ≡ true

module _ (sort decided : ℕ → ℕ) (s : ℕ) (used : List Bool) (j : ℕ) (f : Flagged sort decided s used j) where
  pub flagged_more : (v : ℕ) → v < 16 → v ≡ decided j → Flagged sort decided s (set used v true) (j + 1)
  flagged_more v hv ev =
      record {
        length = length-set used v true ∙ f.length;
        all = below_more (λ (k : ℕ). sort k ≡ s → decided k < 16 → flag (set used v true) (decided k) ≡ true) j
            (λ k h e d. kept k (f.all k h e d))
            (λ e d. rw (← ev) here);
      }
    where
      here : flag (set used v true) v ≡ true
      here = get_or-set_same used v true false (omega (arith, f.length))

      kept : (k : ℕ) → flag used (decided k) ≡ true → flag (set used v true) (decided k) ≡ true
      kept k e =
          elim (ℕ_discrete (decided k) v) [
            | yes x ↦ rw x here
            | no x ↦ get_or-set_other used v (decided k) true false x ∙ e
          ]

  pub flagged_high : (v : ℕ) → 16 ≤ v → v ≡ decided j → Flagged sort decided s used (j + 1)
  flagged_high v hv ev = record { length = f.length; all = below_more _ j f.all (λ e d. absurd (omega arith)) }

  pub flagged_other : (sort j ≡ s → ⊥) → Flagged sort decided s used (j + 1)
  flagged_other n = record { length = f.length; all = below_more _ j f.all (λ e d. absurd (n e)) }

-- a code that is not flagged is not in use
pub unflagged : (P : Problem) (q : ℕ → ℕ) (s v : ℕ) (used : List Bool) → InUse P q s used → v < 16 → (flag used v ≡ true → ⊥) → Unused P q s v
unflagged P q s v used u h n j hj e x = n (subst (λ (k : ℕ). flag used k ≡ true) x (u j hj e (subst (λ (k : ℕ). k < 16) (sym x) h)))

-- ---- reading codes off
pub record ReadingOff (P : Problem) (q : ℕ → ℕ) (masks codes : List ℕ) (n : ℕ) : Type 0 where
  pub length : length codes ≡ 256
  pub read : ReadOff P q masks codes n

module _ (P : Problem) (q : ℕ → ℕ) (masks codes : List ℕ) (n v : ℕ) (h : n < 256) (reading : ReadingOff P q masks codes n) where
  abbrev r : ReadOff P q masks codes n
  r = reading.read

  len : length codes ≡ 256
  len = reading.length

  read_step : ((q n ≡ undecided → ⊥) → v ≡ q n) → (q n ≡ undecided → Single (at masks n) v) → ReadOff P q masks (set codes n v) (n + 1)
  read_step d o =
      record {
        decided = below_more _ n (λ i l u. at_set_other codes n v i (ne_of_lt l) ∙ r.decided i l u) (λ u. at_set_same codes n v (omega (arith, len)) ∙ d u);
        only = below_more _ n
            (λ i l u. rw (at_set_other codes n v i (ne_of_lt l)) (r.only i l u))
            (λ u. rw (at_set_same codes n v (omega (arith, len))) (o u));
        rest = λ i l. at_set_other codes n v i (ne_of_gt (omega arith)) ∙ r.rest i (omega arith);
      }

  pub read_decided : (q n ≡ undecided → ⊥) → v ≡ q n → ReadingOff P q masks (set codes n v) (n + 1)
  read_decided d e = record { length = length-set codes n v ∙ len; read = read_step (λ u. e) (λ u. absurd (d u)) }

  pub read_only : q n ≡ undecided → Single (at masks n) v → ReadingOff P q masks (set codes n v) (n + 1)
  read_only u o = record { length = length-set codes n v ∙ len; read = read_step (λ d. absurd (d u)) (λ e. o) }

module _ (P : Problem) (sizes q : ℕ → ℕ) (w : WellSorted P) (small : (s : ℕ) → s < P.sorts → sizes s ≤ 16) (masks : List ℕ) (k : NeverStruck P sizes q masks) where
  -- codes that are read off for every term are those of every consistent extension
  pub read_unique : (codes : List ℕ) → ReadOff P q masks codes P.terms → (c : ℕ → ℕ) → Consistent P sizes c → Extends P q c → (i : ℕ) → i < P.terms → c i ≡ at codes i
  read_unique codes r c con ext i h =
      elim (ℕ_discrete (q i) undecided) [
        | yes u ↦ (r.only i h u).only (c i) (fit_mask P sizes w small c con i) (k c con ext i h)
        | no d ↦ ext i h d ∙ sym (r.decided i h d)
      ]

  pub read_dead : (codes : List ℕ) → ReadOff P q masks codes P.terms → (Consistent P sizes (at codes) → ⊥) → Dead P sizes q
  read_dead codes r not c con ext = not (equal_codes P sizes c (at codes) (read_unique codes r c con ext) r.rest con)

  -- the codes worth trying cover all: any other is not in use and can be swapped with the first that is not in use
  module _ (plan : Choices) (pending : Pending P q plan.term) (es : plan.size ≡ sizes (P.sort plan.term)) (em : plan.mask ≡ at masks plan.term) (f : Fresh plan.used plan.size plan.fresh) (u : InUse P q (P.sort plan.term) plan.used) where
    lim : plan.size ≤ 16
    lim = let l = small (P.sort plan.term) (w.sort plan.term pending.0) in omega arith

    worth_trying : (d : ℕ → ℕ) → Consistent P sizes d → Extends P q d → (d plan.term ≤ plan.fresh) ⊎ (flag plan.used (d plan.term) ≡ true) → Worth plan (d plan.term)
    worth_trying d con ext o =
        let range = con.range plan.term pending.0 in
        record {
          below = omega arith;
          kept = λ b. k d con ext plan.term pending.0 (subst (λ (m : ℕ). Bit m (d plan.term)) em b);
          used = o;
        }

    covers : (c : ℕ → ℕ) → Consistent P sizes c → Extends P q c → (d : ℕ → ℕ) × Covers P sizes q plan c d
    covers c con ext =
        elim (dec_lt plan.fresh (c plan.term)) [
          | no le ↦ (c, itself (inl (omega arith)))
          | yes gt ↦
              elim (Bool-discrete (flag plan.used (c plan.term)) true) [
                | yes e ↦ (c, itself (inr e))
                | no n ↦ (swapped P (P.sort plan.term) plan.fresh (c plan.term) c, exchanged gt n)
              ]
        ]
      where
        itself : (c plan.term ≤ plan.fresh) ⊎ (flag plan.used (c plan.term) ≡ true) → Covers P sizes q plan c c
        itself o = record { consistent = con; extends = ext; worth = worth_trying c con ext o; most = omega arith }

        exchanged : plan.fresh < c plan.term → (flag plan.used (c plan.term) ≡ true → ⊥) → Covers P sizes q plan c (swapped P (P.sort plan.term) plan.fresh (c plan.term) c)
        exchanged gt n =
            let range = con.range plan.term pending.0 in
            let l = lim in
            let lf : plan.fresh < plan.size = omega arith in
            let con2 = swapped_consistent P (P.sort plan.term) plan.fresh (c plan.term) sizes c w (omega arith) range con in
            let ext2 = swapped_extends P (P.sort plan.term) plan.fresh (c plan.term) q c (unflagged P q (P.sort plan.term) plan.fresh plan.used u (omega arith) (f.free lf)) (unflagged P q (P.sort plan.term) (c plan.term) plan.used u (omega arith) n) ext in
            let e = swapped_second P (P.sort plan.term) plan.fresh (c plan.term) c plan.term pending.0 refl refl in
            record {
              consistent = con2;
              extends = ext2;
              worth = worth_trying _ con2 ext2 (inl (omega arith));
              most = omega arith;
            }

    pub branches : Branches P sizes q plan
    branches = record { there = pending.0; pending = pending.1; small = lim; covers = covers }

-- the codes below v that are worth trying are dead
abbrev pub Tried : Problem → (ℕ → ℕ) → List ℕ → Choices → ℕ → Type 0
Tried P sizes l plan v = (u : ℕ) → u < v → Worth plan u → Dead P sizes (at (set l plan.term u))

-- every code worth trying is dead: so are the decisions
pub branches_dead : (P : Problem) (sizes : ℕ → ℕ) (l : List ℕ) (plan : Choices) → Branches P sizes (at l) plan → Tried P sizes l plan plan.size → Dead P sizes (at l)
branches_dead P sizes l plan b dead c con ext =
    let m = b.covers c con ext in
    let d = m.0 in
    let k = m.1 in
    dead (d plan.term) k.worth.below k.worth d k.consistent (decide_more P l plan.term (d plan.term) d k.extends refl)

-- what the tests of a code say of its worth
module _ (plan : Choices) (v : ℕ) (h : v < plan.size) (n : Bit plan.mask v → ⊥) where
  pub worth_yes : v ≤ plan.fresh → Decides true (Worth plan v)
  worth_yes l = answer_yes (record { below = h; kept = n; used = inl l })

  pub worth_used : plan.fresh < v → Decides (flag plan.used v) (Worth plan v)
  worth_used l =
      record {
        yes = λ e. record { below = h; kept = n; used = inr e };
        no = λ e w. elim w.used [ inl x ↦ omega arith | inr x ↦ false≢true (sym e ∙ x) ];
      }

-- nothing has been read off yet
pub read_none : (P : Problem) (q : ℕ → ℕ) (masks : List ℕ) → ReadingOff P q masks (replicate 256 0) 0
read_none P q masks = record { length = refl; read = record { decided = λ i h. omega arith; only = λ i h. omega arith; rest = λ i h. at_zeros 256 i } }

-- a code below a size is decided
pub code_decided : {size : ℕ} (v : ℕ) → v < size → size ≤ 16 → v ≡ undecided → ⊥
code_decided v h s e = omega arith

module _ (P : Problem) (sizes : ℕ → ℕ) (l : List ℕ) (plan : Choices) (v : ℕ) (t : Tried P sizes l plan v) where
  pub tried_dead : (m : List ℕ) → m ≡ set l plan.term v → Dead P sizes (at m) → Tried P sizes l plan (v + 1)
  tried_dead m e d = below_more _ v t (λ w. subst (λ (k : List ℕ). Dead P sizes (at k)) e d)

  pub tried_not : (Worth plan v → ⊥) → Tried P sizes l plan (v + 1)
  tried_not n = below_more _ v t (λ w. absurd (n w))

-- codes found with one more decided code are found
pub solved_less : (P : Problem) (sizes : ℕ → ℕ) (l m : List ℕ) (term v : ℕ) (found : Option (List ℕ)) → at l term ≡ undecided → m ≡ set l term v → is_some found ≡ true → Solved P sizes (at m) found → Solved P sizes (at l) found
solved_less P sizes l m term v (Some codes) u e h s =
    record {
      consistent = s.consistent;
      extends = decide_less P l term v (at codes) u (subst (λ (k : List ℕ). Extends P (at k) (at codes)) e s.extends);
    }
solved_less P sizes l m term v None u e h s = absurd (false≢true h)

-- and where none are found, there are none
pub solved_none : (P : Problem) (sizes q : ℕ → ℕ) (found : Option (List ℕ)) → is_some found ≡ false → Solved P sizes q found → Dead P sizes q
solved_none P sizes q (Some codes) h s = absurd (false≢true (sym h))
solved_none P sizes q None h s = s
