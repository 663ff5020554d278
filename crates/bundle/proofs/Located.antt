-- The parts of a bundle, record after record: what each step makes of them, where they lie, and how the loop that looks for them goes on.
use Prim.Native.Nat.{ℕ, zero, suc, ◌+◌, ◌-◌, ◌≤◌, ◌<◌}
use native.Mathlib.Omega.{arith}
use mathlib.Core.Path.{◌≡◌, refl, ap, ap₂, sym, ◌∙◌, subst}
use mathlib.Core.Bool.{true, cond}
use mathlib.Core.List.{List, [], ◌∷◌, ◌++◌, append-nil, append_assoc}
use mathlib.Core.Option.{Option, none, some, get_or}
use native.Mathlib.Decide.{dec_lt, ℕ_discrete}
use lib.ListN.{length, take, drop, set, length-append, get_or-append}
use lib.Seq.{get_or-append_seam}
use lib.Dec.{eqb}
use borrow.Author.Tests.{ne_eqb}
use Rattle.prelude.specs.Lists.{at}
use Rattle.prelude.proofs.Lists.{filled_more}
use Rattle.records.specs.Record.{cut}
use Rattle.records.specs.Step.{step_at}
use Rattle.records.specs.declared.Step.{Step}
use Rattle.records.specs.declared.Step.TheVariants.{Record, Cut, End}
use Rattle.records.proofs.Steps.{step_end, step_cut, step_whole}
use Rattle.bundle.specs.Bundle.{Part, most_sheets, sheet_kind, sheet_in, cons_part, parts_from, parts}
use Rattle.bundle.specs.Promise.{part_at}
use Rattle.bundle.specs.Parts.{Held, Located, Inside}
use Rattle.bundle.specs.declared.Parts.{Parts}

-- what stands at a position makes of the parts, where there may be one more than n, and where there may be none
abbrev taking : ℕ → List ℕ → Step → Option (List Part)
taking n s x =
    elim x [
      | Record kind start len ↦ cond (eqb kind sheet_kind) (cons_part (record { start = start; len = len }) (parts_from n s (start + len))) none
      | Cut ↦ none
      | End ↦ some []
    ]

abbrev full : Step → Option (List Part)
full x = elim x [ Record kind start len ↦ none | Cut ↦ none | End ↦ some [] ]

module _ (s : List ℕ) (i : ℕ) where
  -- a step at which no part more can be taken, by what it makes of both
  from_step : (n : ℕ) (x : Step) (o : Option (List Part)) → step_at s i ≡ x → ((m : ℕ) → taking m s x ≡ o) → full x ≡ o → parts_from n s i ≡ o
  unfolding parts_from
  from_step zero x o e t f = ap full e ∙ f
  from_step (suc n) x o e t f = ap (taking n s) e ∙ t n

  from_ended : (n : ℕ) → step_at s i ≡ End → parts_from n s i ≡ some []
  from_ended n e = from_step n End (some []) e (λ m. refl) refl

  pub from_end : (n : ℕ) → length s ≤ i → parts_from n s i ≡ some []
  from_end n h = from_ended n (sym (step_end s i h))

  pub from_cut : (n : ℕ) → step_at s i ≡ Cut → parts_from n s i ≡ none
  from_cut n e = from_step n Cut none e (λ m. refl) refl

  module _ (kind start len : ℕ) (e : step_at s i ≡ Record kind start len) where
    pub from_other : (n : ℕ) → (kind ≡ sheet_kind → ⊥) → parts_from n s i ≡ none
    from_other n h = from_step n (Record kind start len) none e (λ m. rw (ne_eqb kind sheet_kind h)) refl

    pub from_over : parts_from 0 s i ≡ none
    unfolding parts_from
    from_over = ap full e

    pub from_sheet : (n : ℕ) → kind ≡ sheet_kind → parts_from (suc n) s i ≡ cons_part (record { start = start; len = len }) (parts_from n s (start + len))
    unfolding parts_from
    from_sheet n h = ap (taking n s) e ∙ rw h

-- ---- the loop that looks for them
abbrev onto : List Part → Option (List Part) → Option (List Part)
onto front none = none
onto front (some ps) = some (front ++ ps)

onto_cons : (front : List Part) (p : Part) (o : Option (List Part)) → onto front (cons_part p o) ≡ onto (front ++ (p ∷ [])) o
onto_cons front p none = refl
onto_cons front p (some ps) = ap some (sym (append_assoc front (p ∷ []) ps))

onto_nil : (o : Option (List Part)) → onto [] o ≡ o
onto_nil none = refl
onto_nil (some ps) = refl

-- at a position: the parts in front of it are known, and what stands from there on decides
pub record Reached (s : List ℕ) (i many : ℕ) (starts ends : List ℕ) : Type 0 where
  pub front : List Part
  pub size : length front ≡ many
  pub most : ℕ
  pub room : many + most ≡ most_sheets
  pub rest : onto front (parts_from most s i) ≡ parts_from most_sheets s 0
  pub held : Held front starts ends

pub reached_start : (s starts ends : List ℕ) → Reached s 0 0 starts ends
reached_start s starts ends =
    record {
      front = [];
      size = refl;
      most = most_sheets;
      room = refl;
      rest = onto_nil (parts_from most_sheets s 0);
      held = record { start = λ k h. absurd (omega arith); end = λ k h. absurd (omega arith) };
    }

no_length : (ps : List Part) → length ps ≡ 0 → ps ≡ []
no_length [] h = refl
no_length (p ∷ ps) h = absurd (omega arith)

located_none : (s : List ℕ) → parts_from most_sheets s 0 ≡ none → parts s ≡ []
unfolding parts
located_none s e = ap (λ (o : Option (List Part)). get_or o []) e

module _ (s : List ℕ) (i many : ℕ) (starts ends : List ℕ) (g : Reached s i many starts ends) where
  -- the end was reached
  pub reached_end : length s ≤ i → Located (parts s) (record { many = many; starts = starts; ends = ends })
  unfolding parts
  reached_end h =
      let all : some g.front ≡ parts_from most_sheets s 0 =
      ap some (sym (append-nil g.front)) ∙ sym (ap (onto g.front) (from_end s i g.most h)) ∙ g.rest in
      let same : g.front ≡ parts s = ap (λ (o : Option (List Part)). get_or o []) all in
      subst (λ (ps : List Part). Located ps (record { many = many; starts = starts; ends = ends })) same
      (record { many = sym g.size; held = g.held })

  -- without a record
  pub reached_none : length s ≤ i → many ≡ 0 → parts s ≡ []
  reached_none h z = no_length (parts s) (omega (arith, (reached_end h).many))

  -- there is room for one more
  pub reached_room : (many ≡ most_sheets → ⊥) → many < most_sheets
  reached_room h =
      elim (dec_lt many most_sheets) [
        | yes l ↦ l
        | no l ↦ let r = g.room in absurd (h (omega arith))
      ]

  -- the bundle is at fault here
  at_fault : parts_from g.most s i ≡ none → parts s ≡ []
  at_fault e = located_none s (sym g.rest ∙ ap (onto g.front) e)

  pub reached_cut : i < length s → cut s i ≡ true → parts s ≡ []
  reached_cut h e = at_fault (from_cut s i g.most (sym (step_cut s i h e)))

  module _ (kind start len : ℕ) (e : step_at s i ≡ Record kind start len) where
    pub reached_other : (kind ≡ sheet_kind → ⊥) → parts s ≡ []
    reached_other h = at_fault (from_other s i kind start len e g.most h)

    pub reached_ninth : many ≡ most_sheets → parts s ≡ []
    reached_ninth h =
        let r = g.room in
        let full : g.most ≡ 0 = omega arith in
        at_fault (ap (λ (n : ℕ). parts_from n s i) full ∙ from_over s i kind start len e)

    -- one part more
    abbrev more : List Part
    more = g.front ++ (record { start = start; len = len } ∷ [])

    long : length more ≡ many + 1
    long = length-append g.front _ ∙ ap (λ (n : ℕ). n + 1) g.size

    before : (k : ℕ) → k < many → part_at g.front k ≡ part_at more k
    before k h = sym (get_or-append g.front _ _ k (omega (arith, g.size)))

    last : record { start = start; len = len } ≡ part_at more many
    last = sym (get_or-append_seam g.front _ [] _) ∙ ap (part_at more) g.size

    -- an array holds what f says of each part, the new one too
    stored : (f : Part → ℕ) (l : List ℕ) → many < length l → ((k : ℕ) → k < length g.front → at l k ≡ f (part_at g.front k)) → (k : ℕ) → k < length more → at (set l many (f (record { start = start; len = len }))) k ≡ f (part_at more k)
    stored f l h old k b =
        filled_more (λ (j : ℕ). f (part_at more j)) l many _ h (ap f last) (λ j c. old j (omega (arith, g.size)) ∙ ap f (before j c)) k (omega (arith, long))

    pub reached_next : kind ≡ sheet_kind → (many ≡ most_sheets → ⊥) → length starts ≡ most_sheets → length ends ≡ most_sheets → (end : ℕ) → start + len ≡ end → Reached s end (many + 1) (set starts many start) (set ends many end)
    reached_next k h ls le end same = subst (λ (n : ℕ). Reached s n (many + 1) (set starts many start) (set ends many n)) same (step g.most refl)
      where
        step : (n : ℕ) → g.most ≡ n → Reached s (start + len) (many + 1) (set starts many start) (set ends many (start + len))
        step zero e₀ = absurd (h (omega (arith, g.room)))
        step (suc n) e₀ =
            record {
              front = more;
              size = long;
              most = n;
              room = omega (arith, g.room);
              rest =
                  sym (onto_cons g.front (record { start = start; len = len }) (parts_from n s (start + len)))
                  ∙ ap (onto g.front) (sym (from_sheet s i kind start len e n k) ∙ ap (λ (m : ℕ). parts_from m s i) (sym e₀))
                  ∙ g.rest;
              held =
                  record {
                    start = stored (λ p. p.start) starts (omega (arith, g.room)) g.held.start;
                    end = stored (λ p. p.start + p.len) ends (omega (arith, g.room)) g.held.end;
                  };
            }

-- ---- where they lie
abbrev AllIn : List ℕ → List Part → Type 0
AllIn s [] = Unit
AllIn s (p ∷ ps) = (4 ≤ p.start) × (p.start + p.len ≤ length s) × AllIn s ps

record Placed (n : ℕ) (s : List ℕ) (ps : List Part) : Type 0 where
  few : length ps ≤ n
  within : AllIn s ps

abbrev PlacedIn : ℕ → List ℕ → Option (List Part) → Type 0
PlacedIn n s none = Unit
PlacedIn n s (some ps) = Placed n s ps

placed_none : (n : ℕ) (s : List ℕ) → Placed n s []
placed_none n s = record { few = omega arith; within = tt }

placed_cons : (n : ℕ) (s : List ℕ) (p : Part) (o : Option (List Part)) → 4 ≤ p.start → p.start + p.len ≤ length s → PlacedIn n s o → PlacedIn (suc n) s (cons_part p o)
placed_cons n s p none b h x = tt
placed_cons n s p (some ps) b h x = record { few = omega (arith, x.few); within = (b, h, x.within) }

placed : (n : ℕ) (s : List ℕ) (i : ℕ) → PlacedIn n s (parts_from n s i)
placed zero s i = by (step_at s i) refl
  where
    by : (x : Step) → step_at s i ≡ x → PlacedIn zero s (parts_from zero s i)
    by End e = subst (PlacedIn zero s) (sym (from_ended s i zero e)) (placed_none zero s)
    by Cut e = subst (PlacedIn zero s) (sym (from_cut s i zero e)) tt
    by (Record kind start len) e = subst (PlacedIn zero s) (sym (from_over s i kind start len e)) tt
placed (suc n) s i = by (λ j. placed n s j) (step_at s i) refl
  where
    by : ((j : ℕ) → PlacedIn n s (parts_from n s j)) → (x : Step) → step_at s i ≡ x → PlacedIn (suc n) s (parts_from (suc n) s i)
    by rest End e = subst (PlacedIn (suc n) s) (sym (from_ended s i (suc n) e)) (placed_none (suc n) s)
    by rest Cut e = subst (PlacedIn (suc n) s) (sym (from_cut s i (suc n) e)) tt
    by rest (Record kind start len) e =
        elim (ℕ_discrete kind sheet_kind) [
          | yes k ↦
              let w = step_whole s i kind start len e in
              subst (PlacedIn (suc n) s) (sym (from_sheet s i kind start len e n k))
              (placed_cons n s (record { start = start; len = len }) (parts_from n s (start + len)) (omega (arith, w.start)) (omega (arith, w.start, w.len, w.inside)) (rest (start + len)))
          | no k ↦ subst (PlacedIn (suc n) s) (sym (from_other s i kind start len e (suc n) k)) tt
        ]

parts_placed : (s : List ℕ) → Placed most_sheets s (parts s)
unfolding parts
parts_placed s = by (parts_from most_sheets s 0) (placed most_sheets s 0)
  where
    by : (o : Option (List Part)) → PlacedIn most_sheets s o → Placed most_sheets s (get_or o [])
    by none x = placed_none most_sheets s
    by (some ps) x = x

all_in : (s : List ℕ) (ps : List Part) (k : ℕ) → AllIn s ps → k < length ps → (4 ≤ (part_at ps k).start) × ((part_at ps k).start + (part_at ps k).len ≤ length s)
all_in s [] k x h = absurd (omega arith)
all_in s (p ∷ ps) zero x h = (x.0, x.1)
all_in s (p ∷ ps) (suc k) x h = all_in s ps k x.2 (omega arith)

pub parts_few : (s : List ℕ) → length (parts s) ≤ most_sheets
parts_few s = (parts_placed s).few

pub parts_within : (s : List ℕ) (k : ℕ) → k < length (parts s) → (part_at (parts s) k).start + (part_at (parts s) k).len ≤ length s
parts_within s k h = (all_in s (parts s) k (parts_placed s).within h).1

unfoldable pub parts_inside : (s : List ℕ) (found : Parts) → Located (parts s) found → Inside s found
parts_inside s found l = record { parts = parts s; located = l; few = parts_few s; within = parts_within s }

-- a part that was found: where it starts and ends, and its bytes
module _ (s : List ℕ) (found : Parts) (k : Inside s found) (i : ℕ) (h : i < found.many) where
  pub there : i < length k.parts
  there = omega (arith, k.located.many)

  pub starts_at : at found.starts i ≡ (part_at k.parts i).start
  starts_at = k.located.held.start i there

  ends_at : at found.ends i ≡ (part_at k.parts i).start + (part_at k.parts i).len
  ends_at = k.located.held.end i there

  pub ordered : at found.starts i ≤ at found.ends i
  ordered = omega (arith, starts_at, ends_at)

  pub ends_inside : at found.ends i ≤ length s
  ends_inside = omega (arith, ends_at, k.within i there)

  pub sheet_there : take (at found.ends i - at found.starts i) (drop (at found.starts i) s) ≡ sheet_in s (part_at k.parts i)
  sheet_there =
      ap₂ (λ (n m : ℕ). take n (drop m s)) (let e : at found.ends i - at found.starts i ≡ (part_at k.parts i).len = omega (arith, starts_at, ends_at) in e) starts_at

-- a payload stands behind a record's head
pub parts_start : (s : List ℕ) (k : ℕ) → k < length (parts s) → 4 ≤ (part_at (parts s) k).start
parts_start s k h = (all_in s (parts s) k (parts_placed s).within h).0
