-- What every call of bundle promises: from what becomes of the sheets, one after the other.
use Prim.Native.Nat.{ℕ, zero, suc, ◌+◌, ◌-◌, ◌≤◌, ◌<◌}
use native.Mathlib.Omega.{arith}
use native.Mathlib.Decide.{dec_lt}
use mathlib.Core.Path.{◌≡◌, refl, ap, ap₂, sym, ◌∙◌, subst₂}
use mathlib.Core.Logic.{◌⊎◌, inl, inr}
use mathlib.Core.List.{List, [], ◌∷◌}
use lib.ListN.{length, replicate}
use Rattle.std.specs.Prelude.{Result, Ok, Err}
use Rattle.prelude.specs.declared.refusal.Refusal.{Refusal}
use Rattle.prelude.proofs.Causes.{one_number}
use Rattle.bundle.specs.declared.Shares.{Shares}
use Rattle.prelude.specs.Causes as causes
use Rattle.prelude.specs.Lists.{at, firsts}
use Rattle.layout.specs.Layout.{InSheet}
use Rattle.sheet.proofs.Refusals.{in_sheet_known}
use Rattle.answer.specs.Answer.{sum}
use Rattle.bundle.specs.Bundle.{Alone, sum_alone, refused_alone, Part, most_sheets, sheet_in, parts, smallest, Outcome, turned_down, summed, joined, summing, refusal, sharing, gives, consider, bundling, answered, Bundling, Left, Refused, Stock, shared_out}
use Rattle.bundle.specs.Promise.{part_at, sheet_at, AllSums, FirstRefused, Shared, Promised}
use Rattle.bundle.proofs.Smallest.{smallest_exactly, refused_exactly, alone_number}
use Rattle.bundle.proofs.Summing.{sharing_over, sharing_within}

-- ---- what becomes of a list of parts
-- these are the own sums of the parts
pub record Own (s : List ℕ) (ps : List Part) (sums : List ℕ) : Type 0 where
  pub many : length sums ≡ length ps
  pub own : (k : ℕ) → k < length ps → smallest (sheet_in s (part_at ps k)) ≡ sum_alone (at sums k)

-- one of them is refused, and those before it have sums
pub record First (s : List ℕ) (ps : List Part) (n i : ℕ) : Type 0 where
  pub which : ℕ
  pub there : which < length ps
  pub earlier : (k : ℕ) → k < which → (m : ℕ) × (smallest (sheet_in s (part_at ps k)) ≡ sum_alone m)
  pub place : ℕ
  pub alone : smallest (sheet_in s (part_at ps which)) ≡ refused_alone n place
  pub counted : i ≡ (part_at ps which).start + place

-- a part that has a sum, in front
module _ (s : List ℕ) (p : Part) (ps : List Part) (k : ℕ) (e : smallest (sheet_in s p) ≡ sum_alone k) where
  own_cons : (sums : List ℕ) → Own s ps sums → Own s (p ∷ ps) (k ∷ sums)
  own_cons sums x = record { many = omega (arith, x.many); own = entries }
    where
      entries : (j : ℕ) → j < length (p ∷ ps) → smallest (sheet_in s (part_at (p ∷ ps) j)) ≡ sum_alone (at (k ∷ sums) j)
      entries zero h = e
      entries (suc j) h = x.own j (omega arith)

  first_cons : (n i : ℕ) → First s ps n i → First s (p ∷ ps) n i
  first_cons n i x =
      record { which = suc x.which; there = omega (arith, x.there); earlier = before; place = x.place; alone = x.alone; counted = x.counted }
    where
      before : (j : ℕ) → j < suc x.which → (m : ℕ) × (smallest (sheet_in s (part_at (p ∷ ps) j)) ≡ sum_alone m)
      before zero h = (k, e)
      before (suc j) h = x.earlier j (omega arith)

-- what an outcome says of the parts
abbrev Says : List ℕ → List Part → Outcome → Type 0
Says s ps (turned_down n i) = First s ps n i
Says s ps (summed sums) = Own s ps sums

summing_says : (s : List ℕ) (ps : List Part) → Says s ps (summing s ps)
unfolding summing
summing_says s [] = record { many = refl; own = λ k h. absurd (omega arith) }
summing_says s (p ∷ ps) = step (smallest (sheet_in s p)) refl (summing s ps) (summing_says s ps)
  where
    step : (x : Alone) → smallest (sheet_in s p) ≡ x → (o : Outcome) → Says s ps o → Says s (p ∷ ps) (joined p.start x o)
    step (refused_alone n i) e o y = record { which = 0; there = omega arith; earlier = λ k h. absurd (omega arith); place = i; alone = e; counted = refl }
    step (sum_alone k) e (turned_down n i) y = first_cons s p ps k e n i y
    step (sum_alone k) e (summed sums) y = own_cons s p ps k e sums y

-- and the other way round: the own sums, or the first refusal, decide
own_summing : (s : List ℕ) (ps : List Part) (sums : List ℕ) → Own s ps sums → summing s ps ≡ summed sums
unfolding summing
own_summing s [] [] x = refl
own_summing s [] (y ∷ ys) x = absurd (omega (arith, x.many))
own_summing s (p ∷ ps) [] x = absurd (omega (arith, x.many))
own_summing s (p ∷ ps) (y ∷ ys) x =
    ap₂ (joined p.start) (x.own 0 (omega arith))
    (own_summing s ps ys (record { many = omega (arith, x.many); own = λ k h. x.own (suc k) (omega arith) }))

first_summing : (s : List ℕ) (ps : List Part) (n i which place : ℕ) → which < length ps → ((k : ℕ) → k < which → (m : ℕ) × (smallest (sheet_in s (part_at ps k)) ≡ sum_alone m)) → smallest (sheet_in s (part_at ps which)) ≡ refused_alone n place → i ≡ (part_at ps which).start + place → summing s ps ≡ turned_down n i
unfolding summing
first_summing s [] n i which place h b a c = absurd (omega arith)
first_summing s (p ∷ ps) n i zero place h b a c = ap (λ (x : Alone). joined p.start x (summing s ps)) a ∙ ap (turned_down n) (sym c)
first_summing s (p ∷ ps) n i (suc which) place h b a c =
    ap₂ (joined p.start) (b 0 (omega arith)).1 (first_summing s ps n i which place (omega arith) (λ k l. b (suc k) (omega arith)) a c)

-- ---- the call
module _ (s : List ℕ) (limit : ℕ) where
  no_part : parts s ≡ [] → bundling s limit ≡ refusal 18 0
  unfolding bundling
  no_part e = ap (consider s limit) e

  some_part : 1 ≤ length (parts s) → bundling s limit ≡ gives limit (summing s (parts s))
  unfolding bundling
  some_part h = step (parts s) h
    where
      step : (ps : List Part) → 1 ≤ length ps → consider s limit ps ≡ gives limit (summing s ps)
      step [] l = absurd (omega arith)
      step (p ∷ ps) l = refl

  -- the same, of what the code gives back
  pub answered_none : parts s ≡ [] → Err (causes.refusal 18 0) ≡ answered (bundling s limit)
  answered_none e = sym (ap answered (no_part e))

  pub answered_some : 1 ≤ length (parts s) → answered (gives limit (summing s (parts s))) ≡ answered (bundling s limit)
  answered_some h = sym (ap answered (some_part h))

  -- what becomes of the call
  data Came : Type 0 where
    faulty : parts s ≡ [] → bundling s limit ≡ refusal 18 0 → Came
    stopped : (n i : ℕ) → First s (parts s) n i → bundling s limit ≡ refusal n i → Came
    over : (sums : List ℕ) → 1 ≤ length (parts s) → Own s (parts s) sums → limit < sum sums → bundling s limit ≡ refusal 19 0 → Came
    enough : (sums : List ℕ) → 1 ≤ length (parts s) → Own s (parts s) sums → sum sums ≤ limit → bundling s limit ≡ record { sums = firsts most_sheets (at sums); stock = Left (limit - sum sums) } → Came

  came : Came
  came = by_parts (parts s) refl
    where
      by_outcome : 1 ≤ length (parts s) → (o : Outcome) → summing s (parts s) ≡ o → Says s (parts s) o → Came
      by_outcome l (turned_down n i) e x = stopped n i x (some_part l ∙ ap (gives limit) e)
      by_outcome l (summed sums) e x =
          elim (dec_lt limit (sum sums)) [
            | yes h ↦ over sums l x h (some_part l ∙ ap (gives limit) e ∙ sharing_over limit sums h)
            | no h ↦ enough sums l x (omega arith) (some_part l ∙ ap (gives limit) e ∙ sharing_within limit sums (omega arith))
          ]

      by_parts : (ps : List Part) → parts s ≡ ps → Came
      by_parts [] e = faulty e (no_part e)
      by_parts (p ∷ ps) e = by_outcome (omega (arith, ap length e)) (summing s (parts s)) refl (summing_says s (parts s))

  -- the stock that each way gives
  stock : {x : Bundling} → bundling s limit ≡ x → (bundling s limit).stock ≡ x.stock
  stock e = ap (λ (b : Bundling). b.stock) e

  -- two refusals are one, and no refusal leaves anything
  same_number : {n i m j : ℕ} → (bundling s limit).stock ≡ Refused n i → (bundling s limit).stock ≡ Refused m j → (n ≡ m) × (i ≡ j)
  same_number a b = let r : Refused _ _ ≡ Refused _ _ = sym a ∙ b in (cc, cc)

  not_left : {n i l : ℕ} → (bundling s limit).stock ≡ Refused n i → (bundling s limit).stock ≡ Left l → ⊥
  not_left a b = let r : Refused _ _ ≡ Left _ = sym a ∙ b in let z : ◌≡◌ {A = ℕ} 0 1 = cc in absurd (omega arith)

  -- with which numbers a sheet stops the call
  stops : (n i : ℕ) → First s (parts s) n i → InSheet n ⊎ (n ≡ 11)
  stops n i x = alone_number (sheet_at s x.which) n x.place x.alone

  not_sheet : (n m i : ℕ) → First s (parts s) n i → n ≡ m → (m ≡ 18) ⊎ (m ≡ 19) → ⊥
  not_sheet n m i x e y = by (stops n i x) y
    where
      by : InSheet n ⊎ (n ≡ 11) → (m ≡ 18) ⊎ (m ≡ 19) → ⊥
      by (inl (inl w)) (inl z) = omega arith
      by (inl (inl w)) (inr z) = omega arith
      by (inl (inr w)) (inl z) = omega arith
      by (inl (inr w)) (inr z) = omega arith
      by (inr w) (inl z) = omega arith
      by (inr w) (inr z) = omega arith

  all_sums : (sums : List ℕ) → 1 ≤ length (parts s) → Own s (parts s) sums → AllSums s sums
  all_sums sums l x = record { any = l; many = x.many; own = λ k h. (smallest_exactly (sheet_at s k) (at sums k)).0 (x.own k h) }

  own_sums : (sums : List ℕ) → AllSums s sums → Own s (parts s) sums
  own_sums sums x = record { many = x.many; own = λ k h. (smallest_exactly (sheet_at s k) (at sums k)).1 (x.own k h) }

  given : (sums : List ℕ) → AllSums s sums → bundling s limit ≡ sharing limit sums
  given sums x = some_part x.any ∙ ap (gives limit) (own_summing s (parts s) sums (own_sums sums x))

  first_refused : (n i : ℕ) → First s (parts s) n i → FirstRefused s n i
  first_refused n i x =
      record {
        which = x.which;
        there = x.there;
        earlier = λ k h. let y = x.earlier k h in (y.0, (smallest_exactly (sheet_at s k) y.0).0 y.1);
        place = x.place;
        alone = (refused_exactly (sheet_at s x.which) n x.place).0 x.alone;
        counted = x.counted;
      }

  decided : (n i : ℕ) → FirstRefused s n i → bundling s limit ≡ refusal n i
  decided n i x =
      some_part (omega (arith, x.there))
      ∙ ap (gives limit)
      (first_summing s (parts s) n i x.which x.place x.there
      (λ k h. let y = x.earlier k h in (y.0, (smallest_exactly (sheet_at s k) y.0).1 y.1))
      ((refused_exactly (sheet_at s x.which) n x.place).1 x.alone)
      x.counted)

  faulted : (bundling s limit).stock ≡ Refused 18 0 → parts s ≡ []
  faulted r = by came
    where
      by : Came → parts s ≡ []
      by (faulty e b) = e
      by (stopped n i x b) = absurd (not_sheet n 18 i x (same_number (stock b) r).0 (inl refl))
      by (over sums l x h b) = absurd (let z = (same_number (stock b) r).0 in omega arith)
      by (enough sums l x h b) = absurd (not_left r (stock b))

  exceeded : (bundling s limit).stock ≡ Refused 19 0 → (sums : List ℕ) × AllSums s sums × (limit < sum sums)
  exceeded r = by came
    where
      by : Came → (sums : List ℕ) × AllSums s sums × (limit < sum sums)
      by (faulty e b) = absurd (let z = (same_number (stock b) r).0 in omega arith)
      by (stopped n i x b) = absurd (not_sheet n 19 i x (same_number (stock b) r).0 (inr refl))
      by (over sums l x h b) = (sums, all_sums sums l x, h)
      by (enough sums l x h b) = absurd (not_left r (stock b))

  refused_by : (n i : ℕ) → (bundling s limit).stock ≡ Refused n i → ((n ≡ 18) × (i ≡ 0)) ⊎ ((n ≡ 19) × (i ≡ 0)) ⊎ FirstRefused s n i
  refused_by n i r = by came
    where
      by : Came → ((n ≡ 18) × (i ≡ 0)) ⊎ ((n ≡ 19) × (i ≡ 0)) ⊎ FirstRefused s n i
      by (faulty e b) = inl (same_number r (stock b))
      by (stopped m j x b) = let z = same_number (stock b) r in inr (inr (first_refused n i (subst₂ (First s (parts s)) z.0 z.1 x)))
      by (over sums l x h b) = inr (inl (same_number r (stock b)))
      by (enough sums l x h b) = absurd (not_left r (stock b))

  zeros : (n i : ℕ) → (bundling s limit).stock ≡ Refused n i → (bundling s limit).sums ≡ replicate most_sheets 0
  zeros n i r = by came
    where
      by : Came → (bundling s limit).sums ≡ replicate most_sheets 0
      by (faulty e b) = ap (λ (x : Bundling). x.sums) b
      by (stopped m j x b) = ap (λ (x : Bundling). x.sums) b
      by (over sums l x h b) = ap (λ (x : Bundling). x.sums) b
      by (enough sums l x h b) = absurd (not_left r (stock b))

  shared_by : (left : ℕ) → (bundling s limit).stock ≡ Left left → Shared s limit left (bundling s limit).sums
  shared_by left r = by came
    where
      by : Came → Shared s limit left (bundling s limit).sums
      by (faulty e b) = absurd (not_left (stock b) r)
      by (stopped m j x b) = absurd (not_left (stock b) r)
      by (over sums l x h b) = absurd (not_left (stock b) r)
      by (enough sums l x h b) =
          let q : Left (limit - sum sums) ≡ Left left = sym (stock b) ∙ r in
          let same : limit - sum sums ≡ left = cc in
          record { sums = sums; all = all_sums sums l x; listed = ap (λ (y : Bundling). y.sums) b; spent = omega (arith, same) }

  -- THEOREM: of every call
  pub promised : Promised s limit
  promised =
      record {
        at_fault = (faulted, λ e. stock (no_part e));
        exceeds = (exceeded, λ x. stock (given x.0 x.1 ∙ sharing_over limit x.0 x.2));
        decides = λ n i x. stock (decided n i x);
        refuses = refused_by;
        zeros = zeros;
        shares = shared_by;
        answers = λ sums x h. stock (given sums x ∙ sharing_within limit sums h);
      }

  -- THEOREM: with which numbers a call is turned down: those of read, 11, 18 or 19
  pub refusal_number_lem : (n i : ℕ) → (bundling s limit).stock ≡ Refused n i → InSheet n ⊎ (n ≡ 11) ⊎ (n ≡ 18) ⊎ (n ≡ 19)
  refusal_number_lem n i r = by came
    where
      by : Came → InSheet n ⊎ (n ≡ 11) ⊎ (n ≡ 18) ⊎ (n ≡ 19)
      by (faulty e b) = inr (inr (inl (same_number r (stock b)).0))
      by (stopped m j x b) = let z = same_number (stock b) r in elim (stops n i (subst₂ (First s (parts s)) z.0 z.1 x)) [ inl w ↦ inl w | inr w ↦ inr (inl w) ]
      by (over sums l x h b) = inr (inr (inr (same_number r (stock b)).0))
      by (enough sums l x h b) = absurd (not_left r (stock b))

  -- what the code gives back where a call is turned down says why
  pub answered_refused : (n i : ℕ) → 1 ≤ n → n ≤ 19 → answered (bundling s limit) ≡ Err (causes.refusal n i) → (bundling s limit).stock ≡ Refused n i
  answered_refused n i a b e = step (bundling s limit).stock refl
    where
      known : (m : ℕ) → InSheet m ⊎ (m ≡ 11) ⊎ (m ≡ 18) ⊎ (m ≡ 19) → (1 ≤ m) × (m ≤ 19)
      known m (inl w) = in_sheet_known m w
      known m (inr (inl w)) = (omega arith, omega arith)
      known m (inr (inr (inl w))) = (omega arith, omega arith)
      known m (inr (inr (inr w))) = (omega arith, omega arith)

      step : (x : Stock) → (bundling s limit).stock ≡ x → (bundling s limit).stock ≡ Refused n i
      step (Left left) q =
          let z : ◌≡◌ {A = Result Shares Refusal} (Ok (record { sums = (bundling s limit).sums; left = left })) (Err (causes.refusal n i)) = sym (ap (shared_out (bundling s limit).sums) q) ∙ e in
          cc
      step (Refused m j) q =
          let z : ◌≡◌ {A = Result Shares Refusal} (Err (causes.refusal m j)) (Err (causes.refusal n i)) = sym (ap (shared_out (bundling s limit).sums) q) ∙ e in
          let k = known m (refusal_number_lem m j q) in
          let r : causes.refusal m j ≡ causes.refusal n i = cc in
          let cause : causes.cause_of m ≡ causes.cause_of n = ap (λ (x : Refusal). x.cause) r in
          let place : j ≡ i = ap (λ (x : Refusal). x.place) r in
          q ∙ ap₂ Refused (one_number m n k.0 k.1 a b cause) place
