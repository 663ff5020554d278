-- Laws of sizes: the order by sum and then by places, and what consistent codes at some sizes say of other sizes.
use Prim.Native.Nat.{ℕ, zero, suc, ◌+◌, ◌-◌, ◌≤◌, ◌<◌}
use mathlib.Core.Path.{◌≡◌, sym, ap, subst, ◌∙◌}
use mathlib.Core.Bool.{true, false, false≢true}
use mathlib.Core.List.{List}
use mathlib.Core.Logic.{◌⊎◌, inl, inr}
use native.Mathlib.Omega.{arith}
use native.Mathlib.Decide.{dec_lt, ℕ_discrete}
use lib.ListN.{length, set, length-set}
use lib.Seq.{set_out}
use native.Mathlib.Nat.{le_refl, ne_of_lt, ne_of_gt}
use borrow.Author.Count.{below_more}
use Rattle.prelude.specs.Limits.{undecided}
use Rattle.prelude.specs.Lists.{at, sum_to}
use Rattle.prelude.proofs.Lists.{at_set_same, at_set_other, sum_to_monotone}
use Rattle.logic.specs.Order.{NotAfter}
use Rattle.logic.specs.Problem.{Problem, WellSorted, Allowed, Unsatisfiable}
use Rattle.logic.proofs.Consistent.{larger_sizes}
use Rattle.solve.specs.Solved.{Solved}
use Rattle.std.specs.Prelude.{Option, Some, None, IfSome, is_some}
use Rattle.least_sizes.specs.LeastSizes.{Satisfiable, SizesNoLater, LeastSizes}
use Rattle.least_sizes.specs.Parts.{Barren, Probed, Below, Edge, Compared, Greatest, Raised, Candidate, Outdone, Region, Open, Hunted, Corner}

-- ---- sums
-- one place lies apart, so the sums do by at least as much
pub sum_apart : (n : ℕ) (f g : ℕ → ℕ) (i : ℕ) → i < n → Below n f g → sum_to n f + g i ≤ sum_to n g + f i
sum_apart zero f g i h b = omega arith
sum_apart (suc n) f g i h b =
    elim (ℕ_discrete i n) [
      | yes e ↦ subst (λ (k : ℕ). sum_to (suc n) f + g k ≤ sum_to (suc n) g + f k) (sym e) (let a = sum_to_monotone n f g (λ s l. b s (omega arith)) in omega arith)
      | no ne ↦ let a = sum_apart n f g i (omega arith) (λ s l. b s (omega arith)) in let k = b n (omega arith) in omega arith
    ]

-- ---- the order
pub nolater_below : (n : ℕ) (f g : ℕ → ℕ) → Below n f g → SizesNoLater n f g
nolater_below n f g b = record { sum = sum_to_monotone n f g b; places = λ e j h a. b j h }

-- not after is transitive
agree_both : (n : ℕ) (f g h : ℕ → ℕ) → NotAfter n f g → NotAfter n g h → (j : ℕ) → j ≤ n → ((i : ℕ) → i < j → f i ≡ h i) → (i : ℕ) → i < j → f i ≡ g i
agree_both n f g h a b zero le e i l = omega arith
agree_both n f g h a b (suc j) le e i l = step (agree_both n f g h a b j (omega arith) (λ k m. e k (omega arith)))
  where
    step : ((k : ℕ) → k < j → f k ≡ g k) → f i ≡ g i
    step before =
        elim (ℕ_discrete i j) [
          | no ne ↦ before i (omega arith)
          | yes x ↦
              subst (λ (k : ℕ). f k ≡ g k) (sym x)
              (let p = a j (omega arith) before in
              let q = b j (omega arith) (λ k m. sym (before k m) ∙ e k (omega arith)) in
              let z = e j (omega arith) in
              omega arith)
        ]

notafter_trans : (n : ℕ) (f g h : ℕ → ℕ) → NotAfter n f g → NotAfter n g h → NotAfter n f h
notafter_trans n f g h a b j l e =
    let same = agree_both n f g h a b j (omega arith) e in
    let x = a j l same in
    let y = b j l (λ i k. sym (same i k) ∙ e i k) in
    omega arith

pub nolater_trans : (n : ℕ) (f g h : ℕ → ℕ) → SizesNoLater n f g → SizesNoLater n g h → SizesNoLater n f h
nolater_trans n f g h a b =
    let x = a.sum in
    let y = b.sum in
    record { sum = (omega arith); places = λ e. notafter_trans n f g h (a.places (omega arith)) (b.places (omega arith)) }

pub nolater_sum : (n : ℕ) (f g : ℕ → ℕ) → sum_to n f < sum_to n g → SizesNoLater n f g
nolater_sum n f g h = record { sum = (omega arith); places = λ e. absurd (omega arith) }

-- two lists of one sum, by the first place where they differ
module _ (n : ℕ) (f g : ℕ → ℕ) (i : ℕ) (same : (k : ℕ) → k < i → f k ≡ g k) where
  pub nolater_place : i < n → f i < g i → sum_to n f ≤ sum_to n g → SizesNoLater n f g
  nolater_place h l s =
      record {
        sum = s;
        places = λ e j hj agree.
            elim (dec_lt i j) [
              | yes x ↦ let y = agree i x in absurd (omega arith)
              | no x ↦
                  elim (ℕ_discrete j i) [
                    | yes y ↦ subst (λ (k : ℕ). f k ≤ g k) (sym y) (omega arith)
                    | no y ↦ let z = same j (omega arith) in omega arith
                  ]
            ];
      }

  pub nolater_same : n ≤ i → sum_to n f ≤ sum_to n g → SizesNoLater n f g
  nolater_same h s = record { sum = s; places = λ e j hj agree. let z = same j (omega arith) in omega arith }

-- ---- probing
pub probed : (P : Problem) (sizes q : ℕ → ℕ) (found : Option (List ℕ)) → P.terms ≤ 128 → ((j : ℕ) → j < 256 → q j ≡ undecided) → Solved P sizes q found → Probed P (is_some found) sizes
probed P sizes q (Some codes) lim all s = record { yes = λ e. (at codes, s.consistent); no = λ e. absurd (false≢true (sym e)) }
probed P sizes q None lim all s =
    record { yes = λ e. absurd (false≢true e); no = λ e d con. s d con (λ i h n. absurd (n (all i (omega arith)))) }

-- what is barren stays so at smaller sizes
pub barren_below : (P : Problem) (small large : ℕ → ℕ) → WellSorted P → Below P.sorts small large → Barren P large → Barren P small
barren_below P small large w b n c con = n c (larger_sizes P small large c w b con)

pub satisfiable_not : (P : Problem) (small large : ℕ → ℕ) → WellSorted P → Below P.sorts small large → Barren P large → Satisfiable P small → ⊥
satisfiable_not P small large w b n s = barren_below P small large w b n s.0 s.1

-- sizes with one of them set
pub set_below : (n : ℕ) (l : List ℕ) (i v w : ℕ) → v ≤ w → Below n (at (set l i v)) (at (set l i w))
set_below n l i v w h j hj =
    elim (ℕ_discrete j i) [
      | no ne ↦ let a = at_set_other l i v j ne in let b = at_set_other l i w j ne in omega arith
      | yes e ↦
          elim (dec_lt i (length l)) [
            | yes x ↦
                subst (λ (k : ℕ). at (set l i v) k ≤ at (set l i w) k) (sym e) (let a = at_set_same l i v x in let b = at_set_same l i w x in omega arith)
            | no x ↦ out x
          ]
    ]
  where
    out : (i < length l → ⊥) → at (set l i v) j ≤ at (set l i w) j
    out x = rw (set_out l i v (omega arith), set_out l i w (omega arith)) (le_refl (at l j))

-- ---- answers
pub compared_yes : (n : ℕ) (f g : ℕ → ℕ) → SizesNoLater n f g → Compared n true f g
compared_yes n f g k = record { yes = λ e. k; no = λ e. absurd (false≢true (sym e)) }

pub compared_no : (n : ℕ) (f g : ℕ → ℕ) → SizesNoLater n g f → Compared n false f g
compared_no n f g k = record { yes = λ e. absurd (false≢true e); no = λ e. k }

-- the search for an edge: it starts with nothing known, and goes on from a probe
pub edge_none : (P : Problem) (base : List ℕ) (sort lo hi : ℕ) → lo ≤ hi → Edge P base sort lo hi lo
edge_none P base sort lo hi h = record { least = (omega arith); most = h; barren = λ v l m. absurd (omega arith) }

module _ (P : Problem) (base : List ℕ) (sort lo hi a m : ℕ) (e : Edge P base sort lo hi a) (l : a ≤ m) (h : m < hi) where
  pub edge_lower : Edge P base sort lo m a
  edge_lower = record { least = e.least; most = l; barren = e.barren }

  pub edge_higher : (tried : List ℕ) → WellSorted P → tried ≡ set base sort m → Barren P (at tried) → Edge P base sort lo hi (m + 1)
  edge_higher tried w t n =
      let k = e.least in
      record {
        least = (omega arith);
        most = (omega arith);
        barren = λ v x y.
            barren_below P (at (set base sort v)) (at (set base sort m)) w (set_below P.sorts base sort v m (omega arith))
            (subst (λ (u : List ℕ). Barren P (at u)) t n);
      }

pub edge_wider : (P : Problem) (base : List ℕ) (sort lo b hi a : ℕ) → b ≤ hi → Edge P base sort lo b a → Edge P base sort lo hi a
edge_wider P base sort lo b hi a h e = let m = e.most in record { least = e.least; most = (omega arith); barren = e.barren }

-- ---- the room for sizes
-- the ceilings while the sorts below n have been clipped to what the total leaves
pub record Clipped (P : Problem) (slack : ℕ) (high : List ℕ) (n : ℕ) : Type 0 where
  pub length : length high ≡ 8
  pub floors : Below n P.floor (at high)
  pub ceilings : Below P.sorts (at high) P.ceiling
  pub all : (s : ℕ) → s < n → (x : ℕ) → x ≤ P.ceiling s → x ≤ P.floor s + slack → x ≤ at high s
  pub rest : (s : ℕ) → n ≤ s → s < P.sorts → at high s ≡ P.ceiling s

pub clipped_none : (P : Problem) (slack : ℕ) (high ceiling : List ℕ) → length high ≡ 8 → high ≡ ceiling → ((s : ℕ) → at ceiling s ≡ P.ceiling s) → Clipped P slack high 0
clipped_none P slack high ceiling len e given =
    let same : (s : ℕ) → at high s ≡ P.ceiling s = λ s. ap (λ (l : List ℕ). at l s) e ∙ given s in
    record {
      length = len;
      floors = λ s h. absurd (omega arith);
      ceilings = λ s h. let e = same s in omega arith;
      all = λ s h. absurd (omega arith);
      rest = λ s h l. same s;
    }

module _ (P : Problem) (slack : ℕ) (high : List ℕ) (n : ℕ) (few : P.sorts ≤ 8) (there : n < P.sorts) (k : Clipped P slack high n) (order : P.floor n ≤ P.ceiling n) where
  here : at high n ≡ P.ceiling n
  here = k.rest n (omega arith) there

  pub clipped_kept : P.ceiling n ≤ P.floor n + slack → Clipped P slack high (n + 1)
  clipped_kept le =
      let e = here in
      record {
        length = k.length;
        floors = below_more _ n k.floors (omega arith);
        ceilings = k.ceilings;
        all = below_more _ n k.all (λ x h l. omega arith);
        rest = λ s h. k.rest s (omega arith);
      }

  pub clipped_less : (v : ℕ) (less : List ℕ) → v ≡ P.floor n + slack → v < P.ceiling n → less ≡ set high n v → Clipped P slack less (n + 1)
  clipped_less v less ev lt e =
      record {
        length = ap length e ∙ length-set high n v ∙ k.length;
        floors = below_more _ n (λ s h. let a = other s (ne_of_lt h) in let b = k.floors s h in omega arith) (let a = same in omega arith);
        ceilings = λ s h. elim (ℕ_discrete s n) [
          | yes x ↦ subst (λ (t : ℕ). at less t ≤ P.ceiling t) (sym x) (let a = same in omega arith)
          | no x ↦ let a = other s x in let b = k.ceilings s h in omega arith
        ];
        all = below_more _ n
            (λ s h x a b. let o = other s (ne_of_lt h) in let c = k.all s h x a b in omega arith)
            (λ x a b. let o = same in omega arith);
        rest = λ s h l. other s (ne_of_gt (omega arith)) ∙ k.rest s (omega arith) l;
      }
    where
      same : at less n ≡ v
      same = ap (λ (m : List ℕ). at m n) e ∙ at_set_same high n v (omega (arith, k.length))

      other : (s : ℕ) → (s ≡ n → ⊥) → at less s ≡ at high s
      other s ne = ap (λ (m : List ℕ). at m s) e ∙ at_set_other high n v s ne

-- the floors are above the total, or one above its ceiling
pub floors_exceed : (P : Problem) (size : ℕ → ℕ) → P.total < sum_to P.sorts P.floor → Allowed P size → ⊥
floors_exceed P size h a = let s = sum_to_monotone P.sorts P.floor size a.floor in let t = a.total in omega arith

pub floor_exceeds : (P : Problem) (size : ℕ → ℕ) (s : ℕ) → s < P.sorts → P.ceiling s < P.floor s → Allowed P size → ⊥
floor_exceeds P size s h l a = let x = a.floor s h in let y = a.ceiling s h in omega arith

pub clipped_all : (P : Problem) (slack : ℕ) (high : List ℕ) (n : ℕ) → P.sorts ≤ n → slack + sum_to P.sorts P.floor ≡ P.total → Clipped P slack high n → Greatest P (at high)
clipped_all P slack high n le e k =
    record {
      floors = λ s h. k.floors s (omega arith);
      ceilings = k.ceilings;
      all = λ size a s h.
          let apart = sum_apart P.sorts P.floor size s h a.floor in
          let t = a.total in
          k.all s (omega arith) (size s) (a.ceiling s h) (omega arith);
    }

-- ---- raised floors
-- the floors while those of the sorts below n have been raised
pub record Raising (P : Problem) (low : List ℕ) (high : ℕ → ℕ) : Type 0 where
  pub length : length low ≡ 8
  pub raised : Raised P (at low) high

pub raising_none : (P : Problem) (low floor : List ℕ) (high : ℕ → ℕ) → length low ≡ 8 → low ≡ floor → ((s : ℕ) → at floor s ≡ P.floor s) → Greatest P high → Raising P low high
raising_none P low floor high len e given l =
    let same : (s : ℕ) → at low s ≡ P.floor s = λ s. ap (λ (l : List ℕ). at l s) e ∙ given s in
    record {
      length = len;
      raised = record {
        floors = λ s h. let e = same s in omega arith;
        highs = λ s h. let e = same s in let f = l.floors s h in omega arith;
        all = λ size a sat s h. let e = same s in let f = a.floor s h in omega arith;
      };
    }

module _ (P : Problem) (low high next : List ℕ) (s lo value : ℕ) (w : WellSorted P) (few : P.sorts ≤ 8) (there : s < P.sorts) (l : Greatest P (at high)) (k : Raising P low (at high)) (elo : lo ≡ at low s) (e : Edge P high s lo (at high s) value) (len : length high ≡ 8) (en : next ≡ set low s value) where
  raised_same : at next s ≡ value
  raised_same = ap (λ (m : List ℕ). at m s) en ∙ at_set_same low s value (omega (arith, k.length))

  raised_other : (j : ℕ) → (j ≡ s → ⊥) → at next j ≡ at low j
  raised_other j ne = ap (λ (m : List ℕ). at m j) en ∙ at_set_other low s value j ne

  -- sizes below the raised floor lie below barren ones
  raised_below : (size : ℕ → ℕ) → Allowed P size → size s < value → Satisfiable P size → ⊥
  raised_below size a h sat =
      satisfiable_not P size (at (set high s (size s))) w
      (λ j hj. elim (ℕ_discrete j s) [
        | yes x ↦ subst (λ (t : ℕ). size t ≤ at (set high s (size s)) t) (sym x) (let y = at_set_same high s (size s) (omega arith) in omega arith)
        | no x ↦ let y = at_set_other high s (size s) j x in let z = l.all size a j hj in omega arith
      ])
      (e.barren (size s) (let y = k.raised.all size a sat s there in omega arith) h) sat

  pub raising_more : Raising P next (at high)
  raising_more =
      let least = e.least in
      let most = e.most in
      let r = k.raised in
      record {
        length = ap length en ∙ length-set low s value ∙ k.length;
        raised = record {
          floors = λ j h. elim (ℕ_discrete j s) [
            | yes x ↦ subst (λ (t : ℕ). P.floor t ≤ at next t) (sym x) (let y = raised_same in let z = r.floors s there in omega arith)
            | no x ↦ let y = raised_other j x in let z = r.floors j h in omega arith
          ];
          highs = λ j h. elim (ℕ_discrete j s) [
            | yes x ↦ subst (λ (t : ℕ). at next t ≤ at high t) (sym x) (let y = raised_same in omega arith)
            | no x ↦ let y = raised_other j x in let z = r.highs j h in omega arith
          ];
          all = λ size a sat j h. elim (ℕ_discrete j s) [
            | yes x ↦ subst (λ (t : ℕ). at next t ≤ size t) (sym x)
                (elim (dec_lt (size s) value) [
                  | yes y ↦ absurd (raised_below size a y sat)
                  | no y ↦ let z = raised_same in omega arith
                ])
            | no x ↦ let y = raised_other j x in let z = r.all size a sat j h in omega arith
          ];
        };
      }

-- ---- boxes
-- a box while it is being widened
pub record Widening (P : Problem) (low : ℕ → ℕ) (corner : List ℕ) (high : ℕ → ℕ) : Type 0 where
  pub length : length corner ≡ 8
  pub boxed : Corner P low (at corner)
  pub under : Below P.sorts (at corner) high

pub widening_none : (P : Problem) (low : List ℕ) (high : ℕ → ℕ) → length low ≡ 8 → Barren P (at low) → Below P.sorts (at low) high → Widening P (at low) low high
widening_none P low high len n b = record { length = len; boxed = record { inside = λ s h. le_refl (at low s); barren = n }; under = b }

module _ (P : Problem) (low high : ℕ → ℕ) (box next : List ℕ) (s lo hi value v : ℕ) (few : P.sorts ≤ 8) (there : s < P.sorts) (k : Widening P low box high) (elo : lo ≡ at box s + 1) (ehi : hi ≡ high s + 1) (e : Edge P box s lo hi value) (more : lo < value) (ev : v + 1 ≡ value) (en : next ≡ set box s v) where
  widened_same : at next s ≡ v
  widened_same = ap (λ (m : List ℕ). at m s) en ∙ at_set_same box s v (omega (arith, k.length))

  widened_other : (j : ℕ) → (j ≡ s → ⊥) → at next j ≡ at box j
  widened_other j ne = ap (λ (m : List ℕ). at m j) en ∙ at_set_other box s v j ne

  pub widening_more : Widening P low next high
  widening_more =
      let most = e.most in
      record {
        length = ap length en ∙ length-set box s v ∙ k.length;
        boxed = record {
          inside = λ j h. elim (ℕ_discrete j s) [
            | yes x ↦ subst (λ (t : ℕ). low t ≤ at next t) (sym x) (let y = widened_same in let z = k.boxed.inside s there in omega arith)
            | no x ↦ let y = widened_other j x in let z = k.boxed.inside j h in omega arith
          ];
          barren = subst (λ (m : List ℕ). Barren P (at m)) (sym en) (e.barren v (omega arith) (omega arith));
        };
        under = λ j h. elim (ℕ_discrete j s) [
          | yes x ↦ subst (λ (t : ℕ). at next t ≤ high t) (sym x) (let y = widened_same in omega arith)
          | no x ↦ let y = widened_other j x in let z = k.under j h in omega arith
        ];
      }

-- ---- a look at a region
outdone_trans : (P : Problem) (best best' : Option (List ℕ)) (size : ℕ → ℕ) → IfSome best (λ sizes. Outdone P best' (at sizes)) → Outdone P best size → Outdone P best' size
outdone_trans P (Some b) (Some b') size to c = nolater_trans P.sorts (at b') (at b) size to c
outdone_trans P (Some b) None size to c = to
outdone_trans P None best' size to c = absurd c

outdone_later : (P : Problem) (best : Option (List ℕ)) (size size' : ℕ → ℕ) → Outdone P best size → SizesNoLater P.sorts size size' → Outdone P best size'
outdone_later P (Some b) size size' n l = nolater_trans P.sorts (at b) size size' n l
outdone_later P None size size' n l = n

kept_trans : (P : Problem) (before after after' : Option (List ℕ)) → IfSome after (λ best. Outdone P after' (at best)) → IfSome before (λ best. Outdone P after (at best)) → IfSome before (λ best. Outdone P after' (at best))
kept_trans P (Some b) after after' to k = outdone_trans P after after' (at b) to k
kept_trans P None after after' to k = tt

pub kept_itself : (P : Problem) (best : Option (List ℕ)) → IfSome best (λ sizes. Outdone P best (at sizes))
kept_itself P (Some b) = nolater_below P.sorts (at b) (at b) (λ s h. le_refl (at b s))
kept_itself P None = tt

module _ (P : Problem) (low high : ℕ → ℕ) (bound : ℕ) (before : Option (List ℕ)) (c : Candidate P bound before) where
  -- the sums of the region are above the bound
  pub look_past : bound < sum_to P.sorts low → Hunted P low high bound before before
  look_past h =
      record {
        candidate = c;
        kept = kept_itself P before;
        all = λ size o. let a = sum_to_monotone P.sorts low size o.above in let b = o.sum in absurd (omega arith);
      }

  -- the best comes no later than the lowest sizes
  pub look_ahead : Outdone P before low → Hunted P low high bound before before
  look_ahead n =
      record {
        candidate = c;
        kept = kept_itself P before;
        all = λ size o. outdone_later P before low size n (nolater_below P.sorts low size o.above);
      }

-- the lowest sizes have consistent codes, and the best so far comes no earlier
pub look_found : (P : Problem) (low : List ℕ) (high : ℕ → ℕ) (bound : ℕ) (before : Option (List ℕ)) → Region P (at low) high → bound ≤ P.total → sum_to P.sorts (at low) ≤ bound → Satisfiable P (at low)
    → IfSome before (λ sizes. SizesNoLater P.sorts (at low) (at sizes)) → Hunted P (at low) high bound before (Some low)
look_found P low high bound before r le h sat n =
    record {
      candidate = record {
        allowed = record { floor = r.floors; ceiling = λ s l. let a = r.order s l in let b = r.ceilings s l in omega arith; total = (omega arith) };
        satisfiable = sat;
        sum = h;
      };
      kept = n;
      all = λ size o. nolater_below P.sorts (at low) size o.above;
    }

-- ---- the hunt
-- the hunt while the sizes that leave the box in a sort below n have been taken into account; the others lie below `up`
pub record Hunting (P : Problem) (low high : ℕ → ℕ) (bound : ℕ) (corner : ℕ → ℕ) (before after : Option (List ℕ)) (up : List ℕ) (n : ℕ) : Type 0 where
  pub length : length up ≡ 8
  pub candidate : Candidate P bound after
  pub kept : IfSome before (λ best. Outdone P after (at best))
  pub region : Region P low (at up)
  pub under : Below P.sorts (at up) high
  pub clipped : Below n (at up) corner
  pub all : (size : ℕ → ℕ) → Open P low high bound size → Outdone P after size ⊎ Below P.sorts size (at up)

module _ (P : Problem) (low : ℕ → ℕ) (bound : ℕ) (corner : ℕ → ℕ) (before : Option (List ℕ)) where
  pub hunting_none : (up : List ℕ) → length up ≡ 8 → Region P low (at up) → Candidate P bound before → Hunting P low (at up) bound corner before before up 0
  hunting_none up len r c =
      record {
        length = len;
        candidate = c;
        kept = kept_itself P before;
        region = r;
        under = λ s h. le_refl (at up s);
        clipped = λ s h. absurd (omega arith);
        all = λ size o. inr o.under;
      }

  module _ (high : ℕ → ℕ) (after : Option (List ℕ)) (up : List ℕ) (n b u : ℕ) (few : P.sorts ≤ 8) (there : n < P.sorts) (k : Hunting P low high bound corner before after up n) (eb : b ≡ corner n) (eu : u ≡ at up n) where
    -- the box reaches as high in this sort
    pub hunting_skip : u ≤ b → Hunting P low high bound corner before after up (n + 1)
    hunting_skip h =
        record {
          length = k.length;
          candidate = k.candidate;
          kept = k.kept;
          region = k.region;
          under = k.under;
          clipped = below_more _ n k.clipped (omega arith);
          all = k.all;
        }

    module _ (inside : Below P.sorts low corner) (over : b < u) (down : List ℕ) (lows : List ℕ) (elow : (s : ℕ) → at lows s ≡ low s) (llow : length lows ≡ 8) (ed : down ≡ set lows n (b + 1)) where
      down_same : at down n ≡ b + 1
      down_same = ap (λ (m : List ℕ). at m n) ed ∙ at_set_same lows n (b + 1) (omega arith)

      down_other : (s : ℕ) → (s ≡ n → ⊥) → at down s ≡ low s
      down_other s ne = ap (λ (m : List ℕ). at m s) ed ∙ at_set_other lows n (b + 1) s ne ∙ elow s

      -- the sizes that leave the box in this sort
      pub down_region : Region P (at down) (at up)
      down_region =
          record {
            floors = λ s h. elim (ℕ_discrete s n) [
              | yes x ↦ subst (λ (t : ℕ). P.floor t ≤ at down t) (sym x) (let y = down_same in let z = k.region.floors n there in let i = inside n there in omega arith)
              | no x ↦ let y = down_other s x in let z = k.region.floors s h in omega arith
            ];
            order = λ s h. elim (ℕ_discrete s n) [
              | yes x ↦ subst (λ (t : ℕ). at down t ≤ at up t) (sym x) (let y = down_same in omega arith)
              | no x ↦ let y = down_other s x in let z = k.region.order s h in omega arith
            ];
            ceilings = k.region.ceilings;
          }

      low_below_down : Below P.sorts low (at down)
      low_below_down s h = elim (ℕ_discrete s n) [
        | yes x ↦ subst (λ (t : ℕ). low t ≤ at down t) (sym x) (let y = down_same in let i = inside n there in omega arith)
        | no x ↦ let y = down_other s x in omega arith
      ]

      -- the sizes left to go through become fewer
      pub down_fewer : sum_to P.sorts (at up) - sum_to P.sorts (at down) < sum_to P.sorts high - sum_to P.sorts low
      down_fewer =
          let a = sum_apart P.sorts low (at down) n there low_below_down in
          let y = down_same in
          let i = inside n there in
          let b = sum_to_monotone P.sorts (at down) (at up) down_region.order in
          let c = sum_to_monotone P.sorts (at up) high k.under in
          omega arith

      module _ (after' : Option (List ℕ)) (less : List ℕ) (h : Hunted P (at down) (at up) bound after after') (el : less ≡ set up n b) where
        less_same : at less n ≡ b
        less_same = ap (λ (m : List ℕ). at m n) el ∙ at_set_same up n b (omega (arith, k.length))

        less_other : (s : ℕ) → (s ≡ n → ⊥) → at less s ≡ at up s
        less_other s ne = ap (λ (m : List ℕ). at m s) el ∙ at_set_other up n b s ne

        less_below : Below P.sorts (at less) (at up)
        less_below s l = elim (ℕ_discrete s n) [
          | yes x ↦ subst (λ (t : ℕ). at less t ≤ at up t) (sym x) (let y = less_same in omega arith)
          | no x ↦ let y = less_other s x in omega arith
        ]

        pub hunting_more : Hunting P low high bound corner before after' less (n + 1)
        hunting_more =
            record {
              length = ap length el ∙ length-set up n b ∙ k.length;
              candidate = h.candidate;
              kept = kept_trans P before after after' h.kept k.kept;
              region = record {
                floors = k.region.floors;
                order = λ s l. elim (ℕ_discrete s n) [
                  | yes x ↦ subst (λ (t : ℕ). low t ≤ at less t) (sym x) (let y = less_same in let i = inside n there in omega arith)
                  | no x ↦ let y = less_other s x in let z = k.region.order s l in omega arith
                ];
                ceilings = λ s l. let a = less_below s l in let b = k.region.ceilings s l in omega arith;
              };
              under = λ s l. let a = less_below s l in let b = k.under s l in omega arith;
              clipped = below_more _ n (λ s l. let y = less_other s (ne_of_lt l) in let z = k.clipped s l in omega arith) (let y = less_same in omega arith);
              all = λ size o.
                  elim (k.all size o) [
                    | inl x ↦ inl (outdone_trans P after after' size h.kept x)
                    | inr x ↦
                        elim (dec_lt b (size n)) [
                          | yes y ↦ inl (h.all size (record { allowed = o.allowed; satisfiable = o.satisfiable; above = above size o y; under = x; sum = o.sum }))
                          | no y ↦ inr (λ s l. elim (ℕ_discrete s n) [
                            | yes z ↦ subst (λ (t : ℕ). size t ≤ at less t) (sym z) (let q = less_same in omega arith)
                            | no z ↦ let q = less_other s z in let r = x s l in omega arith
                          ])
                        ]
                  ];
            }
          where
            above : (size : ℕ → ℕ) → Open P low high bound size → b < size n → Below P.sorts (at down) size
            above size o y s l = elim (ℕ_discrete s n) [
              | yes z ↦ subst (λ (t : ℕ). at down t ≤ size t) (sym z) (let q = down_same in omega arith)
              | no z ↦ let q = down_other s z in let r = o.above s l in omega arith
            ]

  -- what is left lies in the box
  pub hunted_all : (high : ℕ → ℕ) (after : Option (List ℕ)) (up : List ℕ) (n : ℕ) → WellSorted P → P.sorts ≤ n → Barren P corner → Hunting P low high bound corner before after up n → Hunted P low high bound before after
  hunted_all high after up n w le bare k =
      record {
        candidate = k.candidate;
        kept = k.kept;
        all = λ size o.
            elim (k.all size o) [
              | inl x ↦ x
              | inr x ↦
                  absurd
                  (satisfiable_not P size corner w (λ s l. let a = x s l in let b = k.clipped s (omega arith) in omega arith) bare o.satisfiable)
            ];
      }

-- ---- the answer
pub none_satisfiable : (P : Problem) (high : ℕ → ℕ) → WellSorted P → Greatest P high → Barren P high → Unsatisfiable P
none_satisfiable P high w l n s c a k = n c (larger_sizes P s high c w (l.all s a) k)

pub hunted_least : (P : Problem) (low high : ℕ → ℕ) (before after : Option (List ℕ)) → Greatest P high → Raised P low high → Hunted P low high P.total before after → LeastSizes P after
hunted_least P low high before after l r h = by after h
  where
    opened : (size : ℕ → ℕ) → Allowed P size → Satisfiable P size → Open P low high P.total size
    opened size a s = record { allowed = a; satisfiable = s; above = r.all size a s; under = l.all size a; sum = a.total }

    by : (o : Option (List ℕ)) → Hunted P low high P.total before o → LeastSizes P o
    by (Some sizes) k =
        record {
          allowed = k.candidate.allowed;
          satisfiable = k.candidate.satisfiable;
          first = λ size a s. k.all size (opened size a s);
        }
    by None k = λ size c a x. k.all size (opened size a (c, x))
