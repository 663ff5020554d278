-- Why a crowd is no greater than what its codes are counted by: numbers that all differ are at most as many as their bound. A list is
-- counted by a common mask, by one label, or, of terms of one symbol, by pairs of what counts their arguments.
use Prim.Native.Nat.{ℕ, zero, suc, ◌+◌, ◌-◌, ◌*◌, ◌/◌, ◌%◌, ◌^◌, ◌≤◌, ◌<◌}
use mathlib.Core.Path.{◌≡◌, refl, sym, ap, subst, ◌∙◌}
use mathlib.Core.List.{List, [], ◌∷◌, ◌++◌}
use mathlib.Core.Logic.{◌⊎◌, inl, inr}
use native.Mathlib.Nat.{mod-lt}
use native.Mathlib.Omega.{arith}
use borrow.Author.Count.{below_more}
use lib.ListN.{length, length-append, get_or-append}
use lib.Seq.{get_or-append_seam}
use lib.Bits.{bit_and, and_shr, and_step}
use Rattle.prelude.specs.Lists.{at}
use Rattle.prelude.proofs.Rows.{next_row}
use Rattle.knowledge.specs.declared.Known.{Known}
use Rattle.knowledge.specs.declared.terms.Terms.{Terms}
use Rattle.knowledge.specs.Knows.{Bit, Labels, Masks, Marks, SmallCodes, Same, Differ, Means}
use Rattle.knowledge.proofs.Bits.{digit, compare}
use Rattle.rules.specs.Reasons.{LawfulGrouped, KnownLawful}
use Rattle.pigeonhole.specs.Parts.{left_below, KnownSmall, Unlike, Gathered, Counted, OneCode, Free, OneSymbol, Arguments}

-- z in place of x where x is n
move : {x n : ℕ} → (x < n) ⊎ ((x ≡ n) ⊎ (n < x)) → ℕ → ℕ
move {x} (inl h) z = x
move (inr (inl e)) z = z
move {x} (inr (inr h)) z = x

moved : {x n : ℕ} (d : (x < n) ⊎ ((x ≡ n) ⊎ (n < x))) (z : ℕ) → ((x ≡ n) × (move d z ≡ z)) ⊎ ((x ≡ n → ⊥) × (move d z ≡ x))
unfolding move
moved (inl h) z = inr (λ e. absurd (omega arith), refl)
moved (inr (inl e)) z = inl (e, refl)
moved (inr (inr h)) z = inr (λ e. absurd (omega arith), refl)

-- the pigeonhole: what has the greatest number gives it up for the last one's
pigeon : (n k : ℕ) (f : ℕ → ℕ) → ((a : ℕ) → a < k → f a < n) → ((a b : ℕ) → a < b → b < k → f a ≡ f b → ⊥) → k ≤ n
pigeon zero zero f below apart = omega arith
pigeon zero (suc k) f below apart = let h : f 0 < 0 = below 0 (omega arith) in absurd (omega arith)
pigeon (suc n) zero f below apart = omega arith
pigeon (suc n) (suc k) f below apart =
    let last : f k < suc n = below k (omega arith) in
    let r : k ≤ n =
    pigeon n k (λ a. move (compare (f a) n) (f k))
    (λ a ha. elim (moved (compare (f a) n) (f k)) [
      | inl p ↦
          let e = p.1 in
          let other : f k ≡ n → ⊥ = λ q. apart a k ha (omega arith) (p.0 ∙ sym q) in
          omega (arith, other)
      | inr p ↦
          let e = p.1 in
          let b : f a < suc n = below a (omega arith) in
          omega (arith, p.0)
    ])
    (λ a b ab bk e. elim (moved (compare (f a) n) (f k)) [
      | inl p ↦ elim (moved (compare (f b) n) (f k)) [
        | inl q ↦ apart a b ab (omega arith) (p.0 ∙ sym q.0)
        | inr q ↦ apart b k bk (omega arith) (sym q.1 ∙ sym e ∙ p.1)
      ]
      | inr p ↦ elim (moved (compare (f b) n) (f k)) [
        | inl q ↦ apart a k (omega arith) (omega arith) (sym p.1 ∙ e ∙ q.1)
        | inr q ↦ apart a b ab (omega arith) (sym p.1 ∙ e ∙ q.1)
      ]
    ]) in
    omega arith

-- the codes that a mask leaves keep apart when counted
left_up : (w u v : ℕ) → u ≤ v → left_below w u ≤ left_below w v
unfolding left_below
left_up w zero zero h = omega arith
left_up w (suc u) zero h = absurd (omega arith)
left_up w u (suc v) h =
    elim (compare u (suc v)) [
      | inl l ↦ let k : left_below w u ≤ left_below w v = left_up w u v (omega arith) in omega arith
      | inr r ↦ elim r [ inl e ↦ rw e (omega arith) | inr l ↦ absurd (omega arith) ]
    ]

left_one : (w u : ℕ) → (Bit w u → ⊥) → left_below w u < left_below w (suc u)
unfolding left_below
left_one w u free =
    let m : w / 2 ^ u % 2 < 2 = mod-lt (w / 2 ^ u) (omega arith) in
    elim (compare (w / 2 ^ u % 2) 1) [
      | inl l ↦ omega arith
      | inr r ↦ elim r [ inl e ↦ absurd (free e) | inr g ↦ absurd (omega arith) ]
    ]

left_less : (w u v : ℕ) → u < v → (Bit w u → ⊥) → left_below w u < left_below w v
left_less w u v h free =
    let one = left_one w u free in
    let up = left_up w (suc u) v (omega arith) in
    omega arith

left_same : (w u v : ℕ) → (Bit w u → ⊥) → (Bit w v → ⊥) → left_below w u ≡ left_below w v → u ≡ v
left_same w u v fu fv e =
    elim (compare u v) [
      | inl l ↦ let h = left_less w u v l fu in absurd (omega arith)
      | inr r ↦ elim r [ inl s ↦ s | inr g ↦ let h = left_less w v u g fv in absurd (omega arith) ]
    ]

left_next : (w v : ℕ) → left_below w (v + 1) ≡ left_below w v + (1 - w / 2 ^ v % 2)
unfolding left_below
left_next w v = let e : v + 1 ≡ suc v = omega arith in ap (left_below w) e

pub left_step : (w v n : ℕ) → n ≡ left_below w v → n + (1 - w / 2 ^ v % 2) ≡ left_below w (v + 1)
left_step w v n e = ap (λ (k : ℕ). k + (1 - w / 2 ^ v % 2)) e ∙ sym (left_next w v)

-- pairs of numbers as one
cell_below : (r s l n : ℕ) → r < l → s < n → r * n + s < l * n
cell_below r s l n hr hs = let h = next_row r l n (r * n) hr refl in omega arith

cell_row : (r s r' s' n : ℕ) → s < n → s' < n → r * n + s ≡ r' * n + s' → r ≡ r'
cell_row r s r' s' n hs hs' e =
    elim (compare r r') [
      | inl l ↦ let h = next_row r r' n (r * n) l refl in absurd (omega arith)
      | inr d ↦ elim d [ inl q ↦ q | inr g ↦ let h = next_row r' r n (r' * n) g refl in absurd (omega arith) ]
    ]

cell_column : (r s r' s' n : ℕ) → r ≡ r' → r * n + s ≡ r' * n + s' → s ≡ s'
cell_column r s r' s' n q e =
    let p : r * n ≡ r' * n = ap (λ (k : ℕ). k * n) q in
    omega arith

-- what counts a list: a mask, one code for all, pairs of what counts the arguments
pub mask_counted : (l w list : List ℕ) (x r : ℕ) → r ≡ left_below x 16 → Means (λ c. Labels l c × Masks w c) (Free x list) → Means (λ c. SmallCodes c × (Labels l c × Masks w c)) (Counted list r)
mask_counted l w list x r e free =
    rw e
    (record {
      means = λ c h. record {
        key = λ a. left_below x (c (at list a));
        below = λ a ha. left_less x (c (at list a)) 16 (h.0 (at list a)) (free.means c h.1 a ha);
        same = λ a b ha hb q. left_same x (c (at list a)) (c (at list b)) (free.means c h.1 a ha) (free.means c h.1 b hb) q;
      };
    })

pub one_code_counted : (l w list : List ℕ) → Means (Labels l) (OneCode list) → Means (λ c. SmallCodes c × (Labels l c × Masks w c)) (Counted list 1)
one_code_counted l w list one =
    record {
      means = λ c h.
          let all = one.means c h.1.0 in
          record { key = λ a. 0; below = λ a ha. omega arith; same = λ a b ha hb q. all a ha ∙ sym (all b hb) };
    }

pub pairs_counted : (t : Terms) (l w list firsts seconds : List ℕ) (x y : ℕ) → OneSymbol t list → Arguments t.arg0.now list firsts → Arguments t.arg1.now list seconds
    → Means (LawfulGrouped t l w) (Counted firsts x) → Means (LawfulGrouped t l w) (Counted seconds y) → Means (LawfulGrouped t l w) (Counted list (x * y))
pairs_counted t l w list firsts seconds x y of first second one two =
    record {
      means = λ c s.
          let p = one.means c s in
          let q = two.means c s in
          let small : (a : ℕ) → a < length list → at list a < 128 = λ a ha. let below = of.terms a ha in omega (arith, t.few) in
          let m = first.many in
          let n = second.many in
          record {
            key = λ a. p.key a * y + q.key a;
            below = λ a ha. cell_below (p.key a) (q.key a) x y (p.below a (omega arith)) (q.below a (omega arith));
            same = λ a b ha hb e.
                let rows = cell_row (p.key a) (q.key a) (p.key b) (q.key b) y (q.below a (omega arith)) (q.below b (omega arith)) e in
                let columns = cell_column (p.key a) (q.key a) (p.key b) (q.key b) y rows e in
                s.lawful.congruent (at list a) (at list b) (of.terms a ha) (of.terms b hb) (of.symbols a b ha hb)
                (ap c (sym (first.each a ha (small a ha))) ∙ p.same a b (omega arith) (omega arith) rows ∙ ap c (first.each b hb (small b hb)))
                (ap c (sym (second.each a ha (small a ha))) ∙ q.same a b (omega arith) (omega arith) columns ∙ ap c (second.each b hb (small b hb)));
          };
    }

-- no codes are known of a crowd with more terms than what counts them
pub crowd_none : (t : Terms) (known : Known) (f i : ℕ) (chosen : List ℕ) (r : ℕ) (c : ℕ → ℕ) → Gathered t known f i chosen → Means (LawfulGrouped t known.labels known.masks) (Counted chosen r) → r < length chosen → KnownLawful t known c → ⊥
crowd_none t known f i chosen r c g counted more held =
    let p = counted.means c (record { lawful = held.lawful; labels = held.knows.labels; masks = held.knows.masks }) in
    let apart = g.apart.means c (record { small = held.lawful.small; knows = held.knows }) in
    let few : length chosen ≤ r = pigeon r (length chosen) p.key p.below (λ a b ab bk e. apart a b ab bk (p.same a b (omega arith) bk e)) in
    absurd (omega arith)

-- a bit of the codes common to two masks is a bit of both
both : (a b : ℕ) → bit_and a b % 2 ≡ 1 → (a % 2 ≡ 1) × (b % 2 ≡ 1)
both a b h =
    elim (digit (a % 2) (mod-lt a (omega arith))) [
      | inl e ↦ elim (digit (b % 2) (mod-lt b (omega arith))) [
        | inl f ↦
            let s : bit_and a b ≡ bit_and (a / 2) (b / 2) * 2 + 0 = rw (and_step a b, e, f) in
            absurd (omega arith)
        | inr f ↦
            let s : bit_and a b ≡ bit_and (a / 2) (b / 2) * 2 + 0 = rw (and_step a b, e, f) in
            absurd (omega arith)
      ]
      | inr e ↦ elim (digit (b % 2) (mod-lt b (omega arith))) [
        | inl f ↦
            let s : bit_and a b ≡ bit_and (a / 2) (b / 2) * 2 + 0 = rw (and_step a b, e, f) in
            absurd (omega arith)
        | inr f ↦ (e, f)
      ]
    ]

bit_and_lem : (a b v : ℕ) → Bit (bit_and a b) v → Bit a v × Bit b v
bit_and_lem a b v h = both (a / 2 ^ v) (b / 2 ^ v) (rw (and_shr a b v) at h)

-- the entries of a list with one more at its end
early : (l : List ℕ) (x a : ℕ) → a < length l → at (l ++ x ∷ []) a ≡ at l a
early l x a h = get_or-append l (x ∷ []) 0 a h

late : (l : List ℕ) (x a : ℕ) → a ≡ length l → at (l ++ x ∷ []) a ≡ x
late l x a e = ap (at (l ++ x ∷ [])) e ∙ get_or-append_seam l x [] 0

longer : (l : List ℕ) (x : ℕ) → length (l ++ x ∷ []) ≡ length l + 1
longer l x = length-append l (x ∷ [])

-- what holds of each of a list and of one more holds of each of the list with that at its end
more : (P : ℕ → Type 0) (l : List ℕ) (x : ℕ) → ((a : ℕ) → a < length l → P (at l a)) → P x → (a : ℕ) → a < length (l ++ x ∷ []) → P (at (l ++ x ∷ []) a)
more P l x all one a h =
    let len = longer l x in
    elim (compare a (length l)) [
      | inl b ↦ rw (early l x a b) (all a b)
      | inr d ↦ elim d [ inl e ↦ rw (late l x a e) one | inr g ↦ absurd (omega arith) ]
    ]

-- a crowd with one more term
pub taken : (t : Terms) (known : Known) (f i : ℕ) (chosen : List ℕ) → i < t.n → Gathered t known f i chosen → at t.symbol.now i ≡ f → Unlike known chosen i → Gathered t known f (i + 1) (chosen ++ i ∷ [])
taken t known f i chosen hi g e other =
    let few = g.few in
    let len = longer chosen i in
    record {
      few = omega arith;
      terms = more (λ x. x < t.n) chosen i g.terms hi;
      symbols = more (λ x. at t.symbol.now x ≡ f) chosen i g.symbols e;
      apart = record {
        means = λ c h a b ab hb q.
            let sa = early chosen i a (omega arith) in
            elim (compare b (length chosen)) [
              | inl lb ↦ g.apart.means c h a b ab lb (ap c (sym sa) ∙ q ∙ ap c (early chosen i b lb))
              | inr d ↦ elim d [
                | inl eb ↦ (other a (omega arith)).means c h (ap c (sym sa) ∙ q ∙ ap c (late chosen i b eb))
                | inr gb ↦ absurd (omega arith)
              ]
            ];
      };
    }

-- a term that differs from one that is chosen, by the labels of both
pub unlike_one : (known : Known) (i g h t : ℕ) → Means (Labels known.labels) (Same g i) → Means (Labels known.labels) (Same h t) → Means (λ c. SmallCodes c × (Masks known.masks c × Marks known.marks c)) (Differ h g) → Means (KnownSmall known) (Differ t i)
unlike_one known i g h t lg lh d =
    record {
      means = λ c x e. d.means c (x.small, (x.knows.masks, x.knows.marks)) (lh.means c x.knows.labels ∙ e ∙ sym (lg.means c x.knows.labels));
    }

-- one more of a list and its mask
pub common_more : (l w list : List ℕ) (k x y g : ℕ) → Means (λ c. Labels l c × Masks w c) (λ c. (a : ℕ) → a < k → Bit x (c (at list a)) → ⊥) → Means (Labels l) (Same g (at list k)) → Means (Masks w) (λ c. Bit y (c g) → ⊥)
    → Means (λ c. Labels l c × Masks w c) (λ c. (a : ℕ) → a < k + 1 → Bit (bit_and x y) (c (at list a)) → ⊥)
common_more l w list k x y g old lg free =
    record {
      means = λ c h.
          below_more _ k (λ a ha b. old.means c h a ha (bit_and_lem x y _ b).0)
          (λ b. free.means c h.1 (subst (Bit y) (sym (lg.means c h.0)) (bit_and_lem x y _ b).1));
    }
