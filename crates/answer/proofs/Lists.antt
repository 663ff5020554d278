-- Lists in order: membership, sorted lists, the first entry that passes a test, and the first for which a function gives something. In a sorted list it
-- comes before every other that does.
use Prim.Native.Nat.{ℕ}
use mathlib.Core.Path.{◌≡◌, refl, ap, sym, ◌∙◌, subst}
use mathlib.Core.Bool.{Bool, true, false, false≢true, cond}
use mathlib.Core.Logic.{◌⊎◌, inl, inr}
use mathlib.Core.List.{List, [], ◌∷◌, ◌++◌, map}
use mathlib.Core.Option.{Option, none, some, or_else}
use native.Mathlib.Omega.{arith}
use Rattle.answer.specs.Answer.{each, keep, first_that, first_given}

abbrev pub Mem : {A : Type 0} → A → List A → Type 0
Mem a [] = ⊥
Mem a (x ∷ xs) = (a ≡ x) ⊎ Mem a xs

-- each entry is in relation R to every later one
abbrev pub Sorted : {A : Type 0} → (A → A → Type 0) → List A → Type 0
Sorted R [] = Unit
Sorted R (x ∷ xs) = ((y : _) → Mem y xs → R x y) × Sorted R xs

module _ {A : Type 0} where
  pub mem_left : (a : A) (xs ys : List A) → Mem a xs → Mem a (xs ++ ys)
  mem_left a [] ys m = absurd m
  mem_left a (x ∷ xs) ys (inl e) = inl e
  mem_left a (x ∷ xs) ys (inr m) = inr (mem_left a xs ys m)

  pub mem_right : (a : A) (xs ys : List A) → Mem a ys → Mem a (xs ++ ys)
  mem_right a [] ys m = m
  mem_right a (x ∷ xs) ys m = inr (mem_right a xs ys m)

  pub mem_either : (a : A) (xs ys : List A) → Mem a (xs ++ ys) → Mem a xs ⊎ Mem a ys
  mem_either a [] ys m = inr m
  mem_either a (x ∷ xs) ys (inl e) = inl (inl e)
  mem_either a (x ∷ xs) ys (inr m) = elim (mem_either a xs ys m) [ inl l ↦ inl (inr l) | inr r ↦ inr r ]

  pub mem_keep : (p : A → Bool) (a : A) (xs : List A) → Mem a xs → p a ≡ true → Mem a (keep p xs)
  mem_keep p a [] m t = absurd m
  mem_keep p a (x ∷ xs) (inl e) t = rw (sym (ap p e) ∙ t) (inl e)
  mem_keep p a (x ∷ xs) (inr m) t = step (p x) (mem_keep p a xs m t)
    where
      step : (b : Bool) → Mem a (keep p xs) → Mem a (cond b (x ∷ keep p xs) (keep p xs))
      step true r = inr r
      step false r = r

  pub keep_mem : (p : A → Bool) (a : A) (xs : List A) → Mem a (keep p xs) → Mem a xs × (p a ≡ true)
  keep_mem p a [] m = absurd m
  keep_mem p a (x ∷ xs) m = step (p x) refl m (keep_mem p a xs)
    where
      step : (b : Bool) → p x ≡ b → Mem a (cond b (x ∷ keep p xs) (keep p xs)) → (Mem a (keep p xs) → Mem a xs × (p a ≡ true)) → Mem a (x ∷ xs) × (p a ≡ true)
      step true t (inl e) r = (inl e, ap p e ∙ t)
      step true t (inr n) r = let q : Mem a xs × (p a ≡ true) = r n in (inr q.0, q.1)
      step false t n r = let q : Mem a xs × (p a ≡ true) = r n in (inr q.0, q.1)

  pub sorted_append : (R : A → A → Type 0) (xs ys : List A) → Sorted R xs → Sorted R ys → ((x y : A) → Mem x xs → Mem y ys → R x y) → Sorted R (xs ++ ys)
  sorted_append R [] ys s t h = t
  sorted_append R (x ∷ xs) ys s t h = (
    λ y m. elim (mem_either y xs ys m) [ inl l ↦ s.0 y l | inr r ↦ h x y (inl refl) r ],
    sorted_append R xs ys s.1 t (λ a b l r. h a b (inr l) r),
  )

  pub sorted_keep : (R : A → A → Type 0) (p : A → Bool) (xs : List A) → Sorted R xs → Sorted R (keep p xs)
  sorted_keep R p [] s = tt
  sorted_keep R p (x ∷ xs) s = step (p x) (sorted_keep R p xs s.1)
    where
      step : (b : Bool) → Sorted R (keep p xs) → Sorted R (cond b (x ∷ keep p xs) (keep p xs))
      step true r = (λ y m. s.0 y (keep_mem p y xs m).0, r)
      step false r = r

  -- what is sorted by one relation is sorted by another that follows from it
  pub sorted_more : (R S : A → A → Type 0) (xs : List A) → ((x y : A) → Mem x xs → Mem y xs → R x y → S x y) → Sorted R xs → Sorted S xs
  sorted_more R S [] h s = tt
  sorted_more R S (x ∷ xs) h s = (
    λ y m. h x y (inl refl) (inr m) (s.0 y m),
    sorted_more R S xs (λ a b k l r. h a b (inr k) (inr l) r) s.1,
  )

  -- the first that passes a test: it stands in the list and passes, and every other that passes comes later
  pub record First (R : A → A → Type 0) (p : A → Bool) (xs : List A) (a : A) : Type 0 where
    pub member : Mem a xs
    pub passes : p a ≡ true
    pub least : (y : A) → Mem y xs → p y ≡ true → (y ≡ a) ⊎ R a y

  none_some : (a : A) → ◌≡◌ {A = Option A} none (some a) → ⊥
  none_some a e = let z : ◌≡◌ {A = ℕ} 0 1 = cc in omega arith

  some_same : (x y : A) → ◌≡◌ {A = Option A} (some x) (some y) → x ≡ y
  some_same x y e = cc

  pub first_is : (R : A → A → Type 0) (p : A → Bool) (xs : List A) (a : A) → Sorted R xs → first_that p xs ≡ some a → First R p xs a
  first_is R p [] a s e = absurd (none_some a e)
  first_is R p (x ∷ xs) a s e = step (p x) refl e (first_is R p xs a s.1)
    where
      step : (b : Bool) → p x ≡ b → cond b (some x) (first_that p xs) ≡ some a → (first_that p xs ≡ some a → First R p xs a) → First R p (x ∷ xs) a
      step true t f r =
          let q : x ≡ a = some_same x a f in
          record {
            member = inl (sym q);
            passes = rw (← q) t;
            least = λ y m v. elim m [ inl i ↦ inl (i ∙ q) | inr i ↦ inr (rw (← q) (s.0 y i)) ];
          }
      step false t f r =
          let g : First R p xs a = r f in
          record {
            member = inr g.member;
            passes = g.passes;
            least = λ y m v. elim m [ inl i ↦ absurd (false≢true (sym t ∙ ap p (sym i) ∙ v)) | inr i ↦ g.least y i v ];
          }

  -- where there is none, no entry passes; where some entry passes, there is a first
  pub none_passes : (p : A → Bool) (xs : List A) → first_that p xs ≡ none → (y : A) → Mem y xs → p y ≡ true → ⊥
  none_passes p [] e y m v = m
  none_passes p (x ∷ xs) e y m v = step (p x) refl e m (none_passes p xs)
    where
      step : (b : Bool) → p x ≡ b → cond b (some x) (first_that p xs) ≡ none → Mem y (x ∷ xs) → (first_that p xs ≡ none → (z : A) → Mem z xs → p z ≡ true → ⊥) → ⊥
      step true t f n r = none_some x (sym f)
      step false t f (inl i) r = false≢true (sym t ∙ ap p (sym i) ∙ v)
      step false t f (inr i) r = r f y i v

  -- no entry, or one
  pub found_or_none : (o : Option A) → (o ≡ none) ⊎ ((a : A) × (o ≡ some a))
  found_or_none none = inl refl
  found_or_none (some a) = inr (a, refl)

module _ {A B : Type 0} where
  -- the first for which f gives something: it stands in the list, f gives b for it, and every other for which f gives something comes later
  pub record FirstGiven (R : A → A → Type 0) (f : A → Option B) (xs : List A) (b : B) : Type 0 where
    pub from : A
    pub member : Mem from xs
    pub given : f from ≡ some b
    pub least : (y : A) → Mem y xs → (c : B) → f y ≡ some c → (y ≡ from) ⊎ R from y

  pub first_given_lem : (R : A → A → Type 0) (f : A → Option B) (xs : List A) (b : B) → Sorted R xs → first_given f xs ≡ some b → FirstGiven R f xs b
  unfolding or_else
  first_given_lem R f [] b s e = absurd (none_some b e)
  first_given_lem R f (x ∷ xs) b s e = step (f x) refl e (first_given_lem R f xs b s.1)
    where
      step : (o : Option B) → f x ≡ o → or_else o (first_given f xs) ≡ some b → (first_given f xs ≡ some b → FirstGiven R f xs b) → FirstGiven R f (x ∷ xs) b
      step (some c) t g r =
          record { from = x; member = inl refl; given = t ∙ g; least = λ y m d v. elim m [ inl i ↦ inl i | inr i ↦ inr (s.0 y i) ] }
      step none t g r =
          let k : FirstGiven R f xs b = r g in
          record {
            from = k.from;
            member = inr k.member;
            given = k.given;
            least = λ y m d v. elim m [ inl i ↦ absurd (none_some d (sym t ∙ ap f (sym i) ∙ v)) | inr i ↦ k.least y i d v ];
          }

  -- where there is none, f gives nothing for any entry
  pub none_given : (f : A → Option B) (xs : List A) → first_given f xs ≡ none → (y : A) → Mem y xs → f y ≡ none
  unfolding or_else
  none_given f [] e y m = absurd m
  none_given f (x ∷ xs) e y m = step (f x) refl e m (none_given f xs)
    where
      step : (o : Option B) → f x ≡ o → or_else o (first_given f xs) ≡ none → Mem y (x ∷ xs) → (first_given f xs ≡ none → (z : A) → Mem z xs → f z ≡ none) → f y ≡ none
      step (some c) t g n r = absurd (none_some c (sym g))
      step none t g (inl i) r = ap f i ∙ t
      step none t g (inr i) r = r g y i

  pub mem_map : (f : A → B) (a : A) (xs : List A) → Mem a xs → Mem (f a) (map f xs)
  mem_map f a [] m = absurd m
  mem_map f a (x ∷ xs) (inl e) = inl (ap f e)
  mem_map f a (x ∷ xs) (inr m) = inr (mem_map f a xs m)

  pub map_mem : (f : A → B) (b : B) (xs : List A) → Mem b (map f xs) → (a : A) × Mem a xs × (b ≡ f a)
  map_mem f b [] m = absurd m
  map_mem f b (x ∷ xs) (inl e) = (x, inl refl, e)
  map_mem f b (x ∷ xs) (inr m) = let r : (a : A) × Mem a xs × (b ≡ f a) = map_mem f b xs m in (r.0, inr r.1, r.2)

  pub mem_each : (f : A → List B) (a : A) (b : B) (xs : List A) → Mem a xs → Mem b (f a) → Mem b (each xs f)
  mem_each f a b [] m n = absurd m
  mem_each f a b (x ∷ xs) (inl e) n = mem_left b (f x) (each xs f) (subst (λ (z : A). Mem b (f z)) e n)
  mem_each f a b (x ∷ xs) (inr m) n = mem_right b (f x) (each xs f) (mem_each f a b xs m n)

  pub each_mem : (f : A → List B) (b : B) (xs : List A) → Mem b (each xs f) → (a : A) × Mem a xs × Mem b (f a)
  each_mem f b [] m = absurd m
  each_mem f b (x ∷ xs) m = step (mem_either b (f x) (each xs f) m) (each_mem f b xs)
    where
      step : Mem b (f x) ⊎ Mem b (each xs f) → (Mem b (each xs f) → (a : A) × Mem a xs × Mem b (f a)) → (a : A) × Mem a (x ∷ xs) × Mem b (f a)
      step (inl n) r = (x, inl refl, n)
      step (inr n) r = let q : (a : A) × Mem a xs × Mem b (f a) = r n in (q.0, inr q.1, q.2)

  pub sorted_map : (R : A → A → Type 0) (S : B → B → Type 0) (f : A → B) → ((x y : A) → R x y → S (f x) (f y)) → (xs : List A) → Sorted R xs → Sorted S (map f xs)
  sorted_map R S f h [] s = tt
  sorted_map R S f h (x ∷ xs) s = (
    λ y m. let q : (a : A) × Mem a xs × (y ≡ f a) = map_mem f y xs m in rw q.2 (h x q.0 (s.0 q.0 q.1)),
    sorted_map R S f h xs s.1,
  )

  pub sorted_each : (R : A → A → Type 0) (S : B → B → Type 0) (f : A → List B) (xs : List A) → Sorted R xs → ((x : A) → Mem x xs → Sorted S (f x)) → ((x y : A) → Mem x xs → Mem y xs → R x y → (u v : B) → Mem u (f x) → Mem v (f y) → S u v) → Sorted S (each xs f)
  sorted_each R S f [] s t h = tt
  sorted_each R S f (x ∷ xs) s t h =
      sorted_append S (f x) (each xs f) (t x (inl refl))
      (sorted_each R S f xs s.1 (λ z m. t z (inr m)) (λ a b k l r. h a b (inr k) (inr l) r))
      (λ u v k l. let q : (a : A) × Mem a xs × Mem v (f a) = each_mem f v xs l in h x q.0 (inl refl) (inr q.1) (s.0 q.0 q.1) u v k q.2)
