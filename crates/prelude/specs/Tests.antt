-- The interface: tests on numbers and lists, and what they decide.
use Rattle.std.specs.Prelude.{ℕ, zero, suc, ◌≤◌, ◌≡◌, Bool, true, false, ◌&&◌, List, [], ◌∷◌, leb, eqb}

-- the answer to the question whether A holds
pub record Decides (answer : Bool) (A : Type 0) : Type 0 where
  pub yes : answer ≡ true → A
  pub no : answer ≡ false → A → ⊥

-- a number from lo to hi
abbrev pub Within : ℕ → ℕ → ℕ → Type 0
Within lo hi n = (lo ≤ n) × (n ≤ hi)

abbrev pub within : ℕ → ℕ → ℕ → Bool
within lo hi n = leb lo n && leb n hi

-- p holds of each entry of a list; every entry passes a test
abbrev pub Each : (ℕ → Type 0) → List ℕ → Type 0
Each p [] = Unit
Each p (x ∷ xs) = p x × Each p xs

abbrev pub all : (ℕ → Bool) → List ℕ → Bool
all p [] = true
all p (x ∷ xs) = p x && all p xs

-- every number below n passes the test
abbrev pub every : ℕ → (ℕ → Bool) → Bool
every zero p = true
every (suc n) p = every n p && p n

-- two lists are the same
abbrev pub same_list : List ℕ → List ℕ → Bool
same_list [] [] = true
same_list [] (y ∷ ys) = false
same_list (x ∷ xs) [] = false
same_list (x ∷ xs) (y ∷ ys) = eqb x y && same_list xs ys
