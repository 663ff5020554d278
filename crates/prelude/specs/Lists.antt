-- The interface: lists of numbers: an entry, a run of numbers, the first values of a function and their sum, a buffer with bytes in front; and lists
-- one after the other.
use Rattle.std.specs.Prelude.{ℕ, zero, suc, ◌+◌, List, [], ◌∷◌, ◌++◌, length, drop, get_or}

-- what stands in a list at a place, 0 past its end
abbrev pub at : List ℕ → ℕ → ℕ
at l i = get_or l i 0

-- the numbers least, least + 1, .. , as many of them as said
abbrev pub run : ℕ → ℕ → List ℕ
run least zero = []
run least (suc many) = least ∷ run (suc least) many

-- f 0, f 1, .. , f (n - 1)
abbrev pub firsts : ℕ → (ℕ → ℕ) → List ℕ
firsts zero f = []
firsts (suc n) f = firsts n f ++ (f n ∷ [])

-- f 0 + f 1 + .. + f (n - 1)
abbrev pub sum_to : ℕ → (ℕ → ℕ) → ℕ
sum_to zero f = 0
sum_to (suc n) f = sum_to n f + f n

-- a buffer with new bytes in front; the bytes behind them are untouched
abbrev pub fronted : List ℕ → List ℕ → List ℕ
fronted new buffer = new ++ drop (length new) buffer

-- the lists h 0, h 1, .. , h (n - 1), one after the other
abbrev pub collect : {A : Type 0} → ℕ → (ℕ → List A) → List A
collect zero h = []
collect (suc n) h = collect n h ++ h n
