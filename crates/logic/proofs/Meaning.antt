-- The codes of terms under a structure: a term's code is its symbol's table at the codes of its arguments, it lies in range, and codes
-- with this property are the structure's own.
use Prim.Native.Nat.{ℕ, zero, suc, ◌+◌, ◌≤◌, ◌<◌}
use mathlib.Core.Path.{◌≡◌, refl, ap, ap₂, sym, ◌∙◌, subst}
use mathlib.Core.List.{List, [], ◌∷◌, ◌++◌, map}
use lib.ListN.{length, get_or, length-append, length-map, get_or-append}
use lib.Seq.{get_or-append_seam}
use native.Mathlib.Omega.{arith}
use Rattle.prelude.proofs.Lists.{map_each}
use Rattle.logic.specs.Sheet.{Sheet, Term, symbol_at, term_at, sort_at, no_term}
use Rattle.prelude.specs.Tests.{Each}
use Rattle.prelude.specs.Lists.{at}
use Rattle.logic.specs.WellFormed.{WellFormed}
use Rattle.logic.specs.Structure.{Structure, InSorts, Interprets, codes_from, codes, code}

abbrev table_at : Structure → List ℕ → Term → ℕ
table_at M cs t = M.table t.symbol (map (at cs) t.args)

length_codes_from : (M : Structure) (cs : List ℕ) (ts : List Term) → length (codes_from M cs ts) ≡ length cs + length ts
length_codes_from M cs [] = omega arith
length_codes_from M cs (t ∷ ts) =
    length_codes_from M (cs ++ (table_at M cs t ∷ [])) ts ∙ omega (arith, length-append cs (table_at M cs t ∷ []))

pub length_codes : (M : Structure) (sh : Sheet) → length (codes M sh) ≡ length sh.terms
unfolding codes
length_codes M sh = length_codes_from M [] sh.terms ∙ omega arith

codes_from_keeps : (M : Structure) (cs : List ℕ) (ts : List Term) (j : ℕ) → j < length cs → at (codes_from M cs ts) j ≡ at cs j
codes_from_keeps M cs [] j h = refl
codes_from_keeps M cs (t ∷ ts) j h =
    codes_from_keeps M (cs ++ (table_at M cs t ∷ [])) ts j (omega (arith, length-append cs (table_at M cs t ∷ [])))
    ∙ get_or-append cs (table_at M cs t ∷ []) 0 j h

codes_from_at : (M : Structure) (cs : List ℕ) (ts : List Term) (k n : ℕ) → k < length ts → n ≡ length cs + k → Each (λ a. a < n) (get_or ts k no_term).args → at (codes_from M cs ts) n ≡ table_at M (codes_from M cs ts) (get_or ts k no_term)
codes_from_at M cs [] k n h e l = absurd (omega arith)
codes_from_at M cs (t ∷ ts) zero n h e l =
    let next : List ℕ = cs ++ (table_at M cs t ∷ []) in
    let all : List ℕ = codes_from M next ts in
    let m : n ≡ length cs = omega arith in
    ap (at all) m
    ∙ codes_from_keeps M next ts (length cs) (omega (arith, length-append cs (table_at M cs t ∷ [])))
    ∙ get_or-append_seam cs (table_at M cs t) [] 0
    ∙ ap (M.table t.symbol) (map_each (at cs) (at all) (λ a. a < n) (λ a b. sym (codes_from_keeps M cs (t ∷ ts) a (omega arith))) t.args l)
codes_from_at M cs (t ∷ ts) (suc k) n h e l =
    codes_from_at M (cs ++ (table_at M cs t ∷ [])) ts k n (omega arith) (omega (arith, length-append cs (table_at M cs t ∷ []))) l

-- a term's code is what its symbol's table holds at the codes of its arguments
pub code_is : (M : Structure) (sh : Sheet) → WellFormed sh → (i : ℕ) → i < length sh.terms → code M sh i ≡ M.table (term_at sh i).symbol (map (code M sh) (term_at sh i).args)
unfolding codes
code_is M sh w i h = codes_from_at M [] sh.terms i i h (omega arith) (w.args i h)

args_in_sorts : (size c sort : ℕ → ℕ) (i : ℕ) → ((a : ℕ) → a < i → c a < size (sort a)) → (l : List ℕ) → Each (λ a. a < i) l → InSorts size (map sort l) (map c l)
args_in_sorts size c sort i h [] e = tt
args_in_sorts size c sort i h (a ∷ l) e = (h a e.0, args_in_sorts size c sort i h l e.1)

-- a term has at most two arguments
pub few_arguments : (sh : Sheet) → WellFormed sh → (i : ℕ) → i < length sh.terms → length (term_at sh i).args ≤ 2
few_arguments sh w i h =
    omega (arith, length-map (term_at sh i).args (sort_at sh), ap length (w.arg_sorts i h), w.arity (term_at sh i).symbol (w.symbol i h))

-- what holds of the codes below a sort's size holds of the argument codes of a symbol that takes one argument, of this sort
pub of_one_argument : (size : ℕ → ℕ) (s : ℕ) (params : List ℕ) → params ≡ s ∷ [] → (P : List ℕ → Type 0) → ((x : ℕ) → x < size s → P (x ∷ [])) → (xs : List ℕ) → InSorts size params xs → P xs
of_one_argument size s params e P h xs i = step xs (subst (λ (ss : List ℕ). InSorts size ss xs) e i)
  where
    step : (ys : List ℕ) → InSorts size (s ∷ []) ys → P ys
    step [] j = absurd j
    step (y ∷ []) j = h y j.0
    step (y ∷ z ∷ ys) j = absurd j.1

-- the codes of a term's arguments lie in the sorts that its symbol takes, where the codes of earlier terms are in range
pub arguments_in_sorts : (sh : Sheet) → WellFormed sh → (size c : ℕ → ℕ) (i : ℕ) → i < length sh.terms → ((a : ℕ) → a < i → c a < size (sort_at sh a)) → InSorts size (symbol_at sh (term_at sh i).symbol).params (map c (term_at sh i).args)
arguments_in_sorts sh w size c i h below =
    subst (λ (ps : List ℕ). InSorts size ps (map c (term_at sh i).args)) (w.arg_sorts i h)
    (args_in_sorts size c (sort_at sh) i below (term_at sh i).args (w.args i h))

below_to : (M : Structure) (sh : Sheet) → WellFormed sh → Interprets M sh → (n i : ℕ) → i < n → i < length sh.terms → code M sh i < M.size (sort_at sh i)
below_to M sh w m zero i b h = absurd (omega arith)
below_to M sh w m (suc n) i b h =
    rw (code_is M sh w i h)
    (m.complete (term_at sh i).symbol (w.symbol i h) (map (code M sh) (term_at sh i).args)
    (arguments_in_sorts sh w M.size (code M sh) i h (λ a l. below_to M sh w m n a (omega arith) (omega arith))))

-- a term's code is below the size of its sort
pub code_below : (M : Structure) (sh : Sheet) → WellFormed sh → Interprets M sh → (i : ℕ) → i < length sh.terms → code M sh i < M.size (sort_at sh i)
code_below M sh w m i h = below_to M sh w m (suc i) i (omega arith) h

-- same symbol and equal argument codes give equal codes
pub code_congruent : (M : Structure) (sh : Sheet) → WellFormed sh → (i j : ℕ) → i < length sh.terms → j < length sh.terms → (term_at sh i).symbol ≡ (term_at sh j).symbol → map (code M sh) (term_at sh i).args ≡ map (code M sh) (term_at sh j).args → code M sh i ≡ code M sh j
code_congruent M sh w i j h k p q = code_is M sh w i h ∙ ap₂ M.table p q ∙ sym (code_is M sh w j k)

own_to : (M : Structure) (sh : Sheet) → WellFormed sh → (c : ℕ → ℕ) → ((i : ℕ) → i < length sh.terms → c i ≡ M.table (term_at sh i).symbol (map c (term_at sh i).args)) → (n i : ℕ) → i < n → i < length sh.terms → code M sh i ≡ c i
own_to M sh w c held zero i b h = absurd (omega arith)
own_to M sh w c held (suc n) i b h =
    code_is M sh w i h
    ∙ ap (M.table (term_at sh i).symbol)
    (map_each (code M sh) c (λ a. a < i) (λ a l. own_to M sh w c held n a (omega arith) (omega arith)) (term_at sh i).args (w.args i h))
    ∙ sym (held i h)

-- codes that the tables hold at their arguments' codes are the structure's own
pub codes_own : (M : Structure) (sh : Sheet) → WellFormed sh → (c : ℕ → ℕ) → ((i : ℕ) → i < length sh.terms → c i ≡ M.table (term_at sh i).symbol (map c (term_at sh i).args)) → (i : ℕ) → i < length sh.terms → code M sh i ≡ c i
codes_own M sh w c held i h = own_to M sh w c held (suc i) i (omega arith) h
